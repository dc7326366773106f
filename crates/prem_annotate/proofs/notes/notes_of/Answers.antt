use Rattle.prem_annotate.proofs.Prelude.{all_ranged, program_of}
use Rattle.prem_annotate.proofs.notes.notes_of.Goals as goal

pub notes_of_resolved-requires : goal.notes_of_resolved-requires
notes_of_resolved-requires c = all_ranged c.in_ok-resolved.resolved (program_of c.program-program.result.now) c.in_ok-resolved.ensures c.program-program.ensures.well_formed c.have_words.ensures
