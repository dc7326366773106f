use Rattle.std.proofs.Common.{◌≡◌, ◌++◌, map, drop}
use Rattle.prem_stages.specs.Stages.{checked_text}
use Rattle.prem_annotate.specs.Notes.{no_lengths, program_notes}
use Rattle.prem_annotate_answer.specs.Steps.{notes_in}
use Rattle.prem_annotate_answer.proofs.set.all_notes.Given as goal

abbrev pub invariant-loop-program : goal.invariant-loop-program
invariant-loop-program l =
    map notes_in l.all.items ++ map (program_notes no_lengths) (map checked_text (drop l.program-index l.programs)) ≡ map (program_notes no_lengths) (map checked_text l.programs)
