use Rattle.std.proofs.Common.{◌∙◌, map}
use Rattle.prem_tasks.specs.SetOf.{set_of}
use Rattle.prem_annotate.specs.Writing.Text.{annotated_text}
use Rattle.prem_annotate_answer.specs.Steps.{notes_in}
use Rattle.prem_annotate_answer.proofs.Stages.{formed_read, as_many_notes, noted_first}
use Rattle.prem_annotate_answer.proofs.set.unlengthened_set.Goals as goal

pub noted_set-requires-clause-read : goal.noted_set-requires-clause-read
noted_set-requires-clause-read c = formed_read (set_of c.args.set.now) c.args.programs.now c.requires.formed

pub noted_set-requires-clause-noted : goal.noted_set-requires-clause-noted
noted_set-requires-clause-noted c = as_many_notes notes_in (set_of c.args.set.now) c.args.programs.now c.args.notes.now c.requires.formed c.requires.notes

pub returns : goal.returns
returns c = c.in_ok-new.ensures ∙ noted_first annotated_text (set_of c.args.set.now) c.args.programs.now (map notes_in c.args.notes.now) c.requires.formed c.requires.notes
