use Rattle.prem_sound.proofs.ScriptLemmas.Pieces.{pieces_join, stretches_keep, memory_begins, calls_keep, marks_join, marks_rest, dues_join, calls_are_due_before}
use Rattle.prem_sound.proofs.script.pieces_keep_calls.Goals as goal

pub returns-clause-join : goal.returns-clause-join
returns-clause-join c = pieces_join

pub returns-clause-stretches : goal.returns-clause-stretches
returns-clause-stretches c = stretches_keep

pub returns-clause-memory : goal.returns-clause-memory
returns-clause-memory c = memory_begins

pub returns-clause-calls : goal.returns-clause-calls
returns-clause-calls c = calls_keep

pub returns-clause-marks : goal.returns-clause-marks
returns-clause-marks c = marks_join

pub returns-clause-no_marks : goal.returns-clause-no_marks
returns-clause-no_marks c = marks_rest

pub returns-clause-dues : goal.returns-clause-dues
returns-clause-dues c = dues_join

pub returns-clause-call_dues : goal.returns-clause-call_dues
returns-clause-call_dues c = calls_are_due_before
