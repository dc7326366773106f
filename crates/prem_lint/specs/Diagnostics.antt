-- A broken rule at its place, and its text.
use Rattle.std.specs.Prelude.{ℕ, List, ◌++◌, codes}
use Rattle.prem_syntax.specs.Syntax.{Text}
use Rattle.prem_tasks.specs.Told.{Told, told_of}
use Rattle.prem_lint.specs.declared.spot.Spot.{Spot}
use Rattle.prem_lint.specs.declared.diagnostic.Diagnostic.{Diagnostic as DiagnosticTree}
use Rattle.prem_lint.specs.Spots.{head, marked, rest_at}
use Rattle.prem_lint.specs.Messages.{message, advice}

-- a broken rule with its data, and where in which file it is broken; what the file holds
pub record Diagnostic : Type 0 where
  pub file : Text
  pub source : List ℕ
  pub spot : Spot
  pub rule : Told

-- one in memory as plain data
abbrev pub diagnostic_of : DiagnosticTree → Diagnostic
diagnostic_of d = record { file = d.file.now; source = d.source.now; spot = d.spot; rule = told_of d.rule.now }

-- FILE:LINE:COLUMN: error: .., the line, and a mark under it
abbrev pub error_text : Diagnostic → List ℕ
error_text d = head d.file d.spot ++ (codes "error: " ++ (message d.rule (rest_at d.spot d.source) ++ (codes "\n" ++ marked d.spot d.source)))

-- FILE:LINE:COLUMN: note: .., what to do
abbrev pub note_text : Diagnostic → List ℕ
note_text d = head d.file d.spot ++ (codes "note: " ++ (advice d.rule ++ codes "\n"))

abbrev pub diagnostic_text : Diagnostic → List ℕ
diagnostic_text d = error_text d ++ note_text d
