-- What an analysed program stands for.
use Rattle.std.specs.Prelude.{◌≡◌, ℕ, List, Ok}
use Rattle.prem_analysis.specs.Prelude.{limits_of, AreWords, source_within, source, ProgramText, program_of, checked_program, Checked}
use Rattle.prem_analysis.specs.declared.analysed.Analysed.{Analysed}
use Rattle.prem_syntax.specs.Statements.{ProgramState}

abbrev pub analysed_checked : Analysed → Checked
analysed_checked a = a.checked

-- its program
abbrev pub analysed_text : Analysed → ProgramText
analysed_text a = program_of (checked_program a.checked)

-- whatever the input words and however many jobs, a run doesn't go wrong, and it keeps to the turn bounds and regions
abbrev pub NeverGoesWrong : ProgramText → Type 0
NeverGoesWrong p = (inputs : List ℕ) → AreWords inputs → (jobs : ℕ) → (s : ProgramState) × (source_within (limits_of p) p inputs jobs ≡ Ok s) × (source p inputs jobs ≡ Ok s)
