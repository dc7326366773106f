-- What is told of the first broken rule.
use Rattle.std.specs.Prelude.{◌≡◌, ℕ, Option, None, Some, Result, Ok, Err}
use Rattle.std.specs.Option.{option_map}
use Rattle.prem_syntax.specs.declared.tree.Place.{Place}
use Rattle.prem_syntax.specs.declared.tree.Program.{Program}
use Rattle.prem_syntax.specs.Name.{name_bytes}
use Rattle.prem_syntax.specs.SyntaxOf.{program_of}
use Rattle.prem_syntax.specs.Rules.{Rule, Limit, NoJob, Unknown, Twice, OfTypes, CallOrder, MarkedCall, SystemCall, LoopForm, Breach}
use Rattle.prem_syntax.specs.ProgramRules.{IsWellFormed, first_breach}
use Rattle.prem_tree.specs.declared.checked.Checked.{Checked}
use Rattle.prem_tree.specs.Checked.{checked_program}
use Rattle.prem_check.specs.declared.fail.CheckFail.{CheckFail}
use Rattle.prem_check.specs.declared.fail.CheckFail.TheVariants as f

-- a rule with its name, and a line where it is broken at a place
pub record Told : Type 0 where
  pub line : Option ℕ
  pub rule : Rule

-- what is told of a breach: not its column
abbrev pub told_of : Breach → Told
told_of b = record { line = option_map (λ (at : Place). at.line) b.at; rule = b.rule }

abbrev pub at_line : ℕ → Rule → Option Told
at_line line rule = Some (record { line = Some line; rule = rule })

abbrev pub of_all : Rule → Option Told
of_all rule = Some (record { line = None; rule = rule })

-- what a refusal tells
abbrev pub said : CheckFail → Option Told
said (f.Limit which) = of_all (Limit which)
said f.NoJob = of_all NoJob
said (f.Unknown line name) = at_line line (Unknown (name_bytes name))
said (f.Twice line name) = at_line line (Twice (name_bytes name))
said (f.TypeRule line rule) = at_line line (OfTypes rule)
said (f.CallOrder line) = at_line line CallOrder
said (f.MarkedCall line) = at_line line MarkedCall
said (f.SystemCall line) = at_line line SystemCall
said (f.LoopForm line) = at_line line LoopForm
said f.OutOfMemory = None

-- a refusal tells of the first breach, where there is one; that memory is out says nothing
abbrev pub IsRefusal : CheckFail → Option Breach → Type 0
IsRefusal f.OutOfMemory first = Unit {0}
IsRefusal fail first = said fail ≡ option_map told_of first

-- an answer is right: the program where it breaks no rule, else a refusal with the first one
abbrev pub IsAnswer : Program → Result Checked CheckFail → Type 0
IsAnswer p (Ok c) = (checked_program c ≡ p) × IsWellFormed (program_of p)
IsAnswer p (Err fail) = IsRefusal fail (first_breach (program_of p))
