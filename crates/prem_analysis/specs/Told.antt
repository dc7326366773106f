-- What is told of the first broken rule on ranges.
use Rattle.std.specs.Prelude.{◌≡◌, ◌<◌, ◌^◌, ℕ, All, List, Option, None, Some, Result, Ok, Err, Vec}
use Rattle.prem_analysis.specs.Prelude.{RangeRule, LoopBound, TooLarge, ZeroDivisor, IndexOutside, RegionOutside, ArgRange, RangeBreach, first_range_breach, turn_bounds, StaysInRange}
use Rattle.prem_analysis.specs.Prelude.{ProgramText, program_of, checked_program, Checked, span_of, option_map}
use Rattle.prem_analysis.specs.Analysed.{analysed_checked}
use Rattle.prem_analysis.specs.declared.analysed.Analysed.{Analysed}
use Rattle.prem_analysis.specs.declared.fail.RangeFail.{RangeFail}
use Rattle.std.specs.Global.{Global}
use Rattle.prem_analysis.specs.declared.fail.RangeFail.TheVariants as f

-- a rule with its ranges and names, and the line where it is broken
pub record Told : Type 0 where
  pub line : ℕ
  pub rule : RangeRule

-- what is told of a breach: not its column
abbrev pub told_of : RangeBreach → Told
told_of b = record { line = b.at.line; rule = b.rule }

abbrev pub at_line : ℕ → RangeRule → Option Told
at_line line rule = Some (record { line = line; rule = rule })

-- what a refusal tells
abbrev pub said : RangeFail → Option Told
said (f.LoopBound line) = at_line line LoopBound
said (f.TooLarge line) = at_line line TooLarge
said (f.ZeroDivisor line range) = at_line line (ZeroDivisor (span_of range))
said (f.IndexOutside line range len) = at_line line (IndexOutside (span_of range) len)
said (f.RegionOutside line function range global) = at_line line (RegionOutside function (span_of range) global)
said (f.ArgRange line range stated) = at_line line (ArgRange (span_of range) (span_of stated))
said f.OutOfMemory = None

-- a refusal tells of the first breach, where there is one; that memory is out says nothing
abbrev pub IsRefusal : RangeFail → Option RangeBreach → Type 0
IsRefusal f.OutOfMemory first = Unit {0}
IsRefusal fail first = said fail ≡ option_map told_of first

-- an answer is right: the program where it breaks no rule on ranges, else a refusal with the first one
abbrev pub IsAnswer : Checked → Result Analysed RangeFail → Type 0
IsAnswer c (Ok a) = (analysed_checked a ≡ c) × StaysInRange (program_of (checked_program c))
IsAnswer c (Err fail) = IsRefusal fail (first_range_breach (program_of (checked_program c)))

-- turn bounds are those of a program that breaks no rule on ranges, each a word, or a refusal with the first one
pub record HasBounds (p : ProgramText) (turns : List ℕ) : Type 0 where
  pub turns_are : turns ≡ turn_bounds p
  pub words : All (λ t. t < 2 ^ 32) turns
  pub stays : StaysInRange p

abbrev pub AreBounds : ProgramText → Result (Vec ℕ Global) RangeFail → Type 0
AreBounds p (Ok turns) = HasBounds p turns.items
AreBounds p (Err fail) = IsRefusal fail (first_range_breach p)
