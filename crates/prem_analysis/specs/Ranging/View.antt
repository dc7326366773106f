-- What ranges and environments in memory stand for.
use Rattle.prem_analysis.specs.Prelude.{Known, Environment, RangeRule, LoopBound, TooLarge, ZeroDivisor, IndexOutside, RegionOutside, ArgRange, RangeBreach, Span, from_to, option_map, List}
use Rattle.prem_analysis.specs.Prelude.{map, Option}
use Rattle.prem_analysis.specs.declared.ranging.found.Broken.{Broken}
use Rattle.prem_analysis.specs.declared.ranging.found.Known.{Known as KnownTree}
use Rattle.prem_analysis.specs.declared.ranging.found.Rule.{Rule}
use Rattle.prem_analysis.specs.declared.ranging.found.Rule.TheVariants.{LoopBound as LoopBoundTree, TooLarge as TooLargeTree, ZeroDivisor as ZeroDivisorTree}
use Rattle.prem_analysis.specs.declared.ranging.found.Rule.TheVariants.{IndexOutside as IndexOutsideTree, RegionOutside as RegionOutsideTree, ArgRange as ArgRangeTree}
use Rattle.prem_analysis.specs.declared.ranging.range.Range.{Range}
use Rattle.prem_analysis.specs.declared.ranging.saves.Saved.{Saved as SavedTree}
use Rattle.prem_ranges.specs.Saves.Saves.{Saved}
use Rattle.prem_word.specs.declared.range.Range.{Range as Row}

abbrev pub span_of : Range → Span
span_of r = from_to r.lo r.hi

-- of a range as the table has it
abbrev pub row_span : Row → Span
row_span r = from_to r.lo r.hi

abbrev pub known_of : KnownTree → Known
known_of l = record { kind = l.kind; range = span_of l.range }

abbrev pub env_of : List KnownTree → Environment
env_of ls = map known_of ls

abbrev pub saved_of : SavedTree → Saved
saved_of s = record { number = s.number; known = known_of s.known }

abbrev pub saves_of : List SavedTree → List Saved
saves_of ss = map saved_of ss

abbrev pub rule_of : Rule → RangeRule
rule_of LoopBoundTree = LoopBound
rule_of TooLargeTree = TooLarge
rule_of (ZeroDivisorTree range) = ZeroDivisor (span_of range)
rule_of (IndexOutsideTree range len) = IndexOutside (span_of range) len
rule_of (RegionOutsideTree function range global) = RegionOutside function (span_of range) global
rule_of (ArgRangeTree range stated) = ArgRange (span_of range) (from_to stated.0 stated.1)

abbrev pub breach_of : Broken → RangeBreach
breach_of b = record { at = b.at; rule = rule_of b.rule }

abbrev pub found_of : Option Broken → Option RangeBreach
found_of o = option_map breach_of o
