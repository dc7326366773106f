-- What is told of full logs.
use Rattle.std.specs.Prelude.{Option, None, Some}
use Rattle.prem_layout.specs.Rules.{LateRule, Outputs, Intervals}
use Rattle.prem_place.specs.declared.totals.logs.LogRule.{LogRule}
use Rattle.prem_place.specs.declared.totals.logs.LogRule.TheVariants as r

abbrev pub told_of : Option LogRule → Option LateRule
told_of None = None
told_of (Some r.Outputs) = Some Outputs
told_of (Some r.Intervals) = Some Intervals
