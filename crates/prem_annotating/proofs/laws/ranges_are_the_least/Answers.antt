use Rattle.prem_annotating.proofs.Calls.{new_ranges_hold}
use Rattle.prem_annotating.proofs.Ranges.{ranges_are_inferred, ranges_are_least}
use Rattle.prem_annotating.proofs.laws.ranges_are_the_least.Goals as goal

pub returns : goal.returns
returns c = record { inferred = ranges_are_inferred; least = ranges_are_least; calls = new_ranges_hold }
