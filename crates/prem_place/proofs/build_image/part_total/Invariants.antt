use Rattle.std.proofs.Common.{◌≡◌, ◌+◌, drop}
use Rattle.prem_place.specs.BuildImage.Built.{total_of}
use Rattle.prem_place.proofs.build_image.part_total.Given as goal

abbrev pub invariant-loop-n : goal.invariant-loop-n
invariant-loop-n l = l.total + total_of (drop l.n l.tasks) ≡ total_of l.tasks
