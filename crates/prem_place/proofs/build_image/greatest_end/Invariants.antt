use Rattle.std.proofs.Common.{◌≡◌, take}
use Rattle.prem_layout.specs.Image.{greatest_end}
use Rattle.prem_place.proofs.build_image.greatest_end.Given as goal

abbrev pub invariant-loop-n : goal.invariant-loop-n
invariant-loop-n l = l.greatest ≡ greatest_end (take l.n l.layout)
