use Rattle.std.proofs.Common.{◌≡◌, take}
use Rattle.prem_compile.proofs.compiler.places_in.Given as goal

abbrev pub invariant-loop-n : goal.invariant-loop-n
invariant-loop-n l = l.places.items ≡ take l.n l.l
