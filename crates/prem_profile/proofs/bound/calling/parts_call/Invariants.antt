use Rattle.std.proofs.Common.{◌≡◌, drop}
use Rattle.prem_wcet.specs.Outlines.{code_of}
use Rattle.prem_wcet.specs.PartsOf.{parts_of}
use Rattle.prem_profile.specs.Bound.Pieces.{has_call}
use Rattle.prem_profile.proofs.bound.calling.parts_call.Given as goal

-- what is left calls a function where all do
abbrev pub invariant-parts : goal.invariant-parts
invariant-parts l = has_call (code_of (parts_of (drop l.part-index l.parts))) ≡ has_call (code_of (parts_of l.parts))
