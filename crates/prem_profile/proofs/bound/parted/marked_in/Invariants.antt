use Rattle.std.proofs.Common.{◌≡◌, ◌≤◌, ◌+◌, drop}
use Rattle.prem_profile.specs.Bound.Memory.{marked_in}
use Rattle.prem_profile.proofs.bound.parted.marked_in.Given as goal

-- what is counted, and what is left
abbrev pub invariant-faces : goal.invariant-faces
invariant-faces l = record {
  rest : l.count + marked_in (drop l.face-index l.faces) ≡ marked_in l.faces;
  few : l.count ≤ l.face-index;
}
