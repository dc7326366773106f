use Rattle.std.proofs.Common.{◌≡◌, ◌+◌, ◌*◌, ◌++◌, drop}
use Rattle.prem_profile.specs.Bound.Pieces.{straight_bill}
use Rattle.prem_profile.specs.Bound.Priced.{cost_by}
use Rattle.prem_profile.proofs.bound.pieces.push_straight.Given as goal

-- what is there, and what is left
abbrev pub invariant-code : goal.invariant-code
invariant-code l = record {
  rest : l.bill.items ++ straight_bill (cost_by l.costing) l.end (drop l.i-index l.code) ≡ l.initial.bill.items ++ straight_bill (cost_by l.costing) l.at l.code;
  place : l.end ≡ l.at + 4 * l.i-index;
}
