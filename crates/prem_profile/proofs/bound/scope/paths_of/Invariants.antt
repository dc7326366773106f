use Rattle.std.proofs.Common.{◌≡◌, length, drop, map, []}
use Rattle.prem_layout.specs.Footprint.{place_at}
use Rattle.prem_wcet.specs.SceneOf.{facts_in}
use Rattle.prem_wcet_laws.specs.Scopes.{Fact}
use Rattle.prem_profile.specs.Bound.Scopes.{bills_behind, cycles_of}
use Rattle.prem_profile.specs.Bound.Priced.{bills_in, crowd_cost}
use Rattle.prem_profile.proofs.BillLemmas.Alike.{pieces_behind}
use Rattle.prem_profile.proofs.bound.scope.paths_of.Given as goal

-- what is left gives what all give
abbrev pub invariant-loop-n : goal.invariant-loop-n
invariant-loop-n l = record {
  long : length (bills_in l.all.bills.items) ≡ l.n;
  told : l.all.cycles.items ≡ cycles_of (bills_in l.all.bills.items);
  rest : pieces_behind (crowd_cost l.crowd) (length l.scene.code.now) (λ part. (place_at l.scene.places.now part).0) (bills_in l.all.bills.items)
      (drop l.n (map (λ (f : Fact). f.pieces) (facts_in l.scene.facts.now l.scene.code.now)))
      ≡ bills_behind (crowd_cost l.crowd) (length l.scene.code.now) (λ part. (place_at l.scene.places.now part).0) [] (facts_in l.scene.facts.now l.scene.code.now);
}
