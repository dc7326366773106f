use Rattle.std.proofs.Common.{◌≡◌, [], length, drop, map, ap, sym, ◌∙◌, arith}
use Rattle.prem_layout.specs.Footprint.{place_at}
use Rattle.prem_wcet_laws.specs.Scopes.{Fact}
use Rattle.prem_wcet.specs.SceneOf.{facts_in}
use Rattle.prem_profile.specs.Bound.Scopes.{cycles_of}
use Rattle.prem_profile.specs.Bound.Priced.{bills_in, crowd_cost}
use Rattle.prem_profile.proofs.BillLemmas.Alike.{by_pieces, pieces_behind}
use Rattle.prem_profile.proofs.BillLemmas.Scopes.{next_bill, next_cycles, next_long, pieces_few}
use Rattle.prem_profile.proofs.BillLemmas.Slots.{past}
use Rattle.prem_profile.proofs.bound.scope.paths_of.Goals as goal

pub loop-n-init : goal.loop-n-init
loop-n-init c =
    let s = c.args.scene.now in
    let fs = facts_in s.facts.now s.code.now in
    let none = c.no_paths-all.ensures.bills in
    record {
      long = ap (λ bs. length (bills_in bs)) none;
      told = c.no_paths-all.ensures.cycles ∙ sym (ap (λ bs. cycles_of (bills_in bs)) none);
      rest = ap (λ bs. pieces_behind (crowd_cost c.args.crowd.now) (length s.code.now) (λ part. (place_at s.places.now part).0) (bills_in bs) (map (λ (f : Fact). f.pieces) fs)) none
          ∙ sym (by_pieces (crowd_cost c.args.crowd.now) (length s.code.now) (λ part. (place_at s.places.now part).0) fs []);
    }

pub loop-n-preserved : goal.loop-n-preserved
loop-n-preserved c =
    let s = c.args.scene.now in
    let k = crowd_cost c.args.crowd.now in
    let old = bills_in c.loop-n.all.bills.items in
    let b = c.in_ok-bill.bill.items in
    let put = c.in_ok-all.ensures.bills in
    record {
      long = next_long old _ b put c.loop-n.n c.loop-n.invariant.long;
      told = next_cycles old _ b put c.loop-n.all.cycles.items _ c.loop-n.invariant.told c.in_ok-all.ensures.cycles;
      rest = next_bill old _ b put k (length s.code.now) (λ part. (place_at s.places.now part).0) s.facts.now s.code.now c.loop-n.n c.deref.result.now _
          (omega (arith, c.loop-n-test.true)) c.requires.scene.known c.loop-n.invariant.long (c.deref.ensures.value ∙ c.loop-n.invariant.told) c.in_ok-bill.ensures c.loop-n.invariant.rest;
    }

pub returns-clause-bills : goal.returns-clause-bills
returns-clause-bills c =
    let s = c.args.scene.now in
    let fs = facts_in s.facts.now s.code.now in
    let few = pieces_few s.facts.now s.code.now in
    let none : drop c.loop-n.n (map (λ (f : Fact). f.pieces) fs) ≡ [] = past (map (λ (f : Fact). f.pieces) fs) c.loop-n.n (omega (arith, few, c.loop-n-test.false)) in
    sym (ap (pieces_behind (crowd_cost c.args.crowd.now) (length s.code.now) (λ part. (place_at s.places.now part).0) (bills_in c.loop-n.all.bills.items)) none) ∙ c.loop-n.invariant.rest

pub returns-clause-cycles : goal.returns-clause-cycles
returns-clause-cycles c = c.loop-n.invariant.told
