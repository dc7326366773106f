use Rattle.std.proofs.Common.{◌+◌, ◌++◌, ◌∷◌, refl, ap, sym, subst, ◌∙◌, map, drop, arith}
use Rattle.std.proofs.lemmas.List.{drop_more}
use Rattle.prem_place.specs.Placed.PlacedOf.{placed_of}
use Rattle.prem_profile.specs.Bound.Booked.{bills_from}
use Rattle.prem_profile.specs.Bound.Profile.{AreShort, joined}
use Rattle.prem_profile.proofs.BillLemmas.Pieces.{gone}
use Rattle.prem_profile.proofs.BillLemmas.Slots.{past}
use Rattle.prem_profile.proofs.bound.set.set_items.Goals as goal

pub tasks-preserved : goal.tasks-preserved
tasks-preserved c =
    let p = c.args.p.now in
    let tasks = c.args.tasks.now in
    let i = c.tasks.task-index in
    let t = c.task-item.result in
    let left = drop_more tasks i t c.tasks-test.true ∙ ap (λ x. x ∷ drop (i + 1) tasks) (sym c.task-item.is) in
    record {
      rest =
          gone _ _ _ _ _ _ _ (c.in_ok-append.ensures ∙ ap (λ x. c.tasks.bill.items ++ x) (c.deref.ensures.value ∙ c.in_ok-job.ensures.bill)) refl
          (ap (λ xs. joined (bills_from p c.tasks.k (map placed_of xs))) left) c.tasks.invariant.rest;
      place = omega (arith, c.tasks.invariant.place);
      short = λ rest. c.tasks.invariant.short (subst (λ xs. AreShort p (map placed_of xs)) (sym left) (c.in_ok-job.ensures.short, rest));
    }

pub tasks-init : goal.tasks-init
tasks-init c = record {
  rest = ap (λ b. b ++ joined (bills_from c.args.p.now 0 (map placed_of c.args.tasks.now))) c.new-bill.ensures.items;
  place = refl;
  short = λ x. x;
}

pub returns-clause-short : goal.returns-clause-short
returns-clause-short c =
    let tasks = c.args.tasks.now in
    c.tasks.invariant.short (subst (λ xs. AreShort c.args.p.now (map placed_of xs)) (sym (past tasks c.tasks.task-index (omega (arith, c.tasks-test.false)))) tt)
