use Rattle.std.specs.List.{AllByRecursion}
use Rattle.std.proofs.Common.{ℕ, List, ◌≤◌, ◌+◌, ◌^◌, ◌++◌, ◌∷◌, [], ap, sym, subst, ◌∙◌, map, drop, get_or}
use Rattle.prem_list.specs.Sequence.{items_of}
use Rattle.prem_place.specs.Placed.PlacedOf.{placed_of}
use Rattle.prem_wcet.specs.Times.{closed_by}
use Rattle.prem_wcet.proofs.Turns.{all_end, drop_next, put_behind}
use Rattle.prem_wcet.proofs.timed.closed_of.Goals as goal

pub loop-top-preserved : goal.loop-top-preserved
loop-top-preserved c =
    let f = closed_by c.args.p.now (placed_of c.args.t.now) in
    let tops = c.args.tops.now in
    let k = c.loop-top.top-index in
    let old = items_of c.loop-top.all in
    let pushed = c.in_ok-push.ensures.ok ∙ ap (λ y. old ++ y ∷ []) c.in_ok-closed.ensures.closed in
    record {
      closed =
          put_behind old (items_of c.push.new.self) (map f (drop (k + 1) tops)) (map f tops) (f (get_or tops k 0)) pushed
          (ap (λ xs. old ++ map f xs) (sym (drop_next 0 tops k c.loop-top-test.true)) ∙ c.loop-top.invariant.closed);
      small = subst (λ (xs : List ℕ). AllByRecursion (λ n. n ≤ 2 ^ 40) xs) (sym c.in_ok-push.ensures.ok)
          (all_end (λ n. n ≤ 2 ^ 40) old c.in_ok-closed.closed c.loop-top.invariant.small c.in_ok-closed.ensures.small);
    }
