use Rattle.std.proofs.Common.{List, ◌≤◌, ◌^◌, ap, sym, subst, ◌∙◌}
use Rattle.std.proofs.lemmas.List.Elements.{All-from_recursion}
use Rattle.prem_list.specs.Sequence.{items_of}
use Rattle.prem_layout.specs.Bounds.{job_bound_of}
use Rattle.prem_layout.specs.Plans.{Plan}
use Rattle.prem_bounds.specs.TableOf.{table_of}
use Rattle.prem_place.specs.Placed.PlacedOf.{placed_of}
use Rattle.prem_wcet_laws.specs.Wcet.{longest_wcet_of, wcet_of}
use Rattle.prem_wcet.proofs.Told.{stated_plans}
use Rattle.prem_wcet.proofs.timed.task_times.Goals as goal

pub times_in-requires-clause-bound : goal.times_in-requires-clause-bound
times_in-requires-clause-bound c =
    let plans = stated_plans c.args.t.now c.deref.result.now (c.deref.ensures.value ∙ c.in_ok-stated.ensures) in
    subst (λ (ps : List Plan). job_bound_of c.args.p.now ps (table_of c.args.t.now.table) ≤ 2 ^ 40) (sym plans) c.requires.task.bound

pub returns-clause-times : goal.returns-clause-times
returns-clause-times c =
    let p = c.args.p.now in
    let t = c.args.t.now in
    let plans = stated_plans t c.deref.result.now (c.deref.ensures.value ∙ c.in_ok-stated.ensures) in
    λ i. record {
      wcet = (c.in_ok-times.ensures.wcet ∙ ap (λ ps. wcet_of p ps (placed_of t).task.program t.places) plans) i;
      longest = (c.in_ok-times.ensures.longest ∙ ap (λ ps. longest_wcet_of p ps (placed_of t).task.program t.places) plans) i;
      intervals = c.in_ok-intervals.ensures i;
      closed = c.in_ok-closed.ensures.closed i;
    }

pub returns-clause-small : goal.returns-clause-small
returns-clause-small c = record {
  some = c.in_ok-times.ensures.some;
  wcet = c.in_ok-times.ensures.small;
  longest = c.in_ok-times.ensures.reach;
  closed = All-from_recursion (λ n. n ≤ 2 ^ 40) (items_of c.in_ok-closed.closed) c.in_ok-closed.ensures.small;
}
