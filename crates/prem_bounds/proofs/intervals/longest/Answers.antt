use Rattle.std.proofs.Common.{◌≡◌, ◌<◌, ◌^◌, map, sym, ◌∙◌, arith}
use Rattle.prem_list.specs.Sequence.{items_of}
use Rattle.prem_layout.specs.Stretch.Paths.{greatest_stated, longest_of}
use Rattle.prem_split.specs.PlanOf.{plan_of}
use Rattle.prem_bounds.specs.TableOf.{table_of}
use Rattle.prem_bounds.proofs.Steps.{listed_long}
use Rattle.prem_bounds.proofs.Told.{plans_long}
use Rattle.prem_bounds.proofs.Reaches.{IsReach, longest_told}
use Rattle.prem_bounds.proofs.Under.{longest_less}
use Rattle.prem_bounds.proofs.intervals.longest.Goals as goal

pub returns-then-longest-clause-large : goal.returns-then-longest-clause-large
returns-then-longest-clause-large c =
    let r = c.reach_of-reach.ensures in
    let reach : IsReach c.args.p.now (map plan_of c.args.plans.now) (table_of c.args.code.now) c.reach_of-reach.result = record {
      access = r.access;
      other = r.other;
      count = r.count ∙ sym (listed_long (items_of c.args.code.now.code));
      stubs = r.stubs ∙ sym (plans_long c.args.plans.now);
      marked = r.marked;
      functions = r.functions;
    } in
    let told = longest_told c.args.p.now (map plan_of c.args.plans.now) (table_of c.args.code.now)
    c.reach_of-reach.result c.start_sums.result c.greatest-stretch.result c.greatest_stated-stated.result c.plus-longest.result reach
    c.start_sums.ensures c.greatest-stretch.ensures c.greatest_stated-stated.ensures.stated (omega (arith, c.plus-longest.ensures, c.from.ensures, c.max.ensures)) in
    omega (arith, told, c.if-longest.true)

pub returns-then-longest-clause-bounded : goal.returns-then-longest-clause-bounded
returns-then-longest-clause-bounded c =
    let large : 2 ^ 40 < longest_of c.args.p.now (map plan_of c.args.plans.now) (table_of c.args.code.now) = returns-then-longest-clause-large c in
    let stated : greatest_stated (map plan_of c.args.plans.now) < 2 ^ 32 = omega (arith, c.greatest_stated-stated.ensures.stated, c.greatest_stated-stated.ensures.small) in
    longest_less c.args.p.now (map plan_of c.args.plans.now) (table_of c.args.code.now) c.requires.plant.switch stated large

pub returns-else-longest-clause-longest : goal.returns-else-longest-clause-longest
returns-else-longest-clause-longest c =
    let r = c.reach_of-reach.ensures in
    let reach : IsReach c.args.p.now (map plan_of c.args.plans.now) (table_of c.args.code.now) c.reach_of-reach.result = record {
      access = r.access;
      other = r.other;
      count = r.count ∙ sym (listed_long (items_of c.args.code.now.code));
      stubs = r.stubs ∙ sym (plans_long c.args.plans.now);
      marked = r.marked;
      functions = r.functions;
    } in
    let told = longest_told c.args.p.now (map plan_of c.args.plans.now) (table_of c.args.code.now)
    c.reach_of-reach.result c.start_sums.result c.greatest-stretch.result c.greatest_stated-stated.result c.plus-longest.result reach
    c.start_sums.ensures c.greatest-stretch.ensures c.greatest_stated-stated.ensures.stated (omega (arith, c.plus-longest.ensures, c.from.ensures, c.max.ensures)) in
    omega (arith, told, c.if-longest.false)

pub returns-else-longest-clause-small : goal.returns-else-longest-clause-small
returns-else-longest-clause-small c =
    let is : c.plus-longest.result ≡ longest_of c.args.p.now (map plan_of c.args.plans.now) (table_of c.args.code.now) = returns-else-longest-clause-longest c in
    omega (arith, is, c.if-longest.false)
