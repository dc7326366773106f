use Rattle.std.proofs.Common.{◌≡◌, ◌<◌, List, [], length, ap, subst, ◌∙◌, arith}
use Rattle.prem_list.specs.Sequence.{items_of}
use Rattle.prem_layout.specs.Plans.{Plan}
use Rattle.prem_place.specs.Placed.PlacedOf.{coded_of, plans_of}
use Rattle.prem_wcet_laws.specs.Wcet.{scene_of, stack_of}
use Rattle.prem_wcet.specs.KnownOf.{AreKnown, IsNextFact, faces_in}
use Rattle.prem_wcet.specs.Lengths.{stated_in}
use Rattle.prem_wcet.proofs.NextFacts.{all_known, known_more, known_none}
use Rattle.prem_wcet.proofs.Shorter.{with_stated}
use Rattle.prem_profile.specs.Bound.Tasks.{bills_of, stubs_of}
use Rattle.prem_profile.specs.Bound.Memory.{IsNextCall, calls_of}
use Rattle.prem_profile.proofs.BillLemmas.Known.{all_billed, billed_more, billed_none, stated_long}
use Rattle.prem_profile.proofs.bound.task.billed_of.Goals as goal

pub loop-n-init : goal.loop-n-init
loop-n-init c =
    let t = c.args.t.now in
    record {
      inside = omega arith;
      faces = c.in_ok-faces.ensures ∙ (λ i. faces_in (c.items.ensures i) ((c.deref.ensures.value ∙ c.in_ok-lengths.ensures) i));
      known = known_none c.args.p.now t (stated_in t) c.requires.whole (stated_long t) c.new.result.items c.new.ensures.items;
      calls = billed_none c.args.p.now t c.args.task (stated_in t) c.requires.whole (stated_long t) c.new-2.result.items c.new-2.ensures.items;
    }

pub loop-n-preserved : goal.loop-n-preserved
loop-n-preserved c =
    let p = c.args.p.now in
    let t = c.args.t.now in
    let n = c.loop-n._n in
    let facts = c.loop-n.billed.known.facts.items in
    let known = c.loop-n.invariant.known in
    let lt : n < length (items_of t.table.code) = omega (arith, c.loop-n-test.true, ap length c.items-n-end.ensures) in
    record {
      inside = omega (arith, lt);
      faces = c.in_ok-billed.ensures.faces ∙ c.loop-n.invariant.faces;
      known =
          known_more p t (stated_in t) c.requires.whole (stated_long t) n facts c.in_ok-billed.billed.known.facts.items c.in_ok-fact.fact
          c.loop-n.billed.known.costs c.in_ok-billed.billed.known.costs c.next_cost-cost.result lt known
          (subst (λ faces. IsNextFact p t faces facts c.in_ok-fact.fact) c.loop-n.invariant.faces c.in_ok-fact.ensures)
          c.next_cost-cost.ensures c.in_ok-billed.ensures.facts c.in_ok-billed.ensures.costs;
      calls =
          billed_more p t c.args.task (stated_in t) c.requires.whole (stated_long t) n facts c.loop-n.billed.calls.items c.in_ok-billed.billed.calls.items c.in_ok-call.call known.long lt known.rows
          (subst (λ faces. IsNextCall p t c.args.task faces facts (calls_of c.loop-n.billed.calls.items) c.in_ok-call.call) c.loop-n.invariant.faces c.in_ok-call.ensures)
          c.in_ok-billed.ensures.calls c.loop-n.invariant.calls;
    }

pub returns-clause-known : goal.returns-clause-known
returns-clause-known c =
    let p = c.args.p.now in
    let t = c.args.t.now in
    let n_is : c.loop-n._n ≡ length (items_of t.table.code) = omega (arith, c.loop-n.invariant.inside, c.loop-n-test.false, ap length c.items-n-end.ensures) in
    subst (λ (plans : List Plan). AreKnown p plans (coded_of t).program t.places (items_of t.table.code) c.loop-n.billed.known.facts.items c.loop-n.billed.known.costs) (with_stated (plans_of t))
    (all_known p t (stated_in t) c.requires.whole (stated_long t) c.loop-n._n c.loop-n.billed.known.facts.items c.loop-n.billed.known.costs n_is c.loop-n.invariant.known)

pub returns-clause-calls : goal.returns-clause-calls
returns-clause-calls c =
    let p = c.args.p.now in
    let t = c.args.t.now in
    let n_is : c.loop-n._n ≡ length (items_of t.table.code) = omega (arith, c.loop-n.invariant.inside, c.loop-n-test.false, ap length c.items-n-end.ensures) in
    subst (λ (plans : List Plan). calls_of c.loop-n.billed.calls.items
    ≡ bills_of (scene_of p plans (coded_of t).program t.places) (stubs_of c.args.task t.places) (stack_of (coded_of t).program t.places) [] [] (coded_of t).program.routines) (with_stated (plans_of t))
    (all_billed p t c.args.task (stated_in t) c.requires.whole (stated_long t) c.loop-n._n c.loop-n.billed.calls.items n_is c.loop-n.invariant.calls)
