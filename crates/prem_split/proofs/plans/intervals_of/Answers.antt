use Rattle.std.specs.Borrow.{Bor}
use Rattle.std.proofs.Common.{ℕ, ◌≡◌, ◌∙◌, ◌++◌, [], ap, arith, List, map, length, get_or, slice_index, Vec, Global}
use Rattle.std.proofs.lemmas.List.{length-map}
use Rattle.prem_list.specs.Sequence.{items_of}
use Rattle.prem_syntax.specs.declared.tree.Global.{Global as GlobalTree}
use Rattle.prem_syntax.specs.SyntaxOf.{function_of, global_of}
use Rattle.prem_tree.specs.declared.resolve.resolved.Routine.{Routine}
use Rattle.prem_analysis.specs.Marks.Called.{called}
use Rattle.prem_split.specs.PlanOf.{plan_of}
use Rattle.prem_split.specs.PlansWith.{Known, known_of, plan_if}
use Rattle.prem_split.proofs.PlanLaws.{known_same, plans_step}
use Rattle.prem_split.proofs.plans.intervals_of.Goals as goal

pub push_plan-requires-clause-function : goal.push_plan-requires-clause-function
push_plan-requires-clause-function c =
    let a = ap length c.deref-in-loop-n-2.ensures.value in
    let b = ap length c.requires.facts.calls in
    let d = ap length c.items-fs.ensures in
    omega (
      arith,
      a,
      b,
      d,
      length-map c.args.facts.now.calls.items (λ (cs : Vec ℕ Global). cs.items),
      length-map (items_of c.args.r.now.routines) (λ (f : Routine). called f.body),
    )

pub push_plan-requires-clause-functions : goal.push_plan-requires-clause-functions
push_plan-requires-clause-functions c =
    let a = ap length c.deref-in-loop-n-2.ensures.value in
    let b = ap length c.requires.facts.calls in
    let few = c.requires.may.functions in
    omega (
      arith,
      a,
      b,
      few,
      length-map c.args.facts.now.calls.items (λ (cs : Vec ℕ Global). cs.items),
      length-map (items_of c.args.r.now.routines) (λ (f : Routine). called f.body),
    )

pub push_plan-requires-clause-depths : goal.push_plan-requires-clause-depths
push_plan-requires-clause-depths c =
    let a = ap length c.deref-in-loop-n.ensures.value in
    let b = ap length c.items-fs.ensures in
    omega (arith, a, b, c.requires.facts.long)

pub loop-n-preserved : goal.loop-n-preserved
loop-n-preserved c =
    let r = c.args.r.now in
    let fs = c.items-fs.result.now in
    let n = c.loop-n.n in
    let items : List (Vec ℕ Global) → List (List ℕ) = map (λ cs. cs.items) in
    let ed : c.deref-in-loop-n.result.now ≡ (known_of r).depths = c.deref-in-loop-n.ensures.value ∙ c.requires.facts.depths in
    let et : items c.deref-in-loop-n-2.result.now ≡ (known_of r).table = ap items c.deref-in-loop-n-2.ensures.value ∙ c.requires.facts.calls in
    let eb : c.value_at-base.result ≡ (known_of r).base =
    c.value_at-base.ensures ∙ ap (λ ns. slice_index ns r.job) (c.deref.ensures.value ∙ c.requires.facts.frames) in
    let eg : map (λ (g : Bor GlobalTree). global_of g.now) c.deref-in-loop-n-3.result.now ≡ (known_of r).globals =
    ap (map (λ (g : Bor GlobalTree). global_of g.now)) c.deref-in-loop-n-3.ensures.value in
    let same = known_same _ _ _ _ _ _ _ _ ed et eb eg in
    let old = map plan_of (items_of c.loop-n.plans) in
    let told : map plan_of (items_of c.push_plan.new.plans) ≡ map plan_of (items_of c.loop-n.plans)
    ++ plan_if (record {
      depths = c.deref-in-loop-n.result.now;
      table = items c.deref-in-loop-n-2.result.now;
      base = c.value_at-base.result;
      globals = map (λ (g : Bor GlobalTree). global_of g.now) c.deref-in-loop-n-3.result.now;
    }) n (function_of (get_or fs n c.index-fs-n.result).text.now).mark [] = c.in_ok-push_plan.ensures in
    plans_step (known_of r) n fs c.index-fs-n.result old (map plan_of (items_of c.push_plan.new.plans)) (omega arith)
    (told ∙ ap (λ (k : Known). old ++ plan_if k n (function_of (get_or fs n c.index-fs-n.result).text.now).mark []) same)
    ∙ c.loop-n.invariant
