-- The stack of a program in memory is that of the program that it stands for.
use Rattle.std.specs.Prelude.{is_some, slice_index_or}
use Rattle.std.proofs.Common.{◌≡◌, ℕ, zero, suc, ◌+◌, max, cond, Bool, List, [], ◌∷◌, ◌++◌, refl, ap, ◌∙◌, arith, map, slice_index, slice_get}
use Rattle.prem_list.specs.Sequence.{items_of}
use Rattle.prem_syntax.specs.SyntaxOf.{function_of}
use Rattle.prem_syntax.specs.Resolved.{Steps, Done, SetLocal, SetScalar, SetElement, Output, Input, If, For, While, Call, Routine, Resolved}
use Rattle.prem_tree.specs.declared.resolve.resolved.Routine.{Routine as RoutineTree}
use Rattle.prem_tree.specs.Resolve.ResolvedOf.{loops_of, routines_of, resolved_of}
use Rattle.prem_analysis.proofs.MarksLemmas.CalledTrees.{tables_same}
use Rattle.prem_layout.specs.Template.Frames.{frame_of, frame_at, depth_of, deepest, deepest_called, deepest_marked}
use Rattle.prem_layout.specs.Plans.{callees_in, callee_table}
use Rattle.prem_split.specs.Walk.{frame_of as frame_of_tree}
use Rattle.prem_split.specs.Tables.{greatest, depths_of}
use Rattle.prem_split.specs.PlansWith.{marks_of, calls_of}
use Rattle.prem_split.proofs.PlansAre.{frames_same, frame_there}
use Rattle.prem_split.proofs.DepthsAre.{depths_are}
use Rattle.prem_prefetch.specs.Parts.Parts.{most_marked, StacksAreExact, PartsAreTheTasks}

-- ---- the greatest depth of callees

greatest_append : (known xs ys : List ℕ) → greatest known (xs ++ ys) ≡ max (greatest known xs) (greatest known ys)
greatest_append known [] ys = omega arith
greatest_append known (x ∷ xs) ys = omega (arith, greatest_append known xs ys)

module _ (known : List ℕ) (d : ℕ → ℕ) (told : (f : ℕ) → slice_index known f ≡ d f) where
  steps_same : (s : Steps) → greatest known (callees_in s) ≡ deepest d s
  steps_same Done = refl
  steps_same (SetLocal at number value rest) = steps_same rest
  steps_same (SetScalar at global ty value rest) = steps_same rest
  steps_same (SetElement at global ty index value rest) = steps_same rest
  steps_same (Output at value rest) = steps_same rest
  steps_same (Input at number rest) = steps_same rest
  steps_same (If at condition taken other rest) =
      omega (
        arith,
        steps_same taken,
        steps_same other,
        steps_same rest,
        greatest_append known (callees_in taken) (callees_in other ++ callees_in rest),
        greatest_append known (callees_in other) (callees_in rest),
      )
  steps_same (For at number low closed high step turns body rest) = omega (arith, steps_same body, steps_same rest, greatest_append known (callees_in body) (callees_in rest))
  steps_same (While at turns condition body rest) = omega (arith, steps_same body, steps_same rest, greatest_append known (callees_in body) (callees_in rest))
  steps_same (Call at target callee arguments rest) = omega (arith, told callee, steps_same rest)

  called_same : (routines : List Routine) (job : ℕ) → greatest known (slice_index_or (callee_table routines) job []) ≡ deepest_called d (slice_get routines job)
  called_same [] job = refl
  called_same (r ∷ rs) zero = steps_same r.body
  called_same (r ∷ rs) (suc job) = called_same rs job

  marked_same : (turns : ℕ → ℕ) (loops n : ℕ) (fs : List RoutineTree) → most_marked known n (marks_of fs) ≡ deepest_marked d n (routines_of turns loops fs)
  marked_same turns loops n [] = refl
  marked_same turns loops n (f ∷ fs) =
      let b : Bool = is_some (function_of f.text.now).mark in
      ap (λ k. max (cond b k 0) (most_marked known (n + 1) (marks_of fs))) (told n)
      ∙ ap (λ k. max (cond b (d n) 0) k) (marked_same turns (loops + loops_of f.body) (n + 1) fs)

pub stacks_are_exact : StacksAreExact
stacks_are_exact turns r =
    let fs : List RoutineTree = items_of r.routines in
    let p : Resolved = resolved_of turns r in
    let calls : calls_of fs ≡ callee_table p.routines = tables_same turns 0 fs in
    let frames : map frame_of_tree fs ≡ map frame_of p.routines = frames_same turns 0 fs in
    let known : List ℕ = depths_of (map frame_of_tree fs) (calls_of fs) in
    let told : (f : ℕ) → slice_index known f ≡ depth_of p.routines f =
    λ f. ap (λ ks. slice_index (depths_of ks (calls_of fs)) f) frames ∙ ap (λ css. slice_index (depths_of (map frame_of p.routines) css) f) calls ∙ depths_are p.routines f in
    let base : slice_index (map frame_of_tree fs) r.job ≡ frame_at p.routines p.job = ap (λ ks. slice_index ks r.job) frames ∙ frame_there p.routines r.job in
    let called : greatest known (slice_index_or (calls_of fs) r.job []) ≡ deepest_called (depth_of p.routines) (slice_get p.routines p.job) =
    ap (λ css. greatest known (slice_index_or css r.job [])) calls ∙ called_same known (depth_of p.routines) told p.routines r.job in
    let marked : most_marked known 0 (marks_of fs) ≡ deepest_marked (depth_of p.routines) 0 p.routines = marked_same known (depth_of p.routines) told turns 0 0 fs in
    omega (arith, base, called, marked)

pub parts_are_the_tasks : PartsAreTheTasks
parts_are_the_tasks passes task sizes p = refl
