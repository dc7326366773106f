-- The plans of a program in memory are those of the program that it stands for.
use Rattle.std.specs.Int.{next_multiple_of}
use Rattle.std.proofs.Common.{◌≡◌, ℕ, zero, suc, ◌+◌, ◌*◌, List, [], ◌∷◌, Option, None, Some, refl, ap, ◌∙◌, arith, map, length, slice_index}
use Rattle.std.proofs.lemmas.List.{length-map}
use Rattle.prem_list.specs.Sequence.{items_of}
use Rattle.prem_syntax.specs.Syntax.{MarkText}
use Rattle.prem_syntax.specs.SyntaxOf.{function_of}
use Rattle.prem_syntax.specs.Resolved.{Done, Routine, Resolved}
use Rattle.prem_tree.specs.declared.resolve.resolved.Routine.{Routine as RoutineTree}
use Rattle.prem_tree.specs.declared.resolve.resolved.Resolved.{Resolved as ResolvedTree}
use Rattle.prem_tree.specs.Resolve.ResolvedOf.{term_of, loops_of, routine_of, routines_of, resolved_of}
use Rattle.prem_analysis.proofs.MarksLemmas.CalledTrees.{tables_same}
use Rattle.prem_layout.specs.Template.Frames.{frame_of, frame_at, depth_of}
use Rattle.prem_layout.specs.Plans.{plan_before, callee_table, reach_of, region_of, plan_of, plans_from, plans_of}
use Rattle.prem_split.specs.Walk.{frame_of as frame_of_tree}
use Rattle.prem_split.specs.Tables.{depths_of}
use Rattle.prem_split.specs.PlansWith.{Known, plan_with, plan_if, plans_with, marks_of, calls_of, known_of, plans_in}
use Rattle.prem_split.proofs.Plain.{step_counts}
use Rattle.prem_split.proofs.DepthsAre.{depths_are}

pub frame_same : (turns : ℕ → ℕ) (n : ℕ) (f : RoutineTree) → frame_of_tree f ≡ frame_of (routine_of turns n f)
frame_same turns n f =
    let locals : length (map term_of (items_of f.locals)) ≡ length (items_of f.locals) = length-map (items_of f.locals) term_of in
    let counters = step_counts turns n f.body Done in
    ap (λ k. next_multiple_of (4 + 4 * k) 16) (omega (arith, locals, counters))

pub frames_same : (turns : ℕ → ℕ) (n : ℕ) (fs : List RoutineTree) → map frame_of_tree fs ≡ map frame_of (routines_of turns n fs)
frames_same turns n [] = refl
frames_same turns n (f ∷ fs) =
    ap (λ k. k ∷ map frame_of_tree fs) (frame_same turns n f) ∙ ap (λ ks. frame_of (routine_of turns n f) ∷ ks) (frames_same turns (n + loops_of f.body) fs)

pub frame_there : (routines : List Routine) (n : ℕ) → slice_index (map frame_of routines) n ≡ frame_at routines n
frame_there [] n = refl
frame_there (r ∷ rs) zero = refl
frame_there (r ∷ rs) (suc n) = frame_there rs n

-- plans by marks, if each is the one that the tables tell
plans_same : (p : Resolved) (k : Known) → ((f : ℕ) (mark : MarkText) → plan_with k f mark ≡ plan_of p f mark) → (turns : ℕ → ℕ) (loops n : ℕ) (fs : List RoutineTree) →
    plans_with k n (marks_of fs) ≡ plans_from p n (routines_of turns loops fs)
plans_same p k h turns loops n [] = refl
plans_same p k h turns loops n (f ∷ fs) = by_mark (function_of f.text.now).mark (plans_same p k h turns (loops + loops_of f.body) (n + 1) fs)
  where
    by_mark : (mark : Option MarkText) → plans_with k (n + 1) (marks_of fs) ≡ plans_from p (n + 1) (routines_of turns (loops + loops_of f.body) fs) →
        plan_if k n mark (plans_with k (n + 1) (marks_of fs)) ≡ plan_before p n mark (plans_from p (n + 1) (routines_of turns (loops + loops_of f.body) fs))
    by_mark None e = e
    by_mark (Some mark) e = ap (λ q. q ∷ plans_with k (n + 1) (marks_of fs)) (h n mark) ∙ ap (λ qs. plan_of p n mark ∷ qs) e

pub plans_are : (turns : ℕ → ℕ) (r : ResolvedTree) → plans_in r ≡ plans_of (resolved_of turns r)
plans_are turns r =
    let fs : List RoutineTree = items_of r.routines in
    let p : Resolved = resolved_of turns r in
    let calls : calls_of fs ≡ callee_table p.routines = tables_same turns 0 fs in
    let frames : map frame_of_tree fs ≡ map frame_of p.routines = frames_same turns 0 fs in
    let depth : (f : ℕ) → slice_index (known_of r).depths f ≡ depth_of p.routines f =
    λ f. ap (λ ks. slice_index (depths_of ks (calls_of fs)) f) frames ∙ ap (λ css. slice_index (depths_of (map frame_of p.routines) css) f) calls ∙ depths_are p.routines f in
    let base : (known_of r).base ≡ frame_at p.routines p.job = ap (λ ks. slice_index ks r.job) frames ∙ frame_there p.routines r.job in
    plans_same p (known_of r)
    (λ f mark. λ i. record { function = f; reach = reach_of (calls i) f; depth = depth f i; base = base i; regions = map (region_of p.globals) mark.regions; stated = mark.stated })
    turns 0 0 fs
