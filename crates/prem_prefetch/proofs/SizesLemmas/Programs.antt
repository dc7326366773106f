-- What a well-formed program that keeps to the rules on frames has: small frames, short plans, code of so many functions.
use Rattle.std.specs.Prelude.{slice_index, slice_index_or}
use Rattle.std.specs.List.{AllByRecursion}
use Rattle.std.proofs.Common.{◌≡◌, ℕ, zero, suc, ◌+◌, ◌<◌, ◌≤◌, ◌^◌, Bool, true, false, cond, ltb, ltb-false, List, [], ◌∷◌, ◌++◌, length, map, set, replicate, refl, ap, sym, ◌∙◌}
use Rattle.std.proofs.Common.{subst, arith, Option, None, Some}
use Rattle.std.proofs.lemmas.List.{length-map, length-set, length-replicate}
use Rattle.std.proofs.lemmas.List.Elements.{recursion_from_All}
use Rattle.prem_list.specs.declared.Sequence.{Sequence}
use Rattle.prem_list.specs.Sequence.{items_of}
use Rattle.prem_syntax.specs.Syntax.{MarkText, GlobalVariable, FunctionText, global_item, function_item, ProgramText}
use Rattle.prem_syntax.specs.SyntaxOf.{global_of}
use Rattle.prem_syntax.specs.Breaches.{regions_of}
use Rattle.prem_syntax.specs.ProgramRules.{IsWellFormed}
use Rattle.prem_syntax.specs.Reach.{with_all_if, is_in, with_callees_below, members_from, reach_set, reach_of, callee_table, callees_in}
use Rattle.prem_syntax.specs.Resolve.{loops_within, functions_of, globals_of, resolve_items, resolve}
use Rattle.prem_syntax.specs.Resolved.{Routine, Resolved}
use Rattle.prem_syntax.proofs.Reach.{if_long}
use Rattle.prem_tree.specs.declared.resolve.resolved.Routine.{Routine as RoutineTree}
use Rattle.prem_tree.specs.declared.resolve.resolved.Resolved.{Resolved as ResolvedTree}
use Rattle.prem_tree.specs.Resolve.ResolvedOf.{loops_of, routine_of, routines_of, resolved_of}
use Rattle.prem_analysis.proofs.Counts.{as_many}
use Rattle.prem_asm.specs.declared.piece.Piece.{Piece}
use Rattle.prem_asm.specs.Pieces.{size_of}
use Rattle.prem_asm.specs.PiecesOf.{pieces_of}
use Rattle.prem_layout.specs.Template.Frames.{frame_of}
use Rattle.prem_layout.specs.Template.Limits.{Excess, frame, greatest_frame, deep_excess, excess_of, excess_or, excess_among, excess, too_deep_function}
use Rattle.prem_layout.specs.Template.Steps.{Parts}
use Rattle.prem_layout.specs.Template.Parts.{codes_of, parts_of as code_parts_of}
use Rattle.prem_layout.specs.Placed.{Coded}
use Rattle.prem_layout.specs.Plans.{plan_of as plan_text, plan_before, plans_from, plans_of, region_of}
use Rattle.prem_split.specs.PlanOf.{plan_of}
use Rattle.prem_split.specs.PlansWith.{MayHavePlans}
use Rattle.prem_split.specs.Walk.{HasFrame}
use Rattle.prem_split.proofs.PlansAre.{frame_same}
use Rattle.prem_split.proofs.MayHave.{has_frame}
use Rattle.prem_prefetch.specs.Parts.Parts.{sizes_of, IsShortPlan, IsShortGlobal, IsWordSize}
use Rattle.prem_prefetch.specs.Sizes.CodedOf.{codes_in, coded_in}
use Rattle.prem_prefetch.specs.Sizes.Sizes.{globals_in}
use Rattle.prem_prefetch.specs.Sizes.Laws.{ProgramsMayHavePlans, TasksMayHaveParts, SetsMayHaveParts}
use Rattle.prem_prefetch.proofs.SizesLemmas.Kept.{HasFewRegions, Kept, all_kept}

-- ---- functions

as_many_trees : (turns : ℕ → ℕ) (n : ℕ) (rs : List RoutineTree) → length (routines_of turns n rs) ≡ length rs
as_many_trees turns n [] = refl
as_many_trees turns n (r ∷ rs) = ap suc (as_many_trees turns (n + loops_of r.body) rs)

-- ---- frames

frame_within : (n : ℕ) (f : Routine) → excess_of n f ≡ None → frame_of f ≤ 2032
frame_within n f e = by (ltb greatest_frame (frame_of f)) refl e
  where
    by : (b : Bool) → ltb greatest_frame (frame_of f) ≡ b → cond b (Some (frame n)) (deep_excess (too_deep_function f)) ≡ None → frame_of f ≤ 2032
    by true is h = cc
    by false is h = ltb-false greatest_frame (frame_of f) is

none_either : (a b : Option Excess) → excess_or a b ≡ None → (a ≡ None) × (b ≡ None)
none_either None b e = (refl, e)
none_either (Some x) b e = cc

have_frames : (turns : ℕ → ℕ) (loops n : ℕ) (rs : List RoutineTree) → excess_among n (routines_of turns loops rs) ≡ None → AllByRecursion HasFrame rs
have_frames turns loops n [] e = tt
have_frames turns loops n (r ∷ rs) e =
    let f : Routine = routine_of turns loops r in
    let both = none_either (excess_of n f) (excess_among (n + 1) (routines_of turns (loops + loops_of r.body) rs)) e in (
      has_frame r (subst (λ k. k ≤ 2032) (sym (frame_same turns loops r)) (frame_within n f both.0)),
      have_frames turns (loops + loops_of r.body) (n + 1) rs both.1,
    )

plans_of_tree : (r : ResolvedTree) (q : Resolved) (p : ProgramText) (own turns : ℕ → ℕ) → IsWellFormed p → resolved_of own r ≡ q → q ≡ resolve turns p → excess q ≡ None → MayHavePlans r
plans_of_tree r q p own turns formed is same kept =
    let limits : Kept p = all_kept p formed in
    let functions : length (items_of r.routines) ≡ length (functions_of p) =
    sym (as_many_trees own 0 (items_of r.routines)) ∙ ap (λ (q : Resolved). length q.routines) (is ∙ same) ∙ as_many (functions_of p) turns 0 [] p in
    let globals : length r.globals.items ≡ length (globals_of p) =
    sym (length-map r.globals.items (λ g. global_of g.now)) ∙ ap (λ (q : Resolved). length q.globals) (is ∙ same) in
    let few = limits.functions in
    let few_globals = limits.globals in
    record {
      functions = omega (arith, functions, few);
      globals = omega (arith, globals, few_globals);
      frames = have_frames own 0 0 (items_of r.routines) (subst (λ (q : Resolved). excess q ≡ None) (sym is) kept);
    }

pub programs_may_have_plans : ProgramsMayHavePlans
programs_may_have_plans r p turns formed same kept = plans_of_tree r (resolve turns p) p turns turns formed same refl kept

-- ---- plans

below_long : (t : List (List ℕ)) (n : ℕ) (s : List Bool) → length (with_callees_below t n s) ≡ length s
below_long t zero s = refl
below_long t (suc n) s = below_long t n (with_all_if (is_in s n) (slice_index_or t n []) s) ∙ if_long (is_in s n) (slice_index_or t n []) s

few_members : (n : ℕ) (s : List Bool) → length (members_from n s) ≤ length s
few_members n [] = omega arith
few_members n (true ∷ s) = omega (arith, few_members (n + 1) s)
few_members n (false ∷ s) = omega (arith, few_members (n + 1) s)

short_reach : (t : List (List ℕ)) (f : ℕ) → length (reach_of t f) ≤ length t
short_reach t f =
    let blank : List Bool = replicate (length t) false in
    let long : length (reach_set t f) ≡ length t =
    below_long t (f + 1) (set blank f true) ∙ length-set blank f true ∙ length-replicate (length t) false in
    omega (arith, long, few_members 0 (reach_set t f))

abbrev HasFewMarked : Routine → Type 0
HasFewMarked f = HasFewRegions f.text

few_marked : (fs : List FunctionText) (t : ℕ → ℕ) (n : ℕ) (gs : List GlobalVariable) (items : ProgramText) →
    AllByRecursion HasFewRegions (functions_of items) → AllByRecursion HasFewMarked (resolve_items fs t n gs items)
few_marked fs t n gs [] h = tt
few_marked fs t n gs (global_item g ∷ items) h = few_marked fs t n (gs ++ g ∷ []) items h
few_marked fs t n gs (function_item f ∷ items) h = (h.0, few_marked fs t (n + loops_within f.body) gs items h.1)

short_plan : (p : Resolved) (n : ℕ) (mark : MarkText) → length p.routines ≤ 256 → length mark.regions ≤ 32 → IsShortPlan (plan_text p n mark)
short_plan p n mark few regions =
    let table : length (callee_table p.routines) ≡ length p.routines = length-map p.routines (λ (f : Routine). callees_in f.body) in
    let reach = short_reach (callee_table p.routines) n in
    let same : length (map (region_of p.globals) mark.regions) ≡ length mark.regions = length-map mark.regions (region_of p.globals) in
    record { reach = omega (arith, table, reach, few); regions = omega (arith, same, regions) }

short_plans : (p : Resolved) (n : ℕ) (fs : List Routine) → length p.routines ≤ 256 → AllByRecursion HasFewMarked fs → AllByRecursion IsShortPlan (plans_from p n fs)
short_plans p n [] few h = tt
short_plans p n (f ∷ fs) few h = by f.text.mark h.0 (short_plans p (n + 1) fs few h.1)
  where
    by : (mark : Option MarkText) → length (regions_of mark) ≤ 32 → AllByRecursion IsShortPlan (plans_from p (n + 1) fs) → AllByRecursion IsShortPlan (plan_before p n mark (plans_from p (n + 1) fs))
    by None r rest = rest
    by (Some mark) r rest = (short_plan p n mark few r, rest)

few_plans : (p : Resolved) (n : ℕ) (fs : List Routine) → length (plans_from p n fs) ≤ length fs
few_plans p n [] = omega arith
few_plans p n (f ∷ fs) = by f.text.mark (few_plans p (n + 1) fs)
  where
    by : (mark : Option MarkText) → length (plans_from p (n + 1) fs) ≤ length fs → length (plan_before p n mark (plans_from p (n + 1) fs)) ≤ suc (length fs)
    by None rest = omega (arith, rest)
    by (Some mark) rest = omega (arith, rest)

-- ---- code

pub as_many_codes : (parts : Parts) (fs : List Routine) → length (codes_of parts fs) ≡ length fs
as_many_codes parts [] = refl
as_many_codes parts (f ∷ fs) = ap suc (as_many_codes parts fs)

small_sizes : (code : List (Sequence Piece)) → AllByRecursion (λ ps. size_of ps < 2 ^ 32) (codes_in code) → AllByRecursion IsWordSize (sizes_of code)
small_sizes [] h = tt
small_sizes (s ∷ ss) h = (h.0, small_sizes ss h.1)

pub tasks_may_have_parts : TasksMayHaveParts
tasks_may_have_parts t p is code =
    let c : Coded = coded_in t in
    let limits : Kept p = all_kept p code.formed in
    let functions : length c.program.routines ≡ length (functions_of p) =
    ap (λ (q : Resolved). length q.routines) code.program ∙ as_many (functions_of p) code.turns 0 [] p in
    let few = limits.functions in
    let few_there : length c.program.routines ≤ 256 = omega (arith, functions, few) in
    let codes : length (items_of t.code) ≡ length c.program.routines =
    sym (length-map (items_of t.code) (λ s. pieces_of (items_of s))) ∙ ap length code.code ∙ as_many_codes (code_parts_of code.target c.program.routines) c.program.routines in
    let plans : length (items_of t.plans) ≡ length (plans_of c.program) = sym (length-map (items_of t.plans) plan_of) ∙ ap length is.plans in
    let marked : AllByRecursion HasFewMarked c.program.routines =
    subst (λ (q : Resolved). AllByRecursion HasFewMarked q.routines) (sym code.program) (few_marked (functions_of p) code.turns 0 [] p limits.regions) in
    let few_marks = few_plans c.program 0 c.program.routines in
    let globals : globals_in t.program ≡ globals_of p = ap (λ (q : Resolved). q.globals) code.program in
    record {
      program = plans_of_tree t.program c.program p (slice_index t.turns.items) code.turns code.formed refl code.program code.kept;
      codes = omega (arith, codes, few_there);
      small = small_sizes (items_of t.code) (recursion_from_All (λ ps. size_of ps < 2 ^ 32) c.code code.small);
      marked = omega (arith, plans, few_marks, few_there);
      plans = subst (AllByRecursion IsShortPlan) (sym is.plans) (short_plans c.program 0 c.program.routines few_there marked);
      globals = subst (AllByRecursion IsShortGlobal) (sym globals) limits.lengths;
    }

pub sets_may_have_parts : SetsMayHaveParts
sets_may_have_parts [] ps is code = tt
sets_may_have_parts (t ∷ ts) [] is code = absurd code
sets_may_have_parts (t ∷ ts) (p ∷ ps) is code = (tasks_may_have_parts t p is.0 code.0, sets_may_have_parts ts ps is.1 code.1)
