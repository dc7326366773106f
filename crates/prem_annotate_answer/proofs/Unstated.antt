-- A program without its stated lengths has the same code, parts and plans but for these.
use Rattle.std.specs.Prelude.{slice_get, slice_index, is_some, max, ◌==◌}
use Rattle.std.specs.List.{flat_map}
use Rattle.std.specs.Option.{option_map}
use Rattle.std.proofs.Common.{◌≡◌, ℕ, zero, suc, ◌+◌, if◌then◌else◌, List, [], ◌∷◌, ◌++◌, length, map, refl, ap, sym, ◌∙◌, Option, None, Some}
use Rattle.std.proofs.lemmas.List.{length-map}
use Rattle.prem_plant.specs.declared.plant.Target.{Target}
use Rattle.prem_syntax.specs.Syntax.{MarkText, GlobalVariable, FunctionText, ProgramText, global_item, function_item}
use Rattle.prem_syntax.specs.Resolved.{Routine, Resolved}
use Rattle.prem_syntax.specs.Resolve.{loops_within, resolve_items, resolve, functions_of}
use Rattle.prem_syntax.specs.Reach.{callees_in, callee_table, reach_of}
use Rattle.prem_syntax.specs.Statements.{is_marked}
use Rattle.prem_syntax.specs.Source.{unlimited}
use Rattle.prem_ranges.specs.After.{bounds_in as turns_in}
use Rattle.prem_ranges.specs.RangesKept.{resolved, turn_bounds, bounded}
use Rattle.prem_layout.specs.Template.Frames.{frame_at, depth_if_there, depth_below, depth_of, deepest_marked, deepest_called, stack_size}
use Rattle.prem_layout.specs.Template.Parts.{marked_count, marked_before, is_marked_at, code_part, stub_part, parts_of, codes_of}
use Rattle.prem_layout.specs.Template.Steps.{Parts, function_code}
use Rattle.prem_layout.specs.Plans.{Plan, region_of, plan_of, plan_before, plans_from, plans_of}
use Rattle.prem_annotating.specs.Annotated.{texts_of, with_texts}
use Rattle.prem_annotating.proofs.Kept.{Kept, KeptAll, none_kept, next_kept, resolve_kept}
use Rattle.prem_annotate_answer.specs.Lengths.{unstated_mark, unstated_text, unstated}

-- ---- functions

abbrev pub bare : Routine → Routine
bare f = record f { text = unstated_text f.text }

abbrev pub all_bare : List Routine → List Routine
all_bare fs = map bare fs

abbrev pub bare_program : Resolved → Resolved
bare_program p = record p { routines = all_bare p.routines }

marked_still : (m : Option MarkText) → is_some (option_map unstated_mark m) ≡ is_some m
marked_still None = refl
marked_still (Some m) = refl

bare_marked : (f : Routine) → is_marked (bare f) ≡ is_marked f
bare_marked f = marked_still f.text.mark

bare_kept : (f : Routine) → Kept f (bare f)
bare_kept f = record {
  at = refl;
  ty = refl;
  name = refl;
  parameters = refl;
  declarations = refl;
  statements = refl;
  value = refl;
  locals = refl;
  body = refl;
  result = refl;
  marked = sym (marked_still f.text.mark);
}

all_bare_kept : (fs : List Routine) → KeptAll fs (all_bare fs)
all_bare_kept [] = none_kept
all_bare_kept (f ∷ fs) = next_kept (bare_kept f) (all_bare_kept fs)

-- ---- resolving

bare_texts : (functions : List FunctionText) (t : ℕ → ℕ) (n : ℕ) (gs : List GlobalVariable) (items : ProgramText) →
    texts_of (all_bare (resolve_items functions t n gs items)) ≡ map unstated_text (functions_of items)
bare_texts functions t n gs [] = refl
bare_texts functions t n gs (global_item g ∷ items) = bare_texts functions t n (gs ++ g ∷ []) items
bare_texts functions t n gs (function_item f ∷ items) = ap (λ l. unstated_text f ∷ l) (bare_texts functions t (n + loops_within f.body) gs items)

pub resolved_bare : (t : ℕ → ℕ) (p : ProgramText) → resolve t (unstated p) ≡ bare_program (resolve t p)
resolved_bare t p =
    let rs = (resolve t p).routines in
    ap (λ ts. resolve t (with_texts ts p)) (sym (bare_texts (functions_of p) t 0 [] p)) ∙ resolve_kept t p (all_bare rs) (all_bare_kept rs)

turns_bare : (fs : List Routine) → flat_map turns_in (all_bare fs) ≡ flat_map turns_in fs
turns_bare [] = refl
turns_bare (f ∷ fs) = ap (λ l. turns_in f ++ l) (turns_bare fs)

bounds_bare : (p : ProgramText) → turn_bounds (unstated p) ≡ turn_bounds p
unfolding turn_bounds
bounds_bare p = ap (λ (r : Resolved). flat_map turns_in r.routines) (resolved_bare unlimited.turns p) ∙ turns_bare (resolved p).routines

pub bounded_bare : (p : ProgramText) → bounded (unstated p) ≡ bare_program (bounded p)
bounded_bare p = ap (λ ts. resolve (slice_index ts) (unstated p)) (bounds_bare p) ∙ resolved_bare (slice_index (turn_bounds p)) p

-- ---- frames and depths

frame_bare : (fs : List Routine) (n : ℕ) → frame_at (all_bare fs) n ≡ frame_at fs n
frame_bare [] n = refl
frame_bare (f ∷ fs) zero = refl
frame_bare (f ∷ fs) (suc n) = frame_bare fs n

depth_there : (d : ℕ → ℕ) (fs : List Routine) (n : ℕ) → depth_if_there d (slice_get (all_bare fs) n) ≡ depth_if_there d (slice_get fs n)
depth_there d [] n = refl
depth_there d (f ∷ fs) zero = refl
depth_there d (f ∷ fs) (suc n) = depth_there d fs n

below_bare : (fs : List Routine) (n : ℕ) → depth_below (all_bare fs) n ≡ depth_below fs n
below_bare fs zero = refl
below_bare fs (suc n) =
    let below = below_bare fs n in
    let here : depth_if_there (depth_below (all_bare fs) n) (slice_get (all_bare fs) n) ≡ depth_if_there (depth_below fs n) (slice_get fs n) =
    ap (λ d. depth_if_there d (slice_get (all_bare fs) n)) below ∙ depth_there (depth_below fs n) fs n in
    λ i f. if f == n then here i else below i f

length_bare : (fs : List Routine) → length (all_bare fs) ≡ length fs
length_bare fs = length-map fs bare

depth_bare : (fs : List Routine) → depth_of (all_bare fs) ≡ depth_of fs
depth_bare fs = ap (λ n. depth_below (all_bare fs) n) (length_bare fs) ∙ below_bare fs (length fs)

called_there : (d : ℕ → ℕ) (fs : List Routine) (n : ℕ) → deepest_called d (slice_get (all_bare fs) n) ≡ deepest_called d (slice_get fs n)
called_there d [] n = refl
called_there d (f ∷ fs) zero = refl
called_there d (f ∷ fs) (suc n) = called_there d fs n

deepest_bare : (d : ℕ → ℕ) (n : ℕ) (fs : List Routine) → deepest_marked d n (all_bare fs) ≡ deepest_marked d n fs
deepest_bare d n [] = refl
deepest_bare d n (f ∷ fs) = λ i. max (if bare_marked f i then d n else 0) (deepest_bare d (n + 1) fs i)

pub stack_bare : (p : Resolved) → stack_size (bare_program p) ≡ stack_size p
stack_bare p =
    let fs = p.routines in
    let depths = depth_bare fs in
    (λ i. frame_bare fs p.job i + max (deepest_called (depths i) (slice_get (all_bare fs) p.job)) (deepest_marked (depths i) 0 (all_bare fs)))
    ∙ (λ i. frame_at fs p.job + max (called_there (depth_of fs) fs p.job i) (deepest_bare (depth_of fs) 0 fs i))

-- ---- code

count_bare : (fs : List Routine) → marked_count (all_bare fs) ≡ marked_count fs
count_bare [] = refl
count_bare (f ∷ fs) = λ i. (if bare_marked f i then 1 else 0) + count_bare fs i

before_bare : (n : ℕ) (fs : List Routine) → marked_before n (all_bare fs) ≡ marked_before n fs
before_bare zero fs = refl
before_bare (suc n) [] = refl
before_bare (suc n) (f ∷ fs) = λ i. (if bare_marked f i then 1 else 0) + before_bare n fs i

marked_at_bare : (fs : List Routine) (n : ℕ) → is_marked_at (all_bare fs) n ≡ is_marked_at fs n
marked_at_bare [] n = refl
marked_at_bare (f ∷ fs) zero = bare_marked f
marked_at_bare (f ∷ fs) (suc n) = marked_at_bare fs n

stub_bare : (fs : List Routine) (n : ℕ) → stub_part (all_bare fs) n ≡ stub_part fs n
stub_bare fs n = λ i. 1 + length_bare fs i + before_bare n fs i

parts_bare : (target : Target) (fs : List Routine) → parts_of target (all_bare fs) ≡ parts_of target fs
parts_bare target fs = λ i. record {
  target = target;
  global = λ g. 1 + length_bare fs i + count_bare fs i + g;
  frame = λ n. frame_bare fs n i;
  link = λ n. if marked_at_bare fs n i then 4 else 1;
  callee = λ n. if marked_at_bare fs n i then stub_bare fs n i else code_part n;
}

codes_bare_by : (parts : Parts) (fs : List Routine) → codes_of parts (all_bare fs) ≡ codes_of parts fs
codes_bare_by parts [] = refl
codes_bare_by parts (f ∷ fs) = ap (λ l. function_code parts f ∷ l) (codes_bare_by parts fs)

pub codes_bare : (target : Target) (fs : List Routine) → codes_of (parts_of target (all_bare fs)) (all_bare fs) ≡ codes_of (parts_of target fs) fs
codes_bare target fs = ap (λ parts. codes_of parts (all_bare fs)) (parts_bare target fs) ∙ codes_bare_by (parts_of target fs) fs

-- ---- plans

abbrev pub bare_plan : Plan → Plan
bare_plan plan = record plan { stated = 0 }

table_bare : (fs : List Routine) → callee_table (all_bare fs) ≡ callee_table fs
table_bare [] = refl
table_bare (f ∷ fs) = ap (λ l. callees_in f.body ∷ l) (table_bare fs)

plan_bare : (p : Resolved) (n : ℕ) (m : MarkText) → plan_of (bare_program p) n (unstated_mark m) ≡ bare_plan (plan_of p n m)
plan_bare p n m = λ i. record {
  function = n;
  reach = reach_of (table_bare p.routines i) n;
  depth = depth_bare p.routines i n;
  base = frame_bare p.routines p.job i;
  regions = map (region_of p.globals) m.regions;
  stated = 0;
}

before_plan : (p : Resolved) (n : ℕ) (m : Option MarkText) (rest rest' : List Plan) → rest ≡ map bare_plan rest' →
    plan_before (bare_program p) n (option_map unstated_mark m) rest ≡ map bare_plan (plan_before p n m rest')
before_plan p n None rest rest' e = e
before_plan p n (Some m) rest rest' e = λ i. plan_bare p n m i ∷ e i

plans_bare_from : (p : Resolved) (n : ℕ) (fs : List Routine) → plans_from (bare_program p) n (all_bare fs) ≡ map bare_plan (plans_from p n fs)
plans_bare_from p n [] = refl
plans_bare_from p n (f ∷ fs) = before_plan p n f.text.mark _ _ (plans_bare_from p (n + 1) fs)

pub plans_bare : (p : Resolved) → plans_of (bare_program p) ≡ map bare_plan (plans_of p)
plans_bare p = plans_bare_from p 0 p.routines

pub count_routines : (p : Resolved) → length (bare_program p).routines ≡ length p.routines
count_routines p = length_bare p.routines
