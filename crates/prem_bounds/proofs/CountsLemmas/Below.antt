-- The table of counts tells those of the definition.
use Rattle.std.specs.Prelude.{is_some}
use Rattle.std.specs.Option.{option_map}
use Rattle.std.proofs.Common.{◌≡◌, ℕ, zero, suc, ◌+◌, ◌*◌, ◌^◌, ◌≤◌, ◌<◌, max, min, cond, List, [], ◌∷◌, ◌++◌, Option, None, Some, refl, ap, sym, ◌∙◌, ⊎_elim, arith, length, drop}
use Rattle.std.proofs.Common.{slice_index, slice_get, length-append}
use Rattle.std.proofs.lemmas.Bool.{cases_eq, cases_lt, eq-eqb, ne_eqb}
use Rattle.std.proofs.lemmas.Nat.{mul-le}
use Rattle.std.proofs.lemmas.List.{drop-drop}
use Rattle.prem_list.specs.Sequence.{items_of}
use Rattle.prem_word.specs.Words.{truth}
use Rattle.prem_syntax.specs.SyntaxOf.{mark_of as mark_text}
use Rattle.prem_syntax.specs.declared.tree.Mark.{Mark}
use Rattle.prem_syntax.specs.Resolved.{Steps, Done, SetLocal, SetScalar, SetElement, Output, Input, If, For, While, Call, Routine}
use Rattle.prem_tree.specs.declared.resolve.resolved.Routine.{Routine as RoutineTree}
use Rattle.prem_tree.specs.declared.resolve.resolved.Resolved.{Resolved as ResolvedTree}
use Rattle.prem_tree.specs.Resolve.ResolvedOf.{loops_of, routine_of, routines_of, resolved_of}
use Rattle.prem_ranges.specs.Counts.{Tally, outputs_tally, marks_tally, most_in, most_of, most_below, most_in_job}
use Rattle.prem_layout.specs.Counts.{outputs_of, marked_calls_of}
use Rattle.prem_split.proofs.DepthsAre.{put_last, first_of_rest, at_last, rest_of_rest}
use Rattle.prem_bounds.specs.Counts.Count.{clipped, mark_of, mark_if, count_of_routine, counts_behind}
use Rattle.prem_bounds.proofs.CountsLemmas.StepCounts.{step_most}

-- ---- what is told alike

abbrev Alike : ℕ → ℕ → Type 0
Alike a b = clipped a ≡ clipped b

pub large_product : (n a limit : ℕ) → limit ≤ a → min (suc n * limit) limit ≡ min (suc n * a) limit
large_product n a limit le =
    let m : n * limit ≤ n * a = mul-le n limit n a (omega arith) le in
    omega arith

pub clipped_times : (n a limit : ℕ) → min (n * min a limit) limit ≡ min (n * a) limit
clipped_times zero a limit = omega arith
clipped_times (suc n) a limit =
    ⊎_elim (λ (lt : a < limit). let e : min a limit ≡ a = omega arith in ap (λ k. min (suc n * k) limit) e)
    (λ (le : limit ≤ a). let e : min a limit ≡ limit = omega arith in ap (λ k. min (suc n * k) limit) e ∙ large_product n a limit le)
    (cases_lt a limit)

pub clipped_product : (n a b : ℕ) → a ≡ clipped b → clipped (n * a) ≡ clipped (n * b)
clipped_product n a b e = ap (λ k. clipped (n * k)) e ∙ clipped_times n b (2 ^ 32)

alike_product : (n a b : ℕ) → Alike a b → Alike (n * a) (n * b)
alike_product n a b e = sym (clipped_times n a (2 ^ 32)) ∙ ap (λ k. clipped (n * k)) e ∙ clipped_times n b (2 ^ 32)

alike_sum : (a b c d : ℕ) → Alike a b → Alike c d → Alike (a + c) (b + d)
alike_sum a b c d e f = omega arith

alike_max : (a b c d : ℕ) → Alike a b → Alike c d → Alike (max a c) (max b d)
alike_max a b c d e f = omega arith

most_alike : (output : ℕ) (c d : ℕ → ℕ) → ((f : ℕ) → Alike (c f) (d f)) → (s : Steps) → Alike (most_in output c s) (most_in output d s)
most_alike output c d h Done = refl
most_alike output c d h (SetLocal at k e rest) = most_alike output c d h rest
most_alike output c d h (SetScalar at g ty e rest) = most_alike output c d h rest
most_alike output c d h (SetElement at g ty index e rest) = most_alike output c d h rest
most_alike output c d h (Output at e rest) = alike_sum output output _ _ refl (most_alike output c d h rest)
most_alike output c d h (Input at k rest) = most_alike output c d h rest
most_alike output c d h (If at condition taken other rest) =
    alike_sum _ _ _ _ (alike_max _ _ _ _ (most_alike output c d h taken) (most_alike output c d h other)) (most_alike output c d h rest)
most_alike output c d h (For at k low closed high step turns body rest) =
    alike_sum _ _ _ _ (alike_product turns _ _ (most_alike output c d h body)) (most_alike output c d h rest)
most_alike output c d h (While at turns condition body rest) =
    alike_sum _ _ _ _ (alike_product turns _ _ (most_alike output c d h body)) (most_alike output c d h rest)
most_alike output c d h (Call at target f arguments rest) = alike_sum _ _ _ _ (h f) (most_alike output c d h rest)

-- ---- one function after another

-- the first n functions are told
abbrev Known : Tally → List Routine → ℕ → List ℕ → Type 0
Known tally all n known = (f : ℕ) → slice_index known f ≡ clipped (most_below tally all n f)

one_more : (tally : Tally) (all : List Routine) (n : ℕ) (r : Routine) (known : List ℕ) (count : ℕ) → slice_get all n ≡ Some r → length known ≡ n → Known tally all n known →
    count ≡ clipped (tally.call r + most_in tally.output (slice_index known) r.body) → Known tally all (suc n) (known ++ count ∷ [])
one_more tally all n r known count is long h e f =
    ⊎_elim
    (λ (same : f ≡ n).
    ap (slice_index (known ++ count ∷ [])) same ∙ at_last known n count long ∙ e
    ∙ alike_sum (tally.call r) (tally.call r) (most_in tally.output (slice_index known) r.body) (most_in tally.output (most_below tally all n) r.body) refl
    (most_alike tally.output (slice_index known) (most_below tally all n) (λ g. let k = h g in omega arith) r.body)
    ∙ ap (λ o. clipped (most_of tally (most_below tally all n) o)) (sym is)
    ∙ ap (λ b. clipped (cond b (most_of tally (most_below tally all n) (slice_get all n)) (most_below tally all n f))) (sym (eq-eqb f n same)))
    (λ (other : f ≡ n → ⊥).
    put_last known n count f long other ∙ h f
    ∙ ap (λ b. clipped (cond b (most_of tally (most_below tally all n) (slice_get all n)) (most_below tally all n f))) (sym (ne_eqb f n other)))
    (cases_eq f n)

-- a tally counts so much for a mark
abbrev Counts : Tally → ℕ → Type 0
Counts tally mark = (turns : ℕ → ℕ) (m : ℕ) (r : RoutineTree) → tally.call (routine_of turns m r) ≡ mark_of mark r

behind_is : (tally : Tally) (mark : ℕ) (turns : List ℕ) (all : List Routine) (m n : ℕ) (rs : List RoutineTree) (known : List ℕ) → Counts tally mark →
    drop n all ≡ routines_of (slice_index turns) m rs → length known ≡ n → Known tally all n known →
    Known tally all (n + length rs) (counts_behind tally.output mark known (drop m turns) rs)
behind_is tally mark turns all m n [] known counts e long h f = let z : n ≡ n + 0 = omega arith in h f ∙ ap (λ k. clipped (most_below tally all k f)) z
behind_is tally mark turns all m n (r ∷ rs) known counts e long h f =
    let plain : Routine = routine_of (slice_index turns) m r in
    let others : List Routine = routines_of (slice_index turns) (m + loops_of r.body) rs in
    let count : ℕ = count_of_routine tally.output mark known (drop m turns) r in
    let next : suc n + length rs ≡ n + suc (length rs) = omega arith in
    let body = step_most tally.output (slice_index known) turns m r.body Done in
    let called = counts (slice_index turns) m r in
    let told : count ≡ clipped (tally.call plain + most_in tally.output (slice_index known) plain.body) = omega (arith, body, called) in
    let left : drop (loops_of r.body) (drop m turns) ≡ drop (m + loops_of r.body) turns = drop-drop (loops_of r.body) m turns in
    ap (λ ts. slice_index (counts_behind tally.output mark (known ++ count ∷ []) ts rs) f) left
    ∙ behind_is tally mark turns all (m + loops_of r.body) (suc n) rs (known ++ count ∷ []) counts (rest_of_rest all n plain others e)
    (omega (arith, length-append known (count ∷ []), long)) (one_more tally all n plain known count (first_of_rest all n plain others e) long h told) f
    ∙ ap (λ k. clipped (most_below tally all k f)) next

routines_long : (turns : ℕ → ℕ) (m : ℕ) (rs : List RoutineTree) → length (routines_of turns m rs) ≡ length rs
routines_long turns m [] = refl
routines_long turns m (r ∷ rs) = ap suc (routines_long turns (m + loops_of r.body) rs)

job_is : (tally : Tally) (mark : ℕ) (turns : List ℕ) (r : ResolvedTree) → Counts tally mark →
    slice_index (counts_behind tally.output mark [] turns (items_of r.routines)) r.job ≡ clipped (most_in_job tally (resolved_of (slice_index turns) r))
job_is tally mark turns r counts =
    let all : List Routine = routines_of (slice_index turns) 0 (items_of r.routines) in
    let count : 0 + length (items_of r.routines) ≡ length all = omega (arith, routines_long (slice_index turns) 0 (items_of r.routines)) in
    behind_is tally mark turns all 0 0 (items_of r.routines) [] counts refl refl (λ f. refl) r.job ∙ ap (λ k. clipped (most_below tally all k r.job)) count

outputs_count : Counts outputs_tally 0
outputs_count turns m r = by r.text.now.mark
  where
    by : (mark : Option Mark) → 0 ≡ mark_if 0 mark
    by None = refl
    by (Some m) = refl

marks_count : Counts marks_tally 1
marks_count turns m r = by r.text.now.mark
  where
    by : (mark : Option Mark) → truth (is_some (option_map mark_text mark)) ≡ mark_if 1 mark
    by None = refl
    by (Some m) = refl

pub outputs_are : (turns : List ℕ) (r : ResolvedTree) → slice_index (counts_behind 1 0 [] turns (items_of r.routines)) r.job ≡ clipped (outputs_of (resolved_of (slice_index turns) r))
outputs_are turns r = job_is outputs_tally 0 turns r outputs_count

pub marked_calls_are : (turns : List ℕ) (r : ResolvedTree) → slice_index (counts_behind 0 1 [] turns (items_of r.routines)) r.job ≡ clipped (marked_calls_of (resolved_of (slice_index turns) r))
marked_calls_are turns r = job_is marks_tally 1 turns r marks_count
