-- The first rule that functions break, found from the last to the first, is the one that is defined.
use Rattle.std.proofs.Common.{◌≡◌, ℕ, zero, suc, ◌+◌, ◌<◌, ◌≤◌, drop, subst, List, [], ◌∷◌, length, map, get_or, refl, ap, sym, ◌∙◌, arith, Option, None, Some}
use Rattle.std.specs.Prelude.{slice_get, ◌-◌, Vec}
use Rattle.prem_annotate.proofs.Prelude.{plain_routine, outlook_of, outlook, outlook_with, row_of, with_arguments, with_slots, empty_row, routine_with, unwatched_site, breaches_among}
use Rattle.prem_annotate.proofs.Prelude.{first_in, passed, ParameterRange as SlotTree, new_ranges_hold, first_other, with_parameters, ranged_routine, ranged_routines, calls_of_all, items_of}
use Rattle.prem_annotate.proofs.Prelude.{SameSite, both_same, in_routine-alike, Site, in_routine, RangeBreach, first, first_of, AlikeRoutines, no_routines, next_routine, ProgramHasWords}
use Rattle.prem_annotate.proofs.Prelude.{IsWellFormed, Routine, unlimited, Parameter, GlobalVariable, ProgramText, IsResolved, resolved_of, Resolved as ResolvedTree, drop_all, length-map}
use Rattle.prem_annotate.proofs.Prelude.{Global, flat_map}
use Rattle.prem_annotate.proofs.Noted.{plain_routines}
use Rattle.prem_annotate.proofs.Outlooks.{some_is, looked_before, mapped_drop, mapped_get}
use Rattle.prem_annotate.proofs.Slots.{slots_in, slots_of, no_rows, row_at, slots_range}
use Rattle.prem_annotate.proofs.Turned.{all_ranged_same}
use Rattle.prem_annotate.specs.Ranges.Slots.{ParameterRange}
use Rattle.prem_annotate.specs.declared.ranges.outlook.Outlook.{Outlook as OutlookTree}
use Rattle.prem_ranges.proofs.FirstBreach.{first_of_append}
use Rattle.prem_syntax.specs.Resolved.{Resolved}
use Rattle.prem_tree.specs.declared.resolve.resolved.Routine.{Routine as RoutineTree}

-- ---- from the last function to the first

-- the functions from number n on are looked at
pub record Finding (gs : List GlobalVariable) (rs fs : List Routine) (n : ℕ) (rows : List (List ParameterRange)) (found : Option RangeBreach) : Type 0 where
  pub rows_are : rows ≡ slots_of (passed (calls_of_all (ranged_routines n (drop n fs)))) 0 fs
  pub found_is : found ≡ first_of (breaches_among gs rs n (drop n fs))

-- a function with its row has its ranges
with_row : (fs : List Routine) (m : ℕ) (f : Routine) (rows : List (List ParameterRange)) (row : List ParameterRange) → slice_get fs m ≡ Some f →
    rows ≡ slots_of (passed (calls_of_all (ranged_routines (m + 1) (drop (m + 1) fs)))) 0 fs →
    slice_get rows m ≡ Some row → routine_with row f ≡ ranged_routine (calls_of_all (ranged_routines (m + 1) (drop (m + 1) fs))) m f
with_row fs m f rows row there are row_is =
    let calls = calls_of_all (ranged_routines (m + 1) (drop (m + 1) fs)) in
    let zero_m : 0 + m ≡ m = omega arith in
    let own : row ≡ slots_in (passed calls) m 0 f.text.params =
    some_is row (slots_in (passed calls) m 0 f.text.params)
    (sym row_is ∙ ap (λ l. slice_get l m) are ∙ row_at (passed calls) 0 m fs f there ∙ ap (λ k. Some (slots_in (passed calls) k 0 f.text.params)) zero_m) in
    ap (λ (r : List ParameterRange). with_parameters (with_slots r f.text.params) f) own ∙ ap (λ (ps : List Parameter). with_parameters ps f) (slots_range calls m 0 f.text.params)

found_before : (gs : List GlobalVariable) (rs fs : List Routine) (m : ℕ) (f : Routine) (rows rows' : List (List ParameterRange)) (row : List ParameterRange) (before own found : Option RangeBreach) →
    drop m fs ≡ f ∷ drop (m + 1) fs → slice_get fs m ≡ Some f → Finding gs rs fs (m + 1) rows before → slice_get rows m ≡ Some row → rows' ≡ with_arguments (outlook_with row f).sight.arguments rows →
    own ≡ first_of (in_routine (unwatched_site gs rs) (routine_with row f)) → found ≡ first own before → Finding gs rs fs m rows' found
found_before gs rs fs m f rows rows' row before own found all there behind row_is new_rows own_is found_is =
    let later = ranged_routines (m + 1) (drop (m + 1) fs) in
    let g = ranged_routine (calls_of_all later) m f in
    let site = unwatched_site gs rs in
    let step = looked_before fs m f rows rows' (map outlook later) row (outlook_with row f) all there (record { rows_are = behind.rows_are; found_are = refl }) row_is refl new_rows in
    let this : own ≡ first_of (in_routine site g) = own_is ∙ ap (λ (x : Routine). first_of (in_routine site x)) (with_row fs m f rows row there behind.rows_are row_is) in
    record {
      rows_are = step.rows_are;
      found_is = found_is ∙ (λ i. first (this i) (behind.found_is i)) ∙ sym (first_of_append (in_routine site g) (flat_map (in_routine site) later))
          ∙ ap (λ l. first_of (breaches_among gs rs m l)) (sym all);
    }

pub found_next : (gs : List GlobalVariable) (rs : List Routine) (routines : List RoutineTree) (n : ℕ) (r : RoutineTree)
    (rows rows' : List (Vec SlotTree Global)) (row : Vec SlotTree Global) (o : OutlookTree) (before own found : Option RangeBreach) →
    0 < n → n ≤ length routines → n ≤ length rows → r ≡ get_or routines (n - 1) r → row ≡ get_or rows (n - 1) row → Finding gs rs (map plain_routine routines) n (map row_of rows) before →
    outlook_of o ≡ outlook_with (row_of row) (plain_routine r) → map row_of rows' ≡ with_arguments (outlook_of o).sight.arguments (map row_of rows) →
    own ≡ first_of (in_routine (unwatched_site gs rs) (routine_with (row_of row) (plain_routine r))) → found ≡ first own before →
    Finding gs rs (map plain_routine routines) (n - 1) (map row_of rows') found
found_next gs rs routines n r rows rows' row o before own found some within there is_r is_row behind o_is new_rows own_is found_is =
    let fs = map plain_routine routines in
    let m = n - 1 in
    let e : n ≡ m + 1 = omega arith in
    found_before gs rs fs m (plain_routine r) (map row_of rows) (map row_of rows') (row_of row) before own found
    (mapped_drop plain_routine routines m r (omega arith) is_r) (mapped_get plain_routine routines m r (omega arith) is_r)
    (subst (λ k. Finding gs rs fs k (map row_of rows) before) e behind) (mapped_get row_of rows m row (omega arith) is_row)
    (new_rows ∙ ap (λ x. with_arguments x.sight.arguments (map row_of rows)) o_is) own_is found_is

pub none_found : (gs : List GlobalVariable) (rs : List Routine) (routines : List RoutineTree) (rows : List (Vec SlotTree Global)) → map row_of rows ≡ map empty_row (map plain_routine routines) →
    Finding gs rs (map plain_routine routines) (length routines) (map row_of rows) None
none_found gs rs routines rows is =
    let fs = map plain_routine routines in
    let none : drop (length routines) fs ≡ [] = drop_all (length routines) fs (let e = length-map routines plain_routine in omega (arith, e)) in
    record {
      rows_are = is ∙ no_rows 0 fs ∙ ap (λ l. slots_of (passed (calls_of_all (ranged_routines (length routines) l))) 0 fs) (sym none);
      found_is = ap (λ l. first_of (breaches_among gs rs (length routines) l)) (sym none);
    }

-- what stands at a number, looked up twice
pub same_got : {A : Type 0} (xs : List A) (k : ℕ) (a b : A) → k < length xs → a ≡ get_or xs k a → b ≡ get_or xs k b → a ≡ b
same_got [] k a b within is_a is_b = absurd (omega arith)
same_got (x ∷ xs) zero a b within is_a is_b = is_a ∙ sym is_b
same_got (x ∷ xs) (suc k) a b within is_a is_b = same_got xs k a b (omega arith) is_a is_b

-- ---- programs in memory

same_site : (site : Site) → SameSite site site
same_site site = record { globals = refl; watches = refl; parameters = λ f. refl }

alike_breaches : {turn : ℕ → ℕ → Type 0} {fs gs : List Routine} (site : Site) → AlikeRoutines turn fs gs → flat_map (in_routine site) fs ≡ flat_map (in_routine site) gs
alike_breaches site no_routines = refl
alike_breaches site (next_routine same rest) = both_same _ _ _ _ (in_routine-alike same site site (same_site site)) (alike_breaches site rest)

pub first_other_is : (r : ResolvedTree) (p : ProgramText) → IsResolved r p → IsWellFormed p → ProgramHasWords p →
    first_in (resolved_of unlimited.turns r) (map plain_routine (items_of r.routines)) ≡ first_other p
unfolding first_other
first_other_is r p is formed words =
    let all = resolved_of unlimited.turns r in
    ap first_of (alike_breaches (unwatched_site all.globals all.routines) (all_ranged_same 0 (plain_routines unlimited.turns 0 (items_of r.routines))))
    ∙ ap (λ (x : Resolved). first_of (breaches_among x.globals x.routines 0 x.routines)) (is.same unlimited.turns)
    ∙ ap first_of (sym (new_ranges_hold p formed words))
