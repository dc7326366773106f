-- What is found of functions, from the last to the first.
use Rattle.std.proofs.Common.{◌≡◌, ℕ, zero, suc, ◌+◌, ◌<◌, ◌≤◌, drop, subst, List, [], ◌∷◌, ◌++◌, length, map, get_or, refl, ap, sym, ◌∙◌, arith, Some}
use Rattle.std.specs.Prelude.{slice_get, ◌-◌, Vec}
use Rattle.prem_annotate.proofs.Prelude.{plain_routine, AllRanged, outlook_of, outlook, outlook_with, Outlook, slot_of, row_of, with_arguments, with_slot, with_slots, empty_row, passed}
use Rattle.prem_annotate.proofs.Prelude.{ParameterRange as SlotTree, with_parameters, ranged_routine, ranged_routines, calls_of, calls_of_all, known_parameter, Ranged, Routine, Parameter}
use Rattle.prem_annotate.proofs.Prelude.{parameter_of, function_of, Param, append-nil, append_assoc, drop_more, drop_all, length-map, reverse-append, Global}
use Rattle.prem_annotate.proofs.Sights.{passed-append}
use Rattle.prem_annotate.proofs.Slots.{slots_in, slots_of, arguments_added, no_rows, row_at, slots_range, slots_long}
use Rattle.prem_annotate.specs.Ranges.Slots.{ParameterRange}
use Rattle.prem_annotate.specs.Seeing.Sight.{Argument}
use Rattle.prem_annotate.specs.declared.ranges.outlook.Outlook.{Outlook as OutlookTree}
use Rattle.prem_tree.specs.declared.resolve.resolved.Routine.{Routine as RoutineTree}
use mathlib.Core.List.{reverse}

-- the functions from number n on are looked at
pub record Inferring (fs : List Routine) (n : ℕ) (rows : List (List ParameterRange)) (found : List Outlook) : Type 0 where
  pub rows_are : rows ≡ slots_of (passed (calls_of_all (ranged_routines n (drop n fs)))) 0 fs
  pub found_are : found ≡ map outlook (ranged_routines n (drop n fs))

pub some_is : {A : Type 0} (a b : A) → Some a ≡ Some b → a ≡ b
some_is a b e = cc

-- the function before these
pub looked_before : (fs : List Routine) (m : ℕ) (f : Routine) (rows rows' : List (List ParameterRange)) (found : List Outlook) (row : List ParameterRange) (o : Outlook) →
    drop m fs ≡ f ∷ drop (m + 1) fs → slice_get fs m ≡ Some f → Inferring fs (m + 1) rows found → slice_get rows m ≡ Some row → o ≡ outlook_with row f → rows' ≡ with_arguments o.sight.arguments rows →
    Inferring fs m rows' (o ∷ found)
looked_before fs m f rows rows' found row o all there behind row_is o_is new_rows =
    let later = ranged_routines (m + 1) (drop (m + 1) fs) in
    let calls = calls_of_all later in
    let g = ranged_routine calls m f in
    let first : 0 + m ≡ m = omega arith in
    let whole : ranged_routines m (drop m fs) ≡ g ∷ later = ap (ranged_routines m) all in
    let own : row ≡ slots_in (passed calls) m 0 f.text.params =
    some_is row (slots_in (passed calls) m 0 f.text.params)
    (sym row_is ∙ ap (λ l. slice_get l m) behind.rows_are ∙ row_at (passed calls) 0 m fs f there
    ∙ ap (λ k. Some (slots_in (passed calls) k 0 f.text.params)) first) in
    let this : o ≡ outlook g = o_is ∙ ap (λ r. outlook (with_parameters (with_slots r f.text.params) f)) own ∙ ap (λ ps. outlook (with_parameters ps f)) (slots_range calls m 0 f.text.params) in
    record {
      rows_are = new_rows ∙ ap (with_arguments o.sight.arguments) behind.rows_are ∙ ap (λ (x : Outlook). with_arguments x.sight.arguments (slots_of (passed calls) 0 fs)) this
          ∙ arguments_added (passed (calls_of g)) (passed calls) fs ∙ ap (λ l. slots_of l 0 fs) (sym (passed-append (calls_of g) calls))
          ∙ ap (λ l. slots_of (passed (calls_of_all l)) 0 fs) (sym whole);
      found_are = (λ i. this i ∷ behind.found_are i) ∙ sym (ap (map outlook) whole);
    }

-- ---- lists in memory

pub mapped_drop : {A B : Type 0} (f : A → B) (xs : List A) (m : ℕ) (x : A) → m < length xs → x ≡ get_or xs m x → drop m (map f xs) ≡ f x ∷ drop (m + 1) (map f xs)
mapped_drop f [] m x within is = absurd (omega arith)
mapped_drop f (y ∷ ys) zero x within is = ap (λ z. f z ∷ map f ys) (sym is)
mapped_drop f (y ∷ ys) (suc m) x within is = let e : suc (m + 1) ≡ suc m + 1 = omega arith in mapped_drop f ys m x (omega arith) is ∙ ap (λ k. f x ∷ drop k (f y ∷ map f ys)) e

pub mapped_get : {A B : Type 0} (f : A → B) (xs : List A) (m : ℕ) (x : A) → m < length xs → x ≡ get_or xs m x → slice_get (map f xs) m ≡ Some (f x)
mapped_get f [] m x within is = absurd (omega arith)
mapped_get f (y ∷ ys) zero x within is = ap (λ z. Some (f z)) (sym is)
mapped_get f (y ∷ ys) (suc m) x within is = mapped_get f ys m x (omega arith) is

pub row_there : (as_ : List Argument) (fs : List Routine) (routines : List RoutineTree) (rows : List (Vec SlotTree Global)) →
    fs ≡ map plain_routine routines → map row_of rows ≡ slots_of as_ 0 fs → length rows ≡ length routines
row_there as_ fs routines rows is are = sym (length-map rows row_of) ∙ ap length are ∙ slots_long as_ 0 fs ∙ ap length is ∙ length-map routines plain_routine

pub inferred_next : (routines : List RoutineTree) (n : ℕ) (r : RoutineTree) (rows rows' : List (Vec SlotTree Global)) (row : Vec SlotTree Global) (all all' : List OutlookTree) (o : OutlookTree) →
    0 < n → n ≤ length routines → n ≤ length rows → r ≡ get_or routines (n - 1) r → row ≡ get_or rows (n - 1) row →
    Inferring (map plain_routine routines) n (map row_of rows) (map outlook_of (reverse all)) →
    outlook_of o ≡ outlook_with (row_of row) (plain_routine r) → map row_of rows' ≡ with_arguments (outlook_of o).sight.arguments (map row_of rows) → all' ≡ all ++ o ∷ [] →
    Inferring (map plain_routine routines) (n - 1) (map row_of rows') (map outlook_of (reverse all'))
inferred_next routines n r rows rows' row all all' o some within there is_r is_row before found new_rows new_all =
    let fs = map plain_routine routines in
    let m = n - 1 in
    let e : n ≡ m + 1 = omega arith in
    let step = looked_before fs m (plain_routine r) (map row_of rows) (map row_of rows') (map outlook_of (reverse all)) (row_of row) (outlook_of o)
    (mapped_drop plain_routine routines m r (omega arith) is_r) (mapped_get plain_routine routines m r (omega arith) is_r)
    (subst (λ k. Inferring fs k (map row_of rows) (map outlook_of (reverse all))) e before) (mapped_get row_of rows m row (omega arith) is_row) found new_rows in
    let reversed : outlook_of o ∷ map outlook_of (reverse all) ≡ map outlook_of (reverse all') = ap (map outlook_of) (sym (reverse-append all (o ∷ [])) ∙ ap reverse (sym new_all)) in
    subst (λ l. Inferring fs m (map row_of rows') l) reversed step

pub none_inferred : (routines : List RoutineTree) (rows : List (Vec SlotTree Global)) (all : List OutlookTree) → map row_of rows ≡ map empty_row (map plain_routine routines) → all ≡ [] →
    Inferring (map plain_routine routines) (length routines) (map row_of rows) (map outlook_of (reverse all))
none_inferred routines rows all is nothing =
    let fs = map plain_routine routines in
    let none : drop (length routines) fs ≡ [] = drop_all (length routines) fs (let e = length-map routines plain_routine in omega (arith, e)) in
    record {
      rows_are = is ∙ no_rows 0 fs ∙ ap (λ l. slots_of (passed (calls_of_all (ranged_routines (length routines) l))) 0 fs) (sym none);
      found_are = ap (λ (l : List OutlookTree). map outlook_of (reverse l)) nothing ∙ ap (λ l. map outlook (ranged_routines (length routines) l)) (sym none);
    }

-- a function's parameters, among all
pub ranged_there : (routines : List RoutineTree) (k : ℕ) (r : RoutineTree) → AllRanged routines → k < length routines → r ≡ get_or routines k r →
    Ranged (map known_parameter (function_of r.text.now).params)
ranged_there routines k r all within is = all.each k r (got routines k r within is)
  where
    got : (rs : List RoutineTree) (k : ℕ) (r : RoutineTree) → k < length rs → r ≡ get_or rs k r → slice_get rs k ≡ Some r
    got [] k r within is = absurd (omega arith)
    got (q ∷ qs) zero r within is = ap Some (sym is)
    got (q ∷ qs) (suc k) r within is = got qs k r (omega arith) is

-- ---- parameters with their slots: what is left gives the whole

pub slots_next : {B : Type 0} (g : Parameter → B) (row : List SlotTree) (ps : List Param) (i : ℕ) (s : SlotTree) (p : Param) (done done' whole : List B) →
    i < length row → i < length ps → s ≡ get_or row i s → p ≡ get_or ps i p → done ++ map g (with_slots (map slot_of (drop i row)) (map parameter_of (drop i ps))) ≡ whole →
    done' ≡ done ++ g (with_slot (slot_of s) (parameter_of p)) ∷ [] → done' ++ map g (with_slots (map slot_of (drop (i + 1) row)) (map parameter_of (drop (i + 1) ps))) ≡ whole
slots_next g row ps i s p done done' whole in_row in_ps is_s is_p left new =
    let all_row : drop i row ≡ s ∷ drop (i + 1) row = drop_more row i s in_row ∙ ap (λ x. x ∷ drop (i + 1) row) (sym is_s) in
    let all_ps : drop i ps ≡ p ∷ drop (i + 1) ps = drop_more ps i p in_ps ∙ ap (λ x. x ∷ drop (i + 1) ps) (sym is_p) in
    let rest = map g (with_slots (map slot_of (drop (i + 1) row)) (map parameter_of (drop (i + 1) ps))) in
    ap (λ l. l ++ rest) new ∙ append_assoc done (g (with_slot (slot_of s) (parameter_of p)) ∷ []) rest
    ∙ sym (λ j. done ++ map g (with_slots (map slot_of (all_row j)) (map parameter_of (all_ps j)))) ∙ left

no_parameters : (ss : List ParameterRange) → with_slots ss [] ≡ []
no_parameters [] = refl
no_parameters (s ∷ ss) = refl

pub parameters_end : {B : Type 0} (g : Parameter → B) (row : List SlotTree) (ps : List Param) (i : ℕ) (done whole : List B) → length ps ≤ i →
    done ++ map g (with_slots (map slot_of (drop i row)) (map parameter_of (drop i ps))) ≡ whole → done ≡ whole
parameters_end g row ps i done whole past left =
    sym (ap (λ (l : List Param). done ++ map g (with_slots (map slot_of (drop i row)) (map parameter_of l))) (drop_all i ps past)
    ∙ ap (λ l. done ++ map g l) (no_parameters (map slot_of (drop i row))) ∙ append-nil done) ∙ left
