-- The annotations by what is found of functions are those of the annotated program.
use Rattle.std.proofs.Common.{◌≡◌, ℕ, ◌+◌, ◌≤◌, List, [], ◌∷◌, ◌++◌, length, map, drop, refl, ap, sym, ◌∙◌, arith}
use Rattle.prem_annotate.proofs.Prelude.{plain_routine, called, Notes, notes, no_lengths, mark_found, all_notes_found, resolved_notes, ranges_of, outlook_of, outlook, Outlook}
use Rattle.prem_annotate.proofs.Prelude.{annotated_mark, marked_routines, texts_of, ranged_routine, ranged_routines, regions_reached, calls_of_all, items_of, alike_done, AlikeRoutine}
use Rattle.prem_annotate.proofs.Prelude.{AlikeRoutines, no_routines, next_routine, callees_in, callee_table, Routine, unlimited, GlobalVariable, FunctionText, function_of, loops_of}
use Rattle.prem_annotate.proofs.Prelude.{routine_of, routines_of, resolved_of, Resolved as ResolvedTree, append-nil, drop_all, option_map, max}
use Rattle.prem_analysis.proofs.MarksLemmas.CalledTrees.{tables_same}
use Rattle.prem_analysis.proofs.RangingLemmas.PlainSteps.{plain-alike}
use Rattle.prem_annotate.proofs.Reaching.{regions_are}
use Rattle.prem_annotate.proofs.Turned.{all_ranged_same, outlooks_same}
use Rattle.prem_annotate.specs.declared.ranges.outlook.Outlook.{Outlook as OutlookTree}
use Rattle.prem_tree.specs.declared.resolve.resolved.Routine.{Routine as RoutineTree}

greater_than_none : (n : ℕ) → n ≡ max n 0
greater_than_none n = grind arith

pub notes_are : (gs : List GlobalVariable) (all : List Routine) (n : ℕ) (fs : List Routine) →
    all_notes_found gs (callee_table all) (map outlook all) n (texts_of fs) (map outlook (ranged_routines n fs)) ≡ map notes (texts_of (marked_routines no_lengths gs all n (ranged_routines n fs)))
notes_are gs all n [] = refl
notes_are gs all n (f ∷ fs) =
    let g = ranged_routine (calls_of_all (ranged_routines (n + 1) fs)) n f in
    let mark : mark_found f.text.at gs (callee_table all) (map outlook all) n ≡ annotated_mark (regions_reached f.text.at gs all n) (no_lengths n) =
    λ i m. record { stated = greater_than_none m.stated i; regions = regions_are f.text.at gs all n i } in
    λ i. record { ranges = ranges_of g.text.params; mark = option_map (mark i) f.text.mark } ∷ notes_are gs all (n + 1) fs i

-- ---- programs in memory

pub plain_routines : (t : ℕ → ℕ) (n : ℕ) (rs : List RoutineTree) → AlikeRoutines (λ _ _. ℕ) (map plain_routine rs) (routines_of t n rs)
plain_routines t n [] = no_routines
plain_routines t n (r ∷ rs) =
    let this : AlikeRoutine (λ _ _. ℕ) (plain_routine r) (routine_of t n r) = record { text = refl; locals = refl; result = refl; body = plain-alike t n r.body alike_done } in
    next_routine this (plain_routines t (n + loops_of r.body) rs)

texts_same : (t : ℕ → ℕ) (n : ℕ) (rs : List RoutineTree) → map (λ (r : RoutineTree). function_of r.text.now) rs ≡ texts_of (routines_of t n rs)
texts_same t n [] = refl
texts_same t n (r ∷ rs) = ap (λ l. function_of r.text.now ∷ l) (texts_same t (n + loops_of r.body) rs)

table_ranged : (n : ℕ) (fs : List Routine) → callee_table fs ≡ callee_table (ranged_routines n fs)
table_ranged n [] = refl
table_ranged n (f ∷ fs) = ap (λ l. callees_in f.body ∷ l) (table_ranged (n + 1) fs)

pub resolved_noted : (r : ResolvedTree) (gs : List GlobalVariable) (table : List (List ℕ)) (os : List Outlook) (all : List Notes) → gs ≡ (resolved_of unlimited.turns r).globals →
    table ≡ map (λ (f : RoutineTree). called f.body) (items_of r.routines) → os ≡ map outlook (ranged_routines 0 (map plain_routine (items_of r.routines))) →
    all ≡ all_notes_found gs table os 0 (map (λ (f : RoutineTree). function_of f.text.now) (items_of r.routines)) os → all ≡ resolved_notes (resolved_of unlimited.turns r)
resolved_noted r gs table os all gs_are table_is os_are is =
    let rs = items_of r.routines in
    let R = (resolved_of unlimited.turns r).routines in
    let G = ranged_routines 0 R in
    let outlooks : os ≡ map outlook G = os_are ∙ outlooks_same (all_ranged_same 0 (plain_routines unlimited.turns 0 rs)) in
    let callees : table ≡ callee_table G = table_is ∙ tables_same unlimited.turns 0 rs ∙ table_ranged 0 R in
    is ∙ (λ i. all_notes_found (gs_are i) (callees i) (outlooks i) 0 (texts_same unlimited.turns 0 rs i) (outlooks i))
    ∙ notes_are (resolved_of unlimited.turns r).globals G 0 R

-- ---- lists in memory: what is left gives the whole

no_notes : (gs : List GlobalVariable) (table : List (List ℕ)) (os : List Outlook) (n : ℕ) (fs : List FunctionText) → all_notes_found gs table os n fs [] ≡ []
no_notes gs table os n [] = refl
no_notes gs table os n (f ∷ fs) = refl

pub notes_end : (gs : List GlobalVariable) (table : List (List ℕ)) (os : List Outlook) (n : ℕ) (fs : List FunctionText) (found : List OutlookTree) (done whole : List Notes) → length found ≤ n →
    done ++ all_notes_found gs table os n fs (map outlook_of (drop n found)) ≡ whole → done ≡ whole
notes_end gs table os n fs found done whole past left =
    sym (ap (λ (l : List OutlookTree). done ++ all_notes_found gs table os n fs (map outlook_of l)) (drop_all n found past) ∙ ap (λ l. done ++ l) (no_notes gs table os n fs) ∙ append-nil done) ∙ left
