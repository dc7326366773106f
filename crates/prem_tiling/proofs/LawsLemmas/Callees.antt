-- Callees stand before their callers; and those in a program with tiles are tiles, or were callees.
use Rattle.std.proofs.Common.{◌≡◌, ℕ, zero, suc, ◌+◌, ◌<◌, ◌≤◌, Bool, true, false, cond, not, ◌&&◌, ◌||◌, List, [], ◌∷◌, ◌++◌, length, map, refl, ap, sym, ◌∙◌, subst, arith, Option, None}
use Rattle.std.proofs.Common.{Some, eqb, ltb, is_some, ◌⊎◌, inl, inr, ⊎_elim, true≢false, slice_index_or}
use Rattle.prem_tiling.proofs.Prelude.{Around, around, if_at, in_expression, in_expressions, in_call_target, in_callee, in_names, is_between, is_loop, is_void, is_marked_text, in_statement}
use Rattle.prem_tiling.proofs.Prelude.{in_statements, in_option, in_regions, regions_of, in_heading, in_parameters, in_locals, parameter_texts, callee_number, callees, callees_within}
use Rattle.prem_tiling.proofs.Prelude.{in_function, in_global, in_items, has_number, is_in_set, find_function, functions_of, scope_at, scope_in, CallOrder, OfTypes, LoopForm, Text}
use Rattle.prem_tiling.proofs.Prelude.{Expression, Statement, block, if_then, if_else, bounded_while, counting_for, assign, output, input, call, Statements, no_statements, next_statement}
use Rattle.prem_tiling.proofs.Prelude.{FunctionText, global_item, function_item, ProgramText, GlobalVariable, Place, renumbered, has_call, have_call, Cut, tile_name, calls_from, with_tiles}
use Rattle.prem_tiling.proofs.Prelude.{all_with_tiles, or_cases, eqb-true, eq-eqb, ltb-true, slice_get, bytes_eq}
use Rattle.prem_syntax.specs.Rules.{MarkedCall}
use Rattle.prem_tiling.proofs.LawsLemmas.Formed.{none_left, none_right, kept_rule_not}
use Rattle.prem_tiling.proofs.LawsLemmas.Reached.{Old, IsTile}
use Rattle.prem_tiling.proofs.LawsLemmas.Rules.{Kept}
use Rattle.prem_tiling.proofs.LawsLemmas.Tied.{neither_left, neither_right, either_left, either_right}
use Rattle.prem_syntax.specs.declared.rules.TypeRule.TheVariants as rule

-- ---- numbers in lists

number_append : (xs ys : List ℕ) (n : ℕ) → has_number (xs ++ ys) n ≡ true → (has_number xs n ≡ true) ⊎ (has_number ys n ≡ true)
number_append [] ys n e = inr e
number_append (x ∷ xs) ys n e = by (eqb x n) e (number_append xs ys n)
  where
    by : (b : Bool) → (b || has_number (xs ++ ys) n) ≡ true → (has_number (xs ++ ys) n ≡ true → (has_number xs n ≡ true) ⊎ (has_number ys n ≡ true)) →
        ((b || has_number xs n) ≡ true) ⊎ (has_number ys n ≡ true)
    by true h next = inl refl
    by false h next = next h

number_left : (xs ys : List ℕ) (n : ℕ) → has_number xs n ≡ true → has_number (xs ++ ys) n ≡ true
number_left [] ys n e = absurd (true≢false (sym e))
number_left (x ∷ xs) ys n e = by (eqb x n) e (number_left xs ys n)
  where
    by : (b : Bool) → (b || has_number xs n) ≡ true → (has_number xs n ≡ true → has_number (xs ++ ys) n ≡ true) → (b || has_number (xs ++ ys) n) ≡ true
    by true h next = refl
    by false h next = next h

number_right : (xs ys : List ℕ) (n : ℕ) → has_number ys n ≡ true → has_number (xs ++ ys) n ≡ true
number_right [] ys n e = e
number_right (x ∷ xs) ys n e = either_right (eqb x n) (has_number (xs ++ ys) n) (number_right xs ys n e)

only_number : (k n : ℕ) → has_number (k ∷ []) n ≡ true → k ≡ n
only_number k n e = ⊎_elim (λ (a : eqb k n ≡ true). eqb-true k n a) (λ (b : false ≡ true). absurd (true≢false (sym b))) (or_cases (eqb k n) false e)

no_number : (n : ℕ) → has_number [] n ≡ true → ⊥
no_number n e = true≢false (sym e)

-- ---- callees stand before

module _ (place : Around) where
  abbrev fs : List FunctionText
  fs = place.scope.functions

  callee_before : (at : Place) (callee : Text) (has : Bool) (k : ℕ) (found : Option (ℕ × FunctionText)) → in_callee at place callee has k found ≡ [] →
      (n : ℕ) → has_number (callee_number found) n ≡ true → n < place.number
  callee_before at callee has k None e n h = absurd (no_number n h)
  callee_before at callee has k (Some g) e n h =
      let order = if_at (not (ltb g.0 place.number)) at CallOrder in
      let mark = if_at (is_marked_text g.1 && not place.is_job) at MarkedCall in
      let void = if_at (has && is_void g.1.ty) at (OfTypes rule.Target) in
      let count = if_at (not (eqb (length g.1.params) k)) at (OfTypes rule.Count) in
      let first = none_left order mark (none_left (order ++ mark) void (none_left (order ++ mark ++ void) count e)) in
      let lt = ltb-true g.0 place.number (kept_rule_not (ltb g.0 place.number) at CallOrder first) in
      let same = only_number g.0 n h in
      omega arith

  mutual
    callees_before : (s : Statement) → in_statement place s ≡ [] → (n : ℕ) → has_number (callees fs s) n ≡ true → n < place.number
    callees_before (block at body) e n h = all_callees_before body e n h
    callees_before (if_then at condition taken) e n h = callees_before taken (none_right (in_expression place.scope condition) (in_statement place taken) e) n h
    callees_before (if_else at condition taken other) e n h =
        let front = none_left (in_expression place.scope condition ++ in_statement place taken) (in_statement place other) e in
        ⊎_elim (λ (a : has_number (callees fs taken) n ≡ true). callees_before taken (none_right (in_expression place.scope condition) (in_statement place taken) front) n a)
        (λ (b : has_number (callees fs other) n ≡ true). callees_before other
        (none_right (in_expression place.scope condition ++ in_statement place taken) (in_statement place other) e) n b)
        (number_append (callees fs taken) (callees fs other) n h)
    callees_before (bounded_while at most condition body) e n h =
        callees_before body (none_right (if_at (not (is_between 1 1048576 most)) at LoopForm ++ in_expression place.scope condition)
        (in_statement place body) e) n h
    callees_before (counting_for at names low closed high step body) e n h =
        callees_before body (none_right
        (in_names at place.scope names ++ if_at (not (is_loop place.scope names low high step body)) at LoopForm ++ in_expression place.scope low
        ++ in_expression place.scope high) (in_statement place body) e) n h
    callees_before (assign at name index value) e n h = absurd (no_number n h)
    callees_before (output at value) e n h = absurd (no_number n h)
    callees_before (input at name) e n h = absurd (no_number n h)
    callees_before (call at target callee es) e n h =
        let called = in_callee at place callee (is_some target) (length es) (find_function fs callee) in
        callee_before at callee (is_some target) (length es) (find_function fs callee)
        (none_right (in_call_target at place.scope target) called
        (none_left (in_call_target at place.scope target ++ called) (in_expressions place.scope es) e)) n h

    pub all_callees_before : (ss : Statements) → in_statements place ss ≡ [] → (n : ℕ) → has_number (callees_within fs ss) n ≡ true → n < place.number
    all_callees_before no_statements e n h = absurd (no_number n h)
    all_callees_before (next_statement s ss) e n h =
        ⊎_elim (λ (a : has_number (callees fs s) n ≡ true). callees_before s (none_left (in_statement place s) (in_statements place ss) e) n a)
        (λ (b : has_number (callees_within fs ss) n ≡ true). all_callees_before ss (none_right (in_statement place s) (in_statements place ss) e) n b)
        (number_append (callees fs s) (callees_within fs ss) n h)

-- ---- callees with tiles

old_with : {first tiles n : ℕ} {P Q : ℕ → Type 0} → ((k : ℕ) → P k → Q k) → IsTile first tiles n ⊎ Old first tiles P n → IsTile first tiles n ⊎ Old first tiles Q n
old_with more (inl t) = inl t
old_with more (inr o) = inr (record { number = o.number; other = o.other; is = o.is; fact = more o.number o.fact })

module _ (c : Cut) (first : ℕ) (place : Around) (fs' : List FunctionText) (kept : Kept c first place.scope.functions fs') where
  abbrev old : List FunctionText
  old = place.scope.functions

  abbrev Moved : List ℕ → ℕ → Type 0
  Moved ks n = IsTile first c.tiles n ⊎ Old first c.tiles (λ k. has_number ks k ≡ true) n

  abbrev T : Statement → List ℕ
  T s = callees fs' (with_tiles c.function.name c.tiles s)

  calls_are_tiles : (at : Place) (m t : ℕ) → t + m ≡ c.tiles → (n : ℕ) → has_number (callees_within fs' (calls_from at c.function.name t m)) n ≡ true → IsTile first c.tiles n
  calls_are_tiles at zero t ends n h = absurd (no_number n h)
  calls_are_tiles at (suc m) t ends n h =
      let lt : t < c.tiles = omega arith in
      let here = ap callee_number (kept.tiles_are t lt) in
      ⊎_elim (λ (a : has_number (callee_number (find_function fs' (tile_name c.function.name t))) n ≡ true).
      let same : first + t ≡ n = only_number (first + t) n (ap (λ ks. has_number ks n) (sym here) ∙ a) in
      ((let x : first ≤ n = omega arith in x), (let y : n < first + c.tiles = omega arith in y)))
      (λ (b : has_number (callees_within fs' (calls_from at c.function.name (t + 1) m)) n ≡ true). calls_are_tiles at m (t + 1) (omega arith) n b)
      (number_append (callee_number (find_function fs' (tile_name c.function.name t))) (callees_within fs' (calls_from at c.function.name (t + 1) m)) n h)

  call_moved : (at : Place) (target : Option Text) (callee : Text) (es : List Expression) (named : Bool) → bytes_eq callee c.function.name ≡ named →
      (found : Option (ℕ × FunctionText)) → find_function old callee ≡ found →
      in_callee at place callee (is_some target) (length es) found ≡ [] → (n : ℕ) →
      has_number (callees fs' (cond named (block at (calls_from at c.function.name 0 c.tiles)) (call at target callee es))) n ≡ true →
      Moved (callee_number found) n
  call_moved at target callee es true is found has e n h = inl (calls_are_tiles at c.tiles 0 (omega arith) n h)
  call_moved at target callee es false is None has e n h = cc
  call_moved at target callee es false is (Some g) has e n h =
      let others = kept.others callee g is has in
      let same : renumbered first c.tiles g.0 ≡ n = only_number (renumbered first c.tiles g.0) n (ap (λ o. has_number (callee_number o) n) (sym others.1) ∙ h) in
      inr (record { number = g.0; other = others.0; is = sym same; fact = either_left (eqb g.0 g.0) false (eq-eqb g.0 g.0 refl) })

  mutual
    callees_moved : (s : Statement) → in_statement place s ≡ [] → (n : ℕ) → has_number (callees fs' (with_tiles c.function.name c.tiles s)) n ≡ true → Moved (callees old s) n
    callees_moved (block at body) e n h = all_callees_moved body e n h
    callees_moved (if_then at condition taken) e n h = callees_moved taken (none_right (in_expression place.scope condition) (in_statement place taken) e) n h
    callees_moved (if_else at condition taken other) e n h =
        let front = none_left (in_expression place.scope condition ++ in_statement place taken) (in_statement place other) e in
        ⊎_elim (λ (a : has_number (T taken) n ≡ true). old_with (λ k. number_left (callees old taken) (callees old other) k)
        (callees_moved taken (none_right (in_expression place.scope condition) (in_statement place taken) front) n a))
        (λ (b : has_number (T other) n ≡ true). old_with (λ k. number_right (callees old taken) (callees old other) k)
        (callees_moved other (none_right (in_expression place.scope condition ++ in_statement place taken) (in_statement place other) e) n b))
        (number_append (T taken) (T other) n h)
    callees_moved (bounded_while at most condition body) e n h =
        callees_moved body (none_right (if_at (not (is_between 1 1048576 most)) at LoopForm ++ in_expression place.scope condition)
        (in_statement place body) e) n h
    callees_moved (counting_for at names low closed high step body) e n h =
        callees_moved body (none_right
        (in_names at place.scope names ++ if_at (not (is_loop place.scope names low high step body)) at LoopForm ++ in_expression place.scope low
        ++ in_expression place.scope high) (in_statement place body) e) n h
    callees_moved (assign at name index value) e n h = absurd (no_number n h)
    callees_moved (output at value) e n h = absurd (no_number n h)
    callees_moved (input at name) e n h = absurd (no_number n h)
    callees_moved (call at target callee es) e n h =
        let called = in_callee at place callee (is_some target) (length es) (find_function old callee) in
        call_moved at target callee es (bytes_eq callee c.function.name) refl (find_function old callee) refl
        (none_right (in_call_target at place.scope target) called
        (none_left (in_call_target at place.scope target ++ called) (in_expressions place.scope es) e)) n h

    pub all_callees_moved : (ss : Statements) → in_statements place ss ≡ [] → (n : ℕ) →
        has_number (callees_within fs' (all_with_tiles c.function.name c.tiles ss)) n ≡ true → Moved (callees_within old ss) n
    all_callees_moved no_statements e n h = absurd (no_number n h)
    all_callees_moved (next_statement s ss) e n h =
        let here = callees fs' (with_tiles c.function.name c.tiles s) in
        let later = callees_within fs' (all_with_tiles c.function.name c.tiles ss) in
        ⊎_elim (λ (a : has_number here n ≡ true). old_with (λ k. number_left (callees old s) (callees_within old ss) k)
        (callees_moved s (none_left (in_statement place s) (in_statements place ss) e) n a))
        (λ (b : has_number later n ≡ true). old_with (λ k. number_right (callees old s) (callees_within old ss) k)
        (all_callees_moved ss (none_right (in_statement place s) (in_statements place ss) e) n b))
        (number_append here later n h)

-- ---- no call, no callee

mutual
  pub calls_nothing : (fs : List FunctionText) (s : Statement) → has_call s ≡ false → (n : ℕ) → has_number (callees fs s) n ≡ true → ⊥
  calls_nothing fs (block at body) e n h = all_calls_nothing fs body e n h
  calls_nothing fs (if_then at condition taken) e n h = calls_nothing fs taken e n h
  calls_nothing fs (if_else at condition taken other) e n h =
      ⊎_elim (λ (a : has_number (callees fs taken) n ≡ true). calls_nothing fs taken (neither_left (has_call taken) (has_call other) e) n a)
      (λ (b : has_number (callees fs other) n ≡ true). calls_nothing fs other (neither_right (has_call taken) (has_call other) e) n b) (number_append (callees fs taken) (callees fs other) n h)
  calls_nothing fs (bounded_while at most condition body) e n h = calls_nothing fs body e n h
  calls_nothing fs (counting_for at names low closed high step body) e n h = calls_nothing fs body e n h
  calls_nothing fs (assign at name index value) e n h = no_number n h
  calls_nothing fs (output at value) e n h = no_number n h
  calls_nothing fs (input at name) e n h = no_number n h
  calls_nothing fs (call at target callee es) e n h = true≢false e

  all_calls_nothing : (fs : List FunctionText) (ss : Statements) → have_call ss ≡ false → (n : ℕ) → has_number (callees_within fs ss) n ≡ true → ⊥
  all_calls_nothing fs no_statements e n h = no_number n h
  all_calls_nothing fs (next_statement s ss) e n h =
      ⊎_elim (λ (a : has_number (callees fs s) n ≡ true). calls_nothing fs s (neither_left (has_call s) (have_call ss) e) n a)
      (λ (b : has_number (callees_within fs ss) n ≡ true). all_calls_nothing fs ss (neither_right (has_call s) (have_call ss) e) n b) (number_append (callees fs s) (callees_within fs ss) n h)

-- ---- tables

-- a function of some, at a place, calls another
pub record Row (fs all : List FunctionText) (m n : ℕ) : Type 0 where
  pub text : FunctionText
  pub stands : slice_get all m ≡ Some text
  pub calls : has_number (callees_within fs text.body) n ≡ true

pub row_of : (fs all : List FunctionText) (m n : ℕ) → has_number (slice_index_or (map (λ (f : FunctionText). callees_within fs f.body) all) m []) n ≡ true → Row fs all m n
row_of fs [] m n e = absurd (no_number n e)
row_of fs (f ∷ all) zero n e = record { text = f; stands = refl; calls = e }
row_of fs (f ∷ all) (suc m) n e = let r = row_of fs all m n e in record { text = r.text; stands = r.stands; calls = r.calls }

pub of_row : (fs all : List FunctionText) (m n : ℕ) (f : FunctionText) → slice_get all m ≡ Some f → has_number (callees_within fs f.body) n ≡ true →
    has_number (slice_index_or (map (λ (f : FunctionText). callees_within fs f.body) all) m []) n ≡ true
of_row fs [] m n f is e = cc
of_row fs (g ∷ all) zero n f is e = let same : g ≡ f = cc in ap (λ (h : FunctionText). has_number (callees_within fs h.body) n) same ∙ e
of_row fs (g ∷ all) (suc m) n f is e = of_row fs all m n f is e

pub mark_of : (all : List FunctionText) (m : ℕ) → is_in_set (map is_marked_text all) m ≡ true → (f : FunctionText) × (slice_get all m ≡ Some f) × (is_marked_text f ≡ true)
mark_of [] m e = absurd (true≢false (sym e))
mark_of (f ∷ all) zero e = (f, refl, e)
mark_of (f ∷ all) (suc m) e = mark_of all m e

pub of_mark : (all : List FunctionText) (m : ℕ) (f : FunctionText) → slice_get all m ≡ Some f → is_marked_text f ≡ true → is_in_set (map is_marked_text all) m ≡ true
of_mark [] m f is e = cc
of_mark (g ∷ all) zero f is e = let same : g ≡ f = cc in ap is_marked_text same ∙ e
of_mark (g ∷ all) (suc m) f is e = of_mark all m f is e

-- ---- functions at their numbers break no rule

pub record Placed (fs : List FunctionText) (taken : List Text) (within : List Bool) (n : ℕ) (f : FunctionText) : Type 0 where
  pub globals : List GlobalVariable
  pub earlier : List Text
  pub formed : in_function fs taken n (is_in_set within n) globals earlier f ≡ []

pub placed : (fs : List FunctionText) (taken : List Text) (within : List Bool) (k : ℕ) (gs : List GlobalVariable) (earlier : List Text)
    (xs : ProgramText) → in_items fs taken within k gs earlier xs ≡ [] → (i : ℕ) (f : FunctionText) → slice_get (functions_of xs) i ≡ Some f →
    Placed fs taken within (k + i) f
placed fs taken within k gs earlier [] e i f is = cc
placed fs taken within k gs earlier (global_item g ∷ xs) e i f is =
    placed fs taken within k (gs ++ g ∷ []) (earlier ++ g.name ∷ []) xs
    (none_right (in_global earlier g) (in_items fs taken within k (gs ++ g ∷ []) (earlier ++ g.name ∷ []) xs) e) i f is
placed fs taken within k gs earlier (function_item h ∷ xs) e zero f is =
    let same : h ≡ f = cc in
    let z : k ≡ k + 0 = omega arith in
    subst (λ n. Placed fs taken within n f) z
    (subst (Placed fs taken within k) same
    (record {
      globals = gs;
      earlier = earlier;
      formed =
          none_left (in_function fs taken k (is_in_set within k) gs earlier h) (in_items fs taken within (k + 1) gs (earlier ++ h.name ∷ []) xs) e;
    }))
placed fs taken within k gs earlier (function_item h ∷ xs) e (suc i) f is =
    let z : k + 1 + i ≡ k + suc i = omega arith in
    subst (λ n. Placed fs taken within n f) z
    (placed fs taken within (k + 1) gs (earlier ++ h.name ∷ []) xs
    (none_right (in_function fs taken k (is_in_set within k) gs earlier h) (in_items fs taken within (k + 1) gs (earlier ++ h.name ∷ []) xs) e) i f is)

pub body_formed : (fs : List FunctionText) (taken : List Text) (n : ℕ) (within : Bool) (gs : List GlobalVariable) (earlier : List Text)
    (f : FunctionText) → in_function fs taken n within gs earlier f ≡ [] → in_statements (around (scope_in fs gs f) n within f) f.body ≡ []
body_formed fs taken n within gs earlier f e =
    let r = in_regions (scope_at fs gs f) (regions_of f.mark) in
    let h = in_heading earlier f in
    let ps = in_parameters taken f.params in
    let ls = in_locals (taken ++ parameter_texts f.params) (scope_at fs gs f) f.locals in
    let ss = in_statements (around (scope_in fs gs f) n within f) f.body in
    none_right (r ++ h ++ ps ++ ls) ss (none_left (r ++ h ++ ps ++ ls ++ ss) (in_option (scope_in fs gs f) f.result) e)
