-- Expressions and statements that break no rule break none in the program with tiles.
use Rattle.std.proofs.Common.{◌≡◌, ℕ, zero, suc, ◌+◌, ◌<◌, ◌≤◌, Bool, true, false, cond, not, ◌&&◌, ◌||◌, List, [], ◌∷◌, ◌++◌, length, refl, ap, sym, ◌∙◌, arith, Option, None, Some, eqb}
use Rattle.std.proofs.Common.{ltb, is_some, ◌⊎◌, inl, inr, true≢false}
use Rattle.prem_tiling.proofs.Prelude.{Around, if_at, unknown, used_plain, used_indexed, in_expression, in_expressions, in_option, in_assigned, in_target, in_call_target, in_callee}
use Rattle.prem_tiling.proofs.Prelude.{in_names, is_local, is_int_local, is_int, same_name, assigns_within, is_between, is_loop, is_void, is_marked_text, in_statement, in_statements, Scope}
use Rattle.prem_tiling.proofs.Prelude.{find_local, find_global, find_function, first_meaning, meaning_of, resolve_term, kind_of, Rule, Breach, OfTypes, CallOrder, SystemCall, LoopForm, Text}
use Rattle.prem_tiling.proofs.Prelude.{Expression, literal, variable, element, unary, binary, LoopNames, Statement, block, if_then, if_else, bounded_while, counting_for, assign, output}
use Rattle.prem_tiling.proofs.Prelude.{input, call, Statements, no_statements, next_statement, Parameter, GlobalVariable, FunctionText, Meaning, Nothing, Local as LocalName}
use Rattle.prem_tiling.proofs.Prelude.{Scalar as ScalarName, Array as ArrayName, Function as FunctionName, Place, Ty, renumbered, Cut, tile_name, tile_of, calls_from, with_tiles}
use Rattle.prem_tiling.proofs.Prelude.{all_with_tiles, function_with_tiles, and_parts, cases_lt, lt-ltb, ltb-true, bytes_eq-Decides, flat_map, bytes_eq}
use Rattle.prem_syntax.specs.Breaches.{assigns}
use Rattle.prem_syntax.specs.Rules.{MarkedCall}
use Rattle.prem_tiling.proofs.LawsLemmas.Calls.{renumbered_below, renumbered_above, above_first}
use Rattle.prem_tiling.proofs.LawsLemmas.Formed.{none_left, none_right, none_both, kept_rule, kept_rule_not, loop_parts}
use Rattle.prem_tiling.proofs.LawsLemmas.Terms.{with_functions, same_term, same_meaning}
use Rattle.prem_syntax.specs.declared.rules.TypeRule.TheVariants as rule

-- a rule on what a name means that no function and no unknown name keeps
kept_meaning : (R : Meaning → List Breach) → ((n : ℕ) → R (FunctionName n) ≡ [] → ⊥) → (R Nothing ≡ [] → ⊥) →
    (l : Option (ℕ × (Text × Ty))) (g : Option (ℕ × GlobalVariable)) (f f' : Option (ℕ × FunctionText)) →
    R (first_meaning l g f) ≡ [] → R (first_meaning l g f') ≡ []
kept_meaning R no_function nothing (Some l) g f f' e = e
kept_meaning R no_function nothing None (Some g) f f' e = e
kept_meaning R no_function nothing None None (Some f) f' e = absurd (no_function f.0 e)
kept_meaning R no_function nothing None None None f' e = absurd (nothing e)

module _ (fs : List FunctionText) where
  kept_name : (R : Meaning → List Breach) → ((n : ℕ) → R (FunctionName n) ≡ [] → ⊥) → (R Nothing ≡ [] → ⊥) → (scope : Scope) (name : Text) →
      R (meaning_of scope name) ≡ [] → R (meaning_of (with_functions fs scope) name) ≡ []
  kept_name R no_function nothing scope name e = kept_meaning R no_function nothing (find_local scope name) (find_global scope name) (find_function scope.functions name) (find_function fs name) e

  plain_kept : (scope : Scope) (at : Place) (name : Text) → unknown at name (meaning_of scope name) ++ used_plain at (meaning_of scope name) ≡ [] →
      unknown at name (meaning_of (with_functions fs scope) name) ++ used_plain at (meaning_of (with_functions fs scope) name) ≡ []
  plain_kept scope at name e = kept_name (λ m. unknown at name m ++ used_plain at m) (λ n h. cc) (λ h. cc) scope name e

  indexed_kept : (scope : Scope) (at : Place) (name : Text) →
      unknown at name (meaning_of scope name) ++ used_indexed at (meaning_of scope name) ≡ [] →
      unknown at name (meaning_of (with_functions fs scope) name) ++ used_indexed at (meaning_of (with_functions fs scope) name) ≡ []
  indexed_kept scope at name e = kept_name (λ m. unknown at name m ++ used_indexed at m) (λ n h. cc) (λ h. cc) scope name e

  pub target_kept : (scope : Scope) (at : Place) (name : Text) → in_target at scope name ≡ [] → in_target at (with_functions fs scope) name ≡ []
  target_kept scope at name e = kept_name (λ m. unknown at name m ++ if_at (not (is_local m)) at (OfTypes rule.Target)) (λ n h. cc) (λ h. cc) scope name e

  pub expression_formed : (scope : Scope) (e : Expression) → in_expression scope e ≡ [] → in_expression (with_functions fs scope) e ≡ []
  expression_formed scope (literal at value kind) e = refl
  expression_formed scope (variable at name) e = plain_kept scope at name e
  expression_formed scope (element at name index) e =
      let here = unknown at name (meaning_of scope name) ++ used_indexed at (meaning_of scope name) in
      none_both (indexed_kept scope at name (none_left here (in_expression scope index) e)) (expression_formed scope index (none_right here (in_expression scope index) e))
  expression_formed scope (unary at op operand) e = expression_formed scope operand e
  expression_formed scope (binary at op left right) e =
      none_both (expression_formed scope left (none_left (in_expression scope left) (in_expression scope right) e))
      (expression_formed scope right (none_right (in_expression scope left) (in_expression scope right) e))

  expressions_formed : (scope : Scope) (es : List Expression) → in_expressions scope es ≡ [] → in_expressions (with_functions fs scope) es ≡ []
  expressions_formed scope [] e = refl
  expressions_formed scope (x ∷ xs) e =
      none_both (expression_formed scope x (none_left (in_expression scope x) (flat_map (in_expression scope) xs) e))
      (expressions_formed scope xs (none_right (in_expression scope x) (flat_map (in_expression scope) xs) e))

  pub option_formed : (scope : Scope) (o : Option Expression) → in_option scope o ≡ [] → in_option (with_functions fs scope) o ≡ []
  option_formed scope None e = refl
  option_formed scope (Some x) e = expression_formed scope x e

  pub assigned_formed : (scope : Scope) (at : Place) (name : Text) (index : Option Expression) →
      in_assigned at name (meaning_of scope name) index ≡ [] → in_assigned at name (meaning_of (with_functions fs scope) name) index ≡ []
  assigned_formed scope at name None e = plain_kept scope at name e
  assigned_formed scope at name (Some index) e = indexed_kept scope at name e

  call_target_formed : (scope : Scope) (at : Place) (target : Option Text) → in_call_target at scope target ≡ [] → in_call_target at (with_functions fs scope) target ≡ []
  call_target_formed scope at None e = refl
  call_target_formed scope at (Some name) e = target_kept scope at name e

  -- the names of a loop are one local
  pub names_formed : (scope : Scope) (at : Place) (names : LoopNames) → same_name names ≡ true → is_int_local (meaning_of scope names.first) ≡ true → in_names at (with_functions fs scope) names ≡ []
  names_formed scope at names same local =
      let one = and_parts (bytes_eq names.second names.first && bytes_eq names.third names.first) (bytes_eq names.fourth names.first) same in
      let two = and_parts (bytes_eq names.second names.first) (bytes_eq names.third names.first) one.0 in
      none_both (none_both (none_both (known names.first refl) (known names.second ((bytes_eq-Decides names.second names.first).0 two.0)))
      (known names.third ((bytes_eq-Decides names.third names.first).0 two.1)))
      (known names.fourth ((bytes_eq-Decides names.fourth names.first).0 one.1))
    where
      local_known : (name : Text) (m : Meaning) → is_int_local m ≡ true → unknown at name m ≡ []
      local_known name (LocalName k ty) e = refl
      local_known name (ScalarName g ty) e = refl
      local_known name (ArrayName g ty n) e = refl
      local_known name (FunctionName f) e = refl
      local_known name Nothing e = absurd (true≢false (sym e))

      known : (name : Text) → name ≡ names.first → unknown at name (meaning_of (with_functions fs scope) name) ≡ []
      known name is = local_known name (meaning_of (with_functions fs scope) name) (same_meaning fs is_int_local (λ n. refl) scope name ∙ ap (λ x. is_int_local (meaning_of scope x)) is ∙ local)

  -- the form of a loop, where its body assigns as little
  pub form_kept : (scope : Scope) (names : LoopNames) (low high : Expression) (step : ℕ) (body body' : Statement) →
      assigns names.first body' ≡ assigns names.first body → is_loop scope names low high step body ≡ true →
      is_loop (with_functions fs scope) names low high step body' ≡ true
  form_kept scope names low high step body body' same e =
      (λ i. same_name names && same_meaning fs is_int_local (λ n. refl) scope names.first i && not (same i) && is_int
      (kind_of (same_term fs scope low i)) && is_int (kind_of (same_term fs scope high i)) && is_between 1 2047 step) ∙ e

-- a loop has one name
pub same_of_parts : (scope : Scope) (names : LoopNames) (low high : Expression) (step : ℕ) (body : Statement) → is_loop scope names low high step body ≡ true → same_name names ≡ true
same_of_parts scope names low high step body e =
    let a = same_name names in
    let b = is_int_local (meaning_of scope names.first) in
    let d = not (assigns names.first body) in
    let f = is_int (kind_of (resolve_term scope low)) in
    let g = is_int (kind_of (resolve_term scope high)) in
    let h = is_between 1 2047 step in
    (and_parts a b (and_parts (a && b) d (and_parts ((a && b) && d) f (and_parts (((a && b) && d) && f) g (and_parts ((((a && b) && d) && f) && g) h e).0).0).0).0).0

-- ---- calls

-- the functions of a program and of the one with tiles, by name
pub record Kept (c : Cut) (first : ℕ) (fs fs' : List FunctionText) : Type 0 where
  pub no_parameters : c.function.params ≡ []
  pub void : is_void c.function.ty ≡ true
  pub marked : is_marked_text c.function ≡ true
  pub here : (callee : Text) → bytes_eq callee c.function.name ≡ true → find_function fs callee ≡ Some (first, c.function)
  pub others : (callee : Text) (g : ℕ × FunctionText) → bytes_eq callee c.function.name ≡ false → find_function fs callee ≡ Some g →
      (g.0 ≡ first → ⊥) × (find_function fs' callee ≡ Some (renumbered first c.tiles g.0, function_with_tiles c g.1))
  pub tiles_are : (t : ℕ) → t < c.tiles → find_function fs' (tile_name c.function.name t) ≡ Some (first + t, tile_of c t)

and_false : (b : Bool) → (b && false) ≡ false
and_false true = refl
and_false false = refl

pub not_false : (b : Bool) → not b ≡ false → b ≡ true
not_false true e = refl
not_false false e = absurd (true≢false e)

pub unbroken : (b : Bool) (at : Place) (r : Rule) → b ≡ false → if_at b at r ≡ []
unbroken b at r e = ap (λ t. if_at t at r) e

module _ (c : Cut) (first : ℕ) (around : Around) (fs' : List FunctionText) (kept : Kept c first around.scope.functions fs') (some : 0 < c.tiles)
    (elsewhere : around.number ≡ first → ⊥) (within : Bool) (lighter : within ≡ true → around.is_within_marked ≡ true) where
  abbrev there : Around
  there = record { scope = with_functions fs' around.scope; number = renumbered first c.tiles around.number; is_job = around.is_job; is_within_marked = within }

  system_kept : (at : Place) → if_at around.is_within_marked at SystemCall ≡ [] → if_at within at SystemCall ≡ []
  system_kept at e = unbroken within at SystemCall (by within refl)
    where
      by : (b : Bool) → within ≡ b → b ≡ false
      by true is = absurd (true≢false (sym (lighter is) ∙ kept_rule around.is_within_marked at SystemCall e))
      by false is = refl

  order_kept : (g : ℕ) → (g ≡ first → ⊥) → ltb g around.number ≡ true → ltb (renumbered first c.tiles g) (renumbered first c.tiles around.number) ≡ true
  order_kept g other e = lt-ltb (renumbered first c.tiles g) (renumbered first c.tiles around.number) (by (cases_lt g first) (cases_lt around.number first))
    where
      lt : g < around.number
      lt = ltb-true g around.number e

      by : (g < first) ⊎ (first ≤ g) → (around.number < first) ⊎ (first ≤ around.number) → renumbered first c.tiles g < renumbered first c.tiles around.number
      by (inl a) (inl b) = let x = renumbered_below first c.tiles g (omega arith) in let y = renumbered_below first c.tiles around.number (omega arith) in let l = lt in omega arith
      by (inl a) (inr b) = let x = renumbered_below first c.tiles g (omega arith) in let y =
          renumbered_above first c.tiles around.number (above_first first around.number elsewhere b) in let n =
          above_first first around.number elsewhere b in let s = some in let l = lt in omega arith
      by (inr a) (inl b) = let l = lt in absurd (omega arith)
      by (inr a) (inr b) = let x = renumbered_above first c.tiles g (above_first first g other a) in let y =
          renumbered_above first c.tiles around.number (above_first first around.number elsewhere b) in let m = above_first first g other a in let l =
          lt in omega arith

  callee_kept : (at : Place) (callee : Text) (has : Bool) (n : ℕ) (g : ℕ × FunctionText) → (g.0 ≡ first → ⊥) →
      in_callee at around callee has n (Some g) ≡ [] → in_callee at there callee has n (Some (renumbered first c.tiles g.0, function_with_tiles c g.1)) ≡ []
  callee_kept at callee has n g other e =
      let order = if_at (not (ltb g.0 around.number)) at CallOrder in
      let mark = if_at (is_marked_text g.1 && not around.is_job) at MarkedCall in
      let void = if_at (has && is_void g.1.ty) at (OfTypes rule.Target) in
      let count = if_at (not (eqb (length g.1.params) n)) at (OfTypes rule.Count) in
      let three = none_left (order ++ mark ++ void) count e in
      let two = none_left (order ++ mark) void three in
      let before = kept_rule_not (ltb g.0 around.number) at CallOrder (none_left order mark two) in
      none_both (none_both (none_both
      (unbroken (not (ltb (renumbered first c.tiles g.0) (renumbered first c.tiles around.number))) at CallOrder
      (ap not (order_kept g.0 other before))) (none_right order mark two)) (none_right (order ++ mark) void three))
      (none_right (order ++ mark ++ void) count e)

  -- a tile is called where the function may be
  tile_callee : (at : Place) (has : Bool) (n t : ℕ) → t < c.tiles → in_callee at around c.function.name has n (Some (first, c.function)) ≡ [] →
      in_callee at there (tile_name c.function.name t) false 0 (Some (first + t, tile_of c t)) ≡ []
  tile_callee at has n t lt e =
      let order = if_at (not (ltb first around.number)) at CallOrder in
      let mark = if_at (is_marked_text c.function && not around.is_job) at MarkedCall in
      let void = if_at (has && is_void c.function.ty) at (OfTypes rule.Target) in
      let count = if_at (not (eqb (length c.function.params) n)) at (OfTypes rule.Count) in
      let two = none_left (order ++ mark) void (none_left (order ++ mark ++ void) count e) in
      let before = ltb-true first around.number (kept_rule_not (ltb first around.number) at CallOrder (none_left order mark two)) in
      let calls = kept_rule (is_marked_text c.function && not around.is_job) at MarkedCall (none_right order mark two) in
      let job : not around.is_job ≡ false = ap (λ b. b && not around.is_job) (sym kept.marked) ∙ calls in
      let number = renumbered_above first c.tiles around.number before in
      none_both (none_both (none_both
      (unbroken (not (ltb (first + t) (renumbered first c.tiles around.number))) at CallOrder
      (ap not (lt-ltb (first + t) (renumbered first c.tiles around.number) (omega arith))))
      (unbroken (is_marked_text (tile_of c t) && not around.is_job) at MarkedCall (ap (λ b. is_marked_text (tile_of c t) && b) job ∙ and_false (is_marked_text (tile_of c t))))) refl)
      (unbroken (not (eqb (length c.function.params) 0)) at (OfTypes rule.Count) (ap (λ (ps : List Parameter). not (eqb (length ps) 0)) kept.no_parameters))

  calls_formed : (at : Place) (has : Bool) (n m t : ℕ) → t + m ≡ c.tiles → in_callee at around c.function.name has n (Some (first, c.function)) ≡ [] →
      in_statements there (calls_from at c.function.name t m) ≡ []
  calls_formed at has n zero t ends e = refl
  calls_formed at has n (suc m) t ends e =
      none_both (none_both (ap (in_callee at there (tile_name c.function.name t) false 0) (kept.tiles_are t (omega arith))
      ∙ tile_callee at has n t (omega arith) e) refl) (calls_formed at has n m (t + 1) (omega arith) e)

  -- ---- statements

  called_so : (at : Place) (callee : Text) (has : Bool) (n : ℕ) → bytes_eq callee c.function.name ≡ true →
      in_callee at around callee has n (find_function around.scope.functions callee) ≡ [] →
      in_callee at around c.function.name has n (Some (first, c.function)) ≡ []
  called_so at callee has n named e = ap (in_callee at around callee has n) (sym (kept.here callee named)) ∙ e

  no_target : (at : Place) (has : Bool) (n : ℕ) → in_callee at around c.function.name has n (Some (first, c.function)) ≡ [] → has ≡ false
  no_target at has n e =
      let order = if_at (not (ltb first around.number)) at CallOrder in
      let mark = if_at (is_marked_text c.function && not around.is_job) at MarkedCall in
      let void = if_at (has && is_void c.function.ty) at (OfTypes rule.Target) in
      let count = if_at (not (eqb (length c.function.params) n)) at (OfTypes rule.Count) in
      by has (kept_rule (has && is_void c.function.ty) at (OfTypes rule.Target) (none_right (order ++ mark) void (none_left (order ++ mark ++ void) count e)))
    where
      by : (b : Bool) → (b && is_void c.function.ty) ≡ false → b ≡ false
      by true h = absurd (true≢false (sym kept.void ∙ h))
      by false h = refl

  calls_assign_nothing : (name : Text) (at : Place) (m t : ℕ) → assigns_within name (calls_from at c.function.name t m) ≡ false
  calls_assign_nothing name at zero t = refl
  calls_assign_nothing name at (suc m) t = calls_assign_nothing name at m (t + 1)

  call_assigns : (name : Text) (at : Place) (target : Option Text) (callee : Text) (es : List Expression) (named : Bool) →
      bytes_eq callee c.function.name ≡ named → in_callee at around callee (is_some target) (length es) (find_function around.scope.functions callee) ≡ [] →
      assigns name (cond named (block at (calls_from at c.function.name 0 c.tiles)) (call at target callee es)) ≡ assigns name (call at target callee es)
  call_assigns name at target callee es false is e = refl
  call_assigns name at target callee es true is e = calls_assign_nothing name at c.tiles 0
      ∙ by target (no_target at (is_some target) (length es) (called_so at callee (is_some target) (length es) is e))
    where
      by : (o : Option Text) → is_some o ≡ false → false ≡ assigns name (call at o callee es)
      by None h = refl
      by (Some x) h = absurd (true≢false h)

  mutual
    assigned_same : (name : Text) (s : Statement) → in_statement around s ≡ [] → assigns name (with_tiles c.function.name c.tiles s) ≡ assigns name s
    assigned_same name (block at body) e = all_assigned_same name body e
    assigned_same name (if_then at condition taken) e = assigned_same name taken (none_right (in_expression around.scope condition) (in_statement around taken) e)
    assigned_same name (if_else at condition taken other) e =
        let front = none_left (in_expression around.scope condition ++ in_statement around taken) (in_statement around other) e in
        λ i. assigned_same name taken (none_right (in_expression around.scope condition) (in_statement around taken) front)
        i || assigned_same name other (none_right (in_expression around.scope condition ++ in_statement around taken) (in_statement around other) e) i
    assigned_same name (bounded_while at most condition body) e =
        assigned_same name body (none_right (if_at (not (is_between 1 1048576 most)) at LoopForm ++ in_expression around.scope condition)
        (in_statement around body) e)
    assigned_same name (counting_for at names low closed high step body) e =
        ap (λ b. bytes_eq names.first name || b)
        (assigned_same name body (none_right
        (in_names at around.scope names ++ if_at (not (is_loop around.scope names low high step body)) at LoopForm
        ++ in_expression around.scope low ++ in_expression around.scope high) (in_statement around body) e))
    assigned_same name (assign at x index value) e = refl
    assigned_same name (output at value) e = refl
    assigned_same name (input at x) e = refl
    assigned_same name (call at target callee es) e =
        let called = in_callee at around callee (is_some target) (length es) (find_function around.scope.functions callee) in
        call_assigns name at target callee es (bytes_eq callee c.function.name) refl
        (none_right (in_call_target at around.scope target) called
        (none_left (in_call_target at around.scope target ++ called) (in_expressions around.scope es) e))

    all_assigned_same : (name : Text) (ss : Statements) → in_statements around ss ≡ [] → assigns_within name (all_with_tiles c.function.name c.tiles ss) ≡ assigns_within name ss
    all_assigned_same name no_statements e = refl
    all_assigned_same name (next_statement s ss) e = λ i. assigned_same name s (none_left (in_statement around s) (in_statements around ss) e)
        i || all_assigned_same name ss (none_right (in_statement around s) (in_statements around ss) e) i

  call_formed : (at : Place) (target : Option Text) (callee : Text) (es : List Expression) (named : Bool) → bytes_eq callee c.function.name ≡ named →
      (found : Option (ℕ × FunctionText)) → find_function around.scope.functions callee ≡ found →
      in_call_target at around.scope target ≡ [] → in_callee at around callee (is_some target) (length es) found ≡ [] → in_expressions around.scope es ≡ [] →
      in_statement there (cond named (block at (calls_from at c.function.name 0 c.tiles)) (call at target callee es)) ≡ []
  call_formed at target callee es true is found has target_e e es_e =
      calls_formed at (is_some target) (length es) c.tiles 0 (omega arith) (called_so at callee (is_some target) (length es) is (ap (in_callee at around callee (is_some target) (length es)) has ∙ e))
  call_formed at target callee es false is None has target_e e es_e = cc
  call_formed at target callee es false is (Some g) has target_e e es_e =
      let others = kept.others callee g is has in
      none_both (none_both (call_target_formed fs' around.scope at target target_e)
      (ap (in_callee at there callee (is_some target) (length es)) others.1 ∙ callee_kept at callee (is_some target) (length es) g others.0 e))
      (expressions_formed fs' around.scope es es_e)

  mutual
    statement_formed : (s : Statement) → in_statement around s ≡ [] → in_statement there (with_tiles c.function.name c.tiles s) ≡ []
    statement_formed (block at body) e = statements_formed body e
    statement_formed (if_then at condition taken) e =
        none_both (expression_formed fs' around.scope condition (none_left (in_expression around.scope condition) (in_statement around taken) e))
        (statement_formed taken (none_right (in_expression around.scope condition) (in_statement around taken) e))
    statement_formed (if_else at condition taken other) e =
        let front = none_left (in_expression around.scope condition ++ in_statement around taken) (in_statement around other) e in
        none_both (none_both (expression_formed fs' around.scope condition
        (none_left (in_expression around.scope condition) (in_statement around taken) front))
        (statement_formed taken (none_right (in_expression around.scope condition) (in_statement around taken) front)))
        (statement_formed other (none_right (in_expression around.scope condition ++ in_statement around taken) (in_statement around other) e))
    statement_formed (bounded_while at most condition body) e =
        let form = if_at (not (is_between 1 1048576 most)) at LoopForm in
        let front = none_left (form ++ in_expression around.scope condition) (in_statement around body) e in
        none_both (none_both (none_left form (in_expression around.scope condition) front)
        (expression_formed fs' around.scope condition (none_right form (in_expression around.scope condition) front)))
        (statement_formed body (none_right (form ++ in_expression around.scope condition) (in_statement around body) e))
    statement_formed (counting_for at names low closed high step body) e =
        let ns = in_names at around.scope names in
        let form = if_at (not (is_loop around.scope names low high step body)) at LoopForm in
        let lo = in_expression around.scope low in
        let hi = in_expression around.scope high in
        let body_e = none_right (ns ++ form ++ lo ++ hi) (in_statement around body) e in
        let four = none_left (ns ++ form ++ lo ++ hi) (in_statement around body) e in
        let three = none_left (ns ++ form ++ lo) hi four in
        let is = kept_rule_not (is_loop around.scope names low high step body) at LoopForm (none_right ns form (none_left (ns ++ form) lo three)) in
        let parts = loop_parts around.scope names low high step body is in
        none_both (none_both (none_both (none_both (names_formed fs' around.scope at names (same_of_parts around.scope names low high step body is) parts.variable)
        (unbroken (not (is_loop (with_functions fs' around.scope) names low high step (with_tiles c.function.name c.tiles body))) at LoopForm
        (ap not (form_kept fs' around.scope names low high step body (with_tiles c.function.name c.tiles body)
        (assigned_same names.first body body_e) is))))
        (expression_formed fs' around.scope low (none_right (ns ++ form) lo three))) (expression_formed fs' around.scope high (none_right (ns ++ form ++ lo) hi four))) (statement_formed body body_e)
    statement_formed (assign at name index value) e =
        let a = in_assigned at name (meaning_of around.scope name) index in
        let o = in_option around.scope index in
        let front = none_left (a ++ o) (in_expression around.scope value) e in
        none_both (none_both (assigned_formed fs' around.scope at name index (none_left a o front))
        (option_formed fs' around.scope index (none_right a o front)))
        (expression_formed fs' around.scope value (none_right (a ++ o) (in_expression around.scope value) e))
    statement_formed (output at value) e =
        none_both (system_kept at (none_left (if_at around.is_within_marked at SystemCall) (in_expression around.scope value) e))
        (expression_formed fs' around.scope value (none_right (if_at around.is_within_marked at SystemCall) (in_expression around.scope value) e))
    statement_formed (input at name) e =
        none_both (target_kept fs' around.scope at name (none_left (in_target at around.scope name) (if_at around.is_within_marked at SystemCall) e))
        (system_kept at (none_right (in_target at around.scope name) (if_at around.is_within_marked at SystemCall) e))
    statement_formed (call at target callee es) e =
        let called = in_callee at around callee (is_some target) (length es) (find_function around.scope.functions callee) in
        let front = none_left (in_call_target at around.scope target ++ called) (in_expressions around.scope es) e in
        call_formed at target callee es (bytes_eq callee c.function.name) refl (find_function around.scope.functions callee) refl
        (none_left (in_call_target at around.scope target) called front) (none_right (in_call_target at around.scope target) called front)
        (none_right (in_call_target at around.scope target ++ called) (in_expressions around.scope es) e)

    pub statements_formed : (ss : Statements) → in_statements around ss ≡ [] → in_statements there (all_with_tiles c.function.name c.tiles ss) ≡ []
    statements_formed no_statements e = refl
    statements_formed (next_statement s ss) e =
        none_both (statement_formed s (none_left (in_statement around s) (in_statements around ss) e))
        (statements_formed ss (none_right (in_statement around s) (in_statements around ss) e))
