-- Statements without calls, and regions, break no rule in a tile.
use Rattle.std.proofs.Common.{◌≡◌, ℕ, ◌≤◌, Bool, true, false, cond, not, ◌||◌, List, [], ◌∷◌, ◌++◌, map, refl, ap, sym, ◌∙◌, arith, Option, None, Some, unwrap_or, true≢false, ◌⊎◌, inl, inr}
use Rattle.std.specs.Prelude.{ℤ, pos, nat_lt, nat_le, int_le, unsigned_abs, ◌+ℤ◌}
use Rattle.prem_tiling.proofs.Prelude.{Around, if_at, in_expression, in_option, in_assigned, in_target, in_names, is_between, is_loop, in_statement, in_statements, in_region, in_regions}
use Rattle.prem_tiling.proofs.Prelude.{Scope, find_global, meaning_of, SystemCall, LoopForm, OfTypes, Text, Expression, Statement, block, if_then, if_else, bounded_while, counting_for}
use Rattle.prem_tiling.proofs.Prelude.{assign, output, input, call, Statements, no_statements, next_statement, RegionText, GlobalVariable, FunctionText, Place, Added, nothing, within}
use Rattle.prem_tiling.proofs.Prelude.{elsewhere, added_in, cut_to, narrowed, has_call, have_call, Cut, low_of, last_of, tile_region, nat_tests, ints, int_min, int_max}
use Rattle.prem_tiling.proofs.LawsLemmas.Formed.{none_left, none_right, none_both, kept_rule, kept_rule_not, loop_parts}
use Rattle.prem_tiling.proofs.LawsLemmas.Rules.{unbroken, expression_formed, option_formed, assigned_formed, target_kept, names_formed, form_kept, same_of_parts}
use Rattle.prem_tiling.proofs.LawsLemmas.Terms.{with_functions}
use Rattle.prem_tiling.proofs.LawsLemmas.Tied.{neither_left, neither_right}
use Rattle.prem_syntax.specs.declared.rules.TypeRule.TheVariants as rule

-- ---- statements

-- calls aside, a statement keeps the rules among other functions, at another number, and with fewer calls of the system allowed
module _ (place there : Around) (fs' : List FunctionText) (scope_is : there.scope ≡ with_functions fs' place.scope) (lighter : there.is_within_marked ≡ true → place.is_within_marked ≡ true) where
  system_quiet : (at : Place) → if_at place.is_within_marked at SystemCall ≡ [] → if_at there.is_within_marked at SystemCall ≡ []
  system_quiet at e = unbroken there.is_within_marked at SystemCall (by there.is_within_marked refl)
    where
      by : (b : Bool) → there.is_within_marked ≡ b → b ≡ false
      by true is = absurd (true≢false (sym (lighter is) ∙ kept_rule place.is_within_marked at SystemCall e))
      by false is = refl

  mine : {A : Type 0} (F : Scope → A) → F (with_functions fs' place.scope) ≡ F there.scope
  mine F = ap F (sym scope_is)

  expression_quiet : (e : Expression) → in_expression place.scope e ≡ [] → in_expression there.scope e ≡ []
  expression_quiet e h = sym (mine (λ s. in_expression s e)) ∙ expression_formed fs' place.scope e h

  mutual
    pub quiet : (s : Statement) → has_call s ≡ false → in_statement place s ≡ [] → in_statement there s ≡ []
    quiet (block at body) none e = all_quiet body none e
    quiet (if_then at condition taken) none e =
        none_both (expression_quiet condition (none_left (in_expression place.scope condition) (in_statement place taken) e))
        (quiet taken none (none_right (in_expression place.scope condition) (in_statement place taken) e))
    quiet (if_else at condition taken other) none e =
        let front = none_left (in_expression place.scope condition ++ in_statement place taken) (in_statement place other) e in
        none_both (none_both (expression_quiet condition (none_left (in_expression place.scope condition) (in_statement place taken) front))
        (quiet taken (neither_left (has_call taken) (has_call other) none)
        (none_right (in_expression place.scope condition) (in_statement place taken) front)))
        (quiet other (neither_right (has_call taken) (has_call other) none) (none_right (in_expression place.scope condition ++ in_statement place taken) (in_statement place other) e))
    quiet (bounded_while at most condition body) none e =
        let form = if_at (not (is_between 1 1048576 most)) at LoopForm in
        let front = none_left (form ++ in_expression place.scope condition) (in_statement place body) e in
        none_both (none_both (none_left form (in_expression place.scope condition) front)
        (expression_quiet condition (none_right form (in_expression place.scope condition) front)))
        (quiet body none (none_right (form ++ in_expression place.scope condition) (in_statement place body) e))
    quiet (counting_for at names low closed high step body) none e =
        let ns = in_names at place.scope names in
        let form = if_at (not (is_loop place.scope names low high step body)) at LoopForm in
        let lo = in_expression place.scope low in
        let hi = in_expression place.scope high in
        let four = none_left (ns ++ form ++ lo ++ hi) (in_statement place body) e in
        let three = none_left (ns ++ form ++ lo) hi four in
        let is = kept_rule_not (is_loop place.scope names low high step body) at LoopForm (none_right ns form (none_left (ns ++ form) lo three)) in
        let parts = loop_parts place.scope names low high step body is in
        none_both (none_both (none_both
        (none_both (sym (mine (λ s. in_names at s names))
        ∙ names_formed fs' place.scope at names (same_of_parts place.scope names low high step body is) parts.variable)
        (unbroken (not (is_loop there.scope names low high step body)) at LoopForm
        (ap not (sym (mine (λ s. is_loop s names low high step body)) ∙ form_kept fs' place.scope names low high step body body refl is))))
        (expression_quiet low (none_right (ns ++ form) lo three))) (expression_quiet high (none_right (ns ++ form ++ lo) hi four)))
        (quiet body none (none_right (ns ++ form ++ lo ++ hi) (in_statement place body) e))
    quiet (assign at name index value) none e =
        let a = in_assigned at name (meaning_of place.scope name) index in
        let o = in_option place.scope index in
        let front = none_left (a ++ o) (in_expression place.scope value) e in
        none_both (none_both (sym (mine (λ s. in_assigned at name (meaning_of s name) index))
        ∙ assigned_formed fs' place.scope at name index (none_left a o front))
        (sym (mine (λ s. in_option s index)) ∙ option_formed fs' place.scope index (none_right a o front)))
        (expression_quiet value (none_right (a ++ o) (in_expression place.scope value) e))
    quiet (output at value) none e =
        none_both (system_quiet at (none_left (if_at place.is_within_marked at SystemCall) (in_expression place.scope value) e))
        (expression_quiet value (none_right (if_at place.is_within_marked at SystemCall) (in_expression place.scope value) e))
    quiet (input at name) none e =
        none_both (sym (mine (λ s. in_target at s name))
        ∙ target_kept fs' place.scope at name (none_left (in_target at place.scope name) (if_at place.is_within_marked at SystemCall) e))
        (system_quiet at (none_right (in_target at place.scope name) (if_at place.is_within_marked at SystemCall) e))
    quiet (call at target callee es) none e = absurd (true≢false none)

    all_quiet : (ss : Statements) → have_call ss ≡ false → in_statements place ss ≡ [] → in_statements there ss ≡ []
    all_quiet no_statements none e = refl
    all_quiet (next_statement s ss) none e =
        none_both (quiet s (neither_left (has_call s) (have_call ss) none) (none_left (in_statement place s) (in_statements place ss) e))
        (all_quiet ss (neither_right (has_call s) (have_call ss) none) (none_right (in_statement place s) (in_statements place ss) e))

-- ---- regions

-- a region that is cut has elements, and no others than before
pub record IsWithin (r' r : RegionText) : Type 0 where
  pub at : r'.at ≡ r.at
  pub name : r'.name ≡ r.name
  pub some : nat_lt r.high r.low ≡ false → nat_lt r'.high r'.low ≡ false
  pub most : r'.high ≤ r.high
  pub least : (r'.low ≡ r.low) ⊎ (r'.low ≤ r.high)

abs_order : (from to : ℤ) → int_le (pos 0) from ≡ true → int_le from to ≡ true → nat_lt (unsigned_abs to) (unsigned_abs from) ≡ false
abs_order from to a b = grind (arith, nat_tests, ints)

abs_least : (from to : ℤ) (high : ℕ) → int_le (pos 0) from ≡ true → int_le from to ≡ true → int_le to (pos high) ≡ true → unsigned_abs from ≤ high
abs_least from to high a b d = grind (arith, nat_tests, ints)

abs_most : (from to : ℤ) (high : ℕ) → int_le (pos 0) from ≡ true → int_le from to ≡ true → int_le to (pos high) ≡ true → unsigned_abs to ≤ high
abs_most from to high a b d = grind (arith, nat_tests, ints)

max_some : (low : ℕ) (z : ℤ) → int_le (pos 0) (int_max (pos low) z) ≡ true
max_some low z = grind (arith, nat_tests, ints)

min_most : (high : ℕ) (z : ℤ) → int_le (int_min (pos high) z) (pos high) ≡ true
min_most high z = grind (arith, nat_tests, ints)

cut_within : (r : RegionText) (from to : ℤ) → int_le (pos 0) from ≡ true → int_le to (pos r.high) ≡ true → IsWithin (cut_to r from to) r
cut_within r from to some most = by (int_le from to) refl
  where
    by : (b : Bool) → int_le from to ≡ b → IsWithin (cond b (record r { low = unsigned_abs from; high = unsigned_abs to }) r) r
    by true is = record { at = refl; name = refl; some = λ h. abs_order from to some is; most = abs_most from to r.high some is most; least = inr (abs_least from to r.high some is most) }
    by false is = record { at = refl; name = refl; some = λ h. h; most = omega arith; least = inl refl }

pub narrowed_within : (first last : ℤ) (r : RegionText) (a : Added) → IsWithin (narrowed first last r a) r
narrowed_within first last r (within least most) =
    cut_within r (int_max (pos r.low) (first +ℤ least)) (int_min (pos r.high) (last +ℤ most)) (max_some r.low (first +ℤ least)) (min_most r.high (last +ℤ most))
narrowed_within first last r nothing = record { at = refl; name = refl; some = λ h. h; most = omega arith; least = inl refl }
narrowed_within first last r elsewhere = record { at = refl; name = refl; some = λ h. h; most = omega arith; least = inl refl }

region_within : (r' r : RegionText) (g : Option (ℕ × GlobalVariable)) → IsWithin r' r → in_region r g ≡ [] → in_region r' g ≡ []
region_within r' r None w e = cc
region_within r' r (Some g) w e =
    unbroken (nat_lt r'.high r'.low || nat_le (unwrap_or g.1.len 1) r'.high) r'.at (OfTypes rule.Region)
    (none_either (w.some (neither_left (nat_lt r.high r.low) (nat_le (unwrap_or g.1.len 1) r.high) kept))
    (less (neither_right (nat_lt r.high r.low) (nat_le (unwrap_or g.1.len 1) r.high) kept) w.most))
  where
    kept : (nat_lt r.high r.low || nat_le (unwrap_or g.1.len 1) r.high) ≡ false
    kept = kept_rule (nat_lt r.high r.low || nat_le (unwrap_or g.1.len 1) r.high) r.at (OfTypes rule.Region) e

    none_either : {a b : Bool} → a ≡ false → b ≡ false → (a || b) ≡ false
    none_either {a = a} {b = b} e f = ap (λ x. x || b) e ∙ f

    less : nat_le (unwrap_or g.1.len 1) r.high ≡ false → r'.high ≤ r.high → nat_le (unwrap_or g.1.len 1) r'.high ≡ false
    less = less_at (unwrap_or g.1.len 1) r'.high r.high
      where
        less_at : (n k m : ℕ) → nat_le n m ≡ false → k ≤ m → nat_le n k ≡ false
        less_at n k m h le = grind (arith, nat_tests)

pub regions_quiet : (c : Cut) (t : ℕ) (scope scope' : Scope) → ((name : Text) → find_global scope' name ≡ find_global scope name) →
    (rs : List RegionText) → in_regions scope rs ≡ [] → in_regions scope' (map (tile_region c t) rs) ≡ []
regions_quiet c t scope scope' same [] e = refl
regions_quiet c t scope scope' same (r ∷ rs) e =
    let here = in_region r (find_global scope r.name) in
    let later = in_regions scope rs in
    let w : IsWithin (tile_region c t r) r = narrowed_within (pos (low_of c t)) (last_of c t) r (added_in c.loop.names.first r.name c.loop.body) in
    none_both (ap (in_region (tile_region c t r)) (same (tile_region c t r).name ∙ ap (find_global scope) w.name)
    ∙ region_within (tile_region c t r) r (find_global scope r.name) w (none_left here later e))
    (regions_quiet c t scope scope' same rs (none_right here later e))
