-- A statement does the same where calls of a function are calls of its tiles, if the calls do.
use Rattle.std.proofs.Common.{◌≡◌, ℕ, zero, suc, ◌+◌, ◌<◌, Bool, true, false, cond, not, List, [], ◌∷◌, ◌++◌, length, map, refl, ap, sym, ◌∙◌, subst, arith, Option, None, Some, Ok, Err, eqb}
use Rattle.std.proofs.Common.{true≢false, option_map, is_some}
use Rattle.std.specs.Prelude.{◌&&◌, ℤ, pos, ◌+ℤ◌, int_lt, nat_lt}
use Rattle.prem_tiling.proofs.Prelude.{Around, if_at, is_between, is_loop, is_void, is_marked_text, in_expression, in_expressions, in_call_target, in_callee, in_names, in_statement}
use Rattle.prem_tiling.proofs.Prelude.{in_statements, Outcome, and_then, cell, or_wrong, eval, eval_all, Scope, meaning_of, find_function, resolve_term, loops_in, set_steps, input_steps}
use Rattle.prem_tiling.proofs.Prelude.{loop_local, number_named, target_of, call_steps, resolve_statement, resolve_statements, Term, Steps, Done, Call, OfTypes, CallOrder, LoopForm}
use Rattle.prem_tiling.proofs.Prelude.{everywhere, ProgramState, Calls, choose, value, values, with_local, stored, with_cell, store, with_output, take_input, holds, in_bound, int_local}
use Rattle.prem_tiling.proofs.Prelude.{loop_test, loop_step, counting, with_target, run, Text, Expression, Statement, block, if_then, if_else, bounded_while, counting_for, assign, output}
use Rattle.prem_tiling.proofs.Prelude.{input, call, Statements, no_statements, next_statement, FunctionText, Meaning, Nothing, Local as LocalName, Scalar as ScalarName, Array as ArrayName}
use Rattle.prem_tiling.proofs.Prelude.{Function as FunctionName, Place, Ty, renumbered, MarksTiled, tile_name, calls_from, with_tiles, all_with_tiles, value_in, word_of, Int, eqb-true}
use Rattle.prem_tiling.proofs.Prelude.{bytes_eq}
use Rattle.prem_syntax.specs.Rules.{MarkedCall as MarkedCallRule}
use Rattle.prem_tiling.proofs.LawsLemmas.Formed.{none_left, none_right, kept_rule}
use Rattle.prem_tiling.proofs.LawsLemmas.Joint.{Joint, fine, wrong, joint_then, same_then, counting_joint, bounded_joint}
use Rattle.prem_tiling.proofs.LawsLemmas.Terms.{with_functions, same_term, same_terms, same_set, same_input, same_variable, same_target}
use Rattle.prem_syntax.specs.declared.rules.TypeRule.TheVariants as rule

-- ---- states

abbrev pub unmarked : ProgramState → ProgramState
unmarked s = record s { marks = [] }

-- the same but for marked calls, of which each call of function `first` is a call of each of its tiles
pub record Alike (first tiles : ℕ) (u v : ProgramState) : Type 0 where
  pub same : unmarked u ≡ unmarked v
  pub marks : MarksTiled first tiles u.marks v.marks

-- calls of so many functions, one behind the other
abbrev pub calls_all : Calls → ℕ → ℕ → ℕ → ProgramState → Outcome ProgramState
calls_all calls first zero t s = Ok s
calls_all calls first (suc r) t s = and_then (calls everywhere (first + t) [] s) (λ x. calls_all calls first r (t + 1) x.1)

-- calls do the same, and one of the function does what calls of its tiles do
pub record CallsAlike (first tiles : ℕ) (calls calls' : Calls) : Type 0 where
  pub other : (g : ℕ) (ws : List ℕ) (u v : ProgramState) → (g ≡ first → ⊥) → Alike first tiles u v →
      Joint (λ (a b : ℕ × ProgramState). (a.0 ≡ b.0) × Alike first tiles a.1 b.1) (calls everywhere g ws u) (calls' everywhere (renumbered first tiles g) ws v)
  pub function : (u v : ProgramState) → Alike first tiles u v →
      Joint (λ (a : ℕ × ProgramState) (b : ProgramState). Alike first tiles a.1 b) (calls everywhere first [] u) (calls_all calls' first tiles 0 v)

-- the functions of a program and of the one with tiles, by name
pub record Renamed (f : FunctionText) (tiles first : ℕ) (fs fs' : List FunctionText) : Type 0 where
  pub no_parameters : f.params ≡ []
  pub void : is_void f.ty ≡ true
  pub here : (callee : Text) → bytes_eq callee f.name ≡ true → find_function fs callee ≡ Some (first, f)
  pub others : (callee : Text) (g : ℕ × FunctionText) → bytes_eq callee f.name ≡ false → find_function fs callee ≡ Some g →
      (g.0 ≡ first → ⊥) × (number_named fs' callee ≡ Some (renumbered first tiles g.0))
  pub tiles_are : (t : ℕ) → t < tiles → number_named fs' (tile_name f.name t) ≡ Some (first + t)

module _ {first tiles : ℕ} where
  with_local_alike : (k w : ℕ) {u v : ProgramState} → Alike first tiles u v → Alike first tiles (with_local k w u) (with_local k w v)
  with_local_alike k w a = record { same = ap (with_local k w) a.same; marks = a.marks }

  output_alike : (w : ℕ) {u v : ProgramState} → Alike first tiles u v → Alike first tiles (with_output w u) (with_output w v)
  output_alike w a = record { same = ap (with_output w) a.same; marks = a.marks }

  store_alike : (line : ℕ) (ty : Ty) (g j w : ℕ) {u v : ProgramState} → Alike first tiles u v → Joint (Alike first tiles) (store everywhere line ty g j w u) (store everywhere line ty g j w v)
  store_alike line ty g j w {u = u} {v = v} a =
      same_then (or_wrong line (cell everywhere u.globals g j)) (or_wrong line (cell everywhere v.globals g j)) (λ old. Ok (with_cell g j (stored ty w) u)) (λ old. Ok (with_cell g j (stored ty w) v))
      (ap (λ (b : ProgramState). or_wrong line (cell everywhere b.globals g j)) a.same) (λ old. fine (record { same = ap (with_cell g j (stored ty w)) a.same; marks = a.marks }))

  input_alike : (k : ℕ) {u v : ProgramState} → Alike first tiles u v → Alike first tiles (take_input k u.inputs u) (take_input k v.inputs v)
  input_alike k {u = u} {v = v} a =
      subst (λ (inputs : List ℕ). Alike first tiles (take_input k u.inputs u) (take_input k inputs v)) (ap (λ (b : ProgramState). b.inputs) a.same) (by u.inputs)
    where
      by : (inputs : List ℕ) → Alike first tiles (take_input k inputs u) (take_input k inputs v)
      by [] = with_local_alike k 0 a
      by (w ∷ rest) = with_local_alike k w (record { same = ap (λ (b : ProgramState). record b { inputs = rest; used = b.used + 1 }) a.same; marks = a.marks })

  target_alike : (target : Option ℕ) (w : ℕ) {u v : ProgramState} → Alike first tiles u v → Alike first tiles (with_target target w u) (with_target target w v)
  target_alike None w a = a
  target_alike (Some k) w a = with_local_alike k w a

module _ (around : Around) (f : FunctionText) (tiles first : ℕ) (fs' : List FunctionText) (renamed : Renamed f tiles first around.scope.functions fs')
    (turns : ℕ) (calls calls' : Calls) (alike : CallsAlike first tiles calls calls') where
  abbrev here : Scope
  here = around.scope

  abbrev there : Scope
  there = with_functions fs' around.scope

  abbrev all : ℕ → ℕ
  all k = turns

  abbrev B : ProgramState → ProgramState → Type 0
  B u v = Alike first tiles u v

  abbrev Onward : (Q : ProgramState → ProgramState → Type 0) → Steps → Steps → Type 0
  Onward Q steps steps' = (u v : ProgramState) → B u v → Joint Q (run everywhere calls steps u) (run everywhere calls' steps' v)

  value_alike : (u v : ProgramState) → B u v → (e : Expression) → value everywhere u (resolve_term here e) ≡ value everywhere v (resolve_term there e)
  value_alike u v a e = ap (λ (b : ProgramState). eval everywhere b.globals b.locals (resolve_term here e)) a.same ∙ ap (value everywhere v) (sym (same_term fs' here e))

  same_value : (u v : ProgramState) → B u v → (e : Term) → value everywhere u e ≡ value everywhere v e
  same_value u v a e = ap (λ (b : ProgramState). eval everywhere b.globals b.locals e) a.same

  holds_alike : (u v : ProgramState) → B u v → (e : Expression) → holds everywhere (resolve_term here e) u ≡ holds everywhere (resolve_term there e) v
  holds_alike u v a e = ap (λ (r : Outcome ℕ). and_then r (λ c. Ok (not (eqb c 0)))) (value_alike u v a e)

  set_alike : (Q : ProgramState → ProgramState → Type 0) (rest rest' : Steps) (at : Place) (m : Meaning) (index : Option Term) (e : Term) →
      Onward Q rest rest' → Onward Q (set_steps at m index e rest) (set_steps at m index e rest')
  set_alike Q rest rest' at (LocalName k ty) None e go = λ u v a.
      same_then (value everywhere u e) (value everywhere v e) (λ w. run everywhere calls rest (with_local k w u)) (λ w. run everywhere calls' rest' (with_local k w v)) (same_value u v a e)
      (λ w. go (with_local k w u) (with_local k w v) (with_local_alike k w a))
  set_alike Q rest rest' at (ScalarName g ty) None e go = λ u v a.
      same_then (value everywhere u e) (value everywhere v e) (λ w. and_then (store everywhere at.line ty g 0 w u) (run everywhere calls rest))
      (λ w. and_then (store everywhere at.line ty g 0 w v) (run everywhere calls' rest')) (same_value u v a e)
      (λ w. joint_then (run everywhere calls rest) (run everywhere calls' rest') (store_alike at.line ty g 0 w a) go)
  set_alike Q rest rest' at (ArrayName g ty n) (Some index) e go = λ u v a.
      same_then (value everywhere u e) (value everywhere v e)
      (λ w. and_then (value everywhere u index) (λ j. and_then (store everywhere at.line ty g j w u) (run everywhere calls rest)))
      (λ w. and_then (value everywhere v index) (λ j. and_then (store everywhere at.line ty g j w v) (run everywhere calls' rest'))) (same_value u v a e)
      (λ w. same_then (value everywhere u index) (value everywhere v index)
      (λ j. and_then (store everywhere at.line ty g j w u) (run everywhere calls rest))
      (λ j. and_then (store everywhere at.line ty g j w v) (run everywhere calls' rest')) (same_value u v a index)
      (λ j. joint_then (run everywhere calls rest) (run everywhere calls' rest') (store_alike at.line ty g j w a) go))
  set_alike Q rest rest' at (LocalName k ty) (Some index) e go = go
  set_alike Q rest rest' at (ScalarName g ty) (Some index) e go = go
  set_alike Q rest rest' at (ArrayName g ty n) None e go = go
  set_alike Q rest rest' at (FunctionName n) None e go = go
  set_alike Q rest rest' at (FunctionName n) (Some index) e go = go
  set_alike Q rest rest' at Nothing None e go = go
  set_alike Q rest rest' at Nothing (Some index) e go = go

  -- ---- calls

  then_twice : {X Y Z : Type 0} (o : Outcome X) (g : X → Outcome Y) (h : Y → Outcome Z) → and_then o (λ x. and_then (g x) h) ≡ and_then (and_then o g) h
  then_twice (Ok x) g h = refl
  then_twice (Err line) g h = refl

  -- calls of tiles in a block
  calls_run : (at : Place) (rest : Steps) (r t n : ℕ) (v : ProgramState) → t + r ≡ tiles →
      run everywhere calls' (resolve_statements there all n (calls_from at f.name t r) rest) v ≡ and_then (calls_all calls' first r t v) (run everywhere calls' rest)
  calls_run at rest zero t n v count = refl
  calls_run at rest (suc r) t n v count =
      let more = resolve_statements there all (n + 0) (calls_from at f.name (t + 1) r) rest in
      ap (λ o. run everywhere calls' (call_steps at None o [] more) v) (renamed.tiles_are t (omega arith))
      ∙ ap (and_then (calls' everywhere (first + t) [] v)) (λ i x. calls_run at rest r (t + 1) (n + 0) x.1 (omega arith) i)
      ∙ then_twice (calls' everywhere (first + t) [] v) (λ x. calls_all calls' first r (t + 1) x.1) (run everywhere calls' rest)

  no_target : (target : Option Text) → (is_some target && is_void f.ty) ≡ false → target ≡ None
  no_target None e = refl
  no_target (Some name) e = absurd (true≢false (sym renamed.void ∙ e))

  no_arguments : (es : List Expression) → eqb (length f.params) (length es) ≡ true → es ≡ []
  no_arguments [] e = refl
  no_arguments (e ∷ es) h = let none : length f.params ≡ 0 = ap length renamed.no_parameters in let same : length f.params ≡ suc (length es) =
      eqb-true (length f.params) (suc (length es)) h in absurd (omega arith)

  called : (Q : ProgramState → ProgramState → Type 0) (at : Place) (target : Option Text) (callee : Text) (es : List Expression) (rest rest' : Steps)
      (n : ℕ) → bytes_eq callee f.name ≡ true → in_callee at around callee (is_some target) (length es) (find_function around.scope.functions callee) ≡ [] →
      Onward Q rest rest' → Onward Q (call_steps at (target_of here target) (number_named here.functions callee) (map (resolve_term here) es) rest)
      (resolve_statements there all n (calls_from at f.name 0 tiles) rest')
  called Q at target callee es rest rest' n named formed go u v a =
      let is = renamed.here callee named in
      let rules : in_callee at around callee (is_some target) (length es) (Some (first, f)) ≡ [] = ap (in_callee at around callee (is_some target) (length es)) (sym is) ∙ formed in
      let order = if_at (not (nat_lt first around.number)) at CallOrder in
      let mark = if_at (is_marked_text f && not around.is_job) at MarkedCallRule in
      let void = if_at (is_some target && is_void f.ty) at (OfTypes rule.Target) in
      let count = if_at (not (eqb (length f.params) (length es))) at (OfTypes rule.Count) in
      let none_t = no_target target (kept_rule (is_some target && is_void f.ty) at (OfTypes rule.Target) (none_right (order ++ mark) void (none_left (order ++ mark ++ void) count rules))) in
      let none_a = no_arguments es (not_false (eqb (length f.params) (length es))
      (kept_rule (not (eqb (length f.params) (length es))) at (OfTypes rule.Count) (none_right (order ++ mark ++ void) count rules))) in
      let steps : call_steps at (target_of here target) (number_named here.functions callee) (map (resolve_term here) es) rest ≡ Call at None first [] rest =
      λ i. call_steps at (target_of here (none_t i)) (option_map (λ (x : ℕ × FunctionText). x.0) (is i)) (map (resolve_term here) (none_a i)) rest in
      subst (λ s. Joint Q (run everywhere calls s u) (run everywhere calls' (resolve_statements there all n (calls_from at f.name 0 tiles) rest') v)) (sym steps)
      (subst (λ o. Joint Q (and_then (calls everywhere first [] u) (λ x. run everywhere calls rest x.1)) o) (sym (calls_run at rest' tiles 0 n v (omega arith)))
      (joint_then (λ (x : ℕ × ProgramState). run everywhere calls rest x.1) (run everywhere calls' rest') (alike.function u v a) (λ x y b. go x.1 y b)))
    where
      not_false : (b : Bool) → not b ≡ false → b ≡ true
      not_false true e = refl
      not_false false e = absurd (true≢false e)

  other_call : (Q : ProgramState → ProgramState → Type 0) (at : Place) (target : Option Text) (callee : Text) (es : List Expression)
      (rest rest' : Steps) → bytes_eq callee f.name ≡ false → (found : Option (ℕ × FunctionText)) → find_function around.scope.functions callee ≡ found →
      in_callee at around callee (is_some target) (length es) found ≡ [] → Onward Q rest rest' →
      Onward Q (call_steps at (target_of here target) (number_named here.functions callee) (map (resolve_term here) es) rest)
      (call_steps at (target_of there target) (number_named fs' callee) (map (resolve_term there) es) rest')
  other_call Q at target callee es rest rest' named None is formed go = cc
  other_call Q at target callee es rest rest' named (Some g) is formed go = λ u v a.
      let others = renamed.others callee g named is in
      let terms = map (resolve_term here) es in
      let slot = target_of here target in
      let steps : call_steps at slot (number_named here.functions callee) terms rest ≡ Call at slot g.0 terms rest =
      ap (λ o. call_steps at slot (option_map (λ (x : ℕ × FunctionText). x.0) o) terms rest) is in
      let steps' : call_steps at (target_of there target) (number_named fs' callee) (map (resolve_term there) es) rest' ≡ Call at slot (renumbered first tiles g.0) terms rest' =
      λ i. call_steps at (same_target fs' here target i) (others.1 i) (same_terms fs' here es i) rest' in
      subst (λ s. Joint Q (run everywhere calls s u) (run everywhere calls' (call_steps at (target_of there target) (number_named fs' callee) (map (resolve_term there) es) rest') v)) (sym steps)
      (subst (λ s. Joint Q (run everywhere calls (Call at slot g.0 terms rest) u) (run everywhere calls' s v)) (sym steps')
      (same_then (values everywhere u terms) (values everywhere v terms)
      (λ ws. and_then (calls everywhere g.0 ws u) (λ x. run everywhere calls rest (with_target slot x.0 x.1)))
      (λ ws. and_then (calls' everywhere (renumbered first tiles g.0) ws v) (λ x. run everywhere calls' rest' (with_target slot x.0 x.1)))
      (ap (λ (b : ProgramState). eval_all everywhere b.globals b.locals terms) a.same)
      (λ ws. joint_then (λ (x : ℕ × ProgramState). run everywhere calls rest (with_target slot x.0 x.1))
      (λ (x : ℕ × ProgramState). run everywhere calls' rest' (with_target slot x.0 x.1)) (alike.other g.0 ws u v others.0 a)
      (λ x y b. go (with_target slot x.0 x.1) (with_target slot y.0 y.1) (subst (λ w. B (with_target slot x.0 x.1) (with_target slot w y.1)) b.0 (target_alike slot x.0 b.1))))))

  -- ---- statements

  step_alike : (line k step : ℕ) (u v : ProgramState) → B u v → Joint B (loop_step line k step u) (loop_step line k step v)
  step_alike line k step u v a =
      subst (λ (z : ℤ). Joint B (loop_step line k step u) (cond (int_lt (pos 2147483647) z) (Err line) (Ok (with_local k (word_of z) v))))
      (ap (λ (b : ProgramState). int_local k b +ℤ pos step) a.same) (by (int_lt (pos 2147483647) (int_local k u +ℤ pos step)) (word_of (int_local k u +ℤ pos step)))
    where
      by : (b : Bool) (w : ℕ) → Joint B (cond b (Err line) (Ok (with_local k w u))) (cond b (Err line) (Ok (with_local k w v)))
      by true w = wrong line
      by false w = fine (with_local_alike k w a)

  loop_test_alike : (k : ℕ) (closed : Bool) (high : Expression) (u v : ProgramState) → B u v →
      loop_test everywhere k closed (resolve_term here high) u ≡ loop_test everywhere k closed (resolve_term there high) v
  loop_test_alike k closed high u v a =
      let local_is : int_local k u ≡ int_local k v = ap (λ (b : ProgramState). int_local k b) a.same in
      let value_is = value_alike u v a high in
      λ i. and_then (value_is i) (λ h. Ok (in_bound closed (local_is i) (value_in Int h)))

  choice_alike : (Q : ProgramState → ProgramState → Type 0) (condition : Expression) (taken taken' other other' rest rest' : Steps) →
      Onward B taken taken' → Onward B other other' → Onward Q rest rest' → (u v : ProgramState) → B u v →
      Joint Q (and_then (holds everywhere (resolve_term here condition) u) (λ c. and_then (choose c (run everywhere calls taken) (run everywhere calls other) u) (run everywhere calls rest)))
      (and_then (holds everywhere (resolve_term there condition) v) (λ c. and_then (choose c (run everywhere calls' taken') (run everywhere calls' other') v) (run everywhere calls' rest')))
  choice_alike Q condition taken taken' other other' rest rest' one two go u v a =
      same_then (holds everywhere (resolve_term here condition) u) (holds everywhere (resolve_term there condition) v)
      (λ c. and_then (choose c (run everywhere calls taken) (run everywhere calls other) u) (run everywhere calls rest))
      (λ c. and_then (choose c (run everywhere calls' taken') (run everywhere calls' other') v) (run everywhere calls' rest'))
      (holds_alike u v a condition) by
    where
      by : (c : Bool) → Joint Q (and_then (choose c (run everywhere calls taken) (run everywhere calls other) u) (run everywhere calls rest))
          (and_then (choose c (run everywhere calls' taken') (run everywhere calls' other') v) (run everywhere calls' rest'))
      by true = joint_then (run everywhere calls rest) (run everywhere calls' rest') (one u v a) go
      by false = joint_then (run everywhere calls rest) (run everywhere calls' rest') (two u v a) go

  counting_alike : (Q : ProgramState → ProgramState → Type 0) (line k k' step : ℕ) (closed : Bool) (high : Expression)
      (body body' rest rest' : Steps) → k' ≡ k → Onward B body body' → Onward Q rest rest' → (w : ℕ) (u v : ProgramState) → B u v →
      Joint Q (and_then (counting line turns (loop_test everywhere k closed (resolve_term here high))
      (λ t. and_then (run everywhere calls body t) (loop_step line k step)) (with_local k w u)) (run everywhere calls rest))
      (and_then (counting line turns (loop_test everywhere k' closed (resolve_term there high))
      (λ t. and_then (run everywhere calls' body' t) (loop_step line k' step)) (with_local k' w v)) (run everywhere calls' rest'))
  counting_alike Q line k k' step closed high body body' rest rest' same one go w u v a =
      subst (λ j. Joint Q (and_then (counting line turns (loop_test everywhere k closed (resolve_term here high))
      (λ t. and_then (run everywhere calls body t) (loop_step line k step)) (with_local k w u)) (run everywhere calls rest))
      (and_then (counting line turns (loop_test everywhere j closed (resolve_term there high))
      (λ t. and_then (run everywhere calls' body' t) (loop_step line j step)) (with_local j w v)) (run everywhere calls' rest'))) (sym same)
      (joint_then (run everywhere calls rest) (run everywhere calls' rest')
      (counting_joint B (loop_test everywhere k closed (resolve_term here high)) (loop_test everywhere k closed (resolve_term there high))
      (λ t. and_then (run everywhere calls body t) (loop_step line k step)) (λ t. and_then (run everywhere calls' body' t) (loop_step line k step))
      (loop_test_alike k closed high) (λ x y b. joint_then (loop_step line k step) (loop_step line k step) (one x y b) (step_alike line k step))
      line turns (with_local k w u) (with_local k w v) (with_local_alike k w a)) go)

  input_step_alike : (Q : ProgramState → ProgramState → Type 0) (rest rest' : Steps) (at : Place) (m : Meaning) → Onward Q rest rest' → Onward Q (input_steps at m rest) (input_steps at m rest')
  input_step_alike Q rest rest' at (LocalName k ty) go = λ u v a. go (take_input k u.inputs u) (take_input k v.inputs v) (input_alike k a)
  input_step_alike Q rest rest' at (ScalarName g ty) go = go
  input_step_alike Q rest rest' at (ArrayName g ty n) go = go
  input_step_alike Q rest rest' at (FunctionName n) go = go
  input_step_alike Q rest rest' at Nothing go = go

  call_alike : (Q : ProgramState → ProgramState → Type 0) (at : Place) (target : Option Text) (callee : Text) (es : List Expression)
      (rest rest' : Steps) (n : ℕ) (named : Bool) → bytes_eq callee f.name ≡ named →
      in_callee at around callee (is_some target) (length es) (find_function around.scope.functions callee) ≡ [] → Onward Q rest rest' →
      Onward Q (call_steps at (target_of here target) (number_named here.functions callee) (map (resolve_term here) es) rest)
      (resolve_statement there all n (cond named (block at (calls_from at f.name 0 tiles)) (call at target callee es)) rest')
  call_alike Q at target callee es rest rest' n true is formed go = called Q at target callee es rest rest' n is formed go
  call_alike Q at target callee es rest rest' n false is formed go = other_call Q at target callee es rest rest' is (find_function around.scope.functions callee) refl formed go

  mutual
    pub statement_alike : (Q : ProgramState → ProgramState → Type 0) (s : Statement) (n n' : ℕ) (rest rest' : Steps) → in_statement around s ≡ [] →
        Onward Q rest rest' → Onward Q (resolve_statement here all n s rest) (resolve_statement there all n' (with_tiles f.name tiles s) rest')
    statement_alike Q (block at body) n n' rest rest' formed go = statements_alike Q body n n' rest rest' formed go
    statement_alike Q (if_then at condition taken) n n' rest rest' formed go =
        choice_alike Q condition (resolve_statement here all n taken Done) (resolve_statement there all n' (with_tiles f.name tiles taken) Done) Done Done rest rest'
        (statement_alike B taken n n' Done Done (none_right (in_expression here condition) (in_statement around taken) formed) (λ u v a. fine a)) (λ u v a. fine a) go
    statement_alike Q (if_else at condition taken other) n n' rest rest' formed go =
        let front = none_left (in_expression here condition ++ in_statement around taken) (in_statement around other) formed in
        choice_alike Q condition (resolve_statement here all n taken Done) (resolve_statement there all n' (with_tiles f.name tiles taken) Done)
        (resolve_statement here all (n + loops_in taken) other Done) (resolve_statement there all (n' + loops_in (with_tiles f.name tiles taken)) (with_tiles f.name tiles other) Done) rest rest'
        (statement_alike B taken n n' Done Done (none_right (in_expression here condition) (in_statement around taken) front) (λ u v a. fine a))
        (statement_alike B other (n + loops_in taken) (n' + loops_in (with_tiles f.name tiles taken)) Done Done
        (none_right (in_expression here condition ++ in_statement around taken) (in_statement around other) formed) (λ u v a. fine a)) go
    statement_alike Q (bounded_while at most condition body) n n' rest rest' formed go = λ u v a.
        let turn = resolve_statement here all n body Done in
        let turn' = resolve_statement there all n' (with_tiles f.name tiles body) Done in
        joint_then (run everywhere calls rest) (run everywhere calls' rest')
        (bounded_joint B (holds everywhere (resolve_term here condition)) (holds everywhere (resolve_term there condition)) (run everywhere calls turn) (run everywhere calls' turn')
        (λ x y b. holds_alike x y b condition)
        (statement_alike B body n n' Done Done (none_right (if_at (not (is_between 1 1048576 most)) at LoopForm ++ in_expression here condition) (in_statement around body) formed) (λ x y b. fine b))
        most u v a) go
    statement_alike Q (counting_for at names low closed high step body) n n' rest rest' formed go = λ u v a.
        let k = loop_local (meaning_of here names.first) in
        let k' = loop_local (meaning_of there names.first) in
        let turn = resolve_statement here all (n + 1) body Done in
        let turn' = resolve_statement there all (n' + 1) (with_tiles f.name tiles body) Done in
        same_then (value everywhere u (resolve_term here low)) (value everywhere v (resolve_term there low))
        (λ w. and_then (counting at.line turns (loop_test everywhere k closed (resolve_term here high))
        (λ t. and_then (run everywhere calls turn t) (loop_step at.line k step)) (with_local k w u)) (run everywhere calls rest))
        (λ w. and_then (counting at.line turns (loop_test everywhere k' closed (resolve_term there high))
        (λ t. and_then (run everywhere calls' turn' t) (loop_step at.line k' step)) (with_local k' w v)) (run everywhere calls' rest'))
        (value_alike u v a low)
        (λ w. counting_alike Q at.line k k' step closed high turn turn' rest rest' (same_variable fs' here names.first)
        (statement_alike B body (n + 1) (n' + 1) Done Done
        (none_right (in_names at here names ++ if_at (not (is_loop here names low high step body)) at LoopForm ++ in_expression here low
        ++ in_expression here high) (in_statement around body) formed) (λ x y b. fine b)) go w u v a)
    statement_alike Q (assign at name index e) n n' rest rest' formed go = λ u v a.
        subst (λ s. Joint Q (run everywhere calls
        (set_steps at (meaning_of here name) (option_map (resolve_term here) index) (resolve_term here e) rest) u) (run everywhere calls' s v))
        (sym (same_set fs' here at name index e rest'))
        (set_alike Q rest rest' at (meaning_of here name) (option_map (resolve_term here) index) (resolve_term here e) go u v a)
    statement_alike Q (output at e) n n' rest rest' formed go = λ u v a.
        same_then (value everywhere u (resolve_term here e)) (value everywhere v (resolve_term there e))
        (λ w. run everywhere calls rest (with_output w u)) (λ w. run everywhere calls' rest' (with_output w v))
        (value_alike u v a e) (λ w. go (with_output w u) (with_output w v) (output_alike w a))
    statement_alike Q (input at name) n n' rest rest' formed go = λ u v a.
        subst (λ s. Joint Q (run everywhere calls (input_steps at (meaning_of here name) rest) u) (run everywhere calls' s v))
        (sym (same_input fs' here at name rest')) (input_step_alike Q rest rest' at (meaning_of here name) go u v a)
    statement_alike Q (call at target callee es) n n' rest rest' formed go =
        let goal = in_callee at around callee (is_some target) (length es) (find_function around.scope.functions callee) in
        call_alike Q at target callee es rest rest' n' (bytes_eq callee f.name) refl
        (none_right (in_call_target at here target) goal (none_left (in_call_target at here target ++ goal) (in_expressions here es) formed)) go

    pub statements_alike : (Q : ProgramState → ProgramState → Type 0) (ss : Statements) (n n' : ℕ) (rest rest' : Steps) →
        in_statements around ss ≡ [] → Onward Q rest rest' →
        Onward Q (resolve_statements here all n ss rest) (resolve_statements there all n' (all_with_tiles f.name tiles ss) rest')
    statements_alike Q no_statements n n' rest rest' formed go = go
    statements_alike Q (next_statement s ss) n n' rest rest' formed go =
        statement_alike Q s n n' (resolve_statements here all (n + loops_in s) ss rest)
        (resolve_statements there all (n' + loops_in (with_tiles f.name tiles s)) (all_with_tiles f.name tiles ss) rest')
        (none_left (in_statement around s) (in_statements around ss) formed)
        (statements_alike Q ss (n + loops_in s) (n' + loops_in (with_tiles f.name tiles s)) rest rest' (none_right (in_statement around s) (in_statements around ss) formed) go)
