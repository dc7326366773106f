-- A turn without a read of stale locals does the same from two states that differ in these alone.
use Rattle.std.proofs.Common.{◌≡◌, ℕ, ◌+◌, Bool, true, false, cond, not, ◌&&◌, ◌||◌, List, [], ◌++◌, refl, ap, sym, ◌∙◌, subst, Option, None, Some, Ok, Err, eqb, true≢false}
use Rattle.std.specs.Prelude.{ℤ, pos, ◌+ℤ◌, int_lt}
use Rattle.prem_tiling.proofs.Prelude.{number_of, Around, if_at, is_between, is_loop, in_expression, in_names, in_statement, in_statements, Outcome, and_then, Access, meaning_of}
use Rattle.prem_tiling.proofs.Prelude.{resolve_term, loops_in, set_steps, input_steps, loop_local, local_number, resolve_statement, resolve_statements, Steps, Done, LoopForm, ProgramState}
use Rattle.prem_tiling.proofs.Prelude.{MarkedCall, Calls, choose, value, with_local, store, with_output, take_input, holds, in_bound, int_local, loop_test, loop_step, counting, run, Text}
use Rattle.prem_tiling.proofs.Prelude.{Expression, Statement, block, if_then, if_else, bounded_while, counting_for, assign, output, input, call, Statements, no_statements, next_statement}
use Rattle.prem_tiling.proofs.Prelude.{Meaning, Nothing, Local as LocalName, Scalar as ScalarName, Array as ArrayName, Function as FunctionName, Place, is_number, is_local_named, assigns}
use Rattle.prem_tiling.proofs.Prelude.{assign_within, LocalSet, without, settled, settled_plain, behind, behind_all, first_line, read_of, read_of_option, read_in, read_within, has_call}
use Rattle.prem_tiling.proofs.Prelude.{have_call, value_in, word_of, Int, eq-eqb}
use Rattle.prem_tiling.proofs.LawsLemmas.Formed.{none_left, none_right, kept_rule_not, int_local_numbered, loop_parts}
use Rattle.prem_tiling.proofs.LawsLemmas.Joint.{Joint, fine, wrong, joint_then, same_then, counting_joint, bounded_joint}
use Rattle.prem_tiling.proofs.LawsLemmas.Tied.{neither_left, neither_right, either_left, either_right, no_line_left, no_line_right, Numbered, Tied, more_stale, with_local_tied, output_tied}
use Rattle.prem_tiling.proofs.LawsLemmas.Tied.{store_tied, input_tied, value_tied}
use Rattle.std.specs.Option.{option_map}

-- ---- nothing becomes stale

without_less : (o : Option ℕ) (stale : LocalSet) (k : ℕ) → stale k ≡ false → without o stale k ≡ false
without_less None stale k e = e
without_less (Some j) stale k e = by (not (eqb j k)) (stale k) e
  where
    by : (a b : Bool) → b ≡ false → (a && b) ≡ false
    by true b h = h
    by false b h = refl

neither : {a b : Bool} → a ≡ false → b ≡ false → (a || b) ≡ false
neither {a = a} {b = b} e f = ap (λ x. x || b) e ∙ f

mutual
  pub behind_less : (locals : List Text) (s : Statement) (stale : LocalSet) (k : ℕ) → stale k ≡ false → behind locals stale s k ≡ false
  behind_less locals (block at body) stale k e = behind_all_less locals body stale k e
  behind_less locals (if_then at condition taken) stale k e = neither e (behind_less locals taken stale k e)
  behind_less locals (if_else at condition taken other) stale k e = neither (behind_less locals taken stale k e) (behind_less locals other stale k e)
  behind_less locals (bounded_while at turns condition body) stale k e = e
  behind_less locals (counting_for at names low closed high step body) stale k e = without_less (number_of locals names.first) stale k e
  behind_less locals (assign at name None value) stale k e = without_less (number_of locals name) stale k e
  behind_less locals (assign at name (Some index) value) stale k e = e
  behind_less locals (output at value) stale k e = e
  behind_less locals (input at name) stale k e = without_less (number_of locals name) stale k e
  behind_less locals (call at None callee arguments) stale k e = e
  behind_less locals (call at (Some name) callee arguments) stale k e = without_less (number_of locals name) stale k e

  behind_all_less : (locals : List Text) (ss : Statements) (stale : LocalSet) (k : ℕ) → stale k ≡ false → behind_all locals stale ss k ≡ false
  behind_all_less locals no_statements stale k e = e
  behind_all_less locals (next_statement first rest) stale k e = behind_all_less locals rest (behind locals stale first) k (behind_less locals first stale k e)

-- ---- one turn

-- a local that steps assign by its name
pub number_named : (locals : List Text) (name : Text) (k : ℕ) → number_of locals name ≡ Some k → is_local_named locals k name ≡ true
number_named locals name k e = ap (is_number k) e ∙ eq-eqb k k refl

module _ (around : Around) (locals : List Text) (numbered : Numbered around.scope locals) (turns : ℕ → ℕ) (may : Access) (calls calls' : Calls)
    (base : List ℕ) (changed : LocalSet) (ms ns : List MarkedCall) where
  -- a statement without calls that breaks no rule, reads nothing stale and assigns what changes alone
  pub record Turned (stale : LocalSet) (s : Statement) : Type 0 where
    pub alone : has_call s ≡ false
    pub formed : in_statement around s ≡ []
    pub unread : read_in locals stale s ≡ None
    pub moves : (k : ℕ) → assigns locals k s ≡ true → changed k ≡ true

  pub record AllTurned (stale : LocalSet) (ss : Statements) : Type 0 where
    pub alone : have_call ss ≡ false
    pub formed : in_statements around ss ≡ []
    pub unread : read_within locals stale ss ≡ None
    pub moves : (k : ℕ) → assign_within locals k ss ≡ true → changed k ≡ true

  abbrev T : LocalSet → ProgramState → ProgramState → Type 0
  T stale u v = Tied base changed ms ns stale u v

  abbrev Onward : (Q : ProgramState → ProgramState → Type 0) → Steps → LocalSet → Type 0
  Onward Q steps stale = (u v : ProgramState) → T stale u v → Joint Q (run may calls steps u) (run may calls' steps v)

  set_tied : (Q : ProgramState → ProgramState → Type 0) (rest : Steps) (stale : LocalSet) (at : Place) (m : Meaning) (name : Text) (index : Option Expression) (e : Expression) →
      local_number m ≡ number_of locals name → read_of_option locals stale index ≡ None → read_of locals stale e ≡ None →
      ((k : ℕ) → assigns locals k (assign at name index e) ≡ true → changed k ≡ true) →
      Onward Q rest (settled_plain locals name index stale) → Onward Q (set_steps at m (option_map (resolve_term around.scope) index) (resolve_term around.scope e) rest) stale
  set_tied Q rest stale at (LocalName k ty) name None e is none_index none_value moves go u v t =
      same_then (value may u (resolve_term around.scope e)) (value may v (resolve_term around.scope e)) (λ w. run may calls rest (with_local k w u)) (λ w. run may calls' rest (with_local k w v))
      (value_tied around.scope locals numbered stale may u v t e none_value)
      (λ w. go (with_local k w u) (with_local k w v) (with_local_tied (number_of locals name) k w (sym is) (moves k (number_named locals name k (sym is))) t))
  set_tied Q rest stale at (ScalarName g ty) name None e is none_index none_value moves go u v t =
      same_then (value may u (resolve_term around.scope e)) (value may v (resolve_term around.scope e))
      (λ w. and_then (store may at.line ty g 0 w u) (run may calls rest)) (λ w. and_then (store may at.line ty g 0 w v) (run may calls' rest))
      (value_tied around.scope locals numbered stale may u v t e none_value)
      (λ w. joint_then (run may calls rest) (run may calls' rest) (store_tied may at.line ty g 0 w t)
      (λ x y s. go x y (more_stale (without (number_of locals name) stale) (λ k h. ap (λ o. without o stale k) is ∙ h) s)))
  set_tied Q rest stale at (ArrayName g ty n) name (Some index) e is none_index none_value moves go u v t =
      same_then (value may u (resolve_term around.scope e)) (value may v (resolve_term around.scope e))
      (λ w. and_then (value may u (resolve_term around.scope index)) (λ j. and_then (store may at.line ty g j w u) (run may calls rest)))
      (λ w. and_then (value may v (resolve_term around.scope index)) (λ j. and_then (store may at.line ty g j w v) (run may calls' rest)))
      (value_tied around.scope locals numbered stale may u v t e none_value)
      (λ w. same_then (value may u (resolve_term around.scope index)) (value may v (resolve_term around.scope index))
      (λ j. and_then (store may at.line ty g j w u) (run may calls rest)) (λ j. and_then (store may at.line ty g j w v) (run may calls' rest))
      (value_tied around.scope locals numbered stale may u v t index none_index)
      (λ j. joint_then (run may calls rest) (run may calls' rest) (store_tied may at.line ty g j w t) go))
  set_tied Q rest stale at (LocalName k ty) name (Some index) e is none_index none_value moves go u v t = go u v t
  set_tied Q rest stale at (ScalarName g ty) name (Some index) e is none_index none_value moves go u v t = go u v t
  set_tied Q rest stale at (FunctionName f) name (Some index) e is none_index none_value moves go u v t = go u v t
  set_tied Q rest stale at Nothing name (Some index) e is none_index none_value moves go u v t = go u v t
  set_tied Q rest stale at (ArrayName g ty n) name None e is none_index none_value moves go u v t =
      go u v (more_stale (without (number_of locals name) stale) (λ k h. ap (λ o. without o stale k) is ∙ h) t)
  set_tied Q rest stale at (FunctionName f) name None e is none_index none_value moves go u v t =
      go u v (more_stale (without (number_of locals name) stale) (λ k h. ap (λ o. without o stale k) is ∙ h) t)
  set_tied Q rest stale at Nothing name None e is none_index none_value moves go u v t = go u v (more_stale (without (number_of locals name) stale) (λ k h. ap (λ o. without o stale k) is ∙ h) t)

  input_step_tied : (Q : ProgramState → ProgramState → Type 0) (rest : Steps) (stale : LocalSet) (at : Place) (m : Meaning) (name : Text) →
      local_number m ≡ number_of locals name → ((k : ℕ) → is_local_named locals k name ≡ true → changed k ≡ true) →
      Onward Q rest (settled locals name stale) → Onward Q (input_steps at m rest) stale
  input_step_tied Q rest stale at (LocalName k ty) name is moves go u v t =
      go (take_input k u.inputs u) (take_input k v.inputs v) (input_tied (number_of locals name) k (sym is) (moves k (number_named locals name k (sym is))) t)
  input_step_tied Q rest stale at (ScalarName g ty) name is moves go u v t = go u v (more_stale (without (number_of locals name) stale) (λ k h. ap (λ o. without o stale k) is ∙ h) t)
  input_step_tied Q rest stale at (ArrayName g ty n) name is moves go u v t = go u v (more_stale (without (number_of locals name) stale) (λ k h. ap (λ o. without o stale k) is ∙ h) t)
  input_step_tied Q rest stale at (FunctionName f) name is moves go u v t = go u v (more_stale (without (number_of locals name) stale) (λ k h. ap (λ o. without o stale k) is ∙ h) t)
  input_step_tied Q rest stale at Nothing name is moves go u v t = go u v (more_stale (without (number_of locals name) stale) (λ k h. ap (λ o. without o stale k) is ∙ h) t)

  -- the step of a loop
  step_tied : (line k step : ℕ) (stale : LocalSet) (u v : ProgramState) → stale k ≡ false → changed k ≡ true → T stale u v → Joint (T stale) (loop_step line k step u) (loop_step line k step v)
  step_tied line k step stale u v fresh moves t =
      subst (λ (z : ℤ). Joint (T stale) (loop_step line k step u) (cond (int_lt (pos 2147483647) z) (Err line) (Ok (with_local k (word_of z) v))))
      (ap (λ w. value_in Int w +ℤ pos step) (t.alike k fresh)) (by (int_local k u +ℤ pos step))
    where
      by : (z : ℤ) → Joint (T stale) (cond (int_lt (pos 2147483647) z) (Err line) (Ok (with_local k (word_of z) u))) (cond (int_lt (pos 2147483647) z) (Err line) (Ok (with_local k (word_of z) v)))
      by z = on (int_lt (pos 2147483647) z)
        where
          on : (b : Bool) → Joint (T stale) (cond b (Err line) (Ok (with_local k (word_of z) u))) (cond b (Err line) (Ok (with_local k (word_of z) v)))
          on true = wrong line
          on false = fine (more_stale stale (without_less (Some k) stale) (with_local_tied (Some k) k (word_of z) refl moves t))

  choice_tied : (Q : ProgramState → ProgramState → Type 0) (taken other rest : Steps) (condition : Expression) (stale after : LocalSet) → read_of locals stale condition ≡ None →
      Onward (T after) taken stale → Onward (T after) other stale → Onward Q rest after → (u v : ProgramState) → T stale u v →
      Joint Q (and_then (holds may (resolve_term around.scope condition) u) (λ c. and_then (choose c (run may calls taken) (run may calls other) u) (run may calls rest)))
      (and_then (holds may (resolve_term around.scope condition) v) (λ c. and_then (choose c (run may calls' taken) (run may calls' other) v) (run may calls' rest)))
  choice_tied Q taken other rest condition stale after none one two go u v t =
      same_then (holds may (resolve_term around.scope condition) u) (holds may (resolve_term around.scope condition) v)
      (λ c. and_then (choose c (run may calls taken) (run may calls other) u) (run may calls rest)) (λ c. and_then (choose c (run may calls' taken) (run may calls' other) v) (run may calls' rest))
      (ap (λ (r : Outcome ℕ). and_then r (λ c. Ok (not (eqb c 0)))) (value_tied around.scope locals numbered stale may u v t condition none)) by
    where
      by : (c : Bool) → Joint Q (and_then (choose c (run may calls taken) (run may calls other) u) (run may calls rest))
          (and_then (choose c (run may calls' taken) (run may calls' other) v) (run may calls' rest))
      by true = joint_then (run may calls rest) (run may calls' rest) (one u v t) go
      by false = joint_then (run may calls rest) (run may calls' rest) (two u v t) go

  -- turns of a counting loop, and what comes behind it
  counting_tied : (Q : ProgramState → ProgramState → Type 0) (line k step most : ℕ) (closed : Bool) (high : Expression) (body rest : Steps)
      (stale : LocalSet) → stale k ≡ false → changed k ≡ true → read_of locals stale high ≡ None →
      Onward (T stale) body stale → Onward Q rest stale → (u v : ProgramState) → T stale u v →
      Joint Q (and_then (counting line most (loop_test may k closed (resolve_term around.scope high)) (λ t. and_then (run may calls body t) (loop_step line k step)) u) (run may calls rest))
      (and_then (counting line most (loop_test may k closed (resolve_term around.scope high)) (λ t. and_then (run may calls' body t) (loop_step line k step)) v) (run may calls' rest))
  counting_tied Q line k step most closed high body rest stale fresh moves none one go u v t =
      joint_then (run may calls rest) (run may calls' rest)
      (counting_joint (T stale) (loop_test may k closed (resolve_term around.scope high)) (loop_test may k closed (resolve_term around.scope high))
      (λ t. and_then (run may calls body t) (loop_step line k step)) (λ t. and_then (run may calls' body t) (loop_step line k step))
      (λ x y s. let value_is = value_tied around.scope locals numbered stale may x y s high none in let local_is =
      s.alike k fresh in λ i. and_then (value_is i) (λ h. Ok (in_bound closed (value_in Int (local_is i)) (value_in Int h))))
      (λ x y s. joint_then (loop_step line k step) (loop_step line k step) (one x y s) (λ a b r. step_tied line k step stale a b fresh moves r))
      line most u v t) go

  mutual
    pub statement_tied : (Q : ProgramState → ProgramState → Type 0) (s : Statement) (n : ℕ) (rest : Steps) (stale : LocalSet) → Turned stale s →
        Onward Q rest (behind locals stale s) → Onward Q (resolve_statement around.scope turns n s rest) stale
    statement_tied Q (block at body) n rest stale h go = statements_tied Q body n rest stale (record { alone = h.alone; formed = h.formed; unread = h.unread; moves = h.moves }) go
    statement_tied Q (if_then at condition taken) n rest stale h go =
        let after = behind locals stale (if_then at condition taken) in
        let reads = read_of locals stale condition in
        choice_tied Q (resolve_statement around.scope turns n taken Done) Done rest condition stale after (no_line_left reads (read_in locals stale taken) h.unread)
        (statement_tied (T after) taken n Done stale (record {
          alone = h.alone;
          formed = none_right (in_expression around.scope condition) (in_statement around taken) h.formed;
          unread = no_line_right reads (read_in locals stale taken) h.unread;
          moves = h.moves;
        }) (λ u v t. fine (more_stale after (λ k e. neither_right (stale k) (behind locals stale taken k) e) t)))
        (λ u v t. fine (more_stale after (λ k e. neither_left (stale k) (behind locals stale taken k) e) t)) go
    statement_tied Q (if_else at condition taken other) n rest stale h go =
        let after = behind locals stale (if_else at condition taken other) in
        let reads = read_of locals stale condition in
        let inner = no_line_right reads (first_line (read_in locals stale taken) (read_in locals stale other)) h.unread in
        let front = none_left (in_expression around.scope condition ++ in_statement around taken) (in_statement around other) h.formed in
        choice_tied Q (resolve_statement around.scope turns n taken Done) (resolve_statement around.scope turns (n + loops_in taken) other Done) rest condition stale after
        (no_line_left reads (first_line (read_in locals stale taken) (read_in locals stale other)) h.unread)
        (statement_tied (T after) taken n Done stale (record {
          alone = neither_left (has_call taken) (has_call other) h.alone;
          formed = none_right (in_expression around.scope condition) (in_statement around taken) front;
          unread = no_line_left (read_in locals stale taken) (read_in locals stale other) inner;
          moves = λ k e. h.moves k (either_left (assigns locals k taken) (assigns locals k other) e);
        }) (λ u v t. fine (more_stale after (λ k e. neither_left (behind locals stale taken k) (behind locals stale other k) e) t)))
        (statement_tied (T after) other (n + loops_in taken) Done stale (record {
          alone = neither_right (has_call taken) (has_call other) h.alone;
          formed = none_right (in_expression around.scope condition ++ in_statement around taken) (in_statement around other) h.formed;
          unread = no_line_right (read_in locals stale taken) (read_in locals stale other) inner;
          moves = λ k e. h.moves k (either_right (assigns locals k taken) (assigns locals k other) e);
        }) (λ u v t. fine (more_stale after (λ k e. neither_right (behind locals stale taken k) (behind locals stale other k) e) t))) go
    statement_tied Q (bounded_while at most condition body) n rest stale h go = λ u v t.
        let reads = read_of locals stale condition in
        let inner : Turned stale body = record {
          alone = h.alone;
          formed = none_right (if_at (not (is_between 1 1048576 most)) at LoopForm ++ in_expression around.scope condition) (in_statement around body) h.formed;
          unread = no_line_right reads (read_in locals stale body) h.unread;
          moves = h.moves;
        } in
        let turn = resolve_statement around.scope turns n body Done in
        joint_then (run may calls rest) (run may calls' rest)
        (bounded_joint (T stale) (holds may (resolve_term around.scope condition)) (holds may (resolve_term around.scope condition)) (run may calls turn) (run may calls' turn)
        (λ x y s. ap (λ (r : Outcome ℕ). and_then r (λ c. Ok (not (eqb c 0))))
        (value_tied around.scope locals numbered stale may x y s condition (no_line_left reads (read_in locals stale body) h.unread)))
        (λ x y s. statement_tied (T stale) body n Done stale inner (λ a b r. fine (more_stale stale (behind_less locals body stale) r)) x y s)
        most u v t) go
    statement_tied Q (counting_for at names low closed high step body) n rest stale h go = λ u v t.
        let m = meaning_of around.scope names.first in
        let k = loop_local m in
        let next = settled locals names.first stale in
        let form = if_at (not (is_loop around.scope names low high step body)) at LoopForm in
        let front = none_left (in_names at around.scope names ++ form ++ in_expression around.scope low ++ in_expression around.scope high) (in_statement around body) h.formed in
        let forms = none_left (in_names at around.scope names ++ form) (in_expression around.scope low)
        (none_left (in_names at around.scope names ++ form ++ in_expression around.scope low) (in_expression around.scope high) front) in
        let is = loop_parts around.scope names low high step body
        (kept_rule_not (is_loop around.scope names low high step body) at LoopForm (none_right (in_names at around.scope names) form forms)) in
        let numbered_k : number_of locals names.first ≡ Some k = sym (numbered.number names.first) ∙ int_local_numbered m is.variable in
        let moves : changed k ≡ true = h.moves k (either_left (is_local_named locals k names.first) (assigns locals k body) (number_named locals names.first k numbered_k)) in
        let fresh : next k ≡ false = ap (λ o. without o stale k) numbered_k ∙ ap (λ b. not b && stale k) (eq-eqb k k refl) in
        let inner = no_line_right (read_of locals stale low) (first_line (read_of locals next high) (read_in locals next body)) h.unread in
        let turned : Turned next body = record {
          alone = h.alone;
          formed = none_right (in_names at around.scope names ++ form ++ in_expression around.scope low ++ in_expression around.scope high) (in_statement around body) h.formed;
          unread = no_line_right (read_of locals next high) (read_in locals next body) inner;
          moves = λ j e. h.moves j (either_right (is_local_named locals j names.first) (assigns locals j body) e);
        } in
        let turn = resolve_statement around.scope turns (n + 1) body Done in
        same_then (value may u (resolve_term around.scope low)) (value may v (resolve_term around.scope low))
        (λ w. and_then (counting at.line (turns n) (loop_test may k closed (resolve_term around.scope high))
        (λ t. and_then (run may calls turn t) (loop_step at.line k step)) (with_local k w u)) (run may calls rest))
        (λ w. and_then (counting at.line (turns n) (loop_test may k closed (resolve_term around.scope high))
        (λ t. and_then (run may calls' turn t) (loop_step at.line k step)) (with_local k w v)) (run may calls' rest))
        (value_tied around.scope locals numbered stale may u v t low (no_line_left (read_of locals stale low) (first_line (read_of locals next high) (read_in locals next body)) h.unread))
        (λ w. counting_tied Q at.line k step (turns n) closed high turn rest next fresh moves (no_line_left (read_of locals next high) (read_in locals next body) inner)
        (statement_tied (T next) body (n + 1) Done next turned (λ a b r. fine (more_stale next (behind_less locals body next) r))) go
        (with_local k w u) (with_local k w v) (with_local_tied (number_of locals names.first) k w numbered_k moves t))
    statement_tied Q (assign at name index e) n rest stale h go =
        set_tied Q rest stale at (meaning_of around.scope name) name index e (numbered.number name) (no_line_left (read_of_option locals stale index) (read_of locals stale e) h.unread)
        (no_line_right (read_of_option locals stale index) (read_of locals stale e) h.unread) h.moves go
    statement_tied Q (output at e) n rest stale h go = λ u v t.
        same_then (value may u (resolve_term around.scope e)) (value may v (resolve_term around.scope e)) (λ w. run may calls rest (with_output w u)) (λ w. run may calls' rest (with_output w v))
        (value_tied around.scope locals numbered stale may u v t e h.unread) (λ w. go (with_output w u) (with_output w v) (output_tied w t))
    statement_tied Q (input at name) n rest stale h go = input_step_tied Q rest stale at (meaning_of around.scope name) name (numbered.number name) h.moves go
    statement_tied Q (call at target callee arguments) n rest stale h go = λ u v t. absurd (true≢false h.alone)

    statements_tied : (Q : ProgramState → ProgramState → Type 0) (ss : Statements) (n : ℕ) (rest : Steps) (stale : LocalSet) → AllTurned stale ss →
        Onward Q rest (behind_all locals stale ss) → Onward Q (resolve_statements around.scope turns n ss rest) stale
    statements_tied Q no_statements n rest stale h go = go
    statements_tied Q (next_statement first others) n rest stale h go =
        statement_tied Q first n (resolve_statements around.scope turns (n + loops_in first) others rest) stale (record {
          alone = neither_left (has_call first) (have_call others) h.alone;
          formed = none_left (in_statement around first) (in_statements around others) h.formed;
          unread = no_line_left (read_in locals stale first) (read_within locals (behind locals stale first) others) h.unread;
          moves = λ k e. h.moves k (either_left (assigns locals k first) (assign_within locals k others) e);
        }) (statements_tied Q others (n + loops_in first) rest (behind locals stale first) (record {
          alone = neither_right (has_call first) (have_call others) h.alone;
          formed = none_right (in_statement around first) (in_statements around others) h.formed;
          unread = no_line_right (read_in locals stale first) (read_within locals (behind locals stale first) others) h.unread;
          moves = λ k e. h.moves k (either_right (assigns locals k first) (assign_within locals k others) e);
        }) go)
