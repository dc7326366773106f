-- The globals that code names are all that it accesses.
use Rattle.std.proofs.Common.{◌≡◌, ℕ, zero, suc, refl, ap, ◌∙◌, subst, cond, eqb, not, true, false, Bool, ◌&&◌, List, [], ◌∷◌, ◌++◌, inl, inr, Some, None, Option, Ok}
use Rattle.prem_wcet_laws.proofs.Prelude.{performed, Access, and_then, words_of, cell, or_wrong, operate, unary_word, truth_of, eval, eval_all, IsAmong, callees_in, Term, Constant, Local}
use Rattle.prem_wcet_laws.proofs.Prelude.{Scalar, Element, Unary, Binary, AndAlso, OrElse, Steps, Done, SetLocal, SetScalar, SetElement, Output, Input, If, For, While, Call, Routine, Limits}
use Rattle.prem_wcet_laws.proofs.Prelude.{enter_if_there, this_or, calls_below, ProgramState, value, with_local, with_output, with_cell, stored, take_input, store, choose, holds, loop_step}
use Rattle.prem_wcet_laws.proofs.Prelude.{in_bound, int_local, counting, bounded, with_target, declare, with_new_local, result_of, leave, enter, is_marked, narrowed, AreInside, CallsSame}
use Rattle.prem_wcet_laws.proofs.Prelude.{globals_of, AreClosed, StepsNameAll, FunctionsNameAll, globals_in_term, globals_in, globals_in_terms, globals_in_result, eqb-true, slice_get}
use Rattle.prem_syntax.specs.Expressions.{Outcome}
use Rattle.prem_syntax.specs.Statements.{Calls, run}
use Rattle.prem_wcet_laws.proofs.Calls.{among_left, among_right}

module _ (inside : ℕ → Bool) where
  abbrev All : List ℕ → Type 0
  All names = AreInside inside names

  left_of : (xs ys : List ℕ) → All (xs ++ ys) → All xs
  left_of xs ys h g is = h g (among_left g xs ys is)

  right_of : (xs ys : List ℕ) → All (xs ++ ys) → All ys
  right_of xs ys h g is = h g (among_right g xs ys is)

  module _ (may : Access) where
    abbrev less : Access
    less = narrowed inside may

    and_true : (a b : Bool) → b ≡ true → (a && b) ≡ a
    and_true true b e = e
    and_true false b e = refl

    cell_same : (globals : List (List ℕ)) (g j : ℕ) → inside g ≡ true → cell less globals g j ≡ cell may globals g j
    cell_same globals g j e = ap (λ b. cond b (slice_get (words_of globals g) j) None) (and_true (may g j) (inside g) e)

    -- the same, and then the same
    then_same : {A B : Type 0} (x y : Outcome A) (f g : A → Outcome B) → x ≡ y → ((a : A) → f a ≡ g a) → and_then x f ≡ and_then y g
    then_same x y f g e h = ap (λ o. and_then o f) e ∙ ap (and_then y) (λ i a. h a i)

    eval_same : (globals : List (List ℕ)) (locals : List ℕ) (e : Term) → All (globals_in_term e) → eval less globals locals e ≡ eval may globals locals e
    eval_same globals locals (Constant at word kind) h = refl
    eval_same globals locals (Local at number kind) h = refl
    eval_same globals locals (Scalar at g ty) h = ap (or_wrong at.line) (cell_same globals g 0 (h g (inl refl)))
    eval_same globals locals (Element at g ty index) h =
        then_same _ _ _ _ (eval_same globals locals index (λ n is. h n (inr is))) (λ j. ap (or_wrong at.line) (cell_same globals g j (h g (inl refl))))
    eval_same globals locals (Unary at op operand) h = ap (λ o. and_then o (λ a. Ok (unary_word op a))) (eval_same globals locals operand h)
    eval_same globals locals (Binary at op kind left right) h =
        then_same _ _ _ _ (eval_same globals locals left (left_of (globals_in_term left) (globals_in_term right) h))
        (λ a. ap (λ o. and_then o (λ b. operate at.line op kind a b)) (eval_same globals locals right (right_of (globals_in_term left) (globals_in_term right) h)))
    eval_same globals locals (AndAlso at left right) h =
        then_same _ _ _ _ (eval_same globals locals left (left_of (globals_in_term left) (globals_in_term right) h))
        (λ a. ap (λ o. cond (eqb a 0) (Ok 0) (truth_of o)) (eval_same globals locals right (right_of (globals_in_term left) (globals_in_term right) h)))
    eval_same globals locals (OrElse at left right) h =
        then_same _ _ _ _ (eval_same globals locals left (left_of (globals_in_term left) (globals_in_term right) h))
        (λ a. ap (λ o. cond (eqb a 0) (truth_of o) (Ok 1)) (eval_same globals locals right (right_of (globals_in_term left) (globals_in_term right) h)))

    pub all_same : (globals : List (List ℕ)) (locals : List ℕ) (es : List Term) → All (globals_in_terms es) → eval_all less globals locals es ≡ eval_all may globals locals es
    all_same globals locals [] h = refl
    all_same globals locals (e ∷ es) h =
        then_same _ _ _ _ (eval_same globals locals e (left_of (globals_in_term e) (globals_in_terms es) h))
        (λ w. ap (λ o. and_then o (λ ws. Ok (w ∷ ws))) (all_same globals locals es (right_of (globals_in_term e) (globals_in_terms es) h)))

    pub value_same : (p : ProgramState) (e : Term) → All (globals_in_term e) → value less p e ≡ value may p e
    value_same p e h = eval_same p.globals p.locals e h

    store_same : (line : ℕ) (ty : _) (g j w : ℕ) (p : ProgramState) → inside g ≡ true → store less line ty g j w p ≡ store may line ty g j w p
    store_same line ty g j w p e = ap (λ o. and_then (or_wrong line o) (λ old. Ok (with_cell g j (stored ty w) p))) (cell_same p.globals g j e)

    -- ---- statements

    module _ (calls : Calls) where
      choose_same : (b : Bool) (f g f' g' : ProgramState → Outcome ProgramState) (p : ProgramState) → f p ≡ f' p → g p ≡ g' p → choose b f g p ≡ choose b f' g' p
      choose_same true f g f' g' p h k = h
      choose_same false f g f' g' p h k = k

      counting_same : (line n : ℕ) (test test' : ProgramState → Outcome Bool) (turn turn' : ProgramState → Outcome ProgramState) →
          ((p : ProgramState) → test p ≡ test' p) → ((p : ProgramState) → turn p ≡ turn' p) →
          (p : ProgramState) → counting line n test turn p ≡ counting line n test' turn' p
      counting_same line n test test' turn turn' h k p = ap (λ f. counting line n f turn p) (λ i q. h q i) ∙ ap (λ f. counting line n test' f p) (λ i q. k q i)

      bounded_same : (n : ℕ) (test test' : ProgramState → Outcome Bool) (turn turn' : ProgramState → Outcome ProgramState) →
          ((p : ProgramState) → test p ≡ test' p) → ((p : ProgramState) → turn p ≡ turn' p) →
          (p : ProgramState) → bounded n test turn p ≡ bounded n test' turn' p
      bounded_same n test test' turn turn' h k p = ap (λ f. bounded n f turn p) (λ i q. h q i) ∙ ap (λ f. bounded n test' f p) (λ i q. k q i)

      holds_same : (e : Term) (p : ProgramState) → All (globals_in_term e) → holds less e p ≡ holds may e p
      holds_same e p h = ap (λ o. and_then o (λ c. Ok (not (eqb c 0)))) (value_same p e h)

      abbrev Called : Steps → Type 0
      Called steps = (f : ℕ) → IsAmong f (callees_in steps) → CallsSame inside may calls f

      pub run_same : (steps : Steps) (p : ProgramState) → All (globals_in steps) → Called steps → run less calls steps p ≡ run may calls steps p
      run_same Done p h c = refl
      run_same (SetLocal at k e rest) p h c =
          then_same _ _ _ _ (value_same p e (left_of (globals_in_term e) (globals_in rest) h)) (λ w. run_same rest (with_local k w p) (right_of (globals_in_term e) (globals_in rest) h) c)
      run_same (SetScalar at g ty e rest) p h c =
          then_same _ _ _ _ (value_same p e (λ n is. h n (inr (among_left n (globals_in_term e) (globals_in rest) is))))
          (λ w. then_same _ _ _ _ (store_same at.line ty g 0 w p (h g (inl refl))) (λ q. run_same rest q (λ n is. h n (inr (among_right n (globals_in_term e) (globals_in rest) is))) c))
      run_same (SetElement at g ty index e rest) p h c =
          let both = globals_in_term index ++ globals_in_term e in
          then_same _ _ _ _ (value_same p e (λ n is. h n (inr (among_left n both (globals_in rest) (among_right n (globals_in_term index) (globals_in_term e) is)))))
          (λ w. then_same _ _ _ _ (value_same p index (λ n is. h n (inr (among_left n both (globals_in rest) (among_left n (globals_in_term index) (globals_in_term e) is)))))
          (λ j. then_same _ _ _ _ (store_same at.line ty g j w p (h g (inl refl))) (λ q. run_same rest q (λ n is. h n (inr (among_right n both (globals_in rest) is))) c)))
      run_same (Output at e rest) p h c =
          then_same _ _ _ _ (value_same p e (left_of (globals_in_term e) (globals_in rest) h)) (λ w. run_same rest (with_output w p) (right_of (globals_in_term e) (globals_in rest) h) c)
      run_same (Input at k rest) p h c = run_same rest (take_input k p.inputs p) h c
      run_same (If at condition taken other rest) p h c =
          let x = globals_in taken in
          let y = globals_in other in
          let z = globals_in rest in
          let h1 = right_of (globals_in_term condition) (x ++ (y ++ z)) h in
          let h2 = right_of x (y ++ z) h1 in
          let a = callees_in taken in
          let b = callees_in other in
          let d = callees_in rest in
          then_same _ _ _ _ (holds_same condition p (left_of (globals_in_term condition) (x ++ (y ++ z)) h))
          (λ q. then_same _ _ _ _
          (choose_same q _ _ _ _ p (run_same taken p (left_of x (y ++ z) h1) (λ f is. c f (among_left f a (b ++ d) is)))
          (run_same other p (left_of y z h2) (λ f is. c f (among_right f a (b ++ d) (among_left f b d is)))))
          (λ r. run_same rest r (right_of y z h2) (λ f is. c f (among_right f a (b ++ d) (among_right f b d is)))))
      run_same (For at k low closed high step turns body rest) p h c =
          let u = globals_in_term low ++ globals_in_term high in
          let x = globals_in body in
          let z = globals_in rest in
          let h0 = left_of u (x ++ z) h in
          let h1 = right_of u (x ++ z) h in
          let a = callees_in body in
          let d = callees_in rest in
          then_same _ _ _ _ (value_same p low (left_of (globals_in_term low) (globals_in_term high) h0))
          (λ w. then_same _ _ _ _
          (counting_same at.line turns _ _ _ _
          (λ q. ap (λ o. and_then o (λ z. Ok
          (in_bound closed (int_local k q) (Rattle.prem_word.specs.Words.value_in Rattle.prem_word.specs.declared.kind.Kind.TheVariants.Int z))))
          (value_same q high (right_of (globals_in_term low) (globals_in_term high) h0)))
          (λ q. ap (λ o. and_then o (loop_step at.line k step)) (run_same body q (left_of x z h1) (λ f is. c f (among_left f a d is)))) (with_local k w p))
          (λ r. run_same rest r (right_of x z h1) (λ f is. c f (among_right f a d is))))
      run_same (While at turns condition body rest) p h c =
          let x = globals_in body in
          let z = globals_in rest in
          let h1 = right_of (globals_in_term condition) (x ++ z) h in
          let a = callees_in body in
          let d = callees_in rest in
          then_same _ _ _ _
          (bounded_same turns _ _ _ _ (λ q. holds_same condition q (left_of (globals_in_term condition) (x ++ z) h)) (λ q. run_same body q (left_of x z h1) (λ f is. c f (among_left f a d is))) p)
          (λ r. run_same rest r (right_of x z h1) (λ f is. c f (among_right f a d is)))
      run_same (Call at target f arguments rest) p h c =
          then_same _ _ _ _ (all_same p.globals p.locals arguments (left_of (globals_in_terms arguments) (globals_in rest) h))
          (λ ws. then_same _ _ _ _ (c f (inl refl) ws p) (λ r. run_same rest (with_target target r.0 r.1) (right_of (globals_in_terms arguments) (globals_in rest) h) (λ g is. c g (inr is))))

      -- ---- functions

      pub declare_same : (es : List Term) (p : ProgramState) → All (globals_in_terms es) → declare less es p ≡ declare may es p
      declare_same [] p h = refl
      declare_same (e ∷ es) p h =
          then_same _ _ _ _ (value_same p e (left_of (globals_in_term e) (globals_in_terms es) h)) (λ w. declare_same es (with_new_local w p) (right_of (globals_in_term e) (globals_in_terms es) h))

      pub result_same : (o : Option Term) (p : ProgramState) → All (globals_in_result o) → result_of less o p ≡ result_of may o p
      result_same None p h = refl
      result_same (Some e) p h = value_same p e h

      enter_same : (f : Routine) (n : ℕ) (ws : List ℕ) (p : ProgramState) → All (globals_of f) → Called f.body → enter calls less f n ws p ≡ enter calls may f n ws p
      enter_same f n ws p h c =
          let a = globals_in_terms f.locals in
          let b = globals_in f.body in
          let d = globals_in_result f.result in
          let h1 = right_of a (b ++ d) h in
          then_same _ _ _ _ (declare_same f.locals (record p { locals = ws }) (left_of a (b ++ d) h))
          (λ t. then_same _ _ _ _ (run_same f.body t (left_of b d h1) c)
          (λ u. ap (λ o. and_then o (λ w. Ok (w, leave f n p u))) (result_same f.result u (right_of b d h1))))

      pub performed_same : (f : Routine) (ws : List ℕ) (p : ProgramState) → All (globals_of f) → Called f.body → performed calls less f ws p ≡ performed calls may f ws p
      performed_same f ws p h c =
          let a = globals_in_terms f.locals in
          let b = globals_in f.body in
          let d = globals_in_result f.result in
          let h1 = right_of a (b ++ d) h in
          then_same _ _ _ _ (declare_same f.locals (record p { locals = ws }) (left_of a (b ++ d) h))
          (λ t. then_same _ _ _ _ (run_same f.body t (left_of b d h1) c)
          (λ u. ap (λ o. and_then o (λ w. Ok (w, record u { locals = p.locals }))) (result_same f.result u (right_of b d h1))))

  -- ---- functions by number

  entered : (limits : Limits) (routines : List Routine) (Reached : ℕ → Type 0) → AreClosed inside routines Reached → (n : ℕ) (may : Access) →
      ((g : ℕ) → Reached g → CallsSame inside may (calls_below limits routines n) g) →
      (o : Option Routine) → slice_get routines n ≡ o → Reached n → (f : ℕ) (ws : List ℕ) (p : ProgramState) →
      enter_if_there limits (calls_below limits routines n) o n (narrowed inside may) f ws p ≡ enter_if_there limits (calls_below limits routines n) o n may f ws p
  entered limits routines Reached closed n may again None is reached f ws p = refl
  entered limits routines Reached closed n may again (Some r) is reached f ws p = marked (is_marked r) where
    marked : (b : Bool) → enter (calls_below limits routines n) (cond b (limits.inside n) (narrowed inside may)) r n ws p
        ≡ enter (calls_below limits routines n) (cond b (limits.inside n) may) r n ws p
    marked true = refl
    marked false =
        let h = closed n r reached is in
        enter_same may (calls_below limits routines n) r n ws p h.0 (λ c is. again c (h.1 c is))

  pub calls_same : (limits : Limits) (routines : List Routine) (Reached : ℕ → Type 0) → AreClosed inside routines Reached →
      (n : ℕ) (may : Access) (f : ℕ) → Reached f → CallsSame inside may (calls_below limits routines n) f
  calls_same limits routines Reached closed zero may f there ws p = refl
  calls_same limits routines Reached closed (suc n) may f there ws p =
      by (eqb f n) refl (λ g is. calls_same limits routines Reached closed n may g is) where
        by : (b : Bool) → eqb f n ≡ b → ((g : ℕ) → Reached g → CallsSame inside may (calls_below limits routines n) g) →
            this_or b (enter_if_there limits (calls_below limits routines n) (slice_get routines n) n) (calls_below limits routines n) (narrowed inside may) f ws p
            ≡ this_or b (enter_if_there limits (calls_below limits routines n) (slice_get routines n) n) (calls_below limits routines n) may f ws p
        by true is again = entered limits routines Reached closed n may again (slice_get routines n) refl (subst Reached (eqb-true f n is) there) f ws p
        by false is again = again f there ws p

pub steps_name_all : StepsNameAll
steps_name_all inside may calls steps p h c = run_same inside may calls steps p h c

pub functions_name_all : FunctionsNameAll
functions_name_all inside limits routines reached closed n may f there ws p = calls_same inside limits routines (λ f. reached f ≡ true) closed n may f there ws p
