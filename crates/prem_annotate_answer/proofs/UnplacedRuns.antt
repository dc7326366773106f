-- Programs that are the same, places aside, do the same, but for the line at which they go wrong.
use Rattle.std.specs.Prelude.{◌==◌, pos, ◌+ℤ◌, int_lt, if◌then◌else◌, is_some, slice_get}
use Rattle.std.specs.Option.{option_map}
use Rattle.std.proofs.Common.{◌≡◌, ℕ, zero, suc, Bool, true, false, List, [], ◌∷◌, length, map, refl, ap, sym, ◌∙◌, Option, None, Some, Ok, Err}
use Rattle.std.proofs.lemmas.List.{length-map}
use Rattle.prem_word.specs.declared.kind.Kind.{Kind}
use Rattle.prem_word.specs.declared.kind.BinOp.{BinOp}
use Rattle.prem_word.specs.declared.kind.BinOp.TheVariants.{Add, Sub, Mul, Div, Rem, Shl, Shr, Lt, Le, Gt, Ge, Eq, Ne, And, Xor, Or, AndAlso as AndAlsoOp, OrElse as OrElseOp}
use Rattle.prem_word.specs.Words.{word_of, apply_op}
use Rattle.prem_syntax.specs.declared.tree.Ty.{Ty}
use Rattle.prem_syntax.specs.Syntax.{MarkText, GlobalVariable, ProgramText}
use Rattle.prem_syntax.specs.Resolved.{Term, Constant, Local, Scalar, Element, Unary, Binary, AndAlso, OrElse, Steps, Done, SetLocal, SetScalar, SetElement, Output, Input, If, For}
use Rattle.prem_syntax.specs.Resolved.{While, Call, Routine, Resolved}
use Rattle.prem_syntax.specs.Resolve.{resolve}
use Rattle.prem_syntax.specs.Expressions.{Outcome, and_then, Access, cell, or_wrong, unary_word, operate, truth_of, eval, eval_all}
use Rattle.prem_syntax.specs.Statements.{ProgramState, Calls, choose, value, values, with_local, stored, with_cell, store, with_output, take_input, holds, int_local, loop_test}
use Rattle.prem_syntax.specs.Statements.{loop_step, counting, bounded, with_target, run, with_new_local, declare, result_of, with_mark, is_marked, leave, enter}
use Rattle.prem_syntax.specs.Source.{Limits, unlimited, enter_if_there, this_or, calls_below, initial_words, start, everywhere, do_jobs, source}
use Rattle.prem_text.specs.Grammar.Reader.{nowhere}
use Rattle.prem_text.specs.Canonical.Unplaced.{unplaced_mark, unplaced_global, unplaced}
use Rattle.prem_annotate_answer.specs.Unplaced.{unplaced_term, unplaced_steps, unplaced_routine, unplaced_routines, unplaced_resolved, unlined, RunsFollowNoPlace}
use Rattle.prem_annotate_answer.proofs.UnplacedNames.{resolve_unplaced}

-- ---- outcomes

same_value : {A B : Type 0} (x y : A) (go' : A → Outcome B) → Some x ≡ Some y → unlined (go' x) ≡ unlined (go' y)
same_value x y go' e = let same : x ≡ y = cc in ap (λ z. unlined (go' z)) same

then_same : {A B : Type 0} (r r' : Outcome A) (go go' : A → Outcome B) → unlined r ≡ unlined r' → ((x : A) → unlined (go x) ≡ unlined (go' x)) → unlined (and_then r go) ≡ unlined (and_then r' go')
then_same (Ok x) (Ok y) go go' e same = same x ∙ same_value x y go' e
then_same (Ok x) (Err line) go go' e same = absurd cc
then_same (Err line) (Ok y) go go' e same = absurd cc
then_same (Err line) (Err other) go go' e same = refl

wrong_same : {A : Type 0} (line other : ℕ) (o : Option A) → unlined (or_wrong line o) ≡ unlined (or_wrong other o)
wrong_same line other None = refl
wrong_same line other (Some x) = refl

-- ---- expressions

divide_by : (b : Bool) (line other : ℕ) (w : ℕ) → unlined (if b then Err line else Ok w) ≡ unlined (if b then Err other else Ok w)
divide_by true line other w = refl
divide_by false line other w = refl

operate_same : (line other : ℕ) (op : BinOp) (kind : Kind) (a b : ℕ) → unlined (operate line op kind a b) ≡ unlined (operate other op kind a b)
operate_same line other Add kind a b = refl
operate_same line other Sub kind a b = refl
operate_same line other Mul kind a b = refl
operate_same line other Div kind a b = divide_by (b == 0) line other (apply_op Div kind a b)
operate_same line other Rem kind a b = divide_by (b == 0) line other (apply_op Rem kind a b)
operate_same line other Shl kind a b = refl
operate_same line other Shr kind a b = refl
operate_same line other Lt kind a b = refl
operate_same line other Le kind a b = refl
operate_same line other Gt kind a b = refl
operate_same line other Ge kind a b = refl
operate_same line other Eq kind a b = refl
operate_same line other Ne kind a b = refl
operate_same line other And kind a b = refl
operate_same line other Xor kind a b = refl
operate_same line other Or kind a b = refl
operate_same line other AndAlsoOp kind a b = refl
operate_same line other OrElseOp kind a b = refl

either_same : {A : Type 0} (b : Bool) (x y x' y' : Outcome A) → unlined x ≡ unlined x' → unlined y ≡ unlined y' → unlined (if b then x else y) ≡ unlined (if b then x' else y')
either_same true x y x' y' one two = one
either_same false x y x' y' one two = two

truth_same : (r r' : Outcome ℕ) → unlined r ≡ unlined r' → unlined (truth_of r) ≡ unlined (truth_of r')
truth_same r r' e = then_same r r' _ _ e (λ b. refl)

eval_same : (may : Access) (gs : List (List ℕ)) (ls : List ℕ) (e : Term) → unlined (eval may gs ls (unplaced_term e)) ≡ unlined (eval may gs ls e)
eval_same may gs ls (Constant at word kind) = refl
eval_same may gs ls (Local at number kind) = refl
eval_same may gs ls (Scalar at g ty) = wrong_same nowhere.line at.line (cell may gs g 0)
eval_same may gs ls (Element at g ty index) =
    then_same (eval may gs ls (unplaced_term index)) (eval may gs ls index) (λ j. or_wrong nowhere.line (cell may gs g j)) (λ j. or_wrong at.line (cell may gs g j)) (eval_same may gs ls index)
    (λ j. wrong_same nowhere.line at.line (cell may gs g j))
eval_same may gs ls (Unary at op operand) =
    then_same (eval may gs ls (unplaced_term operand)) (eval may gs ls operand) (λ a. Ok (unary_word op a)) (λ a. Ok (unary_word op a)) (eval_same may gs ls operand) (λ a. refl)
eval_same may gs ls (Binary at op kind left right) =
    then_same (eval may gs ls (unplaced_term left)) (eval may gs ls left) (λ a. and_then (eval may gs ls (unplaced_term right)) (λ b. operate nowhere.line op kind a b))
    (λ a. and_then (eval may gs ls right) (λ b. operate at.line op kind a b)) (eval_same may gs ls left)
    (λ a. then_same (eval may gs ls (unplaced_term right)) (eval may gs ls right) (λ b. operate nowhere.line op kind a b)
    (λ b. operate at.line op kind a b) (eval_same may gs ls right) (λ b. operate_same nowhere.line at.line op kind a b))
eval_same may gs ls (AndAlso at left right) =
    then_same (eval may gs ls (unplaced_term left)) (eval may gs ls left) (λ a. if a == 0 then Ok 0 else truth_of (eval may gs ls (unplaced_term right)))
    (λ a. if a == 0 then Ok 0 else truth_of (eval may gs ls right)) (eval_same may gs ls left)
    (λ a. either_same (a == 0) (Ok 0) (truth_of (eval may gs ls (unplaced_term right))) (Ok 0) (truth_of (eval may gs ls right)) refl
    (truth_same (eval may gs ls (unplaced_term right)) (eval may gs ls right) (eval_same may gs ls right)))
eval_same may gs ls (OrElse at left right) =
    then_same (eval may gs ls (unplaced_term left)) (eval may gs ls left) (λ a. if a == 0 then truth_of (eval may gs ls (unplaced_term right)) else Ok 1)
    (λ a. if a == 0 then truth_of (eval may gs ls right) else Ok 1) (eval_same may gs ls left)
    (λ a. either_same (a == 0) (truth_of (eval may gs ls (unplaced_term right))) (Ok 1) (truth_of (eval may gs ls right)) (Ok 1)
    (truth_same (eval may gs ls (unplaced_term right)) (eval may gs ls right) (eval_same may gs ls right)) refl)

all_same : (may : Access) (gs : List (List ℕ)) (ls : List ℕ) (es : List Term) → unlined (eval_all may gs ls (map unplaced_term es)) ≡ unlined (eval_all may gs ls es)
all_same may gs ls [] = refl
all_same may gs ls (e ∷ es) =
    then_same (eval may gs ls (unplaced_term e)) (eval may gs ls e) (λ w. and_then (eval_all may gs ls (map unplaced_term es)) (λ ws. Ok (w ∷ ws)))
    (λ w. and_then (eval_all may gs ls es) (λ ws. Ok (w ∷ ws))) (eval_same may gs ls e)
    (λ w. then_same (eval_all may gs ls (map unplaced_term es)) (eval_all may gs ls es) (λ ws. Ok (w ∷ ws)) (λ ws. Ok (w ∷ ws)) (all_same may gs ls es) (λ ws. refl))

-- ---- statements

value_same : (may : Access) (s : ProgramState) (e : Term) → unlined (value may s (unplaced_term e)) ≡ unlined (value may s e)
value_same may s e = eval_same may s.globals s.locals e

store_same : (may : Access) (line other : ℕ) (ty : Ty) (g j w : ℕ) (s : ProgramState) → unlined (store may line ty g j w s) ≡ unlined (store may other ty g j w s)
store_same may line other ty g j w s =
    then_same (or_wrong line (cell may s.globals g j)) (or_wrong other (cell may s.globals g j)) (λ old. Ok (with_cell g j (stored ty w) s)) (λ old. Ok (with_cell g j (stored ty w) s))
    (wrong_same line other (cell may s.globals g j)) (λ old. refl)

holds_same : (may : Access) (condition : Term) (s : ProgramState) → unlined (holds may (unplaced_term condition) s) ≡ unlined (holds may condition s)
holds_same may condition s = then_same (value may s (unplaced_term condition)) (value may s condition) _ _ (value_same may s condition) (λ c. refl)

test_same : (may : Access) (k : ℕ) (closed : Bool) (high : Term) (s : ProgramState) → unlined (loop_test may k closed (unplaced_term high) s) ≡ unlined (loop_test may k closed high s)
test_same may k closed high s = then_same (value may s (unplaced_term high)) (value may s high) _ _ (value_same may s high) (λ h. refl)

step_by : (b : Bool) (line other : ℕ) (s : ProgramState) → unlined (if b then Err line else Ok s) ≡ unlined (if b then Err other else Ok s)
step_by true line other s = refl
step_by false line other s = refl

step_same : (line other k step : ℕ) (s : ProgramState) → unlined (loop_step line k step s) ≡ unlined (loop_step other k step s)
step_same line other k step s =
    step_by (int_lt (pos 2147483647) (int_local k s +ℤ pos step)) line other (with_local k (word_of (int_local k s +ℤ pos step)) s)

choose_same : (go : Bool) (f g f' g' : ProgramState → Outcome ProgramState) → ((s : ProgramState) → unlined (f s) ≡ unlined (f' s)) →
    ((s : ProgramState) → unlined (g s) ≡ unlined (g' s)) → (s : ProgramState) → unlined (choose go f g s) ≡ unlined (choose go f' g' s)
choose_same true f g f' g' one two s = one s
choose_same false f g f' g' one two s = two s

counting_same : (line other n : ℕ) (test test' : ProgramState → Outcome Bool) (turn turn' : ProgramState → Outcome ProgramState) →
    ((s : ProgramState) → unlined (test s) ≡ unlined (test' s)) → ((s : ProgramState) → unlined (turn s) ≡ unlined (turn' s)) →
    (s : ProgramState) → unlined (counting line n test turn s) ≡ unlined (counting other n test' turn' s)
unfolding counting
counting_same line other zero test test' turn turn' tests turns s =
    then_same (test s) (test' s) (λ go. choose go (λ t. Err line) Ok s) (λ go. choose go (λ t. Err other) Ok s) (tests s)
    (λ go. choose_same go (λ t. Err line) Ok (λ t. Err other) Ok (λ t. refl) (λ t. refl) s)
counting_same line other (suc n) test test' turn turn' tests turns s =
    then_same (test s) (test' s) (λ go. choose go (λ t. and_then (turn t) (counting line n test turn)) Ok s) (λ go. choose go (λ t. and_then (turn' t) (counting other n test' turn')) Ok s) (tests s)
    (λ go. choose_same go (λ t. and_then (turn t) (counting line n test turn)) Ok (λ t. and_then (turn' t) (counting other n test' turn')) Ok
    (λ t. then_same (turn t) (turn' t) (counting line n test turn) (counting other n test' turn') (turns t) (counting_same line other n test test' turn turn' tests turns)) (λ t. refl) s)

bounded_same : (n : ℕ) (test test' : ProgramState → Outcome Bool) (turn turn' : ProgramState → Outcome ProgramState) →
    ((s : ProgramState) → unlined (test s) ≡ unlined (test' s)) → ((s : ProgramState) → unlined (turn s) ≡ unlined (turn' s)) →
    (s : ProgramState) → unlined (bounded n test turn s) ≡ unlined (bounded n test' turn' s)
unfolding bounded
bounded_same zero test test' turn turn' tests turns s = refl
bounded_same (suc n) test test' turn turn' tests turns s =
    then_same (test s) (test' s) (λ go. choose go (λ t. and_then (turn t) (bounded n test turn)) Ok s) (λ go. choose go (λ t. and_then (turn' t) (bounded n test' turn')) Ok s) (tests s)
    (λ go. choose_same go (λ t. and_then (turn t) (bounded n test turn)) Ok (λ t. and_then (turn' t) (bounded n test' turn')) Ok
    (λ t. then_same (turn t) (turn' t) (bounded n test turn) (bounded n test' turn') (turns t) (bounded_same n test test' turn turn' tests turns)) (λ t. refl) s)

-- calls that give the same
abbrev SameCalls : Calls → Calls → Type 0
SameCalls calls calls' = (may : Access) (f : ℕ) (ws : List ℕ) (s : ProgramState) → unlined (calls may f ws s) ≡ unlined (calls' may f ws s)

run_same : (calls calls' : Calls) → SameCalls calls calls' → (may : Access) (b : Steps) (s : ProgramState) → unlined (run may calls (unplaced_steps b) s) ≡ unlined (run may calls' b s)
run_same calls calls' same may Done s = refl
run_same calls calls' same may (SetLocal at k e rest) s =
    then_same (value may s (unplaced_term e)) (value may s e) (λ w. run may calls (unplaced_steps rest) (with_local k w s)) (λ w. run may calls' rest (with_local k w s)) (value_same may s e)
    (λ w. run_same calls calls' same may rest (with_local k w s))
run_same calls calls' same may (SetScalar at g ty e rest) s =
    then_same (value may s (unplaced_term e)) (value may s e)
    (λ w. and_then (store may nowhere.line ty g 0 w s) (run may calls (unplaced_steps rest)))
    (λ w. and_then (store may at.line ty g 0 w s) (run may calls' rest)) (value_same may s e)
    (λ w. then_same (store may nowhere.line ty g 0 w s) (store may at.line ty g 0 w s) (run may calls (unplaced_steps rest)) (run may calls' rest)
    (store_same may nowhere.line at.line ty g 0 w s) (run_same calls calls' same may rest))
run_same calls calls' same may (SetElement at g ty index e rest) s =
    then_same (value may s (unplaced_term e)) (value may s e)
    (λ w. and_then (value may s (unplaced_term index)) (λ j. and_then (store may nowhere.line ty g j w s) (run may calls (unplaced_steps rest))))
    (λ w. and_then (value may s index) (λ j. and_then (store may at.line ty g j w s) (run may calls' rest))) (value_same may s e)
    (λ w. then_same (value may s (unplaced_term index)) (value may s index)
    (λ j. and_then (store may nowhere.line ty g j w s) (run may calls (unplaced_steps rest)))
    (λ j. and_then (store may at.line ty g j w s) (run may calls' rest))
    (value_same may s index)
    (λ j. then_same (store may nowhere.line ty g j w s) (store may at.line ty g j w s) (run may calls (unplaced_steps rest)) (run may calls' rest)
    (store_same may nowhere.line at.line ty g j w s) (run_same calls calls' same may rest)))
run_same calls calls' same may (Output at e rest) s =
    then_same (value may s (unplaced_term e)) (value may s e) (λ w. run may calls (unplaced_steps rest) (with_output w s)) (λ w. run may calls' rest (with_output w s)) (value_same may s e)
    (λ w. run_same calls calls' same may rest (with_output w s))
run_same calls calls' same may (Input at k rest) s = run_same calls calls' same may rest (take_input k s.inputs s)
run_same calls calls' same may (If at condition taken other rest) s =
    then_same (holds may (unplaced_term condition) s) (holds may condition s)
    (λ c. and_then (choose c (run may calls (unplaced_steps taken)) (run may calls (unplaced_steps other)) s) (run may calls (unplaced_steps rest)))
    (λ c. and_then (choose c (run may calls' taken) (run may calls' other) s) (run may calls' rest)) (holds_same may condition s)
    (λ c. then_same (choose c (run may calls (unplaced_steps taken)) (run may calls (unplaced_steps other)) s)
    (choose c (run may calls' taken) (run may calls' other) s) (run may calls (unplaced_steps rest)) (run may calls' rest)
    (choose_same c (run may calls (unplaced_steps taken)) (run may calls (unplaced_steps other)) (run may calls' taken) (run may calls' other)
    (run_same calls calls' same may taken) (run_same calls calls' same may other) s)
    (run_same calls calls' same may rest))
run_same calls calls' same may (For at k low closed high step turns body rest) s =
    then_same (value may s (unplaced_term low)) (value may s low)
    (λ w. and_then (counting nowhere.line turns (loop_test may k closed (unplaced_term high))
    (λ t. and_then (run may calls (unplaced_steps body) t) (loop_step nowhere.line k step)) (with_local k w s)) (run may calls (unplaced_steps rest)))
    (λ w. and_then (counting at.line turns (loop_test may k closed high) (λ t. and_then (run may calls' body t) (loop_step at.line k step))
    (with_local k w s)) (run may calls' rest)) (value_same may s low)
    (λ w. then_same (counting nowhere.line turns (loop_test may k closed (unplaced_term high))
    (λ t. and_then (run may calls (unplaced_steps body) t) (loop_step nowhere.line k step)) (with_local k w s))
    (counting at.line turns (loop_test may k closed high) (λ t. and_then (run may calls' body t) (loop_step at.line k step)) (with_local k w s))
    (run may calls (unplaced_steps rest)) (run may calls' rest)
    (counting_same nowhere.line at.line turns (loop_test may k closed (unplaced_term high)) (loop_test may k closed high)
    (λ t. and_then (run may calls (unplaced_steps body) t) (loop_step nowhere.line k step))
    (λ t. and_then (run may calls' body t) (loop_step at.line k step)) (test_same may k closed high)
    (λ t. then_same (run may calls (unplaced_steps body) t) (run may calls' body t) (loop_step nowhere.line k step) (loop_step at.line k step)
    (run_same calls calls' same may body t) (step_same nowhere.line at.line k step)) (with_local k w s))
    (run_same calls calls' same may rest))
run_same calls calls' same may (While at turns condition body rest) s =
    then_same (bounded turns (holds may (unplaced_term condition)) (run may calls (unplaced_steps body)) s)
    (bounded turns (holds may condition) (run may calls' body) s) (run may calls (unplaced_steps rest)) (run may calls' rest)
    (bounded_same turns (holds may (unplaced_term condition)) (holds may condition) (run may calls (unplaced_steps body)) (run may calls' body)
    (holds_same may condition) (run_same calls calls' same may body) s)
    (run_same calls calls' same may rest)
run_same calls calls' same may (Call at target f arguments rest) s =
    then_same (values may s (map unplaced_term arguments)) (values may s arguments) (λ ws. and_then (calls may f ws s) (λ r. run may calls (unplaced_steps rest) (with_target target r.0 r.1)))
    (λ ws. and_then (calls' may f ws s) (λ r. run may calls' rest (with_target target r.0 r.1))) (all_same may s.globals s.locals arguments)
    (λ ws. then_same (calls may f ws s) (calls' may f ws s) (λ r. run may calls (unplaced_steps rest) (with_target target r.0 r.1))
    (λ r. run may calls' rest (with_target target r.0 r.1)) (same may f ws s)
    (λ r. run_same calls calls' same may rest (with_target target r.0 r.1)))

-- ---- functions

declare_same : (may : Access) (es : List Term) (s : ProgramState) → unlined (declare may (map unplaced_term es) s) ≡ unlined (declare may es s)
declare_same may [] s = refl
declare_same may (e ∷ es) s =
    then_same (value may s (unplaced_term e)) (value may s e) (λ w. declare may (map unplaced_term es) (with_new_local w s))
    (λ w. declare may es (with_new_local w s)) (value_same may s e) (λ w. declare_same may es (with_new_local w s))

result_same : (may : Access) (e : Option Term) (s : ProgramState) → unlined (result_of may (option_map unplaced_term e) s) ≡ unlined (result_of may e s)
result_same may None s = refl
result_same may (Some e) s = value_same may s e

mark_same : (m : Option MarkText) → is_some (option_map unplaced_mark m) ≡ is_some m
mark_same None = refl
mark_same (Some m) = refl

pub marked_same : (f : Routine) → is_marked (unplaced_routine f) ≡ is_marked f
marked_same f = mark_same f.text.mark

leave_same : (f : Routine) (n : ℕ) (s t : ProgramState) → leave (unplaced_routine f) n s t ≡ leave f n s t
leave_same f n s t = ap (λ b. record t { locals = s.locals; marks = with_mark b (record { function = n; before = s.globals; after = t.globals }) t.marks }) (marked_same f)

enter_same : (calls calls' : Calls) → SameCalls calls calls' → (may : Access) (f : Routine) (n : ℕ) (ws : List ℕ) (s : ProgramState) →
    unlined (enter calls may (unplaced_routine f) n ws s) ≡ unlined (enter calls' may f n ws s)
enter_same calls calls' same may f n ws s =
    then_same (declare may (map unplaced_term f.locals) (record s { locals = ws })) (declare may f.locals (record s { locals = ws }))
    (λ t. and_then (run may calls (unplaced_steps f.body) t) (λ u. and_then (result_of may (option_map unplaced_term f.result) u) (λ w. Ok (w, leave (unplaced_routine f) n s u))))
    (λ t. and_then (run may calls' f.body t) (λ u. and_then (result_of may f.result u) (λ w. Ok (w, leave f n s u)))) (declare_same may f.locals (record s { locals = ws }))
    (λ t. then_same (run may calls (unplaced_steps f.body) t) (run may calls' f.body t)
    (λ u. and_then (result_of may (option_map unplaced_term f.result) u) (λ w. Ok (w, leave (unplaced_routine f) n s u)))
    (λ u. and_then (result_of may f.result u) (λ w. Ok (w, leave f n s u))) (run_same calls calls' same may f.body t)
    (λ u. then_same (result_of may (option_map unplaced_term f.result) u) (result_of may f.result u) (λ w. Ok (w, leave (unplaced_routine f) n s u))
    (λ w. Ok (w, leave f n s u)) (result_same may f.result u)
    (λ w. ap (λ (x : ProgramState). Some (w, x)) (leave_same f n s u))))

there_same : (limits : Limits) (calls calls' : Calls) → SameCalls calls calls' → (o : Option Routine) (n : ℕ) →
    SameCalls (enter_if_there limits calls (option_map unplaced_routine o) n) (enter_if_there limits calls' o n)
there_same limits calls calls' same None n may f ws s = refl
there_same limits calls calls' same (Some routine) n may f ws s =
    ap (λ b. unlined (enter calls (if b then limits.inside n else may) (unplaced_routine routine) n ws s)) (marked_same routine)
    ∙ enter_same calls calls' same (if is_marked routine then limits.inside n else may) routine n ws s

this_same : (b : Bool) (one two one' two' : Calls) → SameCalls one one' → SameCalls two two' → SameCalls (this_or b one two) (this_or b one' two')
this_same true one two one' two' first second = first
this_same false one two one' two' first second = second

get_same : (fs : List Routine) (n : ℕ) → slice_get (unplaced_routines fs) n ≡ option_map unplaced_routine (slice_get fs n)
get_same [] n = refl
get_same (f ∷ fs) zero = refl
get_same (f ∷ fs) (suc n) = get_same fs n

below_same : (limits : Limits) (fs : List Routine) (n : ℕ) → SameCalls (calls_below limits (unplaced_routines fs) n) (calls_below limits fs n)
below_same limits fs zero may f ws s = refl
below_same limits fs (suc n) may f ws s =
    let below = below_same limits fs n in
    let here : SameCalls (enter_if_there limits (calls_below limits (unplaced_routines fs) n) (slice_get (unplaced_routines fs) n) n)
    (enter_if_there limits (calls_below limits fs n) (slice_get fs n) n) =
    λ m g vs t. ap (λ o. unlined (enter_if_there limits (calls_below limits (unplaced_routines fs) n) o n m g vs t)) (get_same fs n)
    ∙ there_same limits (calls_below limits (unplaced_routines fs) n) (calls_below limits fs n) below (slice_get fs n) n m g vs t in
    this_same (f == n) (enter_if_there limits (calls_below limits (unplaced_routines fs) n) (slice_get (unplaced_routines fs) n) n) (calls_below limits (unplaced_routines fs) n)
    (enter_if_there limits (calls_below limits fs n) (slice_get fs n) n) (calls_below limits fs n) here below may f ws s

-- ---- programs

jobs_same : (limits : Limits) (p : Resolved) (n : ℕ) (s : ProgramState) → unlined (do_jobs limits (unplaced_resolved p) n s) ≡ unlined (do_jobs limits p n s)
jobs_same limits p zero s = refl
jobs_same limits p (suc n) s =
    let calls = calls_below limits (unplaced_routines p.routines) (length p.routines) in
    ap (λ k. unlined (and_then (calls_below limits (unplaced_routines p.routines) k everywhere p.job [] s) (λ r. do_jobs limits (unplaced_resolved p) n r.1))) (length-map p.routines unplaced_routine)
    ∙ then_same (calls everywhere p.job [] s) (calls_below limits p.routines (length p.routines) everywhere p.job [] s) (λ r. do_jobs limits (unplaced_resolved p) n r.1) (λ r. do_jobs limits p n r.1)
    (below_same limits p.routines (length p.routines) everywhere p.job [] s) (λ r. jobs_same limits p n r.1)

words_same : (gs : List GlobalVariable) → map initial_words (map unplaced_global gs) ≡ map initial_words gs
words_same [] = refl
words_same (g ∷ gs) = ap (λ ws. initial_words g ∷ ws) (words_same gs)

start_same : (p : Resolved) (inputs : List ℕ) → start (unplaced_resolved p) inputs ≡ start p inputs
start_same p inputs = ap (λ (gs : List (List ℕ)). record { globals = gs; locals = []; inputs = inputs; used = 0; outputs = []; marks = [] }) (words_same p.globals)

pub source_unplaced : (p : ProgramText) (inputs : List ℕ) (jobs : ℕ) → unlined (source (unplaced p) inputs jobs) ≡ unlined (source p inputs jobs)
source_unplaced p inputs jobs =
    let r = resolve unlimited.turns p in
    ap (λ (q : Resolved). unlined (do_jobs unlimited q jobs (start q inputs))) (resolve_unplaced unlimited.turns p)
    ∙ ap (λ (s : ProgramState). unlined (do_jobs unlimited (unplaced_resolved r) jobs s)) (start_same r inputs)
    ∙ jobs_same unlimited r jobs (start r inputs)

pub runs_follow_no_place : RunsFollowNoPlace
runs_follow_no_place p q same inputs jobs =
    sym (source_unplaced p inputs jobs) ∙ ap (λ (x : ProgramText). unlined (source x inputs jobs)) same ∙ source_unplaced q inputs jobs
