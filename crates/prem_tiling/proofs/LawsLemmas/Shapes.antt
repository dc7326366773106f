-- What a function has that has the shape.
use Rattle.std.proofs.Common.{◌≡◌, ℕ, zero, suc, ◌≤◌, Bool, true, false, cond, ◌&&◌, ◌||◌, List, [], ◌∷◌, ◌++◌, map, refl, ap, sym, ◌∙◌, subst, arith, Option, None, Some, Ok, eqb}
use Rattle.std.proofs.Common.{true≢false, option_map, is_some, append_assoc}
use Rattle.prem_tiling.proofs.Prelude.{number_of, assigns_within as assigns_name_within, Access, and_then, eval, unary_word, Scope, find_named, find_local, find_global, find_function}
use Rattle.prem_tiling.proofs.Prelude.{global_meaning, first_meaning, meaning_of, local_number, declared, resolve_term, resolve_locals, local_names, ProgramState, declare, with_new_local}
use Rattle.prem_tiling.proofs.Prelude.{Text, Expression, literal, variable, element, unary, binary, Statement, block, if_then, if_else, bounded_while, counting_for, assign, output, input}
use Rattle.prem_tiling.proofs.Prelude.{call, Statements, no_statements, next_statement, Parameter, LocalVariable, GlobalVariable, FunctionText, Ty, names_of, is_number, is_local_named}
use Rattle.prem_tiling.proofs.Prelude.{assigns, assign_within, is_constant, has_call, Number, Loop, loop_between, loop_of, only_loop, without_call, no_parameters, are_constants, shape_of}
use Rattle.prem_tiling.proofs.Prelude.{Int, and_parts, leb-true, eqb-true, append-nil, bytes_eq-Decides, nat_le, bytes_eq}
use Rattle.prem_names.proofs.Named.{number_found, number_missing}
use Rattle.prem_syntax.specs.Breaches.{assigns as assigns_name}
use Rattle.prem_syntax.specs.declared.tree.Ty.TheVariants.{Int as IntTy}
use Rattle.prem_syntax.specs.declared.tree.UnOp.TheVariants.{Neg, Flip, Not}
use Rattle.prem_tiling.proofs.LawsLemmas.Tied.{Numbered, neither_left, neither_right}
use Rattle.prem_tiling.specs.Shapes.Shape.{number_of as number_at}

-- ---- the parts of the shape

abbrev pub low_end : Loop → Expression
low_end l = literal l.low.at l.low.value l.low.kind

abbrev pub high_end : Loop → Expression
high_end l = literal l.high.at l.high.value l.high.kind

abbrev pub statement_of : Loop → Statement
statement_of l = counting_for l.at l.names (low_end l) l.closed (high_end l) l.step l.body

pub record IsShape (f : FunctionText) (l : Loop) : Type 0 where
  pub marked : is_some f.mark ≡ true
  pub no_parameters : f.params ≡ []
  pub constants : are_constants f.locals ≡ true
  pub body : f.body ≡ next_statement (statement_of l) no_statements
  pub uncalled : has_call l.body ≡ false
  pub low_small : l.low.value ≤ 2147483647
  pub high_small : l.high.value ≤ 2147483647

record IsNumber (e : Expression) (n : Number) : Type 0 where
  is : e ≡ literal n.at n.value n.kind
  small : n.value ≤ 2147483647

is_number_at : (e : Expression) (n : Number) → number_at e ≡ Some n → IsNumber e n
is_number_at (literal at value kind) n e = by (nat_le value 2147483647) refl e
  where
    by : (b : Bool) → nat_le value 2147483647 ≡ b → cond b (Some (record { at = at; value = value; kind = kind })) None ≡ Some n → IsNumber (literal at value kind) n
    by true is h =
        let same : record { at = at; value = value; kind = kind } ≡ n = cc in
        record { is = λ i. literal (same i).at (same i).value (same i).kind; small = subst (λ (m : Number). m.value ≤ 2147483647) same (leb-true value 2147483647 is) }
    by false is h = cc
is_number_at (variable at name) n e = cc
is_number_at (element at name index) n e = cc
is_number_at (unary at op operand) n e = cc
is_number_at (binary at op left right) n e = cc

record IsOnly (s : Statement) (l : Loop) : Type 0 where
  is : s ≡ statement_of l
  low_small : l.low.value ≤ 2147483647
  high_small : l.high.value ≤ 2147483647

loop_parts : (s : Statement) (l : Loop) → loop_of s ≡ Some l → IsOnly s l
loop_parts (counting_for at names low closed high step body) l e = by (number_at low) refl (number_at high) refl e
  where
    by : (a : Option Number) → number_at low ≡ a → (b : Option Number) → number_at high ≡ b → loop_between at names closed step body a b ≡ Some l →
        IsOnly (counting_for at names low closed high step body) l
    by (Some a) is (Some b) is_b h =
        let one = is_number_at low a is in
        let two = is_number_at high b is_b in
        let made : Loop = record { at = at; names = names; low = a; closed = closed; high = b; step = step; body = body } in
        let same : made ≡ l = cc in
        subst (λ (x : Loop). IsOnly (counting_for at names low closed high step body) x) same
        (record { is = (λ i. counting_for at names (one.is i) closed (two.is i) step body); low_small = one.small; high_small = two.small })
    by None is b is_b h = cc
    by (Some a) is None is_b h = cc
loop_parts (block at body) l e = cc
loop_parts (if_then at condition taken) l e = cc
loop_parts (if_else at condition taken other) l e = cc
loop_parts (bounded_while at turns condition body) l e = cc
loop_parts (assign at name index value) l e = cc
loop_parts (output at value) l e = cc
loop_parts (input at name) l e = cc
loop_parts (call at target callee arguments) l e = cc

record IsBody (ss : Statements) (l : Loop) : Type 0 where
  is : ss ≡ next_statement (statement_of l) no_statements
  low_small : l.low.value ≤ 2147483647
  high_small : l.high.value ≤ 2147483647

body_parts : (ss : Statements) (l : Loop) → only_loop ss ≡ Some l → IsBody ss l
body_parts no_statements l e = cc
body_parts (next_statement s no_statements) l e = let one = loop_parts s l e in record { is = ap (λ x. next_statement x no_statements) one.is; low_small = one.low_small; high_small = one.high_small }
body_parts (next_statement s (next_statement t ss)) l e = cc

pub shape_parts : (f : FunctionText) (l : Loop) → shape_of f ≡ Some l → IsShape f l
shape_parts f l e = by (is_some f.mark && no_parameters f.params && are_constants f.locals) refl (only_loop f.body) refl e
  where
    none : (ps : List Parameter) → no_parameters ps ≡ true → ps ≡ []
    none [] h = refl
    none (p ∷ ps) h = absurd (true≢false (sym h))

    with_loop : (b : Bool) (m : Loop) → has_call m.body ≡ b → only_loop f.body ≡ Some m → cond b None (Some m) ≡ Some l →
        (is_some f.mark && no_parameters f.params && are_constants f.locals) ≡ true → IsShape f l
    with_loop true m calls is h tests = cc
    with_loop false m calls is h tests =
        let same : m ≡ l = cc in
        let whole = and_parts (is_some f.mark && no_parameters f.params) (are_constants f.locals) tests in
        let first = and_parts (is_some f.mark) (no_parameters f.params) whole.0 in
        let body = body_parts f.body l (is ∙ ap Some same) in
        record {
          marked = first.0;
          no_parameters = none f.params first.1;
          constants = whole.1;
          body = body.is;
          uncalled = ap (λ (x : Loop). has_call x.body) (sym same) ∙ calls;
          low_small = body.low_small;
          high_small = body.high_small;
        }

    by : (b : Bool) → (is_some f.mark && no_parameters f.params && are_constants f.locals) ≡ b → (o : Option Loop) → only_loop f.body ≡ o → cond b (without_call o) None ≡ Some l → IsShape f l
    by true tests (Some m) is h = with_loop (has_call m.body) m refl is h tests
    by true tests None is h = cc
    by false tests o is h = cc

-- ---- names of locals

some_variable : LocalVariable
some_variable = record { at = record { line = 0; col = 0 }; ty = IntTy; name = []; value = literal (record { line = 0; col = 0 }) 0 Int }

pub are_numbered : (scope : Scope) (ls : List LocalVariable) → scope.locals ≡ local_names ls → Numbered scope (names_of ls)
are_numbered scope ls is = record { number = λ name. by name (number_of (names_of ls) name) refl }
  where
    found : (name : Text) (o : Option (ℕ × (Text × Ty))) → find_named (λ (x : Text × Ty). x.0) name 0 (local_names ls) ≡ o → find_local scope name ≡ o
    found name o e = ap (find_named (λ (x : Text × Ty). x.0) name 0) is ∙ e

    local_here : (name : Text) (o : Option (ℕ × (Text × Ty))) → find_local scope name ≡ o → local_number (meaning_of scope name) ≡ option_map (λ (x : ℕ × (Text × Ty)). x.0) o
    local_here name (Some l) e = ap (λ o. local_number (first_meaning o (find_global scope name) (find_function scope.functions name))) e
    local_here name None e = ap (λ o. local_number (first_meaning o (find_global scope name) (find_function scope.functions name))) e
        ∙ no_local (find_global scope name) (find_function scope.functions name)
      where
        no_global : (g : ℕ × GlobalVariable) (len : Option ℕ) → local_number (global_meaning g.0 g.1.ty len) ≡ None
        no_global g None = refl
        no_global g (Some n) = refl

        no_local : (g : Option (ℕ × GlobalVariable)) (f : Option (ℕ × FunctionText)) → local_number (first_meaning None g f) ≡ None
        no_local (Some g) f = no_global g g.1.len
        no_local None (Some f) = refl
        no_local None None = refl

    by : (name : Text) (o : Option ℕ) → number_of (names_of ls) name ≡ o → local_number (meaning_of scope name) ≡ number_of (names_of ls) name
    by name (Some k) e = local_here name _ (found name _ (number_found (λ (l : LocalVariable). (l.name, l.ty)) (λ (x : Text × Ty). x.0) name some_variable ls k e)) ∙ sym e
    by name None e = local_here name _ (found name _ (number_missing (λ (l : LocalVariable). (l.name, l.ty)) (λ (x : Text × Ty). x.0) name ls e)) ∙ sym e

-- ---- the variable is left alone

no_successor : (o : Option ℕ) (k : ℕ) → option_map suc o ≡ Some k → zero ≡ k → ⊥
no_successor None k e z = cc
no_successor (Some j) k e z = let s : suc j ≡ k = cc in absurd (omega arith)

named_alike : (names : List Text) (a b : Text) (k : ℕ) → number_of names a ≡ Some k → number_of names b ≡ Some k → bytes_eq a b ≡ true
named_alike [] a b k e f = cc
named_alike (x ∷ xs) a b k e f = by (bytes_eq x a) refl (bytes_eq x b) refl (number_of xs a) (number_of xs b) e f (λ j h i. named_alike xs a b j h i)
  where
    by : (p : Bool) → bytes_eq x a ≡ p → (q : Bool) → bytes_eq x b ≡ q → (o o' : Option ℕ) → cond p (Some 0) (option_map suc o) ≡ Some k → cond q (Some 0) (option_map suc o') ≡ Some k →
        ((j : ℕ) → o ≡ Some j → o' ≡ Some j → bytes_eq a b ≡ true) → bytes_eq a b ≡ true
    by true is true is_b o o' h i more = let one : x ≡ a = (bytes_eq-Decides x a).0 is in let two : x ≡ b = (bytes_eq-Decides x b).0 is_b in (bytes_eq-Decides a b).1 (sym one ∙ two)
    by true is false is_b o o' h i more = let z : zero ≡ k = cc in absurd (no_successor o' k i z)
    by false is true is_b o o' h i more = let z : zero ≡ k = cc in absurd (no_successor o k h z)
    by false is false is_b None o' h i more = cc
    by false is false is_b (Some j) None h i more = cc
    by false is false is_b (Some j) (Some j') h i more = let one : suc j ≡ k = cc in let two : suc j' ≡ k = cc in let same : j' ≡ j = omega arith in more j refl (ap Some same)

module _ (names : List Text) (variable : Text) (k : ℕ) (there : number_of names variable ≡ Some k) where
  not_named : (other : Text) → bytes_eq other variable ≡ false → is_local_named names k other ≡ false
  not_named other e = by (number_of names other) refl
    where
      on : (j : ℕ) (b : Bool) → eqb j k ≡ b → number_of names other ≡ Some j → b ≡ false
      on j true same is = absurd (true≢false (sym (named_alike names other variable k (is ∙ ap Some (eqb-true j k same)) there) ∙ e))
      on j false same is = refl

      by : (o : Option ℕ) → number_of names other ≡ o → is_number k o ≡ false
      by None is = refl
      by (Some j) is = on j (eqb j k) refl is

  none_either : {a b : Bool} → a ≡ false → b ≡ false → (a || b) ≡ false
  none_either {a = a} {b = b} e f = ap (λ x. x || b) e ∙ f

  mutual
    pub left_alone : (s : Statement) → assigns_name variable s ≡ false → assigns names k s ≡ false
    left_alone (block at body) e = all_left_alone body e
    left_alone (if_then at condition taken) e = left_alone taken e
    left_alone (if_else at condition taken other) e =
        none_either (left_alone taken (neither_left (assigns_name variable taken) (assigns_name variable other) e))
        (left_alone other (neither_right (assigns_name variable taken) (assigns_name variable other) e))
    left_alone (bounded_while at turns condition body) e = left_alone body e
    left_alone (counting_for at ns low closed high step body) e =
        none_either (not_named ns.first (neither_left (bytes_eq ns.first variable) (assigns_name variable body) e))
        (left_alone body (neither_right (bytes_eq ns.first variable) (assigns_name variable body) e))
    left_alone (assign at name None value) e = not_named name e
    left_alone (assign at name (Some index) value) e = refl
    left_alone (output at value) e = refl
    left_alone (input at name) e = not_named name e
    left_alone (call at None callee arguments) e = refl
    left_alone (call at (Some name) callee arguments) e = not_named name e

    all_left_alone : (ss : Statements) → assigns_name_within variable ss ≡ false → assign_within names k ss ≡ false
    all_left_alone no_statements e = refl
    all_left_alone (next_statement s ss) e =
        none_either (left_alone s (neither_left (assigns_name variable s) (assigns_name_within variable ss) e))
        (all_left_alone ss (neither_right (assigns_name variable s) (assigns_name_within variable ss) e))

-- ---- locals that begin with constants

abbrev pub constant_word : Expression → ℕ
constant_word (literal at value kind) = value
constant_word (unary at op (literal p value kind)) = unary_word op value
constant_word e = 0

abbrev pub constant_words : List LocalVariable → List ℕ
constant_words ls = map (λ (l : LocalVariable). constant_word l.value) ls

constant_is : (scope : Scope) (may : Access) (globals : List (List ℕ)) (ls : List ℕ) (e : Expression) → is_constant e ≡ true → eval may globals ls (resolve_term scope e) ≡ Ok (constant_word e)
constant_is scope may globals ls (literal at value kind) h = refl
constant_is scope may globals ls (unary at Neg (literal p value kind)) h = refl
constant_is scope may globals ls (unary at Neg (variable p name)) h = absurd (true≢false (sym h))
constant_is scope may globals ls (unary at Neg (element p name index)) h = absurd (true≢false (sym h))
constant_is scope may globals ls (unary at Neg (unary p op operand)) h = absurd (true≢false (sym h))
constant_is scope may globals ls (unary at Neg (binary p op left right)) h = absurd (true≢false (sym h))
constant_is scope may globals ls (unary at Flip operand) h = absurd (true≢false (sym h))
constant_is scope may globals ls (unary at Not operand) h = absurd (true≢false (sym h))
constant_is scope may globals ls (variable at name) h = absurd (true≢false (sym h))
constant_is scope may globals ls (element at name index) h = absurd (true≢false (sym h))
constant_is scope may globals ls (binary at op left right) h = absurd (true≢false (sym h))

pub constants_declared : (scope : Scope) (may : Access) (ls : List LocalVariable) (s : ProgramState) → are_constants ls ≡ true →
    declare may (resolve_locals scope ls) s ≡ Ok (record s { locals = s.locals ++ constant_words ls })
constants_declared scope may [] s h = ap (λ (x : List ℕ). Ok (record s { locals = x })) (sym (append-nil s.locals))
constants_declared scope may (l ∷ ls) s h =
    let parts = and_parts (is_constant l.value) (are_constants ls) h in
    let w = constant_word l.value in
    ap (λ r. and_then r (λ w. declare may (resolve_locals (declared scope l) ls) (with_new_local w s))) (constant_is scope may s.globals s.locals l.value parts.0)
    ∙ constants_declared (declared scope l) may ls (with_new_local w s) parts.1
    ∙ ap (λ (x : List ℕ). Ok (record s { locals = x })) (append_assoc s.locals (w ∷ []) (constant_words ls))
