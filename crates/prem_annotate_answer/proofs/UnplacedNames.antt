-- Names stand for the same, places aside.
use Rattle.std.specs.Prelude.{unwrap_or, codes}
use Rattle.std.specs.Option.{option_map}
use Rattle.std.specs.Str.{bytes_eq}
use Rattle.std.proofs.Common.{◌≡◌, ℕ, ◌+◌, Bool, true, false, if◌then◌else◌, List, [], ◌∷◌, ◌++◌, length, map, refl, ap, sym, ◌∙◌, Option, None, Some}
use Rattle.std.proofs.lemmas.List.{length-map, map-append}
use Rattle.prem_word.specs.declared.kind.Kind.{Kind}
use Rattle.prem_word.specs.declared.kind.BinOp.{BinOp}
use Rattle.prem_word.specs.declared.kind.BinOp.TheVariants.{Add, Sub, Mul, Div, Rem, Shl, Shr, Lt, Le, Gt, Ge, Eq, Ne, And, Xor, Or, AndAlso as AndAlsoOp, OrElse as OrElseOp}
use Rattle.prem_syntax.specs.declared.tree.Place.{Place}
use Rattle.prem_syntax.specs.declared.tree.Ty.{Ty}
use Rattle.prem_syntax.specs.declared.meaning.Meaning.{Meaning}
use Rattle.prem_syntax.specs.declared.meaning.Meaning.TheVariants.{Nothing, Local as LocalName, Scalar as ScalarName, Array as ArrayName, Function as FunctionName}
use Rattle.prem_syntax.specs.Syntax.{Text, Expression, literal, variable, element, unary, binary, Statement, block, if_then, if_else, bounded_while, counting_for, assign, output}
use Rattle.prem_syntax.specs.Syntax.{input, call, Statements, no_statements, next_statement, Parameter, LocalVariable, GlobalVariable, FunctionText, global_item, function_item}
use Rattle.prem_syntax.specs.Syntax.{ProgramText}
use Rattle.prem_syntax.specs.Resolved.{Term, Constant, Local, Scalar, Element, Unary, Binary, AndAlso, OrElse, operator, Steps, Done, Output, If, For, While, Routine, Resolved}
use Rattle.prem_syntax.specs.Resolve.{Scope, find_named, find_local, find_global, find_function, first_meaning, meaning_of, operand_kind, unary_kind, kind_of, variable_term}
use Rattle.prem_syntax.specs.Resolve.{element_term, binary_term, resolve_term, loops_in, loops_within, set_steps, input_steps, loop_local, local_number, target_of, number_named}
use Rattle.prem_syntax.specs.Resolve.{call_steps, resolve_statement, resolve_statements, resolve_locals, parameter_names, local_names, resolve_function, globals_of, functions_of}
use Rattle.prem_syntax.specs.Resolve.{resolve_items, resolve}
use Rattle.prem_text.specs.Grammar.Reader.{nowhere}
use Rattle.prem_text.specs.Canonical.Unplaced.{unplaced_expression, unplaced_statement, unplaced_statements, unplaced_parameter, unplaced_local, unplaced_global, unplaced_function, unplaced}
use Rattle.prem_annotate_answer.specs.Unplaced.{unplaced_term, unplaced_steps, unplaced_routine, unplaced_routines, unplaced_resolved}

-- ---- scopes

either_found : {A : Type 0} (f : A → A) (b : Bool) (x : A) (o o' : Option A) → o' ≡ option_map f o → (if b then Some (f x) else o') ≡ option_map f (if b then Some x else o)
either_found f true x o o' e = refl
either_found f false x o o' e = e

pub globals_found : (name : Text) (n : ℕ) (gs : List GlobalVariable) →
    find_named (λ (g : GlobalVariable). g.name) name n (map unplaced_global gs)
    ≡ option_map (λ (g : ℕ × GlobalVariable). (g.0, unplaced_global g.1)) (find_named (λ (g : GlobalVariable). g.name) name n gs)
globals_found name n [] = refl
globals_found name n (g ∷ gs) =
    either_found (λ (x : ℕ × GlobalVariable). (x.0, unplaced_global x.1)) (bytes_eq g.name name) (n, g) (find_named (λ (x : GlobalVariable). x.name) name (n + 1) gs)
    (find_named (λ (x : GlobalVariable). x.name) name (n + 1) (map unplaced_global gs)) (globals_found name (n + 1) gs)

functions_found : (name : Text) (n : ℕ) (fs : List FunctionText) →
    find_named (λ (f : FunctionText). f.name) name n (map unplaced_function fs)
    ≡ option_map (λ (f : ℕ × FunctionText). (f.0, unplaced_function f.1)) (find_named (λ (f : FunctionText). f.name) name n fs)
functions_found name n [] = refl
functions_found name n (f ∷ fs) =
    either_found (λ (x : ℕ × FunctionText). (x.0, unplaced_function x.1)) (bytes_eq f.name name) (n, f) (find_named (λ (x : FunctionText). x.name) name (n + 1) fs)
    (find_named (λ (x : FunctionText). x.name) name (n + 1) (map unplaced_function fs)) (functions_found name (n + 1) fs)

meaning_by : (l : Option (ℕ × (Text × Ty))) (g : Option (ℕ × GlobalVariable)) (f : Option (ℕ × FunctionText)) →
    first_meaning l (option_map (λ (x : ℕ × GlobalVariable). (x.0, unplaced_global x.1)) g) (option_map (λ (x : ℕ × FunctionText). (x.0, unplaced_function x.1)) f) ≡ first_meaning l g f
meaning_by (Some l) g f = refl
meaning_by None (Some g) f = refl
meaning_by None None (Some f) = refl
meaning_by None None None = refl

meaning_same : (s : Scope) (name : Text) → meaning_of (record { locals = s.locals; globals = map unplaced_global s.globals; functions = map unplaced_function s.functions }) name ≡ meaning_of s name
meaning_same s name =
    (λ i. first_meaning (find_local s name) (globals_found name 0 s.globals i) (functions_found name 0 s.functions i))
    ∙ meaning_by (find_local s name) (find_global s name) (find_function s.functions name)

number_by : (o : Option (ℕ × FunctionText)) →
    option_map (λ (f : ℕ × FunctionText). f.0) (option_map (λ (f : ℕ × FunctionText). (f.0, unplaced_function f.1)) o)
    ≡ option_map (λ (f : ℕ × FunctionText). f.0) o
number_by None = refl
number_by (Some f) = refl

pub number_same : (fs : List FunctionText) (name : Text) → number_named (map unplaced_function fs) name ≡ number_named fs name
number_same fs name = ap (option_map (λ (f : ℕ × FunctionText). f.0)) (functions_found name 0 fs) ∙ number_by (find_function fs name)

-- ---- terms

pub kind_same : (e : Term) → kind_of (unplaced_term e) ≡ kind_of e
kind_same (Constant at word kind) = refl
kind_same (Local at number kind) = refl
kind_same (Scalar at global ty) = refl
kind_same (Element at global ty index) = refl
kind_same (Unary at op operand) = ap (unary_kind op) (kind_same operand)
kind_same (Binary at op kind left right) = refl
kind_same (AndAlso at left right) = refl
kind_same (OrElse at left right) = refl

variable_same : (at : Place) (m : Meaning) → variable_term nowhere m ≡ unplaced_term (variable_term at m)
variable_same at Nothing = refl
variable_same at (LocalName number ty) = refl
variable_same at (ScalarName number ty) = refl
variable_same at (ArrayName number ty length) = refl
variable_same at (FunctionName number) = refl

element_same : (at : Place) (m : Meaning) (index : Term) → element_term nowhere m (unplaced_term index) ≡ unplaced_term (element_term at m index)
element_same at Nothing index = refl
element_same at (LocalName number ty) index = refl
element_same at (ScalarName number ty) index = refl
element_same at (ArrayName number ty length) index = refl
element_same at (FunctionName number) index = refl

operator_same : (at : Place) (op : BinOp) (kind : Kind) (left right : Term) → operator nowhere op kind (unplaced_term left) (unplaced_term right) ≡ unplaced_term (operator at op kind left right)
operator_same at Add kind left right = refl
operator_same at Sub kind left right = refl
operator_same at Mul kind left right = refl
operator_same at Div kind left right = refl
operator_same at Rem kind left right = refl
operator_same at Shl kind left right = refl
operator_same at Shr kind left right = refl
operator_same at Lt kind left right = refl
operator_same at Le kind left right = refl
operator_same at Gt kind left right = refl
operator_same at Ge kind left right = refl
operator_same at Eq kind left right = refl
operator_same at Ne kind left right = refl
operator_same at And kind left right = refl
operator_same at Xor kind left right = refl
operator_same at Or kind left right = refl
operator_same at AndAlsoOp kind left right = refl
operator_same at OrElseOp kind left right = refl

binary_same : (at : Place) (op : BinOp) (left right : Term) → binary_term nowhere op (unplaced_term left) (unplaced_term right) ≡ unplaced_term (binary_term at op left right)
binary_same at op left right =
    (λ i. operator nowhere op (operand_kind op (kind_same left i) (kind_same right i)) (unplaced_term left) (unplaced_term right))
    ∙ operator_same at op (operand_kind op (kind_of left) (kind_of right)) left right

-- names stand for the same in these scopes
record Alike (a b : Scope) : Type 0 where
  meaning : (name : Text) → meaning_of a name ≡ meaning_of b name
  number : (name : Text) → number_named a.functions name ≡ number_named b.functions name

scopes_alike : (locals : List (Text × Ty)) (gs : List GlobalVariable) (fs : List FunctionText) →
    Alike (record { locals = locals; globals = map unplaced_global gs; functions = map unplaced_function fs }) (record { locals = locals; globals = gs; functions = fs })
scopes_alike locals gs fs = record { meaning = meaning_same (record { locals = locals; globals = gs; functions = fs }); number = number_same fs }

term_same : (a b : Scope) → Alike a b → (e : Expression) → resolve_term a (unplaced_expression e) ≡ unplaced_term (resolve_term b e)
term_same a b same (literal at value kind) = refl
term_same a b same (variable at name) = ap (variable_term nowhere) (same.meaning name) ∙ variable_same at (meaning_of b name)
term_same a b same (element at name index) =
    (λ i. element_term nowhere (same.meaning name i) (term_same a b same index i)) ∙ element_same at (meaning_of b name) (resolve_term b index)
term_same a b same (unary at op operand) = ap (Unary nowhere op) (term_same a b same operand)
term_same a b same (binary at op left right) =
    (λ i. binary_term nowhere op (term_same a b same left i) (term_same a b same right i)) ∙ binary_same at op (resolve_term b left) (resolve_term b right)

terms_same : (a b : Scope) → Alike a b → (es : List Expression) → map (resolve_term a) (map unplaced_expression es) ≡ map unplaced_term (map (resolve_term b) es)
terms_same a b same [] = refl
terms_same a b same (e ∷ es) = λ i. term_same a b same e i ∷ terms_same a b same es i

option_same : (a b : Scope) → Alike a b → (e : Option Expression) → option_map (resolve_term a) (option_map unplaced_expression e) ≡ option_map unplaced_term (option_map (resolve_term b) e)
option_same a b same None = refl
option_same a b same (Some e) = ap Some (term_same a b same e)

-- ---- statements

mutual
  pub loops_same : (s : Statement) → loops_in (unplaced_statement s) ≡ loops_in s
  loops_same (block at body) = all_loops_same body
  loops_same (if_then at condition taken) = loops_same taken
  loops_same (if_else at condition taken other) = λ i. loops_same taken i + loops_same other i
  loops_same (bounded_while at turns condition body) = loops_same body
  loops_same (counting_for at names low closed high step body) = ap (λ n. 1 + n) (loops_same body)
  loops_same (assign at name index value) = refl
  loops_same (output at value) = refl
  loops_same (input at name) = refl
  loops_same (call at target callee arguments) = refl

  pub all_loops_same : (s : Statements) → loops_within (unplaced_statements s) ≡ loops_within s
  all_loops_same no_statements = refl
  all_loops_same (next_statement first rest) = λ i. loops_same first i + all_loops_same rest i

set_same : (at : Place) (m : Meaning) (index : Option Term) (value : Term) (rest : Steps) →
    set_steps nowhere m (option_map unplaced_term index) (unplaced_term value) (unplaced_steps rest) ≡ unplaced_steps (set_steps at m index value rest)
set_same at Nothing None value rest = refl
set_same at Nothing (Some index) value rest = refl
set_same at (LocalName number ty) None value rest = refl
set_same at (LocalName number ty) (Some index) value rest = refl
set_same at (ScalarName number ty) None value rest = refl
set_same at (ScalarName number ty) (Some index) value rest = refl
set_same at (ArrayName number ty length) None value rest = refl
set_same at (ArrayName number ty length) (Some index) value rest = refl
set_same at (FunctionName number) None value rest = refl
set_same at (FunctionName number) (Some index) value rest = refl

input_same : (at : Place) (m : Meaning) (rest : Steps) → input_steps nowhere m (unplaced_steps rest) ≡ unplaced_steps (input_steps at m rest)
input_same at Nothing rest = refl
input_same at (LocalName number ty) rest = refl
input_same at (ScalarName number ty) rest = refl
input_same at (ArrayName number ty length) rest = refl
input_same at (FunctionName number) rest = refl

call_same : (at : Place) (target callee : Option ℕ) (arguments : List Term) (rest : Steps) →
    call_steps nowhere target callee (map unplaced_term arguments) (unplaced_steps rest) ≡ unplaced_steps (call_steps at target callee arguments rest)
call_same at target None arguments rest = refl
call_same at target (Some f) arguments rest = refl

target_same : (a b : Scope) → Alike a b → (target : Option Text) → target_of a target ≡ target_of b target
target_same a b same None = refl
target_same a b same (Some name) = ap local_number (same.meaning name)

mutual
  statement_same : (a b : Scope) → Alike a b → (t : ℕ → ℕ) (n : ℕ) (s : Statement) (rest rest' : Steps) → rest' ≡ unplaced_steps rest →
      resolve_statement a t n (unplaced_statement s) rest' ≡ unplaced_steps (resolve_statement b t n s rest)
  statement_same a b same t n (block at body) rest rest' e = statements_same a b same t n body rest rest' e
  statement_same a b same t n (if_then at condition taken) rest rest' e =
      let one = statement_same a b same t n taken Done Done refl in
      λ i. If nowhere (term_same a b same condition i) (one i) Done (e i)
  statement_same a b same t n (if_else at condition taken other) rest rest' e =
      let one = statement_same a b same t n taken Done Done refl in
      let two = ap (λ k. resolve_statement a t (n + k) (unplaced_statement other) Done) (loops_same taken) ∙ statement_same a b same t (n + loops_in taken) other Done Done refl in
      λ i. If nowhere (term_same a b same condition i) (one i) (two i) (e i)
  statement_same a b same t n (bounded_while at turns condition body) rest rest' e =
      let one = statement_same a b same t n body Done Done refl in
      λ i. While nowhere turns (term_same a b same condition i) (one i) (e i)
  statement_same a b same t n (counting_for at names low closed high step body) rest rest' e =
      let one = statement_same a b same t (n + 1) body Done Done refl in
      λ i. For nowhere (loop_local (same.meaning names.first i)) (term_same a b same low i) closed (term_same a b same high i) step (t n) (one i) (e i)
  statement_same a b same t n (assign at name index value) rest rest' e =
      (λ i. set_steps nowhere (same.meaning name i) (option_same a b same index i) (term_same a b same value i) (e i))
      ∙ set_same at (meaning_of b name) (option_map (resolve_term b) index) (resolve_term b value) rest
  statement_same a b same t n (output at value) rest rest' e = λ i. Output nowhere (term_same a b same value i) (e i)
  statement_same a b same t n (input at name) rest rest' e =
      (λ i. input_steps nowhere (same.meaning name i) (e i)) ∙ input_same at (meaning_of b name) rest
  statement_same a b same t n (call at target callee arguments) rest rest' e =
      (λ i. call_steps nowhere (target_same a b same target i) (same.number callee i) (terms_same a b same arguments i) (e i))
      ∙ call_same at (target_of b target) (number_named b.functions callee) (map (resolve_term b) arguments) rest

  statements_same : (a b : Scope) → Alike a b → (t : ℕ → ℕ) (n : ℕ) (s : Statements) (rest rest' : Steps) → rest' ≡ unplaced_steps rest →
      resolve_statements a t n (unplaced_statements s) rest' ≡ unplaced_steps (resolve_statements b t n s rest)
  statements_same a b same t n no_statements rest rest' e = e
  statements_same a b same t n (next_statement first others) rest rest' e =
      let more = ap (λ k. resolve_statements a t (n + k) (unplaced_statements others) rest') (loops_same first) ∙ statements_same a b same t (n + loops_in first) others rest rest' e in
      statement_same a b same t n first (resolve_statements b t (n + loops_in first) others rest)
      (resolve_statements a t (n + loops_in (unplaced_statement first)) (unplaced_statements others) rest') more

-- ---- functions

names_of_parameters : (ps : List Parameter) → parameter_names (map unplaced_parameter ps) ≡ parameter_names ps
names_of_parameters [] = refl
names_of_parameters (p ∷ ps) = ap (λ ns. (p.name, p.ty) ∷ ns) (names_of_parameters ps)

names_of_locals : (ls : List LocalVariable) → local_names (map unplaced_local ls) ≡ local_names ls
names_of_locals [] = refl
names_of_locals (l ∷ ls) = ap (λ ns. (l.name, l.ty) ∷ ns) (names_of_locals ls)

locals_same : (locals : List (Text × Ty)) (gs : List GlobalVariable) (fs : List FunctionText) (ls : List LocalVariable) →
    resolve_locals (record { locals = locals; globals = map unplaced_global gs; functions = map unplaced_function fs }) (map unplaced_local ls)
    ≡ map unplaced_term (resolve_locals (record { locals = locals; globals = gs; functions = fs }) ls)
locals_same locals gs fs [] = refl
locals_same locals gs fs (l ∷ ls) =
    let first = term_same (record { locals = locals; globals = map unplaced_global gs; functions = map unplaced_function fs })
    (record { locals = locals; globals = gs; functions = fs }) (scopes_alike locals gs fs) l.value in
    let rest = locals_same (locals ++ (l.name, l.ty) ∷ []) gs fs ls in
    λ i. first i ∷ rest i

routine_is : (a b : Routine) → a.text ≡ b.text → a.locals ≡ b.locals → a.body ≡ b.body → a.result ≡ b.result → a ≡ b
routine_is a b one two three four = λ i. record { text = one i; locals = two i; body = three i; result = four i }

function_same : (fs : List FunctionText) (t : ℕ → ℕ) (n : ℕ) (gs : List GlobalVariable) (f : FunctionText) →
    resolve_function (map unplaced_function fs) t n (map unplaced_global gs) (unplaced_function f) ≡ unplaced_routine (resolve_function fs t n gs f)
function_same fs t n gs f =
    let at_names = names_of_parameters f.params in
    let in_names : parameter_names (map unplaced_parameter f.params) ++ local_names (map unplaced_local f.locals) ≡ parameter_names f.params
    ++ local_names f.locals = λ i. at_names i ++ names_of_locals f.locals i in
    let names = parameter_names f.params ++ local_names f.locals in
    routine_is (resolve_function (map unplaced_function fs) t n (map unplaced_global gs) (unplaced_function f)) (unplaced_routine (resolve_function fs t n gs f)) refl
    (ap (λ ns. resolve_locals (record { locals = ns; globals = map unplaced_global gs; functions = map unplaced_function fs })
    (map unplaced_local f.locals)) at_names ∙ locals_same (parameter_names f.params) gs fs f.locals)
    (ap (λ ns. resolve_statements (record { locals = ns; globals = map unplaced_global gs; functions = map unplaced_function fs }) t n (unplaced_statements f.body) Done) in_names
    ∙ statements_same _ _ (scopes_alike names gs fs) t n f.body Done Done refl)
    (ap (λ ns. option_map (resolve_term (record { locals = ns; globals = map unplaced_global gs; functions = map unplaced_function fs })) (option_map unplaced_expression f.result)) in_names
    ∙ option_same _ _ (scopes_alike names gs fs) f.result)

-- ---- programs

items_same : (fs : List FunctionText) (t : ℕ → ℕ) (n : ℕ) (gs : List GlobalVariable) (items : ProgramText) →
    resolve_items (map unplaced_function fs) t n (map unplaced_global gs) (unplaced items) ≡ unplaced_routines (resolve_items fs t n gs items)
items_same fs t n gs [] = refl
items_same fs t n gs (global_item g ∷ items) =
    ap (λ xs. resolve_items (map unplaced_function fs) t n xs (unplaced items)) (sym (map-append unplaced_global gs (g ∷ []))) ∙ items_same fs t n (gs ++ g ∷ []) items
items_same fs t n gs (function_item f ∷ items) =
    let rest = ap (λ k. resolve_items (map unplaced_function fs) t (n + k) (map unplaced_global gs) (unplaced items)) (all_loops_same f.body) ∙ items_same fs t (n + loops_within f.body) gs items in
    λ i. function_same fs t n gs f i ∷ rest i

globals_same : (p : ProgramText) → globals_of (unplaced p) ≡ map unplaced_global (globals_of p)
globals_same [] = refl
globals_same (global_item g ∷ items) = ap (λ gs. unplaced_global g ∷ gs) (globals_same items)
globals_same (function_item f ∷ items) = globals_same items

pub functions_same : (p : ProgramText) → functions_of (unplaced p) ≡ map unplaced_function (functions_of p)
functions_same [] = refl
functions_same (global_item g ∷ items) = functions_same items
functions_same (function_item f ∷ items) = ap (λ fs. unplaced_function f ∷ fs) (functions_same items)

resolved_is : (a b : Resolved) → a.globals ≡ b.globals → a.routines ≡ b.routines → a.job ≡ b.job → a ≡ b
resolved_is a b one two three = λ i. record { globals = one i; routines = two i; job = three i }

-- a program's places put aside before its names are resolved, or behind
pub resolve_unplaced : (t : ℕ → ℕ) (p : ProgramText) → resolve t (unplaced p) ≡ unplaced_resolved (resolve t p)
resolve_unplaced t p =
    let fs = functions_of p in
    resolved_is (resolve t (unplaced p)) (unplaced_resolved (resolve t p)) (globals_same p)
    (ap (λ xs. resolve_items xs t 0 [] (unplaced p)) (functions_same p) ∙ items_same fs t 0 [] p)
    (ap (λ xs. unwrap_or (number_named xs (codes "job")) (length xs)) (functions_same p)
    ∙ ap (λ o. unwrap_or o (length (map unplaced_function fs))) (number_same fs (codes "job"))
    ∙ ap (λ n. unwrap_or (number_named fs (codes "job")) n) (length-map fs unplaced_function))
