-- What the names of a program stand for, and the kinds of its expressions.
use Rattle.std.specs.Prelude.{ℕ, ◌+◌, List, [], ◌∷◌, ◌++◌, length, map, Option, None, Some, if◌then◌else◌, unwrap_or, codes}
use Rattle.std.specs.Option.{option_map}
use Rattle.std.specs.Str.{bytes_eq}
use Rattle.prem_word.specs.declared.kind.Kind.{Kind}
use Rattle.prem_word.specs.declared.kind.Kind.TheVariants.{Int, Unsigned}
use Rattle.prem_word.specs.declared.kind.BinOp.{BinOp}
use Rattle.prem_word.specs.declared.kind.BinOp.TheVariants.{Shl, Shr}
use Rattle.prem_word.specs.Words.{result_kind}
use Rattle.prem_syntax.specs.declared.tree.Place.{Place}
use Rattle.prem_syntax.specs.declared.tree.Ty.{Ty}
use Rattle.prem_syntax.specs.declared.tree.Ty.TheVariants.{Unsigned as UnsignedTy}
use Rattle.prem_syntax.specs.declared.tree.UnOp.{UnOp}
use Rattle.prem_syntax.specs.declared.tree.UnOp.TheVariants.{Not}
use Rattle.prem_syntax.specs.declared.meaning.Meaning.{Meaning}
use Rattle.prem_syntax.specs.declared.meaning.Meaning.TheVariants.{Nothing, Local as LocalName, Scalar as ScalarName, Array as ArrayName, Function as FunctionName}
use Rattle.prem_syntax.specs.Syntax.{Text, Expression, literal, variable, element, unary, binary, Statement, block, if_then, if_else, bounded_while, counting_for, assign, output}
use Rattle.prem_syntax.specs.Syntax.{input, call, Statements, no_statements, next_statement, Parameter, LocalVariable, GlobalVariable, FunctionText, global_item, function_item}
use Rattle.prem_syntax.specs.Syntax.{ProgramText}
use Rattle.prem_syntax.specs.Resolved.{Term, Constant, Local, Scalar, Element, Unary, Binary, AndAlso, OrElse, operator, Steps, Done, SetLocal, SetScalar, SetElement, Output}
use Rattle.prem_syntax.specs.Resolved.{Input, If, For, While, Call, Routine, Resolved}

-- what has a name at a place of a function
pub record Scope : Type 0 where
  pub locals : List (Text × Ty)  -- parameters, then the locals that are declared before
  pub globals : List GlobalVariable  -- those that stand before the function
  pub functions : List FunctionText  -- all of the program

-- the first of the things with a name, and its number, counted from n on
abbrev pub find_named : {A : Type 0} → (A → Text) → Text → ℕ → List A → Option (ℕ × A)
find_named name_of name n [] = None
find_named name_of name n (x ∷ xs) = if bytes_eq (name_of x) name then Some (n, x) else find_named name_of name (n + 1) xs

abbrev pub find_local : Scope → Text → Option (ℕ × (Text × Ty))
find_local scope name = find_named (λ (l : Text × Ty). l.0) name 0 scope.locals

abbrev pub find_global : Scope → Text → Option (ℕ × GlobalVariable)
find_global scope name = find_named (λ (g : GlobalVariable). g.name) name 0 scope.globals

abbrev pub find_function : List FunctionText → Text → Option (ℕ × FunctionText)
find_function functions name = find_named (λ (f : FunctionText). f.name) name 0 functions

abbrev pub global_meaning : ℕ → Ty → Option ℕ → Meaning
global_meaning number ty None = ScalarName number ty
global_meaning number ty (Some n) = ArrayName number ty n

-- the first of the three that is there
abbrev pub first_meaning : Option (ℕ × (Text × Ty)) → Option (ℕ × GlobalVariable) → Option (ℕ × FunctionText) → Meaning
first_meaning (Some l) g f = LocalName l.0 l.1.1
first_meaning None (Some g) f = global_meaning g.0 g.1.ty g.1.len
first_meaning None None (Some f) = FunctionName f.0
first_meaning None None None = Nothing

-- a parameter or local, then a global that stands before, then a function
abbrev pub meaning_of : Scope → Text → Meaning
meaning_of scope name = first_meaning (find_local scope name) (find_global scope name) (find_function scope.functions name)

-- C99 6.3.1.1: each type that is narrower than int promotes to int
abbrev pub promoted : Ty → Kind
promoted UnsignedTy = Unsigned
promoted _ = Int

-- C99 6.3.1.8: int with unsigned gives unsigned
abbrev pub common : Kind → Kind → Kind
common Int k = k
common Unsigned k = Unsigned

-- the kind in which an operator computes: of a shift it is that of the left operand
abbrev pub operand_kind : BinOp → Kind → Kind → Kind
operand_kind Shl a b = a
operand_kind Shr a b = a
operand_kind op a b = common a b

abbrev pub unary_kind : UnOp → Kind → Kind
unary_kind Not k = Int
unary_kind op k = k

abbrev pub kind_of : Term → Kind
kind_of (Constant at word kind) = kind
kind_of (Local at number kind) = kind
kind_of (Scalar at global ty) = promoted ty
kind_of (Element at global ty index) = promoted ty
kind_of (Unary at op operand) = unary_kind op (kind_of operand)
kind_of (Binary at op kind left right) = result_kind op kind
kind_of (AndAlso at left right) = Int
kind_of (OrElse at left right) = Int

-- What can't stand where it stands in a well-formed program is an int 0, or does nothing.

abbrev pub variable_term : Place → Meaning → Term
variable_term at (LocalName number ty) = Local at number (promoted ty)
variable_term at (ScalarName number ty) = Scalar at number ty
variable_term at m = Constant at 0 Int

abbrev pub element_term : Place → Meaning → Term → Term
element_term at (ArrayName number ty length) index = Element at number ty index
element_term at m index = Constant at 0 Int

abbrev pub binary_term : Place → BinOp → Term → Term → Term
binary_term at op left right = operator at op (operand_kind op (kind_of left) (kind_of right)) left right

abbrev pub resolve_term : Scope → Expression → Term
resolve_term scope (literal at value kind) = Constant at value kind
resolve_term scope (variable at name) = variable_term at (meaning_of scope name)
resolve_term scope (element at name index) = element_term at (meaning_of scope name) (resolve_term scope index)
resolve_term scope (unary at op operand) = Unary at op (resolve_term scope operand)
resolve_term scope (binary at op left right) = binary_term at op (resolve_term scope left) (resolve_term scope right)

-- the counting loops in a statement
abbrev mutual
  pub loops_in : Statement → ℕ
  loops_in (block at body) = loops_within body
  loops_in (if_then at condition taken) = loops_in taken
  loops_in (if_else at condition taken other) = loops_in taken + loops_in other
  loops_in (bounded_while at turns condition body) = loops_in body
  loops_in (counting_for at names low closed high step body) = 1 + loops_in body
  loops_in (assign at name index value) = 0
  loops_in (output at value) = 0
  loops_in (input at name) = 0
  loops_in (call at target callee arguments) = 0

  pub loops_within : Statements → ℕ
  loops_within no_statements = 0
  loops_within (next_statement first rest) = loops_in first + loops_within rest

abbrev pub set_steps : Place → Meaning → Option Term → Term → Steps → Steps
set_steps at (LocalName number ty) None value rest = SetLocal at number value rest
set_steps at (ScalarName number ty) None value rest = SetScalar at number ty value rest
set_steps at (ArrayName number ty length) (Some index) value rest = SetElement at number ty index value rest
set_steps at m index value rest = rest

abbrev pub input_steps : Place → Meaning → Steps → Steps
input_steps at (LocalName number ty) rest = Input at number rest
input_steps at m rest = rest

-- the variable of a loop
abbrev pub loop_local : Meaning → ℕ
loop_local (LocalName number ty) = number
loop_local m = 0

-- the number of a local
abbrev pub local_number : Meaning → Option ℕ
local_number (LocalName number ty) = Some number
local_number m = None

abbrev pub target_of : Scope → Option Text → Option ℕ
target_of scope None = None
target_of scope (Some name) = local_number (meaning_of scope name)

-- the number of the first function with a name
abbrev pub number_named : List FunctionText → Text → Option ℕ
number_named functions name = option_map (λ (f : ℕ × FunctionText). f.0) (find_function functions name)

abbrev pub call_steps : Place → Option ℕ → Option ℕ → List Term → Steps → Steps
call_steps at target None arguments rest = rest
call_steps at target (Some f) arguments rest = Call at target f arguments rest

-- a statement and the steps behind it; the loops from number n on have so many turns
abbrev mutual
  pub resolve_statement : Scope → (ℕ → ℕ) → ℕ → Statement → Steps → Steps
  resolve_statement scope turns n (block at body) rest = resolve_statements scope turns n body rest
  resolve_statement scope turns n (if_then at condition taken) rest =
      If at (resolve_term scope condition) (resolve_statement scope turns n taken Done) Done rest
  resolve_statement scope turns n (if_else at condition taken other) rest =
      If at (resolve_term scope condition) (resolve_statement scope turns n taken Done) (resolve_statement scope turns (n + loops_in taken) other Done) rest
  resolve_statement scope turns n (bounded_while at most condition body) rest =
      While at most (resolve_term scope condition) (resolve_statement scope turns n body Done) rest
  resolve_statement scope turns n (counting_for at names low closed high step body) rest =
      For at (loop_local (meaning_of scope names.first)) (resolve_term scope low) closed (resolve_term scope high) step (turns n) (resolve_statement scope turns (n + 1) body Done) rest
  resolve_statement scope turns n (assign at name index value) rest =
      set_steps at (meaning_of scope name) (option_map (resolve_term scope) index) (resolve_term scope value) rest
  resolve_statement scope turns n (output at value) rest = Output at (resolve_term scope value) rest
  resolve_statement scope turns n (input at name) rest = input_steps at (meaning_of scope name) rest
  resolve_statement scope turns n (call at target callee arguments) rest =
      call_steps at (target_of scope target) (number_named scope.functions callee) (map (resolve_term scope) arguments) rest

  pub resolve_statements : Scope → (ℕ → ℕ) → ℕ → Statements → Steps → Steps
  resolve_statements scope turns n no_statements rest = rest
  resolve_statements scope turns n (next_statement first others) rest =
      resolve_statement scope turns n first (resolve_statements scope turns (n + loops_in first) others rest)

-- a local has its name from behind its own declaration on
abbrev pub declared : Scope → LocalVariable → Scope
declared scope l = record scope { locals = scope.locals ++ (l.name, l.ty) ∷ [] }

abbrev pub resolve_locals : Scope → List LocalVariable → List Term
resolve_locals scope [] = []
resolve_locals scope (l ∷ ls) = resolve_term scope l.value ∷ resolve_locals (declared scope l) ls

abbrev pub parameter_names : List Parameter → List (Text × Ty)
parameter_names ps = map (λ (p : Parameter). (p.name, p.ty)) ps

abbrev pub local_names : List LocalVariable → List (Text × Ty)
local_names ls = map (λ (l : LocalVariable). (l.name, l.ty)) ls

-- at the beginning of a function, and in its body
abbrev pub scope_at : List FunctionText → List GlobalVariable → FunctionText → Scope
scope_at functions globals f = record { locals = parameter_names f.params; globals = globals; functions = functions }

abbrev pub scope_in : List FunctionText → List GlobalVariable → FunctionText → Scope
scope_in functions globals f = record { locals = parameter_names f.params ++ local_names f.locals; globals = globals; functions = functions }

abbrev pub resolve_function : List FunctionText → (ℕ → ℕ) → ℕ → List GlobalVariable → FunctionText → Routine
resolve_function functions turns n globals f = record {
  text = f;
  locals = resolve_locals (scope_at functions globals f) f.locals;
  body = resolve_statements (scope_in functions globals f) turns n f.body Done;
  result = option_map (resolve_term (scope_in functions globals f)) f.result;
}

abbrev pub globals_of : ProgramText → List GlobalVariable
globals_of [] = []
globals_of (global_item g ∷ items) = g ∷ globals_of items
globals_of (function_item f ∷ items) = globals_of items

abbrev pub functions_of : ProgramText → List FunctionText
functions_of [] = []
functions_of (global_item g ∷ items) = functions_of items
functions_of (function_item f ∷ items) = f ∷ functions_of items

-- the functions of items, behind globals and behind n loops
abbrev pub resolve_items : List FunctionText → (ℕ → ℕ) → ℕ → List GlobalVariable → ProgramText → List Routine
resolve_items functions turns n globals [] = []
resolve_items functions turns n globals (global_item g ∷ items) = resolve_items functions turns n (globals ++ g ∷ []) items
resolve_items functions turns n globals (function_item f ∷ items) =
    resolve_function functions turns n globals f ∷ resolve_items functions turns (n + loops_within f.body) globals items

-- the program, where its n-th counting loop has so many turns
abbrev pub resolve : (ℕ → ℕ) → ProgramText → Resolved
resolve turns p = record {
  globals = globals_of p;
  routines = resolve_items (functions_of p) turns 0 [] p;
  job = unwrap_or (number_named (functions_of p) (codes "job")) (length (functions_of p));
}
