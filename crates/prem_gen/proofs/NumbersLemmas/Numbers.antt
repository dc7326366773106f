-- The number of what is found by its name is below their number.
use Rattle.std.specs.Prelude.{◌^◌, ⊤, if◌then◌else◌}
use Rattle.std.specs.Str.{bytes_eq}
use Rattle.std.proofs.Common.{◌<◌, ◌≤◌, ℕ, ◌+◌, Bool, true, false, List, [], ◌∷◌, length, Option, None, Some, arith, sym, subst}
use Rattle.prem_word.specs.declared.kind.Kind.{Kind}
use Rattle.prem_word.specs.declared.kind.BinOp.{BinOp}
use Rattle.prem_word.specs.declared.kind.BinOp.TheVariants.{Add, Sub, Mul, Div, Rem, Shl, Shr, Lt, Le, Gt, Ge, Eq, Ne, And, Xor, Or, AndAlso as AndAlsoOp, OrElse as OrElseOp}
use Rattle.prem_syntax.specs.declared.tree.Place.{Place}
use Rattle.prem_syntax.specs.declared.tree.Ty.{Ty}
use Rattle.prem_syntax.specs.declared.meaning.Meaning.{Meaning}
use Rattle.prem_syntax.specs.declared.meaning.Meaning.TheVariants.{Nothing, Local as LocalName, Scalar as ScalarName, Array as ArrayName, Function as FunctionName}
use Rattle.prem_syntax.specs.Syntax.{Text, Expression, literal, variable, element, unary, binary, GlobalVariable, FunctionText}
use Rattle.prem_syntax.specs.Resolve.{Scope, find_named, find_local, find_global, find_function, global_meaning, first_meaning, meaning_of, variable_term, element_term}
use Rattle.prem_syntax.specs.Resolve.{operand_kind, kind_of, resolve_term}
use Rattle.prem_syntax.specs.Resolved.{Term, operator}
use Rattle.prem_tree.specs.declared.resolve.resolved.Term.{Term as TermTree}
use Rattle.prem_tree.specs.declared.resolve.resolved.Term.TheVariants.{Constant as ConstantTree, Local as LocalTree, Scalar as ScalarTree, Element' as ElementTree}
use Rattle.prem_tree.specs.declared.resolve.resolved.Term.TheVariants.{Unary' as UnaryTree, Binary' as BinaryTree}
use Rattle.prem_tree.specs.Resolve.ResolvedOf.{term_of}
use Rattle.prem_gen.specs.Term.Numbers.{IsSmall, HasSmall}
use Rattle.prem_gen.specs.Numbers.Small.{TermSmall, FewNames, ResolvedAreSmall}

-- ---- what is found

abbrev Below : {A : Type 0} → ℕ → Option (ℕ × A) → Type 0
Below limit None = ⊤
Below limit (Some p) = p.0 < limit

below_more : {A : Type 0} (a b : ℕ) (found : Option (ℕ × A)) → a ≤ b → Below a found → Below b found
below_more a b None h f = tt
below_more a b (Some p) h f = omega (arith, f, h)

found_step : {A : Type 0} (b : Bool) (limit n : ℕ) (x : A) (rest : Option (ℕ × A)) → n < limit → Below limit rest → Below limit (if b then Some (n, x) else rest)
found_step true limit n x rest h f = h
found_step false limit n x rest h f = f

found_below : {A : Type 0} (name_of : A → Text) (name : Text) (n : ℕ) (xs : List A) → Below (n + length xs) (find_named name_of name n xs)
found_below name_of name n [] = tt
found_below name_of name n (x ∷ xs) =
    found_step (bytes_eq (name_of x) name) (n + length (x ∷ xs)) n x (find_named name_of name (n + 1) xs) (omega arith)
    (below_more (n + 1 + length xs) (n + length (x ∷ xs)) (find_named name_of name (n + 1) xs) (omega arith) (found_below name_of name (n + 1) xs))

-- ---- meanings

abbrev pub MeaningSmall : Meaning → Type 0
MeaningSmall (LocalName number ty) = IsSmall number
MeaningSmall (ScalarName number ty) = IsSmall number
MeaningSmall (ArrayName number ty len) = IsSmall number
MeaningSmall (FunctionName number) = ⊤
MeaningSmall Nothing = ⊤

global_small : (number : ℕ) (ty : Ty) (len : Option ℕ) → IsSmall number → MeaningSmall (global_meaning number ty len)
global_small number ty None h = h
global_small number ty (Some n) h = h

first_small : (l : Option (ℕ × (Text × Ty))) (g : Option (ℕ × GlobalVariable)) (f : Option (ℕ × FunctionText)) →
    Below (2 ^ 16) l → Below (2 ^ 16) g → MeaningSmall (first_meaning l g f)
first_small (Some l) g f hl hg = hl
first_small None (Some g) f hl hg = global_small g.0 g.1.ty g.1.len hg
first_small None None (Some f) hl hg = tt
first_small None None None hl hg = tt

pub meaning_small : (scope : Scope) → FewNames scope → (name : Text) → MeaningSmall (meaning_of scope name)
meaning_small scope few name =
    first_small (find_local scope name) (find_global scope name) (find_function scope.functions name)
    (below_more (0 + length scope.locals) (2 ^ 16) (find_local scope name) (omega (arith, few.few_locals)) (found_below (λ (l : Text × Ty). l.0) name 0 scope.locals))
    (below_more (0 + length scope.globals) (2 ^ 16) (find_global scope name) (omega (arith, few.few_globals)) (found_below (λ (g : GlobalVariable). g.name) name 0 scope.globals))

-- ---- terms

variable_small : (at : Place) (m : Meaning) → MeaningSmall m → TermSmall (variable_term at m)
variable_small at (LocalName number ty) h = h
variable_small at (ScalarName number ty) h = h
variable_small at (ArrayName number ty len) h = tt
variable_small at (FunctionName number) h = tt
variable_small at Nothing h = tt

element_small : (at : Place) (m : Meaning) (index : Term) → MeaningSmall m → TermSmall index → TermSmall (element_term at m index)
element_small at (LocalName number ty) index h i = tt
element_small at (ScalarName number ty) index h i = tt
element_small at (ArrayName number ty len) index h i = (h, i)
element_small at (FunctionName number) index h i = tt
element_small at Nothing index h i = tt

operator_small : (at : Place) (op : BinOp) (kind : Kind) (left right : Term) → TermSmall left → TermSmall right → TermSmall (operator at op kind left right)
operator_small at Add kind left right l r = (l, r)
operator_small at Sub kind left right l r = (l, r)
operator_small at Mul kind left right l r = (l, r)
operator_small at Div kind left right l r = (l, r)
operator_small at Rem kind left right l r = (l, r)
operator_small at Shl kind left right l r = (l, r)
operator_small at Shr kind left right l r = (l, r)
operator_small at Lt kind left right l r = (l, r)
operator_small at Le kind left right l r = (l, r)
operator_small at Gt kind left right l r = (l, r)
operator_small at Ge kind left right l r = (l, r)
operator_small at Eq kind left right l r = (l, r)
operator_small at Ne kind left right l r = (l, r)
operator_small at And kind left right l r = (l, r)
operator_small at Xor kind left right l r = (l, r)
operator_small at Or kind left right l r = (l, r)
operator_small at AndAlsoOp kind left right l r = (l, r)
operator_small at OrElseOp kind left right l r = (l, r)

pub resolved_small : (scope : Scope) → FewNames scope → (e : Expression) → TermSmall (resolve_term scope e)
resolved_small scope few (literal at value kind) = tt
resolved_small scope few (variable at name) = variable_small at (meaning_of scope name) (meaning_small scope few name)
resolved_small scope few (element at name index) = element_small at (meaning_of scope name) (resolve_term scope index) (meaning_small scope few name) (resolved_small scope few index)
resolved_small scope few (unary at op operand) = resolved_small scope few operand
resolved_small scope few (binary at op left right) =
    operator_small at op (operand_kind op (kind_of (resolve_term scope left)) (kind_of (resolve_term scope right))) (resolve_term scope left) (resolve_term scope right)
    (resolved_small scope few left) (resolved_small scope few right)

-- ---- terms in memory

sides_small : (at : Place) (op : BinOp) (kind : Kind) (left right : Term) → TermSmall (operator at op kind left right) → TermSmall left × TermSmall right
sides_small at Add kind left right h = h
sides_small at Sub kind left right h = h
sides_small at Mul kind left right h = h
sides_small at Div kind left right h = h
sides_small at Rem kind left right h = h
sides_small at Shl kind left right h = h
sides_small at Shr kind left right h = h
sides_small at Lt kind left right h = h
sides_small at Le kind left right h = h
sides_small at Gt kind left right h = h
sides_small at Ge kind left right h = h
sides_small at Eq kind left right h = h
sides_small at Ne kind left right h = h
sides_small at And kind left right h = h
sides_small at Xor kind left right h = h
sides_small at Or kind left right h = h
sides_small at AndAlsoOp kind left right h = h
sides_small at OrElseOp kind left right h = h

pub tree_small : (t : TermTree) → TermSmall (term_of t) → HasSmall t
tree_small (ConstantTree at word kind) h = tt
tree_small (LocalTree at number kind) h = h
tree_small (ScalarTree at g ty) h = h
tree_small (ElementTree at g ty p index) h = (h.0, tree_small index h.1)
tree_small (UnaryTree at op p operand) h = tree_small operand h
tree_small (BinaryTree at op kind p left right) h =
    let both = sides_small at op kind (term_of left) (term_of right) h in (tree_small left both.0, tree_small right both.1)

pub resolved_are_small : ResolvedAreSmall
resolved_are_small scope few e t is = tree_small t (subst TermSmall (sym is) (resolved_small scope few e))
