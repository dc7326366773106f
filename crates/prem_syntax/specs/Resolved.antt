-- Programs whose names are resolved: parameters and locals, globals and functions by number, each operator with the kind in which it computes, each loop with its number of turns.
use Rattle.std.specs.Prelude.{ℕ, List, Option, Bool}
use Rattle.prem_word.specs.declared.kind.Kind.{Kind}
use Rattle.prem_word.specs.declared.kind.BinOp.{BinOp}
use Rattle.prem_word.specs.declared.kind.BinOp.TheVariants.{AndAlso as AndAlsoOp, OrElse as OrElseOp}
use Rattle.prem_syntax.specs.declared.tree.Place.{Place}
use Rattle.prem_syntax.specs.declared.tree.Ty.{Ty}
use Rattle.prem_syntax.specs.declared.tree.UnOp.{UnOp}
use Rattle.prem_syntax.specs.Syntax.{GlobalVariable, FunctionText}

-- an expression; locals are numbered from 0 with the parameters first, globals in the order of the text
pub data Term : Type 0 where
  Constant : (at : Place) (word : ℕ) (kind : Kind) → Term
  Local : (at : Place) (number : ℕ) (kind : Kind) → Term
  Scalar : (at : Place) (global : ℕ) (ty : Ty) → Term
  Element : (at : Place) (global : ℕ) (ty : Ty) (index : Term) → Term
  Unary : (at : Place) (op : UnOp) (operand : Term) → Term
  Binary : (at : Place) (op : BinOp) (kind : Kind) (left right : Term) → Term
  AndAlso : (at : Place) (left right : Term) → Term
  OrElse : (at : Place) (left right : Term) → Term

-- && and || are no operators on two words
abbrev pub operator : Place → BinOp → Kind → Term → Term → Term
operator at AndAlsoOp kind left right = AndAlso at left right
operator at OrElseOp kind left right = OrElse at left right
operator at op kind left right = Binary at op kind left right

-- a statement with what follows it; a block is its statements
pub data Steps : Type 0 where
  Done : Steps
  SetLocal : (at : Place) (number : ℕ) (value : Term) (rest : Steps) → Steps
  SetScalar : (at : Place) (global : ℕ) (ty : Ty) (value : Term) (rest : Steps) → Steps
  SetElement : (at : Place) (global : ℕ) (ty : Ty) (index value : Term) (rest : Steps) → Steps
  Output : (at : Place) (value : Term) (rest : Steps) → Steps
  Input : (at : Place) (number : ℕ) (rest : Steps) → Steps
  If : (at : Place) (condition : Term) (taken other rest : Steps) → Steps
  For : (at : Place) (number : ℕ) (low : Term) (closed : Bool) (high : Term) (step turns : ℕ) (body rest : Steps) → Steps
  While : (at : Place) (turns : ℕ) (condition : Term) (body rest : Steps) → Steps
  Call : (at : Place) (target : Option ℕ) (callee : ℕ) (arguments : List Term) (rest : Steps) → Steps

-- a function, with the initialisers of its locals
pub record Routine : Type 0 where
  pub text : FunctionText
  pub locals : List Term
  pub body : Steps
  pub result : Option Term

-- the globals and functions in the order of the text, and the number of `job`
pub record Resolved : Type 0 where
  pub globals : List GlobalVariable
  pub routines : List Routine
  pub job : ℕ
