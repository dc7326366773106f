-- The language's syntax as plain data: what a tree says, wherever its parts lie in memory.
use Rattle.std.specs.Prelude.{ℕ, ℤ, List, Option, Bool}
use Rattle.prem_word.specs.declared.kind.Kind.{Kind}
use Rattle.prem_word.specs.declared.kind.BinOp.{BinOp}
use Rattle.prem_syntax.specs.declared.tree.Place.{Place}
use Rattle.prem_syntax.specs.declared.tree.Ty.{Ty}
use Rattle.prem_syntax.specs.declared.tree.UnOp.{UnOp}

-- a name's bytes
abbrev pub Text : Type 0
Text = List ℕ

pub data Expression : Type 0 where
  literal : (at : Place) (value : ℕ) (kind : Kind) → Expression
  variable : (at : Place) (name : Text) → Expression
  element : (at : Place) (name : Text) (index : Expression) → Expression
  unary : (at : Place) (op : UnOp) (operand : Expression) → Expression
  binary : (at : Place) (op : BinOp) (left right : Expression) → Expression

-- the four names of a counting loop
pub record LoopNames : Type 0 where
  pub first : Text
  pub second : Text
  pub third : Text
  pub fourth : Text

mutual
  pub data Statement : Type 0 where
    block : (at : Place) (body : Statements) → Statement
    if_then : (at : Place) (condition : Expression) (taken : Statement) → Statement
    if_else : (at : Place) (condition : Expression) (taken other : Statement) → Statement
    bounded_while : (at : Place) (turns : ℕ) (condition : Expression) (body : Statement) → Statement
    counting_for : (at : Place) (names : LoopNames) (low : Expression) (closed : Bool) (high : Expression) (step : ℕ) (body : Statement) → Statement
    assign : (at : Place) (name : Text) (index : Option Expression) (value : Expression) → Statement
    output : (at : Place) (value : Expression) → Statement
    input : (at : Place) (name : Text) → Statement
    call : (at : Place) (target : Option Text) (callee : Text) (arguments : List Expression) → Statement

  pub data Statements : Type 0 where
    no_statements : Statements
    next_statement : (first : Statement) (rest : Statements) → Statements

pub record Parameter : Type 0 where
  pub at : Place
  pub ty : Ty
  pub name : Text
  pub range : Option (ℤ × ℤ)

pub record LocalVariable : Type 0 where
  pub at : Place
  pub ty : Ty
  pub name : Text
  pub value : Expression

-- elements of a global that a predictable function may access
pub record RegionText : Type 0 where
  pub at : Place
  pub name : Text
  pub low : ℕ
  pub high : ℕ

-- a stated length in cycles, with its regions
pub record MarkText : Type 0 where
  pub stated : ℕ
  pub regions : List RegionText

pub data InitialValue : Type 0 where
  absent : InitialValue
  one : ℤ → InitialValue
  many : List ℤ → InitialValue

-- a scalar where it has no length, else an array
pub record GlobalVariable : Type 0 where
  pub at : Place
  pub ty : Ty
  pub name : Text
  pub len : Option ℕ
  pub initial : InitialValue

pub record FunctionText : Type 0 where
  pub at : Place
  pub mark : Option MarkText
  pub ty : Ty
  pub name : Text
  pub params : List Parameter
  pub locals : List LocalVariable
  pub body : Statements
  pub result : Option Expression

pub data ItemText : Type 0 where
  global_item : GlobalVariable → ItemText
  function_item : FunctionText → ItemText

-- a program: its items in the order of the text
abbrev pub ProgramText : Type 0
ProgramText = List ItemText
