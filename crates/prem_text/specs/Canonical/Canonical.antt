-- The canonical spelling of a program's tree, as tokens. It uses `=` for every assignment and has the fewest parentheses.
use Rattle.std.specs.Prelude.{ℕ, ℤ, pos, ◌+◌, nat_lt, int_lt, Bool, true, false, if◌then◌else◌, List, [], ◌∷◌, ◌++◌, Option, None, Some, unsigned_abs}
use Rattle.prem_text.specs.Prelude.{Text, Expression, literal, variable, element, unary, binary, Statement, block, if_then, if_else, bounded_while, counting_for, assign, output, input, call}
use Rattle.prem_text.specs.Prelude.{Statements, no_statements, next_statement, Parameter, LocalVariable, RegionText, MarkText, InitialValue, absent, one, many, GlobalVariable, FunctionText}
use Rattle.prem_text.specs.Prelude.{ItemText, global_item, function_item, ProgramText, Ty, UnOp, Neg, Flip, Not, BinOp, Add, Sub, Mul, Div, Rem, Shl, Shr, Lt, Le, Gt, Ge, Eq, Ne, And, Xor}
use Rattle.prem_text.specs.Prelude.{Or, AndAlso, OrElse, Kind, Int, Unsigned}
use Rattle.prem_text.specs.Grammar.Expression.{level_of}
use Rattle.prem_text.specs.Lexing.Token.Lexeme.{Lexeme, name, number, word, mark}
use Rattle.prem_text.specs.declared.lexing.token.token.Mark.{Mark}
use Rattle.prem_syntax.specs.declared.tree.Ty.TheVariants as ty
use Rattle.prem_text.specs.declared.lexing.token.token.Mark.TheVariants as m
use Rattle.prem_text.specs.declared.lexing.token.token.Word.TheVariants as w

-- ---- numbers

-- the kind of a literal whose kind the tree doesn't keep
abbrev pub kind_for : ℕ → Kind
kind_for n = if nat_lt 2147483647 n then Unsigned else Int

abbrev pub number_lexeme : ℕ → Lexeme
number_lexeme n = number n (kind_for n)

abbrev pub constant_lexemes : ℤ → List Lexeme
constant_lexemes z = if int_lt z (pos 0) then mark m.Minus ∷ number_lexeme (unsigned_abs z) ∷ [] else number_lexeme (unsigned_abs z) ∷ []

-- ---- expressions

abbrev pub infix_sign : BinOp → Mark
infix_sign OrElse = m.OrOr
infix_sign AndAlso = m.AndAnd
infix_sign Or = m.Or
infix_sign Xor = m.Caret
infix_sign And = m.And
infix_sign Eq = m.EqualEqual
infix_sign Ne = m.NotEqual
infix_sign Lt = m.Less
infix_sign Le = m.LessEqual
infix_sign Gt = m.Greater
infix_sign Ge = m.GreaterEqual
infix_sign Shl = m.ShiftLeft
infix_sign Shr = m.ShiftRight
infix_sign Add = m.Plus
infix_sign Sub = m.Minus
infix_sign Mul = m.Star
infix_sign Div = m.Slash
infix_sign Rem = m.Percent

abbrev pub prefix_sign : UnOp → Mark
prefix_sign Neg = m.Minus
prefix_sign Flip = m.Tilde
prefix_sign Not = m.Bang

-- in parentheses where it is needed
abbrev pub enclosed : Bool → List Lexeme → List Lexeme
enclosed false ts = ts
enclosed true ts = mark m.OpenParenthesis ∷ ts ++ mark m.CloseParenthesis ∷ []

-- an expression where one of a level or tighter is wanted; no place wants more than a prefix's 11
abbrev pub expression_lexemes : ℕ → Expression → List Lexeme
expression_lexemes least (literal at value kind) = number value kind ∷ []
expression_lexemes least (variable at x) = name x ∷ []
expression_lexemes least (element at x index) = name x ∷ mark m.OpenBracket ∷ expression_lexemes 1 index ++ mark m.CloseBracket ∷ []
expression_lexemes least (unary at op operand) = mark (prefix_sign op) ∷ expression_lexemes 11 operand
expression_lexemes least (binary at op left right) =
    enclosed (nat_lt (level_of op) least) (expression_lexemes (level_of op) left ++ mark (infix_sign op) ∷ expression_lexemes (level_of op + 1) right)

-- ---- statements

-- the arguments behind the first one
abbrev pub more_arguments : List Expression → List Lexeme
more_arguments [] = []
more_arguments (e ∷ rest) = mark m.Comma ∷ expression_lexemes 1 e ++ more_arguments rest

abbrev pub argument_lexemes : List Expression → List Lexeme
argument_lexemes [] = []
argument_lexemes (e ∷ rest) = expression_lexemes 1 e ++ more_arguments rest

abbrev pub target_lexemes : Text → Option Expression → List Lexeme
target_lexemes x None = name x ∷ []
target_lexemes x (Some index) = name x ∷ mark m.OpenBracket ∷ expression_lexemes 1 index ++ mark m.CloseBracket ∷ []

-- of a call, up to its arguments
abbrev pub call_lexemes : Option Text → Text → List Lexeme
call_lexemes None callee = name callee ∷ mark m.OpenParenthesis ∷ []
call_lexemes (Some target) callee = name target ∷ mark m.Equal ∷ name callee ∷ mark m.OpenParenthesis ∷ []

abbrev pub comparison_sign : Bool → Mark
comparison_sign true = m.LessEqual
comparison_sign false = m.Less

abbrev pub while_lexemes : ℕ → List Lexeme
while_lexemes turns =
    word w.Bounded ∷ mark m.OpenParenthesis ∷ number_lexeme turns ∷ mark m.CloseParenthesis ∷ word w.While ∷ mark m.OpenParenthesis ∷ []

abbrev pub for_lexemes : Text → List Lexeme
for_lexemes first = word w.For ∷ mark m.OpenParenthesis ∷ name first ∷ mark m.Equal ∷ []

abbrev pub bound_lexemes : Text → Bool → List Lexeme
bound_lexemes second closed = mark m.Semicolon ∷ name second ∷ mark (comparison_sign closed) ∷ []

abbrev pub step_lexemes : Text → Text → ℕ → List Lexeme
step_lexemes third fourth step =
    mark m.Semicolon ∷ name third ∷ mark m.Equal ∷ name fourth ∷ mark m.Plus ∷ number_lexeme step ∷ mark m.CloseParenthesis ∷ []

abbrev pub input_lexemes : Text → List Lexeme
input_lexemes x = name x ∷ mark m.Equal ∷ word w.In ∷ mark m.OpenParenthesis ∷ mark m.CloseParenthesis ∷ mark m.Semicolon ∷ []

-- `) ;`
abbrev pub tail_lexemes : List Lexeme
tail_lexemes = mark m.CloseParenthesis ∷ mark m.Semicolon ∷ []

abbrev pub if_lexemes : Expression → List Lexeme
if_lexemes condition = (word w.If ∷ mark m.OpenParenthesis ∷ []) ++ expression_lexemes 1 condition ++ mark m.CloseParenthesis ∷ []

abbrev mutual
  pub statement_lexemes : Statement → List Lexeme
  statement_lexemes (block at body) = (mark m.OpenBrace ∷ []) ++ statements_lexemes body ++ mark m.CloseBrace ∷ []
  statement_lexemes (if_then at condition taken) = if_lexemes condition ++ statement_lexemes taken
  statement_lexemes (if_else at condition taken other) = if_lexemes condition ++ statement_lexemes taken ++ (word w.Else ∷ []) ++ statement_lexemes other
  statement_lexemes (bounded_while at turns condition body) =
      while_lexemes turns ++ expression_lexemes 1 condition ++ (mark m.CloseParenthesis ∷ []) ++ statement_lexemes body
  statement_lexemes (counting_for at names low closed high step body) =
      for_lexemes names.first ++ expression_lexemes 1 low ++ bound_lexemes names.second closed ++ expression_lexemes 8 high
      ++ step_lexemes names.third names.fourth step ++ statement_lexemes body
  statement_lexemes (assign at x index value) = target_lexemes x index ++ (mark m.Equal ∷ []) ++ expression_lexemes 1 value ++ mark m.Semicolon ∷ []
  statement_lexemes (output at value) = (word w.Out ∷ mark m.OpenParenthesis ∷ []) ++ expression_lexemes 1 value ++ tail_lexemes
  statement_lexemes (input at x) = input_lexemes x
  statement_lexemes (call at target callee given) = call_lexemes target callee ++ argument_lexemes given ++ tail_lexemes

  pub statements_lexemes : Statements → List Lexeme
  statements_lexemes no_statements = []
  statements_lexemes (next_statement first rest) = statement_lexemes first ++ statements_lexemes rest

-- ---- items

-- `unsigned` stands without `int`
abbrev pub type_lexemes : Ty → List Lexeme
type_lexemes ty.Void = word w.Void ∷ []
type_lexemes ty.Int = word w.Int ∷ []
type_lexemes ty.Unsigned = word w.Unsigned ∷ []
type_lexemes ty.Short = word w.Short ∷ []
type_lexemes ty.Ushort = word w.Unsigned ∷ word w.Short ∷ []
type_lexemes ty.Schar = word w.Signed ∷ word w.Char ∷ []
type_lexemes ty.Uchar = word w.Unsigned ∷ word w.Char ∷ []

abbrev pub declaration_lexemes : Ty → Text → List Lexeme
declaration_lexemes t x = type_lexemes t ++ name x ∷ []

abbrev pub length_lexemes : Option ℕ → List Lexeme
length_lexemes None = []
length_lexemes (Some n) = mark m.OpenBracket ∷ number_lexeme n ∷ mark m.CloseBracket ∷ []

-- the constants behind the first one
abbrev pub more_constants : List ℤ → List Lexeme
more_constants [] = []
more_constants (z ∷ rest) = mark m.Comma ∷ constant_lexemes z ++ more_constants rest

abbrev pub constants_lexemes : List ℤ → List Lexeme
constants_lexemes [] = []
constants_lexemes (z ∷ rest) = constant_lexemes z ++ more_constants rest

abbrev pub initial_lexemes : InitialValue → List Lexeme
initial_lexemes absent = []
initial_lexemes (one value) = mark m.Equal ∷ constant_lexemes value
initial_lexemes (many values) = (mark m.Equal ∷ mark m.OpenBrace ∷ []) ++ constants_lexemes values ++ mark m.CloseBrace ∷ []

abbrev pub global_lexemes : GlobalVariable → List Lexeme
global_lexemes g = declaration_lexemes g.ty g.name ++ length_lexemes g.len ++ initial_lexemes g.initial ++ mark m.Semicolon ∷ []

abbrev pub region_lexemes : RegionText → List Lexeme
region_lexemes r =
    word w.Region ∷ mark m.OpenParenthesis ∷ name r.name ∷ mark m.Comma ∷ number_lexeme r.low ∷ mark m.Comma ∷ number_lexeme r.high
    ∷ mark m.CloseParenthesis ∷ []

abbrev pub regions_lexemes : List RegionText → List Lexeme
regions_lexemes [] = []
regions_lexemes (r ∷ rest) = region_lexemes r ++ regions_lexemes rest

abbrev pub mark_lexemes : Option MarkText → List Lexeme
mark_lexemes None = []
mark_lexemes (Some p) =
    (word w.Predictable ∷ mark m.OpenParenthesis ∷ number_lexeme p.stated ∷ mark m.CloseParenthesis ∷ []) ++ regions_lexemes p.regions

abbrev pub range_lexemes : Option (ℤ × ℤ) → List Lexeme
range_lexemes None = []
range_lexemes (Some (low, high)) =
    (word w.Range ∷ mark m.OpenParenthesis ∷ []) ++ constant_lexemes low ++ (mark m.Comma ∷ []) ++ constant_lexemes high ++ mark m.CloseParenthesis ∷ []

abbrev pub parameter_lexemes : Parameter → List Lexeme
parameter_lexemes p = declaration_lexemes p.ty p.name ++ range_lexemes p.range

-- the parameters behind the first one
abbrev pub more_parameters : List Parameter → List Lexeme
more_parameters [] = []
more_parameters (p ∷ rest) = mark m.Comma ∷ parameter_lexemes p ++ more_parameters rest

abbrev pub parameters_lexemes : List Parameter → List Lexeme
parameters_lexemes [] = word w.Void ∷ []
parameters_lexemes (p ∷ rest) = parameter_lexemes p ++ more_parameters rest

abbrev pub local_lexemes : LocalVariable → List Lexeme
local_lexemes l = declaration_lexemes l.ty l.name ++ (mark m.Equal ∷ []) ++ expression_lexemes 1 l.value ++ mark m.Semicolon ∷ []

abbrev pub locals_lexemes : List LocalVariable → List Lexeme
locals_lexemes [] = []
locals_lexemes (l ∷ rest) = local_lexemes l ++ locals_lexemes rest

abbrev pub result_lexemes : Option Expression → List Lexeme
result_lexemes None = []
result_lexemes (Some e) = (word w.Return ∷ []) ++ expression_lexemes 1 e ++ mark m.Semicolon ∷ []

abbrev pub function_lexemes : FunctionText → List Lexeme
function_lexemes f =
    mark_lexemes f.mark ++ declaration_lexemes f.ty f.name ++ (mark m.OpenParenthesis ∷ []) ++ parameters_lexemes f.params
    ++ (mark m.CloseParenthesis ∷ mark m.OpenBrace ∷ []) ++ locals_lexemes f.locals ++ statements_lexemes f.body ++ result_lexemes f.result
    ++ mark m.CloseBrace ∷ []

abbrev pub item_lexemes : ItemText → List Lexeme
item_lexemes (global_item g) = global_lexemes g
item_lexemes (function_item f) = function_lexemes f

-- the tokens of a program, without the end of the text
abbrev pub program_lexemes : ProgramText → List Lexeme
program_lexemes [] = []
program_lexemes (i ∷ rest) = item_lexemes i ++ program_lexemes rest
