-- That the literals of a program are words can be true in one way only.
use Rattle.std.specs.Prelude.{List, [], ◌∷◌, Option, None, Some}
use Rattle.prem_analysis.specs.Prelude.{Expression, literal, variable, element, unary, binary, Statement, block, if_then, if_else, bounded_while, counting_for, assign, output, input, call}
use Rattle.prem_analysis.specs.Prelude.{Statements, no_statements, next_statement, LocalVariable, global_item, function_item, ProgramText}
use Rattle.prem_syntax.specs.Literals.{HasWords, HasWordsIf, HaveWords, StatementHasWords, StatementsHaveWords, LocalsHaveWords, ProgramHasWords}
use Rattle.std.specs.Coded.{le_prop}
use mathlib.Core.HLevel.{×_prop, Unit-prop}

-- three and four facts side by side
three : {A B C : Type 0} → IsProp A → IsProp B → IsProp C → IsProp (A × B × C)
three a b c x y i = (a x.0 y.0 i, b x.1 y.1 i, c x.2 y.2 i)

four : {A B C D : Type 0} → IsProp A → IsProp B → IsProp C → IsProp D → IsProp (A × B × C × D)
four a b c d x y i = (a x.0 y.0 i, b x.1 y.1 i, c x.2 y.2 i, d x.3 y.3 i)

expression_prop : (e : Expression) → IsProp (HasWords e)
expression_prop (literal at value kind) = le_prop
expression_prop (variable at name) = Unit-prop
expression_prop (element at name index) = expression_prop index
expression_prop (unary at op operand) = expression_prop operand
expression_prop (binary at op left right) = ×_prop (expression_prop left) (expression_prop right)

option_prop : (e : Option Expression) → IsProp (HasWordsIf e)
option_prop None = Unit-prop
option_prop (Some e) = expression_prop e

list_prop : (es : List Expression) → IsProp (HaveWords es)
list_prop [] = Unit-prop
list_prop (e ∷ es) = ×_prop (expression_prop e) (list_prop es)

mutual
  statement_prop : (s : Statement) → IsProp (StatementHasWords s)
  statement_prop (block at body) = statements_prop body
  statement_prop (if_then at condition taken) = ×_prop (expression_prop condition) (statement_prop taken)
  statement_prop (if_else at condition taken other) = three (expression_prop condition) (statement_prop taken) (statement_prop other)
  statement_prop (bounded_while at turns condition body) = ×_prop (expression_prop condition) (statement_prop body)
  statement_prop (counting_for at names low closed high step body) = three (expression_prop low) (expression_prop high) (statement_prop body)
  statement_prop (assign at name index value) = ×_prop (option_prop index) (expression_prop value)
  statement_prop (output at value) = expression_prop value
  statement_prop (input at name) = Unit-prop
  statement_prop (call at target callee arguments) = list_prop arguments

  statements_prop : (s : Statements) → IsProp (StatementsHaveWords s)
  statements_prop no_statements = Unit-prop
  statements_prop (next_statement first rest) = ×_prop (statement_prop first) (statements_prop rest)

locals_prop : (ls : List LocalVariable) → IsProp (LocalsHaveWords ls)
locals_prop [] = Unit-prop
locals_prop (l ∷ ls) = ×_prop (expression_prop l.value) (locals_prop ls)

pub have_words_prop : (p : ProgramText) → IsProp (ProgramHasWords p)
have_words_prop [] = Unit-prop
have_words_prop (global_item g ∷ items) = have_words_prop items
have_words_prop (function_item f ∷ items) = four (locals_prop f.locals) (statements_prop f.body) (option_prop f.result) (have_words_prop items)
