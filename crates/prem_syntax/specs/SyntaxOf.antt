-- The syntax that a tree in memory stands for.
use Rattle.std.specs.Prelude.{List, [], ◌∷◌, map}
use Rattle.std.specs.Option.{option_map}
use Rattle.prem_list.specs.Sequence.{items_of}
use Rattle.prem_syntax.specs.declared.tree.Place.{Place}
use Rattle.prem_syntax.specs.declared.tree.Expr.{Expr}
use Rattle.prem_syntax.specs.declared.tree.Expr.TheVariants.{Literal, Var, Elem', Unary', Binary'}
use Rattle.prem_syntax.specs.declared.tree.ForNames.{ForNames}
use Rattle.prem_syntax.specs.declared.tree.Stmt.{Stmt, Row_of-Stmt, end_of-Stmt, more_of-Stmt, Held-Stmt-If-3, None', Some'}
use Rattle.prem_syntax.specs.declared.tree.Stmt.TheVariants.{Block', If', While', For', Set, Output, Input, Call}
use Rattle.prem_syntax.specs.declared.tree.Param.{Param}
use Rattle.prem_syntax.specs.declared.tree.Local.{Local}
use Rattle.prem_syntax.specs.declared.tree.Region.{Region}
use Rattle.prem_syntax.specs.declared.tree.Mark.{Mark}
use Rattle.prem_syntax.specs.declared.tree.Initial.{Initial}
use Rattle.prem_syntax.specs.declared.tree.Initial.TheVariants.{Absent, One, Many}
use Rattle.prem_syntax.specs.declared.tree.Global.{Global}
use Rattle.prem_syntax.specs.declared.tree.Function.{Function}
use Rattle.prem_syntax.specs.declared.tree.Item.{Item}
use Rattle.prem_syntax.specs.declared.tree.Item.TheVariants.{Global as GlobalItem, Function as FunctionItem}
use Rattle.prem_syntax.specs.declared.tree.Program.{Program}
use Rattle.prem_syntax.specs.Name.{name_bytes}
use Rattle.prem_syntax.specs.Syntax.{Expression, literal, variable, element, unary, binary, LoopNames, Statement, block, if_then, if_else, bounded_while, counting_for, assign}
use Rattle.prem_syntax.specs.Syntax.{output, input, call, Statements, no_statements, next_statement, Parameter, LocalVariable, RegionText, MarkText, InitialValue, absent, one}
use Rattle.prem_syntax.specs.Syntax.{many, GlobalVariable, FunctionText, ItemText, global_item, function_item, ProgramText}

abbrev pub expression_of : Expr → Expression
expression_of (Literal at value kind) = literal at value kind
expression_of (Var at name) = variable at (name_bytes name)
expression_of (Elem' at name p index) = element at (name_bytes name) (expression_of index)
expression_of (Unary' at op p arg) = unary at op (expression_of arg)
expression_of (Binary' at op p left q right) = binary at op (expression_of left) (expression_of right)

abbrev pub loop_names_of : ForNames → LoopNames
loop_names_of names = record {
  first = name_bytes names.first;
  second = name_bytes names.second;
  third = name_bytes names.third;
  fourth = name_bytes names.fourth;
}

abbrev mutual
  pub statement_of : Stmt → Statement
  statement_of (Block' at shape body) = block at (row_of body)
  statement_of (If' at condition p taken other) = choice_of at (expression_of condition) (statement_of taken) other
  statement_of (While' at turns condition p body) = bounded_while at turns (expression_of condition) (statement_of body)
  statement_of (For' at names low closed high step p body) =
      counting_for at (loop_names_of names) (expression_of low) closed (expression_of high) step (statement_of body)
  statement_of (Set at name index value) = assign at (name_bytes name) (option_map expression_of index) (expression_of value)
  statement_of (Output at value) = output at (expression_of value)
  statement_of (Input at name) = input at (name_bytes name)
  statement_of (Call at target callee args) =
      call at (option_map name_bytes target) (name_bytes callee) (map expression_of (items_of args))

  pub choice_of : Place → Expression → Statement → Held-Stmt-If-3 → Statement
  choice_of at condition taken None' = if_then at condition taken
  choice_of at condition taken (Some' p other) = if_else at condition taken (statement_of other)

  pub row_of : {m : _} → Row_of-Stmt m → Statements
  row_of end_of-Stmt = no_statements
  row_of (more_of-Stmt first rest) = next_statement (statement_of first) (row_of rest)

-- statements of a list, before others
abbrev pub statements_before : List Stmt → Statements → Statements
statements_before [] more = more
statements_before (first ∷ rest) more = next_statement (statement_of first) (statements_before rest more)

-- the statements of a list
abbrev pub statements_of : List Stmt → Statements
statements_of all = statements_before all no_statements

abbrev pub parameter_of : Param → Parameter
parameter_of p = record { at = p.at; ty = p.ty; name = name_bytes p.name; range = p.range }

abbrev pub local_of : Local → LocalVariable
local_of l = record { at = l.at; ty = l.ty; name = name_bytes l.name; value = expression_of l.value }

abbrev pub region_of : Region → RegionText
region_of r = record { at = r.at; name = name_bytes r.name; low = r.low; high = r.high }

abbrev pub mark_of : Mark → MarkText
mark_of m = record { stated = m.stated; regions = map region_of (items_of m.regions) }

abbrev pub initial_of : Initial → InitialValue
initial_of Absent = absent
initial_of (One value) = one value
initial_of (Many values) = many (items_of values)

abbrev pub global_of : Global → GlobalVariable
global_of g = record { at = g.at; ty = g.ty; name = name_bytes g.name; len = g.len; initial = initial_of g.initial }

abbrev pub function_of : Function → FunctionText
function_of f = record {
  at = f.at;
  mark = option_map mark_of f.mark;
  ty = f.ty;
  name = name_bytes f.name;
  params = map parameter_of (items_of f.params);
  locals = map local_of (items_of f.locals);
  body = statements_of (items_of f.body);
  result = option_map expression_of f.result;
}

abbrev pub item_of : Item → ItemText
item_of (GlobalItem g) = global_item (global_of g)
item_of (FunctionItem f) = function_item (function_of f)

abbrev pub program_of : Program → ProgramText
program_of p = map item_of (items_of p.items)
