-- Trees with all places put aside, which are those of no byte: two trees are the same, places aside, where these are equal.
use Rattle.prem_text.specs.Prelude.{Expression, literal, variable, element, unary, binary, Statement, block, if_then, if_else, bounded_while, counting_for, assign, output, input, call}
use Rattle.prem_text.specs.Prelude.{Statements, no_statements, next_statement, Parameter, LocalVariable, RegionText, MarkText, GlobalVariable, FunctionText, ItemText, global_item}
use Rattle.prem_text.specs.Prelude.{function_item, ProgramText, option_map, map}
use Rattle.prem_text.specs.Grammar.Reader.{nowhere}

abbrev pub unplaced_expression : Expression → Expression
unplaced_expression (literal at value kind) = literal nowhere value kind
unplaced_expression (variable at name) = variable nowhere name
unplaced_expression (element at name index) = element nowhere name (unplaced_expression index)
unplaced_expression (unary at op operand) = unary nowhere op (unplaced_expression operand)
unplaced_expression (binary at op left right) = binary nowhere op (unplaced_expression left) (unplaced_expression right)

abbrev mutual
  pub unplaced_statement : Statement → Statement
  unplaced_statement (block at body) = block nowhere (unplaced_statements body)
  unplaced_statement (if_then at condition taken) = if_then nowhere (unplaced_expression condition) (unplaced_statement taken)
  unplaced_statement (if_else at condition taken other) =
      if_else nowhere (unplaced_expression condition) (unplaced_statement taken) (unplaced_statement other)
  unplaced_statement (bounded_while at turns condition body) = bounded_while nowhere turns (unplaced_expression condition) (unplaced_statement body)
  unplaced_statement (counting_for at names low closed high step body) =
      counting_for nowhere names (unplaced_expression low) closed (unplaced_expression high) step (unplaced_statement body)
  unplaced_statement (assign at name index value) = assign nowhere name (option_map unplaced_expression index) (unplaced_expression value)
  unplaced_statement (output at value) = output nowhere (unplaced_expression value)
  unplaced_statement (input at name) = input nowhere name
  unplaced_statement (call at target callee given) = call nowhere target callee (map unplaced_expression given)

  pub unplaced_statements : Statements → Statements
  unplaced_statements no_statements = no_statements
  unplaced_statements (next_statement first rest) = next_statement (unplaced_statement first) (unplaced_statements rest)

abbrev pub unplaced_parameter : Parameter → Parameter
unplaced_parameter p = record { at = nowhere; ty = p.ty; name = p.name; range = p.range }

abbrev pub unplaced_local : LocalVariable → LocalVariable
unplaced_local l = record { at = nowhere; ty = l.ty; name = l.name; value = unplaced_expression l.value }

abbrev pub unplaced_region : RegionText → RegionText
unplaced_region r = record { at = nowhere; name = r.name; low = r.low; high = r.high }

abbrev pub unplaced_mark : MarkText → MarkText
unplaced_mark m = record { stated = m.stated; regions = map unplaced_region m.regions }

abbrev pub unplaced_global : GlobalVariable → GlobalVariable
unplaced_global g = record { at = nowhere; ty = g.ty; name = g.name; len = g.len; initial = g.initial }

abbrev pub unplaced_function : FunctionText → FunctionText
unplaced_function f = record {
  at = nowhere;
  mark = option_map unplaced_mark f.mark;
  ty = f.ty;
  name = f.name;
  params = map unplaced_parameter f.params;
  locals = map unplaced_local f.locals;
  body = unplaced_statements f.body;
  result = option_map unplaced_expression f.result;
}

abbrev pub unplaced_item : ItemText → ItemText
unplaced_item (global_item g) = global_item (unplaced_global g)
unplaced_item (function_item f) = function_item (unplaced_function f)

abbrev pub unplaced : ProgramText → ProgramText
unplaced items = map unplaced_item items
