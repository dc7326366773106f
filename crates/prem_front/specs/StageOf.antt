-- What the reader's stages in memory stand for.
use Rattle.std.specs.Prelude.{map}
use Rattle.std.specs.Option.{option_map}
use Rattle.prem_list.specs.Sequence.{items_of}
use Rattle.prem_syntax.specs.Name.{name_bytes}
use Rattle.prem_syntax.specs.SyntaxOf.{mark_of, global_of, parameter_of, function_of, item_of}
use Rattle.prem_text.specs.Lexing.Token.Lexeme.{seen_of}
use Rattle.prem_text.specs.Grammar.Item.{Typing, no_type, after_signed, after_unsigned, a_type, Declared, an_item, a_parameter, a_local, Constant, range_low, range_high}
use Rattle.prem_text.specs.Grammar.Item.{only_value, next_value, Value, local_value, result_value, ItemRow, mark_row, region_row, length_row, global_row, body_row, range_row}
use Rattle.prem_text.specs.Grammar.Item.{local_row, end_row, Stage, outside, marked, in_row, in_type, behind_item, behind_global, before_initial, before_constant, behind_constant}
use Rattle.prem_text.specs.Grammar.Item.{before_parameter, on_parameter, behind_parameter, before_local, in_statements, in_value, finished, ItemStep, ahead, made, refused}
use Rattle.prem_reader.specs.Expression.StateOf.{state_of}
use Rattle.prem_reader.specs.Statement.SlotOf.{slot_of}
use Rattle.prem_reader.specs.Statement.PointOf.{point_of}
use Rattle.prem_front.specs.declared.stage.Typing.{Typing as CodeTyping}
use Rattle.prem_front.specs.declared.stage.Typing.TheVariants as t
use Rattle.prem_front.specs.declared.stage.Declared.{Declared as CodeDeclared}
use Rattle.prem_front.specs.declared.stage.Declared.TheVariants as d
use Rattle.prem_front.specs.declared.stage.Constant.{Constant as CodeConstant}
use Rattle.prem_front.specs.declared.stage.Constant.TheVariants as c
use Rattle.prem_front.specs.declared.stage.Value.{Value as CodeValue}
use Rattle.prem_front.specs.declared.stage.Value.TheVariants as v
use Rattle.prem_front.specs.declared.stage.ItemRow.{ItemRow as CodeRow}
use Rattle.prem_front.specs.declared.stage.ItemRow.TheVariants as r
use Rattle.prem_front.specs.declared.stage.Stage.{Stage as CodeStage}
use Rattle.prem_front.specs.declared.stage.Stage.TheVariants as s
use Rattle.prem_front.specs.declared.stage.ItemStep.{ItemStep as CodeStep}
use Rattle.prem_front.specs.declared.stage.ItemStep.TheVariants as steps

abbrev pub typing_of : CodeTyping → Typing
typing_of t.NoType = no_type
typing_of t.AfterSigned = after_signed
typing_of t.AfterUnsigned = after_unsigned
typing_of (t.AType ty) = a_type ty

abbrev pub declared_of : CodeDeclared → Declared
declared_of (d.AnItem mark) = an_item (option_map mark_of mark)
declared_of (d.AParameter function) = a_parameter (function_of function)
declared_of (d.ALocal function) = a_local (function_of function)

abbrev pub constant_of : CodeConstant → Constant
constant_of (c.RangeLow function param) = range_low (function_of function) (parameter_of param)
constant_of (c.RangeHigh function param low) = range_high (function_of function) (parameter_of param) low
constant_of (c.OnlyValue global) = only_value (global_of global)
constant_of (c.NextValue global before) = next_value (global_of global) (items_of before)

abbrev pub value_of : CodeValue → Value
value_of (v.OfLocal function ty at name) = local_value (function_of function) ty at (name_bytes name)
value_of (v.OfResult function) = result_value (function_of function)

abbrev pub row_of : CodeRow → ItemRow
row_of r.MarkRow = mark_row
row_of (r.RegionRow mark) = region_row (mark_of mark)
row_of (r.LengthRow global) = length_row (global_of global)
row_of (r.GlobalRow global) = global_row (global_of global)
row_of (r.BodyRow function) = body_row (function_of function)
row_of (r.RangeRow function param) = range_row (function_of function) (parameter_of param)
row_of (r.LocalRow function ty at name) = local_row (function_of function) ty at (name_bytes name)
row_of (r.EndRow function) = end_row (function_of function)

abbrev pub stage_of : CodeStage → Stage
stage_of s.Outside = outside
stage_of (s.Marked mark) = marked (mark_of mark)
stage_of (s.InRow row got wanted later) = in_row (row_of row.value) (map seen_of (items_of got)) (slot_of wanted) (map slot_of later.now)
stage_of (s.InType declared typing) = in_type (declared_of declared.value) (typing_of typing)
stage_of (s.BehindItem mark ty at name) = behind_item (option_map mark_of mark) ty at (name_bytes name)
stage_of (s.BehindGlobal global) = behind_global (global_of global)
stage_of (s.BeforeInitial global) = before_initial (global_of global)
stage_of (s.BeforeConstant constant negative) = before_constant (constant_of constant) negative
stage_of (s.BehindConstant constant value) = behind_constant (constant_of constant) value
stage_of (s.BeforeParameter function) = before_parameter (function_of function)
stage_of (s.OnParameter function param) = on_parameter (function_of function) (parameter_of param)
stage_of (s.BehindParameter function) = behind_parameter (function_of function)
stage_of (s.BeforeLocal function) = before_local (function_of function)
stage_of (s.InStatements function point) = in_statements (function_of function) (point_of point.value)
stage_of (s.InValue reading) = in_value (value_of reading.value.value) (state_of reading.value.state) reading.value.room
stage_of s.Finished = finished

abbrev pub step_of : CodeStep → ItemStep
step_of (steps.Ahead stage) = ahead (stage_of stage)
step_of (steps.Made item) = made (item_of item)
step_of steps.Refused = refused
