-- What the reader's points in memory stand for.
use Rattle.std.specs.Prelude.{◌≡◌, map, Option, None, Some}
use Rattle.std.specs.Option.{option_map}
use Rattle.prem_list.specs.Sequence.{items_of}
use Rattle.prem_syntax.specs.Name.{name_bytes}
use Rattle.prem_syntax.specs.SyntaxOf.{expression_of, loop_names_of, statement_of}
use Rattle.prem_text.specs.declared.lexing.token.token.Spotted.{Spotted}
use Rattle.prem_text.specs.Lexing.Token.Lexeme.{seen_of}
use Rattle.prem_text.specs.Grammar.Statement.{Around, in_body, in_block, in_taken, in_other, in_while, in_for, Header, Use, for_output, for_if, for_while, for_low, for_high}
use Rattle.prem_text.specs.Grammar.Statement.{for_index, for_value, for_change, for_argument, Row, if_row, out_row, while_row, for_row, bound_row, sign_row, step_row, last_row}
use Rattle.prem_text.specs.Grammar.Statement.{Point, between, may_else, filling, inside, on_name, on_element, Turn, on, leaves, wrong}
use Rattle.prem_reader.specs.Expression.StateOf.{state_of}
use Rattle.prem_reader.specs.Statement.SlotOf.{slot_of}
use Rattle.prem_reader.specs.declared.statement.point.Around.{Around as CodeAround}
use Rattle.prem_reader.specs.declared.statement.point.Around.TheVariants as a
use Rattle.prem_reader.specs.declared.statement.point.Header.{Header as CodeHeader}
use Rattle.prem_reader.specs.declared.statement.point.Purpose.{Purpose}
use Rattle.prem_reader.specs.declared.statement.point.Purpose.TheVariants as u
use Rattle.prem_reader.specs.declared.statement.point.Row.{Row as CodeRow}
use Rattle.prem_reader.specs.declared.statement.point.Row.TheVariants as r
use Rattle.prem_reader.specs.declared.statement.point.Point.{Point as CodePoint}
use Rattle.prem_reader.specs.declared.statement.point.Point.TheVariants as p
use Rattle.prem_reader.specs.declared.statement.point.Turn.{Turn as CodeTurn}
use Rattle.prem_reader.specs.declared.statement.point.Turn.TheVariants as t

abbrev pub around_of : CodeAround → Around
around_of (a.Body before) = in_body (map statement_of (items_of before))
around_of (a.Block' at before p around) = in_block at (map statement_of (items_of before)) (around_of around)
around_of (a.Taken' at condition p around) = in_taken at (expression_of condition) (around_of around)
around_of (a.Other' at condition taken p around) = in_other at (expression_of condition) (statement_of taken.value) (around_of around)
around_of (a.While' at turns condition p around) = in_while at turns (expression_of condition) (around_of around)
around_of (a.For' at names low closed high step p around) =
    in_for at (loop_names_of names) (expression_of low) closed (expression_of high) step (around_of around)

abbrev pub header_of : CodeHeader → Header
header_of h = record {
  at = h.at;
  first = name_bytes h.first;
  low = expression_of h.low;
  second = name_bytes h.second;
  closed = h.closed;
  high = expression_of h.high;
}

abbrev pub use_of : Purpose → Use
use_of (u.Output at) = for_output at
use_of (u.If at) = for_if at
use_of (u.While at turns) = for_while at turns
use_of (u.Low at first) = for_low at (name_bytes first)
use_of (u.High at first low second closed) = for_high at (name_bytes first) (expression_of low) (name_bytes second) closed
use_of (u.Index at name) = for_index at (name_bytes name)
use_of (u.Value at name index) = for_value at (name_bytes name) (option_map expression_of index)
use_of (u.Change at name index op sign) = for_change at (name_bytes name) (option_map expression_of index) op sign
use_of (u.Argument at target callee before) =
    for_argument at (option_map name_bytes target) (name_bytes callee) (map expression_of (items_of before))

abbrev pub row_of : CodeRow → Row
row_of r.If = if_row
row_of r.Out = out_row
row_of r.While = while_row
row_of r.For = for_row
row_of (r.Bound at first low) = bound_row at (name_bytes first) (expression_of low)
row_of (r.Sign header) = sign_row (header_of header)
row_of (r.Step header) = step_row (header_of header)
row_of (r.Last statement) = last_row (statement_of statement.value)

abbrev pub point_of : CodePoint → Point
point_of (p.Between around) = between (around_of around.value)
point_of (p.MayElse at condition taken around) = may_else at (expression_of condition) (statement_of taken.value) (around_of around.value)
point_of (p.Filling row got wanted later around) =
    filling (row_of row.value) (map seen_of (items_of got)) (slot_of wanted) (map slot_of later.now) (around_of around.value)
point_of (p.Inside reading around) = inside (use_of reading.value.purpose) (state_of reading.value.state) reading.value.room (around_of around.value)
point_of (p.OnName at name around) = on_name at (name_bytes name) (around_of around.value)
point_of (p.OnElement at name index around) = on_element at (name_bytes name) (expression_of index) (around_of around.value)

abbrev pub turn_of : CodeTurn → Turn
turn_of (t.On point) = on (point_of point)
turn_of (t.Leaves statements) = leaves (map statement_of (items_of statements))
turn_of t.Wrong = wrong

-- a token that the statements have, which lead to a point, or that no body has
abbrev pub taken_of : Option CodePoint → Turn
taken_of None = wrong
taken_of (Some point) = on (point_of point)

-- a token that is behind the statements stays as it was
abbrev pub IsLeft : CodeTurn → (old new : Spotted) → Type 0
IsLeft (t.Leaves statements) old new = new ≡ old
IsLeft _ old new = Unit
