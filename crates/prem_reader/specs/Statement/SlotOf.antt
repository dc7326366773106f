-- The slots of the grammar that the code's slots stand for.
use Rattle.prem_text.specs.Grammar.Slots.{Slot, left_parenthesis, right_parenthesis, left_brace, right_brace, right_bracket, semicolon, comma, equal_sign, plus_sign, plus_plus}
use Rattle.prem_text.specs.Grammar.Slots.{plus_equal, comparison, step_sign, a_name, a_literal, the_while}
use Rattle.prem_reader.specs.declared.statement.slot.Slot.{Slot as CodeSlot}
use Rattle.prem_reader.specs.declared.statement.slot.Slot.TheVariants as code

abbrev pub slot_of : CodeSlot → Slot
slot_of code.LeftParenthesis = left_parenthesis
slot_of code.RightParenthesis = right_parenthesis
slot_of code.LeftBrace = left_brace
slot_of code.RightBrace = right_brace
slot_of code.RightBracket = right_bracket
slot_of code.Semicolon = semicolon
slot_of code.Comma = comma
slot_of code.EqualSign = equal_sign
slot_of code.PlusSign = plus_sign
slot_of code.PlusPlus = plus_plus
slot_of code.PlusEqual = plus_equal
slot_of code.Comparison = comparison
slot_of code.StepSign = step_sign
slot_of code.AName = a_name
slot_of code.ALiteral = a_literal
slot_of code.TheWhile = the_while
