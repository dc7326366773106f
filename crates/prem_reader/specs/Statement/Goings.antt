-- What a token is to an expression that is read, and where that leads.
use Rattle.std.specs.Prelude.{ℕ, ◌-◌, Bool, if◌then◌else◌, Option, None, Some}
use Rattle.std.specs.Option.{option_map}
use Rattle.prem_syntax.specs.Name.{name_bytes}
use Rattle.prem_syntax.specs.Syntax.{Text, Expression}
use Rattle.prem_syntax.specs.SyntaxOf.{expression_of}
use Rattle.prem_text.specs.Lexing.Token.Lexeme.{Seen}
use Rattle.prem_text.specs.Grammar.Slots.{is_left_parenthesis}
use Rattle.prem_text.specs.Grammar.Expression.{State, goes, ends, stops, move}
use Rattle.prem_text.specs.Grammar.Statement.{Around, Use, Turn, inside, on, wrong, used, called, at_start, is_start, lone_name}
use Rattle.prem_reader.specs.declared.statement.point.Going.{Going}
use Rattle.prem_reader.specs.declared.statement.point.Going.TheVariants as g
use Rattle.prem_reader.specs.declared.statement.point.Reading.{Reading}
use Rattle.prem_reader.specs.Expression.StateOf.{state_of}

-- one of its tokens, with the state and the room behind it; the first one behind it, with the name that is called if it
-- is `(`; or one that no expression has here, and whether it would have been the first
pub data Gone : Type 0 where
  goes_on : (s : State) (room : ℕ) → Gone
  has_ended : (e : Expression) (callee : Option Text) → Gone
  has_stopped : (first : Bool) → Gone

abbrev pub gone : (least : ℕ) → State → (room : ℕ) → Seen → Gone
gone least s room t = elim (move least s t) [
  | goes s' ↦ goes_on s' (room - 1)
  | ends e ↦ has_ended e (if is_left_parenthesis t.0 then lone_name s else None)
  | stops ↦ has_stopped (is_start s)
]

abbrev pub left : Use → Gone → Around → Seen → Turn
left u (goes_on s room) around t = on (inside u s room around)
left u (has_ended e callee) around t =
    if is_left_parenthesis t.0 then elim callee [ Some x ↦ called u x around | None ↦ wrong ] else used u e around t
left u (has_stopped first) around t = if first then at_start u around t else wrong

abbrev pub gone_of : Going → Reading → Gone
gone_of g.On r = goes_on (state_of r.state) r.room
gone_of (g.Ends value callee) r = has_ended (expression_of value) (option_map name_bytes callee)
gone_of (g.Stops first) r = has_stopped first
