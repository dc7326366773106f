-- What the reader's states in memory stand for.
use Rattle.std.specs.Prelude.{List, [], ◌∷◌}
use Rattle.prem_syntax.specs.Name.{name_bytes}
use Rattle.prem_syntax.specs.SyntaxOf.{expression_of}
use Rattle.prem_text.specs.Grammar.Expression.{Open, bottom, under, right_of, bracket, index_of, State, wants, named, has, Move, goes, ends, stops}
use Rattle.prem_reader.specs.declared.expression.open.Open.{Open as CodeOpen}
use Rattle.prem_reader.specs.declared.expression.open.Open.TheVariants as code
use Rattle.prem_reader.specs.declared.expression.open.OpenStack.{OpenStack}
use Rattle.prem_reader.specs.declared.expression.expression.Operand.{Operand}
use Rattle.prem_reader.specs.declared.expression.expression.Operand.TheVariants as operands
use Rattle.prem_reader.specs.declared.expression.expression.State.{State as CodeState}
use Rattle.prem_reader.specs.declared.expression.expression.Move.{Move as CodeMove}
use Rattle.prem_reader.specs.declared.expression.expression.Move.TheVariants as moves

-- what is open inside something
abbrev pub opened : Open → CodeOpen → Open
opened around (code.Under at op) = under at op around
opened around (code.RightOf left at op) = right_of (expression_of left) at op around
opened around code.Bracket = bracket around
opened around (code.IndexOf at name) = index_of at (name_bytes name) around

-- what is open, the outermost first, inside something
abbrev pub open_in : Open → List CodeOpen → Open
open_in around [] = around
open_in around (outer ∷ inner) = open_in (opened around outer) inner

abbrev pub open_of : OpenStack → Open
open_of s = open_in bottom s.all.items

abbrev pub state_by : Operand → Open → State
state_by operands.Wanted around = wants around
state_by (operands.Named at name) around = named at (name_bytes name) around
state_by (operands.Whole value) around = has (expression_of value) around

abbrev pub state_of : CodeState → State
state_of s = state_by s.operand (open_of s.open)

-- a token that belongs to the expression leaves this state
abbrev pub move_of : CodeMove → CodeState → Move
move_of moves.Goes s = goes (state_of s)
move_of (moves.Ends value) s = ends (expression_of value)
move_of moves.Stops s = stops
