-- What tokens of a program are to it, several at once.
use Rattle.std.specs.Prelude.{◌≡◌, ℕ, List, [], ◌∷◌, ◌++◌, Result, Ok, Err, map}
use Rattle.prem_syntax.specs.declared.tree.Place.{Place}
use Rattle.prem_list.specs.Sequence.{items_of}
use Rattle.prem_syntax.specs.SyntaxOf.{statement_of}
use Rattle.prem_syntax.specs.Syntax.{FunctionText, ItemText, ProgramText}
use Rattle.prem_text.specs.declared.lexing.token.fail.FrontFail.{FrontFail}
use Rattle.prem_text.specs.declared.lexing.token.Spotted.{Spotted}
use Rattle.prem_text.specs.Lexing.Token.Lexeme.{Seen, seen_of}
use Rattle.prem_text.specs.Lexing.Token.Reading.{Fails, no_program}
use Rattle.prem_text.specs.Grammar.Expression.{State}
use Rattle.prem_text.specs.Grammar.Statement.{Around, Point, inside, least_of, listed}
use Rattle.prem_text.specs.Grammar.Item.{ItemStep, Stage, ahead, body_ends, in_statements, made, outside, refused, with_body}
use Rattle.prem_text.specs.Grammar.Reader.{read_on, unless_deep}
use Rattle.prem_reader.specs.declared.statement.point.Going.{Going}
use Rattle.prem_reader.specs.declared.statement.point.Reading.{Reading}
use Rattle.prem_reader.specs.Expression.StateOf.{state_of}
use Rattle.prem_reader.specs.Statement.PointOf.{point_of, use_of}
use Rattle.prem_reader.specs.Statement.Goings.{gone, gone_of}
use Rattle.prem_front.specs.declared.program.Ahead.{Ahead}
use Rattle.prem_front.specs.declared.program.Ahead.TheVariants as a
use Rattle.prem_front.specs.declared.program.Taken.{Taken}
use Rattle.prem_front.specs.StageOf.{step_of}

-- the program that follows behind a token at a place, which was this to it
abbrev pub go_on : List ItemText → ItemStep → Place → List Seen → Result ProgramText FrontFail
go_on items (ahead next) at ts = unless_deep next at (read_on items next ts)
go_on items (made item) at ts = read_on (items ++ item ∷ []) outside ts
go_on items refused at ts = no_program at

-- whatever items stand before, a program that is read from a stage and all these tokens on goes on with the rest behind
-- what was taken, or fails so
abbrev pub Takes : Stage → (all : List Spotted) → Result Taken FrontFail → (rest : List Spotted) → Type 0
Takes s all (Ok t) rest = (items : List ItemText) → read_on items s (map seen_of all) ≡ go_on items (step_of t.step) t.at (map seen_of rest)
Takes s all (Err fail) rest = (items : List ItemText) → Fails fail (read_on items s (map seen_of all))

-- ---- in the statements of a function

-- whatever function it is and whatever items stand before, what is read from a point and all these tokens on is what is
-- read from another point and the rest on
abbrev pub LeadsTo : Point → (all : List Spotted) → Point → (rest : List Spotted) → Type 0
LeadsTo p all q rest = (f : FunctionText) (items : List ItemText) → read_on items (in_statements f p) (map seen_of all) ≡ read_on items (in_statements f q) (map seen_of rest)

-- it fails so
abbrev pub FailsAt : FrontFail → Point → (all : List Spotted) → Type 0
FailsAt fail p all = (f : FunctionText) (items : List ItemText) → Fails fail (read_on items (in_statements f p) (map seen_of all))

-- the tokens of an expression lead to one that isn't its own, before the rest
pub record TakesInside (old new : Reading) (going : Going) (all rest : List Spotted) (last : Spotted) : Type 0 where
  pub state : State
  pub room : ℕ
  pub leads : (around : Around) → LeadsTo (inside (use_of old.purpose) (state_of old.state) old.room around) all (inside (use_of old.purpose) state room around) (last ∷ rest)
  pub is_gone : gone_of going new ≡ gone (least_of (use_of old.purpose)) state room (seen_of last)
  pub purpose : new.purpose ≡ old.purpose

abbrev pub FailsInside : FrontFail → Reading → (all : List Spotted) → Type 0
FailsInside fail r all = (around : Around) → FailsAt fail (inside (use_of r.purpose) (state_of r.state) r.room around) all

-- some tokens lead from a point to another, or to one behind the statements
abbrev pub TakesSome : Point → (all : List Spotted) → Ahead → (rest : List Spotted) → Type 0
TakesSome p all (a.On q) rest = LeadsTo p all (point_of q) rest
TakesSome p all (a.Left statements last) rest = (f : FunctionText) (items : List ItemText) →
    read_on items (in_statements f p) (map seen_of all) ≡ go_on items (body_ends (with_body f (listed (map statement_of (items_of statements)))) (seen_of last)) last.at (map seen_of rest)
