-- A token within an expression leads where what it is to the expression leads.
use Rattle.std.proofs.Common.{◌≡◌, ◌≢◌, ℕ, ◌-◌, Bool, true, false, if◌then◌else◌, Option, None, Some, refl, ap}
use Rattle.prem_syntax.specs.Syntax.{Text, Expression}
use Rattle.prem_text.specs.declared.lexing.token.token.Spotted.{Spotted}
use Rattle.prem_text.specs.Lexing.Token.Lexeme.{Seen, seen_of}
use Rattle.prem_text.specs.Grammar.Slots.{is_left_parenthesis}
use Rattle.prem_text.specs.Grammar.Expression.{State, Move, goes, ends, stops, move}
use Rattle.prem_text.specs.Grammar.Statement.{Around, Use, inside, on, wrong, used, called, at_start, is_start, least_of, lone_name, within}
use Rattle.prem_reader.specs.declared.statement.point.Going.{Going}
use Rattle.prem_reader.specs.declared.statement.point.Going.TheVariants as g
use Rattle.prem_reader.specs.declared.statement.point.Reading.{Reading}
use Rattle.prem_reader.specs.Statement.Goings.{goes_on, has_ended, has_stopped, gone, gone_of, left}

ended_by : (u : Use) (e : Expression) (around : Around) (t : Seen) (paren : Bool) (callee : Option Text) →
    (if paren then elim callee [ Some x ↦ called u x around | None ↦ wrong ] else used u e around t)
    ≡ (if paren then elim (if paren then callee else None) [ Some x ↦ called u x around | None ↦ wrong ] else used u e around t)
ended_by u e around t true callee = refl
ended_by u e around t false callee = refl

by : (u : Use) (s : State) (room : ℕ) (around : Around) (t : Seen) (m : Move) →
    elim m [
      | goes s' ↦ on (inside u s' (room - 1) around)
      | ends e ↦ if is_left_parenthesis t.0 then elim (lone_name s) [ Some callee ↦ called u callee around | None ↦ wrong ] else used u e around t
      | stops ↦ if is_start s then at_start u around t else wrong
    ]
    ≡ left u (elim m [
      | goes s' ↦ goes_on s' (room - 1)
      | ends e ↦ has_ended e (if is_left_parenthesis t.0 then lone_name s else None)
      | stops ↦ has_stopped (is_start s)
    ]) around t
by u s room around t (goes s') = refl
by u s room around t (ends e) = ended_by u e around t (is_left_parenthesis t.0) (lone_name s)
by u s room around t stops = refl

pub within_left : (u : Use) (s : State) (room : ℕ) (around : Around) (t : Seen) → within u s room around t ≡ left u (gone (least_of u) s room t) around t
within_left u s room around t = by u s room around t (move (least_of u) s t)

-- a token that isn't one of the expression's stays as it was
pub left_same : (u : Use) (going : Going) (r : Reading) (around : Around) (old new : Spotted) → (going ≢ g.On → new ≡ old) →
    left u (gone_of going r) around (seen_of new) ≡ left u (gone_of going r) around (seen_of old)
left_same u g.On r around old new kept = refl
left_same u (g.Ends value callee) r around old new kept = ap (λ x. left u (gone_of (g.Ends value callee) r) around (seen_of x)) (kept (λ e. absurd cc))
left_same u (g.Stops first) r around old new kept = ap (λ x. left u (gone_of (g.Stops first) r) around (seen_of x)) (kept (λ e. absurd cc))
