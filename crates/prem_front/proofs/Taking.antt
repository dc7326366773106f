-- The next token of a program that is read from a stage on.
use Rattle.std.proofs.Common.{◌≡◌, List, [], ◌∷◌, ◌++◌, Result, Bool, true, false, if◌then◌else◌, map, ap, sym, ◌∙◌, refl}
use Rattle.prem_syntax.specs.declared.tree.Place.{Place}
use Rattle.prem_syntax.specs.Syntax.{FunctionText, ItemText, ProgramText}
use Rattle.prem_text.specs.declared.lexing.token.fail.FrontFail.{FrontFail}
use Rattle.prem_text.specs.declared.lexing.token.fail.FrontFail.TheVariants.{Syntax, TooDeep}
use Rattle.prem_text.specs.Lexing.Token.Reading.{no_program, too_deep}
use Rattle.prem_text.specs.declared.lexing.token.Spotted.{Spotted}
use Rattle.prem_text.specs.Lexing.Token.Lexeme.{Seen, seen_of}
use Rattle.prem_text.specs.Grammar.Statement.{Around, Point, Turn, inside, is_past, on, turn, wrong}
use Rattle.prem_text.specs.Grammar.Item.{ItemStep, Stage, ahead, in_statements, made, outside, refused, statement_step, step}
use Rattle.prem_text.specs.Grammar.Reader.{read_on, unless_deep}
use Rattle.prem_reader.specs.declared.statement.point.Turn.{Turn as CodeTurn}
use Rattle.prem_reader.specs.declared.statement.point.Turn.TheVariants as turns
use Rattle.prem_reader.specs.declared.statement.point.Going.{Going}
use Rattle.prem_reader.specs.declared.statement.point.Purpose.{Purpose}
use Rattle.prem_reader.specs.declared.statement.point.Reading.{Reading}
use Rattle.prem_reader.specs.Expression.StateOf.{state_of}
use Rattle.prem_reader.specs.Statement.PointOf.{IsLeft, turn_of, use_of}
use Rattle.prem_reader.specs.Statement.Goings.{Gone, gone_of, left}
use Rattle.prem_reader.proofs.StatementLemmas.Within.{within_left}
use Rattle.prem_front.specs.Taking.{FailsAt, LeadsTo, TakesInside, go_on}

read_one : (items : List ItemText) (s : Stage) (t : Seen) (ts : List Seen) (o : ItemStep) → step s t ≡ o → read_on items s (t ∷ ts) ≡ go_on items o t.1 ts
read_one items s t ts o is =
    ap (λ (u : ItemStep). elim u as (λ u. Result ProgramText FrontFail) [
      | ahead next ↦ unless_deep next t.1 (read_on items next ts)
      | made item ↦ read_on (items ++ item ∷ []) outside ts
      | refused ↦ no_program t.1
    ]) is ∙ opened items t.1 ts o
  where
    opened : (items : List ItemText) (at : Place) (ts : List Seen) (o : ItemStep) → elim o as (λ u. Result ProgramText FrontFail) [
      | ahead next ↦ unless_deep next at (read_on items next ts)
      | made item ↦ read_on (items ++ item ∷ []) outside ts
      | refused ↦ no_program at
    ] ≡ go_on items o at ts
    opened items at ts (ahead next) = refl
    opened items at ts (made item) = refl
    opened items at ts refused = refl

-- where these tokens are left
pub read_next : (items : List ItemText) (s : Stage) (all rest : List Spotted) (x : Spotted) (o : ItemStep) → all ≡ x ∷ rest → step s (seen_of x) ≡ o →
    read_on items s (map seen_of all) ≡ go_on items o x.at (map seen_of rest)
read_next items s all rest x o are is = ap (λ ts. read_on items s (map seen_of ts)) are ∙ read_one items s (seen_of x) (map seen_of rest) o is

-- a token that is behind the statements of a function is the one that was there
pub left_step : (f : FunctionText) (u : CodeTurn) (old new : Spotted) → IsLeft u old new → statement_step f (turn_of u) (seen_of new) ≡ statement_step f (turn_of u) (seen_of old)
left_step f (turns.On point) old new left = refl
left_step f (turns.Leaves statements) old new left = ap (λ t. statement_step f (turn_of (turns.Leaves statements)) (seen_of t)) left
left_step f turns.Wrong old new left = refl

-- ---- in an expression of statements

module _ {old new : Reading} {going : Going} {all rest : List Spotted} {last : Spotted} (around : Around) (taken : TakesInside old new going all rest last) where
  inside_turn : turn (inside (use_of old.purpose) taken.state taken.room around) (seen_of last) ≡ left (use_of new.purpose) (gone_of going new) around (seen_of last)
  inside_turn =
      let u = use_of old.purpose in
      let t = seen_of last in
      within_left u taken.state taken.room around t ∙ ap (λ (g : Gone). left u g around t) (sym taken.is_gone)
      ∙ ap (λ (purpose : Purpose). left (use_of purpose) (gone_of going new) around t) (sym taken.purpose)

  -- the token behind an expression leads on
  inside_step : (o : Turn) → o ≡ left (use_of new.purpose) (gone_of going new) around (seen_of last) → (f : FunctionText) (items : List ItemText) →
      read_on items (in_statements f (inside (use_of old.purpose) (state_of old.state) old.room around)) (map seen_of all) ≡ go_on items (statement_step f o (seen_of last)) last.at (map seen_of rest)
  inside_step o is f items =
      let p = inside (use_of old.purpose) taken.state taken.room around in
      let here : step (in_statements f p) (seen_of last) ≡ statement_step f o (seen_of last) = ap (λ (u : Turn). statement_step f u (seen_of last)) (inside_turn ∙ sym is) in
      taken.leads around f items ∙ read_next items (in_statements f p) (last ∷ rest) rest last (statement_step f o (seen_of last)) refl here

  pub inside_on : (q : Point) → on q ≡ left (use_of new.purpose) (gone_of going new) around (seen_of last) → is_past q ≡ false →
      LeadsTo (inside (use_of old.purpose) (state_of old.state) old.room around) all q rest
  inside_on q is within = λ f items.
      let behind = read_on items (in_statements f q) (map seen_of rest) in
      inside_step (on q) is f items ∙ ap (λ (b : Bool). if b then too_deep last.at else behind) within

  pub inside_past : (q : Point) → on q ≡ left (use_of new.purpose) (gone_of going new) around (seen_of last) → is_past q ≡ true →
      FailsAt (TooDeep last.at.line) (inside (use_of old.purpose) (state_of old.state) old.room around) all
  inside_past q is past = λ f items.
      let behind = read_on items (in_statements f q) (map seen_of rest) in
      inside_step (on q) is f items ∙ ap (λ (b : Bool). if b then too_deep last.at else behind) past

  pub inside_wrong : wrong ≡ left (use_of new.purpose) (gone_of going new) around (seen_of last) →
      FailsAt (Syntax last.at.line last.at.col) (inside (use_of old.purpose) (state_of old.state) old.room around) all
  inside_wrong is = λ f items. inside_step wrong is f items
