-- What is open, by what was opened first and last.
use Rattle.std.proofs.Common.{◌≡◌, ℕ, ◌<◌, ◌≤◌, nat_le, Bool, if◌then◌else◌, List, [], ◌∷◌, ◌++◌, length, Option, None, Some, true, false, refl, ap, sym, ◌∙◌, arith}
use Rattle.std.proofs.lemmas.Bool.Decides.{nat_tests}
use Rattle.std.specs.Prelude.{◌==◌, IfSome, option_to_list}
use Rattle.prem_syntax.specs.declared.BinOp.{BinOp}
use Rattle.prem_syntax.specs.declared.tree.Place.{Place}
use Rattle.prem_syntax.specs.Syntax.{Expression, binary}
use Rattle.prem_text.specs.Grammar.Expression.{Open, bottom, right_of, wants, bind, level_of}
use Rattle.prem_text.specs.Grammar.Statement.{is_start}
use Rattle.prem_reader.specs.declared.expression.open.Open.{Open as CodeOpen}
use Rattle.prem_reader.specs.declared.expression.open.Open.TheVariants as code
use Rattle.prem_reader.specs.Expression.StateOf.{open_in, opened}

-- what is opened last is the innermost
pub opened_last : (around : Open) (outer : List CodeOpen) (inner : CodeOpen) → open_in around (outer ++ inner ∷ []) ≡ opened (open_in around outer) inner
opened_last around [] inner = refl
opened_last around (o ∷ outer) inner = opened_last (opened around o) outer inner

some_opened : (around : Open) (inner : CodeOpen) → is_start (wants (opened around inner)) ≡ false
some_opened around (code.Under at op) = refl
some_opened around (code.RightOf left at op) = refl
some_opened around code.Bracket = refl
some_opened around (code.IndexOf at name) = refl

some_stay : (around : Open) (inner : List CodeOpen) → is_start (wants around) ≡ false → is_start (wants (open_in around inner)) ≡ false
some_stay around [] some = some
some_stay around (o ∷ inner) some = some_stay (opened around o) inner (some_opened around o)

-- only where nothing was opened nothing is open
pub none_open : (all : List CodeOpen) (n : ℕ) → n ≡ length all → (n == 0) ≡ is_start (wants (open_in bottom all))
none_open [] n is = ap (λ k. k == 0) is
none_open (outer ∷ inner) n is =
    let some : (n == 0) ≡ false = grind (arith, nat_tests, is) in
    some ∙ sym (some_stay (opened bottom outer) inner (some_opened bottom outer))

pub innermost : (old new : List CodeOpen) (last : Option CodeOpen) → old ≡ new ++ option_to_list last → IfSome last (λ inner. open_in bottom old ≡ opened (open_in bottom new) inner)
innermost old new None is = tt
innermost old new (Some inner) is = ap (open_in bottom) is ∙ opened_last bottom new inner

pub bind_innermost : (level : ℕ) (e : Expression) (old new : List CodeOpen) (inner : CodeOpen) (whole : Expression × Open) → old ≡ new ++ inner ∷ [] →
    bind level e (open_in bottom old) ≡ whole → bind level e (opened (open_in bottom new) inner) ≡ whole
bind_innermost level e old new inner whole is from = ap (bind level e) (sym (ap (open_in bottom) is ∙ opened_last bottom new inner)) ∙ from

pub bind_stops : (level : ℕ) (e : Expression) (old new behind : List CodeOpen) (inner : CodeOpen) (whole : Expression × Open) → old ≡ new ++ inner ∷ [] → behind ≡ new ++ inner ∷ [] →
    bind level e (open_in bottom old) ≡ whole → bind level e (opened (open_in bottom new) inner) ≡ (e, opened (open_in bottom new) inner) → (e, open_in bottom behind) ≡ whole
bind_stops level e old new behind inner whole is back from stops =
    ap (λ (all : List CodeOpen). (e, open_in bottom all)) back ∙ ap (λ (o : Open). (e, o)) (opened_last bottom new inner) ∙ sym stops
    ∙ bind_innermost level e old new inner whole is from

pub bind_operator : (level : ℕ) (left e : Expression) (at : Place) (op : BinOp) (around : Open) → level ≤ level_of op →
    bind level e (right_of left at op around) ≡ bind level (binary at op left e) around
bind_operator level left e at op around within =
    let binds : nat_le level (level_of op) ≡ true = grind (arith, nat_tests, within) in
    ap (λ (b : Bool). if b then bind level (binary at op left e) around else (e, right_of left at op around)) binds

pub bind_looser : (level : ℕ) (left e : Expression) (at : Place) (op : BinOp) (around : Open) → level_of op < level → bind level e (right_of left at op around) ≡ (e, right_of left at op around)
bind_looser level left e at op around looser =
    let stays : nat_le level (level_of op) ≡ false = grind (arith, nat_tests, looser) in
    ap (λ (b : Bool). if b then bind level (binary at op left e) around else (e, right_of left at op around)) stays
