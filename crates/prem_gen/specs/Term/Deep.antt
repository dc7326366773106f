-- What a result tells of the expression that is too deep.
use Rattle.std.specs.Prelude.{◌≡◌, Option, Some, None, Result, MatchResult}
use Rattle.prem_line.specs.declared.failing.Failing.{Failing}
use Rattle.prem_line.specs.declared.failing.Failing.TheVariants.{Refused}
use Rattle.prem_syntax.specs.declared.tree.Place.{Place}

-- why an expression has no code: its place, where it is too deep
abbrev pub TermFail : Type 0
TermFail = Failing Place

-- want of memory tells nothing
pub record TooDeep (e : TermFail) (found : Option Place) : Type 0 where
  pub at_place : (at : Place) → e ≡ Refused at → found ≡ Some at

-- the first expression that is too deep is the one that is found, if there is one
abbrev pub Finds : {A : Type 0} → Result A TermFail → Option Place → Type 0
Finds result found = MatchResult result (λ _. found ≡ None) (λ e. TooDeep e found)
