-- The rules of a well-formed program, their breaches, and where each stands in the order of breaches.
use Rattle.std.specs.Prelude.{ℕ, ◌+◌, Bool, List, Option}
use Rattle.prem_syntax.specs.declared.tree.Place.{Place}
use Rattle.prem_syntax.specs.declared.rules.Count.{Count}
use Rattle.prem_syntax.specs.declared.rules.TypeRule.{TypeRule}
use Rattle.prem_syntax.specs.declared.rules.TypeRule.TheVariants.{Void, Narrow, Scalar, Initial, Count as CountRule, Target, Return, Marked, Region, Range, Job}
use Rattle.prem_syntax.specs.Syntax.{Text}
use Rattle.prem_syntax.specs.Order.{Standing, stands_before, first_by, first_of_by}

pub data Rule : Type 0 where
  Limit : Count → Rule
  NoJob : Rule
  Unknown : Text → Rule
  Twice : Text → Rule
  OfTypes : TypeRule → Rule
  CallOrder : Rule
  MarkedCall : Rule
  SystemCall : Rule
  LoopForm : Rule

-- a rule that is broken at a place, or in the program as a whole
pub record Breach : Type 0 where
  pub at : Option Place
  pub rule : Rule

-- the order of the rules on types
abbrev pub type_rank : TypeRule → ℕ
type_rank Void = 0
type_rank Narrow = 1
type_rank Scalar = 2
type_rank Initial = 3
type_rank CountRule = 4
type_rank Target = 5
type_rank Return = 6
type_rank Marked = 7
type_rank Region = 8
type_rank Range = 9
type_rank Job = 10

-- the order of the rules
abbrev pub rank : Rule → ℕ
rank (Limit which) = 0
rank NoJob = 1
rank (Unknown name) = 2
rank (Twice name) = 3
rank (OfTypes rule) = 4 + type_rank rule
rank CallOrder = 15
rank MarkedCall = 16
rank SystemCall = 17
rank LoopForm = 18

-- where it stands in the order of breaches
abbrev pub standing : Breach → Standing
standing b = record { at = b.at; rank = rank b.rule }

abbrev pub comes_before : Breach → Breach → Bool
comes_before a b = stands_before (standing a) (standing b)

abbrev pub first : Option Breach → Option Breach → Option Breach
first a b = first_by standing a b

abbrev pub first_of : List Breach → Option Breach
first_of bs = first_of_by standing bs
