-- The profile of a set's bound: one job of each task on the path that counts most, in callgrind's format.
use Rattle.std.specs.Prelude.{◌≡◌, ◌≤◌, ◌^◌, ℕ, ◌+◌, false, List, [], ◌∷◌, ◌++◌, length}
use Rattle.prem_plant.specs.declared.plant.Plant.{Plant}
use Rattle.prem_plant.specs.Ranges.{IsPlant}
use Rattle.prem_layout.specs.Placed.{Placed}
use Rattle.prem_bounds.specs.Scale.{clipped}
use Rattle.prem_wcet_laws.specs.Wcet.{wcet_of}
use Rattle.prem_profile.specs.declared.cost.Cost.{Cost}
use Rattle.prem_profile.specs.declared.callgrind.Source.{Source}
use Rattle.prem_profile.specs.Account.{each_row}
use Rattle.prem_profile.specs.Strips.{Strip, first_row, rows_of, strip_words}
use Rattle.prem_profile.specs.Grammar.{Entry, IsProfile}
use Rattle.prem_profile.specs.Callgrind.{no_calls_at, profile_text}
use Rattle.prem_profile.specs.Entries.{entries_sum}
use Rattle.prem_profile.specs.Bound.Bills.{Bill, is_call, total}
use Rattle.prem_profile.specs.Bound.Booked.{bill_row, bills_from}

abbrev pub joined : List Bill → Bill
joined [] = []
joined (b ∷ bills) = b ++ joined bills

abbrev pub set_bill : Plant → List Placed → Bill
set_bill p tasks = joined (bills_from p 0 tasks)

-- of the strips of so many words of memory, of tasks with these sources
abbrev pub bound_profile : List Source → List Strip → (size : ℕ) → Plant → List Placed → List ℕ
bound_profile sources strips size p tasks =
    profile_text sources strips (total (set_bill p tasks))
    (each_row (bill_row (length sources) (rows_of (length sources) size strips) (set_bill p tasks)) 0 (first_row (length sources) + strip_words strips)) no_calls_at

-- what one job of each task takes at most, together
abbrev pub wcets : Plant → List Placed → ℕ
wcets p [] = 0
wcets p (t ∷ ts) = wcet_of p t.plans t.task.program t.at + wcets p ts

-- each of which is at most 2 ^ 40, as the rules on bounds want it of each set
abbrev pub AreShort : Plant → List Placed → Type 0
AreShort p [] = Unit {0}
AreShort p (t ∷ ts) = (wcet_of p t.plans t.task.program t.at ≤ 2 ^ 40) × AreShort p ts

-- each item is of a switch or of an instruction, and so has lines of its own: no function stands for its items
abbrev pub AreTold : Bill → Type 0
AreTold [] = Unit {0}
AreTold (x ∷ bill) = (is_call x.spot ≡ false) × AreTold bill

-- a text is a profile by the grammar, whose lines add up to what jobs take at most: as numbers are told, and exactly where each is short
pub record IsBound (text : List ℕ) (p : Plant) (tasks : List Placed) : Type 0 where
  pub entries : List Entry
  pub sums : Cost
  pub read : IsProfile text entries sums
  pub lines : entries_sum entries ≡ sums
  pub items : IsPlant p → AreTold (set_bill p tasks)
  pub told : clipped sums.cycles ≡ clipped (wcets p tasks)
  pub exact : AreShort p tasks → sums.cycles ≡ wcets p tasks

abbrev pub BoundsAddUp : Type 0
BoundsAddUp = (sources : List Source) (strips : List Strip) (size : ℕ) (p : Plant) (tasks : List Placed) → IsBound (bound_profile sources strips size p tasks) p tasks
