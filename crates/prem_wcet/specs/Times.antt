-- What is told of the jobs of a task: what they take at most, and what they keep closed to transfers.
use Rattle.std.specs.Prelude.{ℕ, List, map}
use Rattle.prem_plant.specs.declared.plant.Plant.{Plant}
use Rattle.prem_syntax.specs.Syntax.{Text}
use Rattle.prem_layout.specs.Plans.{Plan}
use Rattle.prem_layout.specs.Placed.{Placed, name_at}
use Rattle.prem_wcet_laws.specs.Wcet.{wcet_of, longest_wcet_of}
use Rattle.prem_wcet_laws.specs.Opens.{opens_of, shortened}

-- a marked function: its name, its stated length, and by when its interval opens the bus
pub record IntervalText : Type 0 where
  pub name : Text
  pub stated : ℕ
  pub opens : ℕ

-- what a job of a task takes at most, its longest stretch or interval with the switch before it, its marked functions in the order of the text, and for
-- each of some costs of transfers what a job keeps closed to these
pub record TimesText : Type 0 where
  pub wcet : ℕ
  pub longest : ℕ
  pub intervals : List IntervalText
  pub closed : List ℕ

abbrev pub interval_text : Plant → Placed → Plan → IntervalText
interval_text p t plan = record { name = name_at t.task.program.routines plan.function; stated = plan.stated; opens = opens_of p t.at plan }

abbrev pub closed_by : Plant → Placed → (top : ℕ) → ℕ
closed_by p t top = wcet_of p (map (shortened p t.at top) t.plans) t.task.program t.at

abbrev pub times_of : Plant → (tops : List ℕ) → Placed → TimesText
times_of p tops t = record {
  wcet = wcet_of p t.plans t.task.program t.at;
  longest = longest_wcet_of p t.plans t.task.program t.at;
  intervals = map (interval_text p t) t.plans;
  closed = map (closed_by p t) tops;
}
