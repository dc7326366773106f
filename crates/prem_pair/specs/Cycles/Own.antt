-- Runs of a core of which each cycle is its own. Time is in cycles.
use Rattle.std.specs.Prelude.{◌≡◌, ◌≢◌, ℕ, zero, suc, ◌+◌, ◌&&◌, is_some, Bool, true, false, List, [], None}
use Rattle.prem_pair.specs.Prelude.{want_of, is_finished, is_full, NoneArrive, Setup, MachineState, Running, wants, CoreWant, New, Request, Stay, ReplacementRule}
use Rattle.prem_pair.specs.Cycles.Apart.{own_cycle, own_part}
use Rattle.prem_pair.specs.Cycles.Pair.{PairState, both_finished}
use Rattle.prem_pair.specs.Cycles.Rest.{stays_with}
use Rattle.prem_pair.specs.Cycles.Token.{asks, frees, want_with}
use Rattle.prem_pair.specs.declared.cycles.state.Holder.TheVariants.{Gates}

-- from one state of a core to the next by a cycle of its own, in which it wants this of the bus, doesn't trap, doesn't free a token that
-- it holds, and asks for none that it didn't ask for
pub record OwnCycle (rule : ReplacementRule) (p : Setup) (holds : Bool) (want : CoreWant) (s x : MachineState) : Type 0 where
  pub wants_it : want_of s.core.debt ≡ want
  pub part : is_some (own_part rule p holds s).trapped ≡ false
  pub next : own_cycle rule p holds s ≡ x
  pub keeps : holds ≡ true → frees x.core ≡ false
  pub asks_same : holds ≡ false → asks x ≡ asks s
  pub finished : is_finished x ≡ is_finished s
  pub going : s.trapped ≡ None
  pub room : is_full s ≡ false
  pub time : x.now ≡ s.now + 1
  pub gates : x.gates ≡ s.gates

-- by so many of them
pub data OwnRun (rule : ReplacementRule) (p : Setup) (holds : Bool) (want : CoreWant) (s : MachineState) : ℕ → MachineState → Type 0 where
  no_cycle : OwnRun rule p holds want s zero s
  one_more : (n : ℕ) (t x : MachineState) → OwnRun rule p holds want s n t → OwnCycle rule p holds want t x → OwnRun rule p holds want s (suc n) x

-- a task runs in an interval that goes on, and owes no transaction
pub record IsGoing (task : ℕ) (s : MachineState) : Type 0 where
  pub mode : s.core.mode ≡ Running task
  pub transactions : s.core.debt.transactions ≡ []
  pub begun : s.core.debt.begun ≡ false
  pub mark : s.core.mark ≡ Stay

-- for so many cycles two cores that want this of the bus don't touch each other
pub record MayRunApart (n : ℕ) (requests : List Request) (v w : CoreWant) (s : PairState) : Type 0 where
  pub arrivals : NoneArrive n s.first.now requests
  pub token : stays_with s.holder s ≡ true
  pub gates : s.holder ≢ Gates
  pub free : s.first.gates.carried ≡ None
  pub begins : want_with s.holder v w ≢ New
  pub one : (wants v && wants w) ≡ false
  pub unfinished : both_finished s ≡ false
