-- Up to when two cores don't touch each other. Time is in cycles.
use Rattle.std.specs.Prelude.{◌≡◌, ◌≢◌, ℕ, ◌+◌, ◌-◌, ◌≤◌, ◌&&◌, true, false, List, if◌then◌else◌}
use Rattle.prem_pair.specs.Prelude.{want_of, NoneArrive, wants, New, Request}
use Rattle.prem_pair.specs.Cycles.Pair.{PairState, one_trapped}
use Rattle.prem_pair.specs.Cycles.Rest.{stays_with, wanted}
use Rattle.prem_pair.specs.declared.cycles.state.Holder.TheVariants.{Gates}

-- up to this cycle no request arrives; the token stays where it is, and not with the gates, no transaction begins, and at most one core
-- owes one
pub record MayStretch (until : ℕ) (requests : List Request) (s : PairState) : Type 0 where
  pub from : s.first.now ≤ until
  pub arrivals : NoneArrive (until - s.first.now) s.first.now requests
  pub token : stays_with s.holder s ≡ true
  pub gates : s.holder ≢ Gates
  pub begins : wanted s ≢ New
  pub one : (wants (want_of s.first.core.debt) && wants (want_of s.second.core.debt)) ≡ false

-- the cycles from one state to another, with one that traps, which isn't counted
abbrev pub cycles_taken : (from to : PairState) → ℕ
cycles_taken s t = t.first.now - s.first.now + (if one_trapped t then 1 else 0)
