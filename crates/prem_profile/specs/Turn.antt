-- What is seen of some cycles of a run at their ends: where they are booked, and what they cost.
use Rattle.std.specs.Prelude.{◌≡◌, ◌<◌, ℕ, suc, ◌-◌, ◌||◌, nat_lt, Bool, true, false, if◌then◌else◌, List}
use Rattle.prem_lru.specs.Entries.{ReplacementRule}
use Rattle.prem_gate.specs.declared.request.Request.{Request}
use Rattle.prem_cycle.specs.declared.state.Mode.{Mode}
use Rattle.prem_cycle.specs.declared.state.Mode.TheVariants.{Point, Switching, Running, Idle}
use Rattle.prem_cycle.specs.State.{Setup, MachineState}
use Rattle.prem_cycle.specs.Run.{cycles_of}
use Rattle.prem_profile.specs.declared.cost.Cost.{Cost}
use Rattle.prem_profile.specs.declared.home.Home.{Home}
use Rattle.prem_profile.specs.declared.home.Home.TheVariants.{At}
use Rattle.prem_profile.specs.declared.tracing.StateBefore.{StateBefore}
use Rattle.prem_profile.specs.Spent.{home_after, spent, waiting_home, where_so}
use Rattle.prem_profile.specs.Issuer.{coming_pc}

abbrev pub is_point : Mode → Bool
is_point Point = true
is_point (Switching k left) = false
is_point (Running k) = false
is_point (Idle until) = false

-- what a state gives to what is seen behind it
abbrev pub seen_of : Home → MachineState → StateBefore
seen_of before s = record {
  now = s.now;
  pc = coming_pc s;
  waiting = waiting_home s.now s.sched s.core.mode before;
  hits = s.log.counts.hits;
  misses = s.log.counts.misses;
  backs = s.log.counts.writebacks;
}

-- an instruction was executed where lines were touched: each touches that of its fetch
abbrev pub has_executed : StateBefore → MachineState → Bool
has_executed b t = nat_lt b.hits t.log.counts.hits || nat_lt b.misses t.log.counts.misses

abbrev pub seen_home : StateBefore → MachineState → Home
seen_home b t = if has_executed b t then At b.pc else b.waiting

abbrev pub seen_cost : StateBefore → MachineState → Cost
seen_cost b t = record {
  instructions = if has_executed b t then 1 else 0;
  cycles = t.now - b.now;
  misses = t.log.counts.misses - b.misses;
  backs = t.log.counts.writebacks - b.backs;
}

-- n cycles from a state, behind one with this home, are all booked at one home, and cost so much
pub record IsTurn (rule : ReplacementRule) (p : Setup) (requests : List Request) (before : Home) (n : ℕ) (s : MachineState) (home : Home) (cost : Cost) : Type 0 where
  pub homes : (m : ℕ) → m < n → home_after rule p requests before (suc m) s ≡ home
  pub home_is : home_after rule p requests before n s ≡ home
  pub spent_is : (is_so : Home → Bool) → spent is_so rule p requests before n s ≡ where_so (is_so home) cost

-- which is seen at their ends
abbrev pub AreSeen : ReplacementRule → Setup → List Request → ℕ → MachineState → Type 0
AreSeen rule p requests n s =
    (before : Home) →
    IsTurn rule p requests before n s (seen_home (seen_of before s) (cycles_of rule p requests n s)) (seen_cost (seen_of before s) (cycles_of rule p requests n s))
