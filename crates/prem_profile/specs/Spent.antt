-- Where the cycles of a run go: each cycle that passes has one home.
use Rattle.std.specs.Prelude.{ℕ, zero, suc, ◌+◌, ◌-◌, not, Bool, true, if◌then◌else◌, List, [], ◌∷◌, Option, Some, None}
use Rattle.prem_sched.specs.declared.sched.TaskJobs.{TaskJobs}
use Rattle.prem_sched.specs.declared.sched.Choice.{Choice}
use Rattle.prem_sched.specs.declared.sched.Choice.TheVariants.{Run, Idle as Idles, Finished}
use Rattle.prem_sched.specs.Schedule.{choice}
use Rattle.prem_lru.specs.Entries.{ReplacementRule}
use Rattle.prem_gate.specs.declared.request.Request.{Request}
use Rattle.prem_cycle.specs.declared.state.Mode.{Mode}
use Rattle.prem_cycle.specs.declared.state.Mode.TheVariants.{Point, Switching, Running, Idle}
use Rattle.prem_cycle.specs.State.{Setup, MachineState}
use Rattle.prem_cycle.specs.Issue.{LineTouch, one_if}
use Rattle.prem_cycle.specs.Cycle.{step_of}
use Rattle.prem_cycle.specs.Run.{CycleStep, coming_step, cycles_of}
use Rattle.prem_profile.specs.declared.cost.Cost.{Cost}
use Rattle.prem_profile.specs.declared.home.Home.{Home}
use Rattle.prem_profile.specs.declared.home.Home.TheVariants.{Rest, Switch, At}

-- ---- homes

abbrev pub chosen : Choice → Home
chosen (Run k) = Switch k
chosen (Idles until) = Rest
chosen Finished = Rest

-- of a cycle that executes nothing: that of the switch or of idle time; in an interval that of the instruction before
abbrev pub waiting_home : (now : ℕ) → List TaskJobs → Mode → Home → Home
waiting_home now sched Point before = chosen (choice now sched)
waiting_home now sched (Switching k left) before = Switch k
waiting_home now sched (Running k) before = before
waiting_home now sched (Idle until) before = Rest

-- of one that executes an instruction: the instruction's address
abbrev pub home_with : Option CycleStep → Home → Home
home_with None waiting = waiting
home_with (Some s) waiting = At s.before.pc

-- of the coming cycle of a state, behind one with this home
abbrev pub home_of : ReplacementRule → Setup → List Request → MachineState → Home → Home
home_of rule p requests s before = home_with (coming_step rule p requests s) (waiting_home s.now s.sched s.core.mode before)

-- that of the last of n cycles from a state on, behind one with this home
unfoldable pub home_after : ReplacementRule → Setup → List Request → Home → ℕ → MachineState → Home
home_after rule p requests before zero s = before
home_after rule p requests before (suc n) s = home_of rule p requests (cycles_of rule p requests n s) (home_after rule p requests before n s)

-- ---- costs

abbrev pub no_cost : Cost
no_cost = record { instructions = 0; cycles = 0; misses = 0; backs = 0 }

abbrev pub plus : Cost → Cost → Cost
plus a b = record { instructions = a.instructions + b.instructions; cycles = a.cycles + b.cycles; misses = a.misses + b.misses; backs = a.backs + b.backs }

-- the lines that an instruction brings into the cache, and those that it writes back for them
abbrev pub misses_in : List LineTouch → ℕ
misses_in [] = 0
misses_in (t ∷ touches) = one_if (not t.hit) + misses_in touches

abbrev pub backs_in : List LineTouch → ℕ
backs_in [] = 0
backs_in (t ∷ touches) = one_if t.back + backs_in touches

-- of a cycle with the instruction that it executes, if there is one; a cycle whose instruction traps doesn't pass
abbrev pub cost_with : Option CycleStep → (passed : ℕ) → Cost
cost_with None passed = record { instructions = 0; cycles = passed; misses = 0; backs = 0 }
cost_with (Some s) passed = record { instructions = 1; cycles = passed; misses = misses_in s.touches; backs = backs_in s.touches }

abbrev pub cycle_cost : ReplacementRule → Setup → List Request → MachineState → Cost
cycle_cost rule p requests s = cost_with (coming_step rule p requests s) ((step_of rule p requests s).now - s.now)

abbrev pub where_so : Bool → Cost → Cost
where_so b c = if b then c else no_cost

-- of those of n cycles from a state on, behind one with this home, whose homes are so
unfoldable pub spent : (Home → Bool) → ReplacementRule → Setup → List Request → Home → ℕ → MachineState → Cost
spent is_so rule p requests before zero s = no_cost
spent is_so rule p requests before (suc n) s =
    plus (spent is_so rule p requests before n s)
    (where_so (is_so (home_after rule p requests before (suc n) s)) (cycle_cost rule p requests (cycles_of rule p requests n s)))

abbrev pub spent_in_all : ReplacementRule → Setup → List Request → Home → ℕ → MachineState → Cost
spent_in_all rule p requests before n s = spent (λ h. true) rule p requests before n s
