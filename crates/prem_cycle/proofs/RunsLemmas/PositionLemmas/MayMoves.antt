-- A core that may be kept waiting at a scheduling point: in a cycle it does what it does where it is the only one, or nothing.
use Rattle.prem_cycle.proofs.Prelude.{CoreMove, Passes, CoreTurn, core_turn, with_memory, with_clash, Setup, Work, CoreState, MachineState, Point, Turned, TaskRun, ReplacementRule, TaskJobs}
use Rattle.prem_cycle.proofs.CoreCases.{MoveCase}
use Rattle.prem_cycle.proofs.RunsLemmas.PositionLemmas.Schedules.{Schedules, Moves, moves}
use Rattle.std.specs.Prelude.{◌≡◌, ℕ, Bool, List}

pub data MayMove (p : Setup) (now : ℕ) (had : Bool) (sched : List TaskJobs) (w : Work) (c : CoreState) : CoreMove → Type 0 where
  does : (m : CoreMove) → MoveCase p now had sched w c m → MayMove p now had sched w c m
  stands_still : c.mode ≡ Point → MayMove p now had sched w c (Passes c)

-- a move of the core in a state, behind what the bus does
abbrev pub MayMoveIn : Setup → Turned → MachineState → CoreMove → Type 0
MayMoveIn p b s m = MayMove p s.now b.turn.core s.sched (with_memory b.memory s.work) s.core m

-- the core's part of a cycle with this move
abbrev pub turn_with : ReplacementRule → Setup → Turned → CoreMove → MachineState → CoreTurn
turn_with rule p b m s = core_turn rule p s.now m (with_memory b.memory s.work) s.core (with_clash b.turn.clash s.log.counts)

-- what it makes of the jobs
pub may_schedule : (p : Setup) (runs : ℕ → TaskRun) (at : ℕ → ℕ) (sched : List TaskJobs) (now : ℕ) (had : Bool) (w : Work) (c : CoreState)
    (m : CoreMove) → MayMove p now had sched w c m → Schedules p runs at sched c.mode c.mark → Moves p runs at sched m
may_schedule p runs at sched now had w c _ (does m x) s = moves p runs at sched now had w c m x s
may_schedule p runs at sched now had w c _ (stands_still e) s = s
