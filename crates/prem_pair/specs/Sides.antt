-- A core's parts in a cycle of two cores: what the bus leaves, and what the core does.
use Rattle.std.specs.Prelude.{ℕ, ◌+◌, ◌≤◌, ◌&&◌, not, Bool, All, List, length, if◌then◌else◌}
use Rattle.prem_pair.specs.Prelude.{CoreMove, Passes, core_turn, move_of, Arrivals, with_memory, with_clash, Setup, rule_in, Work, CoreState, MachineState, Turned, Request, with_last}
use Rattle.prem_pair.specs.Prelude.{TaskJobs}
use Rattle.prem_list.specs.Sequence.{items_of}
use Rattle.prem_machine.specs.Issue.Counting.{counts_in}
use Rattle.prem_machine.specs.Log.{CountsWithin}
use Rattle.prem_machine.specs.Moment.{ModeReady}
use Rattle.prem_machine.specs.Requests.{HaveArrived, pending}
use Rattle.prem_machine.specs.declared.parts.Parts.{Parts}
use Rattle.prem_pair.specs.Cycles.Token.{asks_in}

-- behind arrivals and the bus
abbrev pub bus_done : Arrivals → Turned → MachineState → MachineState
bus_done a b s =
    record s {
      work = with_memory b.memory s.work;
      gates = b.gates;
      log = record {
        intervals = s.log.intervals;
        transfers = with_last b.turn.ended s.log.transfers;
        dropped = a.dropped;
        counts = with_clash b.turn.clash s.log.counts;
      };
    }

-- behind the core's move too
abbrev pub core_done : Setup → CoreMove → MachineState → MachineState
core_done p m s =
    let t = core_turn (rule_in p) p s.now m s.work s.core s.log.counts in
    record s { work = t.work; core = t.core; log = record s.log { counts = t.counts }; trapped = t.trapped }

-- what a core does that holds the token or doesn't, and has had the bus or hasn't
abbrev pub move_had : (holds had : Bool) → Setup → ℕ → List TaskJobs → Work → CoreState → CoreMove
move_had holds had p now sched w c = if not holds && asks_in now sched c.mode then Passes c else move_of p now had sched w c

-- what holds of a core's parts at the beginning of a cycle, where no count is above n
pub record Goes {P : Type 0} (n : ℕ) (x : Parts P) : Type 0 where
  pub ready : ModeReady x.now x.sched x.moment.mode
  pub first : x.moment.interval.first ≤ x.now
  pub counts : CountsWithin n (counts_in x.facts)

-- of the parts with the devices, where the requests before cycle t, and no other ones, have arrived
pub record Arrives {P : Type 0} (t : ℕ) (requests : List Request) (x : Parts P) : Type 0 where
  pub arrived : HaveArrived t x.arrived requests
  pub few : All (λ d. d.dropped ≤ x.arrived) (items_of x.facts.devices)
  pub pending : pending x.gates + length (items_of x.facts.transfers) ≤ x.arrived
