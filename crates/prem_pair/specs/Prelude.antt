-- What the files of this crate's specs name of other modules, so that each imports it from one place.
pub use Rattle.prem_cycle.specs.Core.{CoreMove, CoreTurn, Passes, core_turn, is_empty, move_of, want_of}
pub use Rattle.prem_cycle.specs.Cycle.{Arrivals, arrivals_at, is_finished, is_full, joined, log_size, move_at, next_cycle, with_clash, with_memory, with_now}
pub use Rattle.prem_cycle.specs.Run.{memory_of}
pub use Rattle.prem_cycle.specs.Runs.Dull.Rest.{NoneArrive, Within, core_passed, core_rest}
pub use Rattle.prem_cycle.specs.State.{CoreState, MachineState, Setup, Work, rule_in, start_of}
pub use Rattle.prem_cycle.specs.declared.state.Mode.{Mode}
pub use Rattle.prem_cycle.specs.declared.state.Mode.TheVariants.{Idle, Point, Running, Switching}
pub use Rattle.prem_gate.specs.Gates.{GateState, GatesState, Turned, bus_turn, is_held, wants}
pub use Rattle.prem_gate.specs.declared.bus.CoreWant.{CoreWant}
pub use Rattle.prem_gate.specs.declared.bus.CoreWant.TheVariants.{New, No}
pub use Rattle.prem_gate.specs.declared.request.Request.{Request}
pub use Rattle.prem_isa.specs.Plain.{TaskRun, with_last}
pub use Rattle.prem_isa.specs.declared.effect.Change.TheVariants.{End, Execute, Job, Memory, Stay}
pub use Rattle.prem_lru.specs.Entries.{ReplacementRule}
pub use Rattle.prem_machine.specs.Parts.{IsSetting, Stands, state_of}
pub use Rattle.prem_sched.specs.declared.sched.TaskJobs.{TaskJobs}
pub use Rattle.std.specs.Prelude.{List, None, Option, Some, suc, zero, ℕ}
