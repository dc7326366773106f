-- What the files of this crate's specs name of other modules, so that each imports it from one place.
pub use Rattle.prem_gate.specs.Gates.{GatesState, Turned, after_arrival, arrival_of, bus_turn, first_gates, waiting_of, wants, with_carried}
pub use Rattle.prem_gate.specs.Stretch.{AreQuiet, BusRun, StaysAbove, bus_run, lesser, transfer_left, with_transfer}
pub use Rattle.prem_gate.specs.declared.bus.Carried.{Carried}
pub use Rattle.prem_gate.specs.declared.bus.CoreWant.TheVariants.{Held, New, No}
pub use Rattle.prem_gate.specs.declared.bus.Transfer.{Transfer}
pub use Rattle.prem_gate.specs.declared.bus.Window.{Window}
pub use Rattle.prem_gate.specs.declared.request.Request.{Request}
pub use Rattle.prem_gate.specs.declared.request.RunInput.{RunInput}
pub use Rattle.prem_image.specs.Records.{IsImage, IsPlaced}
pub use Rattle.prem_image.specs.declared.image.DeviceRecord.{DeviceRecord}
pub use Rattle.prem_image.specs.declared.image.Image.{Image}
pub use Rattle.prem_image.specs.declared.image.TaskRecord.{TaskRecord}
pub use Rattle.prem_isa.specs.Act.{act, fetch, list_with_register, phase_after}
pub use Rattle.prem_isa.specs.Decode.{cost_of, greatest_cost}
pub use Rattle.prem_isa.specs.Plain.{Did, PlainState, RunFits, TaskRun, did_of, is_running, left_after, next_input, outcome_of, plain_did, plain_run, plain_start, plain_trace, used_after}
pub use Rattle.prem_isa.specs.Plain.{with_last}
pub use Rattle.prem_isa.specs.declared.effect.Access.{Access}
pub use Rattle.prem_isa.specs.declared.effect.Change.{Change}
pub use Rattle.prem_isa.specs.declared.effect.Change.TheVariants.{End, Execute, Job, Memory, Stay}
pub use Rattle.prem_isa.specs.declared.effect.Effect.{Effect}
pub use Rattle.prem_isa.specs.declared.effect.Outcome.{Outcome}
pub use Rattle.prem_isa.specs.declared.effect.Outcome.TheVariants.{Done, Trap}
pub use Rattle.prem_isa.specs.declared.effect.Phase.{Phase}
pub use Rattle.prem_isa.specs.declared.effect.Phase.TheVariants.{Compatible, Execution}
pub use Rattle.prem_isa.specs.declared.instr.Instr.{Instr}
pub use Rattle.prem_list.specs.Sequence.{items_of}
pub use Rattle.prem_lru.specs.CacheState.{CacheState, IsClean, Touched, empty_cache, store_of, touch_of, view_of}
pub use Rattle.prem_lru.specs.Entries.{ReplacementRule}
pub use Rattle.prem_lru.specs.Rules.{IsRule, rule_of}
pub use Rattle.prem_plant.specs.Ranges.{IsPlant}
pub use Rattle.prem_plant.specs.declared.plant.Plant.{Plant}
pub use Rattle.prem_sched.specs.Schedule.{choice, job_ended, starts_of, task_at}
pub use Rattle.prem_sched.specs.declared.sched.Choice.{Choice}
pub use Rattle.prem_sched.specs.declared.sched.Choice.TheVariants.{Finished, Idle, Run}
pub use Rattle.prem_sched.specs.declared.sched.TaskJobs.{TaskJobs}
