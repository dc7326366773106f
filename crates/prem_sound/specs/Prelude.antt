-- What the files of this crate's specs name of other modules, so that each imports it from one place.
pub use Rattle.prem_cycle.specs.Core.{is_predictable}
pub use Rattle.prem_cycle.specs.Cycle.{is_finished, is_over, log_size}
pub use Rattle.prem_cycle.specs.Run.{cycles_of, memory_of, run_of}
pub use Rattle.prem_cycle.specs.Runs.Position.Finish.{due_of}
pub use Rattle.prem_cycle.specs.Runs.Position.Issued.{AreOwn, IsRunnable}
pub use Rattle.prem_cycle.specs.Runs.Position.Own.{AllOwn, IsFree, StaysOwn, device_of}
pub use Rattle.prem_cycle.specs.State.{MachineState, Setup, Work, record_of, rule_in, start_of, task_in}
pub use Rattle.prem_gate.specs.declared.request.Request.{Request}
pub use Rattle.prem_image.specs.Records.{IsImage, area_of}
pub use Rattle.prem_image.specs.declared.image.TaskRecord.{TaskRecord}
pub use Rattle.prem_isa.specs.Decode.{cost_of}
pub use Rattle.prem_isa.specs.Plain.{Did, RunFits, TaskRun, plain_did, plain_run, plain_start, plain_trace}
pub use Rattle.prem_isa.specs.declared.effect.Access.{Access}
pub use Rattle.prem_isa.specs.declared.effect.AccessKind.TheVariants.{Loads}
pub use Rattle.prem_isa.specs.declared.effect.Change.{Change}
pub use Rattle.prem_isa.specs.declared.effect.Change.TheVariants.{End, Execute, Job, Memory, Stay}
pub use Rattle.prem_isa.specs.declared.effect.Phase.{Phase}
pub use Rattle.prem_isa.specs.declared.effect.Phase.TheVariants.{Compatible, Execution}
pub use Rattle.prem_lru.specs.Entries.{ReplacementRule}
pub use Rattle.prem_lru.specs.Rules.{IsRule, MovesBy}
pub use Rattle.prem_plant.specs.Order.Order.{AllIn, ArePasses, CacheMissesOnce, HaveRoom, IsCacheFullAfter, OrderRule, cache_misses, of_set}
pub use Rattle.prem_plant.specs.Order.Rules.{order_rule_of, passes_of}
pub use Rattle.prem_plant.specs.Places.{AreApart}
pub use Rattle.prem_plant.specs.declared.plant.Plant.{Plant}
