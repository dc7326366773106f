-- What the files of this crate's specs name of other modules, so that each imports it from one place.
pub use Rattle.prem_cycle.specs.Core.{CoreMove, CoreTurn, Issues, Passes, core_issue, core_issued, core_turn, is_paid, new_interval, paid_on_bus, phase_in, stated_after, want_of}
pub use Rattle.prem_cycle.specs.Core.{window_after, with_debt}
pub use Rattle.prem_cycle.specs.Cycle.{Arrivals, at_point, ended_interval, ends_before, is_overrun, log_size, output_count, sched_after, with_clash, with_interval}
pub use Rattle.prem_cycle.specs.FactsOf.{devices_reported, inputs_size, stop_of}
pub use Rattle.prem_cycle.specs.Issue.{Attempt, Executes, LineTouch, Traps, attempt_behind, attempt_in, attempt_of, attempt_seen, behind_touches, is_execution, is_memory, issued_with}
pub use Rattle.prem_cycle.specs.Issue.{one_if, owed_by, task_changed, task_moved, view_touched}
pub use Rattle.prem_cycle.specs.Run.{cycles_of, memory_of, run_of, wants_input_of}
pub use Rattle.prem_cycle.specs.State.{CoreState, Counts, Debt, Log, MachineState, Setup, Task, Transaction, Work, shorter, first_core, first_list, first_task, first_tasks, no_counts, no_debt, no_record, rule_in}
pub use Rattle.prem_cycle.specs.State.{task_in}
pub use Rattle.prem_cycle.specs.declared.facts.DeviceFacts.{DeviceFacts}
pub use Rattle.prem_cycle.specs.declared.facts.Facts.{Facts}
pub use Rattle.prem_cycle.specs.declared.facts.TaskFacts.{TaskFacts}
pub use Rattle.prem_cycle.specs.declared.state.Interval.{Interval}
pub use Rattle.prem_cycle.specs.declared.state.Mode.TheVariants.{Idle, Point, Running, Switching}
pub use Rattle.prem_gate.specs.Gates.{GatesState, bus_turn, first_gates, wants}
pub use Rattle.prem_gate.specs.declared.bus.CoreWant.TheVariants.{Held, No}
pub use Rattle.prem_gate.specs.declared.request.Request.{Request}
pub use Rattle.prem_isa.specs.Act.{act, goes, list_with_register, phase_after, word_into}
pub use Rattle.prem_isa.specs.Decode.{Fits, cost_of, decode_of}
pub use Rattle.prem_isa.specs.Plain.{left_after, next_input, used_after, with_last}
pub use Rattle.prem_isa.specs.Step.{UpshotFits, act_of, told_by}
pub use Rattle.prem_isa.specs.declared.effect.Access.{Access}
pub use Rattle.prem_isa.specs.declared.effect.AccessKind.TheVariants.{Loads, Stores}
pub use Rattle.prem_isa.specs.declared.effect.Change.TheVariants.{Stay}
pub use Rattle.prem_isa.specs.declared.effect.Effect.{Effect}
pub use Rattle.prem_isa.specs.declared.effect.Phase.{Phase}
pub use Rattle.prem_isa.specs.declared.instr.Instr.{Instr}
pub use Rattle.prem_isa.specs.declared.step.Upshot.{Upshot}
pub use Rattle.prem_list.specs.Sequence.{items_of, room_of}
pub use Rattle.prem_lru.specs.CacheState.{CacheState, IsCache, empty_cache, is_resident, touch_of, view_of}
pub use Rattle.prem_lru.specs.Entries.{ReplacementRule}
pub use Rattle.prem_lru.specs.Rules.{rule_of}
pub use Rattle.prem_plant.specs.declared.plant.Plant.{Plant}
pub use Rattle.prem_plant.specs.declared.plant.Target.{Target}
pub use Rattle.prem_sched.specs.Schedule.{IsReady, starts_of}
pub use Rattle.prem_sched.specs.declared.sched.TaskJobs.{TaskJobs}
pub use Rattle.prem_word.specs.Bytes.{number_at}
pub use Rattle.std.specs.Prelude.{List, ℕ}
