-- What the files of this crate's proofs name of other modules, so that each imports it from one place.
pub use Rattle.prem_cycle.specs.Alone.{ended_after, plain_of}
pub use Rattle.prem_cycle.specs.Core.{CoreMove, CoreTurn, Issues, Passes, attempted, begin_idle, begin_switch, core_issue, core_issued, core_pay, core_turn, is_empty, is_paid, move_chosen}
pub use Rattle.prem_cycle.specs.Core.{move_in, move_of, move_running, moved, new_interval, paid_on_bus, phase_in, stated_after, want_of, window_after, with_cost, with_debt}
pub use Rattle.prem_cycle.specs.Cycle.{Arrivals, arrivals, arrivals_at, arrived, at_point, bus_at, close_interval, core_at, cycle_of, cycle_with, ended_interval, ends_before, is_finish}
pub use Rattle.prem_cycle.specs.Cycle.{is_finished, is_finished_in, is_full, is_over, joined, log_size, move_at, next_cycle, output_count, sched_after, settle, step_of, ticked, with_clash}
pub use Rattle.prem_cycle.specs.Cycle.{with_memory, with_now}
pub use Rattle.prem_cycle.specs.FactsOf.{Report, TaskReport, has_room_for_word, inputs_size, report_of, stop_of, with_input, with_word}
pub use Rattle.prem_cycle.specs.Inputs.{FitsRun, IsRequest, image_run, no_device, setup_of, words_of}
pub use Rattle.prem_cycle.specs.Issue.{Attempt, Executes, Issued, LineTouch, Traps, attempt_behind, attempt_by, attempt_fetched, attempt_in, attempt_of, attempt_seen, behind_touches}
pub use Rattle.prem_cycle.specs.Issue.{effect_in, is_execution, issued_by, issued_with, line_touch, one_if, owed_by, owed_for, write_back, fill, stored_in, task_after, task_changed, task_moved, touched_with}
pub use Rattle.prem_cycle.specs.Issue.{value_of, view_behind, view_touched, with_store, with_touch, with_touches}
pub use Rattle.prem_cycle.specs.Run.{CycleStep, coming_step, did_in, memory_of, run_of, step_by, step_in, step_with, wants_input_of, wants_word}
unfoldable pub use Rattle.prem_cycle.specs.Run.{cycles_of, steps_of}
pub use Rattle.prem_cycle.specs.Runs.Dull.Dull.{AreDull, IsDull, IsNextEvent, OnlyCounts, switch_left, transaction_left, with_switch, with_transaction}
pub use Rattle.prem_cycle.specs.Runs.Dull.Rest.{IsSteady, Rests, Within, bus_passed, bus_rest, core_passed, core_rest, debt_passed, idle_rest, mode_passed, mode_rest, passed, running_rest}
pub use Rattle.prem_cycle.specs.Runs.Dull.Rest.{transactions_passed}
pub use Rattle.prem_cycle.specs.Runs.Inputs.Extended.{with_word_for}
pub use Rattle.prem_cycle.specs.Runs.Inputs.History.{Appends, Begins, History, IsTimely, cycles_in, inputs_in, reads_past_end_in, state_in}
pub use Rattle.prem_cycle.specs.Runs.Inputs.PastEnd.{has_read_past_end, is_past_end, run_reads_past_end}
pub use Rattle.prem_cycle.specs.Runs.Position.Finish.{EndsIn, FinishedAs, FinishesInTime, FinishesOneJob, IsLone, LoneIssuesAsAlone, LoneStandsAsAlone, NeverTraps, data_accesses, due_of}
pub use Rattle.prem_cycle.specs.Runs.Position.Finish.{finish_of, lone, lone_issued, lone_run, run_alone}
pub use Rattle.prem_cycle.specs.Runs.Position.Issued.{AreOwn, InstructionsAreAlone, IsRunOf, IsRunnable, IssuedAsAlone, StandsAsAlone, TasksStandAsAlone, count_of, issued_of}
pub use Rattle.prem_cycle.specs.Runs.Position.Own.{AllOwn, IsFree, IsOwn, IsOwnOutcome, LoadsOwn, StaysOwn, device_of, next_outcome}
pub use Rattle.prem_cycle.specs.Runs.Transfer.Lengths.{EndsInTime, IsOnItsWay, TransfersAreOnTheirWay, TransfersTakeTheirCycles, device_cost}
pub use Rattle.prem_cycle.specs.Runs.Window.Windows.{CarriesInside, CyclesKeepWindows, HaveCosts, InputsKeepWindows, IsQuiet, LiesInside, QuietOutsideExecution, RunsKeepWindows}
pub use Rattle.prem_cycle.specs.Runs.Window.Windows.{WindowCloses, WindowsHold, closing_at, closing_in, is_last}
pub use Rattle.prem_cycle.specs.State.{CoreState, Counts, Debt, Log, MachineState, Setup, Task, Transaction, Work, shorter, first_core, first_list, first_task, first_tasks, no_record, record_of, rule_in}
pub use Rattle.prem_cycle.specs.State.{start_of, task_in}
pub use Rattle.prem_cycle.specs.declared.facts.DeviceFacts.{DeviceFacts}
pub use Rattle.prem_cycle.specs.declared.facts.EndedInterval.{EndedInterval}
pub use Rattle.prem_cycle.specs.declared.state.Interval.{Interval}
pub use Rattle.prem_cycle.specs.declared.state.Mode.{Mode}
pub use Rattle.prem_cycle.specs.declared.state.Mode.TheVariants.{Idle, Point, Running, Switching}
pub use Rattle.prem_cycle.specs.declared.state.Stop.TheVariants.{Limit, LogFull}
pub use Rattle.prem_gate.proofs.Places.{startable_is}
pub use Rattle.prem_gate.proofs.Quiet.{carried_run, changes_same, free_passed, held_has, held_passed, next_none, quiet_carried, quiet_free, quiet_gates, quiet_memory, quiet_turn}
pub use Rattle.prem_gate.specs.Gates.{GateState, GatesState, Turned, after_arrival, bus_free, bus_turn, bus_with, carries, ends, first_gates, first_of, fits, gate_at, gate_of, gates_of}
pub use Rattle.prem_gate.specs.Gates.{goes_on, is_held, memory_after, no_gate, one_less, queued, slot_of, startable, startable_from, starts, taken, waiting_of, wants, with_carried}
pub use Rattle.prem_gate.specs.Gates.{with_gates, with_queue, without_head}
pub use Rattle.prem_gate.specs.Ranges.{IsStart}
pub use Rattle.prem_gate.specs.Stretch.{AreQuiet, BusRun, OnlyGoesOn, StaysAbove, changes, changes_behind, has_changed, is_new, lesser, takes_up, transfer_left, with_transfer}
unfoldable pub use Rattle.prem_gate.specs.Stretch.{bus_run}
pub use Rattle.prem_gate.specs.declared.bus.Carried.{Carried}
pub use Rattle.prem_gate.specs.declared.bus.CoreWant.{CoreWant}
pub use Rattle.prem_gate.specs.declared.bus.CoreWant.TheVariants.{Held, New, No}
pub use Rattle.prem_gate.specs.declared.bus.Transfer.{Transfer}
pub use Rattle.prem_gate.specs.declared.bus.Window.{Window}
pub use Rattle.prem_gate.specs.declared.request.Request.{Request}
pub use Rattle.prem_image.specs.Records.{IsPlaced, IsTask}
pub use Rattle.prem_image.specs.declared.image.DeviceRecord.{DeviceRecord}
pub use Rattle.prem_image.specs.declared.image.TaskRecord.{TaskRecord}
pub use Rattle.prem_isa.proofs.ActLaws.{act_fits, act_lawful, act_same, cost_bounds, fetch_same}
pub use Rattle.prem_isa.proofs.PlainLaws.{did_cost, fetch_fits, plain_fits, plain_run-add, plain_stays, plain_steps-next, plain_trace-add, with_last-append}
pub use Rattle.prem_isa.specs.Act.{act, fetch, first_registers, list_with_register, phase_after, with_register, with_stored}
pub use Rattle.prem_isa.specs.Bounds.{AccessMatches, EffectFits, EffectLawful, IsLawful, IsSize, OnDone, SameAccess, SameBytes, SameLoaded}
pub use Rattle.prem_isa.specs.Decode.{Fits, cost_of, greatest_cost}
pub use Rattle.prem_isa.specs.Plain.{Did, PlainState, RunFits, StateFits, TaskRun, after_change, after_outcome, did_fetched, did_of, did_with, is_running, left_after, moved_by, next_input}
pub use Rattle.prem_isa.specs.Plain.{outcome_of, plain_did, plain_run, plain_start, plain_step, used_after, with_last}
unfoldable pub use Rattle.prem_isa.specs.Plain.{plain_steps, plain_trace}
pub use Rattle.prem_isa.specs.declared.effect.Access.{Access}
pub use Rattle.prem_isa.specs.declared.effect.Cause.{Cause}
pub use Rattle.prem_isa.specs.declared.effect.Cause.TheVariants.{Decode}
pub use Rattle.prem_isa.specs.declared.effect.Change.{Change}
pub use Rattle.prem_isa.specs.declared.effect.Change.TheVariants.{End, Execute, Job, Memory, Stay}
pub use Rattle.prem_isa.specs.declared.effect.Effect.{Effect}
pub use Rattle.prem_isa.specs.declared.effect.Outcome.{Outcome}
pub use Rattle.prem_isa.specs.declared.effect.Outcome.TheVariants.{Done, Trap}
pub use Rattle.prem_isa.specs.declared.effect.Phase.{Phase}
pub use Rattle.prem_isa.specs.declared.effect.Phase.TheVariants.{Compatible, Execution}
pub use Rattle.prem_isa.specs.declared.effect.Stored.{Stored}
pub use Rattle.prem_isa.specs.declared.instr.Instr.{Instr}
pub use Rattle.prem_lru.proofs.Numbers.{length-bytes_of, put_above, put_below}
pub use Rattle.prem_lru.proofs.Stores.{apart_bytes, store_clean, store_kept, store_resident, store_view}
pub use Rattle.prem_lru.specs.CacheState.{CacheState, IsCache, IsClean, IsSet, Touched, byte_in, empty_cache, entry_of, is_resident, touch_of, view_of}
pub use Rattle.prem_lru.specs.Entries.{Entry, ReplacementRule, find_line, to_front}
pub use Rattle.prem_lru.specs.Rules.{IsRule}
pub use Rattle.prem_lru.specs.Splice.{bytes_of, spliced}
pub use Rattle.prem_plant.specs.Ranges.{IsPlant}
pub use Rattle.prem_plant.specs.declared.plant.Device.{Device}
pub use Rattle.prem_plant.specs.declared.plant.Plant.{Plant}
pub use Rattle.prem_plant.specs.declared.plant.Replacement.TheVariants.{Fifo, Lru}
pub use Rattle.prem_plant.specs.declared.plant.Target.{Target}
pub use Rattle.prem_plant.specs.declared.plant.Target.TheVariants.{Rv32i, Rv32im}
pub use Rattle.prem_sched.proofs.Choices.{FirstReady, choice_done, first_found, least_later, least_none, ready_left}
pub use Rattle.prem_sched.specs.Schedule.{Before, IsDone, choice, earlier, first_ready, has_jobs_left, is_ready, job_ended, least_release, no_task, released, rest, run_or, starts_of}
pub use Rattle.prem_sched.specs.Schedule.{task_at, with_job}
pub use Rattle.prem_sched.specs.declared.sched.Choice.{Choice}
pub use Rattle.prem_sched.specs.declared.sched.Choice.TheVariants.{Finished, Run}
pub use Rattle.prem_sched.specs.declared.sched.TaskJobs.{TaskJobs}
pub use Rattle.std.proofs.Common.{Bool, List, Option, false, true, ℕ}
pub use Rattle.std.proofs.Math.Nat.{div-lt_iff_lt-mul, lt-div-mul-add}
pub use Rattle.std.proofs.lemmas.Bool.{and_parts, cases_Bool, cases_eq, cases_lt, cond_both, le-ltb, leb-false, leb-true, lt-leb, lt-ltb, ltb-false, ltb-true, ne_eqb}
pub use Rattle.std.proofs.lemmas.Bool.Decides.{nat_tests}
pub use Rattle.std.proofs.lemmas.List.{get_or-map, get_or-set_other, get_or-set_same, get_or_past, length-append, length-map, length-replicate, length-set, length_push, set_past}
pub use Rattle.std.proofs.lemmas.List.Elements.{All-head, All-nil, All-push, All-set, All-tail}
pub use Rattle.std.proofs.lemmas.List.Folds.{list_any-append}
pub use Rattle.std.proofs.lemmas.List.Sums.{sum_by-append, sum_by-cons, sum_by-set}
pub use Rattle.std.proofs.lemmas.Nat.{div-add-mod', mod-mul-add, mul-le}
pub use Rattle.std.specs.List.{list_any}
pub use Rattle.std.specs.Prelude.{All, Err, Ok, Result, codes, is_some, nat_lt, option_map, slice_get, slice_index, slice_index_or, slice_set, sum_by, unwrap_or}
