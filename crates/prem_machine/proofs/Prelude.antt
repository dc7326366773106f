-- What the files of this crate's proofs name of other modules, so that each imports it from one place.
pub use Rattle.prem_cycle.proofs.RunLaws.{cycles_of-add, cycles_of-over, step_of-goes, step_of-stays}
pub use Rattle.prem_cycle.proofs.RunsLemmas.DullLemmas.Alone.{issues_alone, joined_alone}
pub use Rattle.prem_cycle.proofs.RunsLemmas.DullLemmas.Dull.{dull_rest}
pub use Rattle.prem_cycle.proofs.RunsLemmas.DullLemmas.Stretch.{fewer_rest, made, none_arrives, one_step, rests_dull, state_with, steady_later}
pub use Rattle.prem_cycle.proofs.RunsLemmas.WindowLemmas.Cycles.{cycle_holds, run_holds}
pub use Rattle.prem_cycle.proofs.Time.{goes_untrapped}
pub use Rattle.prem_cycle.specs.Core.{CoreMove, CoreTurn, Issues, Passes, begin_switch, core_issue, core_issued, core_pay, core_turn, is_paid, move_chosen, move_in, move_of, move_running}
pub use Rattle.prem_cycle.specs.Core.{new_interval, paid_on_bus, phase_in, want_of}
pub use Rattle.prem_cycle.specs.Cycle.{Arrivals, arrivals, arrivals_at, arrived, at_point, bus_at, close_interval, core_at, cycle_of, dropped_after, ends_before, is_finished, is_full}
pub use Rattle.prem_cycle.specs.Cycle.{is_over, is_overrun, joined, log_size, move_at, next_cycle, output_count, settle, step_of, ticked, with_clash, with_memory, with_now}
pub use Rattle.prem_cycle.specs.FactsOf.{Report, TaskReport, devices_reported, inputs_size, report_in, report_of, stop_of, stop_trapped, task_report, tasks_reported, with_word}
pub use Rattle.prem_cycle.specs.Inputs.{FitsRun, IsShortTrace, image_run, no_device, setup_of, words_of}
pub use Rattle.prem_cycle.specs.Issue.{Attempt, Executes, Issued, LineTouch, Traps, attempt_behind, attempt_fetched, attempt_in, attempt_of, attempt_seen, behind_touches, effect_in}
pub use Rattle.prem_cycle.specs.Issue.{is_execution, is_memory, issued_by, issued_with, one_if, owed_by, stored_in, task_after, task_changed, task_moved, touched_with, value_of, view_behind}
pub use Rattle.prem_cycle.specs.Issue.{view_touched, with_store, with_touch, with_touches, attempt_by}
pub use Rattle.prem_cycle.specs.Run.{CycleStep, step_by, step_in, step_with, wants_input_of, wants_word}
unfoldable pub use Rattle.prem_cycle.specs.Run.{cycles_of}
pub use Rattle.prem_cycle.specs.Runs.Dull.Dull.{AreDull, IsDull, IsNextEvent}
pub use Rattle.prem_cycle.specs.Runs.Dull.Issuing.{IssuesAlone, continues, idle_turn, issue_joined}
pub use Rattle.prem_cycle.specs.Runs.Dull.Rest.{IsSteady, NoneArrive, Rests, Within, bus_rest, core_rest, mode_rest, passed, running_rest, transactions_passed}
pub use Rattle.prem_cycle.specs.Runs.Window.Wants.{lacks_word, wants_in}
pub use Rattle.prem_cycle.specs.Runs.Window.Windows.{WindowCloses, WindowsHold, closing_at}
pub use Rattle.prem_cycle.specs.State.{CoreState, Counts, Debt, Log, MachineState, Setup, Task, Transaction, Work, shorter, first_log, first_task, first_tasks, no_debt, no_record, record_of, rule_in, task_in}
pub use Rattle.prem_cycle.specs.declared.facts.DeviceFacts.{DeviceFacts}
pub use Rattle.prem_cycle.specs.declared.facts.Facts.{Facts}
pub use Rattle.prem_cycle.specs.declared.facts.TaskFacts.{TaskFacts}
pub use Rattle.prem_cycle.specs.declared.state.Interval.{Interval}
pub use Rattle.prem_cycle.specs.declared.state.Mode.{Mode}
pub use Rattle.prem_cycle.specs.declared.state.Mode.TheVariants.{Idle, Point, Switching}
pub use Rattle.prem_cycle.specs.declared.state.Trap.{Trap}
pub use Rattle.prem_gate.proofs.Places.{startable_is, turn_places}
pub use Rattle.prem_gate.proofs.Quiet.{carried_run, free_passed, held_passed, no_core, quiet_carried, quiet_turn}
pub use Rattle.prem_gate.specs.Gates.{GateState, GatesState, Turned, bus_free, bus_turn, bus_with, carries, carries_for, ends, gate_at, gate_of, gates_of, goes_on, is_held, no_gate}
pub use Rattle.prem_gate.specs.Gates.{startable, starts, taken, waiting_of, wants, with_carried, without_head, without_transfer}
pub use Rattle.prem_gate.specs.Ranges.{HasLine, IsStart, LiesIn, SamePlaces}
pub use Rattle.prem_gate.specs.Stretch.{AreQuiet, BusRun, IsNextChange, changes, transfer_left, with_turn}
unfoldable pub use Rattle.prem_gate.specs.Stretch.{bus_run}
pub use Rattle.prem_gate.specs.declared.bus.BusTurn.{BusTurn}
pub use Rattle.prem_gate.specs.declared.bus.Carried.{Carried}
pub use Rattle.prem_gate.specs.declared.bus.CoreWant.{CoreWant}
pub use Rattle.prem_gate.specs.declared.bus.CoreWant.TheVariants.{Held, New, No}
pub use Rattle.prem_gate.specs.declared.bus.Window.{Window}
pub use Rattle.prem_gate.specs.declared.request.Request.{Request}
pub use Rattle.prem_image.specs.declared.image.DeviceRecord.{DeviceRecord}
pub use Rattle.prem_image.specs.declared.image.TaskRecord.{TaskRecord}
pub use Rattle.prem_isa.proofs.ActLaws.{act_fits, pc_aligned}
pub use Rattle.prem_isa.specs.Act.{act, fetch, fetched, list_with_register, loads, phase_after, stores}
pub use Rattle.prem_isa.specs.Alu.{load_size, plus, store_size}
pub use Rattle.prem_isa.specs.Bounds.{AccessMatches, EffectFits, GoesAligned, IsPlaced, OnDone}
pub use Rattle.prem_isa.specs.Decode.{Fits, cost_of, custom, decode_of, op_imm, operation, system}
pub use Rattle.prem_isa.specs.Fields.{fields_of, high_of, imm_b, imm_i, imm_j, imm_s, imm_u, signed}
pub use Rattle.prem_isa.specs.Plain.{left_after, next_input, used_after, with_last}
pub use Rattle.prem_isa.specs.Step.{UpshotFits, act_of, told_by}
pub use Rattle.prem_isa.specs.declared.effect.Access.{Access}
pub use Rattle.prem_isa.specs.declared.effect.Cause.{Cause}
pub use Rattle.prem_isa.specs.declared.effect.Cause.TheVariants.{Align, Outside}
pub use Rattle.prem_isa.specs.declared.effect.Change.{Change}
pub use Rattle.prem_isa.specs.declared.effect.Change.TheVariants.{End, Execute, Job, Memory, Stay}
pub use Rattle.prem_isa.specs.declared.effect.DataLoad.{DataLoad}
pub use Rattle.prem_isa.specs.declared.effect.Effect.{Effect}
pub use Rattle.prem_isa.specs.declared.effect.Outcome.{Outcome}
pub use Rattle.prem_isa.specs.declared.effect.Outcome.TheVariants.{Done}
pub use Rattle.prem_isa.specs.declared.effect.Phase.{Phase}
pub use Rattle.prem_isa.specs.declared.effect.Stored.{Stored}
pub use Rattle.prem_isa.specs.declared.instr.Instr.{Instr}
pub use Rattle.prem_isa.specs.declared.instr.Instr.TheVariants.{Auipc, Branch, Ebreak, Ecall, Fence, Jal, Jalr, Load, Lui, MulDiv, Op, OpImm, PmDone, PmEnd, PmExec, PmIn, PmMem, PmOut}
pub use Rattle.prem_isa.specs.declared.instr.Instr.TheVariants.{Store}
pub use Rattle.prem_isa.specs.declared.step.Upshot.{Upshot}
pub use Rattle.prem_isa.specs.declared.step.Upshot.TheVariants.{Loads, Moves, Puts, Stores}
pub use Rattle.prem_list.specs.Sequence.{items_of, room_of}
pub use Rattle.prem_list.specs.declared.Sequence.{Sequence}
pub use Rattle.prem_lru.proofs.Caches.{access_within, line_within}
pub use Rattle.prem_lru.proofs.RuleKinds.{kind_rule}
pub use Rattle.prem_lru.proofs.Shapes.{touch_kept}
pub use Rattle.prem_lru.proofs.Touches.{entry_same, length-touch}
pub use Rattle.prem_lru.specs.CacheState.{CacheState, IsCache, Touched, is_resident, set_of, store_of, touch_of, touched_by, view_of, with_set}
pub use Rattle.prem_lru.specs.Entries.{Entry, ReplacementRule, brought_in, find_line, hit_in, last_entry, replaced, touch_set, write_line}
pub use Rattle.prem_lru.specs.Rules.{IsRule, rule_of}
pub use Rattle.prem_lru.specs.Settled.{IsSettled}
pub use Rattle.prem_machine.specs.Deliveries.{RunsSilently}
pub use Rattle.prem_machine.specs.Hits.{ComesTo, Finds, HitsAreCycles, IsHit, IsNext, IsStep, Leads, LeadsTo, Reaches, Spot, count_of, counts_at, here, hit_of, lines_of, lines_there}
pub use Rattle.prem_machine.specs.Hits.{spot_at, spot_in, state_at, stores_in, then_hits, work_at}
pub use Rattle.prem_machine.specs.Issue.Attempts.{ActedIn, CanIssue, HasActed, attempt_as, is_load}
pub use Rattle.prem_machine.specs.Issue.Coming.{IsExecuted, cost_at, load_access, load_effect}
pub use Rattle.prem_machine.specs.Issue.Cores.{CoreParts, CoreTurned, backs_in, change_from, core_attempt, core_issues, core_loaded, core_turned, hits_in, led_by, misses_in, tallied}
pub use Rattle.prem_machine.specs.Issue.Cores.{task_followed}
pub use Rattle.prem_machine.specs.Issue.Counting.{counts_in}
pub use Rattle.prem_machine.specs.Issue.Fields.{core_task}
pub use Rattle.prem_machine.specs.Issue.Harts.{given}
pub use Rattle.prem_machine.specs.Issue.Near.{IsNear, left_line, no_line}
pub use Rattle.prem_machine.specs.Issue.Tasks.{moved_but_output, with_outputs}
pub use Rattle.prem_machine.specs.Log.{CountsWithin, SameRoom, arrivals_in, dropped_in, ended_in, ended_of, log_in, outputs_in, put_out}
pub use Rattle.prem_machine.specs.MachineFields.{IsMachine, running_of}
pub use Rattle.prem_machine.specs.Moment.{ModeReady, awake_at, awake_in, core_owing, core_settled, core_with, log_settled, move_as, over_at, over_in, sched_settled}
pub use Rattle.prem_machine.specs.Owed.{bus_cycles, cycles_owed, first_of, left_before}
pub use Rattle.prem_machine.specs.Parts.{HasRooms, IsSetting, Runs, Stands, state_of}
pub use Rattle.prem_machine.specs.Passing.{IsNextArrival, RestsUpTo, cycle_behind}
pub use Rattle.prem_machine.specs.Plain.{GoesOn, IsComing, IsKept, moving, putting, storing}
pub use Rattle.prem_machine.specs.Requests.{HaveArrived, one_carried, pending}
pub use Rattle.prem_machine.specs.Silent.{AreSilent, ended_so_far}
pub use Rattle.prem_machine.specs.Start.{IsFresh, StartsAs, nothing_told}
pub use Rattle.prem_machine.specs.States.{Running, with_state}
pub use Rattle.prem_machine.specs.Stretch.{IsLone}
pub use Rattle.prem_machine.specs.Wanted.{attempt_at, core_in, is_taking, issuing_in, lacking, takes_word}
pub use Rattle.prem_machine.specs.Work.{MoveIn, setup_in, tasks_in, turn_of_issue, turn_of_move, with_counts, work_in}
pub use Rattle.prem_machine.specs.declared.hits.followed.Followed.{Followed}
pub use Rattle.prem_machine.specs.declared.issue.task.TaskCore.TheInside.{Inside}
pub use Rattle.prem_machine.specs.declared.moment.Moment.{Moment}
pub use Rattle.prem_machine.specs.declared.moment.Move.{Move}
pub use Rattle.prem_machine.specs.declared.parts.Parts.{Parts}
pub use Rattle.prem_machine.specs.declared.plain.Plain.{Plain}
pub use Rattle.prem_machine.specs.declared.work.Setting.{Setting}
pub use Rattle.prem_machine.specs.declared.work.Works.{Works}
pub use Rattle.prem_plant.specs.Ranges.{HasDeviceNumbers, IsDevice, IsPlant}
pub use Rattle.prem_plant.specs.declared.plant.Device.{Device}
pub use Rattle.prem_plant.specs.declared.plant.Plant.{Plant}
pub use Rattle.prem_plant.specs.declared.plant.Target.{Target}
pub use Rattle.prem_sched.specs.Schedule.{IsReady, IsTask, is_ready, job_ended, no_task, start_of, starts_of, task_at, with_job}
pub use Rattle.prem_sched.specs.declared.sched.TaskJobs.{TaskJobs}
pub use Rattle.prem_word.specs.Bytes.{number_at}
pub use Rattle.std.proofs.Common.{Option, Some, ap, arith, get_or, length, refl, subst, sym, ℕ, ◌∙◌}
pub use Rattle.std.proofs.Math.Seq.{map-set_same}
pub use Rattle.std.proofs.lemmas.Bool.{cases_lt, cond_both, eq-eqb}
pub use Rattle.std.proofs.lemmas.Bool.Decides.{nat_tests}
pub use Rattle.std.proofs.lemmas.List.{drop_more, get_or-drop, get_or-map, get_or-set_same, get_or-take, get_or_default, length-drop, length-map, length-set, length-take-le, length_push}
pub use Rattle.std.proofs.lemmas.List.{map-set, set-get_or, set-set, take-append-drop, with_items_is}
pub use Rattle.std.proofs.lemmas.List.Sums.{sum_by-cons, sum_by-set}
pub use Rattle.std.proofs.lemmas.Nat.{div-add-mod', le-div, mul-le}
pub use Rattle.std.specs.Bool.{then_some}
pub use Rattle.std.specs.List.Sorted.{IsNonDecreasingBy}
pub use Rattle.std.specs.Prelude.{IfNone, IfSome, IsSome, IsTrue, is_some, min, nat_le, nat_lt, replicate, slice_index, slice_index_or, slice_set}
