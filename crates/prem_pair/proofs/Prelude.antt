-- What the files of this crate's proofs name of other modules, so that each imports it from one place.
pub use Rattle.prem_cycle.proofs.CoreCases.{Continues, MoveCase, begins, begins_idle, chooses, chooses_now, has_finished, idles, is_denied, move_cases, pays_cost, pays_on_bus, switches}
pub use Rattle.prem_cycle.proofs.CoreCases.{waits}
pub use Rattle.prem_cycle.proofs.CycleParts.{settle_keeps}
pub use Rattle.prem_cycle.proofs.Images.{alone, bytes_in, device, marked, put, without_prefetch}
pub use Rattle.prem_cycle.proofs.RunsLemmas.DullLemmas.Steps.{move_free, move_next, move_wants, not_empty, not_ended, passed_by, passed_is, settle_stays, unpaid, want_passed, within_less}
pub use Rattle.prem_cycle.proofs.RunsLemmas.DullLemmas.Stretch.{finished_none, none_arrives, state_with, zero_by}
pub use Rattle.prem_cycle.proofs.RunsLemmas.PositionLemmas.Gated.{AreGates, Turns, arrivals_gates, bus_turns, written_keeps}
pub use Rattle.prem_cycle.proofs.RunsLemmas.PositionLemmas.MayMoves.{MayMoveIn, does, stands_still, turn_with}
pub use Rattle.prem_cycle.proofs.RunsLemmas.PositionLemmas.Turns.{Runs, bump_move, issuing}
pub use Rattle.prem_cycle.specs.Core.{CoreMove, CoreTurn, Issues, Passes, core_issue, core_issued, core_pay, core_turn, is_empty, is_paid, move_chosen, move_in, move_of, paid_on_bus}
pub use Rattle.prem_cycle.specs.Core.{phase_in, want_of}
pub use Rattle.prem_cycle.specs.Cycle.{Arrivals, arrivals, arrivals_at, arrived, at_point, close_interval, ends_before, is_finish, is_finished, is_finished_in, is_full, joined, log_size}
pub use Rattle.prem_cycle.specs.Cycle.{move_at, next_cycle, settle, ticked, with_clash, with_memory, with_now}
pub use Rattle.prem_cycle.specs.FactsOf.{Report, devices_reported, report_of}
pub use Rattle.prem_cycle.specs.Inputs.{IsRequest, IsTrace, image_run, no_device, setup_of, words_of}
pub use Rattle.prem_cycle.specs.Issue.{LineTouch, is_execution, issued_by, one_if, owed_by, task_after}
pub use Rattle.prem_cycle.specs.Run.{memory_of}
unfoldable pub use Rattle.prem_cycle.specs.Run.{cycles_of}
pub use Rattle.prem_cycle.specs.Runs.Dull.Rest.{NoneArrive, Within, core_passed, core_rest, mode_passed, mode_rest}
pub use Rattle.prem_cycle.specs.Runs.Position.Own.{IsFree, device_of}
pub use Rattle.prem_cycle.specs.State.{CoreState, Counts, Debt, Log, MachineState, Setup, Task, Transaction, Work, no_debt, record_of, rule_in, task_in}
pub use Rattle.prem_cycle.specs.declared.facts.DeviceFacts.{DeviceFacts}
pub use Rattle.prem_cycle.specs.declared.state.Mode.{Mode}
pub use Rattle.prem_cycle.specs.declared.state.Mode.TheVariants.{Idle, Point, Running, Switching}
pub use Rattle.prem_cycle.specs.declared.state.Trap.{Trap}
pub use Rattle.prem_gate.proofs.Places.{startable_is, turn_places}
pub use Rattle.prem_gate.proofs.Quiet.{next_held, next_none, no_core, quiet_free, quiet_gates, quiet_memory, quiet_turn}
pub use Rattle.prem_gate.specs.Gates.{GateState, GatesState, Turned, after_arrival, bus_free, bus_turn, bus_with, carries, ends, first_of, fits, gate_at, gate_of, gates_of, goes_on, is_held}
pub use Rattle.prem_gate.specs.Gates.{no_gate, queued, start_of, startable, startable_from, starts, taken, wants, with_carried, with_gates, with_queue, without_head}
pub use Rattle.prem_gate.specs.Ranges.{HasLine, IsStart, LiesIn, SamePlaces}
pub use Rattle.prem_gate.specs.Stretch.{AreQuiet, BusRun, IsNextChange, OnlyGoesOn, changes, fits_any, is_new, least_cost, transfer_left, with_transfer}
unfoldable pub use Rattle.prem_gate.specs.Stretch.{bus_run}
pub use Rattle.prem_gate.specs.declared.bus.BusTurn.{BusTurn}
pub use Rattle.prem_gate.specs.declared.bus.Carried.{Carried}
pub use Rattle.prem_gate.specs.declared.bus.CoreWant.{CoreWant}
pub use Rattle.prem_gate.specs.declared.bus.CoreWant.TheVariants.{Held, New, No}
pub use Rattle.prem_gate.specs.declared.bus.Transfer.{Transfer}
pub use Rattle.prem_gate.specs.declared.bus.Window.{Window}
pub use Rattle.prem_gate.specs.declared.request.Request.{Request}
pub use Rattle.prem_image.specs.Records.{IsPlaced, area_of}
pub use Rattle.prem_isa.specs.Plain.{TaskRun, with_last}
pub use Rattle.prem_isa.specs.declared.effect.Change.{Change}
pub use Rattle.prem_isa.specs.declared.effect.Change.TheVariants.{End, Execute, Job, Memory, Stay}
pub use Rattle.prem_list.specs.Sequence.{items_of}
pub use Rattle.prem_lru.specs.Entries.{ReplacementRule, to_front}
pub use Rattle.prem_machine.proofs.Advancing.{counts_settled, few_kept, mode_later, rooms_kept, rooms_left, same_log, same_state, same_tasks, told_again, told_still, transfers-log_settled}
pub use Rattle.prem_machine.proofs.IssueLemmas.Nearness.{near_none}
pub use Rattle.prem_machine.proofs.Resting.{SameQueues, arrived_after, behind_from, behind_within, core_within, counts_more, less_arrive, mode_after, next_some, quiet_queues, unclashed}
pub use Rattle.prem_machine.proofs.Settling.{settle_parts}
pub use Rattle.prem_machine.proofs.Starting.{runs_first, setting_first, stands_first, state_first}
pub use Rattle.prem_machine.proofs.Stretching.{behind, has_room, rooms_there}
pub use Rattle.prem_machine.proofs.Telling.{full_told}
pub use Rattle.prem_machine.specs.Issue.Cores.{CoreParts, paid_once}
pub use Rattle.prem_machine.specs.Issue.Counting.{counts_in}
pub use Rattle.prem_machine.specs.Issue.Near.{IsNear}
pub use Rattle.prem_machine.specs.Log.{CountsWithin, arrivals_in, dropped_in, ended_in, log_in, put_out}
pub use Rattle.prem_machine.specs.Moment.{ModeReady, core_owing, core_with, over_in}
pub use Rattle.prem_machine.specs.Parts.{IsSetting, Stands, state_of}
pub use Rattle.prem_machine.specs.Passing.{IsNextArrival, cycle_behind}
pub use Rattle.prem_machine.specs.Plain.{GoesOn, IsKept}
pub use Rattle.prem_machine.specs.Work.{setup_in, work_in}
pub use Rattle.prem_machine.specs.declared.moment.Moment.{Moment}
pub use Rattle.prem_machine.specs.declared.parts.Parts.{Parts}
pub use Rattle.prem_machine.specs.declared.work.Setting.{Setting}
pub use Rattle.prem_pair.specs.BothOf.{AreBoth, GoOn, bus_in, holder_in, pair_of}
pub use Rattle.prem_pair.specs.Cycles.Apart.{AreApart, own_cycle, own_part}
pub use Rattle.prem_pair.specs.Cycles.Own.{IsGoing, MayRunApart, OwnCycle, OwnRun, no_cycle, one_more}
pub use Rattle.prem_pair.specs.Cycles.Pair.{PairState, acted, both_finished, both_ticked, bus_first, bus_for, bus_second, clashes, ended_in_place, first_acted, first_done, full_stop}
pub use Rattle.prem_pair.specs.Cycles.Pair.{holder_at, is_pair_over, move_under, no_arrivals, one_full, one_trapped, pair_cycle, pair_cycle_with, pair_run, pair_start, pair_step}
pub use Rattle.prem_pair.specs.Cycles.Pair.{pair_stop_of, second_acted, second_done, trap_stop}
unfoldable pub use Rattle.prem_pair.specs.Cycles.Pair.{pair_cycles}
pub use Rattle.prem_pair.specs.Cycles.Rest.{IsSteadyPair, PairRests, core_passed_with, pair_passed, rest_with, side_passed, stays_with, turns_passed, waiting_rest, wanted}
pub use Rattle.prem_pair.specs.Cycles.Token.{asks, asks_in, empty_window, frees, frees_in, given, holder_after, holder_with, is_execute, is_first, is_gates, is_run, is_second}
pub use Rattle.prem_pair.specs.Cycles.Token.{longest_transfer, some_wait, two_want, want_with, window_given, window_got}
pub use Rattle.prem_pair.specs.Laws.PairSound.{GivesScripts, HasTotals, PairGood, PairRoomIsFoundInOrder, PairsAreGood, PairsFinish, PairsFinishByTotals, PairsOfImagesAreSound, ScriptsFor}
pub use Rattle.prem_pair.specs.Laws.PairSound.{all_costs, cost_of_request, due_of, last_request, pair_coming, pair_limit, total_of}
unfoldable pub use Rattle.prem_pair.specs.Laws.PairSound.{pair_queued}
pub use Rattle.prem_pair.specs.MayStretch.{MayStretch, cycles_taken}
pub use Rattle.prem_pair.specs.PairFields.{running_of}
pub use Rattle.prem_pair.specs.Sides.{Arrives, Goes, bus_done, core_done, move_had}
pub use Rattle.prem_pair.specs.States.{PairRunning, with_state}
pub use Rattle.prem_pair.specs.declared.both.Both.{Both}
pub use Rattle.prem_pair.specs.declared.cycles.state.Holder.{Holder}
pub use Rattle.prem_pair.specs.declared.cycles.state.Holder.TheVariants.{First, Gates, Nobody, Second}
pub use Rattle.prem_pair.specs.declared.cycles.state.PairStop.{PairStop}
pub use Rattle.prem_pair.specs.declared.cycles.state.PairStop.TheVariants.{Finished, Limit, LogFull}
pub use Rattle.prem_plant.specs.Order.Order.{OrderRule, lru, one_pass}
pub use Rattle.prem_plant.specs.Ranges.{IsPlant}
pub use Rattle.prem_sched.specs.Schedule.{IsReady, choice, first_ready, least_release, rest, run_or}
pub use Rattle.prem_sched.specs.declared.sched.Choice.TheVariants.{Run}
pub use Rattle.prem_sched.specs.declared.sched.TaskJobs.{TaskJobs}
pub use Rattle.prem_sound.proofs.Lasting.{Lasts, core_lasts, start_lasts}
pub use Rattle.prem_sound.proofs.ResidentLemmas.Facing.{Comes, Faces, KnownCore, Meets, comes, core_keeps, core_known, faces, start_faultless}
pub use Rattle.prem_sound.proofs.ResidentLemmas.Needs.{IssuesSo, NeedsIn, TurnNeeds, core_turns, may_miss, needs_in, start_needs, ticked_needs}
pub use Rattle.prem_sound.proofs.ServeLemmas.Queues.{arrivals_carried, arrivals_queue, held, queue_at, start_held, turn_held}
pub use Rattle.prem_sound.proofs.Spends.{off_after, off_behind}
pub use Rattle.prem_sound.proofs.Timing.{Timed, core_before, core_most, core_off, core_room, core_timed, first_no, start_timed}
pub use Rattle.prem_sound.specs.Resident.Faultless.{IsPolicy}
pub use Rattle.prem_sound.specs.Script.Script.{Script}
pub use Rattle.prem_sound.specs.Script.Scripts.{AreKept, AreScripts, Promise, last_release}
pub use Rattle.prem_sound.specs.Serve.Requests.{AreAmong, GetsLastPuts, PutWords, asked_before, asked_of, carried_of, found_room, held_of, transferred_of}
pub use Rattle.prem_sound.specs.Sound.{IsRun}
pub use Rattle.std.proofs.Common.{ap, sym, ◌∙◌}
pub use Rattle.std.proofs.lemmas.Bool.{cases_Bool, cases_eq, cases_lt, cond_both, eq-eqb, le-leb, le-ltb, leb-false, lt-leb, lt-ltb, ne_eqb}
pub use Rattle.std.proofs.lemmas.Bool.Decides.{nat_tests}
pub use Rattle.std.proofs.lemmas.List.{append-nil, append_assoc, get_or-set_other, get_or-set_same, length-set, with_items_is}
pub use Rattle.std.proofs.lemmas.List.Elements.{All-head, All-nil, All-tail, filter-append}
pub use Rattle.std.proofs.lemmas.List.Sums.{sum_by-append, sum_by-cons, sum_by-set}
pub use Rattle.std.specs.Prelude.{IfNone, IsSome, is_some, max, min, slice_index_or}
