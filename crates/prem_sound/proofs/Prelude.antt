-- What the files of this crate's proofs name of other modules, so that each imports it from one place.
pub use Rattle.prem_cycle.proofs.CoreCases.{Closes, Continues, MoveCase, begins, begins_idle, chooses, chooses_now, goes_on, has_finished, idles, is_denied, move_cases, pays_cost}
pub use Rattle.prem_cycle.proofs.CoreCases.{pays_on_bus, switches, waits}
pub use Rattle.prem_cycle.proofs.CycleParts.{cycle_gates, cycle_work, settle_keeps}
pub use Rattle.prem_cycle.proofs.Images.{alone, bytes_in, device, marked, plant, put, run, task}
pub use Rattle.prem_cycle.proofs.RunsLemmas.PositionLemmas.Debts.{ArePositive, PaysOne, none_wanted, owed_positive, paid_is, paid_none, pays_one, total, wants_none}
pub use Rattle.prem_cycle.proofs.RunsLemmas.PositionLemmas.Gated.{AreGates, IsLine, arrivals_gates}
pub use Rattle.prem_cycle.proofs.RunsLemmas.PositionLemmas.Issues.{issuing_did}
pub use Rattle.prem_cycle.proofs.RunsLemmas.PositionLemmas.MayMoves.{MayMove, MayMoveIn, does, may_schedule, stands_still, turn_with}
pub use Rattle.prem_cycle.proofs.RunsLemmas.PositionLemmas.Positions.{run_stands}
pub use Rattle.prem_cycle.proofs.RunsLemmas.PositionLemmas.Runs.{AllAt, IsIssued, count_move, issued_move, keeps_of, runs_of}
pub use Rattle.prem_cycle.proofs.RunsLemmas.PositionLemmas.Schedules.{GoesOn, Moves, Schedules, ends_job, moves}
pub use Rattle.prem_cycle.proofs.RunsLemmas.PositionLemmas.Stands.{IsAt, Issuing, Stands, bump, bump_other, bump_same, stored_out}
pub use Rattle.prem_cycle.proofs.RunsLemmas.PositionLemmas.Turns.{BusKeeps, Position, Runs, bump_move, bus_stands, issuing, moved_position, ticked_position}
pub use Rattle.prem_cycle.proofs.RunsLemmas.PositionLemmas.Works.{IsKept, Issue, kept_plant, line_in}
pub use Rattle.prem_cycle.proofs.RunsLemmas.WindowLemmas.Bus.{arrivals_inside, none_inside}
pub use Rattle.prem_cycle.proofs.RunsLemmas.WindowLemmas.Cycles.{CoreCloses, run_holds, ticked_closes}
pub use Rattle.prem_cycle.proofs.RunsLemmas.WindowLemmas.Moves.{MayIssue, TurnCloses, turn_closes}
pub use Rattle.prem_cycle.proofs.Time.{run_of-now}
pub use Rattle.prem_cycle.specs.Core.{CoreMove, CoreTurn, Issues, Passes, attempted, core_issue, core_turn, is_paid, is_predictable, moved, new_interval, paid_on_bus, phase_in, stated_after}
pub use Rattle.prem_cycle.specs.Core.{want_of, window_after}
pub use Rattle.prem_cycle.specs.Cycle.{Arrivals, arrivals, arrivals_at, arrived, at_point, bus_at, close_interval, core_at, cycle_of, cycle_with, ended_interval, ends_before, is_finish}
pub use Rattle.prem_cycle.specs.Cycle.{is_finished, is_finished_in, is_over, is_overrun, joined, log_size, move_at, next_cycle, output_count, settle, step_of, ticked, with_clash}
pub use Rattle.prem_cycle.specs.Cycle.{with_memory, with_now}
pub use Rattle.prem_cycle.specs.Inputs.{IsRequest, IsTrace, no_device}
pub use Rattle.prem_cycle.specs.Issue.{Attempt, Executes, Issued, LineTouch, Traps, attempt_behind, attempt_by, attempt_fetched, attempt_in, is_execution, issued_by, issued_with, one_if}
pub use Rattle.prem_cycle.specs.Issue.{owed_by, owed_for, write_back, fill, stored_in, task_after, with_store, with_touch, with_touches}
pub use Rattle.prem_cycle.specs.Run.{CycleStep, coming_step, memory_of, run_of, step_with}
unfoldable pub use Rattle.prem_cycle.specs.Run.{cycles_of, steps_of}
pub use Rattle.prem_cycle.specs.Runs.Position.Finish.{accesses_of, data_accesses, due_of, run_alone}
pub use Rattle.prem_cycle.specs.Runs.Position.Issued.{AreOwn, IsRunOf, IsRunnable, count_of, issued_of}
pub use Rattle.prem_cycle.specs.Runs.Position.Own.{AllOwn, IsFree, IsOwn, IsOwnOutcome, LoadsOwn, StaysOwn, device_of}
pub use Rattle.prem_cycle.specs.Runs.Window.Windows.{CarriesInside, HaveCosts, WindowCloses, WindowsHold}
pub use Rattle.prem_cycle.specs.State.{CoreState, Counts, Debt, MachineState, Setup, Task, Transaction, Work, first_task, no_record, record_of, start_of, task_in}
pub use Rattle.prem_cycle.specs.declared.facts.EndedInterval.{EndedInterval}
pub use Rattle.prem_cycle.specs.declared.state.Interval.{Interval}
pub use Rattle.prem_cycle.specs.declared.state.Mode.{Mode}
pub use Rattle.prem_cycle.specs.declared.state.Mode.TheVariants.{Idle, Point, Running, Switching}
pub use Rattle.prem_gate.proofs.Places.{startable_is}
pub use Rattle.prem_gate.specs.Gates.{GateState, GatesState, Turned, after_arrival, bus_free, bus_turn, bus_with, carries, gate_at, gates_of, is_full, memory_after, no_gate, queued, slot_of}
pub use Rattle.prem_gate.specs.Gates.{startable, starts, taken, transfer_of, value_of, wants, with_gates, with_queue, without_head}
pub use Rattle.prem_gate.specs.Ranges.{IsStart}
pub use Rattle.prem_gate.specs.declared.bus.Carried.{Carried}
pub use Rattle.prem_gate.specs.declared.bus.CoreWant.{CoreWant}
pub use Rattle.prem_gate.specs.declared.bus.CoreWant.TheVariants.{Held, New, No}
pub use Rattle.prem_gate.specs.declared.bus.Transfer.{Transfer}
pub use Rattle.prem_gate.specs.declared.bus.Window.{Window}
pub use Rattle.prem_gate.specs.declared.request.Request.{Request}
pub use Rattle.prem_image.specs.Records.{IsPlaced, area_of}
pub use Rattle.prem_image.specs.declared.image.DeviceRecord.{DeviceRecord}
pub use Rattle.prem_image.specs.declared.image.TaskRecord.{TaskRecord}
pub use Rattle.prem_isa.proofs.ActLaws.{act_fits, act_lawful, cost_bounds}
pub use Rattle.prem_isa.proofs.PlainLaws.{fetch_fits, plain_fits, plain_run-add, plain_stays, plain_steps-next, plain_trace-add, step_stays}
pub use Rattle.prem_isa.specs.Act.{accesses, act, fetch, goes, phase_after, word_into}
pub use Rattle.prem_isa.specs.Bounds.{AccessMatches, EffectFits, EffectLawful, IsLawful, OnDone}
pub use Rattle.prem_isa.specs.Decode.{Fits, cost_of}
pub use Rattle.prem_isa.specs.Plain.{Did, PlainState, RunFits, TaskRun, after_change, after_outcome, did_fetched, did_of, did_with, is_running, moved_by, next_input, outcome_of, plain_did}
pub use Rattle.prem_isa.specs.Plain.{plain_run, plain_start, plain_step, trap_at, with_last}
unfoldable pub use Rattle.prem_isa.specs.Plain.{plain_steps, plain_trace}
pub use Rattle.prem_isa.specs.declared.effect.Access.{Access}
pub use Rattle.prem_isa.specs.declared.effect.AccessKind.TheVariants.{Loads, Stores}
pub use Rattle.prem_isa.specs.declared.effect.Cause.{Cause}
pub use Rattle.prem_isa.specs.declared.effect.Change.{Change}
pub use Rattle.prem_isa.specs.declared.effect.Change.TheVariants.{End, Execute, Job, Memory, Stay}
pub use Rattle.prem_isa.specs.declared.effect.Effect.{Effect}
pub use Rattle.prem_isa.specs.declared.effect.Outcome.{Outcome}
pub use Rattle.prem_isa.specs.declared.effect.Outcome.TheVariants.{Done, Trap}
pub use Rattle.prem_isa.specs.declared.effect.Phase.{Phase}
pub use Rattle.prem_isa.specs.declared.effect.Phase.TheVariants.{Compatible, Execution}
pub use Rattle.prem_isa.specs.declared.effect.Stored.{Stored}
pub use Rattle.prem_isa.specs.declared.instr.Instr.{Instr}
pub use Rattle.prem_lru.proofs.Shapes.{is_in-order, lines_in-same, lines_in-touch, to_front_moves, touch_hit, touch_kept}
pub use Rattle.prem_lru.proofs.Stores.{absent_view, apart_bytes, lines-write_line}
pub use Rattle.prem_lru.proofs.Touches.{some_sets, to_front_rule}
pub use Rattle.prem_lru.specs.CacheState.{CacheState, IsCache, Touched, empty_cache, is_resident, set_of, touch_of, view_of}
pub use Rattle.prem_lru.specs.Entries.{ReplacementRule, to_front, write_line}
pub use Rattle.prem_lru.specs.Order.{lines_in, lines_of}
pub use Rattle.prem_lru.specs.Rules.{IsRule, MovesBy, rule_of}
pub use Rattle.prem_lru.specs.Splice.{bytes_of, spliced}
pub use Rattle.prem_plant.proofs.OrderLemmas.Earliest.{all_append}
pub use Rattle.prem_plant.proofs.OrderLemmas.Lift.{few_misses, full_lifts, length-caches_after, once_lifts}
pub use Rattle.prem_plant.proofs.OrderLemmas.Members.{all_by, in_head, in_other, in_tail}
pub use Rattle.prem_plant.proofs.OrderLemmas.RuleLaws.{kind_cache_full, kind_cache_once}
pub use Rattle.prem_plant.specs.Order.Order.{AllIn, AreOnce, CacheMissesOnce, HaveRoom, IsCacheFullAfter, OrderRule, cache_after, cache_misses, caches_after, fifo, is_in, lru, of_set}
pub use Rattle.prem_plant.specs.Order.Order.{one_pass, order_after, order_of}
pub use Rattle.prem_plant.specs.Order.Rules.{order_rule_of, passes_of}
pub use Rattle.prem_plant.specs.Places.{AreApart}
pub use Rattle.prem_plant.specs.Ranges.{IsPlant}
pub use Rattle.prem_plant.specs.declared.plant.Plant.{Plant}
pub use Rattle.prem_plant.specs.declared.plant.Replacement.TheVariants.{Lru}
pub use Rattle.prem_plant.specs.declared.plant.Target.{Target}
pub use Rattle.prem_sched.proofs.Choices.{choice_done, least_later, none_found}
pub use Rattle.prem_sched.specs.Schedule.{Before, IsDone, NoneReady, choice, earlier, first_ready, has_jobs_left, is_ready, least_release, no_task, released, rest, run_or, task_at}
pub use Rattle.prem_sched.specs.declared.sched.Choice.TheVariants.{Finished, Run}
pub use Rattle.prem_sched.specs.declared.sched.TaskJobs.{TaskJobs}
pub use Rattle.prem_sound.specs.Good.{GivesPromised, Good, IsOfMark, IsPrefix, LastsAsStated, predictable_of, read_in}
pub use Rattle.prem_sound.specs.Paced.Paced.{own_due, within_job, within_stretch}
unfoldable pub use Rattle.prem_sound.specs.Paced.Paced.{job_by, stretch_by}
pub use Rattle.prem_sound.specs.Resident.Faultless.{IsFaultless, IsPolicy, ScriptsMakeNoFault}
pub use Rattle.prem_sound.specs.Scopes.Charged.{Charges, IsCharged, IsScoped, Scoping, access_cost, alone_with, charge_due, charge_with, charges_by, crowd_cost, did_charge, each_alone}
pub use Rattle.prem_sound.specs.Scopes.Charged.{job_with, lines_charged, lines_with, own_charge, scope_at, scope_with, stretch_with, within_scope}
unfoldable pub use Rattle.prem_sound.specs.Scopes.Charged.{all_charged, job_charged, scope_by, stretch_charged}
pub use Rattle.prem_sound.specs.Scopes.Laws.{ChargesByAccess, ChargesSumUp, KindsMissLittle, MissesOweLittle, PacedRunsAreCharged, ScopesMissLittle, ScopesSumUp, SinglesAreDue}
pub use Rattle.prem_sound.specs.Scopes.Lines.{crowded_of, is_roomy, line_cost, most_misses, roomy_of}
pub use Rattle.prem_sound.specs.Scopes.Scopes.{KeepsToLines, Scope, charge_of, charges_of, dids_of, single}
pub use Rattle.prem_sound.specs.Scopes.Strands.{ChargedFrom, ChargesLookAtCalls, EndsNoJob, GoesTo, IsStrand, IsWithinInterval, JobsAreCharged, Strand, StrandsAreCharged, StrandsJoin}
pub use Rattle.prem_sound.specs.Scopes.Strands.{StretchesWithin, begins_along, begun_along, calls, calls_begun, change_behind, charges_along, dids_along, ends, last_change, none_begins}
pub use Rattle.prem_sound.specs.Scopes.Strands.{one_begins, runs, scope_due, scoping_of}
pub use Rattle.prem_sound.specs.Script.Conforms.{AtMark, CallsAreDueBefore, CallsKeep, ConformingRunsHaveScripts, ConformingRunsKeepPromises, Conforms, DuesJoin, GoesOrDone, GoesOrEnds}
pub use Rattle.prem_sound.specs.Script.Conforms.{IsOwnDid, IsStretch, KeepsCalls, KeepsMarks, MarksJoin, MarksRest, MemoryBegins, NoMark, PiecesJoin, StretchesKeep, begun_behind, due_behind}
pub use Rattle.prem_sound.specs.Script.Conforms.{takes_nothing}
pub use Rattle.prem_sound.specs.Script.Script.{Begun, Call, IsCovered, IsScript, IsStep, Opens, Script, StoresNothing, access_lines, begun_after, begun_with, call_at, call_of, change_due}
pub use Rattle.prem_sound.specs.Script.Script.{cost_of_dids, did_due, due_with, lines_of_did, lines_of_dids, no_call, none_begun, steps_after}
unfoldable pub use Rattle.prem_sound.specs.Script.Script.{begun_by, due_by}
pub use Rattle.prem_sound.specs.Script.Scripts.{AreKept, AreScripts, Mark, Promise, Reading, interval_count, last_release, limit_of, mark_at, sum_below}
pub use Rattle.prem_sound.specs.Serve.Requests.{AreAmong, AreasAreZero, GetsLastPuts, PutWords, RequestsAreHeld, RoomIsFoundInOrder, WordsAreLastPuts, among_none, among_skip, among_take}
pub use Rattle.prem_sound.specs.Serve.Requests.{asked_before, asked_of, carried_of, coming_requests, found_room, held_of, transferred_of, word_after, word_by}
unfoldable pub use Rattle.prem_sound.specs.Serve.Requests.{queued_of}
pub use Rattle.prem_sound.specs.Sound.{HasScripts, ImagesAreSound, IsRun, ScriptsAreGood, ScriptsFinish, ScriptsLast}
pub use Rattle.prem_word.proofs.Bytes.{number_at-agrees, number_at-put_number}
pub use Rattle.prem_word.specs.Bytes.{number_at, put_number}
pub use Rattle.std.proofs.Common.{List, arith, ℕ}
pub use Rattle.std.proofs.Math.Nat.{add-mul, mod-eq_of_lt}
pub use Rattle.std.proofs.lemmas.Bool.{and_parts, cases_Bool, cases_eq, cases_lt, cond_both, eq-eqb, eqb-true, le-leb, le-ltb, leb-false, leb-true, lt-leb, lt-ltb, ltb-false, ltb-true}
pub use Rattle.std.proofs.lemmas.Bool.{ne_eqb}
pub use Rattle.std.proofs.lemmas.List.{get_or-set_other, get_or-set_same, get_or_past, length-append, length-map, length-set, map-append, take-append-drop}
pub use Rattle.std.proofs.lemmas.List.Elements.{All-append, All-cons, All-head, All-nil, All-push, All-tail, filter-append}
pub use Rattle.std.proofs.lemmas.List.Sums.{sum_by-append, sum_by-cons}
pub use Rattle.std.proofs.lemmas.Nat.{div-add-mod', div-mul-add, mod-mul-add, mod_below, mul-le}
pub use Rattle.std.proofs.lemmas.Option.{slice_get-get_or, slice_get-map, slice_get_within}
pub use Rattle.std.specs.Prelude.{All, Err, Ok, Result, filter, is_none, is_some, not, option_map, slice_get, slice_index, slice_set, sum, sum_by}
