-- What the files of this crate's proofs name of other modules, so that each imports it from one place.
pub use Rattle.prem_asm.proofs.Cost.{total-append, trace_within_cost}
pub use Rattle.prem_asm.proofs.Every.{every}
pub use Rattle.prem_asm.proofs.Flat.{all_fit, code_near, code_stands, flat_near, flat_ok, none_far}
pub use Rattle.prem_asm.proofs.Quiet.{pieces_good}
pub use Rattle.prem_asm.proofs.Shape.{choose_both, code-length, skip_code-length, skip_one, stepped_by}
pub use Rattle.prem_asm.proofs.Ways.{runs_go_ways}
pub use Rattle.prem_asm.proofs.Words.{words_run}
pub use Rattle.prem_asm.specs.Bytes.{code_bytes}
pub use Rattle.prem_asm.specs.OwnRun.{Agrees, CodeStands, Follows, Here, Lands, Leads, Stand, done_step, in_job, next_start}
pub use Rattle.prem_asm.specs.Pieces.{Pieces, address_code, address_of, address_weight, back_at, branch_of, call_to, code_of, either, either_end, first_far, followed, jump, jump_to}
pub use Rattle.prem_asm.specs.Pieces.{jump_weight, no_pieces, other_at, repeat, repeat_end, size_of, skip_at, skip_code, skip_words, straight, test_at, weight, weighted}
pub use Rattle.prem_asm.specs.Quiet.{EachInstr, EachPiece, IsQuiet}
pub use Rattle.prem_asm.specs.Runs.{Calls, Ending, Falls, Guard, Loop, Returns, Setting, Stuck, all_of, allowed, arrives, called, control, ends_job, is_return, left_loop, linked}
pub use Rattle.prem_asm.specs.Runs.{other_steps, outcome_at, run, run_code, run_one, skip_steps, stepped, taken_steps, test_holds, then_run, with_trace}
unfoldable pub use Rattle.prem_asm.specs.Runs.{run_turns}
pub use Rattle.prem_asm.specs.Steps.{AllCode, AllSteps, Grows, Rules, Weighs, Within, total}
pub use Rattle.prem_asm.specs.Ways.{GoesWay, IsWay, LandsWay, StandsGood, Way}
pub use Rattle.prem_asm.specs.declared.piece.Test.{Test}
pub use Rattle.prem_code_laws.proofs.Emitted.{Emits, IsPlain, each_declared, each_function, each_result, each_steps}
pub use Rattle.prem_code_laws.proofs.ExprLawsLemmas.Puts.{reg_words}
pub use Rattle.prem_code_laws.proofs.ExprLawsLemmas.Terms.{ok_of, same_ok, then_ok}
pub use Rattle.prem_code_laws.proofs.FitLawsLemmas.Whole.{none_either, programs_have_words}
pub use Rattle.prem_code_laws.proofs.GenLawsLemmas.Functions.{rounded}
pub use Rattle.prem_code_laws.proofs.GenLawsLemmas.Land.{code_lands, one_lands, part_lands}
pub use Rattle.prem_code_laws.proofs.GenLawsLemmas.Quiet.{one_holds, quiet_function}
pub use Rattle.prem_code_laws.proofs.GenLawsLemmas.Table.{differs, functions_run, marked_is_noted}
pub use Rattle.prem_code_laws.proofs.PrefetchLawsLemmas.Returns.{stubs_return}
pub use Rattle.prem_code_laws.specs.ExprLaws.Relation.{AreApart, Globals, GlobalsStand, Ground, IsOutside, element_at}
pub use Rattle.prem_code_laws.specs.FitLaws.Named.{FunctionNamed, StepsNamed, TargetNamed}
pub use Rattle.prem_code_laws.specs.GenLaws.Fits.{AllFit, CallFits, Callees, StepsFit, TargetFits}
pub use Rattle.prem_code_laws.specs.GenLaws.Functions.{DeclaredFit, FunctionFits, ResultFits, performed}
pub use Rattle.prem_code_laws.specs.GenLaws.Land.{AllLand, IsRunning, PartStands}
pub use Rattle.prem_code_laws.specs.GenLaws.Marks.{Event, Noted, Seen, call_begins, call_ends, call_opens, event_of, events_with, seen_call, seen_none}
unfoldable pub use Rattle.prem_code_laws.specs.GenLaws.Marks.{plain_events}
pub use Rattle.prem_code_laws.specs.GenLaws.Matches.{Back, CallRunsAt}
pub use Rattle.prem_code_laws.specs.GenLaws.Quiet.{AreQuiet}
pub use Rattle.prem_code_laws.specs.GenLaws.Table.{Codes, IsStub, PlainFits, StubsFit, one_of, with_part}
unfoldable pub use Rattle.prem_code_laws.specs.GenLaws.Table.{code_calls}
pub use Rattle.prem_code_laws.specs.GenLaws.Whole.{JobMeans, JobsDone, StartStands, no_calls}
pub use Rattle.prem_code_laws.specs.PrefetchLaws.Confined.{MarkedStands, StubSteps, end_step, exec_step, return_step, with_guard}
pub use Rattle.prem_code_laws.specs.PrefetchLaws.Premises.{AllInMemory, Lines, stub_code}
pub use Rattle.prem_code_laws.specs.PrefetchLaws.Stubs.{memory_step}
pub use Rattle.prem_code_laws.specs.PrefetchLaws.Touches.{CoversAll, IsFetch, IsLineOf, LoadsLine, Touches}
pub use Rattle.prem_cycle.specs.Alone.{run_in}
pub use Rattle.prem_cycle.specs.Core.{is_predictable}
pub use Rattle.prem_cycle.specs.Inputs.{IsTrace, no_device}
pub use Rattle.prem_cycle.specs.Runs.Position.Finish.{data_accesses, due_of}
pub use Rattle.prem_cycle.specs.Runs.Position.Own.{AllOwn, IsFree, StaysOwn}
pub use Rattle.prem_cycle.specs.State.{Setup, no_record, record_of}
pub use Rattle.prem_image.specs.Records.{IsImage, IsPlaced, IsTask, task_names}
pub use Rattle.prem_image.specs.declared.image.DeviceRecord.{DeviceRecord}
pub use Rattle.prem_isa.proofs.ActLaws.{cost_bounds, number_same}
pub use Rattle.prem_isa.proofs.Forms.{extended_done}
pub use Rattle.prem_isa.proofs.PlainLaws.{EffectWords, act_words, effect_fits, fetch_fits, input_word, plain_run-add, plain_stays, plain_steps-add, plain_steps-first, plain_steps-next}
pub use Rattle.prem_isa.proofs.PlainLaws.{plain_trace-add, trace_stays}
pub use Rattle.prem_isa.specs.Act.{accesses, act, changes, fetch, first_registers, in_phase, jumps, loads, phase_after, puts, sets, stores, takes, with_stored}
pub use Rattle.prem_isa.specs.Alu.{holds, load_size, loaded, plus, store_size}
pub use Rattle.prem_isa.specs.Bounds.{OnDone}
pub use Rattle.prem_isa.specs.Decode.{Fits, cost_of, fields_of_instr, word_of}
pub use Rattle.prem_isa.specs.Plain.{Did, PlainState, RunFits, TaskFits, TaskRun, TaskState, after_change, after_effect, after_outcome, did_fetched, did_of, did_with, is_running, moved_by}
pub use Rattle.prem_isa.specs.Plain.{next_input, outcome_of, plain_did, plain_run, plain_start, plain_step, with_last}
unfoldable pub use Rattle.prem_isa.specs.Plain.{plain_steps, plain_trace}
pub use Rattle.prem_isa.specs.declared.effect.AccessKind.TheVariants.{Loads}
pub use Rattle.prem_isa.specs.declared.effect.Cause.TheVariants.{Align, Outside}
pub use Rattle.prem_isa.specs.declared.effect.Change.{Change}
pub use Rattle.prem_isa.specs.declared.effect.Change.TheVariants.{End, Execute, Job, Memory, Stay}
pub use Rattle.prem_isa.specs.declared.effect.Effect.{Effect}
pub use Rattle.prem_isa.specs.declared.effect.Outcome.{Outcome}
pub use Rattle.prem_isa.specs.declared.effect.Outcome.TheVariants.{Trap}
pub use Rattle.prem_isa.specs.declared.effect.Phase.{Phase}
pub use Rattle.prem_isa.specs.declared.effect.Phase.TheVariants.{Compatible, Execution}
pub use Rattle.prem_isa.specs.declared.instr.Instr.{Instr}
pub use Rattle.prem_isa.specs.declared.instr.Instr.TheVariants.{Auipc, Branch, Ebreak, Ecall, Fence, Jal, Jalr, Load, Lui, MulDiv, Op, OpImm, PmDone, PmEnd, PmExec, PmIn, PmMem, PmOut}
pub use Rattle.prem_isa.specs.declared.instr.Instr.TheVariants.{Store}
pub use Rattle.prem_isa.specs.declared.instr.LoadOp.{LoadOp}
pub use Rattle.prem_isa.specs.declared.instr.LoadOp.TheVariants.{Lb, Lbu, Lh, Lhu, Lw}
pub use Rattle.prem_isa.specs.declared.instr.StoreOp.{StoreOp}
pub use Rattle.prem_isa.specs.declared.instr.StoreOp.TheVariants.{Sb, Sh, Sw}
pub use Rattle.prem_layout.proofs.Lawful.{parts_may_be_placed}
pub use Rattle.prem_layout.proofs.Samples.{calls_text, m_text, m_turns}
pub use Rattle.prem_layout.proofs.StretchLemmas.Algebra.{chained_among, chained_assoc, taken_none}
pub use Rattle.prem_layout.proofs.StretchLemmas.Exact.{path_joined, sums_are_exact}
pub use Rattle.prem_layout.proofs.StretchLemmas.Order.{chained_within, longest_within, taking_within, within_first, within_same, within_second, within_then}
pub use Rattle.prem_layout.proofs.StubLaws.{passes_are_few, stubs_have_their_size}
pub use Rattle.prem_layout.proofs.TaskParts.{HasSizes, IsFour, below_greatest, code_counted, four, get_behind, get_drop, globals_counted, multiple_above, parts_fours, parts_sized, place_in}
pub use Rattle.prem_layout.proofs.TaskParts.{plans_counted}
pub use Rattle.prem_layout.proofs.Tasks.{coded}
pub use Rattle.prem_layout.proofs.TemplateLemmas.Depths.{first_none}
pub use Rattle.prem_layout.specs.Bounds.{CodeTable, bound_of, costs_of, job_bound_of, job_weight, job_weights, line_cost, marked_weight, marked_weights, part_weight, start_code, stub_weight}
pub use Rattle.prem_layout.specs.Bounds.{weight_at, weight_listed, weights_behind, work_of}
pub use Rattle.prem_layout.specs.Broken.{broken_at_places, broken_late, broken_when_placed}
pub use Rattle.prem_layout.specs.Counts.{intervals_of, marked_calls_of, outputs_of}
pub use Rattle.prem_layout.specs.Facts.{IntervalFact, interval_fact, interval_facts_from, job_fact}
pub use Rattle.prem_layout.specs.Footprint.{Conflict, TaskPlaces, code_range, conflict_from, conflict_of, conflict_or, count_in, footprint_of, global_range, index_of, lines_of, no_place}
pub use Rattle.prem_layout.specs.Footprint.{numbers_from, place_at, ranges_of, region_range, stack_place, stack_range, stub_range}
pub use Rattle.prem_layout.specs.Image.{device_records, global_bytes, greatest_end, patched, task_record, with_blocks, with_globals, with_tasks}
pub use Rattle.prem_layout.specs.Parts.{Passes, area_parts, code_parts, element_size, global_parts, global_size, part, part_count, parts_from, pass_count, passes_under, start_size}
pub use Rattle.prem_layout.specs.Parts.{stub_parts, stub_passes, stub_size, task_parts}
pub use Rattle.prem_layout.specs.Placed.{Block, Coded, Placed, blocks_from, blocks_of, job_name, name_at, part_total, placed_at, placed_from, sized_of, task_places}
pub use Rattle.prem_layout.specs.Plans.{Plan, Region, global_number, number_or, plan_before, plan_of, plans_from, plans_of, region_of}
pub use Rattle.prem_layout.specs.Rules.{Intervals, Jump, LateRule, Length, MemoryFull, Outputs, Refusal, bound_rules, code_rules, conflict_in, conflict_rules, far_jump, first_among}
pub use Rattle.prem_layout.specs.Rules.{first_conflict, jump_in, length_rules, log_room, log_rules, lower_jump, memory_rules, of_conflict, of_excess, of_jump, or_else, over_tasks}
pub use Rattle.prem_layout.specs.Rules.{reach_rules, refused_by, short_interval, total_of}
pub use Rattle.prem_layout.specs.Stretch.Paths.{Cuts, Path, Takes, greatest_stated, longest_from, stretch_of}
pub use Rattle.prem_layout.specs.Stretch.Sums.{IsWithin, Sums, among, chained, cut, greatest, job_sums, marked_sums, marked_sums_of, part_sums, summed, sums_at, sums_behind, sums_of_path}
pub use Rattle.prem_layout.specs.Stretch.Sums.{taking}
unfoldable pub use Rattle.prem_layout.specs.Stretch.Sums.{turned}
pub use Rattle.prem_layout.specs.Stubs.{stub_of}
pub use Rattle.prem_layout.specs.Template.Frames.{counters_in, deepest, deepest_called, deepest_marked, depth_below, depth_if_there, depth_of, frame_at, frame_if_there, frame_of, locals_of}
pub use Rattle.prem_layout.specs.Template.Frames.{slots_of, stack_size}
pub use Rattle.prem_layout.specs.Template.Limits.{Excess, deep_excess, depth, excess, excess_among, excess_of, first_of, frame, greatest_frame, too_deep, too_deep_among, too_deep_function}
pub use Rattle.prem_layout.specs.Template.Limits.{too_deep_in, too_deep_result}
pub use Rattle.prem_layout.specs.Template.Parts.{code_part, codes_of, global_part, is_marked_at, marked_before, parts_of, stub_part}
pub use Rattle.prem_layout.specs.Template.Steps.{Parts, argument_code, declare_code, function_code, result_code, steps_code, target_code}
pub use Rattle.prem_layout.specs.Template.Terms.{binary_code, by_target, load_of, quotient_code, remainder_code, shift_of, term_code}
pub use Rattle.prem_lru.specs.Rules.{rule_of}
pub use Rattle.prem_plant.proofs.OrderLemmas.Members.{all_by, in_append_left, in_head, in_tail}
pub use Rattle.prem_plant.proofs.Placing.{areas_apart, places_are}
pub use Rattle.prem_plant.proofs.Powers.{default_is_plant, line_of_words}
pub use Rattle.prem_plant.specs.Label.{AreDistinct, IsName}
pub use Rattle.prem_plant.specs.Order.Order.{AllIn, HaveRoom, is_in}
pub use Rattle.prem_plant.specs.Order.Rules.{order_rule_of, passes_of}
pub use Rattle.prem_plant.specs.Places.{AreLawful, ArePlaces, Extent, Holds, IsArea, default_places, last_end}
pub use Rattle.prem_plant.specs.Ranges.{Between, IsDevice, IsPlant, default_plant}
pub use Rattle.prem_plant.specs.declared.layout.PartKind.TheVariants.{Area, Code, Stack, Start, Stub}
pub use Rattle.prem_plant.specs.declared.layout.PartSize.{PartSize}
pub use Rattle.prem_plant.specs.declared.plant.Device.{Device}
pub use Rattle.prem_plant.specs.declared.plant.Plant.{Plant}
pub use Rattle.prem_plant.specs.declared.plant.Replacement.{Replacement}
pub use Rattle.prem_plant.specs.declared.plant.Replacement.TheVariants.{Fifo, Lru}
pub use Rattle.prem_plant.specs.declared.plant.Target.{Target}
pub use Rattle.prem_plant.specs.declared.plant.Target.TheVariants.{Rv32i, Rv32im}
pub use Rattle.prem_ranges.proofs.AnalysisSound.{analysis_sound, is_none_tells}
pub use Rattle.prem_ranges.proofs.Basics.{none_left, none_right}
pub use Rattle.prem_ranges.proofs.Named.{found_at, found_named, kept_rule, kept_rule_not, none_broken, slice_get-more}
pub use Rattle.prem_ranges.proofs.Watches.{Ordered, callees_of, either_list, reaches_called, reaches_itself, row_is}
pub use Rattle.prem_ranges.proofs.WellFormed.{has_job, not_no, well_formed_is_typed}
pub use Rattle.prem_ranges.specs.After.{at_body, declared, known_local, known_parameter}
pub use Rattle.prem_ranges.specs.RangeBreaches.{length_of}
pub use Rattle.prem_ranges.specs.RangesKept.{limits_of, resolved, bounded}
unfoldable pub use Rattle.prem_ranges.specs.RangesKept.{first_range_breach, turn_bounds}
pub use Rattle.prem_ranges.specs.Sound.{AlikeRoutines, AllTyped, AreWords, HasGlobal, IsCall, IsOperator, Typed, TypedLocals, TypedProgram, TypedResult, TypedSteps, kinds_of, next_routine}
pub use Rattle.prem_ranges.specs.Sound.{no_routines}
pub use Rattle.prem_sets_sound.specs.ImagePremises.Accepted.{AcceptedSetsAreLaidOut, AcceptedSetsAreSound, AcceptedSetsJoin, AcceptedTasksKeepRules, DefaultPlacesAreLawful, HasCodedValues}
pub use Rattle.prem_sets_sound.specs.ImagePremises.Accepted.{HasTextValues, HasValues, IsLaidOut, KeepsRules, LaidOutImagesJoin, LawfulSetsHaveValues, limits_at, no_limits}
pub use Rattle.prem_sets_sound.specs.TaskRuns.Called.{confined_by, confinement_in, confinement_of, job_calls, plan_at, stub_at, task_calls}
pub use Rattle.prem_sets_sound.specs.TaskRuns.Joins.{JobsTell, TaskPaces, TasksJoin, TasksPace, TasksTell, promise_for, task_longest}
pub use Rattle.prem_sets_sound.specs.Meant.{AreMeant, meant_at, meant_by, promises_in}
pub use Rattle.prem_sets_sound.specs.PlacesSound.Sound.{DefaultIsAt, IsSoundAt, SetsAreSoundAt, SoundAtDefault}
pub use Rattle.prem_sets_sound.specs.Sound.{AcceptedTasksAreMeant, IsSoundSet, LawfulSetsAreSound, MeantTasksJoin, SetsAreSound, SetsAreSoundUnder}
pub use Rattle.prem_sets_sound.specs.StubLaws.Charges.Charges.{JoinedImagesAreSoundByCharges, PacedTasksAreCharged, RoomIsCounted, TaskCharges, script_of}
pub use Rattle.prem_sets_sound.specs.StubLaws.Confined.Meaning.{ConfinedCallsMean, ConfinedStubsAreCalled, stub_run}
pub use Rattle.prem_sets_sound.specs.StubLaws.Coverage.Fetched.{FootprintsAreFetched, HaveBytes, RangesLieInFootprints, SomeHolds}
pub use Rattle.prem_sets_sound.specs.StubLaws.JobCharges.Charged.{CalmRunsAreCharged, EachCall, FunctionsCall, IsCharged, IsReady, PartCharged, ReturnsCharged, StubsAreCharged, call_weight}
pub use Rattle.prem_sets_sound.specs.StubLaws.JobCharges.Dues.{JobsAreBounded, PartsAreCharged, PlacedJobsAreBounded, PlacedStands, PlannedStands, TableStands, stands_before, weight_in}
pub use Rattle.prem_sets_sound.specs.StubLaws.Initial.Initial.{AreLaid, AreasHoldZero, ContentFits, DefaultsAreLaid, TasksStand, content_of}
pub use Rattle.prem_sets_sound.specs.StubLaws.Initial.Patches.{ContentIsPatched, Patch, all_patches, code_patch, global_patches, task_patches, with_patches}
pub use Rattle.prem_sets_sound.specs.StubLaws.Initial.Standing.{CodeStandsFirst, DevicesHoldZero, GlobalsStandFirst, MemoryIsContent, PartsHaveAddresses, code_in, globals_in, setting_of}
pub use Rattle.prem_sets_sound.specs.StubLaws.Initial.Standing.{type_of}
pub use Rattle.prem_sets_sound.specs.StubLaws.JobWeave.Calm.{AllLandWoven, CalmStands, CodesLandWoven, FunctionsAreCalm, PartsLandWoven}
pub use Rattle.prem_sets_sound.specs.StubLaws.JobWeave.Charged.{CallIsCharged, CallIsStrided, job_charge, start_sums}
pub use Rattle.prem_sets_sound.specs.StubLaws.JobWeave.Confined.{ConfinedLandWoven, ConfinedStands, Confinement, with_confined}
unfoldable pub use Rattle.prem_sets_sound.specs.StubLaws.JobWeave.Confined.{confined_calls}
pub use Rattle.prem_sets_sound.specs.StubLaws.JobWeave.Jobs.{EachJob, JobRun, JobsAgree, JobsAlong, JobsAreWoven, WovenJobs, all_jobs}
pub use Rattle.prem_sets_sound.specs.StubLaws.JobWeave.Owned.{OwnWovenTo, own_way}
pub use Rattle.prem_sets_sound.specs.StubLaws.JoinedRuns.Joined.{IsJoined, JobLimits, JoinedImagesAreSound, JoinedRunsEnd, TaskJoins}
pub use Rattle.prem_sets_sound.specs.StubLaws.Own.Owned.{HasCode, IsPartOf, OwnBytesAreApart, OwnBytesAreFree, PartsAreOwn, is_held, own_of, owns_first, setup_of}
pub use Rattle.prem_sets_sound.specs.StubLaws.OwnSteps.OwnSteps.{AreOwnAt, CallsAreOwn, CodeIsOwn, FunctionsTake, OwnBytes, StubsAreOwn}
pub use Rattle.prem_sets_sound.specs.StubLaws.StretchLengths.Strided.{CalmRunsAreStrided, FallsStrided, FunctionsReturnLast, GoesOn, IsStrided, PartStrided, PartsAreStrided}
pub use Rattle.prem_sets_sound.specs.StubLaws.StretchLengths.Strided.{PlacedJobsAreStrided, ReturnsLast, ReturnsStrided, sums_in}
pub use Rattle.prem_sets_sound.specs.StubLaws.StubFits.Costs.{CostsAreBounded, IsOf, StubsFitTheirLength}
pub use Rattle.prem_sets_sound.specs.StubLaws.StubFits.Within.{StubNumbersAgree, StubsAreWithin, any_holds, codes_in, guard_of, pieces_or, reached_in}
pub use Rattle.prem_sets_sound.specs.StubLaws.StubWeave.StubWeave.{StubAt, StubStands, StubsLandWoven}
pub use Rattle.prem_sets_sound.specs.TaskLaws.LegalPlans.Laws.{CallsAreCallable, CallsAreOrdered, HasPlainJob, IsOrderedCall, JobIsPlain, MarkedFunctionsHavePlans, PlansAreLegal}
pub use Rattle.prem_sets_sound.specs.TaskLaws.LegalPlans.Laws.{ReachesAreCallable}
pub use Rattle.prem_sets_sound.specs.TaskLaws.ProgramFits.Fits.{CallsAmong, FunctionsFit, JobFits, JobStubsFit, JobsFit, KeepsProgramRules, PlainTasksFit, ReachFits, ReachTasksFit}
pub use Rattle.prem_sets_sound.specs.TaskLaws.ProgramFits.Fits.{TasksKeepProgramRules}
pub use Rattle.prem_sets_sound.specs.TaskLaws.TaskBytes.Parts.{HasParts, IsPlacedTask, KeepsItsCode, PartCounts, PartSizes, PartsOfTask, TaskCodeIsOwn, TaskGuardIsOwn}
pub use Rattle.prem_sets_sound.specs.TaskLaws.TaskBytes.Plans.{HasGuard, HasRanges, PlanGuards, PlanRanges}
pub use Rattle.prem_sets_sound.specs.TaskLaws.TaskBytes.Start.{LinesFit, PartsStandAll, RunStands, RunStarts, StartStandsFirst}
pub use Rattle.prem_sets_sound.specs.TaskLaws.TaskFrame.Callees.{HasCodes, callees_in, job_callable, params_if_there, plain_callable, reach_callable, returns_if_there}
pub use Rattle.prem_sets_sound.specs.TaskLaws.TaskFrame.Frames.{data_ranges, job_frame, plan_frame, slots_at, slots_if_there, task_guard}
pub use Rattle.prem_sets_sound.specs.TaskLaws.TaskFrame.Kept.{KeepsTaskRules}
pub use Rattle.prem_sets_sound.specs.TaskLaws.TaskFrame.Limits.{task_limits}
pub use Rattle.prem_sets_sound.specs.TaskLaws.TaskFrame.Plans.{IsLegalPlan, IsRegion, region_holds}
pub use Rattle.prem_sets_sound.specs.TaskLaws.TaskGround.Stands.{CalleesAreBefore, DepthsUnfold, GlobalsAreOwn, GlobalsArePlaced, JobStands, JobsStand, PlacesAreOwn, PlanStands, PlansStand}
pub use Rattle.prem_sets_sound.specs.TaskLaws.TaskGround.Stands.{SizesAgree}
pub use Rattle.prem_sets_sound.specs.Weave.Pace.Pace.{AreStated, JobsArePaced, PacedFrom, PacedWeavesKeepBounds, change_events, did_events, events_of, strides}
pub use Rattle.prem_sets_sound.specs.Weave.Path.Woven.{CalmAt, CalmRunsAreWoven, IsCalm, WovenTo, woven_way}
pub use Rattle.prem_sets_sound.specs.Weave.Promise.Promised.{GlobalsAreRead, MeaningsPromise, ReadingsAreOwn, TheseAreOwn, TheseStand, bytes_of, element_count, mark_of, promise_in}
pub use Rattle.prem_sets_sound.specs.Weave.Promise.Promised.{promise_of, promised, read_from, read_globals, stated_at, stated_of, word_at, words_from}
pub use Rattle.prem_sets_sound.specs.Weave.Segment.Bodies.{BodiesAreWithin, BodiesCost, CodeIsWithin, IsBody, TakesSome}
unfoldable pub use Rattle.prem_sets_sound.specs.Weave.Segment.Bodies.{code_costs}
pub use Rattle.prem_sets_sound.specs.Weave.Segment.Sections.{StubIsWithin, StubsAreSections, section_of}
pub use Rattle.prem_sets_sound.specs.Weave.MeantCalls.Shape.{HasShape, JobsKeepShape}
pub use Rattle.prem_sets_sound.specs.Weave.MeantCalls.Told.{AreRead, HaveLength, MarksAreRead, MarksAreTold, Tells, WeavesTell, tells_call, tells_none}
pub use Rattle.prem_sets_sound.specs.Weave.Weave.{DuesJoin, Goes, IsSection, IsWeave, RunsJoin, Section, SectionGoes, Weave, WeavesAreCharged, WeavesJoin, WovenRunsConform}
pub use Rattle.prem_sets_sound.specs.Weave.Weave.{WovenRunsGivePromises, calls, calls_of, charge, dids_of, due_along, ends, goes, joined, marks_of, section_dids, segment_of, stated_by}
pub use Rattle.prem_sound.proofs.Finishing.{scripts_finish, scripts_finish_by_jobs}
pub use Rattle.prem_sound.proofs.LastingRuns.{scripts_are_good}
pub use Rattle.prem_sound.proofs.ResidentLemmas.Policies.{kind_policy}
pub use Rattle.prem_sound.proofs.ScopesLemmas.StrandRuns.{ListGoes, list_goes, strands_are_charged}
pub use Rattle.prem_sound.specs.Paced.Paced.{job_with, own_due, stretch_with, within_job, within_stretch}
unfoldable pub use Rattle.prem_sound.specs.Paced.Paced.{job_by, stretch_by}
pub use Rattle.prem_sound.specs.Scopes.Strands.{ChargedFrom, GoesTo, IsStrand, Strand, calls_begun, dids_along, runs, scope_due, scoping_of}
pub use Rattle.prem_sound.specs.Script.Conforms.{AtMark, Conforms, GoesOrDone, GoesOrEnds, IsOwnDid, IsStretch, KeepsCalls, KeepsMarks, NoMark, begun_behind, due_behind, takes_nothing}
pub use Rattle.prem_sound.specs.Script.Script.{Begun, IsCovered, IsScript, Script, access_lines, begun_after, begun_with, call_at, change_due, cost_of_dids, did_due, lines_of_did}
pub use Rattle.prem_sound.specs.Script.Script.{lines_of_dids, no_call, none_begun}
unfoldable pub use Rattle.prem_sound.specs.Script.Script.{begun_by}
pub use Rattle.prem_sound.specs.Script.Scripts.{AreScripts, IsKept, Mark, Promise, Reading, interval_count, last_release, limit_of, mark_at, no_mark, sum_below}
pub use Rattle.prem_sound.specs.Sound.{AreInputs, IsRun}
pub use Rattle.prem_syntax.proofs.Reach.{all_only, reach_is_closed, set_only}
pub use Rattle.prem_syntax.proofs.Samples.{at, function, plain, statements}
pub use Rattle.prem_syntax.specs.Breaches.{Around, around, breaches, callee_number, callees, callees_within, has_name, if_at, if_broken, in_call_target, in_callee, in_expression}
pub use Rattle.prem_syntax.specs.Breaches.{in_expressions, in_function, in_global, in_heading, in_items, in_limits, in_locals, in_names, in_option, in_parameters, in_region, in_regions}
pub use Rattle.prem_syntax.specs.Breaches.{in_statement, in_statements, in_target, is_between, is_job_name, is_length, is_loop, is_marked_text, is_narrow, is_stated, is_void, item_names}
pub use Rattle.prem_syntax.specs.Breaches.{parameter_texts, reached, regions_of}
pub use Rattle.prem_syntax.specs.Expressions.{Access, and_then, cell, or_wrong, words_of}
pub use Rattle.prem_syntax.specs.ProgramRules.{IsWellFormed}
unfoldable pub use Rattle.prem_syntax.specs.ProgramRules.{first_breach}
pub use Rattle.prem_syntax.specs.Reach.{CallsBefore, IsAmong, called_by, callee_table, has_number, is_in_set, members_from, reach_of, reach_set, reached_by, with_all, with_all_if}
pub use Rattle.prem_syntax.specs.Reach.{with_called, with_callees_below}
pub use Rattle.prem_syntax.specs.Resolve.{Scope, call_steps, find_function, find_global, find_named, functions_of, globals_of, input_steps, loops_in, loops_within, meaning_of, promoted}
pub use Rattle.prem_syntax.specs.Resolve.{resolve, resolve_function, resolve_items, resolve_statement, resolve_statements, resolve_term, scope_at, scope_in, set_steps, target_of}
pub use Rattle.prem_syntax.specs.Resolved.{AndAlso, Binary, Call, Constant, Done, Element, For, If, Input, OrElse, Output, Resolved, Routine, SetElement, SetLocal, SetScalar, Steps, Term}
pub use Rattle.prem_syntax.specs.Resolved.{Unary, While}
pub use Rattle.prem_syntax.specs.Rules.{CallOrder, Limit, LoopForm, NoJob, OfTypes, Rule, SystemCall, Twice}
pub use Rattle.prem_syntax.specs.Source.{Limits, access_of, calls_below, constants_of, do_jobs, enter_if_there, everywhere, initial_words, source, this_or, unlimited, start}
pub use Rattle.prem_syntax.specs.Statements.{MarkedCall, ProgramState, choose, declare, enter, int_local, is_marked, leave, loop_step, loop_test, result_of, store, stored, take_input, value}
pub use Rattle.prem_syntax.specs.Statements.{values, with_cell, with_local, with_mark, with_new_local, with_output, with_target}
unfoldable pub use Rattle.prem_syntax.specs.Statements.{counting}
pub use Rattle.prem_syntax.specs.Syntax.{FunctionText, GlobalVariable, LocalVariable, MarkText, ProgramText, RegionText, Statement, Statements, Text, absent, assign, block, bounded_while}
pub use Rattle.prem_syntax.specs.Syntax.{call, counting_for, function_item, global_item, if_else, if_then, input, next_statement, no_statements, output}
pub use Rattle.prem_syntax.specs.declared.meaning.Meaning.{Meaning}
pub use Rattle.prem_syntax.specs.declared.meaning.Meaning.TheVariants.{Array, Function, Local, Nothing, Scalar}
pub use Rattle.prem_syntax.specs.declared.rules.TypeRule.TheVariants.{Count, Marked, Narrow, Return}
pub use Rattle.prem_syntax.specs.declared.tree.Place.{Place}
pub use Rattle.prem_syntax.specs.declared.tree.Ty.{Ty}
pub use Rattle.prem_syntax.specs.declared.tree.Ty.TheVariants.{Int, Schar, Short, Uchar, Unsigned, Ushort, Void}
pub use Rattle.prem_tasks.specs.Broken.{TaskSet, TaskText, broken, broken_programs, coded_of, coded_one, late_refusal, program_before, program_rules, programs_of, range_rules, text_rules}
pub use Rattle.prem_tasks.specs.Broken.{unread}
pub use Rattle.prem_tasks.specs.Compiled.{coded_in, parts_in, placed_in, places_in}
pub use Rattle.prem_tasks.specs.SetOf.{set_of, task_of}
unfoldable pub use Rattle.prem_text.specs.Lexing.Literal.{literal_word}
unfoldable pub use Rattle.prem_text.specs.Lexing.Spelling.{is_unused, longest_mark, reserved_word, used_word}
unfoldable pub use Rattle.prem_text.specs.Lexing.Tokens.{first_token, lex, step, tokens_of}
pub use Rattle.prem_text.specs.Texts.{reads}
pub use Rattle.prem_word.specs.Bytes.{number_at}
pub use Rattle.prem_word.specs.declared.kind.BinOp.{BinOp}
pub use Rattle.prem_word.specs.declared.kind.BinOp.TheVariants.{Add, And, Div, Eq, Ge, Gt, Le, Lt, Mul, Ne, Or, Rem, Shl, Shr, Sub, Xor}
pub use Rattle.prem_word.specs.declared.kind.Kind.{Kind}
pub use Rattle.std.proofs.Common.{inl, inr, length, map, refl, suc, zero}
pub use Rattle.std.proofs.Math.Bool.{or-true}
pub use Rattle.std.proofs.Math.Nat.{div-mul-le_self, mod-lt, mul-div_cancel, mul-le-mul_right, mul_comm, suc-mul}
pub use Rattle.std.proofs.lemmas.Bool.{and_from, and_parts, cases_eq, cases_lt, cond-true, cond_both, eq-eqb, eqb-false, eqb-true, le-leb, le-ltb, leb-false, leb-true, lt-ltb, ltb-false}
pub use Rattle.std.proofs.lemmas.Bool.{ltb-true, ne_eqb, or_cases}
pub use Rattle.std.proofs.lemmas.Bool.Decides.{nat_tests}
pub use Rattle.std.proofs.lemmas.List.{drop-drop, get_or-append-add, get_or-drop, get_or-replicate, get_or-set_other, get_or-set_same, get_or-take, get_or_append_left, get_or_past}
pub use Rattle.std.proofs.lemmas.List.{length-drop, length-map, length-replicate, length-set, length-take, length-take-le, nil_from_length}
pub use Rattle.std.proofs.lemmas.List.Elements.{All-append, All-cons, All-from_recursion, All-head, All-nil, All-tail, recursion_from_All}
pub use Rattle.std.proofs.lemmas.List.Sums.{length-filter, sum_by-cons}
pub use Rattle.std.proofs.lemmas.Nat.{le-div, mul-le}
pub use Rattle.std.proofs.lemmas.Option.{get_or_from_slice_get, slice_get-get_or, slice_get-map, slice_get_within}
pub use Rattle.std.specs.Int.{next_multiple_of, to_le_bytes, w32}
pub use Rattle.std.specs.List.{AllByRecursion, concat, flat_map, list_any}
pub use Rattle.std.specs.Option.{option_map}
pub use Rattle.std.specs.Prelude.{All, IsTrue, codes, filter, int_le, is_none, is_some, nat_le, nat_lt, pos, replicate, slice_index, slice_index_or, unwrap_or, ℤ}
pub use Rattle.std.specs.Str.{bytes_eq}
