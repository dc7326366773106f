-- What the files of this crate's specs name of other modules, so that each imports it from one place.
pub use Rattle.prem_asm.specs.Bytes.{code_bytes}
pub use Rattle.prem_asm.specs.Fit.{PiecesFit}
pub use Rattle.prem_asm.specs.OwnRun.{Agrees, done_step, in_job}
pub use Rattle.prem_asm.specs.Pieces.{Pieces, address_of, call_to, code_of, either, jump_to, no_pieces, repeat, size_of, straight, weighted}
pub use Rattle.prem_asm.specs.Quiet.{EachInstr, EachPiece, IsQuiet}
pub use Rattle.prem_asm.specs.Runs.{Calls, Ending, Falls, Guard, Returns, Setting, Stuck, control, is_return, linked, run}
pub use Rattle.prem_asm.specs.Steps.{AllCode, AllSteps, Grows, total}
pub use Rattle.prem_asm.specs.Ways.{GoesWay, LaidWay, LandsWay, StandsGood, Way}
pub use Rattle.prem_code_laws.specs.ExprLaws.Relation.{Globals, GlobalsStand, Ground, Stack, element_size}
pub use Rattle.prem_code_laws.specs.GenLaws.Fits.{Callees, StepsFit}
pub use Rattle.prem_code_laws.specs.GenLaws.Functions.{FunctionFits, noted}
pub use Rattle.prem_code_laws.specs.GenLaws.Land.{IsRunning, PartStands}
pub use Rattle.prem_code_laws.specs.GenLaws.Quiet.{AreQuiet}
pub use Rattle.prem_code_laws.specs.GenLaws.Table.{Codes, IsStub, MarkedFits, StubsFit, code_calls, one_of, with_part}
pub use Rattle.prem_code_laws.specs.GenLaws.Whole.{JobMeans, JobsDone, StartStands, no_calls}
pub use Rattle.prem_code_laws.specs.PrefetchLaws.Confined.{Confines, StubSteps, end_step, exec_step, with_guard}
pub use Rattle.prem_code_laws.specs.PrefetchLaws.Premises.{AllInMemory, Lines, stub_code}
pub use Rattle.prem_code_laws.specs.PrefetchLaws.Touches.{IsLineOf}
pub use Rattle.prem_cycle.specs.Alone.{run_in}
pub use Rattle.prem_cycle.specs.Inputs.{image_setup}
pub use Rattle.prem_cycle.specs.Run.{memory_of}
pub use Rattle.prem_cycle.specs.Runs.Position.Finish.{due_of}
pub use Rattle.prem_cycle.specs.Runs.Position.Own.{AllOwn, IsFree}
pub use Rattle.prem_cycle.specs.State.{Setup, record_of}
pub use Rattle.prem_isa.specs.Decode.{Fits, cost_of}
pub use Rattle.prem_isa.specs.Plain.{Did, PlainState, TaskFits, TaskRun, TaskState, plain_did, plain_run, plain_start, plain_step, plain_steps, plain_trace}
pub use Rattle.prem_isa.specs.declared.effect.Change.{Change}
pub use Rattle.prem_isa.specs.declared.effect.Change.TheVariants.{End, Execute, Job, Memory, Stay}
pub use Rattle.prem_isa.specs.declared.effect.Phase.{Phase}
pub use Rattle.prem_isa.specs.declared.effect.Phase.TheVariants.{Compatible, Execution}
pub use Rattle.prem_isa.specs.declared.instr.Instr.{Instr}
pub use Rattle.prem_isa.specs.declared.instr.Instr.TheVariants.{Ebreak, Ecall, Jalr, Load, PmDone, PmEnd, PmExec, PmMem}
pub use Rattle.prem_layout.specs.Bounds.{CodeTable, costs_of, job_bound_of, job_weight, job_weights, limit_of, marked_weights, part_weight, start_code, weight_at}
pub use Rattle.prem_layout.specs.Footprint.{TaskPlaces, code_range, conflict_of, count_in, footprint_of, global_range, index_of, lines_of, numbers_from, place_at, ranges_of, region_range}
pub use Rattle.prem_layout.specs.Footprint.{stack_place, stack_range, stub_range}
pub use Rattle.prem_layout.specs.Image.{global_bytes, greatest_end, image_of, patched, with_tasks}
pub use Rattle.prem_layout.specs.Parts.{Passes, code_part, global_size, part_count, pass_count, stub_passes, stub_size}
pub use Rattle.prem_layout.specs.Placed.{Block, Coded, Placed, blocks_of, part_total, placed_from}
pub use Rattle.prem_layout.specs.Plans.{Plan, Region, plans_of}
pub use Rattle.prem_layout.specs.Rules.{bound_rules, code_rules, conflict_rules, length_rules, log_rules, reach_rules}
pub use Rattle.prem_layout.specs.Stretch.Paths.{Cuts, Path, Takes, greatest_stated, longest_from, stretch_of}
pub use Rattle.prem_layout.specs.Stretch.Sums.{IsWithin, Sums, greatest, job_sums, marked_sums, part_sums, summed, sums_at, sums_of_path}
pub use Rattle.prem_layout.specs.Template.Frames.{deepest, depth_of, frame_at, frame_of, slots_of, stack_size}
pub use Rattle.prem_layout.specs.Template.Parts.{codes_of, global_part, is_marked_at, marked_before, parts_of, stub_part}
pub use Rattle.prem_layout.specs.Template.Steps.{Parts, function_code}
pub use Rattle.prem_list.specs.Sequence.{items_of}
pub use Rattle.prem_lru.specs.Entries.{ReplacementRule}
pub use Rattle.prem_lru.specs.Rules.{rule_of}
pub use Rattle.prem_plant.specs.Order.Order.{AllIn, HaveRoom, OrderRule, is_in}
pub use Rattle.prem_plant.specs.Places.{AreLawful, ArePlaces, Extent, Holds, default_places, last_end}
pub use Rattle.prem_plant.specs.Ranges.{Between, IsPlant}
pub use Rattle.prem_plant.specs.declared.plant.Device.{Device}
pub use Rattle.prem_plant.specs.declared.plant.Plant.{Plant}
pub use Rattle.prem_plant.specs.declared.plant.Target.{Target}
pub use Rattle.prem_ranges.specs.RangeBreaches.{length_of}
pub use Rattle.prem_ranges.specs.RangesKept.{StaysInRange, bounded, limits_of}
pub use Rattle.prem_sound.specs.Resident.Faultless.{IsPolicy}
pub use Rattle.prem_sound.specs.Script.Conforms.{Conforms, GivesPromise, IsOwnDid, IsStretch, takes_nothing}
pub use Rattle.prem_sound.specs.Script.Script.{Call, IsCovered, Script, change_due, cost_of_dids, did_due, lines_of_did, lines_of_dids}
pub use Rattle.prem_sound.specs.Script.Scripts.{Mark, Promise, Reading, ReadsOwn, last_release, sum_below}
pub use Rattle.prem_sound.specs.Serve.Requests.{AreasAreZero}
pub use Rattle.prem_sound.specs.Sound.{AreInputs, Sound}
pub use Rattle.prem_syntax.specs.Expressions.{Access, Outcome}
pub use Rattle.prem_syntax.specs.Literals.{ProgramHasWords}
pub use Rattle.prem_syntax.specs.ProgramRules.{IsWellFormed}
pub use Rattle.prem_syntax.specs.Reach.{CallsBefore, IsAmong, callee_table, callees_in}
pub use Rattle.prem_syntax.specs.Resolve.{resolve}
pub use Rattle.prem_syntax.specs.Resolved.{Resolved, Routine, Steps}
pub use Rattle.prem_syntax.specs.Source.{Limits, calls_below, do_jobs, everywhere, initial_words, source, start, unlimited}
pub use Rattle.prem_syntax.specs.Statements.{MarkedCall, ProgramState, is_marked}
pub use Rattle.prem_syntax.specs.Syntax.{GlobalVariable, MarkText, ProgramText}
pub use Rattle.prem_syntax.specs.declared.tree.Ty.{Ty}
pub use Rattle.prem_tasks.specs.At.{AreLawfulFor, broken_at, compiled_at, placed_by}
pub use Rattle.prem_tasks.specs.Broken.{TaskSet, TaskText, broken, coded_one}
pub use Rattle.prem_tasks.specs.Compiled.{coded_in, compiled, job_bounds, parts_in, placed_in, places_in}
pub use Rattle.prem_tasks.specs.Lawful.{AreDevices, IsSet}
pub use Rattle.prem_tasks.specs.SetOf.{set_of}
pub use Rattle.prem_text.specs.Texts.{reads}
pub use Rattle.std.specs.List.{list_any}
pub use Rattle.std.specs.Prelude.{List, [], slice_get, slice_index_or, ℕ}
