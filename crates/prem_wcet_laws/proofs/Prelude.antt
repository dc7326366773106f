-- What the files of this crate's proofs name of other modules, so that each imports it from one place.
pub use Rattle.prem_asm.proofs.Follow.{run-followed}
pub use Rattle.prem_asm.proofs.Grow.{guard_grows}
pub use Rattle.prem_asm.proofs.Quiet.{pieces_good}
pub use Rattle.prem_asm.proofs.Rows.{words-followed}
pub use Rattle.prem_asm.proofs.Shape.{choose_both, code-length, skip_code-length, skip_one, stepped_by}
pub use Rattle.prem_asm.specs.Pieces.{Pieces, address_code, address_of, address_weight, back_at, branch_of, call_to, code_of, either, either_end, followed, jump, jump_to, jump_weight, lower}
pub use Rattle.prem_asm.specs.Pieces.{no_pieces, other_at, repeat, repeat_end, size_of, skip_at, skip_code, skip_words, straight, test_at, upper, weight, weighted, words}
pub use Rattle.prem_asm.specs.Quiet.{EachPiece}
pub use Rattle.prem_asm.specs.Runs.{Calls, Ending, Falls, Guard, Loop, Returns, Setting, Stuck, all_of, allowed, called, control, left_loop, linked, other_steps, outcome_at, run, run_code}
pub use Rattle.prem_asm.specs.Runs.{run_one, skip_steps, stepped, taken_steps, test_holds, then_run, with_trace}
unfoldable pub use Rattle.prem_asm.specs.Runs.{run_turns}
pub use Rattle.prem_asm.specs.Steps.{AllCode, AllSteps, Grows, Holds, Rules, Same, Within, total}
pub use Rattle.prem_asm.specs.declared.piece.Test.{Test}
pub use Rattle.prem_code_laws.proofs.Emitted.{Emits, IsPlain, each_arguments, each_bound, each_closing, each_count, each_counter, each_declared, each_first, each_function, each_opening}
pub use Rattle.prem_code_laws.proofs.Emitted.{each_result, each_step, each_steps, each_target, each_ten, each_turn}
pub use Rattle.prem_code_laws.proofs.ExprLawsLemmas.Cells.{all_between}
pub use Rattle.prem_code_laws.proofs.ExprLawsLemmas.Loads.{Readable, puts_give}
pub use Rattle.prem_code_laws.proofs.ExprLawsLemmas.Puts.{constant_puts, reg_other, reg_same, reg_words}
pub use Rattle.prem_code_laws.proofs.ExprLawsLemmas.Reach.{tested}
pub use Rattle.prem_code_laws.proofs.ExprLawsLemmas.Runs.{after, before, goes_then, loop_of}
pub use Rattle.prem_code_laws.proofs.ExprLawsLemmas.Terms.{ok_of, same_ok, then_ok}
pub use Rattle.prem_code_laws.proofs.GenLawsLemmas.Arrivals.{Gave, gave, silent}
pub use Rattle.prem_code_laws.proofs.GenLawsLemmas.Bounded.{counter_matches, headed, lowered}
pub use Rattle.prem_code_laws.proofs.GenLawsLemmas.CallCode.{passed, values_length}
pub use Rattle.prem_code_laws.proofs.GenLawsLemmas.Counting.{step_ok}
pub use Rattle.prem_code_laws.proofs.GenLawsLemmas.Frames.{Opened, closed}
pub use Rattle.prem_code_laws.proofs.GenLawsLemmas.Functions.{resulted, rounded}
pub use Rattle.prem_code_laws.proofs.GenLawsLemmas.Memory.{globals_stack, locals_apart, number_apart, number_same, store_falls, word_back}
pub use Rattle.prem_code_laws.proofs.GenLawsLemmas.Parts.{changed, evaluated, slot_falls, still, widen}
pub use Rattle.prem_code_laws.proofs.GenLawsLemmas.Quiet.{quiet_constant}
pub use Rattle.prem_code_laws.proofs.GenLawsLemmas.Steps.{steps_end}
pub use Rattle.prem_code_laws.proofs.GenLawsLemmas.Table.{code_called, differs, functions_run, meant_below, performed_is, unmarked_access}
pub use Rattle.prem_code_laws.specs.ExprLaws.Relation.{AreApart, Globals, GlobalsStand, Ground, Stack}
pub use Rattle.prem_code_laws.specs.GenLaws.Fits.{AllFit, CallFits, Callees, Fits, StepsFit, TargetFits}
pub use Rattle.prem_code_laws.specs.GenLaws.Functions.{DeclaredFit, FunctionFits, ResultFits, performed}
pub use Rattle.prem_code_laws.specs.GenLaws.Jobs.{Between}
pub use Rattle.prem_code_laws.specs.GenLaws.Laws.{CalleesAt, with_globals}
pub use Rattle.prem_code_laws.specs.GenLaws.Matches.{ArgumentsStand, IsKept, Matches, at_frame, slot_at}
pub use Rattle.prem_code_laws.specs.GenLaws.Table.{Codes, TaskFits, one_of}
unfoldable pub use Rattle.prem_code_laws.specs.GenLaws.Table.{code_calls}
pub use Rattle.prem_isa.proofs.Forms.{extended_done}
pub use Rattle.prem_isa.specs.Act.{accesses, changes, in_phase, jumps, loads, puts, sets, stores, takes, with_register}
pub use Rattle.prem_isa.specs.Alu.{load_size, multiply_divide, plus, store_size}
pub use Rattle.prem_isa.specs.Bounds.{OnDone}
pub use Rattle.prem_isa.specs.Decode.{cost_of}
pub use Rattle.prem_isa.specs.Plain.{Did, TaskState, next_input}
pub use Rattle.prem_isa.specs.declared.effect.Cause.TheVariants.{Align, Outside}
pub use Rattle.prem_isa.specs.declared.effect.Change.TheVariants.{End, Execute, Job, Memory, Stay}
pub use Rattle.prem_isa.specs.declared.effect.Effect.{Effect}
pub use Rattle.prem_isa.specs.declared.effect.Outcome.{Outcome}
pub use Rattle.prem_isa.specs.declared.effect.Outcome.TheVariants.{Trap}
pub use Rattle.prem_isa.specs.declared.effect.Phase.{Phase}
pub use Rattle.prem_isa.specs.declared.effect.Phase.TheVariants.{Compatible, Execution}
pub use Rattle.prem_isa.specs.declared.instr.Instr.{Instr}
pub use Rattle.prem_isa.specs.declared.instr.Instr.TheVariants.{Auipc, Branch, Ebreak, Ecall, Fence, Jal, Jalr, Load, Lui, MulDiv, Op, OpImm, PmDone, PmEnd, PmExec, PmIn, PmMem, PmOut}
pub use Rattle.prem_isa.specs.declared.instr.Instr.TheVariants.{Store}
pub use Rattle.prem_isa.specs.declared.instr.LoadOp.TheVariants.{Lb, Lbu, Lh, Lhu, Lw}
pub use Rattle.prem_isa.specs.declared.instr.StoreOp.TheVariants.{Sb, Sh, Sw}
pub use Rattle.prem_layout.proofs.StretchLemmas.Algebra.{chained_assoc, most_none, none_taken, same_sums, taken}
pub use Rattle.prem_layout.proofs.StretchLemmas.Exact.{path_joined, sums_are_exact}
pub use Rattle.prem_layout.proofs.StretchLemmas.Order.{chained_within, greatest_within, taking_within, within_first, within_same, within_second, within_then}
pub use Rattle.prem_layout.specs.Bounds.{job_weight, job_weights, line_cost, marked_weights, part_weight, start_code, weight_at, weights_behind}
pub use Rattle.prem_layout.specs.Footprint.{TaskPlaces, lines_of, place_at}
pub use Rattle.prem_layout.specs.Parts.{code_part, start_part}
pub use Rattle.prem_layout.specs.Plans.{Plan}
pub use Rattle.prem_layout.specs.Stretch.Paths.{Cuts, Takes, greatest_stated, stretch_of}
pub use Rattle.prem_layout.specs.Stretch.Sums.{IsLess, IsWithin, Sums, among, both, chained, greatest, job_sums, marked_sums, most, no_sums, part_sums, summed, sums_at, sums_behind}
pub use Rattle.prem_layout.specs.Stretch.Sums.{sums_of_path, taking}
unfoldable pub use Rattle.prem_layout.specs.Stretch.Sums.{turned}
pub use Rattle.prem_layout.specs.Template.Frames.{counters_in, frame_of, locals_of, slots_of}
pub use Rattle.prem_layout.specs.Template.Parts.{codes_of, is_marked_at, marked_before, parts_of, stub_part}
pub use Rattle.prem_layout.specs.Template.Steps.{Parts, argument_code, argument_slot, bound_test, closing, count_code, declare_code, element_store, function_code, load_slot, opening}
pub use Rattle.prem_layout.specs.Template.Steps.{result_code, scalar_store, step_code, steps_code, store_argument, store_slot, target_code, turn_code}
pub use Rattle.prem_layout.specs.Template.Terms.{binary_code, by_target, constant, nonzero, only, quotient_code, remainder_code, term_code}
pub use Rattle.prem_plant.specs.Places.{Extent}
pub use Rattle.prem_plant.specs.declared.plant.Plant.{Plant}
pub use Rattle.prem_plant.specs.declared.plant.Target.{Target}
pub use Rattle.prem_syntax.specs.Expressions.{Access, and_then, cell, eval, eval_all, operate, or_wrong, truth_of, unary_word, words_of}
pub use Rattle.prem_syntax.specs.Reach.{IsAmong, callees_in}
pub use Rattle.prem_syntax.specs.Resolved.{AndAlso, Binary, Call, Constant, Done, Element, For, If, Input, Local, OrElse, Output, Resolved, Routine, Scalar, SetElement, SetLocal, SetScalar}
pub use Rattle.prem_syntax.specs.Resolved.{Steps, Term, Unary, While}
pub use Rattle.prem_syntax.specs.Source.{Limits, calls_below, enter_if_there, everywhere, this_or}
pub use Rattle.prem_syntax.specs.Statements.{ProgramState, choose, declare, enter, holds, in_bound, int_local, is_marked, leave, loop_step, loop_test, result_of, store, stored, take_input}
pub use Rattle.prem_syntax.specs.Statements.{value, values, with_cell, with_local, with_new_local, with_output, with_target}
unfoldable pub use Rattle.prem_syntax.specs.Statements.{bounded, counting}
pub use Rattle.prem_syntax.specs.declared.tree.Place.{Place}
pub use Rattle.prem_wcet_laws.specs.Counts.{PathCount, IsNoMore, either_count, marked_count, quiet, then_count, turned_count}
pub use Rattle.prem_wcet_laws.specs.Divided.{AreLoose, Courses, Divides, Division, IsCourse, IsDivision, KeepsTo, RunCourses, RunDivides, StaysOn, Weighs, WithinPlaceWeights, access_lines}
pub use Rattle.prem_wcet_laws.specs.Divided.{alone, charge_of, count_of, crowd_costs, ends, joined, lone_charge, path_of, scope_charge, section, step_charge, steps_of, together, weight_of}
pub use Rattle.prem_wcet_laws.specs.Keeping.{AccessIn, Accesses, IsIn, IsNative, StandIn, confined_to, is_foreign, is_held}
pub use Rattle.prem_wcet_laws.specs.Laws.{LongestIsWithin, WcetIsWithin, table_of}
pub use Rattle.prem_wcet_laws.specs.Least.{apart, behind, body_at, body_place, bound_code, called_least, counter_code, declared, first_code, least, least_function, other_place, own}
pub use Rattle.prem_wcet_laws.specs.Least.{own_around, own_before, own_behind, own_choice, own_jump, own_turns, single, taken_place, term_of, turn_of}
pub use Rattle.prem_wcet_laws.specs.LeastLaws.{CallDivides, StepsDivide, Works}
pub use Rattle.prem_wcet_laws.specs.Named.{AreClosed, AreInside, CallsSame, FunctionsNameAll, StepsNameAll, globals_of, narrowed}
pub use Rattle.prem_wcet_laws.specs.Parted.{Begun, Edge, argument_ranges, begins, bottom_of, by_cut, called_parted, choice_count, counted, cuts, entry, front, has_cut, landing}
pub use Rattle.prem_wcet_laws.specs.Parted.{landing_place, leaving, next_edge, no_edge, opened, parted, parted_function, passage, passage_apart, passage_charge, passage_data, passage_span}
pub use Rattle.prem_wcet_laws.specs.Parted.{passing, turn_count}
pub use Rattle.prem_wcet_laws.specs.PartedLaws.{FunctionsCourse, Mixes, StepsCourse, callee_frame}
pub use Rattle.prem_wcet_laws.specs.Scenes.{QuietJobsDivide, ScenesStand, facts_in, scene_in}
pub use Rattle.prem_wcet_laws.specs.ScopeLaws.{AreOf, FactStands, HasExtent, ScopeRun, Stands, StepsAreScopes}
pub use Rattle.prem_wcet_laws.specs.Scopes.{Fact, Scene, charge, code_ranges, crowd_cost, data_lines, data_ranges, extent_of, fact_of, function_span, globals_in, globals_in_result}
pub use Rattle.prem_wcet_laws.specs.Scopes.{globals_in_term, globals_in_terms, is_roomy, lines_in, no_fact, path_weight, places_behind, roomy_lines, scope_weight, span_of}
pub use Rattle.prem_wcet_laws.specs.Wcet.{at_function, below_range, fact_at, facts_behind, frame_range, known_scene, longest_wcet_of, own_start, scene_of, stack_of, start_span, wcet_of}
pub use Rattle.prem_wcet_laws.specs.Weights.{PlaceWeight, address_from, jump_from, weight_from, weighted_from}
pub use Rattle.prem_word.specs.Bytes.{number_at, put_number}
pub use Rattle.prem_word.specs.Words.{truth, value_in}
pub use Rattle.prem_word.specs.declared.kind.BinOp.TheVariants.{Add, And, Div, Eq, Ge, Gt, Le, Lt, Mul, Ne, Or, Rem, Shl, Shr, Sub, Xor}
pub use Rattle.prem_word.specs.declared.kind.Kind.TheVariants.{Int, Unsigned}
pub use Rattle.std.proofs.Common.{refl, suc, zero}
pub use Rattle.std.proofs.Math.Dec.{eqb-suc-zero}
pub use Rattle.std.proofs.lemmas.Bool.{and_from, and_parts, cond_both, eqb-true, le-leb, le-ltb, leb-false, leb-true, lt-ltb, ltb-false, ltb-true, or_cases, or_right}
pub use Rattle.std.proofs.lemmas.List.{length-take-le}
pub use Rattle.std.proofs.lemmas.List.Folds.{list_any-append}
pub use Rattle.std.proofs.lemmas.Option.{slice_get_within}
pub use Rattle.std.specs.List.{flat_map, list_all, list_any}
pub use Rattle.std.specs.Prelude.{codes, map, option_map, slice_get, slice_index, slice_index_or, unwrap_or}
