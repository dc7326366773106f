-- What the files of this crate's proofs name of other modules, so that each imports it from one place.
pub use Rattle.prem_ranges.specs.After.{after, assigns, at_body, behind_call, behind_loop, body_range, bounds, bounds_in, declared, end_of, in_body, in_counting, in_while, is_target}
pub use Rattle.prem_ranges.specs.After.{known_local, known_parameter, loop_end, range_behind, stated_or_whole, turn_bound}
pub use Rattle.prem_ranges.specs.Counts.{Tally, marks_tally, most_below, most_in, most_in_job, most_marks, most_of, most_outputs, outputs_tally}
pub use Rattle.prem_ranges.specs.Environment.{Environment, Known, any_again, any_of, assigned, at_local, joined, loosened, range_at, with_range}
pub use Rattle.prem_ranges.specs.Promises.{KeepsCounts, WiderLimits}
pub use Rattle.prem_ranges.specs.RangeBreaches.{Site, in_argument, in_arguments, in_counting_loop, in_divisor, in_element, in_index, in_locals, in_range_of_int, in_result, in_routine}
pub use Rattle.prem_ranges.specs.RangeBreaches.{in_routines, in_scalar, in_stated, in_steps, in_term, in_turns, in_watch, in_watches, length_of, parameters_of, range_breaches, site_of}
pub use Rattle.prem_ranges.specs.RangeOf.{cut, cut_by, cut_if_some, is_same_kind, opposite, range_of, refined, type_range}
pub use Rattle.prem_ranges.specs.RangeRules.{ArgRange, IndexOutside, LoopBound, RangeBreach, RangeRule, RegionOutside, TooLarge, ZeroDivisor, first, first_of, standing}
pub use Rattle.prem_ranges.specs.RangesKept.{StaysInRange, limits_of, resolved}
unfoldable pub use Rattle.prem_ranges.specs.RangesKept.{first_range_breach, turn_bounds}
pub use Rattle.prem_ranges.specs.Regions.{Area, Watch, area_holds, areas_hold, areas_in, areas_of, inside_regions, watch_if, watches_from, watches_of}
pub use Rattle.prem_ranges.specs.Saves.Saves.{Saved, changed, few_or_all, known_at, merged, named, restored, saved, saved_at, saved_few}
pub use Rattle.prem_ranges.specs.Sound.{Alike, AlikeRoutine, AlikeRoutines, AllTyped, Allows, Always, AreWords, CallsReturn, Cells, Ends, Good, HasBounds, HasGlobal, HasValue, Holds, IsBack}
pub use Rattle.prem_ranges.specs.Sound.{IsCell, IsCounting, IsOperator, IsScalar, IsValue, Ran, Ranged, Shaped, Typed, TypedLocals, TypedProgram, TypedResult, TypedRoutine, TypedSteps}
pub use Rattle.prem_ranges.specs.Sound.{alike_call, alike_done, alike_element, alike_for, alike_if, alike_input, alike_local, alike_output, alike_scalar, alike_while, gives, kinds_of, next_global}
pub use Rattle.prem_ranges.specs.Sound.{next_local, next_ranged, next_routine, no_globals, no_locals, no_routines, none_ranged, turns_in, wrong}
pub use Rattle.prem_ranges.specs.Turns.{calls_or, enter_or, jobs_or, source_or, turns_of, wrong_call}
pub use Rattle.prem_ranges.specs.Unary.TableLaws.{TableLaws, unary_range}
pub use Rattle.prem_ranges.specs.Wrong.{all_lines, divisor_lines, program_lines, result_lines, routine_lines, steps_lines, term_lines}
pub use Rattle.prem_syntax.proofs.Samples.{at, function, global, int, local, one_name, parameter, plain, region, statements}
pub use Rattle.prem_syntax.specs.Breaches.{Around, around, assigns_within, breaches, fits_type, has_name, if_at, if_broken, in_assigned, in_call_target, in_callee, in_declared}
pub use Rattle.prem_syntax.specs.Breaches.{in_expression, in_expressions, in_function, in_global, in_heading, in_items, in_limits, in_names, in_option, in_parameters, in_regions}
pub use Rattle.prem_syntax.specs.Breaches.{in_statement, in_statements, is_between, is_from, is_int, is_int_local, is_job_name, is_loop, is_marked_text, is_name, is_narrow, is_range}
pub use Rattle.prem_syntax.specs.Breaches.{is_void, item_names, parameter_texts, reached, regions_of, same_name, unknown, used_indexed, used_plain}
pub use Rattle.prem_syntax.specs.Expressions.{Access, Outcome, and_then, cell, divide, eval, eval_all, operate, or_wrong, truth_of, unary_word, words_of}
pub use Rattle.prem_syntax.specs.Literals.{HasWords, HasWordsIf, HaveWords, LocalsHaveWords, ProgramHasWords, StatementHasWords, StatementsHaveWords}
pub use Rattle.prem_syntax.specs.ProgramRules.{IsWellFormed}
unfoldable pub use Rattle.prem_syntax.specs.ProgramRules.{first_breach}
pub use Rattle.prem_syntax.specs.Reach.{CallsBefore, IsAmong, callee_table, callees_in, is_in, is_in_set, reach_set}
pub use Rattle.prem_syntax.specs.Resolve.{Scope, call_steps, common, element_term, find_function, find_global, find_local, find_named, first_meaning, functions_of, global_meaning}
pub use Rattle.prem_syntax.specs.Resolve.{globals_of, input_steps, kind_of, local_names, local_number, loop_local, loops_in, loops_within, meaning_of, number_named, operand_kind}
pub use Rattle.prem_syntax.specs.Resolve.{parameter_names, promoted, resolve, resolve_function, resolve_items, resolve_locals, resolve_statement, resolve_statements, resolve_term, scope_at}
pub use Rattle.prem_syntax.specs.Resolve.{scope_in, set_steps, target_of, unary_kind, variable_term}
pub use Rattle.prem_syntax.specs.Resolved.{AndAlso, Binary, Call, Constant, Done, Element, For, If, Input, Local, OrElse, Output, Resolved, Routine, Scalar, SetElement, SetLocal, SetScalar}
pub use Rattle.prem_syntax.specs.Resolved.{Steps, Term, Unary, While, operator}
pub use Rattle.prem_syntax.specs.Rules.{Breach, CallOrder, LoopForm, MarkedCall, NoJob, OfTypes, Rule, SystemCall, Twice}
pub use Rattle.prem_syntax.specs.Source.{Limits, access_of, calls_below, constants_of, do_jobs, enter_if_there, everywhere, initial_words, source, source_within, start, this_or, unlimited}
pub use Rattle.prem_syntax.specs.Statements.{Calls, ProgramState, choose, declare, enter, holds, in_bound, int_local, is_marked, leave, loop_step, loop_test, result_of, run, store, stored}
pub use Rattle.prem_syntax.specs.Statements.{take_input, value, values, with_cell, with_local, with_mark, with_new_local, with_output, with_target}
unfoldable pub use Rattle.prem_syntax.specs.Statements.{bounded, counting}
pub use Rattle.prem_syntax.specs.Syntax.{Expression, FunctionText, GlobalVariable, LocalVariable, LoopNames, MarkText, Parameter, ProgramText, RegionText, Statement, Statements, Text}
pub use Rattle.prem_syntax.specs.Syntax.{absent, assign, binary, block, bounded_while, call, counting_for, element, function_item, global_item, if_else, if_then, input, literal, many}
pub use Rattle.prem_syntax.specs.Syntax.{next_statement, no_statements, output, unary, variable}
pub use Rattle.prem_syntax.specs.declared.meaning.Meaning.{Meaning}
pub use Rattle.prem_syntax.specs.declared.meaning.Meaning.TheVariants.{Array, Function, Nothing}
pub use Rattle.prem_syntax.specs.declared.rules.TypeRule.TheVariants.{Count, Job, Marked, Narrow, Range, Return, Target}
pub use Rattle.prem_syntax.specs.declared.tree.Place.{Place}
pub use Rattle.prem_syntax.specs.declared.tree.Ty.{Ty}
pub use Rattle.prem_syntax.specs.declared.tree.Ty.TheVariants.{Schar, Short, Uchar, Ushort, Void}
pub use Rattle.prem_syntax.specs.declared.tree.UnOp.TheVariants.{Flip, Neg, Not}
pub use Rattle.prem_word.proofs.Corners.{widened, word_below, word_in_whole, ≤ℤ_trans}
pub use Rattle.prem_word.proofs.Kept.{converted_kept, flip_kept, join_kept, negate_kept, range_kept, truths_kept, whole_kept, within_kept}
pub use Rattle.prem_word.specs.Ranges.{IsRange, LiesIn, Span, converted, encloses, exactly, from_to, join, truths, unless_empty, whole, within}
pub use Rattle.prem_word.specs.Words.{CanApply, apply_op, truth, value_in, word_of}
pub use Rattle.prem_word.specs.declared.kind.BinOp.{BinOp}
pub use Rattle.prem_word.specs.declared.kind.BinOp.TheVariants.{Add, And, Div, Eq, Ge, Gt, Le, Lt, Mul, Ne, Or, Rem, Shl, Shr, Sub, Xor}
pub use Rattle.prem_word.specs.declared.kind.Kind.{Kind}
pub use Rattle.prem_word.specs.declared.kind.Kind.TheVariants.{Int, Unsigned}
pub use Rattle.std.proofs.Math.Nat.{mul-le-mul_left, mul-le-mul_right, mul_assoc}
pub use Rattle.std.proofs.lemmas.Bool.{and_parts, both_ways, cases_eq, cases_lt, eqb-false, eqb-true, or_parts}
pub use Rattle.std.proofs.lemmas.Bool.Decides.{Decides-int_eq, nat_tests}
pub use Rattle.std.proofs.lemmas.Int.{clamps, int_wrap_fits, ints}
pub use Rattle.std.proofs.lemmas.List.{append-nil, append_assoc, get_or-append-add, get_or-set_other, get_or-set_same, get_or_append_left, length-append, length-map, length-replicate}
pub use Rattle.std.proofs.lemmas.List.{length-set, length-take, map-append, nil_from_length}
pub use Rattle.std.proofs.lemmas.Option.{slice_get-get_or, slice_get-map, slice_get_within}
pub use Rattle.std.specs.Int.{cast_signed, int_max, int_min, w16, w32, w8}
unfoldable pub use Rattle.std.specs.Int.{int_wrap}
pub use Rattle.std.specs.List.{flat_map, list_any, range_with_len}
pub use Rattle.std.specs.Option.{option_map}
pub use Rattle.std.specs.Prelude.{IsTrue, codes, negsuc, not, pos, slice_get, slice_index, slice_set, unwrap_or, ℤ, ⊤}
pub use Rattle.std.specs.Str.{bytes_eq}
