-- What the files of this crate's proofs name of other modules, so that each imports it from one place.
pub use Rattle.prem_analysis.specs.Analysed.{analysed_text}
pub use Rattle.prem_analysis.specs.Arms.{at_counting, at_term, at_while, bound_of, capped, in_given}
pub use Rattle.prem_analysis.specs.Functions.{AllRanged, behind_routine, behind_routines, plain_routine, site_at}
pub use Rattle.prem_analysis.specs.Marks.Called.{called, list_called, row_called}
pub use Rattle.prem_analysis.specs.Marks.Entries.{Entry, entries_from, entry, entry_if, entry_of}
pub use Rattle.prem_analysis.specs.Named.{Named}
pub use Rattle.prem_analysis.specs.Ranging.Plain.{plain, plain_before, plain_list, plain_row}
pub use Rattle.prem_analysis.specs.Ranging.SiteOf.{AreWatched, area_of, site_of, watch_of, watch_where, watches_at}
pub use Rattle.prem_analysis.specs.Ranging.Targets.{list_targets, row_targets, target_of, targets}
pub use Rattle.prem_analysis.specs.Ranging.View.{breach_of, env_of, found_of, known_of, row_span, saves_of, span_of}
pub use Rattle.prem_analysis.specs.Seen.{Seen, behind, counted, looked, noted, seen_of}
pub use Rattle.prem_analysis.specs.declared.ranging.found.Known.{Known}
pub use Rattle.prem_analysis.specs.declared.ranging.site.Marked.{Marked}
pub use Rattle.prem_list.specs.Sequence.{items_of}
pub use Rattle.prem_list.specs.declared.Sequence.{Sequence}
pub use Rattle.prem_ranges.proofs.AnalysisSound.{analysis_sound, is_none_tells, turns_are_words}
pub use Rattle.prem_ranges.proofs.FirstBreach.{first_assoc, first_none, first_of_append}
pub use Rattle.prem_ranges.proofs.SavesLemmas.Back.{HasAssigned, HasNamed, back_from_taken, differs_after, differs_at, differs_where, merged_arms, restored_few}
pub use Rattle.prem_ranges.proofs.SavesLemmas.Locals.{among, among-append, suc_suc}
pub use Rattle.prem_ranges.proofs.SavesLemmas.Ways.{ends}
pub use Rattle.prem_ranges.proofs.WellFormed.{well_formed_is_typed}
pub use Rattle.prem_ranges.specs.After.{after, assigns, at_body, behind_call, behind_loop, body_range, bounds, bounds_in, declared, end_of, in_body, in_counting, in_while, is_target}
pub use Rattle.prem_ranges.specs.After.{known_local, known_parameter, loop_end, range_behind, stated_or_whole, turn_bound}
pub use Rattle.prem_ranges.specs.Environment.{Environment, any_again, any_of, assigned, at_local, joined, loosened, range_at, with_range}
pub use Rattle.prem_ranges.specs.RangeBreaches.{Site, in_argument, in_arguments, in_counting_loop, in_divisor, in_element, in_index, in_locals, in_range_of_int, in_result, in_routine}
pub use Rattle.prem_ranges.specs.RangeBreaches.{in_routines, in_scalar, in_stated, in_steps, in_term, in_turns, in_watch, in_watches, length_of, parameters_of, range_breaches}
pub use Rattle.prem_ranges.specs.RangeOf.{cut_if_some, range_of, refined}
pub use Rattle.prem_ranges.specs.RangeRules.{ArgRange, IndexOutside, LoopBound, RangeBreach, RangeRule, RegionOutside, TooLarge, ZeroDivisor, comes_before, first, first_of, if_at}
pub use Rattle.prem_ranges.specs.RangesKept.{StaysInRange, resolved}
unfoldable pub use Rattle.prem_ranges.specs.RangesKept.{first_range_breach, turn_bounds}
pub use Rattle.prem_ranges.specs.Regions.{Area, Watch, areas_hold, watch_if, watches_from}
pub use Rattle.prem_ranges.specs.Saves.Saves.{Saved, few_or_all, known_at, merged, named, restored, saved, saved_few}
pub use Rattle.prem_ranges.specs.Sound.{Alike, AlikeRoutine, AllTyped, HasGlobal, Ranged, Typed, TypedLocals, TypedProgram, TypedResult, TypedRoutine, TypedSteps, alike_call, alike_done}
pub use Rattle.prem_ranges.specs.Sound.{alike_element, alike_for, alike_if, alike_input, alike_local, alike_output, alike_scalar, alike_while, kinds_of, next_ranged, none_ranged}
pub use Rattle.prem_syntax.specs.Literals.{ProgramHasWords}
pub use Rattle.prem_syntax.specs.ProgramRules.{IsWellFormed}
unfoldable pub use Rattle.prem_syntax.specs.ProgramRules.{first_breach}
pub use Rattle.prem_syntax.specs.Reach.{callee_table, callees_in, is_in, reach_set, with_all, with_callees_below}
pub use Rattle.prem_syntax.specs.Resolve.{find_named, functions_of, globals_of, loops_within, promoted, resolve_items}
pub use Rattle.prem_syntax.specs.Resolved.{AndAlso, Binary, Constant, Done, Element, For, If, OrElse, Resolved, Scalar, Steps, Term, Unary, While, operator}
pub use Rattle.prem_syntax.specs.Source.{unlimited}
pub use Rattle.prem_syntax.specs.Syntax.{FunctionText, GlobalVariable, LocalVariable, MarkText, Parameter, ProgramText, RegionText, function_item, global_item}
pub use Rattle.prem_syntax.specs.SyntaxOf.{function_of, global_of, local_of, mark_of, parameter_of, program_of, region_of}
pub use Rattle.prem_syntax.specs.declared.tree.Global.{Global}
pub use Rattle.prem_syntax.specs.declared.tree.Local.{Local}
pub use Rattle.prem_syntax.specs.declared.tree.Param.{Param}
pub use Rattle.prem_syntax.specs.declared.tree.Place.{Place}
pub use Rattle.prem_syntax.specs.declared.tree.Region.{Region}
pub use Rattle.prem_tree.specs.Resolve.ResolvedOf.{IsResolved, loops_of, resolved_of, routine_of, routines_of, row_before, step_before, term_of}
pub use Rattle.prem_tree.specs.declared.resolve.resolved.Routine.{Routine}
pub use Rattle.prem_tree.specs.declared.resolve.resolved.Step.{Block, Row_of-Step, Step, end_of-Step, items-the_row-Step, items_hidden-the_row-Step-0, more_of-Step}
pub use Rattle.prem_tree.specs.declared.resolve.resolved.Step.TheBlock.{hidden-the_row-Step-0}
pub use Rattle.prem_tree.specs.declared.resolve.resolved.Step.TheVariants.{Block', Call, For', If', Input, Output, SetElement, SetLocal, SetScalar, While'}
pub use Rattle.prem_word.specs.Ranges.{IsRange, Span, converted, encloses, exactly, from_to, holds, join, range_of_op, truths, whole, within}
pub use Rattle.prem_word.specs.declared.kind.BinOp.{BinOp}
pub use Rattle.prem_word.specs.declared.kind.BinOp.TheVariants.{Div, Rem}
pub use Rattle.prem_word.specs.declared.kind.Kind.{Kind}
pub use Rattle.prem_word.specs.declared.kind.Kind.TheVariants.{Int, Unsigned}
pub use Rattle.std.proofs.Common.{List, None, [], ap, arith, drop, eqb, map, of_z, refl, sym, to_z, ℕ, ◌∙◌}
pub use Rattle.std.proofs.lemmas.Bool.{and_parts, or_parts}
pub use Rattle.std.proofs.lemmas.Bool.Decides.{nat_tests}
pub use Rattle.std.proofs.lemmas.Int.{clamps, ints}
pub use Rattle.std.proofs.lemmas.List.{append-nil, append_assoc, drop_all, drop_more}
pub use Rattle.std.specs.Borrow.{Bor}
pub use Rattle.std.specs.Int.{int_max, w64}
pub use Rattle.std.specs.List.{list_any, range_with_len}
pub use Rattle.std.specs.Option.{option_map}
pub use Rattle.std.specs.Prelude.{All, IsTrue, is_none, nat_lt, not, slice_get, slice_index, ℤ}
