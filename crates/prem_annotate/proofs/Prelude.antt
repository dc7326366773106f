-- What the files of this crate's proofs name of other modules, so that each imports it from one place.
pub use Rattle.prem_analysis.proofs.Behind.{ranged_item, routine_arm, seen}
pub use Rattle.prem_analysis.proofs.InPlace.{for_known, if_known, if_other_known, set_again, while_known}
pub use Rattle.prem_analysis.proofs.Programs.{all_ranged}
pub use Rattle.prem_analysis.proofs.RangingLemmas.Sequences.{after-step, block_is}
pub use Rattle.prem_analysis.specs.Functions.{AllRanged, plain_routine}
pub use Rattle.prem_analysis.specs.Marks.Called.{called}
pub use Rattle.prem_analysis.specs.Ranging.Plain.{plain, plain_before, plain_list, plain_row}
pub use Rattle.prem_analysis.specs.Ranging.View.{env_of, found_of, saves_of, span_of}
pub use Rattle.prem_annotate.specs.Notes.{LengthsArePut, Notes, all_notes_found, length_at, lengthened, lengthened_mark, mark_found, no_lengths, notes, notes_of, resolved_notes}
pub use Rattle.prem_annotate.specs.Ranges.Outlook.{Outlook, outlook, outlook_of, outlook_with, ranges_of}
pub use Rattle.prem_annotate.specs.Ranges.Slots.{at_number, empty_row, empty_slot, given, row_of, slot, slot_of, with_argument, with_arguments, with_slot, with_slots}
pub use Rattle.prem_annotate.specs.Regions.Elements.{elements_of, widened, with_members, with_touch, with_touches, with_touches_if}
pub use Rattle.prem_annotate.specs.Regions.Found.{no_elements, regions_around, regions_found}
pub use Rattle.prem_annotate.specs.Rules.First.{Tellable, TellableIf, breaches_among, first_in, routine_with, unwatched_site}
pub use Rattle.prem_annotate.specs.Seeing.Sight.{Sight, argument, argument_of, both, sight_of, touch_of, touched}
pub use Rattle.prem_annotate.specs.Seeing.Walk.{arguments_from, begun, behind, looked, passed, seen_with}
pub use Rattle.prem_annotate.specs.Writing.Text.{annotated_text, orders_at, orders_from, wanted}
pub use Rattle.prem_annotate.specs.declared.ranges.slots.ParameterRange.{ParameterRange}
pub use Rattle.prem_annotate.specs.declared.seeing.sight.Argument.{Argument}
pub use Rattle.prem_annotating.proofs.Calls.{new_ranges_hold}
pub use Rattle.prem_annotating.specs.Annotated.{all_annotated, annotated_mark, marked_routines, texts_of}
unfoldable pub use Rattle.prem_annotating.specs.Annotated.{first_other}
pub use Rattle.prem_annotating.specs.Editing.Orders.{Wanted, all_orders, annotations, edited_text, function_orders, order_of, text_with, unplaced_wanted}
pub use Rattle.prem_annotating.specs.Inferred.{argument_at, given_by, if_narrower, join_all, ranged_parameters, ranged_routine, ranged_routines, stated_or, with_parameters}
pub use Rattle.prem_annotating.specs.Reached.{elements_if, elements_in, regions_from, regions_reached}
pub use Rattle.prem_annotating.specs.Seen.{KnownCall, GlobalAccess, calls_in, calls_of, calls_of_all, known_call, touch, touched_by, touched_by_all, touched_by_locals, touched_by_result}
pub use Rattle.prem_annotating.specs.Seen.{touched_in, touches_of}
pub use Rattle.prem_list.specs.Sequence.{items_of}
pub use Rattle.prem_ranges.proofs.Alike.{SameSite, both_same, in_routine-alike}
pub use Rattle.prem_ranges.specs.After.{after, assigns, at_body, behind_call, behind_loop, body_range, declared, end_of, in_body, in_counting, in_while, is_target, known_local}
pub use Rattle.prem_ranges.specs.After.{known_parameter, loop_end, range_behind, stated_or_whole, turn_bound}
pub use Rattle.prem_ranges.specs.Environment.{Environment, any_again, assigned, at_local, joined, loosened, with_range}
pub use Rattle.prem_ranges.specs.RangeBreaches.{Site, in_argument, in_arguments, in_counting_loop, in_divisor, in_element, in_index, in_locals, in_range_of_int, in_result, in_routine}
pub use Rattle.prem_ranges.specs.RangeBreaches.{in_stated, in_steps, in_term, in_turns, length_of, parameters_of}
pub use Rattle.prem_ranges.specs.RangeOf.{range_of, refined}
pub use Rattle.prem_ranges.specs.RangeRules.{ArgRange, IndexOutside, LoopBound, RangeBreach, RangeRule, TooLarge, ZeroDivisor, comes_before, first, first_of, if_at}
pub use Rattle.prem_ranges.specs.RangesKept.{resolved}
pub use Rattle.prem_ranges.specs.Saves.Saves.{merged, restored, saved_few}
pub use Rattle.prem_ranges.specs.Sound.{Alike, AlikeRoutine, AlikeRoutines, Ranged, alike_call, alike_done, alike_element, alike_for, alike_if, alike_input, alike_local, alike_output}
pub use Rattle.prem_ranges.specs.Sound.{alike_scalar, alike_while, next_ranged, next_routine, no_routines, none_ranged}
pub use Rattle.prem_syntax.specs.Literals.{ProgramHasWords}
pub use Rattle.prem_syntax.specs.ProgramRules.{IsWellFormed}
pub use Rattle.prem_syntax.specs.Reach.{callee_table, callees_in, is_in, reach_set}
pub use Rattle.prem_syntax.specs.Resolve.{functions_of, promoted}
pub use Rattle.prem_syntax.specs.Resolved.{AndAlso, Binary, Call, Constant, Done, Element, For, If, Input, OrElse, Output, Routine, Scalar, SetElement, SetLocal, SetScalar, Steps, Term}
pub use Rattle.prem_syntax.specs.Resolved.{Unary, While, operator}
pub use Rattle.prem_syntax.specs.Source.{unlimited}
pub use Rattle.prem_syntax.specs.Syntax.{FunctionText, GlobalVariable, LocalVariable, MarkText, Parameter, ProgramText, RegionText}
pub use Rattle.prem_syntax.specs.SyntaxOf.{function_of, global_of, item_of, local_of, parameter_of, program_of, region_of}
pub use Rattle.prem_syntax.specs.declared.tree.Local.{Local}
pub use Rattle.prem_syntax.specs.declared.tree.Param.{Param}
pub use Rattle.prem_syntax.specs.declared.tree.Place.{Place}
pub use Rattle.prem_tree.specs.Resolve.ResolvedOf.{IsResolved, loops_of, resolved_of, routine_of, routines_of, term_of}
pub use Rattle.prem_tree.specs.declared.resolve.resolved.Resolved.{Resolved}
pub use Rattle.prem_tree.specs.declared.resolve.resolved.Step.{Row_of-Step, Step, end_of-Step, more_of-Step}
pub use Rattle.prem_word.specs.Ranges.{IsRange, Span, converted, encloses, exactly, from_to, holds}
pub use Rattle.prem_word.specs.declared.kind.BinOp.{BinOp}
pub use Rattle.prem_word.specs.declared.kind.BinOp.TheVariants.{Div, Rem}
pub use Rattle.prem_word.specs.declared.kind.Kind.{Kind}
pub use Rattle.std.proofs.Common.{List, None, Some, ap, arith, drop, map, refl, subst, sym, ◌∙◌}
pub use Rattle.std.proofs.lemmas.Bool.Decides.{nat_tests}
pub use Rattle.std.proofs.lemmas.Int.{clamps, ints}
pub use Rattle.std.proofs.lemmas.List.{append-nil, append_assoc, drop_all, drop_more, length-map, reverse-append}
pub use Rattle.std.specs.Global.{Global}
pub use Rattle.std.specs.Int.{w64}
pub use Rattle.std.specs.List.{flat_map}
pub use Rattle.std.specs.Option.{option_map}
pub use Rattle.std.specs.Prelude.{Vec, max, pos}
