-- What the files of this crate's proofs name of other modules, so that each imports it from one place.
pub use Rattle.prem_annotating.specs.Annotated.{all_annotated, all_ranged, annotated, annotated_mark, but_regions, is_region_rule, marked_routine, marked_routines, other_breaches, ranged}
pub use Rattle.prem_annotating.specs.Annotated.{texts_of, with_mark, with_routines, with_texts}
unfoldable pub use Rattle.prem_annotating.specs.Annotated.{first_other}
pub use Rattle.prem_annotating.specs.Editing.Marks.{marks_of, placed, plain}
pub use Rattle.prem_annotating.specs.Editing.Orders.{StaysWhereSame, Wanted, all_orders, annotations, edited_text, function_orders, length_bytes, length_order, mark_orders, order_of}
pub use Rattle.prem_annotating.specs.Editing.Orders.{orders_from, range_at, range_bytes, range_order, range_orders, range_spelled, region_spelled, regions_bytes, regions_order}
pub use Rattle.prem_annotating.specs.Editing.Orders.{regions_spelled, same_region, same_regions, text_with, unplaced_wanted}
unfoldable pub use Rattle.prem_annotating.specs.Editing.Orders.{constant_bytes}
pub use Rattle.prem_annotating.specs.Editing.Standing.{advanced, behind_byte, behind_token, by_token, if_begun, one_if, over}
pub use Rattle.prem_annotating.specs.Editing.Walk.{Marked, Order, Step, at_byte, at_close, at_literal, at_name, at_token, begins, behind, behind_close, behind_name, behind_type, edited}
pub use Rattle.prem_annotating.specs.Editing.Walk.{elsewhere, first_if, first_order, gone, in_mark, in_parameters, in_range, is_close, is_open, is_predictable, is_range, is_type, kept}
pub use Rattle.prem_annotating.specs.Editing.Walk.{leave, marked, mode_of, put, put_for, rest_if, same_place, skipped, tokens_behind, type_or, walked, step}
pub use Rattle.prem_annotating.specs.Inferred.{argument_at, given, given_by, if_narrower, inferred, join_all, join_with, ranged_before, ranged_parameter, ranged_parameters, ranged_routine}
pub use Rattle.prem_annotating.specs.Inferred.{ranged_routines, stated_or, with_parameters}
pub use Rattle.prem_annotating.specs.Laws.{AnnotatedStaysInRange, HasRegion, IsLeast, IsOfGlobal, NewRangesHold, RangesAreInferred, RangesAreLeast, RangesFit, RegionsAreLeast, RegionsFit}
pub use Rattle.prem_annotating.specs.Laws.{at_mark, breaches_by, functions_in, parameter_at, region_breaches, with_ends, with_region}
pub use Rattle.prem_annotating.specs.Lists.{Among, Each}
pub use Rattle.prem_annotating.specs.Phrases.{AnnotatedFunction, AnnotatedItems, AnnotatedPhrasesAreRight, AnnotatedTextsAreThere, CanBeSaid, IsSaidMark, IsSaidRange, PlacesDontMatter}
pub use Rattle.prem_annotating.specs.Phrases.{ReadAsAnnotated, TextsAreAnnotated, a_function, a_global, anywhere, constant_phrase, no_items, range_phrase, region_row, with_items}
pub use Rattle.prem_annotating.specs.Pieces.{AreDivided, AreGaps, AreRegionWords, Edited, EditedTextsDivide, EndsInToken, LengthMayBePut, Piece, PiecesAreExact, PiecesSayAnnotations}
pub use Rattle.prem_annotating.specs.Pieces.{RangeMayBePut, RegionsMayBePut, a_token, all_edited, between, blank, bytes_of, constant_pieces, kept_piece, lexemes_in, mark_piece, range_pieces}
pub use Rattle.prem_annotating.specs.Pieces.{region_pieces, regions_pieces, said, text_of, with_length, with_range, with_regions}
pub use Rattle.prem_annotating.specs.Reached.{element_number, elements_if, elements_in, elements_of, region_of, regions_from, regions_reached}
pub use Rattle.prem_annotating.specs.Seen.{KnownCall, GlobalAccess, calls_in, calls_of, calls_of_all, touch, touched_by, touched_by_all, touched_by_locals, touched_by_result, touched_in}
pub use Rattle.prem_annotating.specs.Seen.{touches_of}
pub use Rattle.prem_annotating.specs.declared.editing.walk.GapMode.{GapMode}
pub use Rattle.prem_annotating.specs.declared.editing.walk.GapMode.TheVariants.{Copying, Dropping, Skipping}
pub use Rattle.prem_annotating.specs.declared.editing.walk.TokenPlace.{TokenPlace}
pub use Rattle.prem_annotating.specs.declared.editing.walk.TokenPlace.TheVariants.{AmongRegions, BehindName, BehindType, Elsewhere, InMark, InParameters, InRange}
pub use Rattle.prem_ranges.proofs.Basics.{is_at_most, is_below, is_not_below, none_first, none_left, none_right, tests_at_most, unbroken, unbroken_not}
pub use Rattle.prem_ranges.proofs.Environments.{kinds-at_local, kinds-joined, kinds-loosened}
pub use Rattle.prem_ranges.proofs.Expressions.{kinds-refined}
pub use Rattle.prem_ranges.proofs.Kept.{LoopFits, behind_kept, body_kept, ranged_any, ranged_call, ranged_counting, ranged_declared, ranged_joined, ranged_local, ranged_loosened}
pub use Rattle.prem_ranges.proofs.Kept.{ranged_refined, term_kept}
pub use Rattle.prem_ranges.proofs.Statements.{kinds-after, kinds-behind_call, kinds-in_body}
pub use Rattle.prem_ranges.proofs.WellFormed.{all_breaches, well_formed_is_typed}
pub use Rattle.prem_ranges.specs.After.{after, assigns, at_body, behind_call, behind_loop, body_range, declared, in_body, in_counting, in_while, known_local, known_parameter, loop_end}
pub use Rattle.prem_ranges.specs.After.{range_behind, stated_or_whole, turn_bound}
pub use Rattle.prem_ranges.specs.Environment.{Environment, Known, any_again, assigned, at_local, joined}
pub use Rattle.prem_ranges.specs.RangeBreaches.{Site, in_argument, in_arguments, in_counting_loop, in_divisor, in_element, in_index, in_locals, in_range_of_int, in_result, in_routine}
pub use Rattle.prem_ranges.specs.RangeBreaches.{in_routines, in_scalar, in_stated, in_steps, in_term, in_turns, in_watch, in_watches, length_of, parameters_of, range_breaches, site_of}
pub use Rattle.prem_ranges.specs.RangeOf.{range_of, refined}
pub use Rattle.prem_ranges.specs.RangeRules.{ArgRange, IndexOutside, LoopBound, RangeBreach, RangeRule, RegionOutside, TooLarge, ZeroDivisor, first_of, if_at}
pub use Rattle.prem_ranges.specs.RangesKept.{resolved}
unfoldable pub use Rattle.prem_ranges.specs.RangesKept.{first_range_breach}
pub use Rattle.prem_ranges.specs.Regions.{Area, Watch, area_holds, area_of, areas_hold, areas_of, watch_if, watches_from, watches_of}
pub use Rattle.prem_ranges.specs.Sound.{AllTyped, HasGlobal, Ranged, Typed, TypedLocals, TypedResult, TypedRoutine, TypedSteps, kinds_of, next_ranged, none_ranged}
pub use Rattle.prem_syntax.specs.Literals.{ProgramHasWords}
pub use Rattle.prem_syntax.specs.ProgramRules.{IsWellFormed}
unfoldable pub use Rattle.prem_syntax.specs.ProgramRules.{first_breach}
pub use Rattle.prem_syntax.specs.Reach.{callee_table, callees_in, is_in, is_in_set, reach_set}
pub use Rattle.prem_syntax.specs.Resolve.{Scope, binary_term, call_steps, element_term, find_function, find_named, first_meaning, functions_of, globals_of, input_steps, kind_of, local_names}
pub use Rattle.prem_syntax.specs.Resolve.{local_number, loops_in, loops_within, meaning_of, number_named, parameter_names, promoted, resolve, resolve_function, resolve_items, resolve_locals}
pub use Rattle.prem_syntax.specs.Resolve.{resolve_statement, resolve_statements, resolve_term, set_steps, target_of, variable_term}
pub use Rattle.prem_syntax.specs.Resolved.{AndAlso, Binary, Call, Constant, Done, Element, For, If, Input, Local, OrElse, Output, Resolved, Routine, Scalar, SetElement, SetLocal, SetScalar}
pub use Rattle.prem_syntax.specs.Resolved.{Steps, Term, Unary, While}
pub use Rattle.prem_syntax.specs.Source.{Limits, access_of, calls_below, do_jobs, enter_if_there, everywhere, source_within, this_or, unlimited, start}
pub use Rattle.prem_syntax.specs.Syntax.{Expression, FunctionText, GlobalVariable, LocalVariable, MarkText, Parameter, ProgramText, RegionText, Statement, Statements, Text, absent, assign}
pub use Rattle.prem_syntax.specs.Syntax.{binary, block, bounded_while, call, counting_for, element, function_item, global_item, if_else, if_then, input, literal, many, next_statement}
pub use Rattle.prem_syntax.specs.Syntax.{no_statements, one, output, unary, variable}
pub use Rattle.prem_syntax.specs.SyntaxOf.{function_of, mark_of, parameter_of}
pub use Rattle.prem_syntax.specs.declared.tree.Place.{Place}
pub use Rattle.prem_syntax.specs.declared.tree.Ty.{Ty}
pub use Rattle.prem_text.proofs.CanonicalLemmas.Sayable.{AreSaid, AreSayable, IsSayable, front, number_said, tokens_said}
pub use Rattle.prem_text.proofs.SpellingLemmas.Exact.{complete, sound}
pub use Rattle.prem_text.proofs.SpellingLemmas.Front.{Shape, Taken, a_mark, a_word, shape, token_taken}
pub use Rattle.prem_text.proofs.SpellingLemmas.Literals.{is_number_row, literal_row}
pub use Rattle.prem_text.proofs.SpellingLemmas.Tables.{is_word_row, reserved_row, same_bytes, stands_every}
pub use Rattle.prem_text.proofs.Whole.{text_read}
pub use Rattle.prem_text.specs.Canonical.Canonical.{constant_lexemes, declaration_lexemes, function_lexemes, global_lexemes, initial_lexemes, kind_for, length_lexemes, locals_lexemes}
pub use Rattle.prem_text.specs.Canonical.Canonical.{mark_lexemes, number_lexeme, parameters_lexemes, program_lexemes, range_lexemes, region_lexemes, regions_lexemes, result_lexemes}
pub use Rattle.prem_text.specs.Canonical.Canonical.{statements_lexemes, type_lexemes}
pub use Rattle.prem_text.specs.Canonical.Law.{lexemes_of}
pub use Rattle.prem_text.specs.Canonical.Printed.{lexeme_bytes}
pub use Rattle.prem_text.specs.Canonical.Unplaced.{unplaced, unplaced_expression, unplaced_function, unplaced_global, unplaced_item, unplaced_local, unplaced_mark, unplaced_parameter}
pub use Rattle.prem_text.specs.Canonical.Unplaced.{unplaced_region, unplaced_statement, unplaced_statements}
pub use Rattle.prem_text.specs.Grammar.Phrases.{Binds, IsExpression, IsRow, Phrase, counted, level, name_at, name_or_none, of_bracket, of_element, of_infix, of_literal, of_name, of_prefix}
pub use Rattle.prem_text.specs.Grammar.Phrases.{opening, quiet, spelled, tree}
pub use Rattle.prem_text.specs.Grammar.ProgramPhrases.{AreItems, AreLocals, AreParameters, ArePartedConstants, ArePartedParameters, AreRegions, ConstantPhrase, Declaration, FunctionPhrase}
pub use Rattle.prem_text.specs.Grammar.ProgramPhrases.{GlobalPhrase, InitialPhrase, IsConstant, IsDeclaration, IsFunction, IsGlobal, IsInitial, IsItem, IsLength, IsMark, IsParameter}
pub use Rattle.prem_text.specs.Grammar.ProgramPhrases.{IsProgram, IsRange, IsResult, ItemPhrase, LocalPhrase, MarkPhrase, ParameterPhrase, ParametersPhrase, PartedConstant, PartedParameter}
pub use Rattle.prem_text.specs.Grammar.ProgramPhrases.{ProgramPhrase, RangePhrase, ResultPhrase, TypeForm, begins_void, constant_slots, constant_tree, constant_value, constants_tokens}
pub use Rattle.prem_text.specs.Grammar.ProgramPhrases.{constants_tree, declaration_tokens, function_past, function_tokens, function_tree, global_tokens, global_tree, initial_tokens}
pub use Rattle.prem_text.specs.Grammar.ProgramPhrases.{initial_tree, int_type, is_void_form, item_past, item_tokens, item_tree, items_past, items_tokens, items_tree, length_tokens}
pub use Rattle.prem_text.specs.Grammar.ProgramPhrases.{length_tree, local_past, local_tokens, local_trees, many_initial, mark_tokens, mark_tree, no_initial, of_function, of_global}
pub use Rattle.prem_text.specs.Grammar.ProgramPhrases.{of_parameters, of_void, one_initial, parameter_tokens, parameter_tree, parameters_tokens, parameters_tree, parted_parameter_tokens}
pub use Rattle.prem_text.specs.Grammar.ProgramPhrases.{parted_parameter_trees, program_past, program_tokens, program_tree, range_tokens, range_tree, region_tokens, region_trees, result_past}
pub use Rattle.prem_text.specs.Grammar.ProgramPhrases.{result_tokens, result_tree, short_type, signed_char_type, type_of, type_slots, unsigned_char_type, unsigned_int_type}
pub use Rattle.prem_text.specs.Grammar.ProgramPhrases.{unsigned_short_type, unsigned_type, void_type}
pub use Rattle.prem_text.specs.Grammar.Reader.{nowhere, read}
pub use Rattle.prem_text.specs.Grammar.Slots.{Slot, a_literal, a_name, comma, equal_sign, fits, is_char, is_comma, is_end, is_int, is_left_parenthesis, is_literal, is_name}
pub use Rattle.prem_text.specs.Grammar.Slots.{is_right_parenthesis, is_short, is_signed, is_unsigned, is_void, left_brace, left_bracket, left_parenthesis, minus_sign, place_at, right_brace}
pub use Rattle.prem_text.specs.Grammar.Slots.{right_bracket, right_parenthesis, semicolon, text_at, the_char, the_else, the_end, the_int, the_predictable, the_range, the_region, the_return}
pub use Rattle.prem_text.specs.Grammar.Slots.{the_short, the_signed, the_unsigned, the_void, value_at, value_of}
pub use Rattle.prem_text.specs.Grammar.Statement.{changed, listed, side}
pub use Rattle.prem_text.specs.Grammar.StatementPhrases.{AreArguments, AreParted, AreStatements, Arguments, Direction, IsStatement, IsTarget, Parted, StatementPhrase, StatementPhrases}
pub use Rattle.prem_text.specs.Grammar.StatementPhrases.{StepForm, Target, added_step, all_meant, all_past, all_written, argument_past, argument_tokens, argument_trees, arguments}
pub use Rattle.prem_text.specs.Grammar.StatementPhrases.{by_one_step, call_head, call_to_head, change_op, change_sign, count_sign, down, ends_open, for_bound, for_head, fourth_name, if_head}
pub use Rattle.prem_text.specs.Grammar.StatementPhrases.{input_row, meant, next_phrase, no_arguments, no_phrases, of_assign, of_block, of_call, of_call_to, of_change, of_count, of_else}
pub use Rattle.prem_text.specs.Grammar.StatementPhrases.{of_for, of_if, of_input, of_output, of_while, out_head, parted_past, parted_tokens, parted_trees, past, statement_tail, step_size}
pub use Rattle.prem_text.specs.Grammar.StatementPhrases.{step_slots, summed_step, target_at, target_index, target_past, target_text, target_tokens, to_element, to_name, up, while_head}
pub use Rattle.prem_text.specs.Grammar.StatementPhrases.{written}
pub use Rattle.prem_text.specs.Lexing.Spelling.{marks}
unfoldable pub use Rattle.prem_text.specs.Lexing.Spelling.{is_unused, longest_mark, reserved_word, used_word}
pub use Rattle.prem_text.specs.Lexing.Token.Lexeme.{Lexeme, Seen, end_of_text, lexeme_of, name, number, seen_of, word, mark}
pub use Rattle.prem_text.specs.Lexing.Tokens.{begins_with, is_digit, is_name_byte, place}
unfoldable pub use Rattle.prem_text.specs.Lexing.Tokens.{first_token, lex, tokens_of}
pub use Rattle.prem_text.specs.Spelling.Division.{AreTokens, Divides, Gap, IsToken, a_blank, a_block, a_line, ends_line, gap, goes_on, opens_comment, place_behind, token, up_to}
pub use Rattle.prem_text.specs.Spelling.Spellings.{Literal, Reserved, Spells, StandsIn, as_literal, as_mark, as_name, as_word, every, is_letter}
pub use Rattle.prem_text.specs.Texts.{IsProgramText, reads}
pub use Rattle.prem_text.specs.declared.lexing.token.fail.FrontFail.{FrontFail}
pub use Rattle.prem_text.specs.declared.lexing.token.token.Mark.{Mark}
pub use Rattle.prem_text.specs.declared.lexing.token.token.Word.{Word}
pub use Rattle.prem_word.proofs.Kept.{converted_kept, join_kept, whole_kept}
pub use Rattle.prem_word.specs.Ranges.{Span, converted, encloses, exactly, from_to, holds, join, whole}
pub use Rattle.prem_word.specs.declared.kind.BinOp.{BinOp}
pub use Rattle.prem_word.specs.declared.kind.BinOp.TheVariants.{Add, And, Div, Eq, Ge, Gt, Le, Lt, Mul, Ne, Or, Rem, Shl, Shr, Sub, Xor}
pub use Rattle.prem_word.specs.declared.kind.Kind.{Kind}
pub use Rattle.prem_word.specs.declared.kind.Kind.TheVariants.{Int, Unsigned}
pub use Rattle.std.proofs.lemmas.Bool.{and_from, and_left, and_parts, and_right, or_from}
pub use Rattle.std.proofs.lemmas.Bool.Decides.{nat_tests}
pub use Rattle.std.proofs.lemmas.Grind.{flat_map-append}
pub use Rattle.std.proofs.lemmas.Int.{clamps, ints}
pub use Rattle.std.proofs.lemmas.List.{append_cancel_right, drop_all, length-map, map-append}
pub use Rattle.std.proofs.lemmas.List.Elements.{filter-append}
pub use Rattle.std.proofs.lemmas.Slice.Eq.{bytes_eq-Decides}
pub use Rattle.std.specs.Int.{int_max, int_min}
pub use Rattle.std.specs.List.{filter, flat_map, list_any}
pub use Rattle.std.specs.Option.{option_map}
pub use Rattle.std.specs.Prelude.{codes, int_le, int_lt, is_some, max, nat_lt, neg_ℤ, negsuc, not, pos, slice_get, unsigned_abs, unwrap_or, ℤ}
pub use Rattle.std.specs.Str.{bytes_eq}
