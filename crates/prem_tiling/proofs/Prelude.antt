-- What the files of this crate's proofs name of other modules, so that each imports it from one place.
pub use Rattle.prem_list.specs.Sequence.{items_of}
pub use Rattle.prem_names.proofs.Firsts.{within_names}
pub use Rattle.prem_names.specs.Numbers.{number_of}
pub use Rattle.prem_syntax.proofs.Rows.{statement_of-Block}
pub use Rattle.prem_syntax.specs.Breaches.{Around, around, assigns_within, breaches, callee_number, callees, callees_within, has_name, if_at, if_broken, in_assigned, in_call_target}
pub use Rattle.prem_syntax.specs.Breaches.{in_callee, in_declared, in_expression, in_expressions, in_function, in_global, in_heading, in_items, in_limits, in_locals, in_names, in_option}
pub use Rattle.prem_syntax.specs.Breaches.{in_parameters, in_region, in_regions, in_statement, in_statements, in_target, is_between, is_initial, is_int, is_int_local, is_job_name, is_length}
pub use Rattle.prem_syntax.specs.Breaches.{is_local, is_loop, is_marked_text, is_narrow, is_range, is_stated, is_void, item_name, item_names, parameter_texts, reached, regions_of, same_name}
pub use Rattle.prem_syntax.specs.Breaches.{table_of, unknown, used_indexed, used_plain}
pub use Rattle.prem_syntax.specs.Expressions.{Access, Outcome, and_then, cell, eval, eval_all, operate, or_wrong, truth_of, unary_word}
pub use Rattle.prem_syntax.specs.Name.{name_bytes}
pub use Rattle.prem_syntax.specs.ProgramRules.{IsWellFormed}
unfoldable pub use Rattle.prem_syntax.specs.ProgramRules.{first_breach}
pub use Rattle.prem_syntax.specs.Reach.{called_by, has_number, is_in_set, reached_by, with_called}
pub use Rattle.prem_syntax.specs.Resolve.{Scope, binary_term, call_steps, declared, element_term, find_function, find_global, find_local, find_named, first_meaning, functions_of}
pub use Rattle.prem_syntax.specs.Resolve.{global_meaning, globals_of, input_steps, kind_of, local_names, local_number, loop_local, loops_in, loops_within, meaning_of, number_named}
pub use Rattle.prem_syntax.specs.Resolve.{operand_kind, parameter_names, resolve, resolve_function, resolve_items, resolve_locals, resolve_statement, resolve_statements, resolve_term}
pub use Rattle.prem_syntax.specs.Resolve.{scope_at, scope_in, set_steps, target_of, variable_term}
pub use Rattle.prem_syntax.specs.Resolved.{Call, Constant, Done, For, If, Output, Resolved, Routine, Steps, Term, Unary, While, operator}
pub use Rattle.prem_syntax.specs.Rules.{Breach, CallOrder, Limit, LoopForm, NoJob, OfTypes, Rule, SystemCall, Twice, first, first_of}
pub use Rattle.prem_syntax.specs.Source.{access_of, calls_below, do_jobs, enter_if_there, everywhere, initial_words, source, start, this_or, unlimited}
pub use Rattle.prem_syntax.specs.Statements.{Calls, MarkedCall, ProgramState, choose, declare, enter, holds, in_bound, int_local, is_marked, leave, loop_step, loop_test, result_of, run}
pub use Rattle.prem_syntax.specs.Statements.{store, stored, take_input, value, values, with_cell, with_local, with_mark, with_new_local, with_output, with_target}
unfoldable pub use Rattle.prem_syntax.specs.Statements.{bounded, counting}
pub use Rattle.prem_syntax.specs.Syntax.{Expression, FunctionText, GlobalVariable, ItemText, LocalVariable, LoopNames, MarkText, Parameter, ProgramText, RegionText, Statement, Statements}
pub use Rattle.prem_syntax.specs.Syntax.{Text, absent, assign, binary, block, bounded_while, call, counting_for, element, function_item, global_item, if_else, if_then, input, literal}
pub use Rattle.prem_syntax.specs.Syntax.{next_statement, no_statements, output, unary, variable}
pub use Rattle.prem_syntax.specs.SyntaxOf.{expression_of, item_of, local_of, mark_of, parameter_of, program_of, region_of, statement_of, statements_before, statements_of}
pub use Rattle.prem_syntax.specs.declared.meaning.Meaning.{Meaning}
pub use Rattle.prem_syntax.specs.declared.meaning.Meaning.TheVariants.{Array, Function, Local, Nothing, Scalar}
pub use Rattle.prem_syntax.specs.declared.name.Name.{Name}
pub use Rattle.prem_syntax.specs.declared.tree.Place.{Place}
pub use Rattle.prem_syntax.specs.declared.tree.Stmt.{Block, Stmt}
pub use Rattle.prem_syntax.specs.declared.tree.Ty.{Ty}
pub use Rattle.prem_syntax.specs.declared.tree.Ty.TheVariants.{Void}
pub use Rattle.prem_tiling.specs.Copies.AddedOf.{added_view}
pub use Rattle.prem_tiling.specs.Copies.Copied.{all_with_calls, calls_before, with_calls}
pub use Rattle.prem_tiling.specs.Copies.CutOf.{IsReady, cut_in, narrowed_mark, narrowed_region}
pub use Rattle.prem_tiling.specs.Copies.Flags.{all_assigned_flags, assigned_flags, flag_at, flagged, read_by, read_by_all, read_by_option, with_flag}
pub use Rattle.prem_tiling.specs.Copies.ShapeOf.{loop_in, number_in}
pub use Rattle.prem_tiling.specs.Copies.StaleOf.{walk_of}
pub use Rattle.prem_tiling.specs.Copies.Walk.{Walk, all_walked, lowered, lowered_all, lowered_if, raised, reading, reading_all, reading_option, started, undone, unflagged, unflagged_before}
pub use Rattle.prem_tiling.specs.Copies.Walk.{walked}
pub use Rattle.prem_tiling.specs.Laws.CanCut.{CanCut}
pub use Rattle.prem_tiling.specs.Laws.Runs.{AreSame, AreTiles, MarksTiled, no_marks, other_mark, renumbered, tile_marks}
pub use Rattle.prem_tiling.specs.Shapes.Carried.{LocalSet, assign_within, assigns, behind, behind_all, carried_in, first_line, is_local_named, is_number, is_stale, names_of, read_in}
pub use Rattle.prem_tiling.specs.Shapes.Carried.{read_of, read_of_all, read_of_option, read_within, settled, settled_plain, stale_first, without}
pub use Rattle.prem_tiling.specs.Shapes.Narrowed.{Added, added_in, added_of, added_of_all, added_within, cut_to, elsewhere, joined, narrowed, nothing, within}
pub use Rattle.prem_tiling.specs.Shapes.Shape.{Loop, Number, are_constants, bound_of, has_call, have_call, is_constant, is_marked_as, loop_between, loop_of, marked_named, no_parameters}
pub use Rattle.prem_tiling.specs.Shapes.Shape.{only_loop, shape_of, turns_between, turns_of, without_call}
pub use Rattle.prem_tiling.specs.Shapes.Tile.{Past, TileRule, carry, cut_by, has_breach, is_past, limit, no_function, of_function, of_shape, shape, taken, tile, turns, unless_carried}
pub use Rattle.prem_tiling.specs.Shapes.Tile.{unless_taken}
pub use Rattle.prem_tiling.specs.Shapes.Tiled.{Cut, all_with_tiles, calls_from, closed_of, first_turn, function_with_tiles, high_of, is_last, item_with_tiles, last_of, low_of, taken_from}
pub use Rattle.prem_tiling.specs.Shapes.Tiled.{tile_mark, tile_name, tile_names, tile_of, tile_region, tiled, tiles_from, used_names, with_tiles, with_value}
pub use Rattle.prem_word.specs.Words.{value_in, word_of}
pub use Rattle.prem_word.specs.declared.kind.BinOp.TheVariants.{Add, AndAlso, OrElse, Sub}
pub use Rattle.prem_word.specs.declared.kind.Kind.{Kind}
pub use Rattle.prem_word.specs.declared.kind.Kind.TheVariants.{Int}
pub use Rattle.std.proofs.Common.{[], ap, arith, map, refl, sym, ◌∙◌}
pub use Rattle.std.proofs.Math.Nat.{div-add-mod, div-eq_of_lt, div-lt_iff_lt-mul, div-mul-le_self, le-div_iff_mul-le, le-mul_of_pos_right, mod-lt, mul-div_cancel_left, mul-le-mul_left}
pub use Rattle.std.proofs.Math.Nat.{mul-le-mul_right, mul-lt-mul_of_pos_left, mul-lt-mul_of_pos_right, mul-suc, mul-zero, mul_comm, zero-mul}
pub use Rattle.std.proofs.lemmas.Bool.{and_from, and_parts, cases_eq, cases_lt, eq-eqb, eqb-true, le-leb, le-ltb, leb-false, leb-true, lt-ltb, ltb-false, ltb-true, ne_eqb, not-true}
pub use Rattle.std.proofs.lemmas.Bool.{or_cases}
pub use Rattle.std.proofs.lemmas.Bool.Decides.{nat_tests}
pub use Rattle.std.proofs.lemmas.Int.{ints}
pub use Rattle.std.proofs.lemmas.List.{append-nil, drop-append-le, drop_more, get_or-replicate, get_or-set_other, get_or-set_same, get_or_past, length-append, length-map, length-replicate}
pub use Rattle.std.proofs.lemmas.List.{length-set, set-get_or, set-set, take-append-le, with_items_is}
pub use Rattle.std.proofs.lemmas.Slice.Eq.{bytes_eq-Decides}
unfoldable pub use Rattle.std.specs.Fmt.{digits}
pub use Rattle.std.specs.Int.{div_ceil, int_max, int_min}
pub use Rattle.std.specs.List.{flat_map, list_any}
pub use Rattle.std.specs.Prelude.{codes, decimal, nat_le, nat_lt, negsuc, pos, slice_get, slice_index, slice_set}
pub use Rattle.std.specs.Str.{bytes_eq}
