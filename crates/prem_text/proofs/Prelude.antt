-- What the files of this crate's proofs name of other modules, so that each imports it from one place.
pub use Rattle.prem_syntax.specs.Literals.{HasWords, HasWordsIf, HaveWords, LocalsHaveWords, ProgramHasWords, StatementHasWords, StatementsHaveWords}
pub use Rattle.prem_syntax.specs.Syntax.{Expression, FunctionText, GlobalVariable, InitialValue, ItemText, LocalVariable, MarkText, Parameter, ProgramText, RegionText, Statement, Statements}
pub use Rattle.prem_syntax.specs.Syntax.{Text, absent, assign, binary, block, bounded_while, call, counting_for, element, function_item, global_item, if_else, if_then, input, literal, many}
pub use Rattle.prem_syntax.specs.Syntax.{next_statement, no_statements, one, output, unary, variable}
pub use Rattle.prem_syntax.specs.declared.tree.Place.{Place}
pub use Rattle.prem_syntax.specs.declared.tree.Ty.{Ty}
pub use Rattle.prem_syntax.specs.declared.tree.UnOp.{UnOp}
pub use Rattle.prem_syntax.specs.declared.tree.UnOp.TheVariants.{Flip, Neg, Not}
pub use Rattle.prem_text.specs.Canonical.Canonical.{argument_lexemes, bound_lexemes, call_lexemes, comparison_sign, constant_lexemes, constants_lexemes, declaration_lexemes, enclosed}
pub use Rattle.prem_text.specs.Canonical.Canonical.{expression_lexemes, for_lexemes, function_lexemes, global_lexemes, if_lexemes, infix_sign, initial_lexemes, item_lexemes, length_lexemes}
pub use Rattle.prem_text.specs.Canonical.Canonical.{local_lexemes, locals_lexemes, mark_lexemes, more_arguments, more_constants, more_parameters, number_lexeme, parameter_lexemes}
pub use Rattle.prem_text.specs.Canonical.Canonical.{parameters_lexemes, prefix_sign, program_lexemes, range_lexemes, region_lexemes, regions_lexemes, result_lexemes, statement_lexemes}
pub use Rattle.prem_text.specs.Canonical.Canonical.{statements_lexemes, step_lexemes, tail_lexemes, target_lexemes, type_lexemes, while_lexemes}
pub use Rattle.prem_text.specs.Canonical.Law.{AreCanonical, Fits, HasFewest, IsOfText, IsSpelled, IsTextOf, IsTooLong, ReadBack, gives_back, is_too_long, lexemes_of, parentheses}
pub use Rattle.prem_text.specs.Canonical.Law.{too_many_bytes, too_many_tokens}
pub use Rattle.prem_text.specs.Canonical.Printed.{lexeme_bytes, mark_bytes, printed, spelling_of, word_bytes}
pub use Rattle.prem_text.specs.Canonical.Unplaced.{unplaced, unplaced_expression, unplaced_function, unplaced_global, unplaced_item, unplaced_local, unplaced_mark, unplaced_parameter}
pub use Rattle.prem_text.specs.Canonical.Unplaced.{unplaced_region, unplaced_statement, unplaced_statements}
pub use Rattle.prem_text.specs.Grammar.Expression.{Move, Open, State, behind, bind, bottom, bracket, closing, ends, goes, has, index_of, infix_of, level_of, move, named, operand, operator}
pub use Rattle.prem_text.specs.Grammar.Expression.{prefix_of, right_of, stops, under, wants}
pub use Rattle.prem_text.specs.Grammar.Item.{Constant, Declared, ItemRow, ItemStep, Stage, Typing, Value, a_local, a_parameter, a_type, after_signed, after_unsigned, ahead, an_item}
pub use Rattle.prem_text.specs.Grammar.Item.{before_constant, before_initial, before_local, before_parameter, begins_type, behind_constant, behind_global, behind_item, behind_parameter}
pub use Rattle.prem_text.specs.Grammar.Item.{body_ends, body_row, constant, constant_ends, constant_of, declared, end_row, finished, global_ends, global_or, global_row, in_row}
pub use Rattle.prem_text.specs.Grammar.Item.{in_statements, in_type, in_value, is_too_deep, length_row, local_row, local_value, made, mark_row, marked, next_value, no_type, on_parameter}
pub use Rattle.prem_text.specs.Grammar.Item.{only_value, outside, parameter_ends, range_high, range_low, range_row, refused, region_row, result_value, row_ends, row_goes_on, scalar}
pub use Rattle.prem_text.specs.Grammar.Item.{statement_step, type_begins, type_in, type_or_name, value_ends, with_body, with_initial, with_local, with_parameter, with_range, with_region}
pub use Rattle.prem_text.specs.Grammar.Item.{with_result}
unfoldable pub use Rattle.prem_text.specs.Grammar.Item.{step}
pub use Rattle.prem_text.specs.Grammar.Law.{Begins, IsPast, IsUnexpected, are_within, body_begins, depths, ends_body, is_closer, limits, moves, stages, turns}
pub use Rattle.prem_text.specs.Grammar.Phrases.{Binds, IsExpression, IsRow, Phrase, counted, level, name_at, name_or_none, of_bracket, of_element, of_infix, of_literal, of_name, of_prefix}
pub use Rattle.prem_text.specs.Grammar.Phrases.{opening, quiet, spelled, tree}
pub use Rattle.prem_text.specs.Grammar.ProgramPhrases.{AreItems, AreLocals, AreParameters, ArePartedConstants, ArePartedParameters, AreRegions, ConstantPhrase, Declaration, FunctionPhrase}
pub use Rattle.prem_text.specs.Grammar.ProgramPhrases.{GlobalPhrase, InitialPhrase, IsConstant, IsDeclaration, IsFunction, IsGlobal, IsInitial, IsItem, IsLength, IsMark, IsParameter}
pub use Rattle.prem_text.specs.Grammar.ProgramPhrases.{IsProgram, IsRange, IsResult, ItemPhrase, LocalPhrase, MarkPhrase, ParameterPhrase, ParametersPhrase, PartedConstant, PartedParameter}
pub use Rattle.prem_text.specs.Grammar.ProgramPhrases.{ProgramPhrase, RangePhrase, ResultPhrase, TypeForm, begins_void, constant_slots, constant_tree, constant_value, constants_tokens}
pub use Rattle.prem_text.specs.Grammar.ProgramPhrases.{constants_tree, declaration_tokens, function_tokens, function_tree, global_tokens, global_tree, initial_tokens, initial_tree, int_type}
pub use Rattle.prem_text.specs.Grammar.ProgramPhrases.{is_void_form, item_past, item_tokens, item_tree, items_past, items_tokens, items_tree, length_tokens, length_tree, local_past}
pub use Rattle.prem_text.specs.Grammar.ProgramPhrases.{local_tokens, local_trees, many_initial, mark_tokens, mark_tree, no_initial, of_function, of_global, of_parameters, of_void}
pub use Rattle.prem_text.specs.Grammar.ProgramPhrases.{one_initial, parameter_tokens, parameter_tree, parameters_tokens, parameters_tree, parted_parameter_tokens, parted_parameter_trees}
pub use Rattle.prem_text.specs.Grammar.ProgramPhrases.{program_past, program_tokens, program_tree, range_tokens, range_tree, region_tokens, region_trees, result_past, result_tokens}
pub use Rattle.prem_text.specs.Grammar.ProgramPhrases.{result_tree, short_type, signed_char_type, type_of, type_slots, unsigned_char_type, unsigned_int_type, unsigned_short_type}
pub use Rattle.prem_text.specs.Grammar.ProgramPhrases.{unsigned_type, void_type}
pub use Rattle.prem_text.specs.Grammar.Reader.{at_end, nowhere, read, read_on, unless_deep}
pub use Rattle.prem_text.specs.Grammar.Slots.{Slot, a_literal, a_name, comma, comparison, equal_sign, fits, is_bounded, is_comma, is_comparison, is_else, is_end, is_equal, is_for, is_if}
pub use Rattle.prem_text.specs.Grammar.Slots.{is_in, is_left_brace, is_left_bracket, is_left_parenthesis, is_literal, is_name, is_out, is_predictable, is_range, is_region, is_return}
pub use Rattle.prem_text.specs.Grammar.Slots.{is_right_brace, is_right_parenthesis, is_semicolon, is_void, left_brace, left_bracket, left_parenthesis, minus_equal, minus_minus, minus_sign}
pub use Rattle.prem_text.specs.Grammar.Slots.{place_at, plus_equal, plus_plus, plus_sign, right_brace, right_bracket, right_parenthesis, semicolon, step_sign, text_at, text_of, the_bounded}
pub use Rattle.prem_text.specs.Grammar.Slots.{the_char, the_else, the_end, the_for, the_if, the_in, the_int, the_out, the_predictable, the_range, the_region, the_return, the_short}
pub use Rattle.prem_text.specs.Grammar.Slots.{the_signed, the_unsigned, the_void, the_while, value_at, value_of}
pub use Rattle.prem_text.specs.Grammar.Statement.{Around, Header, Point, Row, Turn, Use, at_start, begin, begins_row, begins_statement, behind_name, between, bound_row, by_one, called}
pub use Rattle.prem_text.specs.Grammar.Statement.{change, changed, else_or, ended, expression, filled, filled_or, filling, finish, for_argument, for_change, for_high, for_if, for_index}
pub use Rattle.prem_text.specs.Grammar.Statement.{for_low, for_output, for_row, for_value, for_while, fourth_in, if_row, in_block, in_body, in_for, in_other, in_taken, in_while, inside}
pub use Rattle.prem_text.specs.Grammar.Statement.{is_at_most, is_past, is_start, last_row, least_of, leaves, listed, lone_name, looped, may_else, nests, next, on, on_element, on_name}
pub use Rattle.prem_text.specs.Grammar.Statement.{out_row, rest_of_step, settled, side, sign_row, statement, step_in, step_row, turn, used, when, while_row, without, wrong}
pub use Rattle.prem_text.specs.Grammar.StatementPhrases.{AreArguments, AreParted, AreStatements, Arguments, Direction, IsStatement, IsTarget, Parted, StatementPhrase, StatementPhrases}
pub use Rattle.prem_text.specs.Grammar.StatementPhrases.{StepForm, Target, added_step, all_meant, all_past, all_written, argument_past, argument_tokens, argument_trees, arguments}
pub use Rattle.prem_text.specs.Grammar.StatementPhrases.{by_one_step, call_head, call_to_head, change_op, change_sign, count_sign, down, ends_open, for_bound, for_head, fourth_name, if_head}
pub use Rattle.prem_text.specs.Grammar.StatementPhrases.{input_row, loop_names, meant, next_phrase, no_arguments, no_phrases, of_assign, of_block, of_call, of_call_to, of_change, of_count}
pub use Rattle.prem_text.specs.Grammar.StatementPhrases.{of_else, of_for, of_if, of_input, of_output, of_while, out_head, parted_past, parted_tokens, parted_trees, past, statement_tail}
pub use Rattle.prem_text.specs.Grammar.StatementPhrases.{step_size, step_slots, summed_step, target_at, target_index, target_past, target_text, target_tokens, to_element, to_name, up}
pub use Rattle.prem_text.specs.Grammar.StatementPhrases.{while_head, written}
pub use Rattle.prem_text.specs.Lexing.Literal.{digit_value, is_suffix, with_kind}
unfoldable pub use Rattle.prem_text.specs.Lexing.Literal.{digits, literal_word}
pub use Rattle.prem_text.specs.Lexing.Spelling.{begins, is_one_of, mark_in, marks, unused, word_in, words}
unfoldable pub use Rattle.prem_text.specs.Lexing.Spelling.{is_unused, longest_mark, reserved_word, used_word}
pub use Rattle.prem_text.specs.Lexing.Token.Lexeme.{Lexeme, Seen, end_of_text, lexeme_of, mark, name, number, seen_of, word}
pub use Rattle.prem_text.specs.Lexing.Token.Reading.{Fails, no_program, no_token, too_deep, ◌>>=◌}
pub use Rattle.prem_text.specs.Lexing.Tokens.{beginning, begins_with, is_blank, is_digit, is_name_byte, is_printable, place, plain_word, put, with_front, word_token}
unfoldable pub use Rattle.prem_text.specs.Lexing.Tokens.{first_token, lex, start, tokens_of}
pub use Rattle.prem_text.specs.Spelling.Division.{AreTokens, Divides, Gap, IsToken, Refused, Sticks, a_blank, a_block, a_line, ends_line, gap, goes_on, has_close, is_feed, is_mark, is_text}
pub use Rattle.prem_text.specs.Spelling.Division.{no_text, opens_comment, place_behind, token, too_long, too_many, up_to}
pub use Rattle.prem_text.specs.Spelling.Spelled.{AreSpellings, Spelling, joined, placed}
pub use Rattle.prem_text.specs.Spelling.Spellings.{Digits, Literal, Reserved, Spells, StandsIn, as_int, as_large, as_literal, as_mark, as_name, as_suffixed, as_word, at_front, decimal}
pub use Rattle.prem_text.specs.Spelling.Spellings.{every, further, hexadecimal, is_hexadecimal, is_letter, just_zero, value_in, without_use}
pub use Rattle.prem_text.specs.Texts.{IsNoProgram, IsProgramText, not_divided, reads, unexpected}
pub use Rattle.prem_text.specs.declared.lexing.lexer.Cursor.{Cursor}
pub use Rattle.prem_text.specs.declared.lexing.lexer.Mode.{Mode}
pub use Rattle.prem_text.specs.declared.lexing.lexer.Mode.TheVariants.{Block, Line, Skip}
pub use Rattle.prem_text.specs.declared.lexing.token.fail.FrontFail.{FrontFail}
pub use Rattle.prem_text.specs.declared.lexing.token.fail.FrontFail.TheVariants.{NotText, OutOfMemory, Syntax, Token, TooDeep, TooLong}
pub use Rattle.prem_text.specs.declared.lexing.token.token.Mark.{Mark}
pub use Rattle.prem_text.specs.declared.lexing.token.token.Word.{Word}
pub use Rattle.prem_word.specs.declared.kind.BinOp.{BinOp}
pub use Rattle.prem_word.specs.declared.kind.BinOp.TheVariants.{Add, And, AndAlso, Div, Eq, Ge, Gt, Le, Lt, Mul, Ne, Or, OrElse, Rem, Shl, Shr, Sub, Xor}
pub use Rattle.prem_word.specs.declared.kind.Kind.{Kind}
pub use Rattle.prem_word.specs.declared.kind.Kind.TheVariants.{Int, Unsigned}
pub use Rattle.std.proofs.lemmas.Bool.{and_from, and_left, and_parts, and_right, cases_lt, not-true, or_from, or_left, or_parts, or_right}
pub use Rattle.std.proofs.lemmas.Bool.Decides.{nat_tests}
pub use Rattle.std.proofs.lemmas.List.{append-nil, drop_all, map_push, reverse-append, take_rest}
pub use Rattle.std.proofs.lemmas.List.Sums.{sum_by-append, sum_by-cons, take_while-cons}
pub use Rattle.std.specs.Option.{option_map}
