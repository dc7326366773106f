-- What the files of this crate's proofs name of other modules, so that each imports it from one place.
pub use Rattle.prem_asm.proofs.Every.{every}
pub use Rattle.prem_asm.proofs.Keeps.{Keeps, act_keeps, both_true}
pub use Rattle.prem_asm.proofs.Quiet.{pieces_good, quiet_runs}
pub use Rattle.prem_asm.proofs.Rows.{words-followed}
pub use Rattle.prem_asm.proofs.Words.{choose_both, stepped_by, words_run}
pub use Rattle.prem_asm.specs.Fit.{PiecesFit, TestFits}
pub use Rattle.prem_asm.specs.OwnRun.{Agrees, Follows, Lands, Leads, done_step, in_job, next_start}
pub use Rattle.prem_asm.specs.Pieces.{Pieces, address_code, address_of, back_at, branch_of, call_to, code_of, either, either_end, followed, jump, jump_to, lower, no_pieces, other_at, repeat}
pub use Rattle.prem_asm.specs.Pieces.{repeat_end, size_of, skip_at, skip_words, straight, test_at, upper, words}
pub use Rattle.prem_asm.specs.Quiet.{EachInstr, EachPiece, GoodJumps, InPhase, IsQuiet, StaysAs}
pub use Rattle.prem_asm.specs.Runs.{Calls, Ending, Falls, Guard, Loop, Returns, Setting, Stuck, all_of, called, control, is_return, left_loop, linked, other_steps, outcome_at, run, run_code}
pub use Rattle.prem_asm.specs.Runs.{run_one, skip_steps, stepped, taken_steps, test_holds, then_run, with_trace}
unfoldable pub use Rattle.prem_asm.specs.Runs.{run_turns}
pub use Rattle.prem_asm.specs.Steps.{AllCode, AllSteps, Grows, Holds, Rules, Same}
pub use Rattle.prem_asm.specs.declared.piece.Test.{Test}
pub use Rattle.prem_code_laws.specs.ExprLaws.Gives.{Gives, TermFits, TermRuns}
pub use Rattle.prem_code_laws.specs.ExprLaws.Registers.{AreWords, Puts, all_alu, alu, alu_steps, alus, is_alu}
pub use Rattle.prem_code_laws.specs.ExprLaws.Relation.{AreApart, Globals, GlobalsStand, Ground, IsOutside, LocalsStand, Stack, element_at, element_size}
pub use Rattle.prem_code_laws.specs.FitLaws.Measure.Laws.{CodeIsByNodes, CodesAreSmall, NodesAreByTokens, RoutinesAreSmall}
pub use Rattle.prem_code_laws.specs.FitLaws.Measure.Nodes.{option_nodes, routine_nodes, steps_nodes, term_nodes, terms_nodes}
pub use Rattle.prem_code_laws.specs.FitLaws.Named.{AllNamed, FunctionNamed, OptionNamed, ProgramsNamed, StepsNamed, TargetNamed, TermNamed}
pub use Rattle.prem_code_laws.specs.GenLaws.Fits.{AllFit, CallFits, Callees, Fits, StepsFit, TargetFits}
pub use Rattle.prem_code_laws.specs.GenLaws.Functions.{DeclaredFit, FunctionFits, FunctionRuns, ResultFits, noted, performed, with_own_mark}
pub use Rattle.prem_code_laws.specs.GenLaws.Jobs.{Between, FrameBack, FrameRuns, JobBack, JobRuns}
pub use Rattle.prem_code_laws.specs.GenLaws.Land.{AllLand, CodeLands, IsRunning, PartStands, StubsLand}
pub use Rattle.prem_code_laws.specs.GenLaws.Laws.{CalleesAt, CalleesRun, StepsRun, with_globals}
pub use Rattle.prem_code_laws.specs.GenLaws.Marks.{Arrives, Event, Marked, Noted, Seen, Stays, behind, behind_step, call_begins, call_ends, call_opens, event_of, events, events_with}
pub use Rattle.prem_code_laws.specs.GenLaws.Marks.{link_of, moved, moved_by, seen_call, seen_none}
unfoldable pub use Rattle.prem_code_laws.specs.GenLaws.Marks.{plain_events}
pub use Rattle.prem_code_laws.specs.GenLaws.Matches.{ArgumentsStand, Back, CallRuns, CallRunsAt, Ends, IsKept, Matches, at_frame, slot_at}
pub use Rattle.prem_code_laws.specs.GenLaws.Table.{Codes, FunctionsRun, IsStub, MarkedIsNoted, MarkedRun, StubsFit, StubsJoin, TaskFits, one_of, with_part, with_stub}
unfoldable pub use Rattle.prem_code_laws.specs.GenLaws.Table.{code_calls, stub_calls}
pub use Rattle.prem_code_laws.specs.GenLaws.Whole.{JobIsCalled, JobMeans, JobsDone, JobsRun, StartStands, no_calls}
pub use Rattle.prem_code_laws.specs.PrefetchLaws.Confined.{ConfinedBack, ConfinedStubRuns, Confines, MarkedConfines, MarkedStands, StoresStay, end_step, exec_step, return_step, with_guard}
pub use Rattle.prem_code_laws.specs.PrefetchLaws.Premises.{AllInMemory, InMemory, Lines, stub_code}
pub use Rattle.prem_code_laws.specs.PrefetchLaws.Stubs.{KeepsFour, KeepsInterval, StubBack, StubRuns, memory_step}
pub use Rattle.prem_code_laws.specs.PrefetchLaws.Touches.{Covers, CoversAll, IsFetch, IsLineOf, LoadsLine, Touches}
pub use Rattle.prem_isa.proofs.AluLaws.{compute_word, multiply_divide_word, truth_word}
pub use Rattle.prem_isa.proofs.Operators.{add_is, div_is, divu_is, rem_is, remu_is, sll_is, sra_is, srl_is, sub_is}
pub use Rattle.prem_isa.proofs.PlainLaws.{plain_steps-add, plain_steps-first, plain_steps-next, plain_trace-add}
pub use Rattle.prem_isa.specs.Act.{accesses, changes, fetch, first_registers, goes, in_phase, jumps, loads, on_rv32im, puts, sets, stores, takes, with_register}
pub use Rattle.prem_isa.specs.Alu.{compute, holds, load_size, loaded, multiply_divide, plus, store_size, word_of_int}
pub use Rattle.prem_isa.specs.Bounds.{OnDone}
pub use Rattle.prem_isa.specs.Plain.{Did, PlainState, TaskRun, TaskState, after_change, after_effect, after_outcome, did_fetched, did_of, did_with, is_running, left_after, next_input}
pub use Rattle.prem_isa.specs.Plain.{outcome_of, plain_did, plain_step, used_after, with_last}
unfoldable pub use Rattle.prem_isa.specs.Plain.{plain_steps, plain_trace}
pub use Rattle.prem_isa.specs.declared.effect.AccessKind.TheVariants.{Loads, Stores}
pub use Rattle.prem_isa.specs.declared.effect.Cause.TheVariants.{Align, Outside}
pub use Rattle.prem_isa.specs.declared.effect.Change.TheVariants.{End, Execute, Job, Stay}
pub use Rattle.prem_isa.specs.declared.effect.Effect.{Effect}
pub use Rattle.prem_isa.specs.declared.effect.Outcome.TheVariants.{Trap}
pub use Rattle.prem_isa.specs.declared.effect.Phase.{Phase}
pub use Rattle.prem_isa.specs.declared.effect.Phase.TheVariants.{Compatible, Execution, Memory}
pub use Rattle.prem_isa.specs.declared.instr.AluOp.TheVariants.{Add, Sll, Slt, Sltu, Sra, Srl}
pub use Rattle.prem_isa.specs.declared.instr.Instr.{Instr}
pub use Rattle.prem_isa.specs.declared.instr.Instr.TheVariants.{Auipc, Branch, Ebreak, Ecall, Fence, Jal, Jalr, Load, Lui, MulDiv, Op, OpImm, PmDone, PmEnd, PmExec, PmIn, PmMem, PmOut}
pub use Rattle.prem_isa.specs.declared.instr.Instr.TheVariants.{Store}
pub use Rattle.prem_isa.specs.declared.instr.LoadOp.TheVariants.{Lw}
pub use Rattle.prem_isa.specs.declared.instr.MulDivOp.{MulDivOp}
pub use Rattle.prem_isa.specs.declared.instr.StoreOp.TheVariants.{Sw}
pub use Rattle.prem_layout.proofs.TemplateLemmas.Depths.{depth_bound, first_none, unless_deep}
pub use Rattle.prem_layout.proofs.TemplateLemmas.Operators.{Below, Fitting, Imm, address_fits, binary_has, constant_fits, each_behind, fitting, i0, i1, joined, less_one, r0, r5, r6}
pub use Rattle.prem_layout.proofs.TemplateLemmas.Operators.{scale_fits, slot_fits, unary_fits}
pub use Rattle.prem_layout.specs.Footprint.{TaskPlaces, line_count, ranges_of}
pub use Rattle.prem_layout.specs.Parts.{Passes, once, pass_count, times}
pub use Rattle.prem_layout.specs.Stubs.{is_below_end, passes_code, predictable_code, range_code, ranges_code, return_code, stub_of}
pub use Rattle.prem_layout.specs.Template.Frames.{counters_in, frame_at, frame_of, locals_of, slots_of}
pub use Rattle.prem_layout.specs.Template.Limits.{Excess, deep_excess, excess_among, excess_of, excess_or, first_of, first_place, frame, greatest_frame, too_deep, too_deep_among}
pub use Rattle.prem_layout.specs.Template.Limits.{too_deep_function, too_deep_in, too_deep_result}
pub use Rattle.prem_layout.specs.Template.Parts.{code_part, codes_of, global_part, is_marked_at, marked_before, marked_count, parts_of, stub_part}
pub use Rattle.prem_layout.specs.Template.Steps.{Parts, argument_code, argument_slot, bound_test, closing, count_code, declare_code, element_store, function_code, load_slot, opening}
pub use Rattle.prem_layout.specs.Template.Steps.{result_code, scalar_store, step_code, steps_code, store_argument, store_of, store_slot, target_code, turn_code}
pub use Rattle.prem_layout.specs.Template.Terms.{binary_code, by_target, constant, divide_code, divide_shift, divide_subtract, divide_turn, element_code, is_short, less, load_of}
pub use Rattle.prem_layout.specs.Template.Terms.{multiply_code, multiply_turn, nonzero, only, quotient_code, quotient_op, remainder_code, remainder_op, scalar_code, scale, shift_of}
pub use Rattle.prem_layout.specs.Template.Terms.{shift_right, signed_operands, slot, term_code, truth_code, unary_code, unsigned_operands}
pub use Rattle.prem_plant.specs.Places.{Extent}
pub use Rattle.prem_plant.specs.declared.plant.Target.{Target}
pub use Rattle.prem_plant.specs.declared.plant.Target.TheVariants.{Rv32i, Rv32im}
pub use Rattle.prem_syntax.specs.Expressions.{Access, Outcome, and_then, cell, divide, eval, operate, or_wrong, truth_of, unary_word, words_of}
pub use Rattle.prem_syntax.specs.Resolve.{Scope, call_steps, declared, element_term, find_function, find_global, find_local, find_named, first_meaning, functions_of, global_meaning}
pub use Rattle.prem_syntax.specs.Resolve.{globals_of, input_steps, kind_of, local_names, local_number, loop_local, loops_in, loops_within, meaning_of, number_named, operand_kind}
pub use Rattle.prem_syntax.specs.Resolve.{parameter_names, resolve, resolve_function, resolve_items, resolve_locals, resolve_statement, resolve_statements, resolve_term, scope_at, scope_in}
pub use Rattle.prem_syntax.specs.Resolve.{set_steps, target_of, variable_term}
pub use Rattle.prem_syntax.specs.Resolved.{AndAlso, Binary, Call, Constant, Done, Element, For, If, Input, Local, OrElse, Output, Resolved, Routine, Scalar, SetElement, SetLocal, SetScalar}
pub use Rattle.prem_syntax.specs.Resolved.{Steps, Term, Unary, While, operator}
pub use Rattle.prem_syntax.specs.Source.{Limits, access_of, calls_below, do_jobs, enter_if_there, everywhere, this_or}
pub use Rattle.prem_syntax.specs.Statements.{MarkedCall, ProgramState, choose, declare, enter, in_bound, int_local, is_marked, leave, loop_step, loop_test, result_of, store, stored}
pub use Rattle.prem_syntax.specs.Statements.{take_input, value, values, with_cell, with_local, with_mark, with_new_local, with_output, with_target}
unfoldable pub use Rattle.prem_syntax.specs.Statements.{bounded, counting}
pub use Rattle.prem_syntax.specs.Syntax.{Expression, FunctionText, GlobalVariable, LocalVariable, LoopNames, MarkText, Parameter, ProgramText, Statement, Statements, Text, absent, assign}
pub use Rattle.prem_syntax.specs.Syntax.{binary, block, bounded_while, call, counting_for, element, function_item, global_item, if_else, if_then, input, literal, next_statement}
pub use Rattle.prem_syntax.specs.Syntax.{no_statements, output, unary, variable}
pub use Rattle.prem_syntax.specs.declared.meaning.Meaning.{Meaning}
pub use Rattle.prem_syntax.specs.declared.meaning.Meaning.TheVariants.{Array, Function, Nothing}
pub use Rattle.prem_syntax.specs.declared.tree.Place.{Place}
pub use Rattle.prem_syntax.specs.declared.tree.Ty.{Ty}
pub use Rattle.prem_syntax.specs.declared.tree.Ty.TheVariants.{Schar, Short, Uchar, Ushort, Void}
pub use Rattle.prem_syntax.specs.declared.tree.UnOp.{UnOp}
pub use Rattle.prem_syntax.specs.declared.tree.UnOp.TheVariants.{Flip, Neg, Not}
pub use Rattle.prem_text.specs.Grammar.Phrases.{IsRow, Phrase, name_at, of_bracket, of_element, of_infix, of_literal, of_name, of_prefix, spelled, tree}
pub use Rattle.prem_text.specs.Grammar.Slots.{Slot, a_literal, a_name, equal_sign, left_parenthesis, place_at, right_brace, right_parenthesis, semicolon, the_bounded, the_for, the_if}
pub use Rattle.prem_text.specs.Grammar.Slots.{the_in, the_out, the_while}
pub use Rattle.prem_text.specs.Grammar.Statement.{listed, side}
pub use Rattle.prem_text.specs.Grammar.StatementPhrases.{AreStatements, Arguments, IsStatement, Parted, StatementPhrase, StatementPhrases, all_meant, all_written, argument_tokens}
pub use Rattle.prem_text.specs.Grammar.StatementPhrases.{argument_trees, arguments, change_op, change_sign, count_sign, meant, next_phrase, no_arguments, no_phrases, of_assign, of_block}
pub use Rattle.prem_text.specs.Grammar.StatementPhrases.{of_call, of_call_to, of_change, of_count, of_else, of_for, of_if, of_input, of_output, of_while, parted_tokens, parted_trees}
pub use Rattle.prem_text.specs.Grammar.StatementPhrases.{target_at, target_index, target_text, target_tokens, to_element, to_name, written}
pub use Rattle.prem_text.specs.Lexing.Token.Lexeme.{end_of_text, mark}
pub use Rattle.prem_text.specs.Texts.{IsProgramText, reads}
pub use Rattle.prem_word.proofs.Reduced.{word_below, word_of-product}
pub use Rattle.prem_word.specs.Bytes.{number_at, put_number}
pub use Rattle.prem_word.specs.Words.{apply_op, truth, value_in, word_of}
pub use Rattle.prem_word.specs.declared.kind.BinOp.{BinOp}
pub use Rattle.prem_word.specs.declared.kind.BinOp.TheVariants.{And, Div, Eq, Ge, Gt, Le, Lt, Mul, Ne, Or, Rem, Shl, Shr, Sub, Xor}
pub use Rattle.prem_word.specs.declared.kind.Kind.{Kind}
pub use Rattle.prem_word.specs.declared.kind.Kind.TheVariants.{Int, Unsigned}
pub use Rattle.std.proofs.Common.{Bool, [], ap, eq-eqb, eqb, false, length, refl, subst, suc, sym, true, zero, ℕ, ◌∙◌}
pub use Rattle.std.proofs.Math.Dec.{eqb-suc-zero}
pub use Rattle.std.proofs.Math.Logic.{inl, inr}
pub use Rattle.std.proofs.Math.Nat.{div-le_self, div-mul-le_self, lt-div-mul-add, mod-eq_of_lt, mod-le, mul-add-mod_self_right, mul-le-mul_left, mul_comm, pow-succ', suc-mul}
pub use Rattle.std.proofs.lemmas.Bool.{and_parts, cond_both, eqb-false, eqb-true, le-leb, leb-true, lt-ltb, ltb-false, ltb-true}
pub use Rattle.std.proofs.lemmas.Bool.Decides.{nat_tests}
pub use Rattle.std.proofs.lemmas.List.{get_or-set_other, get_or-set_same, length-map, length-set}
pub use Rattle.std.proofs.lemmas.List.Elements.{All-cons, All-from_recursion, All-head, All-nil, All-tail}
pub use Rattle.std.proofs.lemmas.Nat.{and_le_l, and_mask, div-mul-add, or_of_32, or_shifted, xor_of_32}
pub use Rattle.std.proofs.lemmas.Option.{get_or_from_slice_get, slice_get_past, slice_get_within, unwrap_or-slice_get}
pub use Rattle.std.specs.Int.{bit_not, cast_signed, int_shr, next_multiple_of, w32}
pub use Rattle.std.specs.List.{AllByRecursion, list_any}
pub use Rattle.std.specs.Option.{option_map}
pub use Rattle.std.specs.Prelude.{Result, codes, int_div, int_lt, int_rem, is_some, neg_ℤ, negsuc, pos, slice_get, slice_index, slice_set, unwrap_or, ℤ}
