-- What the files of this crate's specs name of other modules, so that each imports it from one place.
pub use Rattle.prem_asm.specs.Pieces.{Pieces, address_code, address_of, back_at, branch_of, call_to, either, either_end, followed, jump_to, jump_weight, no_pieces, other_at, repeat}
pub use Rattle.prem_asm.specs.Pieces.{repeat_end, size_of, skip_at, skip_words, straight, test_at, weighted}
pub use Rattle.prem_asm.specs.Runs.{Calls, Ending, Falls, Guard, Returns, Setting, Stuck, run}
pub use Rattle.prem_asm.specs.Steps.{AllSteps, Same, Within, total}
pub use Rattle.prem_asm.specs.declared.piece.Test.{Test}
pub use Rattle.prem_code_laws.specs.ExprLaws.Relation.{Globals, Ground, Stack, element_at, element_size}
pub use Rattle.prem_code_laws.specs.GenLaws.Fits.{Callees, StepsFit}
pub use Rattle.prem_code_laws.specs.GenLaws.Functions.{FunctionFits, performed}
pub use Rattle.prem_code_laws.specs.GenLaws.Jobs.{Between}
pub use Rattle.prem_code_laws.specs.GenLaws.Laws.{CalleesAt, with_globals}
pub use Rattle.prem_code_laws.specs.GenLaws.Matches.{ArgumentsStand, Matches}
pub use Rattle.prem_code_laws.specs.GenLaws.Table.{Codes, TaskFits, code_calls}
pub use Rattle.prem_isa.specs.Decode.{cost_of}
pub use Rattle.prem_isa.specs.Plain.{Did, TaskState}
pub use Rattle.prem_isa.specs.declared.effect.Change.TheVariants.{Stay}
pub use Rattle.prem_isa.specs.declared.effect.Phase.{Phase}
pub use Rattle.prem_isa.specs.declared.instr.AluOp.TheVariants.{Add}
pub use Rattle.prem_isa.specs.declared.instr.Instr.{Instr}
pub use Rattle.prem_isa.specs.declared.instr.Instr.TheVariants.{Ebreak, Ecall, Jal, Jalr, Load, Lui, OpImm, PmDone, PmEnd, PmExec, PmMem, Store}
pub use Rattle.prem_layout.specs.Bounds.{CodeTable, job_bound_of, job_weight, line_cost, marked_weights, part_weight, start_code, weight_at}
pub use Rattle.prem_layout.specs.Footprint.{TaskPlaces, count_in, footprint_of, global_range, lines_of, place_at, ranges_of, stack_place}
pub use Rattle.prem_layout.specs.Parts.{code_part, start_part, stub_passes}
pub use Rattle.prem_layout.specs.Plans.{Plan}
pub use Rattle.prem_layout.specs.Stretch.Paths.{Cuts, Path, Takes, greatest_stated, longest_of}
pub use Rattle.prem_layout.specs.Stretch.Sums.{IsWithin, Sums, among, chained, greatest, marked_sums, no_sums, sums_of_path, taking, turned}
pub use Rattle.prem_layout.specs.Template.Frames.{counters_in, frame_at, frame_of, locals_of, slots_of}
pub use Rattle.prem_layout.specs.Template.Parts.{codes_of, is_marked_at, marked_before, parts_of}
pub use Rattle.prem_layout.specs.Template.Steps.{Parts, argument_code, bound_test, closing, count_code, declare_code, function_code, load_slot, opening, result_code, step_code, steps_code}
pub use Rattle.prem_layout.specs.Template.Steps.{store_slot, target_code, turn_code}
pub use Rattle.prem_layout.specs.Template.Terms.{constant, nonzero, only, term_code}
pub use Rattle.prem_plant.specs.Places.{Extent}
pub use Rattle.prem_plant.specs.declared.plant.Plant.{Plant}
pub use Rattle.prem_syntax.specs.Expressions.{Access, Outcome}
pub use Rattle.prem_syntax.specs.Reach.{IsAmong, callees_in}
pub use Rattle.prem_syntax.specs.Resolved.{AndAlso, Binary, Call, Constant, Done, Element, For, If, Input, Local, OrElse, Output, Resolved, Routine, Scalar, SetElement, SetLocal, SetScalar}
pub use Rattle.prem_syntax.specs.Resolved.{Steps, Term, Unary, While}
pub use Rattle.prem_syntax.specs.Source.{Limits, calls_below, everywhere}
pub use Rattle.prem_syntax.specs.Statements.{ProgramState}
pub use Rattle.std.specs.List.{flat_map, list_all, list_any}
