-- What the files of this crate's specs name of other modules, so that each imports it from one place.
pub use Rattle.prem_asm.specs.Fit.{PiecesFit}
pub use Rattle.prem_asm.specs.OwnRun.{Agrees, Here, Lands, Stand, in_job}
pub use Rattle.prem_asm.specs.Pieces.{Pieces, call_to, flat, no_pieces, size_of, words}
pub use Rattle.prem_asm.specs.Quiet.{EachPiece, InPhase, IsQuiet, StaysAs}
pub use Rattle.prem_asm.specs.Runs.{Calls, Ending, Falls, Guard, Returns, Setting, Stuck, all_of, linked, outcome_at, run}
pub use Rattle.prem_asm.specs.Steps.{AllSteps, Holds}
pub use Rattle.prem_isa.specs.Act.{first_registers, with_register}
pub use Rattle.prem_isa.specs.Alu.{compute, load_size, loaded, word_of_int}
pub use Rattle.prem_isa.specs.Plain.{Did, PlainState, TaskRun, TaskState, after_effect, plain_did, plain_step, plain_steps, plain_trace}
pub use Rattle.prem_isa.specs.declared.effect.Change.TheVariants.{End, Execute, Job, Memory, Stay}
pub use Rattle.prem_isa.specs.declared.effect.Phase.{Phase}
pub use Rattle.prem_isa.specs.declared.effect.Phase.TheVariants.{Compatible, Execution}
pub use Rattle.prem_isa.specs.declared.instr.Instr.{Instr}
pub use Rattle.prem_isa.specs.declared.instr.Instr.TheVariants.{Jal, Jalr, Lui, Op, OpImm, PmDone, PmEnd, PmExec, PmMem}
pub use Rattle.prem_layout.specs.Parts.{Passes, part_count, pass_count}
pub use Rattle.prem_layout.specs.Stubs.{predictable_code, stub_around, stub_of}
pub use Rattle.prem_layout.specs.Template.Frames.{counters_in, frame_of, locals_of, slots_of}
pub use Rattle.prem_layout.specs.Template.Limits.{excess, too_deep}
pub use Rattle.prem_layout.specs.Template.Parts.{codes_of, parts_of}
pub use Rattle.prem_layout.specs.Template.Steps.{Parts, function_code, steps_code}
pub use Rattle.prem_layout.specs.Template.Terms.{load_of, shift_of, term_code}
pub use Rattle.prem_plant.specs.Places.{Extent}
pub use Rattle.prem_plant.specs.declared.plant.Target.{Target}
pub use Rattle.prem_syntax.specs.Expressions.{Access, Outcome, and_then, eval, words_of}
pub use Rattle.prem_syntax.specs.ProgramRules.{IsWellFormed}
pub use Rattle.prem_syntax.specs.Resolve.{globals_of, resolve}
pub use Rattle.prem_syntax.specs.Resolved.{AndAlso, Binary, Call, Constant, Done, Element, For, If, Input, Local, OrElse, Output, Resolved, Routine, Scalar, SetElement, SetLocal, SetScalar}
pub use Rattle.prem_syntax.specs.Resolved.{Steps, Term, Unary, While}
pub use Rattle.prem_syntax.specs.Source.{Limits, calls_below, do_jobs, everywhere}
pub use Rattle.prem_syntax.specs.Statements.{MarkedCall, ProgramState, declare, is_marked, result_of}
pub use Rattle.prem_syntax.specs.Syntax.{ProgramText}
pub use Rattle.prem_word.specs.Bytes.{number_at}
