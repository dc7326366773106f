-- What tasks with code in memory stand for, and what has to hold of them.
use Rattle.std.specs.Prelude.{◌≡◌, ℕ, None, List, map, slice_index}
use Rattle.prem_list.specs.Sequence.{items_of}
use Rattle.prem_list.specs.declared.Sequence.{Sequence}
use Rattle.prem_plant.specs.declared.plant.Target.{Target}
use Rattle.prem_syntax.specs.Syntax.{ProgramText}
use Rattle.prem_syntax.specs.ProgramRules.{IsWellFormed}
use Rattle.prem_syntax.specs.Resolve.{resolve}
use Rattle.prem_tree.specs.Resolve.ResolvedOf.{resolved_of}
use Rattle.prem_asm.specs.declared.piece.Piece.{Piece}
use Rattle.prem_asm.specs.Pieces.{Pieces}
use Rattle.prem_asm.specs.PiecesOf.{pieces_of}
use Rattle.prem_layout.specs.Template.Frames.{stack_size}
use Rattle.prem_layout.specs.Template.Limits.{excess}
use Rattle.prem_layout.specs.Template.Parts as template
use Rattle.prem_layout.specs.Plans.{plans_of}
use Rattle.prem_layout.specs.Placed.{Coded}
use Rattle.prem_split.specs.PlanOf.{plan_of}
use Rattle.prem_prefetch.specs.declared.sizes.coded.CodedTask.{CodedTask}

abbrev pub codes_in : List (Sequence Piece) → List Pieces
codes_in code = map (λ s. pieces_of (items_of s)) code

abbrev pub coded_in : CodedTask → Coded
coded_in t = record {
  name = t.name.now;
  period = t.period;
  jobs = t.jobs;
  program = resolved_of (slice_index t.turns.items) t.program;
  code = codes_in (items_of t.code);
}

-- its program is well-formed, exceeds neither registers nor frames, and has these plans, this stack and this code for some target
pub record IsCodedTask (t : CodedTask) : Type 0 where
  pub target : Target
  pub text : ProgramText
  pub bounds : ℕ → ℕ
  pub same : (coded_in t).program ≡ resolve bounds text
  pub formed : IsWellFormed text
  pub fits : excess (coded_in t).program ≡ None
  pub plans : map plan_of (items_of t.plans) ≡ plans_of (coded_in t).program
  pub stack : t.stack ≡ stack_size (coded_in t).program
  pub code : (coded_in t).code ≡ template.codes_of (template.parts_of target (coded_in t).program.routines) (coded_in t).program.routines
