-- The code of each function of a program, what keeps it from having any, and what the generator asks of the program.
use Rattle.std.specs.Prelude.{◌≡◌, ◌≤◌, ℕ, Option, None, Some, slice_get}
use Rattle.prem_plant.specs.declared.plant.Target.{Target}
use Rattle.prem_syntax.specs.Syntax.{ProgramText}
use Rattle.prem_syntax.specs.ProgramRules.{IsWellFormed}
use Rattle.prem_syntax.specs.Resolved.{Routine, Resolved}
use Rattle.prem_tree.specs.declared.resolve.resolved.Resolved.{Resolved as ResolvedTree}
use Rattle.prem_tree.specs.Resolve.ResolvedOf.{resolved_of, IsResolved}
use Rattle.prem_asm.specs.Pieces.{Pieces, no_pieces}
use Rattle.prem_layout.specs.Template.Frames.{frame_of, frame_at}
use Rattle.prem_layout.specs.Template.Limits.{Excess, excess_of, greatest_frame}
use Rattle.prem_layout.specs.Template.Steps.{Parts, function_code}
use Rattle.prem_layout.specs.Template.Parts.{parts_of}
use Rattle.prem_gen.specs.Numbers.Steps.{FunctionSmall, EachCallee}

-- ---- one function

abbrev pub code_if_there : Parts → Option Routine → Pieces
code_if_there parts None = no_pieces
code_if_there parts (Some f) = function_code parts f

abbrev pub code_at : Target → Resolved → ℕ → Pieces
code_at target p n = code_if_there (parts_of target p.routines) (slice_get p.routines n)

abbrev pub excess_if_there : ℕ → Option Routine → Option Excess
excess_if_there n None = None
excess_if_there n (Some f) = excess_of n f

abbrev pub excess_at : Resolved → ℕ → Option Excess
excess_at p n = excess_if_there n (slice_get p.routines n)

-- ---- what is asked

-- each function whose frame may be has small numbers
abbrev pub FunctionsSmall : Resolved → Type 0
FunctionsSmall p = (n : ℕ) (f : Routine) → slice_get p.routines n ≡ Some f → frame_of f ≤ greatest_frame → FunctionSmall n f

-- the frames of the functions that function n calls may be, where its own may
abbrev pub CalleesFit : Resolved → ℕ → Type 0
CalleesFit p n =
    (f : Routine) → slice_get p.routines n ≡ Some f → frame_of f ≤ greatest_frame → EachCallee (λ c. frame_at p.routines c ≤ greatest_frame) f.body

-- a well-formed program is so
abbrev pub WellFormedAreSmall : Type 0
WellFormedAreSmall = (r : ResolvedTree) (p : ProgramText) → IsResolved r p → IsWellFormed p → (turns : ℕ → ℕ) → FunctionsSmall (resolved_of turns r)

-- where all frames may be, those of callees may
abbrev pub FramesFit : Resolved → Type 0
FramesFit p = (n : ℕ) (f : Routine) → slice_get p.routines n ≡ Some f → frame_of f ≤ greatest_frame

abbrev pub CalleesAreAmongAll : Type 0
CalleesAreAmongAll = (p : Resolved) → FramesFit p → (n : ℕ) → CalleesFit p n
