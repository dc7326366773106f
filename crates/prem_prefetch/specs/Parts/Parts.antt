-- The parts of a task from what the compiler knows of it, and its stack.
use Rattle.std.specs.Prelude.{◌≡◌, ◌≤◌, ◌<◌, ℕ, ◌+◌, ◌^◌, max, is_some, if◌then◌else◌, List, [], ◌∷◌, ◌++◌, length, map, slice_index, slice_index_or, unwrap_or, Option}
use Rattle.prem_list.specs.declared.Sequence.{Sequence}
use Rattle.prem_list.specs.Sequence.{items_of}
use Rattle.prem_plant.specs.declared.layout.PartKind.TheVariants.{Start, Stack}
use Rattle.prem_plant.specs.declared.layout.PartSize.{PartSize}
use Rattle.prem_syntax.specs.Syntax.{MarkText, GlobalVariable}
use Rattle.prem_syntax.specs.Resolved.{Resolved}
use Rattle.prem_tree.specs.declared.resolve.resolved.Resolved.{Resolved as ResolvedTree}
use Rattle.prem_tree.specs.Resolve.ResolvedOf.{resolved_of}
use Rattle.prem_asm.specs.declared.piece.Piece.{Piece}
use Rattle.prem_asm.specs.Pieces.{size_of}
use Rattle.prem_asm.specs.PiecesOf.{pieces_of}
use Rattle.prem_layout.specs.Template.Frames.{stack_size}
use Rattle.prem_layout.specs.Plans.{Plan, plans_of}
use Rattle.prem_layout.specs.Parts.{Passes, part, start_size, code_parts, stub_parts, global_parts, task_parts}
use Rattle.prem_split.specs.Walk.{frame_of}
use Rattle.prem_split.specs.Tables.{greatest, depths_of}
use Rattle.prem_split.specs.PlansWith.{calls_of, marks_of}

-- ---- the stack of a program in memory

-- the greatest depth of the marked functions from number n on
abbrev pub most_marked : List ℕ → ℕ → List (Option MarkText) → ℕ
most_marked depths n [] = 0
most_marked depths n (mark ∷ marks) = max (if is_some mark then slice_index depths n else 0) (most_marked depths (n + 1) marks)

-- from frames, calls and depths
abbrev pub stack_from : (frames depths : List ℕ) (calls : List (List ℕ)) → ℕ → List (Option MarkText) → ℕ
stack_from frames depths calls job marks =
    slice_index frames job + max (greatest depths (slice_index_or calls job [])) (most_marked depths 0 marks)

abbrev pub stack_in : ResolvedTree → ℕ
stack_in r =
    stack_from (map frame_of (items_of r.routines)) (depths_of (map frame_of (items_of r.routines)) (calls_of (items_of r.routines)))
    (calls_of (items_of r.routines)) r.job (marks_of (items_of r.routines))

-- the stack of a program in memory is that of the program that it stands for
abbrev pub StacksAreExact : Type 0
StacksAreExact = (turns : ℕ → ℕ) (r : ResolvedTree) → stack_in r ≡ stack_size (resolved_of turns r)

-- ---- parts

abbrev pub sizes_of : List (Sequence Piece) → List ℕ
sizes_of code = map (λ s. size_of (pieces_of (items_of s))) code

abbrev pub parts_with : Passes → ℕ → List ℕ → List Plan → List GlobalVariable → ℕ → List PartSize
parts_with passes task sizes plans globals stack =
    part task Start start_size 4
    ∷ (code_parts task 0 sizes ++ (stub_parts passes task plans ++ (global_parts task 0 globals ++ (part task Stack stack 16 ∷ []))))

-- they are those of the program
abbrev pub PartsAreTheTasks : Type 0
PartsAreTheTasks =
    (passes : Passes) (task : ℕ) (sizes : List ℕ) (p : Resolved) → parts_with passes task sizes (plans_of p) p.globals (stack_size p) ≡ task_parts passes task sizes p

-- so few ranges as a stub may have
pub record IsShortPlan (plan : Plan) : Type 0 where
  pub reach : length plan.reach ≤ 65536
  pub regions : length plan.regions ≤ 65536

abbrev pub IsShortGlobal : GlobalVariable → Type 0
IsShortGlobal g = unwrap_or g.len 1 ≤ 65536

abbrev pub IsWordSize : ℕ → Type 0
IsWordSize size = size < 2 ^ 32
