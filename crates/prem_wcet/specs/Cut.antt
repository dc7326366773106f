-- What is cut out for steps in memory is the outline of what they stand for.
use Rattle.std.specs.Prelude.{◌≡◌, ℕ}
use Rattle.prem_list.specs.Sequence.{items_of}
use Rattle.prem_syntax.specs.Resolved.{Done, Routine}
use Rattle.prem_asm.specs.Pieces.{Pieces, followed}
use Rattle.prem_asm.specs.PiecesOf.{pieces_of}
use Rattle.prem_layout.specs.Template.Frames.{locals_of}
use Rattle.prem_layout.specs.Template.Steps.{function_code, steps_code}
use Rattle.prem_tree.specs.declared.resolve.resolved.Routine.{Routine as RoutineTree}
use Rattle.prem_tree.specs.declared.resolve.resolved.Step.{Step}
use Rattle.prem_tree.specs.Resolve.ResolvedOf.{routine_of, step_before}
use Rattle.prem_wcet_laws.specs.Scopes.{Scene}
use Rattle.prem_wcet_laws.specs.Parted.{entry as entry_edge, leaving as leaving_edge}
use Rattle.prem_wcet.specs.declared.outline.Outline.{Outline as OutlineTree}
use Rattle.prem_wcet.specs.Outlined.{outline_of}
use Rattle.prem_wcet.specs.PartsOf.{IsOutline, behind_step, cut_step, parts_of}

-- where their code begins the pieces, of which the others are left
pub record CutsAreOutlines : Type 0 where
  pub outline_is : (e : Scene) (turns : ℕ → ℕ) (n m : ℕ) (s : Step) (last : Pieces) →
      cut_step e.parts.target s (followed (steps_code e.parts n (step_before turns m s Done)) last) ≡ outline_of e n (step_before turns m s Done)
  pub behind_is : (e : Scene) (turns : ℕ → ℕ) (n m : ℕ) (s : Step) (last : Pieces) → behind_step e.parts.target s (followed (steps_code e.parts n (step_before turns m s Done)) last) ≡ last

-- an outline in memory is a function's, with what stands before and behind the statements of its body
pub record IsFunction (e : Scene) (f : Routine) (o : OutlineTree) : Type 0 where
  pub entry : pieces_of o.entry.now ≡ (entry_edge e f).pieces
  pub entry_names : items_of o.entry_names ≡ (entry_edge e f).globals
  pub body : parts_of (items_of o.body) ≡ outline_of e (locals_of f) f.body
  pub leaving : pieces_of o.leaving.now ≡ (leaving_edge e f).pieces
  pub leaving_names : items_of o.leaving_names ≡ (leaving_edge e f).globals

-- where it is cut out of the function's code
abbrev pub FunctionsAreCut : Type 0
FunctionsAreCut =
    (e : Scene) (turns : ℕ → ℕ) (m : ℕ) (r : RoutineTree) (ps : Pieces) (o : OutlineTree) → ps ≡ function_code e.parts (routine_of turns m r) →
    IsOutline e.parts.target r ps o → IsFunction e (routine_of turns m r) o
