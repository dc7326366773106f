-- What holds of line tables.
use Rattle.std.specs.Prelude.{◌≡◌, ℕ, length}
use Rattle.prem_plant.specs.declared.plant.Target.{Target}
use Rattle.prem_syntax.specs.Resolved.{Term, Steps, Routine}
use Rattle.prem_tree.specs.declared.resolve.resolved.Routine.{Routine as RoutineTree}
use Rattle.prem_tree.specs.Resolve.ResolvedOf.{routine_of}
use Rattle.prem_asm.specs.Pieces.{words}
use Rattle.prem_layout.specs.Template.Terms.{term_code}
use Rattle.prem_layout.specs.Template.Steps.{Parts, function_code, steps_code}
use Rattle.prem_profile.specs.Lines.Table.{function_lines, steps_lines, term_lines}
use Rattle.prem_profile.specs.Lines.Memory.{routine_lines}

-- each word of the code has a line, whatever registers, slots and parts it names
pub record LinesAreForWords : Type 0 where
  pub terms : (parts : Parts) (r line : ℕ) (e : Term) → length (term_lines parts.target line e) ≡ words (term_code parts.target parts.global r e)
  pub steps : (parts : Parts) (n : ℕ) (s : Steps) → length (steps_lines parts.target s) ≡ words (steps_code parts n s)
  pub functions : (parts : Parts) (f : Routine) → length (function_lines parts.target f) ≡ words (function_code parts f)

-- the table that is made for a function in memory is that of the function for which it stands, whatever turns its loops have
abbrev pub TablesAreOfFunctions : Type 0
TablesAreOfFunctions = (target : Target) (turns : ℕ → ℕ) (m : ℕ) (r : RoutineTree) → routine_lines target r ≡ function_lines target (routine_of turns m r)
