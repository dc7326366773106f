-- Programs behind the analysis, and with their code.
use Rattle.std.specs.Prelude.{◌≡◌, None}
use Rattle.prem_plant.specs.declared.plant.Target.{Target}
use Rattle.prem_syntax.specs.Syntax.{ProgramText}
use Rattle.prem_syntax.specs.ProgramRules.{IsWellFormed}
use Rattle.prem_tree.specs.Resolve.ResolvedOf.{IsResolved}
use Rattle.prem_ranges.specs.RangesKept.{turn_bounds, bounded}
use Rattle.prem_layout.specs.Template.Limits.{excess}
use Rattle.prem_stages.specs.Stages.{checked_text}
use Rattle.prem_stages.specs.Code.{code_in, program_code}
use Rattle.prem_stages.specs.declared.analyse.BoundedProgram.{BoundedProgram}
use Rattle.prem_stages.specs.declared.code.CodedProgram.{CodedProgram}

abbrev pub bounded_text : BoundedProgram → ProgramText
bounded_text b = checked_text b.checked.now

-- it is well-formed, its names are resolved, and its counting loops have these turn bounds
pub record IsBounded (b : BoundedProgram) : Type 0 where
  pub formed : IsWellFormed (bounded_text b)
  pub resolved : IsResolved b.resolved (bounded_text b)
  pub turns : b.turns.items ≡ turn_bounds (bounded_text b)

abbrev pub coded_text : CodedProgram → ProgramText
coded_text c = bounded_text c.program

-- it exceeds neither registers nor frames, and has this code for a target
pub record IsCodedProgram (target : Target) (c : CodedProgram) : Type 0 where
  pub program : IsBounded c.program
  pub fits : excess (bounded (coded_text c)) ≡ None
  pub code : code_in c.code ≡ program_code target (coded_text c)
