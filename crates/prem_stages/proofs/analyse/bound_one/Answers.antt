use Rattle.std.proofs.Common.{◌≡◌, ap, subst}
use Rattle.prem_syntax.specs.Syntax.{ProgramText}
use Rattle.prem_syntax.specs.SyntaxOf.{program_of}
use Rattle.prem_syntax.specs.ProgramRules.{IsWellFormed}
use Rattle.prem_tree.specs.Resolve.ResolvedOf.{IsResolved}
use Rattle.prem_stages.specs.Stages.{checked_text}
use Rattle.prem_stages.proofs.analyse.bound_one.Goals as goal

pub turns_one-requires-clause-resolved : goal.turns_one-requires-clause-resolved
turns_one-requires-clause-resolved c =
    subst (λ (p : ProgramText). IsResolved c.in_ok-resolved.resolved p) (ap program_of c.program-program.ensures.program) c.in_ok-resolved.ensures

pub returns-clause-bounded : goal.returns-clause-bounded
returns-clause-bounded c =
    let text : program_of c.program-program.result.now ≡ checked_text c.args.checked.now = ap program_of c.program-program.ensures.program in
    record {
      formed = subst IsWellFormed text c.program-program.ensures.well_formed;
      resolved = subst (λ (p : ProgramText). IsResolved c.in_ok-resolved.resolved p) text c.in_ok-resolved.ensures;
      turns = c.in_ok-turns.ensures.turns;
    }
