use Rattle.std.proofs.Common.{◌≡◌, arith, rules}
use Rattle.std.proofs.lemmas.Grind.{common_steps}
use Rattle.prem_syntax.specs.SyntaxOf.{function_of}
use Rattle.prem_syntax.specs.Resolve.{scope_at, scope_in}
use Rattle.prem_names.specs.Scopes.{scope_of}
use Rattle.prem_tree.proofs.ResolveLemmas.StepLaws.{IsRoutine_made}
use Rattle.prem_tree.proofs.resolve.program.resolve_function.Goals as goal

pub returns-clause-routine : goal.returns-clause-routine
returns-clause-routine c =
    let old = scope_of c.args.names.now in
    let f = function_of c.args.f.now in
    let at_first : scope_of c.add_params.new.names ≡ scope_at old.functions old.globals f = grind (arith, common_steps) in
    let at_inner : scope_of c.resolve_locals.new.names ≡ scope_in old.functions old.globals f = grind (arith, common_steps) in
    IsRoutine_made c.args.f c.in_ok-locals.locals c.in_ok-resolve_stmts.field-0 c.in_ok-result.result old.functions old.globals (scope_of c.add_params.new.names) (scope_of c.resolve_locals.new.names)
    at_first at_inner (search rules) (rw c.items-3.ensures at c.in_ok-resolve_stmts.ensures) (search rules)
