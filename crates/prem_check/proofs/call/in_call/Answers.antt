use Rattle.std.specs.Option.{option_map}
use Rattle.std.proofs.Common.{ap, sym, ◌∙◌, map, length, is_some}
use Rattle.prem_syntax.specs.Name.{name_bytes}
use Rattle.prem_syntax.specs.SyntaxOf.{expression_of}
use Rattle.prem_syntax.specs.Rules.{first_of}
use Rattle.prem_syntax.specs.Resolve.{find_function}
use Rattle.prem_syntax.specs.Breaches.{in_call_target, in_callee, in_expressions}
use Rattle.prem_check.specs.FoundOf.{found_of}
use Rattle.prem_check.specs.AroundOf.{around_of}
use Rattle.prem_check.proofs.Steps.{in_three}
use Rattle.prem_check.proofs.Names.{target_is_some, as_many}
use Rattle.prem_check.proofs.call.in_call.Goals as goal

pub returns : goal.returns
returns c =
    let at = c.args.at in
    let around = around_of c.args.around.now in
    let target = option_map name_bytes c.args.target.now in
    let callee = name_bytes c.args.callee.now in
    let f = find_function around.scope.functions callee in
    let args = c.args.arguments.now in
    in_three (in_call_target at around.scope target) (in_callee at around callee (is_some target) (length (map expression_of args)) f) (in_expressions around.scope (map expression_of args))
    (found_of c.in_call_target.result) (found_of c.in_callee.result) (found_of c.in_expressions.result) (found_of c.earlier-own.result) (found_of c.earlier.result) c.in_call_target.ensures
    (c.in_callee.ensures ∙ ap (λ b. first_of (in_callee at around callee b (length args) f)) (c.is_some.ensures ∙ sym (target_is_some c.args.target.now))
    ∙ ap (λ n. first_of (in_callee at around callee (is_some target) n f)) (sym (as_many args)))
    c.in_expressions.ensures c.earlier-own.ensures c.earlier.ensures
