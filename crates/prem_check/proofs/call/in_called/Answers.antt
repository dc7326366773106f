use Rattle.std.proofs.Common.{ap, ◌∙◌, not, ◌&&◌, nat_lt, ◌==◌, length}
use Rattle.prem_syntax.specs.declared.rules.TypeRule.TheVariants.{Count, Target}
use Rattle.prem_syntax.specs.SyntaxOf.{function_of}
use Rattle.prem_syntax.specs.Rules.{CallOrder, MarkedCall, OfTypes, first_of}
use Rattle.prem_syntax.specs.Breaches.{if_at, is_marked_text, is_void}
use Rattle.prem_check.specs.FoundOf.{found_of}
use Rattle.prem_check.proofs.Steps.{in_four}
use Rattle.prem_check.proofs.call.in_called.Goals as goal

pub returns : goal.returns
returns c =
    let at = c.args.at in
    let f = function_of c.args.callee.now in
    in_four (if_at (not (nat_lt c.args.number c.args.around.now.number)) at CallOrder) (if_at (is_marked_text f && not c.args.around.now.is_job) at MarkedCall)
    (if_at (c.args.has_target && is_void f.ty) at (OfTypes Target)) (if_at (not (length f.params == c.args.arguments)) at (OfTypes Count))
    (found_of c.if_at-order.result) (found_of c.if_at-marked.result) (found_of c.if_type_at-target.result) (found_of c.if_type_at-count.result) (found_of c.earlier.result)
    (found_of c.earlier-2.result) (found_of c.earlier-3.result)
    (c.if_at-order.ensures ∙ ap (λ b. first_of (if_at b at CallOrder)) c.is_late.ensures)
    (c.if_at-marked.ensures ∙ ap (λ b. first_of (if_at b at MarkedCall)) c.is_marked_elsewhere.ensures)
    (c.if_type_at-target.ensures ∙ ap (λ b. first_of (if_at b at (OfTypes Target))) c.has_void_target.ensures)
    (c.if_type_at-count.ensures ∙ ap (λ b. first_of (if_at b at (OfTypes Count))) c.has_other_count.ensures)
    c.earlier.ensures c.earlier-2.ensures c.earlier-3.ensures
