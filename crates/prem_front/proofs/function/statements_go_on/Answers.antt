use Rattle.std.proofs.Common.{◌≡◌, IfOk, ap, ◌∙◌, subst}
use Rattle.prem_syntax.specs.SyntaxOf.{function_of}
use Rattle.prem_text.specs.Lexing.Token.Lexeme.{seen_of}
use Rattle.prem_text.specs.Grammar.Item.{statement_step}
use Rattle.prem_text.specs.Grammar.Statement.{Turn, turn}
use Rattle.prem_reader.specs.Statement.PointOf.{point_of, turn_of}
use Rattle.prem_front.specs.StageOf.{step_of}
use Rattle.prem_front.proofs.Taking.{left_step}
use Rattle.prem_front.proofs.function.statements_go_on.Goals as goal

pub returns : goal.returns
returns c =
    let f = function_of c.args.function in
    let same : statement_step f (turn_of c.in_ok-taken.taken) (seen_of c.turn.new.spotted) ≡ statement_step f (turn (point_of c.args.point) (seen_of c.args.spotted.now)) (seen_of c.args.spotted.now) =
    left_step f c.in_ok-taken.taken c.args.spotted.now c.turn.new.spotted c.in_ok-taken.ensures.left
    ∙ ap (λ (u : Turn). statement_step f u (seen_of c.args.spotted.now)) c.in_ok-taken.ensures.turn in
    subst (λ w. IfOk c.statement_step.result (λ s. step_of s ≡ w)) same c.statement_step.ensures
