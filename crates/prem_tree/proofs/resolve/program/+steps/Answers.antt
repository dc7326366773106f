use Rattle.std.proofs.Common.{◌≡◌, ap, sym, ◌∙◌, arith}
use Rattle.prem_list.specs.Sequence.{items_of}
use Rattle.prem_syntax.specs.Syntax.{block}
use Rattle.prem_syntax.specs.SyntaxOf.{statement_of, statements_of}
use Rattle.prem_syntax.proofs.Rows.{statement_of-Block}
use Rattle.prem_syntax.specs.Resolve.{resolve_statements, loops_within}
use Rattle.prem_names.specs.Scopes.{scope_of}
use Rattle.prem_tree.proofs.ResolveLemmas.StepLaws.{IsStep_block, AreSteps_more}
use Rattle.prem_tree.proofs.resolve.program.+steps.Goals as goal

pub resolve_stmt-returns-in_ok-resolve_stmts-in-Block : goal.resolve_stmt-returns-in_ok-resolve_stmts-in-Block
resolve_stmt-returns-in_ok-resolve_stmts-in-Block t c =
    let scope = scope_of c.args.names.now in
    let items = c.items.result.now in
    let is : statement_of c.args.stmt.now ≡ block c.in-Block.at (statements_of items) =
    ap statement_of c.in-Block.is ∙ statement_of-Block c.in-Block.at c.in-Block.body ∙ ap (λ xs. block c.in-Block.at (statements_of xs)) (sym c.items.ensures) in
    rw is (IsStep_block c.in_ok-resolve_stmts-in-Block.field-0 (λ turns n. resolve_statements scope turns n (statements_of items))
    (loops_within (statements_of items)) c.in_ok-resolve_stmts-in-Block.ensures)

pub resolve_stmts-loop-stmt-preserved : goal.resolve_stmts-loop-stmt-preserved
resolve_stmts-loop-stmt-preserved t c =
    rw c.in_ok-push.ensures.ok
    (AreSteps_more (scope_of c.args.names.now) c.args.stmts.now c.loop-stmt.stmt-index c.stmt-item.result (items_of c.loop-stmt.steps) c.in_ok-resolve_stmt.field-0 (omega arith) c.stmt-item.is
    c.loop-stmt.invariant c.in_ok-resolve_stmt.ensures)
