use Rattle.prem_analysis.proofs.Prelude.{span_of, row_span, Span, range_of_op, ap, ◌∙◌}
use Rattle.prem_analysis.proofs.RangingLemmas.Bounded.{least_of_same, greatest_of_same}
use Rattle.prem_word.proofs.Kept.{range_kept}
use Rattle.prem_word.specs.Words.{result_kind}
use Rattle.prem_analysis.proofs.ranging.table.operator.Goals as goal

pub bounded-requires-clause-least : goal.bounded-requires-clause-least
bounded-requires-clause-least c =
    let op = c.args.op in let k = c.args.k in let a = span_of c.args.a in let b = span_of c.args.b in
    least_of_same (result_kind op k) (range_of_op op k a b) (row_span c.row.result)
    (c.row.ensures ∙ ap (λ (s : Span). range_of_op op k s (row_span c.table_range-2.result)) c.table_range.ensures ∙ ap (range_of_op op k a) c.table_range-2.ensures)
    (range_kept op k a b c.requires.left c.requires.right)

pub bounded-requires-clause-greatest : goal.bounded-requires-clause-greatest
bounded-requires-clause-greatest c =
    let op = c.args.op in let k = c.args.k in let a = span_of c.args.a in let b = span_of c.args.b in
    greatest_of_same (result_kind op k) (range_of_op op k a b) (row_span c.row.result)
    (c.row.ensures ∙ ap (λ (s : Span). range_of_op op k s (row_span c.table_range-2.result)) c.table_range.ensures ∙ ap (range_of_op op k a) c.table_range-2.ensures)
    (range_kept op k a b c.requires.left c.requires.right)
