use Rattle.prem_annotate.proofs.Prelude.{span_of, row_of, given, at_number, ParameterRange, ap, sym, ◌∙◌, Global, Vec}
use Rattle.prem_annotate.proofs.Slots.{number_within, number_past}
use Rattle.prem_annotate.proofs.ranges.slots.add.Goals as goal

pub returns-then-a-rows : goal.returns-then-a-rows
returns-then-a-rows c =
    number_within row_of c.args.rows.now c.args.a.callee (λ row. at_number c.args.a.parameter (given (span_of c.args.a.range)) row)
    c.index-rows-a.result c.add_to_row.new.row c.if-a-rows.true c.index-rows-a.is
    (c.add_to_row.ensures ∙ ap (λ (v : Vec ParameterRange Global). at_number c.args.a.parameter (given (span_of c.args.a.range)) (row_of v)) (sym c.index-rows-a.is))

pub returns-else-a-rows : goal.returns-else-a-rows
returns-else-a-rows c = number_past row_of c.args.rows.now c.args.a.callee (λ row. at_number c.args.a.parameter (given (span_of c.args.a.range)) row) c.if-a-rows.false
