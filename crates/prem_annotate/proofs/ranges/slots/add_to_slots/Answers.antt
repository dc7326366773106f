use Rattle.prem_annotate.proofs.Prelude.{span_of, slot_of, given}
use Rattle.prem_annotate.proofs.Slots.{number_within, number_past}
use Rattle.prem_annotate.proofs.ranges.slots.add_to_slots.Goals as goal

pub returns-then-k-row : goal.returns-then-k-row
returns-then-k-row c = number_within slot_of c.args.row.now c.args.k (given (span_of c.args.range)) c.index-row-k.result c.widened_by.result c.if-k-row.true c.index-row-k.is c.widened_by.ensures

pub returns-else-k-row : goal.returns-else-k-row
returns-else-k-row c = number_past slot_of c.args.row.now c.args.k (given (span_of c.args.range)) c.if-k-row.false
