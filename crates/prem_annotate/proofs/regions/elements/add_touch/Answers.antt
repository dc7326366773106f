use Rattle.prem_annotate.proofs.Prelude.{span_of, widened, ap, Some, option_map}
use Rattle.prem_annotate.proofs.Slots.{number_within, number_past}
use Rattle.prem_annotate.proofs.regions.elements.add_touch.Goals as goal

pub returns-then-t-all : goal.returns-then-t-all
returns-then-t-all c =
    number_within (option_map span_of) c.args.all.now c.args.t.global (widened (span_of c.args.t.elements)) c.index-all-t.result
    (Some c.widened.result) c.if-t-all.true c.index-all-t.is (ap Some c.widened.ensures)

pub returns-else-t-all : goal.returns-else-t-all
returns-else-t-all c = number_past (option_map span_of) c.args.all.now c.args.t.global (widened (span_of c.args.t.elements)) c.if-t-all.false
