use Rattle.prem_annotate.proofs.Prelude.{slot_of, with_slots, Parameter, parameter_of, map, arith}
use Rattle.prem_annotate.proofs.Outlooks.{slots_next, parameters_end}
use Rattle.prem_annotate.proofs.ranges.outlook.ranges.Goals as goal

pub loop-i-preserved : goal.loop-i-preserved
loop-i-preserved c =
    slots_next (λ (p : Parameter). p.range)
    c.args.row.now c.args.ps.now c.loop-i.i c.index-row-i.result c.index-ps-i.result c.loop-i.all.items c.add_range.new.all.items
    (map (λ (p : Parameter). p.range) (with_slots (map slot_of c.args.row.now) (map parameter_of c.args.ps.now)))
    (omega arith) (omega arith) c.index-row-i.is c.index-ps-i.is c.loop-i.invariant c.in_ok-add_range.ensures

pub returns : goal.returns
returns c = parameters_end (λ (p : Parameter). p.range) c.args.row.now c.args.ps.now c.loop-i.i c.loop-i.all.items
    (map (λ (p : Parameter). p.range) (with_slots (map slot_of c.args.row.now) (map parameter_of c.args.ps.now))) (omega arith) c.loop-i.invariant
