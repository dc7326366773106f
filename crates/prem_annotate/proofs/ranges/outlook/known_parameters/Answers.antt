use Rattle.prem_annotate.proofs.Prelude.{ranged_item, env_of, slot_of, with_slots, known_parameter, parameter_of, map, arith}
use Rattle.prem_annotate.proofs.Outlooks.{slots_next, parameters_end}
use Rattle.prem_annotate.proofs.ranges.outlook.known_parameters.Goals as goal

pub add_known-requires : goal.add_known-requires
add_known-requires c = ranged_item c.args.ps.now c.loop-i.i c.index-ps-i.result c.requires (omega arith) c.index-ps-i.is

pub loop-i-preserved : goal.loop-i-preserved
loop-i-preserved c =
    slots_next known_parameter c.args.row.now c.args.ps.now c.loop-i.i c.index-row-i.result c.index-ps-i.result (env_of c.loop-i.env.items)
    (env_of c.add_known.new.env.items) (map known_parameter (with_slots (map slot_of c.args.row.now) (map parameter_of c.args.ps.now)))
    (omega arith) (omega arith) c.index-row-i.is c.index-ps-i.is c.loop-i.invariant c.in_ok-add_known.ensures

pub returns : goal.returns
returns c = parameters_end known_parameter c.args.row.now c.args.ps.now c.loop-i.i (env_of c.loop-i.env.items)
    (map known_parameter (with_slots (map slot_of c.args.row.now) (map parameter_of c.args.ps.now))) (omega arith) c.loop-i.invariant
