use Rattle.prem_machine.specs.Parts.{state_of}
use Rattle.prem_wave.proofs.Kept.{earlier_than, later_than}
use Rattle.prem_wave.proofs.tracing.ready_change.Goals as goal

pub returns-clause-later : goal.returns-clause-later
returns-clause-later g c =
    later_than (state_of c.args.parts.now).now c.unwrap_or.result c.args.limit c.next_ready.result c.unwrap_or.ensures c.next_ready.ensures.later c.requires.limit

pub returns-clause-kept : goal.returns-clause-kept
returns-clause-kept g c = λ k v from lt.
    c.next_ready.ensures.kept k v from (earlier_than v c.unwrap_or.result c.args.limit c.next_ready.result c.unwrap_or.ensures lt)
