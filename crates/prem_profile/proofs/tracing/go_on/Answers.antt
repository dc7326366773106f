use Rattle.std.proofs.Common.{◌-◌}
use Rattle.prem_cycle.specs.State.{rule_in}
use Rattle.prem_machine.specs.States.{requests_in, setup_in, state_of}
use Rattle.prem_profile.proofs.Turns.{seen_before}
use Rattle.prem_profile.proofs.tracing.go_on.Goals as goal

pub seen_cost-cost-requires : goal.seen_cost-cost-requires
seen_cost-cost-requires g c =
    let m = c.args.machine.now in
    let b =
    seen_before (rule_in (setup_in m)) (setup_in m) (requests_in m) (c.args.to - (state_of m).now) c.seen_of-seen.result c.args.before (state_of m) (state_of c.run_to-stop.new.self)
    c.seen_of-seen.ensures c.run_to-stop.ensures.state in
    record { now = b.now; misses = b.misses; backs = b.backs }
