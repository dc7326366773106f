use Rattle.std.proofs.Common.{◌≡◌, ◌+◌, ◌-◌, refl, ap, sym, ◌∙◌, subst, arith}
use Rattle.prem_list.specs.Sequence.{items_of}
use Rattle.prem_cycle.specs.State.{MachineState, rule_in}
use Rattle.prem_cycle.specs.Inputs.{setup_of}
use Rattle.prem_profile.specs.Turn.{AreSeen, seen_cost, seen_home, seen_of}
use Rattle.prem_profile.specs.Ahead.{run_after}
use Rattle.prem_profile.proofs.ToldTurns.{at_rest, behind_next, next_told, one_turn, told_seen}
use Rattle.prem_profile.proofs.ahead.told_turn.Goals as goal

pub stop_behind-stop-requires-clause-ahead : goal.stop_behind-stop-requires-clause-ahead
stop_behind-stop-requires-clause-ahead g c =
    let a = c.args.ahead.now in
    behind_next c.args.image.now c.args.input.now c.args.at c.args.limit c.args.machine.now a c.requires.ahead c.index-execution.result.now
    (record { told = a.told; booked = a.booked + 1 }) c.requires.some (sym c.index-execution.ensures) refl refl

pub stop_behind-stop-requires-clause-now : goal.stop_behind-stop-requires-clause-now
stop_behind-stop-requires-clause-now g c =
    let image = c.args.image.now in
    let input = c.args.input.now in
    let x = c.index-execution.result.now in
    let told = next_told image input c.args.at c.args.limit c.args.machine.now c.args.ahead.now c.requires.ahead x c.requires.some (sym c.index-execution.ensures) in
    ap (λ (s : MachineState). s.now) (sym (at_rest image input c.args.at x.cycles)) ∙ told.one.passes x.cycles (omega arith) ∙ ap (λ n. n + x.cycles) c.requires.now

pub returns-clause-seen : goal.returns-clause-seen
returns-clause-seen g c =
    let image = c.args.image.now in
    let input = c.args.input.now in
    let x = c.index-execution.result.now in
    let s = run_after image input c.args.at in
    let told = next_told image input c.args.at c.args.limit c.args.machine.now c.args.ahead.now c.requires.ahead x c.requires.some (sym c.index-execution.ensures) in
    let same : x.cycles ≡ c.args.at + x.cycles - c.args.at = omega arith in
    subst (λ n. AreSeen (rule_in (setup_of image)) (setup_of image) (items_of input.requests) n s) same
    (one_turn (rule_in (setup_of image)) (setup_of image) (items_of input.requests) told.task x.cycles s told.one)

pub returns-clause-home : goal.returns-clause-home
returns-clause-home g c =
    let image = c.args.image.now in
    let input = c.args.input.now in
    let x = c.index-execution.result.now in
    let s = run_after image input c.args.at in
    let told = next_told image input c.args.at c.args.limit c.args.machine.now c.args.ahead.now c.requires.ahead x c.requires.some (sym c.index-execution.ensures) in
    (told_seen (rule_in (setup_of image)) (setup_of image) (items_of input.requests) x c.args.before s told).home_is ∙ ap (seen_home (seen_of c.args.before s)) (at_rest image input c.args.at x.cycles)

pub returns-clause-cost : goal.returns-clause-cost
returns-clause-cost g c =
    let image = c.args.image.now in
    let input = c.args.input.now in
    let x = c.index-execution.result.now in
    let s = run_after image input c.args.at in
    let told = next_told image input c.args.at c.args.limit c.args.machine.now c.args.ahead.now c.requires.ahead x c.requires.some (sym c.index-execution.ensures) in
    c.execution_cost.ensures
    ∙ (told_seen (rule_in (setup_of image)) (setup_of image) (items_of input.requests) x c.args.before s told).cost_is ∙ ap (seen_cost (seen_of c.args.before s)) (at_rest image input c.args.at x.cycles)
