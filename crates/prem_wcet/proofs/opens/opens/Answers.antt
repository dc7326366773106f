use Rattle.std.proofs.Common.{ap, ◌∙◌, arith, length, get_or}
use Rattle.prem_asm.specs.PiecesOf.{pieces_of}
use Rattle.prem_wcet.specs.Lengths.{opens_in}
use Rattle.prem_wcet.proofs.Turns.{plan_stands, plan_opens, opening_there, opens_long, stub_at, stubs_long, turn}
use Rattle.prem_wcet.proofs.opens.opens.Goals as goal

pub opening_of-requires-clause-plan : goal.opening_of-requires-clause-plan
opening_of-requires-clause-plan c =
    plan_stands c.args.p.now c.args.t.now c.loop-k.k c.items-plans.result.now c.index-plans-k.result c.requires.task c.items-plans.ensures
    c.loop-k-test.true c.index-plans-k.is

pub opening_of-requires-clause-stub : goal.opening_of-requires-clause-stub
opening_of-requires-clause-stub c =
    let t = c.args.t.now in
    let k = c.loop-k.k in
    let plan = c.index-plans-k.result in
    let stub = c.index-stubs-k.result in
    let lt = c.loop-k-test.true in
    let lent = ap length c.items-plans.ensures in
    let long = stubs_long c.args.p.now t c.requires.task in
    ap pieces_of c.items.ensures
    ∙ stub_at c.args.p.now t k plan stub c.requires.task (omega (arith, lt, lent))
    (c.index-plans-k.is ∙ ap (λ ps. get_or ps k plan) c.items-plans.ensures) (omega (arith, lt, lent, long))
    (c.index-stubs-k.is ∙ ap (λ ss. get_or ss k stub) c.items-stubs.ensures)

pub opening_of-requires-clause-small : goal.opening_of-requires-clause-small
opening_of-requires-clause-small c =
    plan_opens c.args.p.now c.args.t.now c.loop-k.k c.items-plans.result.now c.index-plans-k.result c.requires.small c.items-plans.ensures
    c.loop-k-test.true c.index-plans-k.is

pub loop-k-preserved : goal.loop-k-preserved
loop-k-preserved c =
    let lt = c.loop-k-test.true in
    let lent = ap length c.items-plans.ensures in
    let long = opens_long c.args.p.now c.args.t.now in
    turn (opens_in c.args.p.now c.args.t.now) c.loop-k.all.items c.push.new.self.items c.loop-k.k c.in_ok-opening.opening (omega (arith, lt, lent, long)) c.loop-k.invariant c.in_ok-push.ensures.items
    (opening_there c.args.p.now c.args.t.now c.loop-k.k c.in_ok-opening.opening c.items-plans.result.now c.index-plans-k.result c.items-plans.ensures lt c.index-plans-k.is c.in_ok-opening.ensures)
