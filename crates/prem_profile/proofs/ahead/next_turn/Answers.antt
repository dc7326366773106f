use Rattle.std.proofs.Common.{◌≡◌, ◌≤◌, ◌-◌, List, Some, length, ap, ap₂, ◌∙◌, subst, arith}
use Rattle.prem_list.specs.Sequence.{items_of}
use Rattle.prem_gate.specs.declared.request.Request.{Request}
use Rattle.prem_cycle.specs.State.{MachineState, Setup, rule_in}
use Rattle.prem_cycle.specs.Cycle.{is_over}
use Rattle.prem_cycle.specs.FactsOf.{stop_of}
use Rattle.prem_cycle.specs.Inputs.{setup_of}
use Rattle.prem_machine.specs.States.{requests_in, state_of}
use Rattle.prem_profile.specs.Turn.{AreSeen, seen_cost, seen_home, seen_of}
use Rattle.prem_profile.proofs.ToldTurns.{all_booked, stands_at, went_on}
use Rattle.prem_profile.proofs.ahead.next_turn.Goals as goal

pub turn_end-end-requires-clause-going : goal.turn_end-end-requires-clause-going
turn_end-end-requires-clause-going g c =
    let a = c.go_ahead.new.ahead in
    let le : length a.told.items ≤ a.booked = omega (arith, c.if-ahead-len.false, c.len.ensures, a.told.ok.0) in
    ap is_over (stands_at c.args.image.now c.args.input.now c.args.at c.args.limit c.go_ahead.new.machine a c.go_ahead.ensures le) ∙ c.requires.going

pub returns-clause-ahead : goal.returns-clause-ahead
returns-clause-ahead g c =
    let a = c.go_ahead.new.ahead in
    let e = c.go_on-spent.ensures in
    let end = c.turn_end-end.ensures in
    let from = end.from in
    let le : length a.told.items ≤ a.booked = omega (arith, c.if-ahead-len.false, c.len.ensures, a.told.ok.0) in
    went_on c.args.image.now c.args.input.now c.args.at c.turn_end-end.result c.args.limit c.go_ahead.new.machine c.go_on-spent.new.machine a c.go_ahead.ensures le (omega (arith, from)) end.within
    e.setup e.requests c.requires.now e.state

pub returns-clause-seen : goal.returns-clause-seen
returns-clause-seen g c =
    let a = c.go_ahead.new.ahead in
    let m = c.go_ahead.new.machine in
    let image = c.args.image.now in
    let input = c.args.input.now in
    let n = c.turn_end-end.result - c.args.at in
    let le : length a.told.items ≤ a.booked = omega (arith, c.if-ahead-len.false, c.len.ensures, a.told.ok.0) in
    let rest = all_booked image input c.args.at c.args.limit m a c.go_ahead.ensures le in
    let q : List Request = items_of input.requests in
    subst (λ (s : MachineState). AreSeen (rule_in (setup_of image)) (setup_of image) q n s) (stands_at image input c.args.at c.args.limit m a c.go_ahead.ensures le)
    (subst (λ (rs : List Request). AreSeen (rule_in (setup_of image)) (setup_of image) rs n (state_of m)) rest.requests
    (subst (λ (p : Setup). AreSeen (rule_in p) p (requests_in m) n (state_of m)) rest.setup c.turn_end-end.ensures.seen))

pub returns-clause-stop : goal.returns-clause-stop
returns-clause-stop g c =
    let a = c.go_ahead.new.ahead in
    let le : length a.told.items ≤ a.booked = omega (arith, c.if-ahead-len.false, c.len.ensures, a.told.ok.0) in
    subst (λ (s : MachineState). Some c.go_on-spent.result.stop ≡ stop_of c.turn_end-end.result s)
    (stands_at c.args.image.now c.args.input.now c.turn_end-end.result c.args.limit c.go_on-spent.new.machine a (returns-clause-ahead g c) le) c.go_on-spent.ensures.stop

pub returns-clause-home : goal.returns-clause-home
returns-clause-home g c =
    let a = c.go_ahead.new.ahead in
    let le : length a.told.items ≤ a.booked = omega (arith, c.if-ahead-len.false, c.len.ensures, a.told.ok.0) in
    c.go_on-spent.ensures.home
    ∙ ap₂ (λ (s t : MachineState). seen_home (seen_of c.args.before s) t) (stands_at c.args.image.now c.args.input.now c.args.at c.args.limit c.go_ahead.new.machine a c.go_ahead.ensures le)
    (stands_at c.args.image.now c.args.input.now c.turn_end-end.result c.args.limit c.go_on-spent.new.machine a (returns-clause-ahead g c) le)

pub returns-clause-cost : goal.returns-clause-cost
returns-clause-cost g c =
    let a = c.go_ahead.new.ahead in
    let le : length a.told.items ≤ a.booked = omega (arith, c.if-ahead-len.false, c.len.ensures, a.told.ok.0) in
    c.go_on-spent.ensures.cost
    ∙ ap₂ (λ (s t : MachineState). seen_cost (seen_of c.args.before s) t) (stands_at c.args.image.now c.args.input.now c.args.at c.args.limit c.go_ahead.new.machine a c.go_ahead.ensures le)
    (stands_at c.args.image.now c.args.input.now c.turn_end-end.result c.args.limit c.go_on-spent.new.machine a (returns-clause-ahead g c) le)
