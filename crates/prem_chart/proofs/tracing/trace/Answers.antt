use Rattle.std.proofs.Common.{◌≤◌, List, false, true, ap, sym, ◌∙◌, subst, arith}
use Rattle.prem_cycle.specs.State.{MachineState}
use Rattle.prem_chart.specs.declared.note.Note.{Note}
use Rattle.prem_chart.proofs.Traces.{IsTraced, ends_traced, first_now, first_traced, here, next_traced, turn_goes}
use Rattle.prem_chart.proofs.tracing.trace.Goals as goal

pub run_to-stop-requires-clause-now : goal.run_to-stop-requires-clause-now
run_to-stop-requires-clause-now g c =
    let now = ap (λ (s : MachineState). s.now) c.in_ok-machine.ensures.state ∙ first_now c.args.image.now c.args.input.now in
    subst (λ n. n ≤ 0) (sym now) (omega arith)

pub turns-init : goal.turns-init
turns-init g c =
    let image = c.args.image.now in
    let input = c.args.input.now in
    let new = c.in_ok-machine.ensures in
    let run = c.run_to-stop.ensures in
    subst (λ (notes : List Note). IsTraced image input c.args.limit 0 c.run_to-stop.result c.run_to-stop.new.self notes) (sym c.new-notes.ensures.items)
    (first_traced image input c.args.limit c.run_to-stop.result c.in_ok-machine.machine c.run_to-stop.new.self new.setup new.requests new.state run.state run.setup run.requests run.stop)

pub go_on-requires-clause-now : goal.go_on-requires-clause-now
go_on-requires-clause-now g c =
    let goes = turn_goes c.turns.at c.args.limit c.turns.stop c.has_turn.result c.has_turn.ensures c.turns-test.true in
    let now = (here c.args.image.now c.args.input.now c.args.limit c.turns.at c.turns.stop c.turns.machine c.turns.notes.items c.turns.invariant goes).now in
    let later = c.turn_end-end.ensures.from in
    subst (λ n. n ≤ c.turn_end-end.result) (sym now) (omega arith)

pub turns-preserved : goal.turns-preserved
turns-preserved g c =
    let goes = turn_goes c.turns.at c.args.limit c.turns.stop c.has_turn.result c.has_turn.ensures c.turns-test.true in
    let end = c.turn_end-end.ensures in
    let went = c.in_ok-stop.ensures in
    next_traced c.args.image.now c.args.input.now c.args.limit c.turns.at c.turns.stop c.turns.machine c.turns.notes.items c.turns.invariant c.in_ok-stop.stop c.go_on.new.machine
    c.go_on.new.notes.items c.turn_end-end.result goes end.from end.within end.notes went.state went.setup went.requests went.stop went.notes

pub returns-clause-state : goal.returns-clause-state
returns-clause-state g c =
    (ends_traced c.args.image.now c.args.input.now c.args.limit c.turns.at c.turns.stop c.turns.machine c.turns.notes.items c.turns.invariant (sym c.has_turn.ensures ∙ c.turns-test.false)).state

pub returns-clause-stop : goal.returns-clause-stop
returns-clause-stop g c =
    (ends_traced c.args.image.now c.args.input.now c.args.limit c.turns.at c.turns.stop c.turns.machine c.turns.notes.items c.turns.invariant (sym c.has_turn.ensures ∙ c.turns-test.false)).stopped

pub returns-clause-notes : goal.returns-clause-notes
returns-clause-notes g c =
    (ends_traced c.args.image.now c.args.input.now c.args.limit c.turns.at c.turns.stop c.turns.machine c.turns.notes.items c.turns.invariant (sym c.has_turn.ensures ∙ c.turns-test.false)).noted_is
