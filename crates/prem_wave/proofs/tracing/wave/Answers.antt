use Rattle.std.proofs.Common.{◌≡◌, ◌≤◌, ◌++◌, List, ℕ, Option, ap, ap₂, sym, ◌∙◌, subst, arith, append_assoc}
use Rattle.prem_list.specs.Sequence.{items_of}
use Rattle.prem_cycle.specs.State.{MachineState}
use Rattle.prem_machine.specs.States.{state_of}
use Rattle.prem_wave.specs.Dump.{moments_of, moments_text, time_text}
use Rattle.prem_wave.specs.Header.{header_text}
use Rattle.prem_wave.specs.Names.{device_names, task_names}
use Rattle.prem_wave.proofs.Counting.{counted_all}
use Rattle.prem_wave.proofs.Waved.{IsWaved, ended, first_now, first_waved, here, next_waved, turn_goes, values_at}
use Rattle.prem_wave.proofs.tracing.wave.Goals as goal

pub run_to-stop-requires-clause-now : goal.run_to-stop-requires-clause-now
run_to-stop-requires-clause-now g c =
    let now = ap (λ (s : MachineState). s.now) c.in_ok-machine.ensures.state ∙ first_now c.args.image.now c.args.input.now in
    omega (arith, now)

pub run_to-stop-requires-clause-limit : goal.run_to-stop-requires-clause-limit
run_to-stop-requires-clause-limit g c =
    let at = c.min-at.ensures in
    let few = c.requires.limit in
    omega (arith, at, few)

pub turns-init : goal.turns-init
turns-init g c =
    let image = c.args.image.now in
    let input = c.args.input.now in
    let header = header_text (task_names (items_of image.tasks)) (device_names (items_of image.devices)) in
    let new = c.in_ok-machine.ensures in
    let run = c.run_to-stop.ensures in
    let text_is : c.in_ok-declarations.field-0.items ≡ header =
    c.in_ok-declarations.ensures ∙ ap₂ (λ a b. header_text (task_names a) (device_names b)) c.items.ensures c.items-2.ensures in
    let at = c.min-at.result in
    let waved =
    subst (λ (t : List ℕ). IsWaved image input c.args.from c.args.limit at c.run_to-stop.result c.run_to-stop.new.self header t c.new-2.result.items) (sym text_is)
    (subst (λ (l : List (Option ℕ)). IsWaved image input c.args.from c.args.limit at c.run_to-stop.result c.run_to-stop.new.self header header l) (sym c.new-2.ensures.items)
    (first_waved image input c.args.from c.args.limit at c.run_to-stop.result c.in_ok-machine.machine c.run_to-stop.new.self header c.min-at.ensures new.setup
    new.requests new.state run.state run.setup run.requests run.stop)) in
    let told = c.count_calls.ensures in (
      waved,
      counted_all c.sizes_of-sizes.result.tasks (state_of c.run_to-stop.new.self).log.intervals c.in_ok-no_calls.field-0.items c.count_calls.new.calls.items
          c.in_ok-no_calls.ensures told.few told.counted,
    )

pub go_on-requires-clause-now : goal.go_on-requires-clause-now
go_on-requires-clause-now g c =
    let image = c.args.image.now in
    let header = header_text (task_names (items_of image.tasks)) (device_names (items_of image.devices)) in
    let goes = turn_goes c.turns.at c.args.limit c.turns.stop c.has_turn.result c.has_turn.ensures c.turns-test.true in
    let now = (here image c.args.input.now c.args.from c.args.limit c.turns.at c.turns.stop c.turns.machine header c.turns.dump.text.items c.turns.dump.last.items c.turns.invariant.0 goes).now in
    let later = c.turn_end-end.ensures.from in
    subst (λ n. n ≤ c.turn_end-end.result) (sym now) (omega (arith, later))

pub go_on-requires-clause-counted : goal.go_on-requires-clause-counted
go_on-requires-clause-counted g c = c.turns.invariant.1

pub turns-preserved : goal.turns-preserved
turns-preserved g c =
    let image = c.args.image.now in
    let header = header_text (task_names (items_of image.tasks)) (device_names (items_of image.devices)) in
    let goes = turn_goes c.turns.at c.args.limit c.turns.stop c.has_turn.result c.has_turn.ensures c.turns-test.true in
    let end = c.turn_end-end.ensures in
    let went = c.in_ok-stop.ensures in
    let sizes = c.sizes_of-sizes.result in
    let are = c.sizes_of-sizes.ensures in (
      next_waved image c.args.input.now c.args.from c.args.limit c.turns.at c.turns.stop c.turns.machine header c.turns.dump.text.items c.turns.dump.last.items c.turns.invariant.0
          sizes.switch sizes.tasks sizes.devices c.in_ok-stop.stop c.go_on.new.machine c.go_on.new.dump.text.items c.go_on.new.dump.last.items c.turn_end-end.result goes end.from end.within
          are.switch are.tasks are.devices end.kept went.state went.setup went.requests went.stop went.text went.last,
      went.counted,
    )

pub returns : goal.returns
returns g c =
    let image = c.args.image.now in
    let input = c.args.input.now in
    let header = header_text (task_names (items_of image.tasks)) (device_names (items_of image.devices)) in
    let values = values_at image input in
    let w = c.turns.invariant.0 in
    let over = ended image input c.args.from c.args.limit c.turns.at c.turns.stop c.turns.machine header c.turns.dump.text.items
    c.turns.dump.last.items w (sym c.has_turn.ensures ∙ c.turns-test.false) in
    c.in_ok-push_end.ensures ∙ ap₂ (λ t n. t ++ time_text n) w.text_is c.now.ensures
    ∙ append_assoc header (moments_text (moments_of values c.args.from c.turns.machine.state.now)) (time_text c.turns.machine.state.now)
    ∙ ap (λ (s : MachineState). header ++ (moments_text (moments_of values c.args.from s.now) ++ time_text s.now)) over
