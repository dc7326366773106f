use Rattle.std.proofs.Common.{◌-◌, ap, sym, ◌∙◌, drop, subst}
use Rattle.prem_cycle.specs.State.{rule_in}
use Rattle.prem_machine.specs.States.{requests_in, setup_in, state_of}
use Rattle.prem_wave.specs.Calls.{all_counted}
use Rattle.prem_wave.proofs.Counting.{Grows, before_few, counted_on, grows}
use Rattle.prem_wave.proofs.tracing.go_on.Goals as goal

pub count_calls-requires : goal.count_calls-requires
count_calls-requires g c =
    let m = c.args.machine.now in
    let s = state_of m in
    let run = c.run_to-stop.ensures.state in
    before_few s (state_of c.run_to-stop.new.self) c.ended_count-ended.result
    (subst (Grows s) (sym run) (grows (rule_in (setup_in m)) (setup_in m) (requests_in m) (c.args.to - s.now) s)) c.ended_count-ended.ensures

pub returns-clause-counted : goal.returns-clause-counted
returns-clause-counted g c =
    let m = c.args.machine.now in
    let s = state_of m in
    let t = state_of c.run_to-stop.new.self in
    let run = c.run_to-stop.ensures.state in
    let told = c.count_calls.ensures in
    counted_on c.args.sizes.tasks s t c.ended_count-ended.result c.args.dump.now.calls.items c.count_calls.new.calls.items
    (subst (Grows s) (sym run) (grows (rule_in (setup_in m)) (setup_in m) (requests_in m) (c.args.to - s.now) s)) c.ended_count-ended.ensures told.few
    (told.counted ∙ ap (all_counted (drop c.ended_count-ended.result t.log.intervals)) c.in_ok-note.ensures.calls) c.requires.counted
