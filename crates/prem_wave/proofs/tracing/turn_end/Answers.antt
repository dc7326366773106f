use Rattle.std.specs.Prelude.{max, min, unwrap_or}
use Rattle.std.proofs.Common.{◌+◌, ap, ◌∙◌}
use Rattle.prem_cycle.specs.State.{rule_in}
use Rattle.prem_machine.specs.Parts.{state_of as parts_state}
use Rattle.prem_machine.specs.States.{requests_in, setup_in, state_of}
use Rattle.prem_wave.specs.Waves.{window_change}
use Rattle.prem_wave.proofs.Kept.{turn_told}
use Rattle.prem_wave.proofs.tracing.turn_end.Goals as goal

pub returns-clause-kept : goal.returns-clause-kept
returns-clause-kept g c =
    let m = c.args.machine.now in
    turn_told (rule_in (setup_in m)) (setup_in m) (requests_in m) (state_of m) (parts_state c.parts.result.now)
    c.args.at c.next_event-event.result c.ready_change-ready.result c.unwrap_or-window.result c.args.limit
    c.max.result c.parts.ensures.state c.requires.now (c.parts.ensures.steady c.requires.going) c.next_event-event.ensures.dull c.ready_change-ready.ensures.kept
    (c.unwrap_or-window.ensures ∙ ap (λ o. unwrap_or o c.args.limit) (c.window_change.ensures ∙ ap (window_change c.args.at) c.window.ensures))
    (c.max.ensures ∙ ap (λ x. max x (c.args.at + 1)) (c.min-2.ensures ∙ ap (λ x. min x c.unwrap_or-window.result) c.min.ensures))
