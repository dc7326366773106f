use Rattle.std.proofs.Common.{◌≡◌, ◌≤◌, ◌-◌, ap, ◌∙◌, sym, subst, arith}
use Rattle.prem_list.specs.Sequence.{items_of}
use Rattle.prem_lru.specs.Rules.{rule_of}
use Rattle.prem_cycle.specs.State.{rule_in, MachineState}
use Rattle.prem_cycle.specs.Inputs.{setup_of, image_run}
use Rattle.prem_cycle.specs.Run.{cycles_of}
use Rattle.prem_machine.specs.States.{state_of, requests_in}
use Rattle.prem_exec.specs.Exec.{stop_at}
use Rattle.prem_exec.proofs.Stages.{starts_at, goes_from_start, stop_is}
use Rattle.prem_exec.proofs.run.run_image.Goals as goal

pub run_to-stop-requires-clause-now : goal.run_to-stop-requires-clause-now
run_to-stop-requires-clause-now g c =
    let now = ap (λ (s : MachineState). s.now) c.in_ok-machine.ensures.state ∙ starts_at c.args.image.now c.args.input.now in
    subst (λ n. n ≤ c.args.limit) (sym now) (omega arith)

pub returns-clause-state : goal.returns-clause-state
returns-clause-state g c =
    let image = c.args.image.now in
    let input = c.args.input.now in
    let m = c.in_ok-machine.machine in
    let limit = c.args.limit in
    let left = limit - (state_of m).now in
    let rule = rule_of image.plant.policy in
    let first = image_run rule image input 0 in
    let whole : limit - 0 ≡ limit = omega arith in
    c.run_to-stop.ensures.state
    ∙ ap (λ p. cycles_of (rule_in p) p (requests_in m) left (state_of m)) c.in_ok-machine.ensures.setup
    ∙ ap (λ r. cycles_of rule (setup_of image) r left (state_of m)) c.in_ok-machine.ensures.requests
    ∙ ap (λ s. cycles_of rule (setup_of image) (items_of input.requests) (limit - s.now) s) c.in_ok-machine.ensures.state
    ∙ ap (λ n. cycles_of rule (setup_of image) (items_of input.requests) (limit - n) first) (starts_at image input)
    ∙ ap (λ n. cycles_of rule (setup_of image) (items_of input.requests) n first) whole
    ∙ goes_from_start image input limit

pub returns-clause-stop : goal.returns-clause-stop
returns-clause-stop g c =
    stop_is c.run_to-stop.result c.args.limit (state_of c.run_to-stop.new.self) c.run_to-stop.ensures.stop ∙ ap (stop_at c.args.limit) (returns-clause-state g c)
