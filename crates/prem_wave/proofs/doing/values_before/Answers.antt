use Rattle.std.specs.Prelude.{slice_index}
use Rattle.std.proofs.Common.{rules, ◌≡◌, List, ◌∷◌, Option, Some, ℕ, ap, ◌∙◌}
use Rattle.prem_machine.specs.Parts.{state_of}
use Rattle.prem_wave.specs.Signals.{bit, core_task, doing_of, each, is_open, task_values, task_values_with}
use Rattle.prem_wave.proofs.Counting.{each_below}
use Rattle.prem_wave.proofs.doing.values_before.Goals as goal

pub returns : goal.returns
returns g c =
    let s = state_of c.args.parts.now in
    let switch = c.args.switch in
    let told : c.push_tasks.new.values.items ≡ core_task (doing_of switch s) ∷ Some (bit (is_open s.now s.core.window))
    ∷ each (λ k. task_values_with switch s (slice_index c.args.calls.now k) k) c.args.tasks = search rules in
    told ∙ ap (λ (values : List (Option ℕ)). core_task (doing_of switch s) ∷ Some (bit (is_open s.now s.core.window)) ∷ values)
    (each_below (λ k. task_values_with switch s (slice_index c.args.calls.now k) k) (task_values switch s) c.args.tasks
    (λ k lt. ap (λ n. task_values_with switch s n k) (c.requires.calls_are k lt)))
