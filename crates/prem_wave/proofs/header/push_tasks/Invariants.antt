use Rattle.std.proofs.Common.{◌≡◌, ◌+◌, ◌*◌, ◌++◌, drop}
use Rattle.prem_wave.specs.Header.{tasks_text}
use Rattle.prem_wave.specs.Names.{task_names}
use Rattle.prem_wave.proofs.header.push_tasks.Given as goal

-- what is left gives what is missing
abbrev pub invariant-tasks : goal.invariant-tasks
invariant-tasks l =
    record {
      signal : l.signal ≡ l.first + 3 * l.task-index;
      text : l.text.items ++ tasks_text l.signal (task_names (drop l.task-index l.tasks)) ≡ l.initial.text.items ++ tasks_text l.first (task_names l.tasks);
    }
