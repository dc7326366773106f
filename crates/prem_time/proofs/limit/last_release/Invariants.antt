use Rattle.std.proofs.Common.{◌≡◌, ◌≤◌, ◌^◌, max, drop}
use Rattle.prem_sound.specs.Script.Scripts.{last_release}
use Rattle.prem_time.proofs.limit.last_release.Given as goal

-- the greatest so far, with that of the rest
abbrev pub invariant-loop-task : goal.invariant-loop-task
invariant-loop-task l = record {
  rest : max l.last (last_release (drop l.task-index l.tasks)) ≡ last_release l.tasks;
  small : l.last ≤ 2 ^ 48;
}
