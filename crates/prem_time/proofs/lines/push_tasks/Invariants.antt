use Rattle.std.proofs.Common.{◌≡◌, ◌++◌, map, drop}
use Rattle.prem_wcet.specs.TimedOf.{times_in}
use Rattle.prem_time.specs.Lines.{tasks_text}
use Rattle.prem_time.specs.Told.{tolds_told}
use Rattle.prem_time.proofs.lines.push_tasks.Given as goal

abbrev pub invariant-loop-i : goal.invariant-loop-i
invariant-loop-i l =
    l.text.items ++ tasks_text l.loads l.i (tolds_told (drop l.i l.tasks) (drop l.i l.bounds) (map times_in (drop l.i l.times))) (drop l.i l.found)
    ≡ l.initial.text.items ++ tasks_text l.loads 0 (tolds_told l.tasks l.bounds (map times_in l.times)) l.found
