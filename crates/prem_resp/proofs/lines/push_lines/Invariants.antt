use Rattle.std.proofs.Common.{◌≡◌, ◌++◌, drop}
use Rattle.prem_resp.specs.Lines.{lines_from}
use Rattle.prem_resp.specs.Told.{names_of}
use Rattle.prem_resp.proofs.lines.push_lines.Given as goal

abbrev pub invariant-loop-i : goal.invariant-loop-i
invariant-loop-i l =
    l.text.items ++ lines_from l.loads l.i (names_of (drop l.i l.tasks)) (drop l.i l.found) ≡ l.initial.text.items ++ lines_from l.loads 0 (names_of l.tasks) l.found
