use Rattle.std.proofs.Common.{◌≡◌, drop}
use Rattle.prem_resp.specs.Lines.{all_within}
use Rattle.prem_resp.proofs.lines.all_within.Given as goal

abbrev pub invariant-loop-busy : goal.invariant-loop-busy
invariant-loop-busy l = all_within (drop l.busy-index l.found) ≡ all_within l.found
