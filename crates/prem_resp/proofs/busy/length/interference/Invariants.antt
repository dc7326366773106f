use Rattle.std.proofs.Common.{◌≡◌, ◌+◌, ◌*◌, ◌≤◌, ◌^◌, drop}
use Rattle.prem_resp.specs.Busy.Busy.{interference}
use Rattle.prem_resp.proofs.busy.length.interference.Given as goal

-- the work so far and that of the rest are that of all, and each task adds a limited part
abbrev pub invariant-loop-load : goal.invariant-loop-load
invariant-loop-load l = record {
  work : l.work + interference l.cycles (drop l.load-index l.loads) ≡ interference l.cycles l.loads;
  small : l.work ≤ l.load-index * 2 ^ 73;
}
