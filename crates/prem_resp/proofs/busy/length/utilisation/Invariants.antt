use Rattle.std.proofs.Common.{◌≡◌, ◌+◌, ◌*◌, ◌≤◌, ◌^◌, drop}
use Rattle.prem_resp.specs.Busy.Busy.{utilisation}
use Rattle.prem_resp.proofs.busy.length.utilisation.Given as goal

-- the part so far and that of the rest are that of all, and each task adds a limited part
abbrev pub invariant-loop-load : goal.invariant-loop-load
invariant-loop-load l = record {
  used : l.used + utilisation (drop l.load-index l.loads) ≡ utilisation l.loads;
  small : l.used ≤ l.load-index * 2 ^ 104;
}
