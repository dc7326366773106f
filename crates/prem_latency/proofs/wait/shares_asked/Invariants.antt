use Rattle.std.proofs.Common.{◌≡◌, ◌+◌, ◌*◌, ◌≤◌, ◌^◌, drop}
use Rattle.prem_latency.specs.Turns.{shares_asked}
use Rattle.prem_latency.proofs.wait.shares_asked.Given as goal

-- the shares so far and those of the rest are those of all, and each device adds a limited part
abbrev pub invariant-loop-device : goal.invariant-loop-device
invariant-loop-device l = record {
  shares : l.parts + shares_asked (drop l.device-index l.devices) ≡ shares_asked l.devices;
  small : l.parts ≤ l.device-index * 2 ^ 105;
}
