-- How long the transfers of a run take.
use Rattle.std.specs.Prelude.{◌≡◌, ℕ, ◌+◌, ◌≤◌, List, None, Option, IfSome, slice_get}
use Rattle.prem_cycle.specs.Prelude.{Carried, Transfer, Request, DeviceRecord, with_last, ReplacementRule}
use Rattle.prem_cycle.specs.Run.{run_of}
use Rattle.prem_cycle.specs.Runs.Window.Windows.{HaveCosts}
use Rattle.prem_cycle.specs.State.{Setup, MachineState}
use Rattle.std.specs.Option.{option_map_or}

-- the cycles of a transfer of a device, and none where there is no such device
abbrev pub device_cost : List DeviceRecord → ℕ → ℕ
device_cost devices k = option_map_or (λ d. d.device.cost) (slice_get devices k) 0

-- where the coming cycle is `now`, so many of the transfer's cycles are left
pub record IsOnItsWay (devices : List DeviceRecord) (now : ℕ) (c : Carried) : Type 0 where
  pub some : 1 ≤ c.left
  pub on_time : c.first + device_cost devices c.device ≡ now + c.left

-- the cycle `now` is the last one of the transfer
abbrev pub EndsIn : List DeviceRecord → ℕ → Transfer → Type 0
EndsIn devices now t = t.first + device_cost devices t.device ≡ now + 1

-- between two states the cycle of the first one ends a transfer, in the last of its cycles, or none
pub record EndsInTime (devices : List DeviceRecord) (s next : MachineState) : Type 0 where
  pub ended : Option Transfer
  pub log : next.log.transfers ≡ with_last ended s.log.transfers
  pub time : IfSome ended (EndsIn devices s.now)

-- ---- the laws

-- from each state of a run to the next one
abbrev pub TransfersTakeTheirCycles : Type 0
TransfersTakeTheirCycles =
    (rule : ReplacementRule) (p : Setup) (content : List ℕ) (inputs : List (List ℕ)) (requests : List Request) (n : ℕ) →
    HaveCosts p.devices → EndsInTime p.devices (run_of rule p content inputs requests n) (run_of rule p content inputs requests (n + 1))

-- in each state of a run that hasn't trapped
abbrev pub TransfersAreOnTheirWay : Type 0
TransfersAreOnTheirWay =
    (rule : ReplacementRule) (p : Setup) (content : List ℕ) (inputs : List (List ℕ)) (requests : List Request) (n : ℕ) →
    HaveCosts p.devices → (run_of rule p content inputs requests n).trapped ≡ None →
    IfSome (run_of rule p content inputs requests n).gates.carried (IsOnItsWay p.devices (run_of rule p content inputs requests n).now)
