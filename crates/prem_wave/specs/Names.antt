-- The names of an image's tasks and devices.
use Rattle.std.specs.Prelude.{ℕ, List, map}
use Rattle.prem_image.specs.declared.image.TaskRecord.{TaskRecord}
use Rattle.prem_image.specs.declared.image.DeviceRecord.{DeviceRecord}

abbrev pub task_names : List TaskRecord → List (List ℕ)
task_names tasks = map (λ t. t.name) tasks

abbrev pub device_names : List DeviceRecord → List (List ℕ)
device_names devices = map (λ d. d.device.name) devices
