-- The names by which run files speak of an image.
use Rattle.std.specs.Prelude.{ℕ, List, map}
use Rattle.prem_list.specs.Sequence.{items_of}
use Rattle.prem_plant.specs.declared.plant.Device.{Device}
use Rattle.prem_gate.specs.declared.request.Request.{Request}
use Rattle.prem_image.specs.declared.image.DeviceRecord.{DeviceRecord}
use Rattle.prem_image.specs.declared.image.TaskRecord.{TaskRecord}
use Rattle.prem_image.specs.declared.image.Image.{Image}
use Rattle.prem_image.specs.Records.{task_names}
use Rattle.prem_cycle.specs.State.{Setup}
use Rattle.prem_cycle.specs.Inputs.{FitsRun}
use Rattle.prem_set.specs.Run.Names.{KnownNames, known_of}
use Rattle.prem_set.specs.Run.Lawful.{IsLawful}

abbrev pub devices_in : List DeviceRecord → List Device
devices_in devices = map (λ d. d.device) devices

abbrev pub names_for : List TaskRecord → List DeviceRecord → KnownNames
names_for tasks devices = known_of (task_names tasks) (devices_in devices)

abbrev pub names_in : Image → KnownNames
names_in image = names_for (items_of image.tasks) (items_of image.devices)

-- what is lawful by the names fits a run
abbrev pub RunFilesFit : Type 0
RunFilesFit =
    (p : Setup) (words : List (List ℕ)) (requests : List Request) → IsLawful (names_for p.tasks p.devices) words requests → FitsRun p words requests
