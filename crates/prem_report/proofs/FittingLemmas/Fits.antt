-- What a run file gives by the names of an image fits a run of it.
use Rattle.std.proofs.Common.{◌≡◌, ◌<◌, ℕ, List, [], ◌∷◌, length, map, get_or, refl, sym, ap, subst, ◌∙◌, arith}
use Rattle.std.proofs.lemmas.List.{length-map, get_or-map}
use Rattle.prem_list.specs.Sequence.{items_of}
use Rattle.prem_plant.specs.declared.plant.Device.{Device}
use Rattle.prem_plant.specs.Label.{AreDistinct}
use Rattle.prem_gate.specs.declared.request.Request.{Request}
use Rattle.prem_gate.specs.declared.request.RunInput.{RunInput}
use Rattle.prem_image.specs.declared.image.DeviceRecord.{DeviceRecord}
use Rattle.prem_image.specs.declared.image.Image.{Image}
use Rattle.prem_image.specs.Records.{device_names}
use Rattle.prem_cycle.specs.State.{Setup}
use Rattle.prem_cycle.specs.Inputs.{FitsRun, IsRequest, no_device, setup_of, words_of}
use Rattle.prem_set.specs.Run.Lawful.{IsKnown, IsLawful, IsLawfulRun}
use Rattle.prem_set.specs.Run.Names.{KnownNames}
use Rattle.prem_report.specs.Fitting.Named.{devices_in, names_for, names_in, RunFilesFit}

-- the names of devices, as those of records
pub names_of_devices : (records : List DeviceRecord) → map (λ (d : Device). d.name) (devices_in records) ≡ device_names records
names_of_devices [] = refl
names_of_devices (d ∷ records) = ap (λ t. d.device.name ∷ t) (names_of_devices records)

pub distinct_devices : (records : List DeviceRecord) → AreDistinct (device_names records) → AreDistinct (map (λ (d : Device). d.name) (devices_in records))
distinct_devices records distinct = subst AreDistinct (sym (names_of_devices records)) distinct

abbrev named : DeviceRecord → List ℕ × ℕ
named d = (d.device.name, d.device.lines)

named_devices : (p : Setup) → (names_for p.tasks p.devices).devices ≡ map named p.devices
named_devices p = each p.devices
  where
    each : (ds : List DeviceRecord) → map (λ (d : Device). (d.name, d.lines)) (devices_in ds) ≡ map named ds
    each [] = refl
    each (d ∷ ds) = ap (λ t. named d ∷ t) (each ds)

request_fits : (p : Setup) (r : Request) → IsKnown (names_for p.tasks p.devices) r → IsRequest p.devices r
request_fits p r known =
    let there : r.device < length p.devices = omega (arith, known.device, ap length (named_devices p), length-map p.devices named) in
    let lines : (get_or {A = List ℕ × ℕ} (names_for p.tasks p.devices).devices r.device ([], 0)).1 ≡ (get_or p.devices r.device no_device).device.lines =
    ap (λ (ds : List (List ℕ × ℕ)). (get_or {A = List ℕ × ℕ} ds r.device ([], 0)).1) (named_devices p)
    ∙ ap (λ (x : List ℕ × ℕ). x.1) (get_or-map named p.devices r.device no_device ([], 0) there) in
    record { device = there; line = subst (λ n. r.line < n) lines known.line }

pub lawful_fits : RunFilesFit
lawful_fits p words requests lawful =
    record {
      tasks = lawful.tasks ∙ length-map p.tasks _;
      each = lawful.each;
      short = record {
        trace = record {
          each = λ k d within. request_fits p (get_or requests k d) (lawful.known k d within);
          ordered = lawful.ordered;
        };
        count = lawful.count;
        early = λ k d within. (lawful.known k d within).cycle;
      };
    }

pub read_fits : (image : Image) (names : KnownNames) (input : RunInput) → names ≡ names_in image → IsLawfulRun names input → FitsRun (setup_of image) (words_of input) (items_of input.requests)
read_fits image names input is lawful =
    lawful_fits (setup_of image) (words_of input) (items_of input.requests) (subst (λ n. IsLawful n (words_of input) (items_of input.requests)) is lawful)
