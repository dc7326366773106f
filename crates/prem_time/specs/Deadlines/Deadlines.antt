-- Sets meet their deadlines by what their jobs take at most.
use Rattle.std.specs.Prelude.{◌≡◌, ◌<◌, ◌≤◌, ℕ, ◌+◌, List, [], ◌∷◌, length, None}
use Rattle.prem_plant.specs.declared.plant.Plant.{Plant}
use Rattle.prem_plant.specs.Places.{Extent}
use Rattle.prem_lru.specs.Entries.{ReplacementRule}
use Rattle.prem_lru.specs.Rules.{rule_of}
use Rattle.prem_gate.specs.declared.request.Request.{Request}
use Rattle.prem_image.specs.declared.image.TaskRecord.{TaskRecord}
use Rattle.prem_cycle.specs.State.{Setup}
use Rattle.prem_cycle.specs.Inputs.{image_setup, IsTrace}
use Rattle.prem_sound.specs.Serve.Requests.{PutWords}
use Rattle.prem_sound.specs.Sound.{AreInputs}
use Rattle.prem_tasks.specs.Broken.{TaskSet}
use Rattle.prem_tasks.specs.At.{placed_by, broken_at, compiled_at, AreLawfulFor}
use Rattle.prem_sets_sound.specs.ImagePremises.Accepted.{HasValues}
use Rattle.prem_resp.specs.declared.busy.load.Load.{Load}
use Rattle.prem_resp.specs.Busy.Busy.{load_at}
use Rattle.prem_resp.specs.Busy.Schedule.{served}
use Rattle.prem_resp.specs.Deadline.Timeline.{timeline_of}
use Rattle.prem_resp.specs.Deadline.Images.{MeetsDeadlines, KeepsIntervals}
use Rattle.prem_resp.specs.Timed.Timed.{TellsCharges}
use Rattle.prem_latency.specs.Wcet.Sets.{wcet_at, stretch_at}

-- for all input words, requests of devices, and numbers of cycles: the core has worked for each job of a task at most what the task's load
-- tells, with its switches and waits
abbrev pub KeepsCosts : ReplacementRule → Setup → (content : List ℕ) → List Load → Type 0
KeepsCosts rule p content loads =
    (inputs : List (List ℕ)) (requests : List Request) → AreInputs p inputs → IsTrace p.devices requests → PutWords requests →
    (n k job : ℕ) → k < length p.tasks → served (timeline_of rule p content inputs requests) k job n ≤ (load_at loads k).cost

-- the loads of tasks that are counted from k on: their periods, what their jobs take, and their longest intervals with the switch before them
abbrev pub loads_from : Plant → (cycles longest : ℕ → ℕ) → (k : ℕ) → List TaskRecord → List Load
loads_from p cycles longest k [] = []
loads_from p cycles longest k (t ∷ ts) = record { period = t.period; cost = cycles k; longest = p.switch + longest k } ∷ loads_from p cycles longest (k + 1) ts

abbrev pub loads_by : Setup → (cycles longest : ℕ → ℕ) → List Load
loads_by p cycles longest = loads_from p.plant cycles longest 0 p.tasks

-- each setup has loads that tell its charges
abbrev pub LoadsTell : Type 0
LoadsTell = (p : Setup) (cycles longest : ℕ → ℕ) → TellsCharges p cycles longest (loads_by p cycles longest)

-- by what jobs take at most, at any lawful places, for all input words and all requests of devices: each job has ended within its busy
-- period behind its release, where that is within the period; each compatible interval lasts no longer than the longest, with its switch;
-- and no job is served longer than it takes at most
abbrev pub SetsMeetDeadlinesByWcet : Type 0
SetsMeetDeadlinesByWcet =
    (set : TaskSet) (places : List Extent) → HasValues set → AreLawfulFor set places → broken_at set places ≡ None → (loads : List Load) →
    TellsCharges (image_setup (compiled_at set places).image) (wcet_at set.plant (placed_by set places)) (stretch_at set.plant (placed_by set places)) loads →
    MeetsDeadlines (rule_of set.plant.policy) (image_setup (compiled_at set places).image) (compiled_at set places).image.content loads
    × (KeepsIntervals (rule_of set.plant.policy) (image_setup (compiled_at set places).image) (compiled_at set places).image.content loads
    × KeepsCosts (rule_of set.plant.policy) (image_setup (compiled_at set places).image) (compiled_at set places).image.content loads)
