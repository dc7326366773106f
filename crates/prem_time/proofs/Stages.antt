-- The stages joined.
use Rattle.std.proofs.Common.{◌≡◌, ℕ, List, Option, None, Some, Result, Ok, Err, refl, ap, ◌∙◌, sym, subst}
use Rattle.prem_plant.specs.declared.plant.Device.{Device}
use Rattle.prem_tasks.specs.Lawful.{AreDevices}
use Rattle.prem_io.specs.Files.{Files}
use Rattle.prem_layout.specs.Rules.{Refusal}
use Rattle.prem_tasks.specs.Told.{Told}
use Rattle.prem_tasks.specs.Broken.{TaskSet, broken}
use Rattle.prem_wcet.specs.TimedOf.{IsTimed}
use Rattle.prem_wcet.specs.declared.timed.Timed.{Timed}
use Rattle.prem_answer.specs.Stages.{Reply, Reads, IsFine, IsGiven}
use Rattle.prem_answer.specs.Tool.{IsSettled}
use Rattle.prem_answer.proofs.Reading.{gives_at_once}
use Rattle.prem_exec.specs.Sources.Sources.{Passes, reading_set}
use Rattle.prem_exec.proofs.SourcesLemmas.Fine.{set_fine}
use Rattle.prem_time.specs.declared.devices.Bus.{Bus}
use Rattle.prem_time.specs.Words.{AreDistances, Asked, Distance}
use Rattle.prem_time.specs.Devices.{unknown_in}
use Rattle.prem_time.specs.Stages.{found_reply, judged_reply, set_text, time_reply, time_stages}
use Rattle.prem_time.specs.Told.{HasDevices, HasLoads, IsBus, text_by, tops_of}
use Rattle.prem_time.proofs.Headline.{behind_set}
use Rattle.prem_time.proofs.DevicesAre.{are_named}
use Rattle.prem_time.proofs.LoadsAre.{has_devices, has_loads, text_is}

-- one that breaks no rule
pub told_is : (set : TaskSet) (ds : List Distance) (b : Bus) (t : Timed) (reply : Reply) → IsBus ds set.devices b → IsTimed set (tops_of b.askings.items b.named.items) t →
    reply ≡ found_reply (unknown_in ds set.devices) (text_by set.devices b t) → reply ≡ time_reply ds set
told_is set ds b t reply bus is told = told ∙ ap (found_reply (unknown_in ds set.devices)) (text_is set ds b t bus is) ∙ ap (judged_reply ds set) (sym is.compiled.lawful)

-- so it is with its devices as they are lent, and what they ask
module _ (set : TaskSet) (ds : List Distance) (devices : List Device) (b : Bus) (tops : List ℕ) (t : Timed) (lent : devices ≡ set.devices)
    (bus : IsBus ds devices b) (are : tops ≡ tops_of b.askings.items b.named.items) (is : IsTimed set tops t) where
  own_bus : IsBus ds set.devices b
  own_bus = subst (λ (xs : List Device). IsBus ds xs b) lent bus

  own_times : IsTimed set (tops_of b.askings.items b.named.items) t
  own_times = subst (λ (xs : List ℕ). IsTimed set xs t) are is

  pub told_loads : HasLoads t
  told_loads = has_loads set ds b t own_bus own_times

  pub told_devices : AreDistances ds → AreDevices devices → HasDevices devices b t
  told_devices some lawful = subst (λ (xs : List Device). HasDevices xs b t) (sym lent) (has_devices set ds b t own_bus own_times (are_named ds devices b some lawful bus))

  pub told_reply : (reply : Reply) → reply ≡ found_reply (unknown_in ds devices) (text_by devices b t) → reply ≡ time_reply ds set
  told_reply reply told = told_is set ds b t reply own_bus own_times (told ∙ ap (λ (xs : List Device). found_reply (unknown_in ds xs) (text_by xs b t)) lent)

pub set_told : (told : Option Files) (asked : Asked) (set : TaskSet) (given : Result Reply Reply) → Passes told (reading_set asked.set) (Ok set) →
    given ≡ Ok (time_reply asked.distances set) → IsGiven told (time_stages asked) given
set_told told asked set given passes is = passes (behind_set asked.distances) given (let (reads, (are, same)) = gives_at_once told given in (reads, (are, is)))

pub no_set : (told : Option Files) (asked : Asked) (reply : Reply) → Passes told (reading_set asked.set) (Err reply) → IsGiven told (time_stages asked) (Err reply)
no_set told asked reply passes = passes (behind_set asked.distances) (Err reply) refl

-- ---- every answer may be given

found_fine : (unknown : Option (List ℕ)) (text : List ℕ) → IsSettled (found_reply unknown text)
found_fine None text = refl
found_fine (Some name) text = refl

judged_fine : (ds : List Distance) (set : TaskSet) (first : Option (Refusal Told)) → IsSettled (judged_reply ds set first)
judged_fine ds set None = found_fine (unknown_in ds set.devices) (set_text ds set)
judged_fine ds set (Some refusal) = refl

pub time_is_fine : (asked : Asked) (reads : Reads) → IsFine IsSettled (time_stages asked reads)
time_is_fine asked reads = set_fine IsSettled asked.set (behind_set asked.distances) (λ set more. judged_fine asked.distances set (broken set)) reads
