-- The laws.
use Rattle.std.proofs.Common.{◌≡◌, refl, ap, sym, subst, arith, List, [], ◌∷◌, map}
use Rattle.prem_sets_sound.proofs.Prelude.{parts_may_be_placed, stub_passes, sized_of, placed_from, areas_apart, AreDistinct, Between, HasTextValues, HasCodedValues, LawfulSetsHaveValues}
use Rattle.prem_sets_sound.proofs.Prelude.{LaidOutImagesJoin, AcceptedSetsAreLaidOut, DefaultPlacesAreLawful, AcceptedSetsJoin, AcceptedSetsAreSound, TaskText, coded_in, parts_in, places_in}
use Rattle.prem_sets_sound.proofs.Prelude.{task_of, length-map, All-from_recursion, recursion_from_All, AllByRecursion}
use Rattle.prem_list.specs.Sequence.{items_of}
use Rattle.prem_sets_sound.proofs.ImagePremisesLemmas.Follow.{follow_long, follow_named, follow_values, keeps}
use Rattle.prem_sets_sound.proofs.ImagePremisesLemmas.Records.{are_laid, records_lawful}
use Rattle.prem_sets_sound.proofs.ImagePremisesLemmas.Sums.{outputs_fit, intervals_fit, ends_by}
use Rattle.prem_sets_sound.proofs.StubLawsLemmas.InitialLemmas.Values.{devices_hold_zero}
use Rattle.prem_sets_sound.proofs.StubLawsLemmas.InitialLemmas.Whole.{content_fits}
use Rattle.prem_sets_sound.proofs.StubLawsLemmas.JoinedRunsLemmas.Joined.{joined_images_are_sound}
use Rattle.prem_sets_sound.proofs.StubLawsLemmas.OwnLemmas.Owned.{own_bytes_are_apart, own_bytes_are_free}
use Rattle.prem_tasks.specs.Lawful.{IsTaskText, task_names}
use Rattle.prem_tasks.specs.declared.set.TaskText.{TaskText as TaskTree}

-- ---- at any lawful places

pub laid_out_images_join : LaidOutImagesJoin
laid_out_images_join passes p devices tasks places promises h each =
    let laid = are_laid p devices tasks places h in
    let low = h.plant_is.line.0 in
    record {
      image = records_lawful p devices tasks places h;
      bytes = (content_fits p devices tasks places laid).1;
      zero = devices_hold_zero p devices tasks places laid (omega (arith, low));
      apart = λ j k a lj lk x y. own_bytes_are_apart p devices tasks places h.lawful j k a x y;
      free = λ k a lk x. own_bytes_are_free p devices tasks places (omega (arith, low)) laid.coded h.lawful k a x;
      each = each;
      outputs = outputs_fit p places tasks h.logs;
      intervals = intervals_fit p places tasks h.logs;
      limits = ends_by p (placed_from p places tasks);
    }

-- ---- of a set that breaks no rule

pub accepted_sets_are_laid_out : AcceptedSetsAreLaidOut
accepted_sets_are_laid_out set places values kept lawful =
    let k = keeps set kept in
    let cs = coded_in set in
    record {
      plant_is = values.plant_is;
      devices_are = values.devices_are;
      count = subst (Between 1 16) (sym (follow_long set.tasks cs k.follow)) values.count;
      each = All-from_recursion HasCodedValues cs (follow_values set.tasks cs k.follow (recursion_from_All HasTextValues set.tasks values.each));
      names = subst AreDistinct (sym (follow_named set.tasks cs k.follow)) values.names;
      lawful = lawful;
      logs = k.logs;
    }

pub default_places_are_lawful : DefaultPlacesAreLawful
default_places_are_lawful set values kept =
    let k = keeps set kept in
    let low = values.plant_is.line.0 in
    let may = parts_may_be_placed (stub_passes set.plant) set.plant.line (map sized_of (coded_in set)) set.devices (omega (arith, low)) in
    areas_apart set.plant.line set.plant.memory (parts_in set) (omega (arith, low)) may.0 k.fits may.1

pub accepted_sets_join : AcceptedSetsJoin
accepted_sets_join passes set promises values kept each =
    laid_out_images_join passes set.plant set.devices (coded_in set) (places_in set) promises
    (accepted_sets_are_laid_out set (places_in set) values kept (default_places_are_lawful set values kept)) each

pub accepted_sets_are_sound : AcceptedSetsAreSound
accepted_sets_are_sound rule order passes set promises policy values kept each =
    joined_images_are_sound rule order passes _ _ _ _ promises _ policy (accepted_sets_join passes set promises values kept each)

-- ---- sets in memory

values_in : (ts : List TaskTree) → AllByRecursion IsTaskText ts → AllByRecursion HasTextValues (map task_of ts)
values_in [] h = tt
values_in (t ∷ ts) h = (record { name = h.0.name; period = h.0.period; jobs = h.0.jobs }, values_in ts h.1)

names_in : (ts : List TaskTree) → map (λ (t : TaskText). t.name) (map task_of ts) ≡ task_names ts
names_in [] = refl
names_in (t ∷ ts) = ap (λ l. t.name ∷ l) (names_in ts)

pub lawful_sets_have_values : LawfulSetsHaveValues
lawful_sets_have_values s h =
    let ts = items_of s.tasks in
    record {
      plant_is = h.plant_is;
      devices_are = h.devices_are;
      count = subst (Between 1 16) (sym (length-map ts task_of)) h.tasks_are.count;
      each = All-from_recursion HasTextValues (map task_of ts) (values_in ts (recursion_from_All IsTaskText ts h.tasks_are.each));
      names = subst AreDistinct (sym (names_in ts)) h.tasks_are.names;
    }
