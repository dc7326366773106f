-- The line of each task of a set whose busy periods are all within the periods.
use Rattle.std.specs.List.{AllByRecursion}
use Rattle.std.proofs.Common.{◌≡◌, ◌<◌, ◌≤◌, ℕ, zero, suc, true, List, [], ◌∷◌, length, map, drop, get_or, slice_get, None, Some, refl, arith}
use Rattle.std.proofs.lemmas.List.Elements.{recursion_from_All}
use Rattle.prem_plant.specs.declared.plant.Plant.{Plant}
use Rattle.prem_plant.specs.Label.{IsName}
use Rattle.prem_plant.specs.Places.{Extent}
use Rattle.prem_image.specs.declared.image.TaskRecord.{TaskRecord}
use Rattle.prem_cycle.specs.State.{record_of}
use Rattle.prem_layout.specs.Image.{task_record}
use Rattle.prem_layout.specs.Parts.{part_count}
use Rattle.prem_layout.specs.Placed.{Coded, placed_from}
use Rattle.prem_tasks.specs.Broken.{TaskSet, broken}
use Rattle.prem_tasks.specs.Compiled.{coded_in, compiled, places_in}
use Rattle.prem_sets_sound.specs.ImagePremises.Accepted.{HasCodedValues, HasValues, setup_in}
use Rattle.prem_sets_sound.proofs.ImagePremisesLemmas.Whole.{accepted_sets_are_laid_out, default_places_are_lawful}
use Rattle.prem_resp.specs.declared.busy.length.Busy.TheVariants.{Within}
use Rattle.prem_resp.specs.Busy.Busy.{load_at}
use Rattle.prem_resp.specs.Timely.Timely.{loads_of}
use Rattle.prem_resp.specs.Lines.{all_within, TellsLength}
use Rattle.prem_resp.specs.Fits.{found_in, loads_in}
use Rattle.prem_resp.specs.Told.{names_of}
use Rattle.prem_resp.specs.Stages.{set_text}
use Rattle.prem_resp.proofs.LengthLines.{line_tells}

are_named : (p : Plant) (places : List Extent) (cs : List Coded) → AllByRecursion HasCodedValues cs → AllByRecursion IsName (names_of (map task_record (placed_from p places cs)))
are_named p places [] h = tt
are_named p places (c ∷ cs) h = (h.0.name, are_named p (drop (part_count c.program) places) cs h.1)

periods_small : (p : Plant) (places : List Extent) (cs : List Coded) → AllByRecursion HasCodedValues cs → (j : ℕ) → (load_at (loads_of p (placed_from p places cs)) j).period ≤ 4294967295
periods_small p places [] h j = omega arith
periods_small p places (c ∷ cs) h zero = h.0.period.1
periods_small p places (c ∷ cs) h (suc j) = periods_small p (drop (part_count c.program) places) cs h.1 j

name_there : (tasks : List TaskRecord) (i : ℕ) (d : TaskRecord) → i < length tasks → slice_get (names_of tasks) i ≡ Some (get_or tasks i d).name
name_there [] i d lt = absurd (omega (arith, lt))
name_there (t ∷ ts) zero d lt = refl
name_there (t ∷ ts) (suc i) d lt = name_there ts i d (omega (arith, lt))

pub task_line_tells : (set : TaskSet) → HasValues set → broken set ≡ None → all_within (found_in (loads_in set)) ≡ true → (i n : ℕ) →
    i < length (setup_in set).tasks → slice_get (found_in (loads_in set)) i ≡ Some (Within n) →
    TellsLength (set_text set) (loads_in set) i (record_of (setup_in set) i).name n
task_line_tells set values none all i n lt found =
    let laid = accepted_sets_are_laid_out set (places_in set) values none (default_places_are_lawful set values none) in
    let each = recursion_from_All HasCodedValues (coded_in set) laid.each in
    line_tells (loads_in set) (names_of (compiled set).image.tasks) (length (loads_in set)) (are_named set.plant (places_in set) (coded_in set) each)
    (periods_small set.plant (places_in set) (coded_in set) each) all
    i (record_of (setup_in set) i).name n (name_there (setup_in set).tasks i _ lt) found
