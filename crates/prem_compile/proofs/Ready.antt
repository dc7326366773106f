-- What an image asks of placed tasks holds of the tasks of a set.
use Rattle.std.specs.List.{AllByRecursion}
use Rattle.std.proofs.Common.{◌≡◌, ℕ, List, [], ◌∷◌, length, map, refl, ap, sym, ◌∙◌, subst, arith, Vec, Global}
use Rattle.std.proofs.lemmas.List.Elements.{recursion_from_All}
use Rattle.std.proofs.lemmas.List.{length-map}
use Rattle.prem_plant.specs.declared.plant.Plant.{Plant}
use Rattle.prem_plant.specs.declared.plant.Target.{Target}
use Rattle.prem_plant.specs.declared.plant.Device.{Device}
use Rattle.prem_plant.specs.declared.layout.PartSize.{PartSize}
use Rattle.prem_plant.specs.Label.{IsName, AreDistinct}
use Rattle.prem_plant.specs.Places.{Extent, ArePlaces}
use Rattle.prem_plant.specs.Ranges.{Between, IsPlant}
use Rattle.prem_syntax.specs.Syntax.{ProgramText}
use Rattle.prem_ranges.specs.RangesKept.{bounded}
use Rattle.prem_layout.specs.Placed.{Coded, parts_of, placed_from}
use Rattle.prem_place.specs.Content.Blocks.{Words, block_of}
use Rattle.prem_place.specs.declared.content.content.Block.{Block}
use Rattle.prem_place.specs.Placed.PlacedOf.{coded_of}
use Rattle.prem_place.specs.declared.placed.PlacedTask.{PlacedTask}
use Rattle.prem_place.specs.Placing.Standing.{stands_in}
use Rattle.prem_place.specs.Words.Far.{words_in}
use Rattle.prem_place.specs.BuildImage.Built as built
use Rattle.prem_place.specs.BuildImage.Built.{HasRanges, HaveBlocks, IsBuilt}
use Rattle.prem_place.specs.Totals.Limits.{HasJobs}
use Rattle.prem_tasks.specs.Broken.{TaskText, TaskSet, coded_one, programs_of}
use Rattle.prem_tasks.specs.Broken as tasks
use Rattle.prem_tasks.specs.Lawful as lawful
use Rattle.prem_tasks.specs.Lawful.{IsTaskText, AreDevices, AreTasks}
use Rattle.prem_tasks.specs.SetOf.{task_of}
use Rattle.prem_tasks.specs.declared.set.TaskText.{TaskText as TaskTree}
use Rattle.prem_compile.specs.Joined.{HasPlaces}

first_is : {A : Type 0} (x y : A) (xs ys : List A) → x ∷ xs ≡ y ∷ ys → x ≡ y
first_is x y xs ys e = cc

rest_is : {A : Type 0} (x y : A) (xs ys : List A) → x ∷ xs ≡ y ∷ ys → xs ≡ ys
rest_is x y xs ys e = cc

-- ---- tasks in memory stand for stated tasks in their order

abbrev head_of : Target → TaskTree → ProgramText → Coded
head_of target t p = coded_one target (task_of t) (bounded p)

abbrev coded_all : Target → List TaskTree → List ProgramText → List Coded
coded_all target ts ps = tasks.coded_of target (map task_of ts) ps

names_same : (target : Target) (xs : List PlacedTask) (ts : List TaskTree) (ps : List ProgramText) → map coded_of xs ≡ coded_all target ts ps →
    length ps ≡ length ts → built.task_names xs ≡ lawful.task_names ts
names_same target [] [] ps e l = refl
names_same target [] (t ∷ ts) [] e l = absurd (omega (arith, l))
names_same target [] (t ∷ ts) (p ∷ ps) e l = absurd cc
names_same target (x ∷ xs) [] ps e l = absurd cc
names_same target (x ∷ xs) (t ∷ ts) [] e l = absurd (omega (arith, l))
names_same target (x ∷ xs) (t ∷ ts) (p ∷ ps) e l =
    let here : coded_of x ≡ head_of target t p = first_is (coded_of x) (head_of target t p) (map coded_of xs) (coded_all target ts ps) e in
    let more : built.task_names xs ≡ lawful.task_names ts = names_same target xs ts ps (rest_is (coded_of x) (head_of target t p) (map coded_of xs) (coded_all target ts ps) e) (omega (arith, l)) in
    ap (λ (n : List ℕ). n ∷ built.task_names xs) (ap (λ (c : Coded). c.name) here) ∙ ap (λ (ns : List (List ℕ)). t.name ∷ ns) more

as_many : (target : Target) (xs : List PlacedTask) (ts : List TaskTree) (ps : List ProgramText) → map coded_of xs ≡ coded_all target ts ps → length ps ≡ length ts → length xs ≡ length ts
as_many target xs ts ps e l =
    sym (length-map xs (λ (x : PlacedTask). x.name.now)) ∙ ap (λ (ns : List (List ℕ)). length ns) (names_same target xs ts ps e l) ∙ length-map ts (λ (t : TaskTree). t.name)

ranges_of : (target : Target) (x : PlacedTask) (t : TaskTree) (p : ProgramText) → coded_of x ≡ head_of target t p → stands_in x → IsTaskText t → HasRanges x
ranges_of target x t p here s is =
    let name : x.name.now ≡ t.name = ap (λ (c : Coded). c.name) here in
    let period : x.period ≡ t.period = ap (λ (c : Coded). c.period) here in
    let jobs : x.jobs ≡ t.jobs = ap (λ (c : Coded). c.jobs) here in
    let globals : length (coded_of x).program.globals ≡ length x.program.globals.items = length-map x.program.globals.items _ in
    let few = s.few in
    record {
      name = subst IsName (sym name) is.name;
      period = subst (λ n. Between 1 4294967295 n) (sym period) is.period;
      jobs = subst (λ n. Between 1 65535 n) (sym jobs) is.jobs;
      globals = omega (arith, globals, few);
      code = s.parts.code;
    }

each_in_range : (target : Target) (xs : List PlacedTask) (ts : List TaskTree) (ps : List ProgramText) → map coded_of xs ≡ coded_all target ts ps →
    length ps ≡ length ts → AllByRecursion stands_in xs → AllByRecursion IsTaskText ts →
    AllByRecursion HasRanges xs
each_in_range target [] ts ps e l s is = tt
each_in_range target (x ∷ xs) [] ps e l s is = absurd cc
each_in_range target (x ∷ xs) (t ∷ ts) [] e l s is = absurd (omega (arith, l))
each_in_range target (x ∷ xs) (t ∷ ts) (p ∷ ps) e l s is = (
  ranges_of target x t p (first_is (coded_of x) (head_of target t p) (map coded_of xs) (coded_all target ts ps) e) s.0 is.0,
  each_in_range target xs ts ps (rest_is (coded_of x) (head_of target t p) (map coded_of xs) (coded_all target ts ps) e) (omega (arith, l)) s.1 is.1,
)

-- ---- blocks

abbrev views_of : List (List Block) → List (List Words)
views_of bss = map (λ (bs : List Block). map block_of bs) bss

views_lent : (all : List (Vec Block Global)) → views_of (map (λ (bs : Vec Block Global). bs.items) all) ≡ map (λ (bs : Vec Block Global). map block_of bs.items) all
views_lent [] = refl
views_lent (bs ∷ all) = ap (λ (views : List (List Words)). map block_of bs.items ∷ views) (views_lent all)

blocks_are : (xs : List PlacedTask) (bss : List (List Block)) → views_of bss ≡ map words_in xs → HaveBlocks xs bss
blocks_are [] bss e = tt
blocks_are (x ∷ xs) [] e = absurd cc
blocks_are (x ∷ xs) (bs ∷ bss) e =
    (first_is (map block_of bs) (words_in x) (views_of bss) (map words_in xs) e, blocks_are xs bss (rest_is (map block_of bs) (words_in x) (views_of bss) (map words_in xs) e))

-- ---- the whole

set_is_built : (set : TaskSet) (ts : List TaskTree) (parts : List PartSize) (layout : List Extent) (xs : List PlacedTask) (bss : List (List Block)) →
    IsPlant set.plant → AreDevices set.devices → AreTasks ts → map task_of ts ≡ set.tasks → HasPlaces set parts layout xs → views_of bss ≡ map words_in xs → IsBuilt set.plant xs bss set.devices layout
set_is_built set ts parts layout xs bss plant devices stated same h blocks =
    let coded : map coded_of xs ≡ coded_all set.plant.target ts (programs_of set.tasks) = h.coded
    ∙ ap (λ (texts : List TaskText). tasks.coded_of set.plant.target texts (programs_of set.tasks)) (sym same) in
    let long : length (programs_of set.tasks) ≡ length ts = h.as_many ∙ ap (λ (texts : List TaskText). length texts) (sym same) ∙ length-map ts task_of in
    let count : length xs ≡ length ts = as_many set.plant.target xs ts (programs_of set.tasks) coded long in
    record {
      plant = plant;
      task_count = subst (λ n. Between 1 16 n) (sym count) stated.count;
      each_task = each_in_range set.plant.target xs ts (programs_of set.tasks) coded long h.standing (recursion_from_All IsTaskText ts stated.each);
      named = subst (λ (ns : List (List ℕ)). AreDistinct ns) (sym (names_same set.plant.target xs ts (programs_of set.tasks) coded long)) stated.names;
      device_count = devices.count;
      each_device = devices.each;
      devices_named = devices.names;
      same = h.placed ∙ ap (λ (cs : List Coded). placed_from set.plant layout cs) (sym h.coded);
      coded = blocks_are xs bss blocks;
      few = h.few;
      placed = subst (λ (ps : List PartSize). ArePlaces set.plant.memory ps layout) (h.parts_are ∙ ap (λ (cs : List Coded). parts_of set.plant set.devices cs) (sym h.coded)) h.apart;
    }

-- as plant and devices are lent
pub lent_is_built : (set : TaskSet) (p : Plant) (ds : List Device) (ts : List TaskTree) (parts : List PartSize) (layout : List Extent)
    (xs : List PlacedTask) (all : List (Vec Block Global)) → p ≡ set.plant → ds ≡ set.devices →
    IsPlant p → AreDevices ds → AreTasks ts → map task_of ts ≡ set.tasks → HasPlaces set parts layout xs → map (λ (bs : Vec Block Global). map block_of bs.items) all ≡ map words_in xs →
    IsBuilt p xs (map (λ (bs : Vec Block Global). bs.items) all) ds layout
lent_is_built set p ds ts parts layout xs all ep ed plant devices stated same h blocks =
    let bss : List (List Block) = map (λ (bs : Vec Block Global). bs.items) all in
    let base : IsBuilt set.plant xs bss set.devices layout =
    set_is_built set ts parts layout xs bss (subst IsPlant ep plant) (subst AreDevices ed devices) stated same h (views_lent all ∙ blocks) in
    let here : IsBuilt p xs bss set.devices layout = subst (λ (q : Plant). IsBuilt q xs bss set.devices layout) (sym ep) base in
    subst (λ (es : List Device). IsBuilt p xs bss es layout) (sym ed) here

-- ---- what the limit asks for

have_jobs : (xs : List PlacedTask) → AllByRecursion HasRanges xs → AllByRecursion HasJobs xs
have_jobs [] h = tt
have_jobs (x ∷ xs) h = (h.0.jobs.1, have_jobs xs h.1)

pub tasks_have_jobs : (set : TaskSet) (ts : List TaskTree) (parts : List PartSize) (layout : List Extent) (xs : List PlacedTask) →
    AreTasks ts → map task_of ts ≡ set.tasks → HasPlaces set parts layout xs → AllByRecursion HasJobs xs
tasks_have_jobs set ts parts layout xs stated same h =
    let coded : map coded_of xs ≡ coded_all set.plant.target ts (programs_of set.tasks) = h.coded
    ∙ ap (λ (texts : List TaskText). tasks.coded_of set.plant.target texts (programs_of set.tasks)) (sym same) in
    let long : length (programs_of set.tasks) ≡ length ts = h.as_many ∙ ap (λ (texts : List TaskText). length texts) (sym same) ∙ length-map ts task_of in
    have_jobs xs (each_in_range set.plant.target xs ts (programs_of set.tasks) coded long h.standing (recursion_from_All IsTaskText ts stated.each))
