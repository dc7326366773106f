-- The image of a set.
use Rattle.std.specs.List.{AllByRecursion}
use Rattle.std.proofs.Common.{◌≡◌, ℕ, suc, ◌+◌, ◌≤◌, refl, ap, sym, ◌∙◌, subst, arith, List, [], ◌∷◌, ◌++◌, length, map, take, drop, replicate, slice_index}
use Rattle.std.proofs.lemmas.List.{length-map}
use Rattle.std.proofs.lemmas.List.Elements.{All-from_recursion, recursion_from_All}
use Rattle.prem_list.specs.Sequence.{items_of}
use Rattle.prem_plant.specs.declared.plant.Plant.{Plant}
use Rattle.prem_plant.specs.declared.plant.Device.{Device}
use Rattle.prem_plant.specs.Label.{AreDistinct}
use Rattle.prem_plant.specs.Places.{Extent, AreApart}
use Rattle.prem_plant.specs.Ranges.{Between, IsDevice}
use Rattle.prem_isa.specs.Decode.{word_of}
use Rattle.prem_image.specs.declared.image.TaskRecord.{TaskRecord}
use Rattle.prem_image.specs.declared.image.DeviceRecord.{DeviceRecord}
use Rattle.prem_image.specs.Records.{IsTask, IsImage, IsPlaced, task_names as record_names}
use Rattle.prem_image.specs.Text.{ImageText}
use Rattle.prem_tree.specs.declared.resolve.resolved.Routine.{Routine}
use Rattle.prem_tree.specs.Resolve.ResolvedOf.{loops_of, routines_of as plain_routines}
use Rattle.prem_layout.specs.Plans as plans
use Rattle.prem_layout.specs.Parts.{stub_passes, part_count, parts_from, area_parts}
use Rattle.prem_layout.specs.Image.{greatest_end, task_record, device_records, with_tasks, image_of}
use Rattle.prem_layout.specs.Placed.{sized_of, Placed, Block, task_places, placed_at, placed_from, part_total, blocks_of}
use Rattle.prem_layout.proofs.TaskParts.{place_in, below_greatest}
use Rattle.prem_layout.proofs.Areas.{areas_stand, each_placed, areas_same, areas_named, records_long, rest_apart}
use Rattle.prem_place.specs.declared.content.content.Block.{Block as BlockFound}
use Rattle.prem_place.specs.Content.Blocks.{Words, block_of, EndsBy}
use Rattle.prem_place.specs.Placed.PlacedOf.{coded_of, placed_of, routines_of}
use Rattle.prem_place.specs.declared.placed.PlacedTask.{PlacedTask}
use Rattle.prem_place.specs.Imaging.Standing.{AllFit}
use Rattle.prem_place.specs.BuildImage.Laid.{Ends, IsLaid}
use Rattle.prem_place.specs.BuildImage.Built.{count_of, total_of, HasRanges, HaveBlocks, IsBuilt, task_names}
use Rattle.prem_place.proofs.BuildImageLemmas.Ground.{Stand, all_stand, stand_left, stand_within, greatest_within}
use Rattle.prem_place.proofs.BuildImageLemmas.Tasks.{HasCode, tasks_counted, all_laid}
use Rattle.prem_place.proofs.BuildImageLemmas.Areas.{whole_long}
use Rattle.prem_place.specs.Flat.Blocks.{words_of}

-- ---- how many parts there are

pub routines_long : (turns : ℕ → ℕ) (m : ℕ) (rs : List Routine) → length (plain_routines turns m rs) ≡ length rs
routines_long turns m [] = refl
routines_long turns m (r ∷ rs) = ap suc (routines_long turns (m + loops_of r.body) rs)

count_is : (p : Plant) (whole : List Extent) (t : PlacedTask) → placed_of t ≡ placed_at p (coded_of t) (task_places (coded_of t).program whole) → count_of t ≡ part_count (coded_of t).program
count_is p whole t e =
    let a : length (coded_of t).program.routines ≡ length (routines_of t) = routines_long (slice_index t.turns.items) 0 (routines_of t) in
    let b : length (placed_of t).plans ≡ length (plans.plans_of (coded_of t).program) = ap (λ (q : Placed). length q.plans) e in
    let c : length (placed_of t).plans ≡ length (items_of t.plans) = length-map (items_of t.plans) _ in
    let d : length (coded_of t).program.globals ≡ length t.program.globals.items = length-map t.program.globals.items _ in
    omega (arith, a, b, c, d)

total_is : (p : Plant) (whole : List Extent) (tasks : List PlacedTask) → map placed_of tasks ≡ placed_from p whole (map coded_of tasks) → total_of tasks ≡ part_total (map coded_of tasks)
total_is p whole [] e = refl
total_is p whole (t ∷ ts) e =
    let head : placed_of t ≡ placed_at p (coded_of t) (task_places (coded_of t).program whole) = cc in
    let tail : map placed_of ts ≡ placed_from p (drop (part_count (coded_of t).program) whole) (map coded_of ts) = cc in
    let a = count_is p whole t head in
    let b = total_is p (drop (part_count (coded_of t).program) whole) ts tail in
    omega (arith, a, b)

coded_all : (tasks : List PlacedTask) → AllByRecursion HasRanges tasks → AllByRecursion HasCode (map coded_of tasks)
coded_all [] h = tt
coded_all (t ∷ ts) h = (h.0.code, coded_all ts h.1)

-- ---- blocks

blocks_by : (end : ℕ) (bs : List BlockFound) (gs : List Block) → map block_of bs ≡ map words_of gs → AllByRecursion (Ends end) gs → AllByRecursion (EndsBy end) bs
blocks_by end [] gs e h = tt
blocks_by end (b ∷ bs) [] e h = absurd cc
blocks_by end (b ∷ bs) (g ∷ gs) e h =
    let head : block_of b ≡ words_of g = cc in
    let tail : map block_of bs ≡ map words_of gs = cc in
    let at : b.at ≡ g.at = ap (λ (w : Words). w.at) head in
    let long : length b.words.items ≡ length (map word_of g.code) = ap (λ (w : Words). length w.words) head in
    let same : length (map word_of g.code) ≡ length g.code = length-map g.code word_of in
    let ends = h.0 in
    (omega (arith, at, long, same, ends), blocks_by end bs gs tail h.1)

pub all_fit : (end : ℕ) (tasks : List PlacedTask) (bss : List (List BlockFound)) → AllByRecursion HasRanges tasks → HaveBlocks tasks bss →
    AllByRecursion (IsLaid end) (map placed_of tasks) → AllFit end tasks bss
all_fit end [] bss r b h = tt
all_fit end (t ∷ ts) [] r b h = b
all_fit end (t ∷ ts) (bs ∷ bss) r b h =
    (record { code = b.0; ends = blocks_by end bs (blocks_of (placed_of t)) b.0 h.0.code; count = r.0.globals; globals = h.0.globals }, all_fit end ts bss r.1 b.1 h.1)

-- ---- records of tasks

each_task : (end memory : ℕ) (tasks : List PlacedTask) → end ≤ memory → AllByRecursion HasRanges tasks →
    AllByRecursion (IsLaid end) (map placed_of tasks) → AllByRecursion (IsTask memory) (map task_record (map placed_of tasks))
each_task end memory [] le r h = tt
each_task end memory (t ∷ ts) le r h =
    let entry = h.0.entry_within in
    let top = h.0.stack_within in (
      record {
        name = r.0.name;
        period = r.0.period;
        jobs = r.0.jobs;
        entry_aligned = h.0.entry_aligned;
        entry_within = omega (arith, entry, le);
        stack_aligned = h.0.stack_aligned;
        stack_within = omega (arith, top, le);
      },
      each_task end memory ts le r.1 h.1,
    )

names_same : (tasks : List PlacedTask) → record_names (map task_record (map placed_of tasks)) ≡ task_names tasks
names_same [] = refl
names_same (t ∷ ts) = ap (λ l. t.name.now ∷ l) (names_same ts)

tasks_long : (tasks : List PlacedTask) → length (map task_record (map placed_of tasks)) ≡ length tasks
tasks_long [] = refl
tasks_long (t ∷ ts) = ap suc (tasks_long ts)

-- ---- the set

-- where the last part of a task ends
pub record EndsAt (p : Plant) (tasks : List PlacedTask) (end : ℕ) : Type 0 where
  pub laid : AllByRecursion (IsLaid end) (map placed_of tasks)
  pub within : end ≤ p.memory

counted : (p : Plant) (tasks : List PlacedTask) (bss : List (List BlockFound)) (devices : List Device) (whole : List Extent) → IsBuilt p tasks bss devices whole →
    length (parts_from (stub_passes p) 0 (map sized_of (map coded_of tasks))) ≡ part_total (map coded_of tasks)
counted p tasks bss devices whole b = tasks_counted (stub_passes p) 0 (map coded_of tasks) (coded_all tasks b.each_task)

pub ends_at : (p : Plant) (tasks : List PlacedTask) (bss : List (List BlockFound)) (devices : List Device) (whole : List Extent) →
    IsBuilt p tasks bss devices whole → EndsAt p tasks (greatest_end (take (part_total (map coded_of tasks)) whole))
ends_at p tasks bss devices whole b =
    let cs = map coded_of tasks in
    let total = part_total cs in
    let end = greatest_end (take total whole) in
    let parts = parts_from (stub_passes p) 0 (map sized_of cs) in
    let long : length parts ≡ total = counted p tasks bss devices whole b in
    let here : Stand p.memory (place_in whole) 0 parts =
    stand_left p.memory (place_in whole) 0 parts (area_parts p.line 0 devices) (all_stand p.memory (parts ++ area_parts p.line 0 devices) whole b.placed) in
    record {
      laid = subst (AllByRecursion (IsLaid end)) (sym b.same) (all_laid p p.memory end 0 0 whole cs (coded_all tasks b.each_task) here (λ i lt. below_greatest total i whole (omega (arith, lt))));
      within = greatest_within p.memory total whole
          (λ i lt. let z : 0 + i ≡ i = omega arith in
          subst (λ k. (place_in whole k).1 ≤ p.memory) z (stand_within p.memory (place_in whole) 0 parts here i (omega (arith, lt, long))));
    }

pub first_is : (p : Plant) (tasks : List PlacedTask) (bss : List (List BlockFound)) (devices : List Device) (whole : List Extent) →
    IsBuilt p tasks bss devices whole → total_of tasks ≡ part_total (map coded_of tasks)
first_is p tasks bss devices whole b = total_is p whole tasks b.same

pub places_long : (p : Plant) (tasks : List PlacedTask) (bss : List (List BlockFound)) (devices : List Device) (whole : List Extent) →
    IsBuilt p tasks bss devices whole → length whole ≡ total_of tasks + length devices
places_long p tasks bss devices whole b =
    let parts = parts_from (stub_passes p) 0 (map sized_of (map coded_of tasks)) in
    let a = first_is p tasks bss devices whole b in
    let long = counted p tasks bss devices whole b in
    whole_long p.memory p.line (total_of tasks) parts devices whole (long ∙ sym a) b.placed

pub total_few : (p : Plant) (tasks : List PlacedTask) (bss : List (List BlockFound)) (devices : List Device) (whole : List Extent) → IsBuilt p tasks bss devices whole → total_of tasks ≤ 100000
total_few p tasks bss devices whole b =
    let long = places_long p tasks bss devices whole b in
    let few = b.few in
    omega (arith, long, few)

end_is : (whole : List Extent) (tasks : List PlacedTask) (first end : ℕ) → total_of tasks ≡ part_total (map coded_of tasks) → first ≡ total_of tasks →
    end ≡ greatest_end (take first whole) → end ≡ greatest_end (take (part_total (map coded_of tasks)) whole)
end_is whole tasks first end t ef ee = ee ∙ ap (λ n. greatest_end (take n whole)) (ef ∙ t)

pub set_fits : (p : Plant) (tasks : List PlacedTask) (bss : List (List BlockFound)) (devices : List Device) (whole : List Extent) (first end : ℕ) →
    IsBuilt p tasks bss devices whole → first ≡ total_of tasks → end ≡ greatest_end (take first whole) →
    AllFit end tasks bss
set_fits p tasks bss devices whole first end b ef ee =
    subst (λ e. AllFit e tasks bss) (sym (end_is whole tasks first end (first_is p tasks bss devices whole b) ef ee))
    (all_fit _ tasks bss b.each_task b.coded (ends_at p tasks bss devices whole b).laid)

records_lawful : (p : Plant) (tasks : List PlacedTask) (bss : List (List BlockFound)) (devices : List Device) (whole : List Extent) (content : List ℕ) → IsBuilt p tasks bss devices whole →
    length content ≡ greatest_end (take (part_total (map coded_of tasks)) whole) →
    IsImage p (map task_record (map placed_of tasks)) (device_records devices (drop (part_total (map coded_of tasks)) whole)) content
records_lawful p tasks bss devices whole content b long =
    let total = part_total (map coded_of tasks) in
    let parts = parts_from (stub_passes p) 0 (map sized_of (map coded_of tasks)) in
    let e = ends_at p tasks bss devices whole b in
    let within = e.within in
    let stand = areas_stand p.memory p.line total parts devices whole (counted p tasks bss devices whole b) b.placed in
    record {
      plant = b.plant;
      task_count = subst (Between 1 16) (sym (tasks_long tasks)) b.task_count;
      device_count = subst (λ n. n ≤ 8) (sym (records_long p.memory p.line 0 devices (drop total whole) stand)) b.device_count;
      each_task = All-from_recursion (IsTask p.memory) (map task_record (map placed_of tasks)) (each_task _ p.memory tasks within b.each_task e.laid);
      task_names = subst AreDistinct (sym (names_same tasks)) b.named;
      each_device = All-from_recursion (IsPlaced p.line p.memory) (device_records devices (drop total whole))
          (each_placed p.memory p.line 0 devices (drop total whole) (recursion_from_All IsDevice devices b.each_device) stand);
      device_names = subst AreDistinct (sym (areas_named p.memory p.line 0 devices (drop total whole) stand)) b.devices_named;
      apart = subst AreApart (sym (areas_same p.memory p.line 0 devices (drop total whole) stand)) (rest_apart p.memory total (parts ++ area_parts p.line 0 devices) whole b.placed);
      within = omega (arith, within, long);
    }

areas_are : (devices : List Device) (whole : List Extent) (tasks : List PlacedTask) (first : ℕ) (areas : List DeviceRecord) →
    total_of tasks ≡ part_total (map coded_of tasks) → first ≡ total_of tasks → areas ≡ device_records devices (drop first whole) →
    areas ≡ device_records devices (drop (part_total (map coded_of tasks)) whole)
areas_are devices whole tasks first areas t ef ea = ea ∙ ap (λ n. device_records devices (drop n whole)) (ef ∙ t)

pub is_lawful : (p : Plant) (tasks : List PlacedTask) (bss : List (List BlockFound)) (devices : List Device) (whole : List Extent) (first end : ℕ)
    (records : List TaskRecord) (areas : List DeviceRecord) (content : List ℕ) → IsBuilt p tasks bss devices whole →
    first ≡ total_of tasks → end ≡ greatest_end (take first whole) → records ≡ map task_record (map placed_of tasks) →
    areas ≡ device_records devices (drop first whole) → length content ≡ end → IsImage p records areas content
is_lawful p tasks bss devices whole first end records areas content b ef ee er ea ec =
    let t = first_is p tasks bss devices whole b in
    subst (λ r. IsImage p r areas content) (sym er)
    (subst (λ a. IsImage p (map task_record (map placed_of tasks)) a content) (sym (areas_are devices whole tasks first areas t ef ea))
    (records_lawful p tasks bss devices whole content b (ec ∙ end_is whole tasks first end t ef ee)))

abbrev image_with : Plant → List TaskRecord → List DeviceRecord → List ℕ → ImageText
image_with p records areas content = record { plant = p; tasks = records; devices = areas; content = content }

pub image_is : (p : Plant) (tasks : List PlacedTask) (bss : List (List BlockFound)) (devices : List Device) (whole : List Extent) (first end : ℕ)
    (records : List TaskRecord) (areas : List DeviceRecord) (content : List ℕ) → IsBuilt p tasks bss devices whole →
    first ≡ total_of tasks → end ≡ greatest_end (take first whole) → records ≡ map task_record (map placed_of tasks) →
    areas ≡ device_records devices (drop first whole) → content ≡ with_tasks (map placed_of tasks) (replicate end 0) →
    record { plant = p; tasks = records; devices = areas; content = content } ≡ image_of p devices whole (map coded_of tasks)
image_is p tasks bss devices whole first end records areas content b ef ee er ea ec =
    let t = first_is p tasks bss devices whole b in
    let cs = map coded_of tasks in
    let rs = map task_record (placed_from p whole cs) in
    let ds = device_records devices (drop (part_total cs) whole) in
    let a : records ≡ rs = er ∙ ap (map task_record) b.same in
    let d : areas ≡ ds = areas_are devices whole tasks first areas t ef ea in
    let c : content ≡ with_tasks (placed_from p whole cs) (replicate (greatest_end (take (part_total cs) whole)) 0) =
    ec ∙ ap (λ ts. with_tasks ts (replicate end 0)) b.same ∙ ap (λ n. with_tasks (placed_from p whole cs) (replicate n 0)) (end_is whole tasks first end t ef ee) in
    ap (λ r. image_with p r areas content) a ∙ ap (λ r. image_with p rs r content) d ∙ ap (image_with p rs ds) c
