-- The tasks of a set that breaks no rule stand whole.
use Rattle.std.specs.Prelude.{slice_index, slice_index_or}
use Rattle.std.specs.List.{AllByRecursion}
use Rattle.std.proofs.Common.{◌≡◌, ℕ, zero, suc, ◌+◌, ◌<◌, ◌≤◌, ◌^◌, Bool, true, false, cond, ltb, ltb-false, List, [], ◌∷◌, ◌++◌, Option, None, Some, refl, ap, sym, ◌∙◌, subst}
use Rattle.std.proofs.Common.{arith, length, map, take, drop, get_or, slice_get}
use Rattle.std.proofs.lemmas.List.{length-map}
use Rattle.prem_list.specs.Sequence.{items_of}
use Rattle.prem_plant.specs.declared.plant.Plant.{Plant}
use Rattle.prem_plant.specs.declared.plant.Target.{Target}
use Rattle.prem_plant.specs.declared.layout.PartSize.{PartSize}
use Rattle.prem_plant.specs.declared.layout.PartKind.TheVariants.{Code}
use Rattle.prem_plant.specs.Places.{Extent, ArePlaces}
use Rattle.prem_plant.specs.Ranges.{IsPlant}
use Rattle.prem_syntax.specs.Syntax.{ProgramText}
use Rattle.prem_syntax.specs.Resolved.{Routine}
use Rattle.prem_tree.specs.declared.resolve.resolved.Routine.{Routine as RoutineTree}
use Rattle.prem_tree.specs.Resolve.ResolvedOf.{loops_of, routine_of, routines_of as plain_routines}
use Rattle.prem_asm.specs.Pieces.{Pieces, no_pieces, size_of}
use Rattle.prem_layout.specs.Template.Frames.{frame_of}
use Rattle.prem_layout.specs.Template.Limits.{Excess, frame, greatest_frame, deep_excess, excess_of, excess_or, excess_among, too_deep_function}
use Rattle.prem_layout.specs.Template.Parts.{codes_of, parts_of}
use Rattle.prem_layout.specs.Parts.{part, code_parts, stub_passes, task_parts, part_count}
use Rattle.prem_layout.specs.Footprint.{no_place, place_at}
use Rattle.prem_layout.specs.Placed.{Coded, Placed, task_places, placed_at, placed_from, parts_of as set_parts_of}
use Rattle.prem_layout.specs.Rules.{over_tasks, code_rules}
use Rattle.prem_split.specs.Walk.{HasFrame}
use Rattle.prem_split.proofs.PlansAre.{frame_same}
use Rattle.prem_split.proofs.MayHave.{has_frame}
use Rattle.prem_prefetch.proofs.SizesLemmas.Programs.{as_many_codes}
use Rattle.prem_place.specs.Placed.PlacedOf.{coded_of, placed_of, IsPlacedTask}
use Rattle.prem_place.specs.Placing.Standing.{TaskLies, TasksLie, stands_in}
use Rattle.prem_place.specs.declared.placed.PlacedTask.{PlacedTask}
use Rattle.prem_place.proofs.StandLemmas.Lying.{lie_left, are_parts, taken_same}
use Rattle.prem_place.proofs.PlacingLemmas.Placing.{routines_long}
use Rattle.prem_place.proofs.PlacingLemmas.Stood.{all_lie, first_lies, rest_lie}
use Rattle.prem_tasks.specs.Broken.{TaskText, TaskSet, programs_of, coded_of as coded_tasks, text_rules, program_rules, range_rules, late_refusal}
use Rattle.prem_tasks.specs.Compiled.{coded_in}
use Rattle.prem_tasks.specs.At.{broken_early, code_broken, placed_broken}
use Rattle.prem_sets_sound.proofs.ImagePremisesLemmas.Follow.{both_none, not_late}
use Rattle.prem_sets_sound.proofs.ImagePremisesLemmas.Rules.{none_among}
use Rattle.prem_sets_sound.proofs.TaskRunsLemmas.Filled.{not_exceeding}
use Rattle.prem_compile.specs.Joined.{HasPlaces, IsMadeAt}
use Rattle.prem_compile.specs.declared.compiled.Compiled.{Compiled}
use Rattle.prem_compile.proofs.Stopped.{places_apart}
use Rattle.prem_wcet.specs.KnownOf.{StandsWhole}

-- ---- frames

frame_within : (n : ℕ) (f : Routine) → excess_of n f ≡ None → frame_of f ≤ 2032
frame_within n f e = by (ltb greatest_frame (frame_of f)) refl e
  where
    by : (b : Bool) → ltb greatest_frame (frame_of f) ≡ b → cond b (Some (frame n)) (deep_excess (too_deep_function f)) ≡ None → frame_of f ≤ 2032
    by true is h = cc
    by false is h = ltb-false greatest_frame (frame_of f) is

none_either : (a b : Option Excess) → excess_or a b ≡ None → (a ≡ None) × (b ≡ None)
none_either None b e = (refl, e)
none_either (Some x) b e = cc

have_frames : (turns : ℕ → ℕ) (loops n : ℕ) (rs : List RoutineTree) → excess_among n (plain_routines turns loops rs) ≡ None → AllByRecursion HasFrame rs
have_frames turns loops n [] e = tt
have_frames turns loops n (r ∷ rs) e =
    let f : Routine = routine_of turns loops r in
    let both = none_either (excess_of n f) (excess_among (n + 1) (plain_routines turns (loops + loops_of r.body) rs)) e in (
      has_frame r (subst (λ k. k ≤ 2032) (sym (frame_same turns loops r)) (frame_within n f both.0)),
      have_frames turns (loops + loops_of r.body) (n + 1) rs both.1,
    )

-- ---- places end within memory

record EndsBy (memory : ℕ) (place : Extent) : Type 0 where
  forward : place.0 ≤ place.1
  within : place.1 ≤ memory

within_all : (memory : ℕ) (places : List Extent) → ((i : ℕ) (p : Extent) → slice_get places i ≡ Some p → EndsBy memory p) → AllByRecursion (EndsBy memory) places
within_all memory [] h = tt
within_all memory (q ∷ qs) h = (h 0 q refl, within_all memory qs (λ i p e. h (suc i) p e))

within_take : (memory count : ℕ) (places : List Extent) → AllByRecursion (EndsBy memory) places → AllByRecursion (EndsBy memory) (take count places)
within_take memory zero places h = tt
within_take memory (suc count) [] h = tt
within_take memory (suc count) (q ∷ qs) h = (h.0, within_take memory count qs h.1)

within_drop : (memory count : ℕ) (places : List Extent) → AllByRecursion (EndsBy memory) places → AllByRecursion (EndsBy memory) (drop count places)
within_drop memory zero places h = h
within_drop memory (suc count) [] h = tt
within_drop memory (suc count) (q ∷ qs) h = within_drop memory count qs h.1

within_at : (memory : ℕ) (places : List Extent) (n : ℕ) → AllByRecursion (EndsBy memory) places → EndsBy memory (slice_index_or places n no_place)
within_at memory [] n h = record { forward = omega arith; within = omega arith }
within_at memory (q ∷ qs) zero h = h.0
within_at memory (q ∷ qs) (suc n) h = within_at memory qs n h.1

-- ---- the parts of a task

index_there : (places : List Extent) (n : ℕ) (q : Extent) → slice_get places n ≡ Some q → slice_index_or places n no_place ≡ q
index_there [] n q e = absurd cc
index_there (x ∷ xs) zero q e = cc
index_there (x ∷ xs) (suc n) q e = index_there xs n q e

code_there : (task m : ℕ) (sizes : List ℕ) (rest : List PartSize) (n : ℕ) → n < length sizes → slice_get (code_parts task m sizes ++ rest) n ≡ Some (part task (Code (m + n)) (get_or sizes n 0) 4)
code_there task m [] rest n lt = absurd (omega (arith, lt))
code_there task m (s ∷ ss) rest zero lt = let z : m ≡ m + 0 = omega arith in ap (λ k. Some (part task (Code k) s 4)) z
code_there task m (s ∷ ss) rest (suc n) lt =
    let z : m + 1 + n ≡ m + suc n = omega arith in
    code_there task (m + 1) ss rest n (omega (arith, lt)) ∙ ap (λ k. Some (part task (Code k) (get_or ss n 0) 4)) z

size_there : (code : List Pieces) (n : ℕ) → n < length code → get_or (map size_of code) n 0 ≡ size_of (get_or code n no_pieces)
size_there [] n lt = absurd (omega (arith, lt))
size_there (ps ∷ code) zero lt = refl
size_there (ps ∷ code) (suc n) lt = size_there code n (omega (arith, lt))

abbrev IsCodeFor : Target → Coded → Type 0
IsCodeFor target c = c.code ≡ codes_of (parts_of target c.program.routines) c.program.routines

record WholePlaces (p : Plant) (x : Placed) : Type 0 where
  code : IsCodeFor p.target x.task
  functions : x.at.functions ≡ length x.task.program.routines
  marked : length x.at.marked ≡ length x.plans
  ends : (n : ℕ) → n < length x.task.code → (place_at x.at (1 + n)).0 + size_of (get_or x.task.code n no_pieces) ≤ p.memory
  start : (place_at x.at 0).0 + 8 ≤ p.memory
  within : (n : ℕ) → EndsBy p.memory (place_at x.at n)

whole_at : (p : Plant) (c : Coded) (places : List Extent) → IsCodeFor p.target c → TaskLies p c places → AllByRecursion (EndsBy p.memory) places →
    WholePlaces p (placed_at p c (task_places c.program places))
whole_at p c places code lies all =
    let sizes : List ℕ = map size_of c.code in
    let long : length c.code ≡ length c.program.routines = ap length code ∙ as_many_codes (parts_of p.target c.program.routines) c.program.routines in
    let each = lie_left p.memory (task_parts (stub_passes p) lies.number sizes c.program) lies.others places lies.lie.each in
    let stands = are_parts p.memory (task_parts (stub_passes p) lies.number sizes c.program) places each in
    record {
      code = code;
      functions = refl;
      marked = length-map _ _;
      ends = λ n lt.
          (let inside : n < length sizes = omega (arith, lt, length-map c.code size_of) in
          let s = stands (suc n) (part lies.number (Code (0 + n)) (get_or sizes n 0) 4) (code_there lies.number 0 sizes _ n inside) in
          let one : 1 + n ≡ suc n = omega arith in
          let at : slice_index_or (take (part_count c.program) places) (1 + n) no_place ≡ s.at =
          taken_same (part_count c.program) (1 + n) places (omega (arith, lt, long)) ∙ ap (λ k. slice_index_or places k no_place) one ∙ index_there places (suc n) s.at s.there in
          let size = size_there c.code n lt in
          let first = ap (λ (q : Extent). q.0) at in
          let ends = s.ends in
          let within = s.within in
          omega (arith, first, size, ends, within));
      start =
          (let s = stands 0 _ refl in
          let at : slice_index_or (take (part_count c.program) places) 0 no_place ≡ s.at = taken_same (part_count c.program) 0 places (omega arith) ∙ index_there places 0 s.at s.there in
          let first = ap (λ (q : Extent). q.0) at in
          let ends = s.ends in
          let within = s.within in
          omega (arith, first, ends, within));
      within = λ n. within_at p.memory (take (part_count c.program) places) n (within_take p.memory (part_count c.program) places all);
    }

whole_from : (p : Plant) (places : List Extent) (cs : List Coded) → AllByRecursion (IsCodeFor p.target) cs → TasksLie p cs places →
    AllByRecursion (EndsBy p.memory) places → AllByRecursion (WholePlaces p) (placed_from p places cs)
whole_from p places [] codes lie all = tt
whole_from p places (c ∷ cs) codes lie all =
    let long : length c.code ≡ length c.program.routines = ap length codes.0 ∙ as_many_codes (parts_of p.target c.program.routines) c.program.routines in (
      whole_at p c places codes.0 (first_lies p c cs places lie) all,
      whole_from p (drop (part_count c.program) places) cs codes.1 (rest_lie p c cs places long lie) (within_drop p.memory (part_count c.program) places all),
    )

codes_given : (target : Target) (ts : List TaskText) (ps : List ProgramText) → AllByRecursion (IsCodeFor target) (coded_tasks target ts ps)
codes_given target [] ps = tt
codes_given target (t ∷ ts) [] = tt
codes_given target (t ∷ ts) (p ∷ ps) = (refl, codes_given target ts ps)

-- ---- a task, and all tasks

whole_task : (p : Plant) (t : PlacedTask) → IsPlant p → IsPlacedTask p t → stands_in t → WholePlaces p (placed_of t) → code_rules (coded_of t).program ≡ None → StandsWhole p t
whole_task p t plant is stands w four =
    let memory = plant.memory in
    let small : p.memory ≤ 2 ^ 24 = omega (arith, memory.1) in
    let long : length (items_of t.table.code) ≡ length (coded_of t).code = sym (length-map (items_of t.table.code) _) in
    let few = stands.few in
    let count = stands.count in
    let start = w.start in
    let stack = w.within (1 + t.places.functions + length t.places.marked + length t.places.elements) in
    let forward = stack.forward in
    let within = stack.within in
    record {
      task = is;
      code = w.code;
      functions = w.functions ∙ routines_long (slice_index t.turns.items) 0 (items_of t.program.routines);
      marked = w.marked;
      frames = have_frames (slice_index t.turns.items) 0 0 (items_of t.program.routines) (not_exceeding (coded_of t).program four);
      few = omega (arith, few, count);
      ends = λ n lt. (let e = w.ends n (omega (arith, lt, long)) in omega (arith, e, small));
      start = omega (arith, start, small);
      low = omega (arith, forward, within, small);
      stack = omega (arith, within, small);
    }

whole_all : (p : Plant) (ts : List PlacedTask) → IsPlant p → AllByRecursion (IsPlacedTask p) ts → AllByRecursion stands_in ts →
    AllByRecursion (WholePlaces p) (map placed_of ts) → AllByRecursion (λ (c : Coded). code_rules c.program ≡ None) (map coded_of ts) →
    AllByRecursion (StandsWhole p) ts
whole_all p [] plant a b c d = tt
whole_all p (t ∷ ts) plant a b c d = (whole_task p t plant a.0 b.0 c.0 d.0, whole_all p ts plant a.1 b.1 c.1 d.1)

four_kept : (set : TaskSet) → broken_early set ≡ None → AllByRecursion (λ (c : Coded). code_rules c.program ≡ None) (coded_in set)
four_kept set h =
    let late = late_refusal (code_broken set) in
    let ps = programs_of set.tasks in
    let one = both_none (over_tasks text_rules set.tasks) _ h in
    let two = both_none (over_tasks program_rules ps) _ one.second in
    let three = both_none (over_tasks range_rules ps) late two.second in
    none_among (λ (c : Coded). code_rules c.program) 0 (coded_in set) (not_late (code_broken set) three.second)

pub tasks_whole : (set : TaskSet) (parts : List PartSize) (layout : List Extent) (tasks : List PlacedTask) (c : Compiled) → IsPlant set.plant →
    HasPlaces set parts layout tasks → IsMadeAt set layout c → AllByRecursion (StandsWhole set.plant) tasks
tasks_whole set parts layout tasks c plant h made =
    let p : Plant = set.plant in
    let apart : ArePlaces p.memory (set_parts_of p set.devices (coded_in set)) layout = subst (λ (ps : List PartSize). ArePlaces p.memory ps layout) h.parts_are h.apart in
    let lie : TasksLie p (coded_in set) layout = all_lie p (coded_in set) layout (record { devices = set.devices; placed = apart }) in
    let whole = whole_from p layout (coded_in set) (codes_given p.target set.tasks (programs_of set.tasks)) lie
    (within_all p.memory layout (λ i q e. record { forward = (places_apart p.memory _ layout apart).forward i q e; within = apart.within i q e })) in
    let early = both_none (broken_early set) (late_refusal (placed_broken set layout)) made.lawful in
    whole_all p tasks plant h.each h.standing (subst (λ (ts : List Placed). AllByRecursion (WholePlaces p) ts) (sym h.placed) whole)
    (subst (λ (cs : List Coded). AllByRecursion (λ (c : Coded). code_rules c.program ≡ None) cs) (sym h.coded) (four_kept set early.first))
