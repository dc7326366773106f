-- Tasks that are placed one by one.
use Rattle.std.specs.List.{AllByRecursion}
use Rattle.std.proofs.Common.{◌≡◌, ℕ, ◌+◌, ◌*◌, ◌≤◌, List, [], ◌∷◌, ◌++◌, refl, ap, sym, ◌∙◌, subst, arith, length, map, drop, append_assoc}
use Rattle.prem_plant.specs.declared.plant.Plant.{Plant}
use Rattle.prem_plant.specs.Ranges.{IsPlant}
use Rattle.prem_plant.specs.Places.{Extent}
use Rattle.prem_layout.specs.Parts.{part_count}
use Rattle.prem_layout.specs.Placed.{Coded, Placed, placed_at, placed_from, task_places}
use Rattle.prem_place.specs.Placed.PlacedOf.{placed_of, IsPlacedTask}
use Rattle.prem_place.specs.declared.placed.PlacedTask.{PlacedTask}
use Rattle.prem_prefetch.specs.declared.sizes.coded.CodedTask.{CodedTask}
use Rattle.prem_prefetch.specs.Sizes.CodedOf.{coded_in, IsCodedTask}
use Rattle.prem_place.specs.Placing.CodedOf.{AreAtPlaces}
use Rattle.prem_place.specs.Placing.Standing.{TaskLies, TasksLie, stands_in}
use Rattle.prem_place.proofs.PlacingLemmas.Stood.{all_lie, first_lies, rest_lie, drop_more}
use Rattle.prem_place.proofs.PlacingLemmas.Placing.{code_long}

pub record Begins (p : Plant) (l : List Extent) (tasks xs : List CodedTask) (all : List PlacedTask) : Type 0 where
  pub same : map placed_of all ++ placed_from p l (map coded_in xs) ≡ placed_from p l (map coded_in tasks)
  pub placed : AllByRecursion (IsPlacedTask p) all
  pub stands : AllByRecursion stands_in all
  pub coded : AllByRecursion IsCodedTask xs
  pub lies : TasksLie p (map coded_in xs) l
  pub count : 0 + 1024 * length xs ≤ 16384

pub begins : (p : Plant) (l : List Extent) (tasks xs : List CodedTask) (all : List PlacedTask) → IsPlant p → AllByRecursion IsCodedTask tasks →
    length tasks ≤ 16 → AreAtPlaces p (map coded_in tasks) l → xs ≡ tasks → all ≡ [] → Begins p l tasks xs all
begins p l tasks xs all plant coded few default e none =
    let long = ap length e in
    record {
      same = ap (λ (ts : List PlacedTask). map placed_of ts ++ placed_from p l (map coded_in xs)) none ∙ ap (λ (ts : List CodedTask). placed_from p l (map coded_in ts)) e;
      placed = subst (AllByRecursion (IsPlacedTask p)) (sym none) tt;
      stands = subst (AllByRecursion stands_in) (sym none) tt;
      coded = subst (AllByRecursion IsCodedTask) (sym e) coded;
      lies = subst (λ (ts : List CodedTask). TasksLie p (map coded_in ts) l) (sym e) (all_lie p (map coded_in tasks) l default);
      count = omega (arith, long, few);
    }

pub next_lies : (p : Plant) (places : List Extent) (xs rest : List CodedTask) (task : CodedTask) → xs ≡ task ∷ rest → TasksLie p (map coded_in xs) places → TaskLies p (coded_in task) places
next_lies p places xs rest task e lies = first_lies p (coded_in task) (map coded_in rest) places (subst (λ (ts : List CodedTask). TasksLie p (map coded_in ts) places) e lies)

all_more : {A : Type 0} (P : A → Type 0) (xs : List A) (x : A) → AllByRecursion P xs → P x → AllByRecursion P (xs ++ x ∷ [])
all_more P [] x h hx = (hx, tt)
all_more P (y ∷ ys) x h hx = (h.0, all_more P ys x h.1 hx)

placed_more : (xs : List PlacedTask) (x : PlacedTask) → map placed_of (xs ++ x ∷ []) ≡ map placed_of xs ++ placed_of x ∷ []
placed_more [] x = refl
placed_more (y ∷ ys) x = ap (λ (ts : List Placed). placed_of y ∷ ts) (placed_more ys x)

module _ (p : Plant) (l : List Extent) (first k : ℕ) (tasks xs rest : List CodedTask) (task : CodedTask) (old new : List PlacedTask) (x : PlacedTask) (e : xs ≡ task ∷ rest) (en : new ≡ old ++ x ∷ [])
    (is : placed_of x ≡ placed_at p (coded_in task) (task_places (coded_in task).program (drop first l))) (count : k ≡ part_count (placed_of x).task.program) where
  abbrev c : Coded
  c = coded_in task

  k_is : k ≡ part_count c.program
  k_is = count ∙ ap (λ (t : Placed). part_count t.task.program) is

  places_are : drop (part_count c.program) (drop first l) ≡ drop (first + k) l
  places_are = sym (drop_more first (part_count c.program) l) ∙ ap (λ n. drop (first + n) l) (sym k_is)

  pub next_same : map placed_of old ++ placed_from p (drop first l) (map coded_in xs) ≡ placed_from p l (map coded_in tasks) →
      map placed_of new ++ placed_from p (drop (first + k) l) (map coded_in rest) ≡ placed_from p l (map coded_in tasks)
  next_same before =
      ap (λ (ts : List PlacedTask). map placed_of ts ++ placed_from p (drop (first + k) l) (map coded_in rest)) en
      ∙ ap (λ (ts : List Placed). ts ++ placed_from p (drop (first + k) l) (map coded_in rest)) (placed_more old x)
      ∙ append_assoc (map placed_of old) (placed_of x ∷ []) (placed_from p (drop (first + k) l) (map coded_in rest))
      ∙ ap (λ (t : Placed). map placed_of old ++ (t ∷ placed_from p (drop (first + k) l) (map coded_in rest))) is
      ∙ ap (λ (ps : List Extent). map placed_of old ++ (placed_at p c (task_places c.program (drop first l)) ∷ placed_from p ps (map coded_in rest))) (sym places_are)
      ∙ ap (λ (ts : List CodedTask). map placed_of old ++ placed_from p (drop first l) (map coded_in ts)) (sym e) ∙ before

  pub next_placed : IsPlacedTask p x → AllByRecursion (IsPlacedTask p) old → AllByRecursion (IsPlacedTask p) new
  next_placed hx h = subst (AllByRecursion (IsPlacedTask p)) (sym en) (all_more (IsPlacedTask p) old x h hx)

  pub next_stands : stands_in x → AllByRecursion stands_in old → AllByRecursion stands_in new
  next_stands hx h = subst (AllByRecursion stands_in) (sym en) (all_more stands_in old x h hx)

  both_coded : AllByRecursion IsCodedTask xs → AllByRecursion IsCodedTask (task ∷ rest)
  both_coded h = subst (AllByRecursion IsCodedTask) e h

  pub next_coded : AllByRecursion IsCodedTask xs → AllByRecursion IsCodedTask rest
  next_coded h = (both_coded h).1

  pub others_next : AllByRecursion IsCodedTask xs → TasksLie p (map coded_in xs) (drop first l) → TasksLie p (map coded_in rest) (drop (first + k) l)
  others_next h lies =
      subst (TasksLie p (map coded_in rest)) places_are
      (rest_lie p c (map coded_in rest) (drop first l) (code_long task (both_coded h).0) (subst (λ (ts : List CodedTask). TasksLie p (map coded_in ts) (drop first l)) e lies))

  pub next_count : k ≤ 1024 → first + 1024 * length xs ≤ 16384 → first + k + 1024 * length rest ≤ 16384
  next_count le before = let long = ap length e in omega (arith, le, before, long)
