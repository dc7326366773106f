-- The loads that are told of a compiled set are those of its placed tasks, and a busy period can be found of each.
use Rattle.std.specs.Prelude.{All}
use Rattle.std.specs.List.{AllByRecursion}
use Rattle.std.proofs.Common.{◌≡◌, ℕ, suc, ◌≤◌, ◌^◌, refl, ap, ◌∙◌, sym, subst, arith, List, [], ◌∷◌, length, map}
use Rattle.std.proofs.lemmas.List.{length-map}
use Rattle.std.proofs.lemmas.List.Elements.{All-from_recursion, recursion_from_All}
use Rattle.prem_list.specs.Sequence.{items_of}
use Rattle.prem_plant.specs.declared.plant.Plant.{Plant}
use Rattle.prem_image.specs.declared.image.TaskRecord.{TaskRecord}
use Rattle.prem_image.specs.Records.{IsTask, IsImage}
use Rattle.prem_layout.specs.Bounds.{JobBound, job_bound_of}
use Rattle.prem_layout.specs.Facts.{job_fact}
use Rattle.prem_layout.specs.Image.{task_record}
use Rattle.prem_layout.specs.Placed.{Placed}
use Rattle.prem_layout.specs.Stretch.Paths.{longest_of}
use Rattle.prem_place.specs.Totals.Limits.{IsBound}
use Rattle.prem_tasks.specs.Broken.{TaskSet}
use Rattle.prem_tasks.specs.Compiled.{CompiledText, placed_in}
use Rattle.prem_compile.specs.declared.compiled.Compiled.{Compiled}
use Rattle.prem_compile.specs.CompiledOf.{IsCompiled}
use Rattle.prem_compile.specs.Telling.Longest.{longest_in}
use Rattle.prem_resp.specs.declared.busy.load.Load.{Load}
use Rattle.prem_resp.specs.Busy.Busy.{IsLoad}
use Rattle.prem_resp.specs.Timely.Timely.{load_of, loads_of}
use Rattle.prem_resp.specs.Lines.{fit_text}
use Rattle.prem_resp.specs.Fits.{loads_in, found_in}
use Rattle.prem_resp.specs.Told.{names_of, loads_told, loads_by, text_by, HasLoads}
use Rattle.prem_resp.specs.Stages.{set_text}

abbrev bounds : Plant → List Placed → List ℕ
bounds p placed = map (λ (j : JobBound). j.bound) (map (job_fact p) placed)

told_placed : (p : Plant) (placed : List Placed) → loads_told (map task_record placed) (bounds p placed) (longest_in p placed) ≡ loads_of p placed
told_placed p [] = refl
told_placed p (t ∷ ts) = ap (λ ls. load_of p t ∷ ls) (told_placed p ts)

-- a job takes its jump at least
some_cost : (p : Plant) (t : Placed) → 1 ≤ job_bound_of p t.plans t.table
some_cost p t = omega arith

-- loads of tasks in an image, with jobs and intervals within the bounds
good_loads : (memory : ℕ) (p : Plant) (placed : List Placed) → AllByRecursion (IsTask memory) (map task_record placed) →
    AllByRecursion IsBound (bounds p placed) → AllByRecursion IsBound (longest_in p placed) → AllByRecursion IsLoad (loads_of p placed)
good_loads memory p [] tasks jobs longest = tt
good_loads memory p (t ∷ ts) tasks jobs longest = (
  record {
    period = tasks.0.period.0;
    cost = some_cost p t;
    small = jobs.0;
    longest = (let le : longest_of p t.plans t.table ≤ 2 ^ 40 = longest.0 in omega (arith, le));
  },
  good_loads memory p ts tasks.1 jobs.1 longest.1,
)

-- as many as tasks
loads_long : (tasks : List TaskRecord) (jobs longest : List ℕ) → length jobs ≡ length tasks → length longest ≡ length tasks → length (loads_told tasks jobs longest) ≡ length tasks
loads_long [] jobs longest ej en = refl
loads_long (t ∷ ts) [] longest ej en = absurd (omega (arith, ej))
loads_long (t ∷ ts) (j ∷ js) [] ej en = absurd (omega (arith, en))
loads_long (t ∷ ts) (j ∷ js) (n ∷ ns) ej en = ap suc (loads_long ts js ns (omega (arith, ej)) (omega (arith, en)))

pub lent_long : (c : Compiled) (tasks : List TaskRecord) (jobs longest : List ℕ) (loads : List Load) → HasLoads c → tasks ≡ items_of c.image.tasks →
    jobs ≡ items_of c.jobs → longest ≡ items_of c.longest →
    loads ≡ loads_told tasks jobs longest → length loads ≡ length tasks
lent_long c tasks jobs longest loads h et ej en el = ap length el ∙ loads_long tasks jobs longest (ap length ej ∙ h.jobs ∙ sym (ap length et)) (ap length en ∙ h.longest ∙ sym (ap length et))

module _ (set : TaskSet) (c : Compiled) (is : IsCompiled set c) where
  abbrev placed : List Placed
  placed = placed_in set

  image_is : items_of c.image.tasks ≡ map task_record placed
  image_is = ap (λ (x : CompiledText). x.image.tasks) is.compiled

  jobs_are : items_of c.jobs ≡ bounds set.plant placed
  jobs_are = ap (λ (x : CompiledText). x.jobs) is.compiled

  loads_are : loads_by c ≡ loads_in set
  loads_are =
      ap (λ ts. loads_told ts (items_of c.jobs) (items_of c.longest)) image_is
      ∙ ap (λ js. loads_told (map task_record placed) js (items_of c.longest)) jobs_are
      ∙ ap (loads_told (map task_record placed) (bounds set.plant placed)) is.bounds.longest
      ∙ told_placed set.plant placed

  pub text_is : text_by c ≡ set_text set
  text_is = ap (λ ls. fit_text (names_of (items_of c.image.tasks)) ls (found_in ls)) loads_are ∙ ap (λ ts. fit_text (names_of ts) (loads_in set) (found_in (loads_in set))) image_is

  pub has_loads : HasLoads c
  has_loads =
      let image : IsImage c.image.plant (items_of c.image.tasks) (items_of c.image.devices) (items_of c.image.content) = c.image.lawful in
      let tasks : AllByRecursion (IsTask c.image.plant.memory) (map task_record placed) =
      subst (AllByRecursion (IsTask c.image.plant.memory)) image_is
      (recursion_from_All (IsTask c.image.plant.memory) (items_of c.image.tasks) image.each_task) in
      let records : length (items_of c.image.tasks) ≡ length placed = ap length image_is ∙ length-map placed task_record in
      let facts : length (bounds set.plant placed) ≡ length placed = length-map (map (job_fact set.plant) placed) (λ (j : JobBound). j.bound) ∙ length-map placed (job_fact set.plant) in
      let longs : length (longest_in set.plant placed) ≡ length placed = length-map placed (λ (t : Placed). longest_of set.plant t.plans t.table) in
      record {
        jobs = ap length jobs_are ∙ facts ∙ sym records;
        longest = ap length is.bounds.longest ∙ longs ∙ sym records;
        loads =
            subst (All IsLoad) (sym loads_are)
            (All-from_recursion IsLoad (loads_in set)
            (good_loads c.image.plant.memory set.plant placed tasks (subst (AllByRecursion IsBound) jobs_are is.bounds.small_jobs)
            (subst (AllByRecursion IsBound) is.bounds.longest is.bounds.small_longest)));
        count = image.task_count.1;
      }
