-- What a choice of the machine means in a schedule.
use Rattle.std.specs.Prelude.{All}
use Rattle.std.proofs.Common.{◌≡◌, ℕ, ◌+◌, ◌<◌, ◌≤◌, refl, ap, ◌∙◌, sym, subst, arith, Some, None, Option, true, List, length}
use Rattle.std.proofs.lemmas.Bool.{ltb-true, lt-ltb}
use Rattle.prem_sched.specs.declared.sched.TaskJobs.{TaskJobs}
use Rattle.prem_sched.specs.declared.sched.Choice.TheVariants.{Run, Idle as Rest, Finished}
use Rattle.prem_sched.specs.Schedule.{choice, run_or, rest, least_release, first_ready, is_ready, released as released_at, task_at, Before, NoneReady, IsDone}
use Rattle.prem_sched.proofs.Choices.{FirstReady, first_found, none_found, none_ready_before, least_none}
use Rattle.prem_resp.specs.Busy.Schedule.{Tasks, released, Schedule, IsReady}

-- ---- the choice

first_by : (now : ℕ) (sched : List TaskJobs) (k : ℕ) (o l : Option ℕ) → first_ready now 0 sched ≡ o → run_or o (rest l) ≡ Run k → first_ready now 0 sched ≡ Some k
first_by now sched k (Some j) l f e = let x : Run j ≡ Run k = e in let same : j ≡ k = cc in f ∙ ap Some same
first_by now sched k None None f e = absurd (let x : Finished ≡ Run k = e in cc)
first_by now sched k None (Some u) f e = absurd (let x : Rest u ≡ Run k = e in cc)

rest_by : (now : ℕ) (sched : List TaskJobs) (until : ℕ) (o l : Option ℕ) → first_ready now 0 sched ≡ o → least_release now sched ≡ l →
    run_or o (rest l) ≡ Rest until → (first_ready now 0 sched ≡ None) × (least_release now sched ≡ Some until)
rest_by now sched until (Some k) l f m e = absurd (let x : Run k ≡ Rest until = e in cc)
rest_by now sched until None None f m e = absurd (let x : Finished ≡ Rest until = e in cc)
rest_by now sched until None (Some u) f m e = let x : Rest u ≡ Rest until = e in let same : u ≡ until = cc in (f, m ∙ ap Some same)

done_by : (now : ℕ) (sched : List TaskJobs) (o l : Option ℕ) → first_ready now 0 sched ≡ o → least_release now sched ≡ l → run_or o (rest l) ≡ Finished → All IsDone sched
done_by now sched (Some k) l f m e = absurd (let x : Run k ≡ Finished = e in cc)
done_by now sched None (Some u) f m e = absurd (let x : Rest u ≡ Finished = e in cc)
done_by now sched None None f m e = least_none now sched m

-- where it is to finish, all jobs have ended
pub finished_done : (now : ℕ) (sched : List TaskJobs) → choice now sched ≡ Finished → All IsDone sched
finished_done now sched e = done_by now sched (first_ready now 0 sched) (least_release now sched) refl refl e

-- where it is to idle, none is ready before the end of the idle time
pub idle_none : (now : ℕ) (sched : List TaskJobs) (until : ℕ) → All (λ (t : TaskJobs). 1 ≤ t.period) sched → choice now sched ≡ Rest until → (v : ℕ) → v < until → NoneReady v sched
idle_none now sched until some e v lt =
    let r : (first_ready now 0 sched ≡ None) × (least_release now sched ≡ Some until) = rest_by now sched until (first_ready now 0 sched) (least_release now sched) refl refl e in
    none_ready_before now v sched some (none_found now 0 sched r.0) (subst (Before v) (sym r.1) lt)

-- where it is to run a task, that is the first ready one
pub run_first : (now : ℕ) (sched : List TaskJobs) (k : ℕ) → choice now sched ≡ Run k → FirstReady now 0 sched k
run_first now sched k e = first_found now 0 sched k (first_by now sched k (first_ready now 0 sched) (least_release now sched) refl e)

-- ---- as a schedule has it

-- the tasks of a machine's schedule, as they stand at a cycle
pub record Reads (x : Tasks) (s : Schedule) (tasks now : ℕ) (sched : List TaskJobs) : Type 0 where
  pub count : length sched ≡ tasks
  pub ended : (j : ℕ) → j < tasks → s.ended j now ≡ (task_at sched j).ended
  pub released : (j v : ℕ) → j < tasks → released_at (task_at sched j) v ≡ released x j v
  pub periods : All (λ (t : TaskJobs). 1 ≤ t.period) sched

pub ready_then : (x : Tasks) (s : Schedule) (tasks now v : ℕ) (sched : List TaskJobs) (j : ℕ) → Reads x s tasks now sched → j < tasks →
    (task_at sched j).ended < released x j v → is_ready v (task_at sched j) ≡ true
ready_then x s tasks now v sched j r lt h = lt-ltb (task_at sched j).ended (released_at (task_at sched j) v) (omega (arith, h, r.released j v lt))

pub then_ready : (x : Tasks) (s : Schedule) (tasks now v : ℕ) (sched : List TaskJobs) (j : ℕ) → Reads x s tasks now sched → j < tasks →
    is_ready v (task_at sched j) ≡ true → (task_at sched j).ended < released x j v
then_ready x s tasks now v sched j r lt h = let y : (task_at sched j).ended < released_at (task_at sched j) v =
    ltb-true (task_at sched j).ended (released_at (task_at sched j) v) h in omega (arith, y, r.released j v lt)

-- a task was chosen before this cycle, as the first ready one, and no job has ended since
pub record Since (x : Tasks) (s : Schedule) (tasks now : ℕ) (sched : List TaskJobs) (k : ℕ) : Type 0 where
  pub there : k < tasks
  pub chosen : ℕ
  pub before : chosen < now
  pub ready : IsReady x s k chosen
  pub first : (j : ℕ) → j < k → IsReady x s j chosen → ⊥
  pub same : (j : ℕ) → j < tasks → s.ended j chosen ≡ (task_at sched j).ended

abbrev pub later : (x : Tasks) (s : Schedule) (tasks now : ℕ) (sched : List TaskJobs) (k : ℕ) → Since x s tasks now sched k → Since x s tasks (now + 1) sched k
later x s tasks now sched k h = record { there = h.there; chosen = h.chosen; before = omega (arith, h.before); ready = h.ready; first = h.first; same = h.same }

abbrev chosen_at : (x : Tasks) (s : Schedule) (tasks now : ℕ) (sched : List TaskJobs) (k : ℕ) → Reads x s tasks now sched →
    (f : FirstReady now 0 sched k) → f.place ≡ k → Since x s tasks (now + 1) sched k
chosen_at x s tasks now sched k r f e =
    let lt : k < tasks = omega (arith, f.ready.0, e, r.count) in
    let ready : is_ready now (task_at sched k) ≡ true = subst (λ n. is_ready now (task_at sched n) ≡ true) e f.ready.1 in
    record {
      there = lt;
      chosen = now;
      before = omega arith;
      ready = omega (arith, then_ready x s tasks now now sched k r lt ready, r.ended k lt);
      first = λ j less h.
          let lj : j < tasks = omega (arith, less, lt) in
          f.none j (omega (arith, less, e)) (omega (arith, lj, r.count), ready_then x s tasks now now sched j r lj (omega (arith, h, r.ended j lj)));
      same = r.ended;
    }

abbrev pub chooses_since : (x : Tasks) (s : Schedule) (tasks now : ℕ) (sched : List TaskJobs) (k : ℕ) → Reads x s tasks now sched → choice now sched ≡ Run k → Since x s tasks (now + 1) sched k
chooses_since x s tasks now sched k r e =
    let f : FirstReady now 0 sched k = run_first now sched k e in
    chosen_at x s tasks now sched k r f (omega (arith, f.number))
