-- What a choice means.
use Rattle.std.specs.Prelude.{All}
use Rattle.std.proofs.Common.{◌≡◌, ℕ, zero, suc, ◌+◌, ◌*◌, ◌/◌, ◌<◌, ◌≤◌, Bool, true, false, List, [], ◌∷◌, Option, Some, None, length, cond, refl, ap, sym, ◌∙◌, arith, get_or, subst}
use Rattle.std.proofs.lemmas.List.{get_or-map, length-map}
use Rattle.std.proofs.Math.Nat.{div-lt_iff_lt-mul, div-mul-le_self, lt-div-mul-add}
use Rattle.std.proofs.lemmas.Nat.{le-div}
use Rattle.std.proofs.lemmas.Bool.{false_from_ne_true}
use Rattle.std.proofs.lemmas.Bool.Decides.{nat_tests}
use Rattle.prem_sched.specs.declared.sched.TaskJobs.{TaskJobs}
use Rattle.prem_sched.specs.declared.sched.Choice.TheVariants.{Finished}
use Rattle.prem_sched.specs.Schedule.{is_ready, has_jobs_left, next_release, earlier, least_release, rest, first_ready, run_or, choice, start_of, starts_of, no_task, task_at}
use Rattle.prem_sched.specs.Schedule.{becomes_ready, next_ready, Before, IsTask, IsReady, IsDone, NoneReady, IsChoice, IsSet}

-- ---- one task

-- a ready task has jobs left
pub ready_left : (t : ℕ) (task : TaskJobs) → is_ready t task ≡ true → task.ended < task.jobs
ready_left t task h = grind (arith, nat_tests)

done_waits : (t : ℕ) (task : TaskJobs) → has_jobs_left task ≡ false → is_ready t task ≡ false
done_waits t task h = grind (arith, nat_tests)

left_is_release : (t : ℕ) (task : TaskJobs) → has_jobs_left task ≡ true → next_release t task ≡ Some ((t / task.period + 1) * task.period)
left_is_release t task is = rw is

done_no_release : (t : ℕ) (task : TaskJobs) → has_jobs_left task ≡ false → next_release t task ≡ None
done_no_release t task is = rw is

in_period : (v t period : ℕ) → 1 ≤ period → v < (t / period + 1) * period → v / period ≤ t / period
in_period v t period some lt =
    let q : v / period < t / period + 1 = (div-lt_iff_lt-mul {k = period} {x = v} {y = t / period + 1} some).1 lt in
    omega arith

-- a task that waits isn't ready before its next release
waits_at : (t v : ℕ) (task : TaskJobs) (b : Bool) → has_jobs_left task ≡ b → 1 ≤ task.period → is_ready t task ≡ false → Before v (next_release t task) → is_ready v task ≡ false
waits_at t v task false is some waits before = done_waits v task is
waits_at t v task true is some waits before =
    let b : v < (t / task.period + 1) * task.period = rw (left_is_release t task is) at before in
    let q = in_period v t task.period some b in
    grind (arith, nat_tests)

waits_before : (t v : ℕ) (task : TaskJobs) → 1 ≤ task.period → is_ready t task ≡ false → Before v (next_release t task) → is_ready v task ≡ false
waits_before t v task some waits before = waits_at t v task (has_jobs_left task) refl some waits before

-- the next release comes later
later_at : (t : ℕ) (task : TaskJobs) (b : Bool) → has_jobs_left task ≡ b → 1 ≤ task.period → Before t (next_release t task)
later_at t task false is some = rw (done_no_release t task is) tt
later_at t task true is some =
    let lt : t < t / task.period * task.period + task.period = lt-div-mul-add {a = t} {b = task.period} some in
    let b : t < (t / task.period + 1) * task.period = omega arith in
    rw (left_is_release t task is) b

next_later : (t : ℕ) (task : TaskJobs) → 1 ≤ task.period → Before t (next_release t task)
next_later t task some = later_at t task (has_jobs_left task) refl some

-- where no release is to come, all jobs have ended
done_at : (t : ℕ) (task : TaskJobs) (b : Bool) → has_jobs_left task ≡ b → next_release t task ≡ None → IsDone task
done_at t task false is none = grind (arith, nat_tests)
done_at t task true is none = let e = sym (left_is_release t task is) ∙ none in cc

before_both : (v : ℕ) (a b : Option ℕ) → Before v a → Before v b → Before v (earlier a b)
before_both v None b p q = q
before_both v (Some x) None p q = p
before_both v (Some x) (Some y) p q = omega arith

before_first : (v : ℕ) (a b : Option ℕ) → Before v (earlier a b) → Before v a
before_first v None b p = tt
before_first v (Some x) None p = p
before_first v (Some x) (Some y) p = omega arith

before_second : (v : ℕ) (a b : Option ℕ) → Before v (earlier a b) → Before v b
before_second v None b p = p
before_second v (Some x) None p = tt
before_second v (Some x) (Some y) p = omega arith

no_first : (a b : Option ℕ) → earlier a b ≡ None → a ≡ None
no_first None b e = refl
no_first (Some x) None e = e
no_first (Some x) (Some y) e = cc

no_second : (a b : Option ℕ) → earlier a b ≡ None → b ≡ None
no_second None b e = e
no_second (Some x) None e = refl
no_second (Some x) (Some y) e = cc

-- ---- the set

pub all_front : {X : Type 0} (P : X → Type 0) (x : X) (xs : List X) → All P (x ∷ xs) → P x
all_front P x xs all = all 0 x (omega arith)

pub all_behind : {X : Type 0} (P : X → Type 0) (x : X) (xs : List X) → All P (x ∷ xs) → All P xs
all_behind P x xs all = λ k d lt. all (suc k) d (omega arith)

all_cons : {X : Type 0} (P : X → Type 0) (x : X) (xs : List X) → P x → All P xs → All P (x ∷ xs)
all_cons P x xs p all zero d lt = p
all_cons P x xs p all (suc k) d lt = all k d (omega arith)

-- the first ready task, with the tasks before it
pub record FirstReady (t k : ℕ) (tasks : List TaskJobs) (j : ℕ) : Type 0 where
  pub place : ℕ
  pub number : j ≡ k + place
  pub ready : IsReady t tasks place
  pub none : (m : ℕ) → m < place → IsReady t tasks m → ⊥

none_before : (t : ℕ) (task : TaskJobs) (tasks : List TaskJobs) (i : ℕ) → is_ready t task ≡ false → ((m : ℕ) → m < i → IsReady t tasks m → ⊥) →
    (m : ℕ) → m < suc i → IsReady t (task ∷ tasks) m → ⊥
none_before t task tasks i waits none zero lt r = let e : true ≡ false = sym r.1 ∙ waits in cc
none_before t task tasks i waits none (suc m) lt r = none m (omega arith) (omega arith, r.1)

found_at : (t k : ℕ) (task : TaskJobs) (tasks : List TaskJobs) (j : ℕ) (b : Bool) → is_ready t task ≡ b → first_ready t k (task ∷ tasks) ≡ Some j →
    (first_ready t (k + 1) tasks ≡ Some j → FirstReady t (k + 1) tasks j) → FirstReady t k (task ∷ tasks) j
found_at t k task tasks j true is first later =
    let here : first_ready t k (task ∷ tasks) ≡ Some k = rw is in
    let e : Some k ≡ Some j = sym here ∙ first in
    let n : k ≡ j = cc in
    record { place = 0; number = omega arith; ready = (omega arith, is); none = λ m lt r. absurd (omega arith) }
found_at t k task tasks j false is first later =
    let there : first_ready t k (task ∷ tasks) ≡ first_ready t (k + 1) tasks = rw is in
    let f : FirstReady t (k + 1) tasks j = later (sym there ∙ first) in
    record {
      place = suc f.place;
      number = omega arith;
      ready = (omega (arith, f.ready.0), f.ready.1);
      none = none_before t task tasks f.place is f.none;
    }

pub first_found : (t k : ℕ) (tasks : List TaskJobs) (j : ℕ) → first_ready t k tasks ≡ Some j → FirstReady t k tasks j
first_found t k [] j first = cc
first_found t k (task ∷ tasks) j first =
    found_at t k task tasks j (is_ready t task) refl first (first_found t (k + 1) tasks j)

none_at : (t k : ℕ) (task : TaskJobs) (tasks : List TaskJobs) (b : Bool) → is_ready t task ≡ b → first_ready t k (task ∷ tasks) ≡ None →
    (is_ready t task ≡ false) × (first_ready t (k + 1) tasks ≡ None)
none_at t k task tasks true is none =
    let here : first_ready t k (task ∷ tasks) ≡ Some k = rw is in
    let e : Some k ≡ None = sym here ∙ none in cc
none_at t k task tasks false is none =
    let there : first_ready t k (task ∷ tasks) ≡ first_ready t (k + 1) tasks = rw is in
    (is, sym there ∙ none)

pub none_found : (t k : ℕ) (tasks : List TaskJobs) → first_ready t k tasks ≡ None → NoneReady t tasks
none_found t k [] none i r = absurd (omega (arith, r.0))
none_found t k (task ∷ tasks) none zero r =
    let e : true ≡ false = sym r.1 ∙ (none_at t k task tasks (is_ready t task) refl none).0 in cc
none_found t k (task ∷ tasks) none (suc i) r =
    none_found t (k + 1) tasks (none_at t k task tasks (is_ready t task) refl none).1 i (omega (arith, r.0), r.1)

-- the least release is later, and no task becomes ready before it
pub least_later : (t : ℕ) (tasks : List TaskJobs) → All (λ task. 1 ≤ task.period) tasks → Before t (least_release t tasks)
least_later t [] some = tt
least_later t (task ∷ tasks) some =
    before_both t (next_release t task) (least_release t tasks) (next_later t task (all_front (λ task. 1 ≤ task.period) task tasks some))
    (least_later t tasks (all_behind (λ task. 1 ≤ task.period) task tasks some))

each_before : (t v : ℕ) (tasks : List TaskJobs) (i : ℕ) → i < length tasks → Before v (least_release t tasks) → Before v (next_release t (task_at tasks i))
each_before t v [] i lt before = absurd (omega arith)
each_before t v (task ∷ tasks) zero lt before = before_first v (next_release t task) (least_release t tasks) before
each_before t v (task ∷ tasks) (suc i) lt before =
    each_before t v tasks i (omega arith) (before_second v (next_release t task) (least_release t tasks) before)

pub none_ready_before : (t v : ℕ) (tasks : List TaskJobs) → All (λ task. 1 ≤ task.period) tasks → NoneReady t tasks → Before v (least_release t tasks) → NoneReady v tasks
none_ready_before t v tasks some none before i r =
    let waits : is_ready t (task_at tasks i) ≡ false = false_from_ne_true (is_ready t (task_at tasks i)) (λ is. none i (r.0, is)) in
    let e : true ≡ false = sym r.1 ∙ waits_before t v (task_at tasks i) (some i no_task r.0) waits (each_before t v tasks i r.0 before) in cc

-- no release is to come exactly where all jobs have ended
pub least_none : (t : ℕ) (tasks : List TaskJobs) → least_release t tasks ≡ None → All IsDone tasks
least_none t [] none = λ k d lt. absurd (omega arith)
least_none t (task ∷ tasks) none =
    all_cons IsDone task tasks (done_at t task (has_jobs_left task) refl (no_first (next_release t task) (least_release t tasks) none))
    (least_none t tasks (no_second (next_release t task) (least_release t tasks) none))

done_left : (task : TaskJobs) → IsDone task → has_jobs_left task ≡ false
done_left task done = grind (arith, nat_tests)

done_none : (t : ℕ) (tasks : List TaskJobs) → All IsDone tasks → least_release t tasks ≡ None
done_none t [] done = refl
done_none t (task ∷ tasks) done =
    ap (λ r. earlier r (least_release t tasks)) (done_no_release t task (done_left task (all_front IsDone task tasks done)))
    ∙ done_none t tasks (all_behind IsDone task tasks done)

done_not_ready : (t k : ℕ) (tasks : List TaskJobs) → All IsDone tasks → first_ready t k tasks ≡ None
done_not_ready t k [] done = refl
done_not_ready t k (task ∷ tasks) done =
    let waits : is_ready t task ≡ false = done_waits t task (done_left task (all_front IsDone task tasks done)) in
    let e : first_ready t k (task ∷ tasks) ≡ first_ready t (k + 1) tasks = rw waits in
    e ∙ done_not_ready t (k + 1) tasks (all_behind IsDone task tasks done)

-- ---- the choice

means_at : (t : ℕ) (tasks : List TaskJobs) (ready least : Option ℕ) → IsSet tasks → first_ready t 0 tasks ≡ ready → least_release t tasks ≡ least → IsChoice t tasks (run_or ready (rest least))
means_at t tasks (Some j) least set first last =
    let f = first_found t 0 tasks j first in
    let e : f.place ≡ j = omega (arith, f.number) in
    rw (← e) (f.ready, f.none)
means_at t tasks None (Some u) set first last =
    let later : t < u = rw last at (least_later t tasks set.periods) in
    (later, λ v le lt. none_ready_before t v tasks set.periods (none_found t 0 tasks first) (rw last lt))
means_at t tasks None None set first last = least_none t tasks last

pub choice_means : (t : ℕ) (tasks : List TaskJobs) → IsSet tasks → IsChoice t tasks (choice t tasks)
choice_means t tasks set = means_at t tasks (first_ready t 0 tasks) (least_release t tasks) set refl refl

pub choice_done : (t : ℕ) (tasks : List TaskJobs) → All IsDone tasks → choice t tasks ≡ Finished
choice_done t tasks done =
    ap (λ r. run_or r (rest (least_release t tasks))) (done_not_ready t 0 tasks done) ∙ ap rest (done_none t tasks done)

-- ---- the start

-- the tasks that have started are a set
pub starts_set : (tasks : List (ℕ × ℕ)) → All IsTask tasks → length tasks ≤ 16 → IsSet (starts_of tasks)
starts_set tasks positive count =
    record {
      count = omega (arith, length-map tasks start_of);
      periods = λ k d lt.
          let in_tasks : k < length tasks = omega (arith, length-map tasks start_of) in
          let e : get_or (starts_of tasks) k d ≡ start_of (get_or tasks k (1, 1)) = get_or-map start_of tasks k (1, 1) d in_tasks in
          let P : TaskJobs → Type 0 = λ task. 1 ≤ task.period in
          subst P (sym e) (positive k (1, 1) in_tasks).0;
    }

-- ---- while no job ends

quotients : (t v period : ℕ) → 1 ≤ period → t ≤ v → t / period ≤ v / period
quotients t v period some later =
    let down : t / period * period ≤ t = div-mul-le_self t period in
    le-div (t / period) v period (omega arith) (omega arith)

abbrev HasPeriod : TaskJobs → Type 0
HasPeriod task = 1 ≤ task.period

-- a task that is ready stays so
ready_on : (t v : ℕ) (task : TaskJobs) → 1 ≤ task.period → t ≤ v → is_ready t task ≡ true → is_ready v task ≡ true
ready_on t v task some later is =
    let q = quotients t v task.period some later in
    grind (arith, nat_tests)

kept_by : (t v : ℕ) (task : TaskJobs) (b : Bool) → is_ready t task ≡ b → 1 ≤ task.period → t ≤ v → Before v (cond b None (next_release t task)) → is_ready v task ≡ b
kept_by t v task true is some later before = ready_on t v task some later is
kept_by t v task false is some later before = waits_before t v task some is before

later_by : (t : ℕ) (task : TaskJobs) (b : Bool) → 1 ≤ task.period → Before t (cond b None (next_release t task))
later_by t task true some = tt
later_by t task false some = next_later t task some

-- the next task that becomes ready does so later
pub next_ready_later : (t : ℕ) (tasks : List TaskJobs) → All (λ task. 1 ≤ task.period) tasks → Before t (next_ready t tasks)
next_ready_later t [] some = tt
next_ready_later t (task ∷ tasks) some =
    before_both t (becomes_ready t task) (next_ready t tasks) (later_by t task (is_ready t task) (all_front HasPeriod task tasks some))
    (next_ready_later t tasks (all_behind HasPeriod task tasks some))

-- and until then each task is ready or not as it was
pub ready_kept : (t v : ℕ) (tasks : List TaskJobs) (k : ℕ) → All (λ task. 1 ≤ task.period) tasks → t ≤ v → Before v (next_ready t tasks) →
    is_ready v (task_at tasks k) ≡ is_ready t (task_at tasks k)
ready_kept t v [] k some later before = none_ready
  where
    none_ready : is_ready v no_task ≡ is_ready t no_task
    none_ready = let a : is_ready v no_task ≡ false = grind (arith, nat_tests) in let b : is_ready t no_task ≡ false = grind (arith, nat_tests) in a ∙ sym b
ready_kept t v (task ∷ tasks) zero some later before =
    kept_by t v task (is_ready t task) refl (all_front HasPeriod task tasks some) later (before_first v (becomes_ready t task) (next_ready t tasks) before)
ready_kept t v (task ∷ tasks) (suc k) some later before =
    ready_kept t v tasks k (all_behind HasPeriod task tasks some) later (before_second v (becomes_ready t task) (next_ready t tasks) before)
