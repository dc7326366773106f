-- Sums over the tasks of an image, by their numbers and by their list.
use Rattle.std.proofs.Common.{nat_lt, ◌≡◌, ℕ, zero, suc, ◌+◌, ◌-◌, ◌*◌, ◌<◌, ◌≤◌, Bool, true, false, refl, ap, ◌∙◌, arith, List, [], ◌∷◌, length, map, drop, None, Some}
use Rattle.std.specs.Prelude.{max, slice_index_or, if◌then◌else◌}
use Rattle.prem_sets_sound.proofs.Prelude.{no_record, work_of, outputs_of, intervals_of, job_fact, task_record, part_count, Coded, Placed, task_places, placed_at, placed_from, Outputs}
use Rattle.prem_sets_sound.proofs.Prelude.{Intervals, total_of, log_rules, log_room, Extent, Plant, limits_at, JobLimits, task_limits, sum_below, last_release, Resolved}
use Rattle.prem_layout.specs.Bounds.{last_release as last_bound}
use Rattle.prem_sets_sound.proofs.ImagePremisesLemmas.Follow.{not_above}

-- the first summand in front
shifted : (n : ℕ) (f : ℕ → ℕ) → sum_below (suc n) f ≡ f 0 + sum_below n (λ k. f (suc k))
shifted zero f = omega arith
shifted (suc n) f = omega (arith, shifted n f)

-- what all jobs take of a limit
abbrev pub taken : Plant → (JobLimits → ℕ) → List Placed → ℕ
taken p part ts = sum_below (length (map task_record ts)) (λ k. (slice_index_or (map task_record ts) k no_record).jobs * part (limits_at p ts k))

taken_first : (p : Plant) (part : JobLimits → ℕ) (t : Placed) (ts : List Placed) → taken p part (t ∷ ts) ≡ t.task.jobs * part (task_limits p t) + taken p part ts
taken_first p part t ts = shifted (length (map task_record ts)) (λ k. (slice_index_or (map task_record (t ∷ ts)) k no_record).jobs * part (limits_at p (t ∷ ts) k))

-- a limit that a program alone tells is summed as the program's
taken_total : (p : Plant) (part : JobLimits → ℕ) (count : Resolved → ℕ) (places : List Extent) (cs : List Coded) → ((t : Placed) → part (task_limits p t) ≡ count t.task.program) →
    taken p part (placed_from p places cs) ≡ total_of count cs
taken_total p part count places [] same = refl
taken_total p part count places (c ∷ cs) same =
    let t = placed_at p c (task_places c.program places) in
    let rest = placed_from p (drop (part_count c.program) places) cs in
    taken_first p part t rest ∙ ap (λ n. c.jobs * n + taken p part rest) (same t) ∙ ap (λ n. c.jobs * count c.program + n) (taken_total p part count (drop (part_count c.program) places) cs same)

taken_work : (p : Plant) (ts : List Placed) → taken p (λ m. m.cycles) ts ≡ work_of (map (job_fact p) ts)
taken_work p [] = refl
taken_work p (t ∷ ts) = taken_first p (λ m. m.cycles) t ts ∙ ap (λ n. t.task.jobs * (task_limits p t).cycles + n) (taken_work p ts)

released : (p : Plant) (ts : List Placed) → last_release (map task_record ts) ≡ last_bound (map (job_fact p) ts)
released p [] = refl
released p (t ∷ ts) = ap (λ n. max ((t.task.jobs - 1) * t.task.period) n) (released p ts)

-- ---- the three sums

record Within (outputs intervals : ℕ) : Type 0 where
  pub outputs_fit : outputs ≤ log_room
  pub intervals_fit : intervals ≤ log_room

within : (outputs intervals : ℕ) → (if nat_lt log_room outputs then Some Outputs else if nat_lt log_room intervals then Some Intervals else None) ≡ None → Within outputs intervals
within outputs intervals h = by (nat_lt log_room outputs) (nat_lt log_room intervals) refl refl h where
  by : (a b : Bool) → nat_lt log_room outputs ≡ a → nat_lt log_room intervals ≡ b → (if a then Some Outputs else if b then Some Intervals else None) ≡ None → Within outputs intervals
  by true b e f h = absurd cc
  by false true e f h = absurd cc
  by false false e f h = record { outputs_fit = not_above log_room outputs e; intervals_fit = not_above log_room intervals f }

pub outputs_fit : (p : Plant) (places : List Extent) (cs : List Coded) → log_rules cs ≡ None → taken p (λ m. m.outputs) (placed_from p places cs) < 262144
outputs_fit p places cs h =
    let e = taken_total p (λ m. m.outputs) outputs_of places cs (λ t. refl) in
    let w = (within (total_of outputs_of cs) (total_of intervals_of cs) h).outputs_fit in
    omega (arith, e, w)

pub intervals_fit : (p : Plant) (places : List Extent) (cs : List Coded) → log_rules cs ≡ None → taken p (λ m. 1 + 2 * m.calls) (placed_from p places cs) < 262144
intervals_fit p places cs h =
    let e = taken_total p (λ m. 1 + 2 * m.calls) intervals_of places cs (λ t. refl) in
    let w = (within (total_of outputs_of cs) (total_of intervals_of cs) h).intervals_fit in
    omega (arith, e, w)

pub ends_by : (p : Plant) (ts : List Placed) → last_release (map task_record ts) + taken p (λ m. m.cycles) ts ≤ last_bound (map (job_fact p) ts) + work_of (map (job_fact p) ts)
ends_by p ts = let a = released p ts in let b = taken_work p ts in omega (arith, a, b)
