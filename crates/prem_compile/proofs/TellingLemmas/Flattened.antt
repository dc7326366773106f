-- What is told of all tasks, from what is told of each.
use Rattle.std.proofs.Common.{◌≡◌, ℕ, ◌+◌, List, [], ◌∷◌, ◌++◌, refl, ap, sym, ◌∙◌, arith, length, map, append-nil}
use Rattle.prem_plant.specs.declared.plant.Plant.{Plant}
use Rattle.prem_layout.specs.Bounds.{JobBound}
use Rattle.prem_layout.specs.Facts.{interval_facts, job_fact}
use Rattle.prem_layout.specs.Placed.{Placed}
use Rattle.prem_place.specs.Verdict.Told.{BoundsTold, bounds_of, with_task, told_from}
use Rattle.prem_place.specs.declared.verdict.told.TaskBounds.{TaskBounds}
use Rattle.prem_tasks.specs.Compiled.{TaskFact, facts_from, job_bounds}

-- the facts of all
abbrev pub flat : List BoundsTold → List TaskFact
flat [] = []
flat (b ∷ bs) = b.facts ++ flat bs

abbrev pub jobs_of : List BoundsTold → List ℕ
jobs_of bs = map (λ (b : BoundsTold). b.job) bs

facts_told : (p : Plant) (n : ℕ) (placed : List Placed) → flat (told_from p n placed) ≡ facts_from p n placed
facts_told p n [] = refl
facts_told p n (t ∷ ts) = ap (λ (fs : List TaskFact). map (with_task n) (interval_facts p t) ++ fs) (facts_told p (n + 1) ts)

jobs_told : (p : Plant) (n : ℕ) (placed : List Placed) → jobs_of (told_from p n placed) ≡ map (λ (j : JobBound). j.bound) (job_bounds p placed)
jobs_told p n [] = refl
jobs_told p n (t ∷ ts) = ap (λ (js : List ℕ). (job_fact p t).bound ∷ js) (jobs_told p (n + 1) ts)

pub facts_are : (p : Plant) (placed : List Placed) (bs : List BoundsTold) (facts : List TaskFact) → bs ≡ told_from p 0 placed → facts ≡ flat bs → facts ≡ facts_from p 0 placed
facts_are p placed bs facts e is = is ∙ ap flat e ∙ facts_told p 0 placed

pub jobs_are : (p : Plant) (placed : List Placed) (bs : List BoundsTold) (jobs : List ℕ) → bs ≡ told_from p 0 placed → jobs ≡ jobs_of bs → jobs ≡ map (λ (j : JobBound). j.bound) (job_bounds p placed)
jobs_are p placed bs jobs e is = is ∙ ap jobs_of e ∙ jobs_told p 0 placed

-- ---- where nothing is left

pub facts_end : (facts whole : List TaskFact) (left : List TaskBounds) → length left ≡ 0 → facts ++ flat (map bounds_of left) ≡ whole → facts ≡ whole
facts_end facts whole [] none e = sym (append-nil facts) ∙ e
facts_end facts whole (b ∷ bs) none e = absurd (omega (arith, none))

pub jobs_end : (jobs whole : List ℕ) (left : List TaskBounds) → length left ≡ 0 → jobs ++ jobs_of (map bounds_of left) ≡ whole → jobs ≡ whole
jobs_end jobs whole [] none e = sym (append-nil jobs) ∙ e
jobs_end jobs whole (b ∷ bs) none e = absurd (omega (arith, none))
