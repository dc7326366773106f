-- Four sums that tell the greatest stretches of paths, and how they go together.
use Rattle.std.specs.Prelude.{ℕ, zero, suc, ◌+◌, ◌-◌, ◌*◌, ◌≤◌, nat_lt, max, if◌then◌else◌, List, [], ◌∷◌, ◌++◌, length, slice_index_or, Option, Some, None, pos}
use Rattle.prem_layout.specs.Prelude.{Pieces, no_pieces, straight, address_of, either, repeat, call_to, weight, jump_weight, address_weight, skip_words, branch_of, Instr, Jalr, PmMem, Plant}
use Rattle.prem_layout.specs.Bounds.{CodeTable, start_code, job_weight}
use Rattle.prem_layout.specs.Plans.{Plan}
use Rattle.prem_layout.specs.Stretch.Paths.{Event, Takes, Cuts, Path}

-- ---- sums that may not be there

-- the greater one
abbrev pub most : Option ℕ → Option ℕ → Option ℕ
most None b = b
most (Some a) None = Some a
most (Some a) (Some b) = Some (max a b)

-- both together
abbrev pub both : Option ℕ → Option ℕ → Option ℕ
both None b = None
both (Some a) None = None
both (Some a) (Some b) = Some (a + b)

abbrev pub or_none : Option ℕ → ℕ
or_none None = 0
or_none (Some a) = a

-- ---- four sums

-- of some paths: the greatest sum of a path that isn't cut; of those that are, the greatest sum before the first cut, between two
-- cuts one after the other, and behind the last cut
pub record Sums : Type 0 where
  pub whole : Option ℕ
  pub before : Option ℕ
  pub between : Option ℕ
  pub behind : Option ℕ

abbrev pub taking : ℕ → Sums
taking cycles = record { whole = Some cycles; before = None; between = None; behind = None }

abbrev pub cut : Sums
cut = record { whole = None; before = Some 0; between = None; behind = Some 0 }

-- of no path
abbrev pub no_sums : Sums
no_sums = record { whole = None; before = None; between = None; behind = None }

-- one path or the other
abbrev pub among : Sums → Sums → Sums
among a b =
    record { whole = most a.whole b.whole; before = most a.before b.before; between = most a.between b.between; behind = most a.behind b.behind }

-- one path behind the other
abbrev pub chained : Sums → Sums → Sums
chained a b =
    record {
      whole = both a.whole b.whole;
      before = most a.before (both a.whole b.before);
      between = most (most a.between b.between) (both a.behind b.before);
      behind = most b.behind (both a.behind b.whole);
    }

-- the greatest stretch
abbrev pub greatest : Sums → ℕ
greatest a = max (max (or_none a.whole) (or_none a.before)) (max (or_none a.between) (or_none a.behind))

-- ---- of paths

abbrev pub sums_of_event : Event → Sums
sums_of_event (Takes cycles) = taking cycles
sums_of_event Cuts = cut

abbrev pub sums_of_path : Path → Sums
sums_of_path [] = taking 0
sums_of_path (e ∷ es) = chained (sums_of_event e) (sums_of_path es)

abbrev pub sums_of_paths : List Path → Sums
sums_of_paths [] = no_sums
sums_of_paths (path ∷ paths) = among (sums_of_path path) (sums_of_paths paths)

-- ---- of pieces

unfoldable pub turned : ℕ → (turn out : Sums) → Sums
turned zero turn out = out
turned (suc turns) turn out = among (chained turn (turned turns turn out)) out

-- with those of each called part
abbrev pub summed : (w : Instr → ℕ) (calls : ℕ → Sums) → Pieces → Sums
summed w calls no_pieces = taking 0
summed w calls (straight code rest) = chained (taking (weight w code)) (summed w calls rest)
summed w calls (address_of rd part more rest) = chained (taking (address_weight w)) (summed w calls rest)
summed w calls (either test taken other rest) =
    chained (taking (w (branch_of test)))
    (chained (among (chained (summed w calls taken) (taking (skip_words other * jump_weight w))) (chained (taking (jump_weight w)) (summed w calls other)))
    (summed w calls rest))
summed w calls (repeat turns head test body rest) =
    chained
    (turned turns
    (chained (summed w calls head) (chained (taking (w (branch_of test))) (chained (summed w calls body) (taking (jump_weight w)))))
    (chained (summed w calls head) (taking (w (branch_of test) + jump_weight w))))
    (summed w calls rest)
summed w calls (call_to link part rest) = chained (taking (jump_weight w)) (chained (calls part) (summed w calls rest))

-- ---- of a task

abbrev pub part_sums : (functions : ℕ) (code stubs : ℕ → Sums) → ℕ → Sums
part_sums functions code stubs zero = taking 0
part_sums functions code stubs (suc n) = if nat_lt n functions then code n else stubs (n - functions)

abbrev pub sums_at : List Sums → ℕ → Sums
sums_at known n = slice_index_or known n (taking 0)

abbrev pub sums_behind : (w : Instr → ℕ) (functions : ℕ) (stubs : ℕ → Sums) → List Sums → List Pieces → List Sums
sums_behind w functions stubs known [] = known
sums_behind w functions stubs known (ps ∷ rest) =
    sums_behind w functions stubs (known ++ summed w (part_sums functions (sums_at known) stubs) ps ∷ []) rest

abbrev pub marked_sums_of : Plant → Sums
marked_sums_of p = chained (taking (job_weight p PmMem)) (chained cut (chained (taking (job_weight p (Jalr 0 4 (pos 0)))) (taking 0)))

abbrev pub marked_sums : Plant → List Plan → ℕ → Sums
marked_sums p [] k = taking 0
marked_sums p (plan ∷ plans) zero = marked_sums_of p
marked_sums p (plan ∷ plans) (suc k) = marked_sums p plans k

abbrev pub job_sums : Plant → List Plan → CodeTable → List Sums
job_sums p plans t = sums_behind (job_weight p) (length t.code) (marked_sums p plans) [] t.code

abbrev pub task_sums : Plant → List Plan → CodeTable → Sums
task_sums p plans t = summed (job_weight p) (part_sums (length t.code) (sums_at (job_sums p plans t)) (marked_sums p plans)) (start_code t.job)

-- ---- bounds

-- no greater, where there is one
abbrev pub IsLess : Option ℕ → Option ℕ → Type 0
IsLess None b = Unit {0}
IsLess (Some a) None = ⊥
IsLess (Some a) (Some b) = a ≤ b

pub record IsWithin (a b : Sums) : Type 0 where
  pub whole : IsLess a.whole b.whole
  pub before : IsLess a.before b.before
  pub between : IsLess a.between b.between
  pub behind : IsLess a.behind b.behind
