-- What the paths of code count at most: in all, and in the four sums between marked calls.
use Rattle.std.specs.Prelude.{◌≤◌, ℕ, ◌+◌, ◌*◌, max, List}
use Rattle.prem_wcet_laws.specs.Prelude.{marked_weights, Plan, Sums, no_sums, taking, among, chained, turned, marked_sums, IsWithin, Plant}

pub record PathCount : Type 0 where
  pub total : ℕ
  pub sums : Sums

-- of no path
abbrev pub no_count : PathCount
no_count = record { total = 0; sums = no_sums }

-- without marked calls
abbrev pub quiet : ℕ → PathCount
quiet n = record { total = n; sums = taking n }

-- one path behind the other, and one or the other
abbrev pub then_count : PathCount → PathCount → PathCount
then_count a b = record { total = a.total + b.total; sums = chained a.sums b.sums }

abbrev pub either_count : PathCount → PathCount → PathCount
either_count a b = record { total = max a.total b.total; sums = among a.sums b.sums }

-- so many turns at most, and then out
abbrev pub turned_count : ℕ → (turn out : PathCount) → PathCount
turned_count turns turn out = record { total = turns * turn.total + out.total; sums = turned turns turn.sums out.sums }

-- a marked call behind its jump, as by the rule
abbrev pub marked_count : Plant → List Plan → ℕ → PathCount
marked_count p plans k = record { total = marked_weights p plans k; sums = marked_sums p plans k }

pub record IsNoMore (a b : PathCount) : Type 0 where
  pub total : a.total ≤ b.total
  pub sums : IsWithin a.sums b.sums
