-- What the walk does with each kind of step, part by part.
use Rattle.std.specs.Prelude.{ℕ, ◌+◌, ◌*◌, ◌^◌, min, ℤ, Bool, List, [], Option, None, Some}
use Rattle.prem_analysis.specs.Prelude.{turn_bound, loop_end, in_counting, in_while, Environment, Site, in_argument, in_term, in_turns, in_counting_loop, RangeBreach, first_of, Term, Steps}
use Rattle.prem_analysis.specs.Prelude.{Parameter}
use Rattle.prem_analysis.specs.Seen.{Seen, noted, counted}
use Rattle.prem_ranges.specs.RangeOf.{range_of}
use Rattle.prem_syntax.specs.declared.tree.Place.{Place}

-- the product of turn bounds, counted up to one past the greatest that is allowed
abbrev pub capped : ℕ → ℕ → ℕ
capped around turns = min (around * turns) (2 ^ 40 + 1)

-- an expression is looked at
abbrev pub at_term : Site → Environment → Term → Seen → Seen
at_term site env e s = noted (first_of (in_term site env e)) s

-- a counting loop is entered, where its turn bound is known
abbrev pub at_counting : Site → ℕ → Environment → Place → ℕ → Term → Term → ℤ → ℕ → ℕ → Steps → Seen → Seen
at_counting site around env at k low high end step bound body s =
    counted bound (at_term site (in_counting k body env) high (at_term site env low (noted (first_of (in_counting_loop at end step (capped around bound))) s)))

-- a `while` is entered
abbrev pub at_while : Site → ℕ → Environment → Place → ℕ → Term → Steps → Seen → Seen
at_while site around env at most condition body s =
    at_term site (in_while body env) condition (noted (first_of (in_turns at (capped around most))) s)

abbrev pub bound_of : Environment → ℕ → Term → Bool → Term → ℕ → Steps → ℕ
bound_of env k low closed high step body = turn_bound (range_of env low).lo (loop_end env k closed high body) step

-- an argument, and its parameter where there is one
abbrev pub in_given : Place → Environment → Term → Option Parameter → List RangeBreach
in_given at env e None = []
in_given at env e (Some p) = in_argument at env e p
