-- Totals over tasks, which are told up to a limit.
use Rattle.std.proofs.Common.{◌≡◌, ℕ, ◌+◌, ◌*◌, ◌<◌, ◌≤◌, ◌^◌, List, ap, sym, ◌∙◌, arith, length, map, drop, get_or}
use Rattle.std.proofs.lemmas.List.{at_drop_more, at_drop_all}
use Rattle.prem_syntax.specs.Resolved.{Resolved}
use Rattle.prem_layout.specs.Counts.{marked_calls_of, intervals_of}
use Rattle.prem_layout.specs.Rules.{total_of}
use Rattle.prem_bounds.specs.Counts.Count.{clipped}
use Rattle.prem_bounds.proofs.CountsLemmas.Below.{clipped_product}
use Rattle.prem_place.specs.Placed.PlacedOf.{coded_of}
use Rattle.prem_place.specs.declared.placed.PlacedTask.{PlacedTask}

sum_of : (sum one whole rest left : ℕ) → sum ≡ clipped (whole + one) → one ≡ clipped rest → clipped (sum + left) ≡ clipped (whole + (rest + left))
sum_of sum one whole rest left e f = omega (arith, e, f)

-- one more task
pub total_turn : (count : Resolved → ℕ) (tasks : List PlacedTask) (i : ℕ) (t : PlacedTask) (sum new found product : ℕ) (whole : ℕ) →
    i < length tasks → t ≡ get_or tasks i t → found ≡ clipped (count (coded_of t).program) →
    product ≡ clipped (t.jobs * found) → new ≡ clipped (sum + product) → clipped (sum + total_of count (map coded_of (drop i tasks))) ≡ whole →
    clipped (new + total_of count (map coded_of (drop (i + 1) tasks))) ≡ whole
total_turn count tasks i t sum new found product whole lt is ef ep en e =
    let left : ℕ = total_of count (map coded_of (drop (i + 1) tasks)) in
    let split : total_of count (map coded_of (drop i tasks)) ≡ t.jobs * count (coded_of t).program + left =
    at_drop_more (λ (ts : List PlacedTask). total_of count (map coded_of ts)) tasks i t lt ∙ ap (λ (q : PlacedTask). q.jobs * count (coded_of q).program + left) (sym is) in
    sum_of new product sum (t.jobs * count (coded_of t).program) left en (ep ∙ clipped_product t.jobs found (count (coded_of t).program) ef)
    ∙ ap (λ k. clipped (sum + k)) (sym split) ∙ e

-- the intervals of a job from its marked calls
pub intervals_are : (p : Resolved) (calls twice count : ℕ) → calls ≡ clipped (marked_calls_of p) → twice ≡ clipped (2 * calls) → count ≡ clipped (1 + twice) → count ≡ clipped (intervals_of p)
intervals_are p calls twice count ec et e = by (marked_calls_of p) ec
  where
    by : (m : ℕ) → calls ≡ clipped m → count ≡ clipped (1 + 2 * m)
    by m ec = omega (arith, ec, et, e)

pub total_end : (count : Resolved → ℕ) (tasks : List PlacedTask) (i sum whole : ℕ) → length tasks ≤ i → sum ≤ 2 ^ 32 →
    clipped (sum + total_of count (map coded_of (drop i tasks))) ≡ clipped whole → sum ≡ clipped whole
total_end count tasks i sum whole le small e =
    let none : total_of count (map coded_of (drop i tasks)) ≡ 0 = at_drop_all (λ (ts : List PlacedTask). total_of count (map coded_of ts)) tasks i le in
    omega (arith, none, small, e)

pub clipped_small : (n m : ℕ) → n ≡ clipped m → n ≤ 2 ^ 32
clipped_small n m e = omega (arith, e)
