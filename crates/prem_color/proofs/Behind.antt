-- The lines of ranges from a line on, run by run.
use Rattle.std.specs.Prelude.{filter}
use Rattle.std.specs.Option.{option_and_then}
use Rattle.std.proofs.Common.{◌≡◌, ℕ, suc, ◌+◌, ◌-◌, ◌%◌, ◌<◌, ◌≤◌, Bool, false, cond, List, [], ◌∷◌, ◌++◌, Option, None, Some, refl, ap, ◌∙◌, arith, slice_index, slice_set}
use Rattle.std.proofs.lemmas.Bool.{lt-ltb, le-ltb}
use Rattle.std.proofs.lemmas.List.Elements.{filter-append}
use Rattle.prem_plant.specs.Places.{Extent}
use Rattle.prem_layout.specs.Footprint.{is_touched, last_line_end, numbers_from}
use Rattle.prem_layout.proofs.Lines.{numbers_split, filter_none, filter_all}
use Rattle.prem_foot.specs.Runs.{Run}
use Rattle.prem_foot.proofs.RunLaws.{Found, run_within}
use Rattle.prem_color.specs.Rooms.{with_line, with_lines, lines_behind}

-- lines behind others
lines_then : (sets «ways» : ℕ) (ns ms counts : List ℕ) → with_lines sets «ways» (ns ++ ms) counts ≡ option_and_then (λ next. with_lines sets «ways» ms next) (with_lines sets «ways» ns counts)
lines_then sets «ways» [] ms counts = refl
lines_then sets «ways» (n ∷ ns) ms counts = by (with_line sets «ways» n counts) (λ next. lines_then sets «ways» ns ms next)
  where
    by : (o : Option (List ℕ)) → ((next : List ℕ) → with_lines sets «ways» (ns ++ ms) next ≡ option_and_then (λ more. with_lines sets «ways» ms more) (with_lines sets «ways» ns next)) →
        option_and_then (λ next. with_lines sets «ways» (ns ++ ms) next) o ≡ option_and_then (λ next. with_lines sets «ways» ms next) (option_and_then (λ next. with_lines sets «ways» ns next) o)
    by None h = refl
    by (Some next) h = h next

-- ---- one line more of a run

cut : (n end : ℕ) → n < end → numbers_from n (end - n) ≡ n ∷ numbers_from (n + 1) (end - (n + 1))
cut n end lt = let e : end - n ≡ suc (end - (n + 1)) = omega (arith, lt) in ap (numbers_from n) e

pub line_full : (sets «ways» n end : ℕ) (counts : List ℕ) → n < end → «ways» ≤ slice_index counts (n % sets) → with_lines sets «ways» (numbers_from n (end - n)) counts ≡ None
line_full sets «ways» n end counts lt le =
    ap (λ ns. with_lines sets «ways» ns counts) (cut n end lt)
    ∙ ap (λ b. option_and_then (λ next. with_lines sets «ways» (numbers_from (n + 1) (end - (n + 1))) next)
    (cond b (Some (slice_set counts (n % sets) (slice_index counts (n % sets) + 1))) None)) (le-ltb (slice_index counts (n % sets)) «ways» le)

pub line_room : (sets «ways» n end : ℕ) (counts : List ℕ) → n < end → slice_index counts (n % sets) < «ways» →
    with_lines sets «ways» (numbers_from n (end - n)) counts ≡ with_lines sets «ways» (numbers_from (n + 1) (end - (n + 1))) (slice_set counts (n % sets) (slice_index counts (n % sets) + 1))
line_room sets «ways» n end counts lt less =
    ap (λ ns. with_lines sets «ways» ns counts) (cut n end lt)
    ∙ ap (λ b. option_and_then (λ next. with_lines sets «ways» (numbers_from (n + 1) (end - (n + 1))) next)
    (cond b (Some (slice_set counts (n % sets) (slice_index counts (n % sets) + 1))) None)) (lt-ltb (slice_index counts (n % sets)) «ways» less)

-- the next run, and the lines behind it
pub behind_run : (line : ℕ) (ranges : List Extent) (at : ℕ) (run : Run) → Found at (is_touched line ranges) run →
    lines_behind line ranges at ≡ numbers_from run.0 (run.1 - run.0) ++ lines_behind line ranges run.1
behind_run line ranges at run f =
    let p : ℕ → Bool = is_touched line ranges in
    let end : ℕ = last_line_end line ranges in
    let top : run.1 ≤ end = run_within line ranges at run f in
    let low : at ≤ run.0 = f.from in
    let lt : run.0 < run.1 = f.some in
    let gap : ℕ = run.0 - at in
    let size : ℕ = run.1 - run.0 in
    let rest : ℕ = end - run.1 in
    let e : end - at ≡ gap + (size + rest) = omega (arith, top, low, lt) in
    let e1 : at + gap ≡ run.0 = omega (arith, low) in
    let e2 : run.0 + size ≡ run.1 = omega (arith, lt) in
    let split : numbers_from at (end - at) ≡ numbers_from at gap ++ (numbers_from run.0 size ++ numbers_from run.1 rest) =
    ap (numbers_from at) e ∙ numbers_split at gap (size + rest) ∙ ap (λ k. numbers_from at gap ++ numbers_from k (size + rest)) e1
    ∙ ap (λ ns. numbers_from at gap ++ ns) (numbers_split run.0 size rest ∙ ap (λ k. numbers_from run.0 size ++ numbers_from k rest) e2) in
    let none : filter p (numbers_from at gap) ≡ [] = filter_none p at gap (λ k h j. f.before k h (omega (arith, j, e1))) in
    let all : filter p (numbers_from run.0 size) ≡ numbers_from run.0 size = filter_all p run.0 size (λ k h j. f.within k h (omega (arith, j, e2))) in
    ap (filter p) split ∙ filter-append p (numbers_from at gap) (numbers_from run.0 size ++ numbers_from run.1 rest)
    ∙ ap (λ ns. ns ++ filter p (numbers_from run.0 size ++ numbers_from run.1 rest)) none
    ∙ filter-append p (numbers_from run.0 size) (numbers_from run.1 rest)
    ∙ ap (λ ns. ns ++ filter p (numbers_from run.1 rest)) all

-- no line is left
pub behind_none : (line : ℕ) (ranges : List Extent) (at : ℕ) → ((n : ℕ) → at ≤ n → is_touched line ranges n ≡ false) → lines_behind line ranges at ≡ []
behind_none line ranges at h = filter_none (is_touched line ranges) at (last_line_end line ranges - at) (λ k low high. h k low)

-- ---- the steps of the code

pub runs_full : (line sets «ways» : ℕ) (ranges : List Extent) (at : ℕ) (run : Run) (counts : List ℕ) → Found at (is_touched line ranges) run →
    with_lines sets «ways» (numbers_from run.0 (run.1 - run.0)) counts ≡ None →
    with_lines sets «ways» (lines_behind line ranges at) counts ≡ None
runs_full line sets «ways» ranges at run counts f none =
    ap (λ ns. with_lines sets «ways» ns counts) (behind_run line ranges at run f)
    ∙ lines_then sets «ways» (numbers_from run.0 (run.1 - run.0)) (lines_behind line ranges run.1) counts
    ∙ ap (λ o. option_and_then (λ next. with_lines sets «ways» (lines_behind line ranges run.1) next) o) none

pub runs_go : (line sets «ways» : ℕ) (ranges : List Extent) (at : ℕ) (run : Run) (counts next : List ℕ) → Found at (is_touched line ranges) run →
    with_lines sets «ways» (numbers_from run.0 (run.1 - run.0)) counts ≡ Some next →
    with_lines sets «ways» (lines_behind line ranges at) counts ≡ with_lines sets «ways» (lines_behind line ranges run.1) next
runs_go line sets «ways» ranges at run counts next f some =
    ap (λ ns. with_lines sets «ways» ns counts) (behind_run line ranges at run f)
    ∙ lines_then sets «ways» (numbers_from run.0 (run.1 - run.0)) (lines_behind line ranges run.1) counts
    ∙ ap (λ o. option_and_then (λ more. with_lines sets «ways» (lines_behind line ranges run.1) more) o) some

pub runs_done : (line sets «ways» : ℕ) (ranges : List Extent) (at : ℕ) (counts : List ℕ) → ((n : ℕ) → at ≤ n → is_touched line ranges n ≡ false) →
    with_lines sets «ways» (lines_behind line ranges at) counts ≡ Some counts
runs_done line sets «ways» ranges at counts h = ap (λ ns. with_lines sets «ways» ns counts) (behind_none line ranges at h)
