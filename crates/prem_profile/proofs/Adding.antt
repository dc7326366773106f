-- The lines of a profile add up to its rows.
use Rattle.std.specs.Prelude.{◌==◌, ◌&&◌, codes}
use Rattle.std.proofs.Common.{◌≡◌, ℕ, zero, suc, ◌+◌, List, [], ◌∷◌, ◌++◌, Option, Some, None, Bool, true, false, cond, length, take, drop, refl, ap, ap₂, sym, ◌∙◌, arith}
use Rattle.std.proofs.lemmas.Bool.Decides.{nat_tests}
use Rattle.prem_profile.specs.declared.cost.Cost.{Cost}
use Rattle.prem_profile.specs.declared.callgrind.Source.{Source}
use Rattle.prem_profile.specs.Spent.{no_cost, plus}
use Rattle.prem_profile.specs.Account.{costs_sum}
use Rattle.prem_profile.specs.Strips.{Strip, first_row, strip_words}
use Rattle.prem_profile.specs.Grammar.{Entry, Position}
use Rattle.prem_profile.specs.Callgrind.{CallsAt, first_line, is_nothing, lines_behind, name_text}
use Rattle.prem_profile.specs.Entries.{LinesAddUp, calls_entry, entries_at, entries_sum, entry_at, machine_entries, machine_position, own_cost, row_entries, strip_position, strips_entries, switches_entries}

-- ---- costs

same : (a b : Cost) → a.instructions ≡ b.instructions → a.cycles ≡ b.cycles → a.misses ≡ b.misses → a.backs ≡ b.backs → a ≡ b
same a b instructions cycles misses backs = λ i. record { instructions = instructions i; cycles = cycles i; misses = misses i; backs = backs i }

with_nothing : (a : Cost) → plus a no_cost ≡ a
with_nothing a = same (plus a no_cost) a (omega arith) (omega arith) (omega arith) (omega arith)

behind_nothing : (a : Cost) → plus no_cost a ≡ a
behind_nothing a = same (plus no_cost a) a (omega arith) (omega arith) (omega arith) (omega arith)

grouped : (a b c : Cost) → plus a (plus b c) ≡ plus (plus a b) c
grouped a b c = same (plus a (plus b c)) (plus (plus a b) c) (omega arith) (omega arith) (omega arith) (omega arith)

both : (a b : Bool) → (a && b) ≡ true → (a ≡ true) × (b ≡ true)
both true true e = (refl, refl)
both true false e = absurd cc
both false b e = absurd cc

is_zero : (n : ℕ) → (n == 0) ≡ true → n ≡ 0
is_zero n e = grind (arith, nat_tests)

nothing_is : (c : Cost) → is_nothing c ≡ true → c ≡ no_cost
nothing_is c e =
    let halves = both (c.instructions == 0 && c.cycles == 0) (c.misses == 0 && c.backs == 0) e in
    let first = both (c.instructions == 0) (c.cycles == 0) halves.0 in
    let second = both (c.misses == 0) (c.backs == 0) halves.1 in
    same c no_cost (is_zero c.instructions first.0) (is_zero c.cycles first.1) (is_zero c.misses second.0) (is_zero c.backs second.1)

-- ---- entries

sum_append : (xs ys : List Entry) → entries_sum (xs ++ ys) ≡ plus (entries_sum xs) (entries_sum ys)
sum_append [] ys = sym (behind_nothing (entries_sum ys))
sum_append (x ∷ xs) ys = ap (plus (own_cost x.callee x.cost)) (sum_append xs ys) ∙ grouped (own_cost x.callee x.cost) (entries_sum xs) (entries_sum ys)

entry_sum : (at : Position) (line : ℕ) (c : Cost) → entries_sum (entry_at at line c) ≡ c
entry_sum at line c = by (is_nothing c) refl
  where
    by : (b : Bool) → is_nothing c ≡ b → entries_sum (cond b [] (record { callee = None; position = at; line = line; cost = c } ∷ [])) ≡ c
    by true e = sym (nothing_is c e)
    by false e = with_nothing c

calls_sum : (at : Position) (line count : ℕ) (o : Option CallsAt) → entries_sum (calls_entry at line count o) ≡ no_cost
calls_sum at line count None = refl
calls_sum at line count (Some k) = with_nothing no_cost

row_sum : (at : Position) (o : Option CallsAt) (line : ℕ) (c : Cost) → entries_sum (row_entries at o line c) ≡ c
row_sum at o line c =
    sum_append (entry_at at line c) (calls_entry at line c.instructions o) ∙ ap₂ plus (entry_sum at line c) (calls_sum at line c.instructions o) ∙ with_nothing c

lines_sum : (at : Position) (each : ℕ → Option CallsAt) (row : ℕ) (lines : List ℕ) (costs : List Cost) → entries_sum (entries_at at each row lines costs) ≡ costs_sum costs
lines_sum at each row lines [] = refl
lines_sum at each row lines (c ∷ costs) =
    sum_append (row_entries at (each row) (first_line lines) c) (entries_at at each (row + 1) (lines_behind lines) costs)
    ∙ ap₂ plus (row_sum at (each row) (first_line lines) c) (lines_sum at each (row + 1) (lines_behind lines) costs)

-- ---- rows

front_and_rest : (n : ℕ) (costs : List Cost) → plus (costs_sum (take n costs)) (costs_sum (drop n costs)) ≡ costs_sum costs
front_and_rest zero costs = behind_nothing (costs_sum costs)
front_and_rest (suc n) [] = behind_nothing no_cost
front_and_rest (suc n) (c ∷ costs) = sym (grouped c (costs_sum (take n costs)) (costs_sum (drop n costs))) ∙ ap (plus c) (front_and_rest n costs)

rest_length : (n m : ℕ) (costs : List Cost) → length costs ≡ n + m → length (drop n costs) ≡ m
rest_length zero m costs e = omega (arith, e)
rest_length (suc n) m [] e = absurd (omega (arith, e))
rest_length (suc n) m (c ∷ costs) e = rest_length n m costs (omega (arith, e))

strips_sum : (sources : List Source) (each : ℕ → Option CallsAt) (row : ℕ) (ss : List Strip) (costs : List Cost) → length costs ≡ strip_words ss →
    entries_sum (strips_entries sources each row ss costs) ≡ costs_sum costs
strips_sum sources each row [] [] e = refl
strips_sum sources each row [] (c ∷ costs) e = absurd (omega (arith, e))
strips_sum sources each row (s ∷ ss) costs e =
    sum_append (entries_at (strip_position sources s) each row s.lines (take s.count costs)) (strips_entries sources each (row + s.count) ss (drop s.count costs))
    ∙ ap₂ plus (lines_sum (strip_position sources s) each row s.lines (take s.count costs))
    (strips_sum sources each (row + s.count) ss (drop s.count costs) (rest_length s.count (strip_words ss) costs e))
    ∙ front_and_rest s.count costs

switches_sum : (ss : List Source) (costs : List Cost) → entries_sum (switches_entries ss costs) ≡ costs_sum (take (length ss) costs)
switches_sum [] costs = refl
switches_sum (s ∷ ss) [] = refl
switches_sum (s ∷ ss) (c ∷ costs) =
    let at = machine_position (codes "[switch] " ++ name_text s.name) in
    sum_append (entry_at at 0 c) (switches_entries ss costs) ∙ ap₂ plus (entry_sum at 0 c) (switches_sum ss costs)

in_order : (a b c d : Cost) → plus (plus b (plus a c)) d ≡ plus a (plus b (plus c d))
in_order a b c d = same (plus (plus b (plus a c)) d) (plus a (plus b (plus c d))) (omega arith) (omega arith) (omega arith) (omega arith)

pub lines_add_up : LinesAddUp
lines_add_up sources strips [] each e = absurd (omega (arith, e))
lines_add_up sources strips (a ∷ []) each e = absurd (omega (arith, e))
lines_add_up sources strips (a ∷ b ∷ costs) each e =
    let n = length sources in
    let first = first_row n in
    let idle = machine_position (codes "[idle]") in
    let elsewhere = machine_position (codes "[elsewhere]") in
    let long : length costs ≡ n + strip_words strips = omega (arith, e) in
    let machine : entries_sum (machine_entries sources (a ∷ b ∷ costs)) ≡ plus b (plus a (costs_sum (take n costs))) =
    sum_append (entry_at idle 0 b) (entry_at elsewhere 0 a ++ switches_entries sources costs)
    ∙ ap₂ plus (entry_sum idle 0 b) (sum_append (entry_at elsewhere 0 a) (switches_entries sources costs) ∙ ap₂ plus (entry_sum elsewhere 0 a) (switches_sum sources costs)) in
    let functions : entries_sum (strips_entries sources each first strips (drop n costs)) ≡ costs_sum (drop n costs) =
    strips_sum sources each first strips (drop n costs) (rest_length n (strip_words strips) costs long) in
    sum_append (machine_entries sources (a ∷ b ∷ costs)) (strips_entries sources each first strips (drop n costs)) ∙ ap₂ plus machine functions
    ∙ in_order a b (costs_sum (take n costs)) (costs_sum (drop n costs)) ∙ ap (λ c. plus a (plus b c)) (front_and_rest n costs)
