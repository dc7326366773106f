-- Outlines count with their marked calls what their statements count.
use Rattle.std.proofs.Common.{◌≡◌, ℕ, ◌+◌, min, Bool, true, false, Option, Some, None, List, [], ◌∷◌, ◌++◌, length, refl, ap, sym, ◌∙◌}
use Rattle.std.specs.List.{list_any}
use Rattle.prem_syntax.specs.Resolved.{Term, Steps, Done, SetLocal, SetScalar, SetElement, Output, Input, If, For, While, Call}
use Rattle.prem_asm.specs.Pieces.{no_pieces, followed, size_of, skip_words}
use Rattle.prem_layout.specs.Footprint.{lines_of}
use Rattle.prem_layout.specs.Template.Frames.{counters_in}
use Rattle.prem_layout.specs.Template.Terms.{only, nonzero}
use Rattle.prem_layout.specs.Template.Steps.{bound_test, steps_code, step_code, count_code, argument_code, target_code}
use Rattle.prem_layout.specs.Stretch.Sums.{Sums, taking, chained, both, most}
use Rattle.prem_wcet_laws.specs.Counts.{PathCount, quiet, then_count}
use Rattle.prem_wcet_laws.specs.Scopes.{Scene, code_ranges, data_ranges, charge_with, globals_in_term, globals_in_terms}
use Rattle.prem_wcet_laws.specs.Least.{own, own_jump, term_of, bound_code, first_code, counter_code, turn_of, taken_place, other_place, body_place, behind}
use Rattle.prem_wcet_laws.specs.Parted.{Edge, no_edge, cuts, has_cut, by_cut, front, next_edge, passing, argument_ranges, bottom_of, passage_span, passage, opened, Begun, counted}
use Rattle.prem_wcet_laws.specs.Parted.{begins, called_parted, choice_count, turn_count, landing, landing_place, parted}
use Rattle.prem_wcet.specs.Outlines.{Outline, ended, plain, calling, choice, turning, cut_in, front_in, edge_in, below_in, passing_in, between, passage_in, choice_parted}
use Rattle.prem_wcet.specs.Outlines.{call_parted, inner_place, second_place, closed_in, parted_in}
use Rattle.prem_wcet.specs.Outlined.{outline_of, OutlinesCount}
use Rattle.prem_wcet.proofs.OutlineCode.{code_is, names_are, callees_are}
use Rattle.prem_wcet.proofs.OutlineLeast.{apart_is, least_is, plus_none, none_plus, second_is}

-- ---- nothing before others, or behind them

both_left : (a : Option ℕ) → both (Some 0) a ≡ a
both_left None = refl
both_left (Some n) = ap (λ k. Some k) (none_plus n)

both_right : (a : Option ℕ) → both a (Some 0) ≡ a
both_right None = refl
both_right (Some n) = ap (λ k. Some k) (plus_none n)

both_none : (a : Option ℕ) → both a None ≡ None
both_none None = refl
both_none (Some n) = refl

most_none : (a : Option ℕ) → most a None ≡ a
most_none None = refl
most_none (Some n) = refl

sums_left : (a : Sums) → chained (taking 0) a ≡ a
sums_left a = λ i. record { whole = both_left a.whole i; before = both_left a.before i; between = most_none a.between i; behind = most_none a.behind i }

sums_right : (a : Sums) → chained a (taking 0) ≡ a
sums_right a = λ i. record {
  whole = both_right a.whole i;
  before = (ap (most a.before) (both_none a.whole) ∙ most_none a.before) i;
  between = (ap (most (most a.between None)) (both_none a.behind) ∙ most_none (most a.between None) ∙ most_none a.between) i;
  behind = both_right a.behind i;
}

pub then_left : (a : PathCount) → then_count (quiet 0) a ≡ a
then_left a = λ i. record { total = none_plus a.total i; sums = sums_left a.sums i }

pub then_right : (a : PathCount) → then_count a (quiet 0) ≡ a
then_right a = λ i. record { total = plus_none a.total i; sums = sums_right a.sums i }

-- ---- what stands before the first marked call

cut_is : (e : Scene) (n : ℕ) (steps : Steps) → cut_in e (outline_of e n steps) ≡ has_cut e steps
cut_is e n steps = ap (list_any (cuts e)) (callees_are e n steps)

by_cut_over : {A B : Type 0} (f : A → B) (b : Bool) (x y : A) → f (by_cut b x y) ≡ by_cut b (f x) (f y)
by_cut_over f true x y = refl
by_cut_over f false x y = refl

front_is : (e : Scene) (n : ℕ) (steps : Steps) → front_in e (outline_of e n steps) ≡ outline_of e n (front e steps)
front_is e n Done = refl
front_is e n (SetLocal pl k value rest) = ap (plain (steps_code e.parts n (SetLocal pl k value Done)) (globals_in_term value)) (front_is e n rest)
front_is e n (SetScalar pl g ty value rest) = ap (plain (steps_code e.parts n (SetScalar pl g ty value Done)) (g ∷ globals_in_term value)) (front_is e n rest)
front_is e n (SetElement pl g ty index value rest) = ap (plain (steps_code e.parts n (SetElement pl g ty index value Done)) (g ∷ (globals_in_term index ++ globals_in_term value))) (front_is e n rest)
front_is e n (Output pl value rest) = ap (plain (steps_code e.parts n (Output pl value Done)) (globals_in_term value)) (front_is e n rest)
front_is e n (Input pl k rest) = ap (plain (steps_code e.parts n (Input pl k Done)) []) (front_is e n rest)
front_is e n (If pl condition taken other rest) =
    let s : Steps = If pl condition taken other Done in
    let m : ℕ = n + counters_in taken in
    let put : Outline → Outline =
    choice (steps_code e.parts n s) (globals_in_term condition) (term_of e 10 condition) (skip_words (steps_code e.parts m other)) (outline_of e n taken) (outline_of e m other) in
    (λ i. by_cut (cut_is e n s i) ended (put (front_is e (m + counters_in other) rest i))) ∙ sym (by_cut_over (outline_of e n) (has_cut e s) Done (If pl condition taken other (front e rest)))
front_is e n (For pl k low closed high step turns body rest) =
    let s : Steps = For pl k low closed high step turns body Done in
    let put : Outline → Outline =
    turning (steps_code e.parts n s) (globals_in_term low ++ globals_in_term high) (first_code e k low) turns (bound_code e k high) no_pieces (outline_of e n body) (only (step_code k step)) in
    (λ i. by_cut (cut_is e n s i) ended (put (front_is e (n + counters_in body) rest i)))
    ∙ sym (by_cut_over (outline_of e n) (has_cut e s) Done (For pl k low closed high step turns body (front e rest)))
front_is e n (While pl turns condition body rest) =
    let s : Steps = While pl turns condition body Done in
    let put : Outline → Outline =
    turning (steps_code e.parts n s) (globals_in_term condition) (counter_code n turns) turns (turn_of e n condition) (only (count_code n)) (outline_of e (n + 1) body) no_pieces in
    (λ i. by_cut (cut_is e n s i) ended (put (front_is e (n + 1 + counters_in body) rest i))) ∙ sym (by_cut_over (outline_of e n) (has_cut e s) Done (While pl turns condition body (front e rest)))
front_is e n (Call pl target f arguments rest) =
    let s : Steps = Call pl target f arguments Done in
    let put : Outline → Outline =
    calling (steps_code e.parts n s) (globals_in_terms arguments) (argument_code e.parts.target e.parts.global (e.parts.frame f) 0 arguments) (length arguments) f (target_code target no_pieces) in
    (λ i. by_cut (cut_is e n s i) ended (put (front_is e n rest i))) ∙ sym (by_cut_over (outline_of e n) (has_cut e s) Done (Call pl target f arguments (front e rest)))

below_is : (bottom frame : ℕ) (arguments : List Term) → below_in bottom frame (length arguments) ≡ argument_ranges bottom frame arguments
below_is bottom frame [] = refl
below_is bottom frame (x ∷ xs) = refl

passing_is : (e : Scene) (f : ℕ) (arguments : List Term) → passing_in e (passing e f arguments).globals (passing e f arguments).pieces (length arguments) f ≡ passing e f arguments
passing_is e f arguments = λ i. record { pieces = (passing e f arguments).pieces; globals = (passing e f arguments).globals; below = below_is (bottom_of e.stack) (e.parts.frame f) arguments i }

edge_is : (e : Scene) (last : Edge) (n : ℕ) (steps : Steps) → edge_in e last (outline_of e n steps) ≡ next_edge e last steps
edge_is e last n Done = refl
edge_is e last n (SetLocal pl k value rest) = edge_is e last n rest
edge_is e last n (SetScalar pl g ty value rest) = edge_is e last n rest
edge_is e last n (SetElement pl g ty index value rest) = edge_is e last n rest
edge_is e last n (Output pl value rest) = edge_is e last n rest
edge_is e last n (Input pl k rest) = edge_is e last n rest
edge_is e last n (If pl condition taken other rest) =
    λ i. by_cut (cut_is e n (If pl condition taken other Done) i) no_edge (edge_is e last (n + counters_in taken + counters_in other) rest i)
edge_is e last n (For pl k low closed high step turns body rest) =
    λ i. by_cut (cut_is e n (For pl k low closed high step turns body Done) i) no_edge (edge_is e last (n + counters_in body) rest i)
edge_is e last n (While pl turns condition body rest) =
    λ i. by_cut (cut_is e n (While pl turns condition body Done) i) no_edge (edge_is e last (n + 1 + counters_in body) rest i)
edge_is e last n (Call pl target f arguments rest) =
    λ i. by_cut (cut_is e n (Call pl target f arguments Done) i) (passing_is e f arguments i) (edge_is e last n rest i)

-- ---- passages

between_is : (e : Scene) (n : ℕ) (before : Edge) (steps : Steps) (last : Edge) → between before (outline_of e n steps) last ≡ passage_span e n before steps last
between_is e n before steps last = λ i. record {
  pieces = followed before.pieces (followed (code_is e n steps i) last.pieces);
  globals = before.globals ++ (names_are e n steps i ++ last.globals);
  callees = callees_are e n steps i;
}

passage_is : (e : Scene) (n at : ℕ) (before : Edge) (steps : Steps) (last : Edge) → passage_in e at before (outline_of e n steps) last ≡ passage e n at before steps last
passage_is e n at before steps last = λ i.
    min
    (charge_with e at (between_is e n before steps last i)
    (lines_of e.plant.line (code_ranges e at (between_is e n before steps last i) ++ (data_ranges e (between_is e n before steps last i) ++ (before.below ++ last.below))))
    (lines_of e.plant.line (data_ranges e (between_is e n before steps last i) ++ (before.below ++ last.below))))
    (own e before.pieces + least_is e n (at + size_of before.pieces) steps i + own e last.pieces)

opening_is : (e : Scene) (last edge : Edge) (n b : ℕ) (steps : Steps) →
    passage_in e b edge (front_in e (outline_of e n steps)) (edge_in e last (outline_of e n steps)) ≡ passage e n b edge (front e steps) (next_edge e last steps)
opening_is e last edge n b steps =
    (λ i. passage_in e b edge (front_is e n steps i) (edge_is e last n steps i)) ∙ passage_is e n b edge (front e steps) (next_edge e last steps)

-- ---- what stands behind the first passage

-- what stands behind the passage that has begun or hasn't
abbrev rest_of : (e : Scene) (last : Edge) (n at : ℕ) → Steps → PathCount
rest_of e last n at Done = quiet 0
rest_of e last n at (SetLocal pl k value rest) =
    parted e counted last n (behind e n at (SetLocal pl k value Done)) rest
rest_of e last n at (SetScalar pl g ty value rest) =
    parted e counted last n (behind e n at (SetScalar pl g ty value Done)) rest
rest_of e last n at (SetElement pl g ty index value rest) =
    parted e counted last n (behind e n at (SetElement pl g ty index value Done)) rest
rest_of e last n at (Output pl value rest) =
    parted e counted last n (behind e n at (Output pl value Done)) rest
rest_of e last n at (Input pl k rest) =
    parted e counted last n (behind e n at (Input pl k Done)) rest
rest_of e last n at (If pl condition taken other rest) =
    by_cut (has_cut e (If pl condition taken other Done))
    (then_count
    (then_count (quiet (own e (term_of e 10 condition)))
    (choice_count e (nonzero 10) (steps_code e.parts (n + counters_in taken) other)
    (parted e (begins (taken_place at (term_of e 10 condition)) no_edge) no_edge n (taken_place at (term_of e 10 condition)) taken)
    (parted e (begins (other_place at (term_of e 10 condition) (steps_code e.parts n taken) (steps_code e.parts (n + counters_in taken) other)) no_edge) no_edge (n + counters_in taken)
    (other_place at (term_of e 10 condition) (steps_code e.parts n taken) (steps_code e.parts (n + counters_in taken) other)) other)))
    (parted e (begins (behind e n at (If pl condition taken other Done)) no_edge) last (n + counters_in taken + counters_in other) (behind e n at (If pl condition taken other Done)) rest))
    (parted e counted last (n + counters_in taken + counters_in other) (behind e n at (If pl condition taken other Done)) rest)
rest_of e last n at (For pl k low closed high step turns body rest) =
    by_cut (has_cut e (For pl k low closed high step turns body Done))
    (then_count
    (then_count (quiet (own e (first_code e k low)))
    (turn_count e turns (bound_test closed) (own e (bound_code e k high))
    (then_count (parted e (begins (body_place at (first_code e k low) (bound_code e k high)) no_edge) no_edge n (body_place at (first_code e k low) (bound_code e k high)) body)
    (quiet (own e (only (step_code k step)))))))
    (parted e (begins (behind e n at (For pl k low closed high step turns body Done)) no_edge) last (n + counters_in body) (behind e n at (For pl k low closed high step turns body Done)) rest))
    (parted e counted last (n + counters_in body) (behind e n at (For pl k low closed high step turns body Done)) rest)
rest_of e last n at (While pl turns condition body rest) =
    by_cut (has_cut e (While pl turns condition body Done))
    (then_count
    (then_count (quiet (own e (counter_code n turns)))
    (turn_count e turns (nonzero 10) (own e (turn_of e n condition))
    (then_count (quiet (own e (only (count_code n))))
    (parted e (begins (body_place at (counter_code n turns) (turn_of e n condition) + 12) no_edge) no_edge (n + 1) (body_place at (counter_code n turns) (turn_of e n condition) + 12) body))))
    (parted e (begins (behind e n at (While pl turns condition body Done)) no_edge) last (n + 1 + counters_in body) (behind e n at (While pl turns condition body Done)) rest))
    (parted e counted last (n + 1 + counters_in body) (behind e n at (While pl turns condition body Done)) rest)
rest_of e last n at (Call pl target f arguments rest) =
    by_cut (has_cut e (Call pl target f arguments Done))
    (then_count (then_count (quiet (own_jump e)) (called_parted e f))
    (parted e (begins (landing_place e at f arguments) (landing target)) last n (behind e n at (Call pl target f arguments Done)) rest))
    (parted e counted last n (behind e n at (Call pl target f arguments Done)) rest)

begun_apart : (e : Scene) (b : Begun) (last : Edge) (n at : ℕ) (steps : Steps) → then_count (quiet (opened e b last n steps)) (parted e counted last n at steps) ≡ parted e b last n at steps
begun_apart e b last n at Done = then_right (quiet (opened e b last n Done))
begun_apart e b last n at (SetLocal pl k value rest) = ap (then_count (quiet (opened e b last n (SetLocal pl k value rest)))) (then_left (rest_of e last n at (SetLocal pl k value rest)))
begun_apart e b last n at (SetScalar pl g ty value rest) = ap (then_count (quiet (opened e b last n (SetScalar pl g ty value rest)))) (then_left (rest_of e last n at (SetScalar pl g ty value rest)))
begun_apart e b last n at (SetElement pl g ty index value rest) =
    ap (then_count (quiet (opened e b last n (SetElement pl g ty index value rest)))) (then_left (rest_of e last n at (SetElement pl g ty index value rest)))
begun_apart e b last n at (Output pl value rest) = ap (then_count (quiet (opened e b last n (Output pl value rest)))) (then_left (rest_of e last n at (Output pl value rest)))
begun_apart e b last n at (Input pl k rest) = ap (then_count (quiet (opened e b last n (Input pl k rest)))) (then_left (rest_of e last n at (Input pl k rest)))
begun_apart e b last n at (If pl condition taken other rest) =
    ap (then_count (quiet (opened e b last n (If pl condition taken other rest)))) (then_left (rest_of e last n at (If pl condition taken other rest)))
begun_apart e b last n at (For pl k low closed high step turns body rest) =
    ap (then_count (quiet (opened e b last n (For pl k low closed high step turns body rest))))
    (then_left (rest_of e last n at (For pl k low closed high step turns body rest)))
begun_apart e b last n at (While pl turns condition body rest) =
    ap (then_count (quiet (opened e b last n (While pl turns condition body rest)))) (then_left (rest_of e last n at (While pl turns condition body rest)))
begun_apart e b last n at (Call pl target f arguments rest) =
    ap (then_count (quiet (opened e b last n (Call pl target f arguments rest)))) (then_left (rest_of e last n at (Call pl target f arguments rest)))

-- a passage that begins at a place, and what is behind it
abbrev begun_in : (e : Scene) (edge last : Edge) (b at : ℕ) → Outline → PathCount
begun_in e edge last b at o = then_count (quiet (passage_in e b edge (front_in e o) (edge_in e last o))) (closed_in e last at o)

begun_from : (e : Scene) (edge last : Edge) (n b at : ℕ) (steps : Steps) → closed_in e last at (outline_of e n steps) ≡ parted e counted last n at steps →
    begun_in e edge last b at (outline_of e n steps) ≡ parted e (begins b edge) last n at steps
begun_from e edge last n b at steps same = (λ i. then_count (quiet (opening_is e last edge n b steps i)) (same i)) ∙ begun_apart e (begins b edge) last n at steps

closed_is : (e : Scene) (last : Edge) (n at : ℕ) (steps : Steps) → closed_in e last at (outline_of e n steps) ≡ parted e counted last n at steps
closed_is e last n at Done = refl
closed_is e last n at (SetLocal pl k value rest) = closed_is e last n (behind e n at (SetLocal pl k value Done)) rest ∙ sym (then_left (rest_of e last n at (SetLocal pl k value rest)))
closed_is e last n at (SetScalar pl g ty value rest) = closed_is e last n (behind e n at (SetScalar pl g ty value Done)) rest ∙ sym (then_left (rest_of e last n at (SetScalar pl g ty value rest)))
closed_is e last n at (SetElement pl g ty index value rest) = closed_is e last n (behind e n at (SetElement pl g ty index value Done)) rest
    ∙ sym (then_left (rest_of e last n at (SetElement pl g ty index value rest)))
closed_is e last n at (Output pl value rest) = closed_is e last n (behind e n at (Output pl value Done)) rest ∙ sym (then_left (rest_of e last n at (Output pl value rest)))
closed_is e last n at (Input pl k rest) = closed_is e last n (behind e n at (Input pl k Done)) rest ∙ sym (then_left (rest_of e last n at (Input pl k rest)))
closed_is e last n at (If pl condition taken other rest) =
    let s : Steps = If pl condition taken other Done in
    let m : ℕ = n + counters_in taken in
    let l : ℕ = m + counters_in other in
    let skips : ℕ = skip_words (steps_code e.parts m other) in
    let there : ℕ = behind e n at s in
    let one : ℕ = taken_place at (term_of e 10 condition) in
    let two : ℕ = second_place at (term_of e 10 condition) (outline_of e n taken) skips in
    let first = begun_from e no_edge no_edge n one one taken (closed_is e no_edge n one taken) in
    let second =
    begun_from e no_edge no_edge m two two other (closed_is e no_edge m two other)
    ∙ ap (λ p. parted e (begins p no_edge) no_edge m p other) (second_is e n at (term_of e 10 condition) skips taken) in
    let left = begun_from e no_edge last l there there rest (closed_is e last l there rest) in
    (λ i. by_cut (cut_is e n s i) (then_count (then_count (quiet (own e (term_of e 10 condition))) (choice_parted e skips (first i) (second i))) (left i)) (closed_is e last l there rest i))
    ∙ sym (then_left (rest_of e last n at (If pl condition taken other rest)))
closed_is e last n at (For pl k low closed high step turns body rest) =
    let s : Steps = For pl k low closed high step turns body Done in
    let m : ℕ = n + counters_in body in
    let there : ℕ = behind e n at s in
    let one : ℕ = inner_place at (first_code e k low) (bound_code e k high) no_pieces in
    let inside =
    begun_from e no_edge no_edge n one one body (closed_is e no_edge n one body)
    ∙ ap (λ p. parted e (begins p no_edge) no_edge n p body) (plus_none (body_place at (first_code e k low) (bound_code e k high))) in
    let turn = then_left (then_count (begun_in e no_edge no_edge one one (outline_of e n body)) (quiet (own e (only (step_code k step)))))
    ∙ ap (λ x. then_count x (quiet (own e (only (step_code k step))))) inside in
    let left = begun_from e no_edge last m there there rest (closed_is e last m there rest) in
    (λ i. by_cut (cut_is e n s i) (then_count
    (then_count (quiet (own e (first_code e k low))) (turn_count e turns (nonzero 10) (own e (bound_code e k high)) (turn i))) (left i))
    (closed_is e last m there rest i))
    ∙ sym (then_left (rest_of e last n at (For pl k low closed high step turns body rest)))
closed_is e last n at (While pl turns condition body rest) =
    let s : Steps = While pl turns condition body Done in
    let m : ℕ = n + 1 + counters_in body in
    let there : ℕ = behind e n at s in
    let one : ℕ = body_place at (counter_code n turns) (turn_of e n condition) + 12 in
    let inside = begun_from e no_edge no_edge (n + 1) one one body (closed_is e no_edge (n + 1) one body) in
    let turn = ap (then_count (quiet (own e (only (count_code n))))) (then_right (begun_in e no_edge no_edge one one (outline_of e (n + 1) body)) ∙ inside) in
    let left = begun_from e no_edge last m there there rest (closed_is e last m there rest) in
    (λ i. by_cut (cut_is e n s i) (then_count
    (then_count (quiet (own e (counter_code n turns))) (turn_count e turns (nonzero 10) (own e (turn_of e n condition)) (turn i))) (left i))
    (closed_is e last m there rest i))
    ∙ sym (then_left (rest_of e last n at (While pl turns condition body rest)))
closed_is e last n at (Call pl target f arguments rest) =
    let s : Steps = Call pl target f arguments Done in
    let there : ℕ = behind e n at s in
    let left = begun_from e (landing target) last n (landing_place e at f arguments) there rest (closed_is e last n there rest) in
    (λ i. by_cut (cut_is e n s i) (then_count (call_parted e f) (left i)) (closed_is e last n there rest i)) ∙ sym (then_left (rest_of e last n at (Call pl target f arguments rest)))

parted_is : (e : Scene) (before last : Edge) (n at : ℕ) (steps : Steps) → parted_in e at before last (outline_of e n steps) ≡ parted e (begins at before) last n (at + size_of before.pieces) steps
parted_is e before last n at steps = begun_from e before last n at (at + size_of before.pieces) steps (closed_is e last n (at + size_of before.pieces) steps)

pub outlines_count : OutlinesCount
outlines_count = record { apart_is = apart_is; least_is = least_is; parted_is = parted_is }
