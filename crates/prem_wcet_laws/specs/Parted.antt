-- Charges of statements with marked calls: what stands between two of these is one passage, and counts its least charge.
use Rattle.std.specs.Prelude.{ℕ, ◌+◌, ◌-◌, ◌*◌, min, Bool, true, false, ◌||◌, Option, if◌then◌else◌, List, [], ◌∷◌, ◌++◌, length}
use Rattle.prem_wcet_laws.specs.Prelude.{Pieces, no_pieces, straight, followed, size_of, branch_of, skip_words, Test, job_weight, lines_of, counters_in, locals_of, frame_of, bound_test}
use Rattle.prem_wcet_laws.specs.Prelude.{step_code, count_code, argument_code, target_code, steps_code, opening, closing, result_code, only, nonzero, Extent, callees_in, Term, Steps, Done}
use Rattle.prem_wcet_laws.specs.Prelude.{SetLocal, SetScalar, SetElement, Output, Input, If, For, While, Call, Routine, list_any}
use Rattle.prem_wcet_laws.specs.Counts.{PathCount, quiet, then_count, either_count, turned_count, marked_count}
use Rattle.prem_wcet_laws.specs.Least.{own, own_jump, term_of, bound_code, first_code, counter_code, turn_of, taken_place, other_place, body_place, behind, least, declared}
use Rattle.prem_wcet_laws.specs.Scopes.{Span, Scene, fact_of, code_ranges, data_ranges, charge_with, globals_in, globals_in_terms, globals_in_result}

-- ---- where marked calls are

-- a call of a function is a marked one, or has one in it
abbrev pub cuts : Scene → ℕ → Bool
cuts e f = e.marked f || (fact_of e f).cuts

abbrev pub has_cut : Scene → Steps → Bool
has_cut e steps = list_any (cuts e) (callees_in steps)

-- one of two values, where it is told whether a statement has a marked call in it
abbrev pub by_cut : {A : Type 0} → Bool → A → A → A
by_cut true cut quiet = cut
by_cut false cut quiet = quiet

-- the statements before the first that has one
abbrev pub front : Scene → Steps → Steps
front e Done = Done
front e (SetLocal pl k value rest) = SetLocal pl k value (front e rest)
front e (SetScalar pl g ty value rest) = SetScalar pl g ty value (front e rest)
front e (SetElement pl g ty index value rest) = SetElement pl g ty index value (front e rest)
front e (Output pl value rest) = Output pl value (front e rest)
front e (Input pl k rest) = Input pl k (front e rest)
front e (If pl condition taken other rest) = by_cut (has_cut e (If pl condition taken other Done)) Done (If pl condition taken other (front e rest))
front e (For pl k low closed high step turns body rest) =
    by_cut (has_cut e (For pl k low closed high step turns body Done)) Done (For pl k low closed high step turns body (front e rest))
front e (While pl turns condition body rest) = by_cut (has_cut e (While pl turns condition body Done)) Done (While pl turns condition body (front e rest))
front e (Call pl target f arguments rest) = by_cut (has_cut e (Call pl target f arguments Done)) Done (Call pl target f arguments (front e rest))

-- ---- the edges of passages

-- code that calls nothing, before or behind the statements of a passage: with the globals that it names, and the bytes below the frame that it writes
pub record Edge : Type 0 where
  pub pieces : Pieces
  pub globals : List ℕ
  pub below : List Extent

abbrev pub no_edge : Edge
no_edge = record { pieces = no_pieces; globals = []; below = [] }

-- a function's frame and its locals, and its result and the return
abbrev pub entry : Scene → Routine → Edge
entry e f = record { pieces = straight (opening (frame_of f)) (declared e f); globals = globals_in_terms f.locals; below = [] }

abbrev pub leaving : Scene → Routine → Edge
leaving e f = record {
  pieces = followed (result_code e.parts.target e.parts.global f.result) (only (closing (frame_of f)));
  globals = globals_in_result f.result;
  below = [];
}

-- where the frame begins
abbrev pub bottom_of : List Extent → ℕ
bottom_of [] = 0
bottom_of (r ∷ rs) = r.0

-- so many arguments, below the frame
abbrev pub argument_bytes : (bottom frame count : ℕ) → Extent
argument_bytes bottom frame count = (bottom - frame + 4, bottom - frame + 4 + 4 * count)

abbrev pub argument_ranges : (bottom frame : ℕ) → List Term → List Extent
argument_ranges bottom frame [] = []
argument_ranges bottom frame (x ∷ xs) = argument_bytes bottom frame (length (x ∷ xs)) ∷ []

-- the arguments of a call, and the result to its target
abbrev pub passing : Scene → (f : ℕ) → List Term → Edge
passing e f arguments = record {
  pieces = argument_code e.parts.target e.parts.global (e.parts.frame f) 0 arguments;
  globals = globals_in_terms arguments;
  below = argument_ranges (bottom_of e.stack) (e.parts.frame f) arguments;
}

abbrev pub landing : Option ℕ → Edge
landing target = record { pieces = target_code target no_pieces; globals = []; below = [] }

-- the edge behind the statements before the first marked call, where this one is behind all of them
abbrev pub next_edge : Scene → (last : Edge) → Steps → Edge
next_edge e last Done = last
next_edge e last (SetLocal pl k value rest) = next_edge e last rest
next_edge e last (SetScalar pl g ty value rest) = next_edge e last rest
next_edge e last (SetElement pl g ty index value rest) = next_edge e last rest
next_edge e last (Output pl value rest) = next_edge e last rest
next_edge e last (Input pl k rest) = next_edge e last rest
next_edge e last (If pl condition taken other rest) = by_cut (has_cut e (If pl condition taken other Done)) no_edge (next_edge e last rest)
next_edge e last (For pl k low closed high step turns body rest) = by_cut (has_cut e (For pl k low closed high step turns body Done)) no_edge (next_edge e last rest)
next_edge e last (While pl turns condition body rest) = by_cut (has_cut e (While pl turns condition body Done)) no_edge (next_edge e last rest)
next_edge e last (Call pl target f arguments rest) = by_cut (has_cut e (Call pl target f arguments Done)) (passing e f arguments) (next_edge e last rest)

-- ---- passages

-- statements without marked calls between two edges
abbrev pub passage_span : Scene → (n : ℕ) → (before : Edge) → Steps → (last : Edge) → Span
passage_span e n before steps last = record {
  pieces = followed before.pieces (followed (steps_code e.parts n steps) last.pieces);
  globals = before.globals ++ (globals_in steps ++ last.globals);
  callees = callees_in steps;
}

abbrev pub passage_data : Scene → (n : ℕ) → (before : Edge) → Steps → (last : Edge) → List Extent
passage_data e n before steps last = data_ranges e (passage_span e n before steps last) ++ (before.below ++ last.below)

-- as one scope
abbrev pub passage_charge : Scene → (n at : ℕ) → (before : Edge) → Steps → (last : Edge) → ℕ
passage_charge e n at before steps last =
    charge_with e at (passage_span e n before steps last)
    (lines_of e.plant.line (code_ranges e at (passage_span e n before steps last) ++ passage_data e n before steps last))
    (lines_of e.plant.line (passage_data e n before steps last))

-- or by its parts
abbrev pub passage_apart : Scene → (n at : ℕ) → (before : Edge) → Steps → (last : Edge) → ℕ
passage_apart e n at before steps last = own e before.pieces + least e n (at + size_of before.pieces) steps + own e last.pieces

abbrev pub passage : Scene → (n at : ℕ) → (before : Edge) → Steps → (last : Edge) → ℕ
passage e n at before steps last = min (passage_charge e n at before steps last) (passage_apart e n at before steps last)

-- ---- statements with marked calls

-- the passage that statements stand in has been counted, or begins with an edge at a place
pub data Begun : Type 0 where
  counted : Begun
  begins : (at : ℕ) (edge : Edge) → Begun

-- it counts where it begins
abbrev pub opened : Scene → Begun → (last : Edge) → (n : ℕ) → Steps → ℕ
opened e counted last n steps = 0
opened e (begins at edge) last n steps = passage e n at edge (front e steps) (next_edge e last steps)

-- what a call counts in which a marked one is, or which is one
abbrev pub called_parted : Scene → ℕ → PathCount
called_parted e f = if e.marked f then marked_count e.plant e.plans (e.stub f) else (fact_of e f).parted

-- a choice and a loop, with what their parts count
abbrev pub choice_count : Scene → Test → (other_code : Pieces) → (taken other : PathCount) → PathCount
choice_count e test other_code taken other =
    then_count (quiet (job_weight e.plant (branch_of test)))
    (either_count (then_count taken (quiet (skip_words other_code * own_jump e))) (then_count (quiet (own_jump e)) other))

abbrev pub turn_count : Scene → (turns : ℕ) → Test → (head : ℕ) → (body : PathCount) → PathCount
turn_count e turns test head body =
    turned_count turns (then_count (quiet (head + job_weight e.plant (branch_of test))) (then_count body (quiet (own_jump e)))) (quiet (head + job_weight e.plant (branch_of test) + own_jump e))

-- where a call goes on
abbrev pub landing_place : Scene → (at f : ℕ) → List Term → ℕ
landing_place e at f arguments = at + size_of (argument_code e.parts.target e.parts.global (e.parts.frame f) 0 arguments) + 4

-- statements at a place, behind which such an edge stands
abbrev pub parted : Scene → Begun → (last : Edge) → (n at : ℕ) → Steps → PathCount
parted e b last n at Done = quiet (opened e b last n Done)
parted e b last n at (SetLocal pl k value rest) =
    then_count (quiet (opened e b last n (SetLocal pl k value rest))) (parted e counted last n (behind e n at (SetLocal pl k value Done)) rest)
parted e b last n at (SetScalar pl g ty value rest) =
    then_count (quiet (opened e b last n (SetScalar pl g ty value rest))) (parted e counted last n (behind e n at (SetScalar pl g ty value Done)) rest)
parted e b last n at (SetElement pl g ty index value rest) =
    then_count (quiet (opened e b last n (SetElement pl g ty index value rest))) (parted e counted last n (behind e n at (SetElement pl g ty index value Done)) rest)
parted e b last n at (Output pl value rest) =
    then_count (quiet (opened e b last n (Output pl value rest))) (parted e counted last n (behind e n at (Output pl value Done)) rest)
parted e b last n at (Input pl k rest) = then_count (quiet (opened e b last n (Input pl k rest))) (parted e counted last n (behind e n at (Input pl k Done)) rest)
parted e b last n at (If pl condition taken other rest) =
    then_count (quiet (opened e b last n (If pl condition taken other rest)))
    (by_cut (has_cut e (If pl condition taken other Done))
    (then_count
    (then_count (quiet (own e (term_of e 10 condition)))
    (choice_count e (nonzero 10) (steps_code e.parts (n + counters_in taken) other)
    (parted e (begins (taken_place at (term_of e 10 condition)) no_edge) no_edge n (taken_place at (term_of e 10 condition)) taken)
    (parted e (begins (other_place at (term_of e 10 condition) (steps_code e.parts n taken) (steps_code e.parts (n + counters_in taken) other)) no_edge) no_edge (n + counters_in taken)
    (other_place at (term_of e 10 condition) (steps_code e.parts n taken) (steps_code e.parts (n + counters_in taken) other)) other)))
    (parted e (begins (behind e n at (If pl condition taken other Done)) no_edge) last (n + counters_in taken + counters_in other) (behind e n at (If pl condition taken other Done)) rest))
    (parted e counted last (n + counters_in taken + counters_in other) (behind e n at (If pl condition taken other Done)) rest))
parted e b last n at (For pl k low closed high step turns body rest) =
    then_count (quiet (opened e b last n (For pl k low closed high step turns body rest)))
    (by_cut (has_cut e (For pl k low closed high step turns body Done))
    (then_count
    (then_count (quiet (own e (first_code e k low)))
    (turn_count e turns (bound_test closed) (own e (bound_code e k high))
    (then_count (parted e (begins (body_place at (first_code e k low) (bound_code e k high)) no_edge) no_edge n (body_place at (first_code e k low) (bound_code e k high)) body)
    (quiet (own e (only (step_code k step)))))))
    (parted e (begins (behind e n at (For pl k low closed high step turns body Done)) no_edge) last (n + counters_in body) (behind e n at (For pl k low closed high step turns body Done)) rest))
    (parted e counted last (n + counters_in body) (behind e n at (For pl k low closed high step turns body Done)) rest))
parted e b last n at (While pl turns condition body rest) =
    then_count (quiet (opened e b last n (While pl turns condition body rest)))
    (by_cut (has_cut e (While pl turns condition body Done))
    (then_count
    (then_count (quiet (own e (counter_code n turns)))
    (turn_count e turns (nonzero 10) (own e (turn_of e n condition))
    (then_count (quiet (own e (only (count_code n))))
    (parted e (begins (body_place at (counter_code n turns) (turn_of e n condition) + 12) no_edge) no_edge (n + 1) (body_place at (counter_code n turns) (turn_of e n condition) + 12) body))))
    (parted e (begins (behind e n at (While pl turns condition body Done)) no_edge) last (n + 1 + counters_in body) (behind e n at (While pl turns condition body Done)) rest))
    (parted e counted last (n + 1 + counters_in body) (behind e n at (While pl turns condition body Done)) rest))
parted e b last n at (Call pl target f arguments rest) =
    then_count (quiet (opened e b last n (Call pl target f arguments rest)))
    (by_cut (has_cut e (Call pl target f arguments Done))
    (then_count (then_count (quiet (own_jump e)) (called_parted e f))
    (parted e (begins (landing_place e at f arguments) (landing target)) last n (behind e n at (Call pl target f arguments Done)) rest))
    (parted e counted last n (behind e n at (Call pl target f arguments Done)) rest))

-- the code of a function at its place
abbrev pub parted_function : Scene → Routine → (at : ℕ) → PathCount
parted_function e f at = parted e (begins at (entry e f)) (leaving e f) (locals_of f) (at + size_of (entry e f).pieces) f.body
