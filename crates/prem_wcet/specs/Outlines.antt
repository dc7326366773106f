-- Outlines: the statements of a function with their code, and what they count at a place.
use Rattle.std.specs.Prelude.{ℕ, zero, suc, ◌+◌, ◌*◌, max, min, Bool, List, [], ◌∷◌, ◌++◌}
use Rattle.std.specs.List.{list_any}
use Rattle.prem_plant.specs.Places.{Extent}
use Rattle.prem_asm.specs.Pieces.{Pieces, no_pieces, followed, size_of, branch_of}
use Rattle.prem_layout.specs.Template.Terms.{nonzero}
use Rattle.prem_layout.specs.Footprint.{lines_of}
use Rattle.prem_layout.specs.Bounds.{job_weight}
use Rattle.prem_wcet_laws.specs.Scopes.{Span, Scene, code_ranges, data_ranges, charge, charge_with}
use Rattle.prem_wcet_laws.specs.Least.{own, own_jump, own_turns, called_least}
use Rattle.prem_wcet_laws.specs.Counts.{PathCount, quiet, then_count, either_count}
use Rattle.prem_wcet_laws.specs.Parted.{cuts, by_cut, Edge, no_edge, bottom_of, argument_bytes, called_parted, turn_count}

-- A statement and those behind it: all its code, the globals that it names outside of other statements, and its parts. A choice has as many jumps
-- over its other side; a loop has code before and behind the statements of its body.
pub data Outline : Type 0 where
  ended : Outline
  plain : (code : Pieces) (names : List ℕ) (rest : Outline) → Outline
  calling : (code : Pieces) (names : List ℕ) (arguments : Pieces) (count callee : ℕ) (landing : Pieces) (rest : Outline) → Outline
  choice : (code : Pieces) (names : List ℕ) (condition : Pieces) (skips : ℕ) (taken other rest : Outline) → Outline
  turning : (code : Pieces) (names : List ℕ) (first : Pieces) (turns : ℕ) (head before : Pieces) (body : Outline) (behind : Pieces) (rest : Outline) → Outline

-- ---- what they have in all

abbrev pub code_of : Outline → Pieces
code_of ended = no_pieces
code_of (plain code names rest) = followed code (code_of rest)
code_of (calling code names arguments count callee landing rest) = followed code (code_of rest)
code_of (choice code names condition skips taken other rest) = followed code (code_of rest)
code_of (turning code names first turns head before body behind rest) = followed code (code_of rest)

abbrev pub names_of : Outline → List ℕ
names_of ended = []
names_of (plain code names rest) = names ++ names_of rest
names_of (calling code names arguments count callee landing rest) = names ++ names_of rest
names_of (choice code names condition skips taken other rest) = names ++ (names_of taken ++ (names_of other ++ names_of rest))
names_of (turning code names first turns head before body behind rest) = names ++ (names_of body ++ names_of rest)

abbrev pub callees_of : Outline → List ℕ
callees_of ended = []
callees_of (plain code names rest) = callees_of rest
callees_of (calling code names arguments count callee landing rest) = callee ∷ callees_of rest
callees_of (choice code names condition skips taken other rest) = callees_of taken ++ (callees_of other ++ callees_of rest)
callees_of (turning code names first turns head before body behind rest) = callees_of body ++ callees_of rest

-- a span of such code that names and calls what they do
abbrev pub coded_span : Pieces → Outline → Span
coded_span code o = record { pieces = code; globals = names_of o; callees = callees_of o }

abbrev pub span_in : Outline → Span
span_in o = coded_span (code_of o) o

-- ---- least charges

-- a choice by the rule, with what its sides count
abbrev pub choice_by : Scene → (skips taken other : ℕ) → ℕ
choice_by e skips taken other = job_weight e.plant (branch_of (nonzero 10)) + max (taken + skips * own_jump e) (own_jump e + other)

-- where the sides of a choice stand, and the body of a loop
abbrev pub first_place : (at : ℕ) → Pieces → ℕ
first_place at condition = at + size_of condition + 8

abbrev pub second_place : (at : ℕ) → Pieces → (taken : Outline) → (skips : ℕ) → ℕ
second_place at condition taken skips = first_place at condition + size_of (code_of taken) + 4 * skips

abbrev pub inner_place : (at : ℕ) → (first head before : Pieces) → ℕ
inner_place at first head before = at + size_of first + size_of head + 8 + size_of before

-- one by one, each as one scope or by its parts
abbrev pub apart_in : Scene → (at : ℕ) → Outline → ℕ
apart_in e at ended = 0
apart_in e at (plain code names rest) = min (charge e at (coded_span code (plain code names ended))) (own e code) + apart_in e (at + size_of code) rest
apart_in e at (calling code names arguments count callee landing rest) =
    min (charge e at (coded_span code (calling code names arguments count callee landing ended))) (own e arguments + own_jump e + called_least e callee + own e landing)
    + apart_in e (at + size_of code) rest
apart_in e at (choice code names condition skips taken other rest) =
    min (charge e at (coded_span code (choice code names condition skips taken other ended)))
    (own e condition
    + choice_by e skips (min (charge e (first_place at condition) (span_in taken)) (apart_in e (first_place at condition) taken))
    (min (charge e (second_place at condition taken skips) (span_in other)) (apart_in e (second_place at condition taken skips) other)))
    + apart_in e (at + size_of code) rest
apart_in e at (turning code names first turns head before body behind rest) =
    min (charge e at (coded_span code (turning code names first turns head before body behind ended)))
    (own e first
    + own_turns e turns (nonzero 10) (own e head)
    (own e before + min (charge e (inner_place at first head before) (span_in body)) (apart_in e (inner_place at first head before) body) + own e behind))
    + apart_in e (at + size_of code) rest

abbrev pub least_in : Scene → (at : ℕ) → Outline → ℕ
least_in e at o = min (charge e at (span_in o)) (apart_in e at o)

-- ---- with marked calls

abbrev pub cut_in : Scene → Outline → Bool
cut_in e o = list_any (cuts e) (callees_of o)

-- the statements before the first that has a marked call in it
abbrev pub front_in : Scene → Outline → Outline
front_in e ended = ended
front_in e (plain code names rest) = plain code names (front_in e rest)
front_in e (calling code names arguments count callee landing rest) =
    by_cut (cut_in e (calling code names arguments count callee landing ended)) ended (calling code names arguments count callee landing (front_in e rest))
front_in e (choice code names condition skips taken other rest) =
    by_cut (cut_in e (choice code names condition skips taken other ended)) ended (choice code names condition skips taken other (front_in e rest))
front_in e (turning code names first turns head before body behind rest) =
    by_cut (cut_in e (turning code names first turns head before body behind ended)) ended (turning code names first turns head before body behind (front_in e rest))

abbrev pub below_in : (bottom frame count : ℕ) → List Extent
below_in bottom frame zero = []
below_in bottom frame (suc n) = argument_bytes bottom frame (suc n) ∷ []

abbrev pub passing_in : Scene → (names : List ℕ) → Pieces → (count callee : ℕ) → Edge
passing_in e names arguments count callee = record { pieces = arguments; globals = names; below = below_in (bottom_of e.stack) (e.parts.frame callee) count }

abbrev pub landing_in : Pieces → Edge
landing_in landing = record { pieces = landing; globals = []; below = [] }

-- the edge behind these, where such a one is behind all of them
abbrev pub edge_in : Scene → (last : Edge) → Outline → Edge
edge_in e last ended = last
edge_in e last (plain code names rest) = edge_in e last rest
edge_in e last (calling code names arguments count callee landing rest) =
    by_cut (cut_in e (calling code names arguments count callee landing ended)) (passing_in e names arguments count callee) (edge_in e last rest)
edge_in e last (choice code names condition skips taken other rest) =
    by_cut (cut_in e (choice code names condition skips taken other ended)) no_edge (edge_in e last rest)
edge_in e last (turning code names first turns head before body behind rest) =
    by_cut (cut_in e (turning code names first turns head before body behind ended)) no_edge (edge_in e last rest)

abbrev pub between : Edge → Outline → Edge → Span
between before o last = record {
  pieces = followed before.pieces (followed (code_of o) last.pieces);
  globals = before.globals ++ (names_of o ++ last.globals);
  callees = callees_of o;
}

abbrev pub data_between : Scene → Edge → Outline → Edge → List Extent
data_between e before o last = data_ranges e (between before o last) ++ (before.below ++ last.below)

abbrev pub passage_in : Scene → (at : ℕ) → (before : Edge) → Outline → (last : Edge) → ℕ
passage_in e at before o last =
    min
    (charge_with e at (between before o last) (lines_of e.plant.line (code_ranges e at (between before o last) ++ data_between e before o last)) (lines_of e.plant.line (data_between e before o last)))
    (own e before.pieces + least_in e (at + size_of before.pieces) o + own e last.pieces)

-- a choice and a call, with what they count
abbrev pub choice_parted : Scene → (skips : ℕ) → (taken other : PathCount) → PathCount
choice_parted e skips taken other =
    then_count (quiet (job_weight e.plant (branch_of (nonzero 10))))
    (either_count (then_count taken (quiet (skips * own_jump e))) (then_count (quiet (own_jump e)) other))

abbrev pub call_parted : Scene → ℕ → PathCount
call_parted e f = then_count (quiet (own_jump e)) (called_parted e f)

-- What stands behind the passage that statements at a place begin. A passage begins behind each statement with marked calls, and within it.
abbrev pub closed_in : Scene → (last : Edge) → (at : ℕ) → Outline → PathCount
closed_in e last at ended = quiet 0
closed_in e last at (plain code names rest) = closed_in e last (at + size_of code) rest
closed_in e last at (calling code names arguments count callee landing rest) =
    by_cut (cut_in e (calling code names arguments count callee landing ended))
    (then_count (call_parted e callee)
    (then_count (quiet (passage_in e (at + size_of arguments + 4) (landing_in landing) (front_in e rest) (edge_in e last rest))) (closed_in e last (at + size_of code) rest)))
    (closed_in e last (at + size_of code) rest)
closed_in e last at (choice code names condition skips taken other rest) =
    by_cut (cut_in e (choice code names condition skips taken other ended))
    (then_count
    (then_count (quiet (own e condition))
    (choice_parted e skips
    (then_count (quiet (passage_in e (first_place at condition) no_edge (front_in e taken) (edge_in e no_edge taken))) (closed_in e no_edge (first_place at condition) taken))
    (then_count (quiet (passage_in e (second_place at condition taken skips) no_edge (front_in e other) (edge_in e no_edge other)))
    (closed_in e no_edge (second_place at condition taken skips) other))))
    (then_count (quiet (passage_in e (at + size_of code) no_edge (front_in e rest) (edge_in e last rest))) (closed_in e last (at + size_of code) rest)))
    (closed_in e last (at + size_of code) rest)
closed_in e last at (turning code names first turns head before body behind rest) =
    by_cut (cut_in e (turning code names first turns head before body behind ended))
    (then_count
    (then_count (quiet (own e first))
    (turn_count e turns (nonzero 10) (own e head)
    (then_count (quiet (own e before))
    (then_count
    (then_count (quiet (passage_in e (inner_place at first head before) no_edge (front_in e body) (edge_in e no_edge body))) (closed_in e no_edge (inner_place at first head before) body))
    (quiet (own e behind))))))
    (then_count (quiet (passage_in e (at + size_of code) no_edge (front_in e rest) (edge_in e last rest))) (closed_in e last (at + size_of code) rest)))
    (closed_in e last (at + size_of code) rest)

-- statements behind an edge that begins at a place, before another edge
abbrev pub parted_in : Scene → (at : ℕ) → (before last : Edge) → Outline → PathCount
parted_in e at before last o =
    then_count (quiet (passage_in e at before (front_in e o) (edge_in e last o))) (closed_in e last (at + size_of before.pieces) o)
