-- The edges of passages in memory.
use Rattle.std.specs.Prelude.{ℕ, ◌+◌, ◌-◌, ◌*◌, ◌<◌, ◌^◌, Option, None, Some, List, [], ◌∷◌, ◌++◌}
use Rattle.prem_layout.specs.Footprint.{lines_of}
use Rattle.prem_wcet_laws.specs.Scopes.{Scene, charge_with, code_ranges}
use Rattle.prem_asm.specs.Pieces.{size_of}
use Rattle.prem_layout.specs.Template.Terms.{nonzero}
use Rattle.prem_wcet_laws.specs.Counts.{PathCount, quiet, then_count}
use Rattle.prem_wcet_laws.specs.Least.{own}
use Rattle.prem_wcet.specs.Outlines.{Outline, ended, plain, calling, choice, turning, between, data_between, passage_in, front_in, edge_in, closed_in, call_parted, choice_parted}
use Rattle.prem_wcet.specs.Outlines.{landing_in, passing_in, first_place, second_place, inner_place, parted_in}
use Rattle.prem_plant.specs.Places.{Extent}
use Rattle.prem_asm.specs.PiecesOf.{pieces_of}
use Rattle.prem_wcet_laws.specs.Parted.{Edge, bottom_of, no_edge, turn_count}
use Rattle.prem_list.specs.Sequence.{items_of}
use Rattle.prem_wcet.specs.declared.outline.Outline.{Outline as OutlineTree}
use Rattle.prem_wcet.specs.declared.parted.Edge.{Edge as EdgeTree}
use Rattle.prem_wcet.specs.PartsOf.{parts_of}

abbrev pub below_of : Option Extent → List Extent
below_of None = []
below_of (Some r) = r ∷ []

abbrev pub edge_of : EdgeTree → Edge
edge_of x = record { pieces = pieces_of x.pieces.now; globals = x.names.now; below = below_of x.below }

-- a passage as one scope
abbrev pub whole_in : Scene → (at : ℕ) → (before : Edge) → Outline → (last : Edge) → ℕ
whole_in e at before o last =
    charge_with e at (between before o last) (lines_of e.plant.line (code_ranges e at (between before o last) ++ data_between e before o last)) (lines_of e.plant.line (data_between e before o last))

-- statements alone, at a place
abbrev pub alone_in : Scene → (at : ℕ) → Outline → PathCount
alone_in e at o = then_count (quiet (passage_in e at no_edge (front_in e o) (edge_in e no_edge o))) (closed_in e no_edge at o)

-- the first statement, where it has marked calls, between its edges
abbrev pub cut_count_in : Scene → (at : ℕ) → Outline → PathCount
cut_count_in e at ended = quiet 0
cut_count_in e at (plain code names rest) = quiet 0
cut_count_in e at (calling code names arguments count callee landing rest) = call_parted e callee
cut_count_in e at (choice code names condition skips taken other rest) =
    then_count (quiet (own e condition)) (choice_parted e skips (alone_in e (first_place at condition) taken) (alone_in e (second_place at condition taken skips) other))
cut_count_in e at (turning code names first turns head before body behind rest) =
    then_count (quiet (own e first))
    (turn_count e turns (nonzero 10) (own e head) (then_count (quiet (own e before)) (then_count (alone_in e (inner_place at first head before) body) (quiet (own e behind)))))

-- where the passage behind it begins
abbrev pub landing_place : (at : ℕ) → Outline → ℕ
landing_place at ended = at
landing_place at (plain code names rest) = at + size_of code
landing_place at (calling code names arguments count callee landing rest) = at + size_of arguments + 4
landing_place at (choice code names condition skips taken other rest) = at + size_of code
landing_place at (turning code names first turns head before body behind rest) = at + size_of code

-- the edges of the passages behind it and before it
abbrev pub landing_edge : Outline → Edge
landing_edge ended = no_edge
landing_edge (plain code names rest) = no_edge
landing_edge (calling code names arguments count callee landing rest) = landing_in landing
landing_edge (choice code names condition skips taken other rest) = no_edge
landing_edge (turning code names first turns head before body behind rest) = no_edge

abbrev pub passing_edge : Scene → Outline → Edge
passing_edge e ended = no_edge
passing_edge e (plain code names rest) = no_edge
passing_edge e (calling code names arguments count callee landing rest) = passing_in e names arguments count callee
passing_edge e (choice code names condition skips taken other rest) = no_edge
passing_edge e (turning code names first turns head before body behind rest) = no_edge

-- the arguments of calls stand below 2 ^ 32
abbrev pub BelowFits : Scene → Outline → Type 0
BelowFits e ended = Unit {0}
BelowFits e (plain code names rest) = BelowFits e rest
BelowFits e (calling code names arguments count callee landing rest) = (bottom_of e.stack - e.parts.frame callee + 4 + 4 * count < 2 ^ 32) × BelowFits e rest
BelowFits e (choice code names condition skips taken other rest) = BelowFits e taken × (BelowFits e other × BelowFits e rest)
BelowFits e (turning code names first turns head before body behind rest) = BelowFits e body × BelowFits e rest

-- ---- a function in memory

-- what stands before the statements of its body, and behind them
abbrev pub entry_of : OutlineTree → Edge
entry_of o = record { pieces = pieces_of o.entry.now; globals = items_of o.entry_names; below = [] }

abbrev pub leaving_of : OutlineTree → Edge
leaving_of o = record { pieces = pieces_of o.leaving.now; globals = items_of o.leaving_names; below = [] }

-- what it counts at a place
abbrev pub function_parted : Scene → (at : ℕ) → OutlineTree → PathCount
function_parted e at o = parted_in e at (entry_of o) (leaving_of o) (parts_of (items_of o.body))
