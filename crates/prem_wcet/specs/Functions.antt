-- The code of a function in memory, and what it counts.
use Rattle.std.specs.Prelude.{ℕ, ◌+◌, ◌++◌, min}
use Rattle.prem_list.specs.Sequence.{items_of}
use Rattle.prem_asm.specs.Pieces.{Pieces, size_of}
use Rattle.prem_asm.specs.PiecesOf.{pieces_of}
use Rattle.prem_wcet_laws.specs.Scopes.{Span, Scene, charge}
use Rattle.prem_wcet_laws.specs.Least.{own}
use Rattle.prem_wcet.specs.declared.outline.Outline.{Outline as OutlineTree}
use Rattle.prem_wcet.specs.Outlines.{names_of, callees_of, least_in}
use Rattle.prem_wcet.specs.PartsOf.{parts_of}

abbrev pub function_span_in : Pieces → OutlineTree → Span
function_span_in code o = record {
  pieces = code;
  globals = items_of o.entry_names ++ (names_of (parts_of (items_of o.body)) ++ items_of o.leaving_names);
  callees = callees_of (parts_of (items_of o.body));
}

abbrev pub function_least : Scene → (at : ℕ) → Pieces → OutlineTree → ℕ
function_least e at code o =
    min (charge e at (function_span_in code o)) (own e (pieces_of o.entry.now) + own e (pieces_of o.leaving.now) + least_in e (at + size_of (pieces_of o.entry.now)) (parts_of (items_of o.body)))
