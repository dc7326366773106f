-- The elements of globals that functions access: for each global the least range around them.
use Rattle.std.specs.Prelude.{ℕ, ◌+◌, Bool, true, false, List, [], ◌∷◌, map, Option, Some}
use Rattle.prem_annotate.specs.Prelude.{span_of, join_with, GlobalAccess, is_in, Span, option_map}
use Rattle.prem_analysis.specs.declared.ranging.range.Range.{Range}
use Rattle.prem_annotate.specs.Ranges.Outlook.{Outlook}
use Rattle.prem_annotate.specs.Ranges.Slots.{at_number}

-- in memory
abbrev pub elements_of : List (Option Range) → List (Option Span)
elements_of all = map (option_map span_of) all

abbrev pub widened : Span → Option Span → Option Span
widened r s = Some (join_with r s)

-- ---- more accesses

abbrev pub with_touch : GlobalAccess → List (Option Span) → List (Option Span)
with_touch t all = at_number t.global (widened t.elements) all

abbrev pub with_touches : List GlobalAccess → List (Option Span) → List (Option Span)
with_touches [] all = all
with_touches (t ∷ ts) all = with_touch t (with_touches ts all)

abbrev pub with_touches_if : Bool → List GlobalAccess → List (Option Span) → List (Option Span)
with_touches_if true ts all = with_touches ts all
with_touches_if false ts all = all

-- those of the functions of a set, of the functions from number n on
abbrev pub with_members : List Bool → ℕ → List Outlook → List (Option Span) → List (Option Span)
with_members set n [] all = all
with_members set n (o ∷ os) all = with_touches_if (is_in set n) o.sight.touches (with_members set (n + 1) os all)
