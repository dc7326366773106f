-- The regions of a marked function, by what is found of all functions.
use Rattle.std.specs.Prelude.{ℕ, List, [], ◌∷◌, ◌++◌, map, Option, None}
use Rattle.prem_annotate.specs.Prelude.{reach_set, RegionText, GlobalVariable, Place, Span}
use Rattle.prem_annotate.specs.Ranges.Outlook.{Outlook}
use Rattle.prem_annotate.specs.Regions.Elements.{with_members}
use Rattle.prem_annotating.specs.Reached.{region_of}

-- one region for each global that is accessed, around these elements
abbrev pub regions_around : Place → List GlobalVariable → List (Option Span) → List RegionText
regions_around at [] all = []
regions_around at (g ∷ gs) [] = []
regions_around at (g ∷ gs) (r ∷ all) = region_of at g.name r ++ regions_around at gs all

-- where nothing is accessed
abbrev pub nothing : GlobalVariable → Option Span
nothing g = None

abbrev pub no_elements : List GlobalVariable → List (Option Span)
no_elements gs = map nothing gs

-- those of function n, at a place, by the table of callees
abbrev pub regions_found : Place → List GlobalVariable → List (List ℕ) → List Outlook → ℕ → List RegionText
regions_found at gs table os n = regions_around at gs (with_members (reach_set table n) 0 os (no_elements gs))
