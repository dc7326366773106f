-- The marked functions of a program, each with its areas and with what it reaches.
use Rattle.std.specs.Prelude.{ℕ, ◌+◌, Bool, List, [], ◌∷◌, ◌++◌, Option, None, Some}
use Rattle.prem_analysis.specs.Prelude.{Watch, areas_of, reach_set, Routine, MarkText, GlobalVariable}
use Rattle.prem_analysis.specs.Ranging.SiteOf.{watch_of}
use Rattle.prem_analysis.specs.declared.ranging.site.Marked.{Marked}

-- its areas, and the set of what it reaches
pub record Entry : Type 0 where
  pub watch : Watch
  pub reached : List Bool

-- as it lies in memory
abbrev pub entry_of : Marked → Entry
entry_of m = record { watch = watch_of m; reached = m.reached.items }

-- of function n, by the table of callees
abbrev pub entry : List GlobalVariable → List (List ℕ) → ℕ → MarkText → Entry
entry gs table n mark = record { watch = record { function = n; areas = areas_of gs (Some mark) }; reached = reach_set table n }

abbrev pub entry_if : List GlobalVariable → List (List ℕ) → ℕ → Option MarkText → List Entry
entry_if gs table n None = []
entry_if gs table n (Some mark) = entry gs table n mark ∷ []

-- of the functions from number n on
abbrev pub entries_from : List GlobalVariable → List (List ℕ) → ℕ → List Routine → List Entry
entries_from gs table n [] = []
entries_from gs table n (f ∷ rest) = entry_if gs table n f.text.mark ++ entries_from gs table (n + 1) rest
