-- What the bounds of marked functions rest on: not on the lengths that are stated.
use Rattle.std.specs.Prelude.{◌≡◌, ℕ, ◌+◌, List, [], ◌∷◌, map}
use Rattle.std.specs.Option.{option_map}
use Rattle.prem_plant.specs.declared.plant.Plant.{Plant}
use Rattle.prem_plant.specs.declared.plant.Device.{Device}
use Rattle.prem_plant.specs.Places.{default_places}
use Rattle.prem_syntax.specs.Syntax.{MarkText, FunctionText, ProgramText}
use Rattle.prem_syntax.specs.Resolve.{functions_of}
use Rattle.prem_layout.specs.Facts.{IntervalFact, interval_facts}
use Rattle.prem_layout.specs.Placed.{Coded, Placed, parts_of, placed_from}
use Rattle.prem_place.specs.Verdict.Told.{BoundsTold, told_from}
use Rattle.prem_annotating.specs.Annotated.{with_texts, annotated}
use Rattle.prem_tasks.specs.Broken.{TaskText, coded_of}

-- ---- programs but for the lengths that they state

abbrev pub unstated_mark : MarkText → MarkText
unstated_mark m = record m { stated = 0 }

abbrev pub unstated_text : FunctionText → FunctionText
unstated_text f = record f { mark = option_map unstated_mark f.mark }

abbrev pub unstated : ProgramText → ProgramText
unstated p = with_texts (map unstated_text (functions_of p)) p

-- ---- bounds

abbrev pub bounds_in : Plant → Placed → List ℕ
bounds_in p t = map (λ (f : IntervalFact). f.bound) (interval_facts p t)

-- of the marked functions of each task, at the default places
abbrev pub bounds_at : Plant → List Device → List Coded → List (List ℕ)
bounds_at p devices cs = map (bounds_in p) (placed_from p (default_places (parts_of p devices cs)) cs)

abbrev pub bounds_of : Plant → List Device → List TaskText → List ProgramText → List (List ℕ)
bounds_of p devices tasks ps = bounds_at p devices (coded_of p.target tasks ps)

-- programs that differ in stated lengths alone have the same bounds
abbrev pub LengthsFollowNoLength : Type 0
LengthsFollowNoLength =
    (p : Plant) (devices : List Device) (tasks : List TaskText) (ps qs : List ProgramText) → map unstated ps ≡ map unstated qs → bounds_of p devices tasks ps ≡ bounds_of p devices tasks qs

-- programs with their annotations, each with the lengths that stand at its number, from number k on
abbrev pub all_annotated : (ℕ → ℕ → ℕ) → ℕ → List ProgramText → List ProgramText
all_annotated lengths k [] = []
all_annotated lengths k (p ∷ ps) = annotated (lengths k) p ∷ all_annotated lengths (k + 1) ps

-- so an annotated set has the same bounds whatever lengths are put: those before the lengths are known are those behind
abbrev pub AnnotatedBoundsStay : Type 0
AnnotatedBoundsStay =
    (p : Plant) (devices : List Device) (tasks : List TaskText) (ps : List ProgramText) (before behind : ℕ → ℕ → ℕ) →
    bounds_of p devices tasks (all_annotated before 0 ps) ≡ bounds_of p devices tasks (all_annotated behind 0 ps)

-- ---- what is told of bounds

-- of the marked functions of tasks with these programs, and of their jobs, at the default places
abbrev pub told_by : Plant → List Device → List TaskText → List ProgramText → List BoundsTold
told_by p devices tasks ps = told_from p 0 (placed_from p (default_places (parts_of p devices (coded_of p.target tasks ps))) (coded_of p.target tasks ps))
