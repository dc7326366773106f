-- Ranges of bytes, each kept once.
use Rattle.std.specs.Prelude.{ℕ, ◌==◌, Bool, ◌&&◌, if◌then◌else◌, List, [], ◌∷◌, ◌++◌, map, Option, None, Some}
use Rattle.std.specs.List.{list_any}
use Rattle.prem_plant.specs.Places.{Extent}
use Rattle.prem_wcet_laws.specs.Scopes.{Scene, fact_of}
use Rattle.prem_wcet.specs.Outlines.{Outline, ended, plain, calling, choice, turning}

abbrev pub is_range : Extent → Extent → Bool
is_range r other = other.0 == r.0 && other.1 == r.1

-- behind others, where it isn't one of them
abbrev pub with_range : List Extent → Extent → List Extent
with_range rs r = if list_any (is_range r) rs then rs else rs ++ r ∷ []

abbrev pub with_ranges : List Extent → List Extent → List Extent
with_ranges rs [] = rs
with_ranges rs (r ∷ more) = with_ranges (with_range rs r) more

abbrev pub with_some : List Extent → Option Extent → List Extent
with_some rs None = rs
with_some rs (Some r) = with_range rs r

-- the globals of these numbers
abbrev pub with_names : Scene → List Extent → List ℕ → List Extent
with_names e rs names = with_ranges rs (map e.global names)

-- the code that statements call, and the bytes that they touch, behind others
abbrev pub with_code : Scene → List Extent → Outline → List Extent
with_code e rs ended = rs
with_code e rs (plain code names rest) = with_code e rs rest
with_code e rs (calling code names arguments count callee landing rest) = with_code e (with_ranges rs (fact_of e callee).code) rest
with_code e rs (choice code names condition skips taken other rest) = with_code e (with_code e (with_code e rs taken) other) rest
with_code e rs (turning code names first turns head before body behind rest) = with_code e (with_code e rs body) rest

abbrev pub with_touched : Scene → List Extent → Outline → List Extent
with_touched e rs ended = rs
with_touched e rs (plain code names rest) = with_touched e (with_names e rs names) rest
with_touched e rs (calling code names arguments count callee landing rest) = with_touched e (with_ranges (with_names e rs names) (fact_of e callee).touched) rest
with_touched e rs (choice code names condition skips taken other rest) = with_touched e (with_touched e (with_touched e (with_names e rs names) taken) other) rest
with_touched e rs (turning code names first turns head before body behind rest) = with_touched e (with_touched e (with_names e rs names) body) rest
