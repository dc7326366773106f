-- Whether the requests of a run keep the distances that words tell of their devices.
use Rattle.std.specs.Prelude.{ℕ, ◌+◌, ◌==◌, ◌&&◌, nat_le, Bool, true, false, if◌then◌else◌, List, [], ◌∷◌, Option, None, Some}
use Rattle.prem_plant.specs.declared.plant.Device.{Device}
use Rattle.prem_gate.specs.declared.request.Request.{Request}
use Rattle.prem_syntax.specs.Syntax.{Text}
use Rattle.prem_time.specs.Words.{Distance}
use Rattle.prem_time.specs.Devices.{every_of}

-- a request may come in a cycle, behind one in `last`; a device that isn't named makes none
abbrev pub is_far : (every last : Option ℕ) → (cycle : ℕ) → Bool
is_far None last cycle = false
is_far (Some every) None cycle = true
is_far (Some every) (Some last) cycle = nat_le (last + every) cycle

-- those of device number j do, behind one in `last`
abbrev pub are_far : (every : Option ℕ) → (j : ℕ) → (last : Option ℕ) → List Request → Bool
are_far every j last [] = true
are_far every j last (r ∷ rs) = if r.device == j then is_far every last r.cycle && are_far every j (Some r.cycle) rs else are_far every j last rs

-- the first device whose requests don't, from number j on
abbrev pub stray_from : List Distance → (j : ℕ) → List Device → List Request → Option Text
stray_from ds j [] requests = None
stray_from ds j (x ∷ xs) requests = if are_far (every_of ds x.name) j None requests then stray_from ds (j + 1) xs requests else Some x.name

-- where any distance is told
abbrev pub stray_in : List Distance → List Device → List Request → Option Text
stray_in [] devices requests = None
stray_in (d ∷ ds) devices requests = stray_from (d ∷ ds) 0 devices requests
