-- When a marked call's interval opens the bus, and plans with shorter lengths.
use Rattle.std.specs.Prelude.{ℕ, ◌+◌, ◌*◌, min, length}
use Rattle.prem_wcet_laws.specs.Prelude.{Pieces, no_pieces, straight, address_code, weighted, cost_of, line_cost, TaskPlaces, ranges_of, footprint_of, stub_passes, Plan, Plant}
use Rattle.prem_layout.specs.Stubs.{passes_code}

-- what stands between a stub's `pm.mem` and its `pm.exec`
abbrev pub opening_code : Plant → TaskPlaces → Plan → Pieces
opening_code p t plan = passes_code (stub_passes p) p.line (ranges_of t plan) (straight (address_code 5 plan.stated) no_pieces)

-- the greatest number of cycles from the interval's first one to the issue of its `pm.exec`: what that code costs, and a fill and a write back for each line
abbrev pub opens_of : Plant → TaskPlaces → Plan → ℕ
opens_of p t plan = weighted cost_of (λ part. 0) (opening_code p t plan) + length (footprint_of p.line t plan) * line_cost p

-- the same function where its call keeps closed no more than until a transfer of such a cost may start behind its opening
abbrev pub shortened : Plant → TaskPlaces → (top : ℕ) → Plan → Plan
shortened p t top plan = record plan { stated = min plan.stated (opens_of p t plan + top) }
