use Rattle.std.proofs.Common.{◌≡◌, ◌-◌}
use Rattle.prem_tiling.proofs.Prelude.{name_bytes, program_of, used_names, taken_from}
use Rattle.prem_tiling.proofs.copies.used.taken.Given as goal

abbrev pub invariant-tiles : goal.invariant-tiles
invariant-tiles l = taken_from (used_names (program_of l.p)) (name_bytes l.name) 0 l.tiles ≡ taken_from (used_names (program_of l.p)) (name_bytes l.name) l.t (l.tiles - l.t)
