use Rattle.std.proofs.Common.{◌≡◌, ◌-◌, ◌++◌, map, length}
use Rattle.prem_tiling.proofs.Prelude.{items_of, name_bytes, Text, tile_names, list_any, nat_lt}
use Rattle.prem_tiling.proofs.copies.used.names_of_tiles.Given as goal

abbrev pub invariant-tiles : goal.invariant-tiles
invariant-tiles l =
    (map name_bytes (items_of l.names) ++ tile_names (name_bytes l.name) l.t (l.tiles - l.t) ≡ tile_names (name_bytes l.name) 0 l.tiles)
    × (list_any (λ (n : Text). nat_lt 64 (length n)) (tile_names (name_bytes l.name) 0 l.tiles) ≡ list_any (λ (n : Text). nat_lt 64 (length n)) (tile_names (name_bytes l.name) l.t (l.tiles - l.t)))
