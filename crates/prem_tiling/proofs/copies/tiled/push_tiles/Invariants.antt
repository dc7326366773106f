use Rattle.std.proofs.Common.{◌≡◌, ◌-◌, ◌++◌, map}
use Rattle.prem_tiling.proofs.Prelude.{items_of, item_of, cut_in, tiles_from}
use Rattle.prem_tiling.proofs.copies.tiled.push_tiles.Given as goal

abbrev pub invariant-tiles : goal.invariant-tiles
invariant-tiles l =
    map item_of (items_of l.items) ++ tiles_from (cut_in l.c) l.t (l.c.tiles - l.t) ≡ map item_of (items_of l.initial.items) ++ tiles_from (cut_in l.c) 0 l.c.tiles
