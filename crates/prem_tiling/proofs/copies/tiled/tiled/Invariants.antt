use Rattle.std.proofs.Common.{◌≡◌, ◌++◌, drop, map}
use Rattle.prem_tiling.proofs.Prelude.{items_of, item_of, cut_in, tiled}
use Rattle.prem_tiling.proofs.copies.tiled.tiled.Given as goal

abbrev pub invariant-items : goal.invariant-items
invariant-items l = map item_of (items_of l.items) ++ tiled (cut_in l.c) (map item_of (drop l.item-index (items_of l.p.items))) ≡ tiled (cut_in l.c) (map item_of (items_of l.p.items))
