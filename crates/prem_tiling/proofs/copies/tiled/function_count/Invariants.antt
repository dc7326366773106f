use Rattle.std.proofs.Common.{◌≡◌, ◌+◌, ◌≤◌, drop, map, length}
use Rattle.prem_tiling.proofs.Prelude.{functions_of, item_of}
use Rattle.prem_tiling.proofs.copies.tiled.function_count.Given as goal

abbrev pub invariant-items : goal.invariant-items
invariant-items l = (l.count + length (functions_of (map item_of (drop l.item-index l.items))) ≡ length (functions_of (map item_of l.items))) × (l.count ≤ l.item-index)
