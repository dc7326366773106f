use Rattle.std.proofs.Common.{◌≡◌, drop, map}
use Rattle.prem_tiling.proofs.Prelude.{functions_of, item_of, marked_named}
use Rattle.prem_tiling.proofs.copies.used.marked_named.Given as goal

abbrev pub invariant-items : goal.invariant-items
invariant-items l = marked_named (functions_of (map item_of l.items)) l.name ≡ marked_named (functions_of (map item_of (drop l.item-index l.items))) l.name
