use Rattle.std.proofs.Common.{◌≡◌, drop, map}
use Rattle.prem_tiling.proofs.Prelude.{has_name, item_of, used_names}
use Rattle.prem_tiling.proofs.copies.used.used.Given as goal

abbrev pub invariant-items : goal.invariant-items
invariant-items l = has_name (used_names (map item_of l.items)) l.text ≡ has_name (used_names (map item_of (drop l.item-index l.items))) l.text
