use Rattle.std.proofs.Common.{◌≡◌, ◌≤◌, ◌++◌, drop, map}
use Rattle.prem_annotate.proofs.Prelude.{notes_of, orders_from, order_of, functions_of, item_of}
use Rattle.prem_annotate.proofs.writing.noting.orders.Given as goal

abbrev pub invariant-loop-item : goal.invariant-loop-item
invariant-loop-item l = record {
  so_far : map order_of l.orders.items ++ orders_from l.n (functions_of (map item_of (drop l.item-index l.items))) (map notes_of l.notes)
      ≡ orders_from 0 (functions_of (map item_of l.items)) (map notes_of l.notes);
  within : l.n ≤ l.item-index;
}
