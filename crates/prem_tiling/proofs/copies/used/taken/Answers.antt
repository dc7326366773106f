use Rattle.std.proofs.Common.{◌≡◌, ◌+◌, ◌-◌, suc, false, cond, Some, map, ap, sym, ◌∙◌, arith}
use Rattle.prem_tiling.proofs.Prelude.{has_name, name_bytes, Text, item_of, program_of, tile_name, used_names, taken_from}
use Rattle.prem_tiling.proofs.CopiesLemmas.Looking.{not_found}
use Rattle.prem_tiling.proofs.copies.used.taken.Goals as goal

pub tiles-preserved : goal.tiles-preserved
tiles-preserved c =
    let n = name_bytes c.args.name.now in
    let names = used_names (program_of c.args.p.now) in
    let t = c.tiles.t in
    let left = c.args.tiles - (t + 1) in
    let more : c.args.tiles - t ≡ suc left = omega arith in
    let none = rw c.in-None.is at c.used.ensures in
    let text_is : c.deref.result.now ≡ tile_name n t = c.deref.ensures.value ∙ c.in_ok-text.ensures ∙ ap (λ (x : Text). tile_name x t) c.bytes.ensures.bytes in
    let absent : has_name names (tile_name n t) ≡ false =
    (λ i. has_name (used_names (map item_of (sym c.items.ensures i))) (sym text_is i)) ∙ not_found (used_names (map item_of c.items.result.now)) c.deref.result.now none in
    c.tiles.invariant ∙ ap (taken_from names n t) more ∙ ap (λ b. cond b (Some (tile_name n t)) (taken_from names n (t + 1) left)) absent
