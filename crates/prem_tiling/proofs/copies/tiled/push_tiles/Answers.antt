use Rattle.std.proofs.Common.{◌≡◌, ◌+◌, ◌-◌, ◌<◌, ℕ, suc, ◌∷◌, ◌++◌, map, ap, sym, ◌∙◌, arith}
use Rattle.prem_tiling.proofs.Prelude.{items_of, name_bytes, FunctionText, function_item, item_of, cut_in, tile_name, tiles_from}
use Rattle.prem_tiling.proofs.CopiesLemmas.Looking.{map_push}
use Rattle.prem_tiling.proofs.CopiesLemmas.TileNames.{names_count, name_at}
use Rattle.prem_syntax.specs.declared.tree.Item.TheVariants as item
use Rattle.prem_tiling.proofs.copies.tiled.push_tiles.Goals as goal

pub bounds-names-t : goal.bounds-names-t
bounds-names-t c =
    let count = names_count c.args.names.now (name_bytes c.args.c.now.function.now.name) 0 c.args.c.now.tiles c.requires.named in
    omega arith

pub tile_of-requires-clause-named : goal.tile_of-requires-clause-named
tile_of-requires-clause-named c =
    let name = name_bytes c.args.c.now.function.now.name in
    let lt : c.tiles.t < c.args.c.now.tiles = omega arith in
    let z : 0 + c.tiles.t ≡ c.tiles.t = omega arith in
    ap name_bytes c.index-names-t.is ∙ name_at c.args.names.now name 0 c.args.c.now.tiles c.tiles.t c.index-names-t.result c.requires.named lt ∙ ap (tile_name name) z

pub tiles-preserved : goal.tiles-preserved
tiles-preserved c =
    let cut = cut_in c.args.c.now in
    let t = c.tiles.t in
    let left = c.args.c.now.tiles - (t + 1) in
    let more : c.args.c.now.tiles - t ≡ suc left = omega arith in
    let rest = tiles_from cut (t + 1) left in
    let items = items_of c.tiles.items in
    ap (λ xs. map item_of xs ++ rest) c.in_ok-push.ensures.ok ∙ map_push item_of items (item.Function c.in_ok-tile.tile) rest
    ∙ ap (λ (f : FunctionText). map item_of items ++ function_item f ∷ rest) c.in_ok-tile.ensures
    ∙ ap (λ (m : ℕ). map item_of items ++ tiles_from cut t m) (sym more) ∙ c.tiles.invariant
