use Rattle.std.proofs.Common.{◌≡◌, ◌+◌, ◌-◌, ◌≤◌, ℕ, suc, false, ◌||◌, List, ◌∷◌, ◌++◌, map, length, ap, sym, ◌∙◌, subst, arith}
use Rattle.prem_tiling.proofs.Prelude.{items_of, name_bytes, Text, Name, tile_name, tile_names, le-ltb, list_any, nat_lt}
use Rattle.prem_tiling.proofs.CopiesLemmas.Looking.{map_push}
use Rattle.prem_tiling.proofs.copies.used.names_of_tiles.Goals as goal

pub tiles-preserved : goal.tiles-preserved
tiles-preserved c =
    let n = name_bytes c.args.name.now in
    let t = c.tiles.t in
    let left = c.args.tiles - (t + 1) in
    let rest = tile_names n (t + 1) left in
    let more : c.args.tiles - t ≡ suc left = omega arith in
    let holds = rw c.in-Some.is at c.in_ok-name.ensures.holds in
    let text_is : name_bytes c.in-Some.name ≡ tile_name n t = holds ∙ c.deref.ensures.value ∙ c.in_ok-text.ensures ∙ ap (λ (x : Text). tile_name x t) c.bytes.ensures.bytes in
    let few : length (name_bytes c.in-Some.name) ≤ 64 = subst (λ (k : ℕ). k ≤ 64) c.in-Some.name.text.ok.0 c.in-Some.name.within in
    let short : nat_lt 64 (length (tile_name n t)) ≡ false = le-ltb 64 (length (tile_name n t)) (subst (λ (x : Text). length x ≤ 64) text_is few) in (
      ap (λ (xs : List Name). map name_bytes xs ++ rest) c.in_ok-push-in-Some.ensures.ok ∙ map_push name_bytes (items_of c.tiles.names) c.in-Some.name rest
          ∙ ap (λ (x : Text). map name_bytes (items_of c.tiles.names) ++ x ∷ rest) text_is
          ∙ ap (λ (m : ℕ). map name_bytes (items_of c.tiles.names) ++ tile_names n t m) (sym more) ∙ c.tiles.invariant.0,
      c.tiles.invariant.1 ∙ ap (λ (m : ℕ). list_any (λ (x : Text). nat_lt 64 (length x)) (tile_names n t m)) more ∙ ap (λ b. b || list_any (λ (x : Text). nat_lt 64 (length x)) rest) short,
    )
