-- Names that are looked for among others.
use Rattle.std.proofs.Common.{◌≡◌, Bool, true, false, cond, ◌||◌, List, [], ◌∷◌, ◌++◌, map, refl, ap, sym, ◌∙◌, None, Some}
use Rattle.prem_tiling.proofs.Prelude.{has_name, Text, bytes_eq-Decides, bytes_eq}
use Rattle.prem_tiling.specs.Copies.Named.{found_in}

-- the first of those that are left
pub found_first : (names more : List Text) (name text : Text) → has_name names text ≡ has_name (name ∷ more) text → bytes_eq name text ≡ true → Some name ≡ found_in names text
found_first names more name text all is =
    ap Some ((bytes_eq-Decides name text).0 is) ∙ sym (ap (λ b. cond b (Some text) None) (all ∙ ap (λ b. b || has_name more text) is))

-- one name more
pub map_push : {A B : Type 0} (f : A → B) (xs : List A) (x : A) (rest : List B) → map f (xs ++ x ∷ []) ++ rest ≡ map f xs ++ f x ∷ rest
map_push f [] x rest = refl
map_push f (y ∷ ys) x rest = ap (λ zs. f y ∷ zs) (map_push f ys x rest)

-- where none is found
pub not_found : (names : List Text) (text : Text) → None ≡ found_in names text → has_name names text ≡ false
not_found names text e = by (has_name names text) refl e
  where
    by : (b : Bool) → has_name names text ≡ b → None ≡ cond b (Some text) None → b ≡ false
    by true is h = cc
    by false is h = refl
