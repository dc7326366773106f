-- The names of tiles in a list.
use Rattle.std.proofs.Common.{◌≡◌, ℕ, zero, suc, ◌+◌, ◌<◌, List, [], ◌∷◌, map, length, get_or, refl, ap, ◌∙◌, arith}
use Rattle.prem_tiling.proofs.Prelude.{name_bytes, Text, Name, tile_name, tile_names}

first_same : (x y : Text) (xs ys : List Text) → x ∷ xs ≡ y ∷ ys → x ≡ y
first_same x y xs ys e = cc

rest_same : (x y : Text) (xs ys : List Text) → x ∷ xs ≡ y ∷ ys → xs ≡ ys
rest_same x y xs ys e = cc

pub names_count : (names : List Name) (name : Text) (s n : ℕ) → map name_bytes names ≡ tile_names name s n → length names ≡ n
names_count [] name s zero e = refl
names_count [] name s (suc n) e = cc
names_count (x ∷ xs) name s zero e = cc
names_count (x ∷ xs) name s (suc n) e = ap suc (names_count xs name (s + 1) n (rest_same (name_bytes x) (tile_name name s) (map name_bytes xs) (tile_names name (s + 1) n) e))

pub name_at : (names : List Name) (name : Text) (s n k : ℕ) (d : Name) → map name_bytes names ≡ tile_names name s n → k < n → name_bytes (get_or names k d) ≡ tile_name name (s + k)
name_at [] name s zero k d e lt = absurd (omega arith)
name_at [] name s (suc n) k d e lt = cc
name_at (x ∷ xs) name s zero k d e lt = absurd (omega arith)
name_at (x ∷ xs) name s (suc n) zero d e lt = first_same (name_bytes x) (tile_name name s) (map name_bytes xs) (tile_names name (s + 1) n) e
    ∙ (let z : s ≡ s + 0 = omega arith in ap (tile_name name) z)
name_at (x ∷ xs) name s (suc n) (suc k) d e lt =
    name_at xs name (s + 1) n k d (rest_same (name_bytes x) (tile_name name s) (map name_bytes xs) (tile_names name (s + 1) n) e) (omega arith)
    ∙ (let z : s + 1 + k ≡ s + suc k = omega arith in ap (tile_name name) z)
