-- What accesses add, joined.
use Rattle.std.proofs.Common.{ℤ, ◌≡◌, refl, arith}
use Rattle.prem_tiling.proofs.Prelude.{Added, nothing, within, elsewhere, joined, nat_tests, ints, int_min, int_max}

min_assoc : (a b c : ℤ) → int_min (int_min a b) c ≡ int_min a (int_min b c)
min_assoc a b c = grind (arith, nat_tests, ints)

max_assoc : (a b c : ℤ) → int_max (int_max a b) c ≡ int_max a (int_max b c)
max_assoc a b c = grind (arith, nat_tests, ints)

pub joined_assoc : (a b c : Added) → joined (joined a b) c ≡ joined a (joined b c)
joined_assoc nothing b c = refl
joined_assoc elsewhere b c = refl
joined_assoc (within l m) nothing c = refl
joined_assoc (within l m) elsewhere c = refl
joined_assoc (within l m) (within l' m') nothing = refl
joined_assoc (within l m) (within l' m') elsewhere = refl
joined_assoc (within l m) (within l' m') (within l'' m'') = λ i. within (min_assoc l l' l'' i) (max_assoc m m' m'' i)

pub joined_nothing : (a : Added) → joined a nothing ≡ a
joined_nothing nothing = refl
joined_nothing elsewhere = refl
joined_nothing (within l m) = refl
