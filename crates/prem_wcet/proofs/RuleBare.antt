-- A rule that tells of no called part.
use Rattle.std.specs.Prelude.{nat_lt}
use Rattle.std.proofs.Common.{◌≡◌, ℕ, zero, suc, ◌-◌, Bool, true, false, cond, replicate, refl}
use Rattle.prem_layout.specs.Bounds.{part_weight, weight_at}

none_at : (n k : ℕ) → weight_at (replicate n 0) k ≡ 0
none_at zero k = refl
none_at (suc n) zero = refl
none_at (suc n) (suc k) = none_at n k

pub bare_rule : (n part : ℕ) → part_weight 0 (weight_at (replicate n 0)) (weight_at (replicate n 0)) part ≡ 0
bare_rule n zero = refl
bare_rule n (suc k) = by (nat_lt k 0) where
  by : (b : Bool) → cond b (weight_at (replicate n 0) k) (weight_at (replicate n 0) (k - 0)) ≡ 0
  by true = none_at n k
  by false = none_at n (k - 0)
