-- Products that fit 64 bits.
use Rattle.std.proofs.Common.{ℕ, ◌-◌, ◌*◌, ◌<◌, ◌≤◌, ◌^◌, arith}
use Rattle.std.proofs.lemmas.Nat.{mul-le}

pub release_small : (jobs period : ℕ) → jobs ≤ 65535 → period < 2 ^ 32 → (jobs - 1) * period ≤ 2 ^ 48
release_small jobs period j p =
    let m : (jobs - 1) * period ≤ 65536 * 4294967296 = mul-le (jobs - 1) period 65536 4294967296 (omega (arith, j)) (omega (arith, p)) in
    omega (arith, m)

pub work_small : (jobs bound : ℕ) → jobs ≤ 65535 → bound ≤ 2 ^ 40 → jobs * bound ≤ 2 ^ 56
work_small jobs bound j b =
    let m : jobs * bound ≤ 65536 * 1099511627776 = mul-le jobs bound 65536 1099511627776 (omega (arith, j)) (omega (arith, b)) in
    omega (arith, m)
