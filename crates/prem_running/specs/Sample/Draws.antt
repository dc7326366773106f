-- The pseudo-random numbers that a sample is made of: a state of 32 bits, which each draw changes.
use Rattle.std.specs.Prelude.{ℕ, zero, suc, ◌+◌, ◌*◌, ◌/◌, ◌%◌, ◌^◌, List, [], ◌∷◌}

-- the state behind a draw
unfoldable pub next : ℕ → ℕ
next x = (1664525 * x + 1013904223) % 2 ^ 32

-- the number below m that a draw gives, by the state behind it
abbrev pub drawn : ℕ → ℕ → ℕ
drawn m x = x / 65536 % m

-- the state behind so many draws
unfoldable pub after : ℕ → ℕ → ℕ
after zero x = x
after (suc n) x = after n (next x)

-- the numbers below m that so many draws give
unfoldable pub numbers : ℕ → ℕ → ℕ → List ℕ
numbers m zero x = []
numbers m (suc n) x = drawn m (next x) ∷ numbers m n (next x)
