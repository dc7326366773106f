-- Words as hexadecimal digits.
use Rattle.std.specs.Prelude.{ℕ, ◌+◌, ◌/◌, ◌%◌, ◌^◌, nat_lt, if◌then◌else◌, List, [], ◌∷◌}

abbrev pub hex_digit : ℕ → ℕ
hex_digit n = if nat_lt n 10 then 48 + n else 87 + n

-- a word as eight digits
unfoldable pub hex_word : ℕ → List ℕ
hex_word n =
    hex_digit (n / 2 ^ 28 % 16) ∷ hex_digit (n / 2 ^ 24 % 16) ∷ hex_digit (n / 2 ^ 20 % 16) ∷ hex_digit (n / 2 ^ 16 % 16)
    ∷ hex_digit (n / 2 ^ 12 % 16) ∷ hex_digit (n / 2 ^ 8 % 16) ∷ hex_digit (n / 2 ^ 4 % 16) ∷ hex_digit (n % 16) ∷ []
