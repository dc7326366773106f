-- The spelling of literals.
use Rattle.std.specs.Prelude.{ℕ, ◌+◌, ◌-◌, ◌*◌, ◌^◌, ◌==◌, Bool, true, false, ◌||◌, ◌&&◌, if◌then◌else◌, nat_lt, nat_le, List, [], ◌∷◌, length, Option, None, Some, slice_index, drop}
use Rattle.prem_text.specs.Prelude.{Kind, Int, Unsigned, option_and_then}

-- the value of a digit, or 16
abbrev pub digit_value : ℕ → ℕ
digit_value b =
    if nat_le 48 b && nat_le b 57 then b - 48 else
    if nat_le 97 b && nat_le b 102 then b - 87 else
    if nat_le 65 b && nat_le b 70 then b - 55 else 16

abbrev pub is_suffix : ℕ → Bool
is_suffix b = b == 117 || b == 85

-- the number of digits behind a number, and whether a `u` ends them; none where it passes 2 ^ 32 - 1
abbrev pub digits : ℕ → ℕ → List ℕ → Option (ℕ × Bool)
digits base n [] = Some (n, false)
digits base n (d ∷ ds) =
    if is_suffix d then (if length ds == 0 then Some (n, true) else None) else
    if nat_lt (digit_value d) base && nat_lt (n * base + digit_value d) (2 ^ 32) then digits base (n * base + digit_value d) ds else None

-- a number, whether it has a suffix, and whether it is hexadecimal
abbrev pub with_kind : Bool → ℕ × Bool → Option (ℕ × Kind)
with_kind hex x =
    if x.1 then Some (x.0, Unsigned) else
    if nat_lt x.0 (2 ^ 31) then Some (x.0, Int) else
    if hex then Some (x.0, Unsigned) else None

-- the value and kind of a word that begins with a digit; behind a first 0 stands no digit
unfoldable pub literal_word : List ℕ → Option (ℕ × Kind)
literal_word word =
    if slice_index word 0 == 48 then
    (if slice_index word 1 == 120 || slice_index word 1 == 88 then
    (if nat_lt (digit_value (slice_index word 2)) 16 then option_and_then (with_kind true) (digits 16 0 (drop 2 word)) else None)
    else option_and_then (with_kind false) (digits 0 0 (drop 1 word)))
    else option_and_then (with_kind false) (digits 10 0 word)
