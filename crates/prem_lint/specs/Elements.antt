-- Values of ranges, and the element with which a text begins.
use Rattle.std.specs.Prelude.{ℕ, ◌-◌, ◌+◌, ◌==◌, nat_le, ◌||◌, ◌&&◌, Bool, if◌then◌else◌, ℤ, int_lt, List, [], ◌∷◌, ◌++◌, take, codes}
use Rattle.std.specs.Char.{is_ascii_alphanumeric}
use Rattle.std.specs.Fmt.{signed_decimal}
use Rattle.std.specs.List.{prefix_len}
use Rattle.prem_word.specs.Ranges.{Span}

-- the ends of a range, or its only number
abbrev pub values : Span → List ℕ
values r = if int_lt r.lo r.hi then signed_decimal r.lo ++ (codes " to " ++ signed_decimal r.hi) else signed_decimal r.lo

-- the value of a range that lies past another one: the greatest where that does, else the least
abbrev pub past : ℤ → Span → ℤ
past high r = if int_lt high r.hi then r.hi else r.lo

-- whether the bracket closes the first one, where so many are open; and how many are open behind a byte
abbrev pub closes : ℕ → ℕ → Bool
closes depth b = b == 93 && nat_le depth 1

abbrev pub deeper : ℕ → ℕ → ℕ
deeper depth b = if b == 91 then depth + 1 else if b == 93 then depth - 1 else depth

-- up to the bracket that closes the first one, where so many are open
abbrev pub through : ℕ → List ℕ → List ℕ
through depth [] = []
through depth (b ∷ bs) = if closes depth b then b ∷ [] else b ∷ through (deeper depth b) bs

abbrev pub is_name_byte : ℕ → Bool
is_name_byte b = is_ascii_alphanumeric b || b == 95

-- the element with which a text begins, and its array
abbrev pub element : List ℕ → List ℕ
element [] = codes "an element"
element (b ∷ bs) = through 0 (b ∷ bs)

abbrev pub array : List ℕ → List ℕ
array [] = codes "the array"
array (b ∷ bs) = take (prefix_len is_name_byte (b ∷ bs)) (b ∷ bs)
