-- Well-formed texts of XML 1.0, as far as pictures need them: one element with all that is in it. Names, values and content are of printed ASCII
-- bytes; a start tag has each attribute once, an end tag the name of its start tag, and `&` begins one of the five predefined entities.
use Rattle.std.specs.Prelude.{◌≡◌, ℕ, ◌==◌, ◌&&◌, ◌||◌, nat_le, Bool, false, if◌then◌else◌, List, [], ◌∷◌, ◌++◌, codes}
use Rattle.std.specs.Str.{bytes_eq}

abbrev pub Name : Type 0
Name = List ℕ

-- where a reader stands, with the names of the elements that are open, the innermost one first
pub data Reading : Type 0 where
  Before : Reading
  Content : List Name → Reading
  -- behind `<`
  Marked : List Name → Reading
  -- in the name of a start tag
  Opening : (tag : Name) (around : List Name) → Reading
  -- in a start tag behind a blank, with the attributes that it has so far
  Spaced : (tag : Name) (has : List Name) (around : List Name) → Reading
  -- in the name of an attribute, behind its `=`, in its value, and behind that
  Attribute : (attribute tag : Name) (has : List Name) (around : List Name) → Reading
  Equals : (tag : Name) (has : List Name) (around : List Name) → Reading
  Value : (tag : Name) (has : List Name) (around : List Name) → Reading
  Quoted : (tag : Name) (has : List Name) (around : List Name) → Reading
  -- behind the `/` of an element without content
  Empty : List Name → Reading
  -- in an end tag, of whose name this is left
  Closing : (left : Name) (around : List Name) → Reading
  -- in an entity, behind these bytes
  Entity : (bytes : List ℕ) (around : List Name) → Reading
  After : Reading
  Wrong : Reading

abbrev pub is_between : ℕ → ℕ → ℕ → Bool
is_between low high b = nat_le low b && nat_le b high

-- a letter or `_`
abbrev pub begins_name : ℕ → Bool
begins_name b = is_between 97 122 b || is_between 65 90 b || b == 95

-- that, a digit, `-` or `.`
abbrev pub is_in_name : ℕ → Bool
is_in_name b = begins_name b || is_between 48 57 b || b == 45 || b == 46

abbrev pub is_printed : ℕ → Bool
is_printed b = is_between 32 126 b

abbrev pub is_entity : List ℕ → Bool
is_entity bytes =
    bytes_eq bytes (codes "amp") || bytes_eq bytes (codes "lt") || bytes_eq bytes (codes "gt") || bytes_eq bytes (codes "quot") || bytes_eq bytes (codes "apos")

abbrev pub is_one_of : Name → List Name → Bool
is_one_of attribute [] = false
is_one_of attribute (other ∷ others) = bytes_eq attribute other || is_one_of attribute others

-- behind an element
abbrev pub behind : List Name → Reading
behind [] = After
behind (tag ∷ around) = Content (tag ∷ around)

-- the end tag of the innermost element begins
abbrev pub end_tag : List Name → Reading
end_tag [] = Wrong
end_tag (tag ∷ around) = Closing tag around

-- behind the name of a start tag, or the value of an attribute
abbrev pub in_tag : (tag : Name) (has : List Name) (around : List Name) → ℕ → Reading → Reading
in_tag tag has around b other =
    if b == 62 then Content (tag ∷ around) else if b == 47 then Empty around else if b == 32 then Spaced tag has around else other

-- behind the next byte
abbrev pub step : Reading → ℕ → Reading
step Before b = if b == 60 then Marked [] else Wrong
step (Content around) b =
    if b == 60 then Marked around else if b == 38 then Entity [] around else if b == 62 then Wrong
    else if b == 10 then Content around else if is_printed b then Content around else Wrong
step (Marked around) b = if b == 47 then end_tag around else if begins_name b then Opening (b ∷ []) around else Wrong
step (Opening tag around) b = in_tag tag [] around b (if is_in_name b then Opening (tag ++ b ∷ []) around else Wrong)
step (Spaced tag has around) b =
    if b == 62 then Content (tag ∷ around) else if b == 47 then Empty around else if begins_name b then Attribute (b ∷ []) tag has around else Wrong
step (Attribute attribute tag has around) b =
    if b == 61 then (if is_one_of attribute has then Wrong else Equals tag (attribute ∷ has) around)
    else if is_in_name b then Attribute (attribute ++ b ∷ []) tag has around else Wrong
step (Equals tag has around) b = if b == 34 then Value tag has around else Wrong
step (Value tag has around) b =
    if b == 34 then Quoted tag has around else if b == 60 then Wrong else if b == 38 then Wrong else if is_printed b then Value tag has around else Wrong
step (Quoted tag has around) b = in_tag tag has around b Wrong
step (Empty around) b = if b == 62 then behind around else Wrong
step (Closing [] around) b = if b == 62 then behind around else Wrong
step (Closing (c ∷ left) around) b = if b == c then Closing left around else Wrong
step (Entity bytes around) b =
    if b == 59 then (if is_entity bytes then Content around else Wrong) else if is_between 97 122 b then Entity (bytes ++ b ∷ []) around else Wrong
step After b = if b == 10 then After else Wrong
step Wrong b = Wrong

abbrev pub read : Reading → List ℕ → Reading
read r [] = r
read r (b ∷ bytes) = read (step r b) bytes

-- an element with all that is in it, and line ends behind it
abbrev pub IsWellFormed : List ℕ → Type 0
IsWellFormed text = read Before text ≡ After
