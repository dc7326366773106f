-- What a text's division into tokens is, apart from any reader.
use Rattle.std.specs.Prelude.{◌≡◌, ℕ, ◌+◌, ◌<◌, ◌≤◌, ◌==◌, Bool, true, false, ◌||◌, not, List, [], ◌∷◌, ◌++◌, length, reverse, take_while, count_by, codes}
use Rattle.prem_text.specs.Prelude.{Place}
use Rattle.prem_text.specs.Lexing.Token.Lexeme.{Lexeme, mark, end_of_text, Seen}
use Rattle.prem_text.specs.Lexing.Tokens.{is_name_byte, is_blank, is_printable, begins_with}
use Rattle.prem_text.specs.Spelling.Spellings.{every, Spells}
use Rattle.prem_text.specs.declared.lexing.token.fail.FrontFail.{FrontFail}
use Rattle.prem_text.specs.declared.lexing.token.fail.FrontFail.TheVariants.{NotText, Token, TooLong}

-- ---- between tokens

abbrev pub is_feed : ℕ → Bool
is_feed b = b == 10

-- `*/` stands in a text
abbrev pub has_close : List ℕ → Bool
has_close [] = false
has_close (b ∷ rest) = begins_with 42 47 (b ∷ rest) || has_close rest

-- no more bytes of the line
abbrev pub ends_line : List ℕ → Bool
ends_line [] = true
ends_line (b ∷ rest) = is_feed b

-- bytes that may stand between tokens, before the rest of a text: a blank, a comment `/* .. */` that its first `*/` ends, or one `// ..` up to the end of its line
pub data Gap : List ℕ → List ℕ → Type 0 where
  a_blank : (b : ℕ) (rest : List ℕ) → is_blank b ≡ true → Gap (b ∷ []) rest
  a_block : (body rest : List ℕ) → has_close body ≡ false → Gap (codes "/*" ++ body ++ codes "*/") rest
  a_line : (body rest : List ℕ) → every (λ b. not (is_feed b)) body ≡ true → ends_line rest ≡ true → Gap (codes "//" ++ body) rest

-- ---- a token in a text

abbrev pub is_mark : Lexeme → Bool
is_mark (mark m) = true
is_mark _ = false

-- a letter, a digit or `_` comes next
abbrev pub goes_on : List ℕ → Bool
goes_on [] = false
goes_on (b ∷ rest) = is_name_byte b

-- `/*` or `//`
abbrev pub opens_comment : List ℕ → Bool
opens_comment text = begins_with 47 42 text || begins_with 47 47 text

-- bytes before the rest of a text are a token: no longer beginning of the text is a spelling, a name, word or literal doesn't go on, and no comment begins there
pub record IsToken (bytes rest : List ℕ) (t : Lexeme) : Type 0 where
  pub spells : Spells bytes t
  pub longest : (more later : List ℕ) (u : Lexeme) → bytes ++ rest ≡ more ++ later → Spells more u → length more ≤ length bytes
  pub apart : is_mark t ≡ false → goes_on rest ≡ false
  pub no_comment : opens_comment (bytes ++ rest) ≡ false

-- ---- a text

-- the place of the byte behind others: one line more than line feeds stand before it, and one column more than bytes since the last of these
abbrev pub place_behind : List ℕ → Place
place_behind before = record {
  line = 1 + count_by is_feed before;
  col = 1 + length (take_while (λ b. not (is_feed b)) (reverse before));
}

-- bytes behind others divide into gaps and tokens, one behind another, up to a rest
pub data Divides : List ℕ → List ℕ → List Seen → List ℕ → Type 0 where
  up_to : (before rest : List ℕ) → Divides before rest [] rest
  gap : (before bytes text : List ℕ) (ts : List Seen) (rest : List ℕ) → Gap bytes text →
      Divides (before ++ bytes) text ts rest → Divides before (bytes ++ text) ts rest
  token : (before bytes text : List ℕ) (t : Lexeme) (ts : List Seen) (rest : List ℕ) → IsToken bytes text t →
      Divides (before ++ bytes) text ts rest → Divides before (bytes ++ text) ((t, place_behind before) ∷ ts) rest

-- all tokens of a text within the limits, and its end
pub record AreTokens (text : List ℕ) (all : List Seen) : Type 0 where
  pub tokens : List Seen
  pub divides : Divides [] text tokens []
  pub is_all : all ≡ tokens ++ (end_of_text, place_behind text) ∷ []
  pub size : length text ≤ 1048576
  pub count : length tokens ≤ 200000

-- ---- refusals

-- a text divides up to a byte with which neither a gap nor a token begins
pub record Sticks (text : List ℕ) : Type 0 where
  pub before : List ℕ
  pub byte : ℕ
  pub behind : List ℕ
  pub parts : text ≡ before ++ byte ∷ behind
  pub tokens : List Seen
  pub divides : Divides [] text tokens (byte ∷ behind)
  pub no_gap : (bytes rest : List ℕ) → byte ∷ behind ≡ bytes ++ rest → Gap bytes rest → ⊥
  pub no_token : (bytes rest : List ℕ) (t : Lexeme) → byte ∷ behind ≡ bytes ++ rest → IsToken bytes rest t → ⊥

abbrev pub is_text : ℕ → Bool
is_text b = is_blank b || is_printable b

-- why a text is refused: it is too long, or it has more than 200000 tokens, or it sticks before it has more
pub data Refused (text : List ℕ) : FrontFail → Type 0 where
  too_long : 1048576 < length text → Refused text TooLong
  too_many : (tokens : List Seen) (rest : List ℕ) → length text ≤ 1048576 → Divides [] text tokens rest → 200000 < length tokens → Refused text TooLong
  no_text : (s : Sticks text) → length text ≤ 1048576 → length s.tokens ≤ 200000 → is_text s.byte ≡ false → Refused text (NotText (length s.before))
  no_token : (s : Sticks text) → length text ≤ 1048576 → length s.tokens ≤ 200000 → is_text s.byte ≡ true →
      Refused text (Token (place_behind s.before).line (place_behind s.before).col)
