-- The tokens of a text, with their places.
use Rattle.std.specs.Prelude.{ℕ, zero, suc, ◌+◌, ◌-◌, ◌==◌, Bool, ◌||◌, ◌&&◌, not, if◌then◌else◌, nat_lt, nat_le, List, [], ◌∷◌, length, ◌++◌, Option, None, Some, Result, Ok, Err}
use Rattle.std.specs.Prelude.{take_while, slice_index}
use Rattle.prem_text.specs.Prelude.{Place, option_map}
use Rattle.prem_text.specs.Lexing.Literal.{literal_word}
use Rattle.prem_text.specs.Lexing.Spelling.{reserved_word, longest_mark}
use Rattle.prem_text.specs.Lexing.Token.Lexeme.{Lexeme, name, number, word, mark, end_of_text, Seen}
use Rattle.prem_text.specs.Lexing.Token.Reading.{◌>>=◌, no_token}
use Rattle.prem_text.specs.declared.lexing.lexer.Cursor.{Cursor}
use Rattle.prem_text.specs.declared.lexing.lexer.Mode.{Mode}
use Rattle.prem_text.specs.declared.lexing.lexer.Mode.TheVariants.{Skip, Line, Block}
use Rattle.prem_text.specs.declared.lexing.token.fail.FrontFail.{FrontFail}
use Rattle.prem_text.specs.declared.lexing.token.fail.FrontFail.TheVariants.{NotText, TooLong}

abbrev pub is_digit : ℕ → Bool
is_digit b = nat_le 48 b && nat_le b 57

abbrev pub is_name_byte : ℕ → Bool
is_name_byte b = is_digit b || (nat_le 65 b && nat_le b 90) || (nat_le 97 b && nat_le b 122) || b == 95

-- space, tab, LF, VT, FF, CR
abbrev pub is_blank : ℕ → Bool
is_blank b = b == 32 || (nat_le 9 b && nat_le b 13)

abbrev pub is_printable : ℕ → Bool
is_printable b = nat_le 33 b && nat_le b 126

-- the token of a word that no literal, name or reserved word is refused
abbrev pub plain_word : List ℕ → Option Lexeme
plain_word w = elim (reserved_word w) [ Some k ↦ Some (word k) | None ↦ if nat_le (length w) 64 then Some (name w) else None ]

abbrev pub word_token : List ℕ → Option Lexeme
word_token w = if is_digit (slice_index w 0) then option_map (λ x. number x.0 x.1) (literal_word w) else plain_word w

-- the token at the front of a text, and its number of bytes
unfoldable pub first_token : List ℕ → Option (Lexeme × ℕ)
first_token text =
    if is_name_byte (slice_index text 0)
    then option_map (λ t. (t, length (take_while is_name_byte text))) (word_token (take_while is_name_byte text))
    else option_map (λ m. (mark m.0, m.1)) (longest_mark (slice_index text 0) (slice_index text 1))

abbrev pub place : Cursor → Place
place at = record { line = at.line; col = at.col }

abbrev pub behind : Cursor → ℕ → Cursor
behind at b = record { offset = at.offset + 1; line = if b == 10 then at.line + 1 else at.line; col = if b == 10 then 1 else at.col + 1 }

abbrev pub begins_with : ℕ → ℕ → List ℕ → Bool
begins_with a b text = slice_index text 0 == a && slice_index text 1 == b

abbrev pub token_step : Cursor → Option (Lexeme × ℕ) → Result (Mode × Option Lexeme) FrontFail
token_step at None = no_token (place at)
token_step at (Some t) = Ok (Skip (t.1 - 1), Some t.0)

-- what begins at the front of a text
unfoldable pub start : Cursor → List ℕ → Result (Mode × Option Lexeme) FrontFail
start at text =
    if is_blank (slice_index text 0) then Ok (Skip 0, None) else
    if begins_with 47 47 text then Ok (Line, None) else
    if begins_with 47 42 text then Ok (Block 1 (place at), None) else
    if not (is_printable (slice_index text 0)) then Err (NotText at.offset) else
    token_step at (first_token text)

-- what the byte at the front of a text does: it may be passed over, be in a comment, or begin something
unfoldable pub step : Mode → Cursor → List ℕ → Result (Mode × Option Lexeme) FrontFail
step (Skip zero) at text = start at text
step (Skip (suc k)) at text = Ok (Skip k, None)
step Line at text = Ok (if slice_index text 0 == 10 then Skip 0 else Line, None)
step (Block zero from) at text = Ok (if begins_with 42 47 text then Skip 1 else Block 0 from, None)
step (Block (suc k) from) at text = Ok (Block k from, None)

-- the end of the text counts as a token
abbrev pub at_end : Mode → Cursor → Result (List Seen) FrontFail
at_end (Block k from) at = no_token from
at_end _ at = Ok ((end_of_text, place at) ∷ [])

abbrev pub with_front : List Seen → Result (List Seen) FrontFail → Result (List Seen) FrontFail
with_front front read = read >>= λ more. Ok (front ++ more)

-- a token before others, where there is room
abbrev pub put : Option Lexeme → Cursor → ℕ → (ℕ → Result (List Seen) FrontFail) → Result (List Seen) FrontFail
put None at room go = go room
put (Some t) at zero go = Err TooLong
put (Some t) at (suc room) go = with_front ((t, place at) ∷ []) (go room)

unfoldable pub lex : Mode → Cursor → ℕ → List ℕ → Result (List Seen) FrontFail
lex mode at room [] = at_end mode at
lex mode at room (b ∷ rest) = step mode at (b ∷ rest) >>= λ s. put s.1 at room (λ left. lex s.0 (behind at b) left rest)

abbrev pub beginning : Cursor
beginning = record { offset = 0; line = 1; col = 1 }

-- the tokens of a text, or its first fault
unfoldable pub tokens_of : List ℕ → Result (List Seen) FrontFail
tokens_of text = if nat_lt 1048576 (length text) then Err TooLong else lex (Skip 0) beginning 200000 text
