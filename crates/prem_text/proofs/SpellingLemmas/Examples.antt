-- Small texts and their divisions by hand.
use Rattle.std.proofs.Common.{◌≡◌, ℕ, Bool, true, false, List, [], ◌∷◌, ◌++◌, codes, refl, replicate}
use Rattle.prem_text.proofs.Prelude.{Place, literal_word, used_word, is_unused, reserved_word, longest_mark, name, number, word, mark, end_of_text, Seen, first_token, start, lex, tokens_of}
use Rattle.prem_text.proofs.Prelude.{has_close, opens_comment, place_behind, AreTokens, Refused, Spelling, joined, placed, value_in, NotText, Token, Int, Unsigned}
use Rattle.prem_text.proofs.LexingLemmas.Examples.{on}
use Rattle.prem_text.proofs.SpellingLemmas.Exact.{sound, refusals_sound}
use Rattle.prem_text.specs.Lexing.Tokens.{step}
use Rattle.prem_text.specs.declared.lexing.token.token.Mark.TheVariants as m
use Rattle.prem_text.specs.declared.lexing.token.token.Word.TheVariants as w

abbrev at : ℕ → ℕ → Place
at line col = record { line = line; col = col }

-- ---- numbers, places, comments

abbrev values : List ℕ
values = value_in 10 (codes "4294967295") ∷ value_in 16 (codes "1eF") ∷ value_in 16 (codes "100000000") ∷ value_in 10 (codes "207") ∷ []

numbers : values ≡ 4294967295 ∷ 495 ∷ 4294967296 ∷ 207 ∷ []
numbers = refl

abbrev places : List Place
places = place_behind [] ∷ place_behind (codes "ab") ∷ place_behind (codes "ab" ++ 10 ∷ []) ∷ place_behind (10 ∷ 97 ∷ 13 ∷ 10 ∷ 9 ∷ 98 ∷ []) ∷ []

places_behind : places ≡ at 1 1 ∷ at 1 3 ∷ at 2 1 ∷ at 3 3 ∷ []
places_behind = refl

abbrev closes : List Bool
closes = has_close (codes "a*b/") ∷ has_close (codes "/") ∷ has_close (codes "a**/") ∷ has_close (codes "*") ∷ opens_comment (codes "/")
    ∷ opens_comment (codes "//") ∷ opens_comment (codes "/*/") ∷ opens_comment (codes "/ /") ∷ []

comments_close : closes ≡ false ∷ false ∷ true ∷ false ∷ false ∷ true ∷ true ∷ false ∷ []
comments_close = refl

-- ---- divisions

abbrev pluses : List Seen
pluses = on 1 1 (name (codes "a")) ∷ on 1 2 (mark m.PlusPlus) ∷ on 1 4 (mark m.Plus) ∷ on 1 5 (name (codes "b")) ∷ on 1 6 end_of_text ∷ []

longest_first : AreTokens (codes "a+++b") pluses
unfolding tokens_of lex step start first_token reserved_word used_word is_unused longest_mark literal_word
longest_first = sound _ _ refl

abbrev minus : List Seen
minus = on 1 1 (number 30 Int) ∷ on 1 5 (mark m.Minus) ∷ on 1 6 (number 1 Int) ∷ on 1 7 end_of_text ∷ []

hexadecimal_e : AreTokens (codes "0x1E-1") minus
unfolding tokens_of lex step start first_token reserved_word used_word is_unused longest_mark literal_word
hexadecimal_e = sound _ _ refl

abbrev kinds : List Seen
kinds =
    on 1 1 (number 3 Unsigned) ∷ on 1 4 (number 0 Int) ∷ on 1 6 (number 2147483647 Int) ∷ on 1 17 (number 2147483648 Unsigned) ∷ on 1 28
    (number 2147483648 Unsigned) ∷ on 1 40 (number 4294967295 Unsigned) ∷ on 1 50 end_of_text ∷ []

literal_kinds : AreTokens (codes "3u 0 2147483647 0x80000000 2147483648u 0xFfffFFFF") kinds
unfolding tokens_of lex step start first_token reserved_word used_word is_unused longest_mark literal_word
literal_kinds = sound _ _ refl

abbrev apart : List Seen
apart = on 1 1 (name (codes "a")) ∷ on 1 7 (name (codes "b")) ∷ on 1 8 end_of_text ∷ []

comment_between : AreTokens (codes "a/*x*/b") apart
unfolding tokens_of lex step start first_token reserved_word used_word is_unused longest_mark literal_word
comment_between = sound _ _ refl

abbrev alone : List Seen
alone = on 1 1 (name (codes "a")) ∷ on 1 5 end_of_text ∷ []

comment_to_the_end : AreTokens (codes "a//b") alone
unfolding tokens_of lex step start first_token reserved_word used_word is_unused longest_mark literal_word
comment_to_the_end = sound _ _ refl

abbrev shifts : List Seen
shifts = on 1 1 (mark m.ShiftLeft) ∷ on 1 3 (mark m.Equal) ∷ on 1 5 (mark m.GreaterEqual) ∷ on 1 8 (mark m.ShiftRight) ∷ on 1 10 (mark m.GreaterEqual)
    ∷ on 1 13 (mark m.Slash) ∷ on 1 15 (mark m.Slash) ∷ on 1 16 end_of_text ∷ []

mark_rows : AreTokens (codes "<<= >= >>>= / /") shifts
unfolding tokens_of lex step start first_token reserved_word used_word is_unused longest_mark literal_word
mark_rows = sound _ _ refl

abbrev lines : List Seen
lines = on 2 2 (word w.In) ∷ on 2 5 (name (codes "in1")) ∷ on 3 5 (word w.Unused) ∷ on 3 9 end_of_text ∷ []

any_byte_in_comments : AreTokens ((47 ∷ 47 ∷ 128 ∷ 0 ∷ 92 ∷ 10 ∷ 9 ∷ []) ++ codes "in in1" ++ (13 ∷ 10 ∷ []) ++ codes "/**/auto") lines
unfolding tokens_of lex step start first_token reserved_word used_word is_unused longest_mark literal_word
any_byte_in_comments = sound _ _ refl

abbrev longest_name : List Seen
longest_name = on 1 1 (name (replicate 64 95)) ∷ on 1 65 end_of_text ∷ []

name_of_64_bytes : AreTokens (replicate 64 95) longest_name
unfolding tokens_of lex step start first_token reserved_word used_word is_unused longest_mark literal_word
name_of_64_bytes = sound _ _ refl

-- ---- refusals

leading_zero : Refused (codes " 08") (Token 1 2)
unfolding tokens_of lex step start first_token reserved_word used_word is_unused longest_mark literal_word
leading_zero = refusals_sound _ _ refl

literal_goes_on : Refused (codes "x=3ul") (Token 1 3)
unfolding tokens_of lex step start first_token reserved_word used_word is_unused longest_mark literal_word
literal_goes_on = refusals_sound _ _ refl

int_past_its_limit : Refused (codes "2147483648") (Token 1 1)
unfolding tokens_of lex step start first_token reserved_word used_word is_unused longest_mark literal_word
int_past_its_limit = refusals_sound _ _ refl

unsigned_past_its_limit : Refused (codes "0x100000000") (Token 1 1)
unfolding tokens_of lex step start first_token reserved_word used_word is_unused longest_mark literal_word
unsigned_past_its_limit = refusals_sound _ _ refl

comment_not_closed : Refused ((97 ∷ 10 ∷ 32 ∷ 47 ∷ 42 ∷ 47 ∷ 10 ∷ [])) (Token 2 2)
unfolding tokens_of lex step start first_token reserved_word used_word is_unused longest_mark literal_word
comment_not_closed = refusals_sound _ _ refl

name_of_65_bytes : Refused (replicate 65 95) (Token 1 1)
unfolding tokens_of lex step start first_token reserved_word used_word is_unused longest_mark literal_word
name_of_65_bytes = refusals_sound _ _ refl

first_byte_decides : Refused (codes "a;" ++ (128 ∷ 64 ∷ [])) (NotText 2)
unfolding tokens_of lex step start first_token reserved_word used_word is_unused longest_mark literal_word
first_byte_decides = refusals_sound _ _ refl

no_token_begins : Refused (codes "a;@" ++ (128 ∷ [])) (Token 1 3)
unfolding tokens_of lex step start first_token reserved_word used_word is_unused longest_mark literal_word
no_token_begins = refusals_sound _ _ refl

-- ---- texts of spellings

abbrev spellings : List Spelling
spellings = (codes "x", name (codes "x")) ∷ (codes "/", mark m.Slash) ∷ (codes "0X0a", number 10 Int) ∷ []

spelled_out : joined spellings ≡ codes "x / 0X0a"
spelled_out = refl

spelled_places : placed [] spellings ≡ on 1 1 (name (codes "x")) ∷ on 1 3 (mark m.Slash) ∷ on 1 5 (number 10 Int) ∷ []
spelled_places = refl
