-- Texts and their tokens by hand.
use Rattle.prem_text.proofs.Prelude.{literal_word, used_word, is_unused, reserved_word, longest_mark, Lexeme, name, number, word, mark, end_of_text, Seen, first_token, start, lex, tokens_of}
use Rattle.prem_text.proofs.Prelude.{FrontFail, NotText, Token, Int, Unsigned}
use Rattle.prem_text.specs.Lexing.Tokens.{step}
use Rattle.std.specs.Prelude.{◌≡◌, ℕ, List, [], ◌∷◌, ◌++◌, map, Result, Ok, Err, codes, replicate, refl}
use Rattle.prem_text.specs.declared.lexing.token.token.Mark.TheVariants as m
use Rattle.prem_text.specs.declared.lexing.token.token.Word.TheVariants as w

abbrev pub on : ℕ → ℕ → Lexeme → Seen
on line col t = (t, record { line = line; col = col })

abbrev all_of : List (List ℕ) → List (Result (List Seen) FrontFail)
all_of texts = map tokens_of texts

-- the longest token is taken; blanks and comments stand between
places_of_tokens : all_of ((codes "if(a<=b1)x=a>>3u;" ++ (10 ∷ []) ++ codes "  y+++z/**/--w // -end" ++ (13 ∷ 10 ∷ 9 ∷ [])) ∷ []) ≡ (Ok (
    on 1 1 (word w.If) ∷ on 1 3 (mark m.OpenParenthesis) ∷ on 1 4 (name (codes "a")) ∷ on 1 5 (mark m.LessEqual) ∷ on 1 7 (name (codes "b1")) ∷ on 1 9 (mark m.CloseParenthesis) ∷
    on 1 10 (name (codes "x")) ∷ on 1 11 (mark m.Equal) ∷ on 1 12 (name (codes "a")) ∷ on 1 13 (mark m.ShiftRight) ∷ on 1 15 (number 3 Unsigned) ∷ on 1 17 (mark m.Semicolon) ∷
    on 2 3 (name (codes "y")) ∷ on 2 4 (mark m.PlusPlus) ∷ on 2 6 (mark m.Plus) ∷ on 2 7 (name (codes "z")) ∷ on 2 12 (mark m.MinusMinus) ∷ on 2 14 (name (codes "w")) ∷
    on 3 2 end_of_text ∷ []) ∷ [])
unfolding tokens_of lex step start first_token reserved_word used_word is_unused longest_mark literal_word
places_of_tokens = refl

-- literals, with their kinds and limits
literals : all_of (codes "0" ∷ codes "0u" ∷ codes "2147483647" ∷ codes "4294967295U" ∷ codes "0x7fffffff" ∷ codes "0X80000000" ∷ codes "0xFFffFFff" ∷ codes "0x1E-1" ∷ codes "- -1" ∷ []) ≡ (
    Ok (on 1 1 (number 0 Int) ∷ on 1 2 end_of_text ∷ []) ∷
    Ok (on 1 1 (number 0 Unsigned) ∷ on 1 3 end_of_text ∷ []) ∷
    Ok (on 1 1 (number 2147483647 Int) ∷ on 1 11 end_of_text ∷ []) ∷
    Ok (on 1 1 (number 4294967295 Unsigned) ∷ on 1 12 end_of_text ∷ []) ∷
    Ok (on 1 1 (number 2147483647 Int) ∷ on 1 11 end_of_text ∷ []) ∷
    Ok (on 1 1 (number 2147483648 Unsigned) ∷ on 1 11 end_of_text ∷ []) ∷
    Ok (on 1 1 (number 4294967295 Unsigned) ∷ on 1 11 end_of_text ∷ []) ∷
    Ok (on 1 1 (number 30 Int) ∷ on 1 5 (mark m.Minus) ∷ on 1 6 (number 1 Int) ∷ on 1 7 end_of_text ∷ []) ∷
    Ok (on 1 1 (mark m.Minus) ∷ on 1 3 (mark m.Minus) ∷ on 1 4 (number 1 Int) ∷ on 1 5 end_of_text ∷ []) ∷ [])
unfolding tokens_of lex step start first_token reserved_word used_word is_unused longest_mark literal_word
literals = refl

-- what no literal is, at its first byte
no_literals : all_of (codes " 2147483648" ∷ codes " 4294967296u" ∷ codes " 0x100000000" ∷ codes " 08" ∷ codes " 00" ∷ codes " 0x" ∷ codes " 0xu" ∷
    codes " 3uu" ∷ codes " 3a" ∷ codes " 1_" ∷ codes " 0b1" ∷ codes " 5L" ∷ []) ≡
    replicate 12 (Err (Token 1 2))
unfolding tokens_of lex step start first_token reserved_word used_word is_unused longest_mark literal_word
no_literals = refl

-- words: every keyword is reserved, and a longer or shorter word is a name
words_and_names : all_of (codes "unsigned _Bool PREDICTABLE in inx _ voi" ∷ []) ≡ (Ok (
    on 1 1 (word w.Unsigned) ∷ on 1 10 (word w.Unused) ∷ on 1 16 (word w.Predictable) ∷ on 1 28 (word w.In) ∷ on 1 31 (name (codes "inx")) ∷ on 1 35
    (name (codes "_")) ∷ on 1 37 (name (codes "voi")) ∷ on 1 40 end_of_text ∷ []) ∷ [])
unfolding tokens_of lex step start first_token reserved_word used_word is_unused longest_mark literal_word
words_and_names = refl

-- a name of 64 bytes, and one of 65
long_names : all_of (replicate 64 97 ∷ (32 ∷ replicate 65 97) ∷ []) ≡ (Ok (on 1 1 (name (replicate 64 97)) ∷ on 1 65 end_of_text ∷ []) ∷ Err (Token 1 2) ∷ [])
unfolding tokens_of lex step start first_token reserved_word used_word is_unused longest_mark literal_word
long_names = refl

-- comments: any byte inside, no nesting, and one that isn't closed
comments : all_of ((codes "/*" ++ (128 ∷ 0 ∷ []) ++ codes "/**/;") ∷ (codes "//" ++ (255 ∷ 92 ∷ 10 ∷ []) ++ codes ";")
    ∷ codes "//" ∷ codes "/***/" ∷ codes "; /*/" ∷ codes "/* *" ∷ (codes "a/*" ++ (10 ∷ []) ++ codes "*") ∷ []) ≡ (
    Ok (on 1 9 (mark m.Semicolon) ∷ on 1 10 end_of_text ∷ []) ∷
    Ok (on 2 1 (mark m.Semicolon) ∷ on 2 2 end_of_text ∷ []) ∷
    Ok (on 1 3 end_of_text ∷ []) ∷
    Ok (on 1 6 end_of_text ∷ []) ∷
    Err (Token 1 3) ∷ Err (Token 1 1) ∷ Err (Token 1 2) ∷ [])
unfolding tokens_of lex step start first_token reserved_word used_word is_unused longest_mark literal_word
comments = refl

-- bytes that are no text, and those at which no token begins; the first one decides
no_tokens : all_of ((10 ∷ 59 ∷ 128 ∷ []) ∷ (97 ∷ 127 ∷ []) ∷ (0 ∷ 64 ∷ []) ∷ (64 ∷ 0 ∷ []) ∷ codes " #" ∷ codes " 'a'" ∷ codes " ?" ∷ codes " ." ∷ codes " :" ∷ codes " $" ∷ []) ≡
    (Err (NotText 2) ∷ Err (NotText 1) ∷ Err (NotText 0) ∷ Err (Token 1 1) ∷ replicate 6 (Err (Token 1 2)))
unfolding tokens_of lex step start first_token reserved_word used_word is_unused longest_mark literal_word
no_tokens = refl
