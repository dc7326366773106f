-- Spellings with a blank between are read back.
use Rattle.std.proofs.Common.{append-nil, ◌≡◌, ◌≤◌, ℕ, suc, Bool, true, false, List, [], ◌∷◌, ◌++◌, length, Ok, refl, sym, ap, subst, ◌∙◌, arith, ◌&&◌, ◌==◌, not, zero-le}
use Rattle.prem_text.proofs.Prelude.{marks, Lexeme, end_of_text, is_name_byte, is_blank, begins_with, tokens_of, a_blank, goes_on, opens_comment, IsToken, place_behind, Divides, up_to, gap}
use Rattle.prem_text.proofs.Prelude.{token, Spelling, AreSpellings, joined, placed, every, Spells, Mark, and_parts, and_from, and_left, and_right, or_from, nat_tests}
use Rattle.prem_text.proofs.SpellingLemmas.Bytes.{every_more, name_blank}
use Rattle.prem_text.proofs.SpellingLemmas.Exact.{complete}
use Rattle.prem_text.proofs.SpellingLemmas.Front.{Shape, a_word, a_mark, shape, mark_no_blank}
use Rattle.prem_text.proofs.SpellingLemmas.Marks.{is_mark_byte, is_mark_text, mark_text}
use Rattle.prem_text.proofs.SpellingLemmas.Tables.{stands_every}

abbrev is_dark : ℕ → Bool
is_dark b = not (is_blank b)

-- nothing, or a blank
data IsApart : List ℕ → Type 0 where
  nothing : IsApart []
  a_space : (rest : List ℕ) → IsApart (32 ∷ rest)

dark_name : (b : ℕ) → is_name_byte b ≡ true → is_dark b ≡ true
dark_name b is = ap not (name_blank b is)

dark_mark : (b : ℕ) → is_mark_byte b ≡ true → is_dark b ≡ true
dark_mark b is = ap not (mark_no_blank b is)

dark_text : (bytes : List ℕ) → is_mark_text bytes ≡ true → every is_dark bytes ≡ true
dark_text [] is = absurd cc
dark_text (a ∷ []) is = and_from (is_dark a) true (dark_mark a is) refl
dark_text (a ∷ b ∷ []) is =
    let parts = and_parts (is_mark_byte a) (is_mark_byte b) is in
    and_from (is_dark a) (is_dark b && true) (dark_mark a parts.0) (and_from (is_dark b) true (dark_mark b parts.1) refl)
dark_text (a ∷ b ∷ c ∷ rest) is = absurd cc

dark : (bytes : List ℕ) → Shape bytes → every is_dark bytes ≡ true
dark _ (a_word b more first all) = and_from (is_dark b) (every is_dark more) (dark_name b first) (every_more is_name_byte is_dark dark_name more all)
dark _ (a_mark bytes m there) = dark_text bytes (mark_text bytes m there)

-- a spelling that begins a text doesn't go past a blank
dark_longest : (s rest more later : List ℕ) → IsApart rest → every is_dark more ≡ true → s ++ rest ≡ more ++ later → length more ≤ length s
dark_longest s rest [] later apart all e = zero-le
dark_longest [] _ (b ∷ more) later nothing all e = absurd cc
dark_longest [] _ (b ∷ more) later (a_space rest) all e =
    let same : 32 ≡ b = cc in
    let light : is_dark b ≡ false = ap is_dark (sym same) in
    let clash : true ≡ false = sym (and_parts (is_dark b) (every is_dark more) all).0 ∙ light in absurd cc
dark_longest (c ∷ s) rest (b ∷ more) later apart all e =
    let tails : s ++ rest ≡ more ++ later = cc in
    let le = dark_longest s rest more later apart (and_parts (is_dark b) (every is_dark more) all).1 tails in
    omega arith

stops : (rest : List ℕ) → IsApart rest → goes_on rest ≡ false
stops _ nothing = refl
stops _ (a_space rest) = refl

-- no mark of two bytes begins as a comment does
abbrev is_no_comment : List ℕ → Bool
is_no_comment (a ∷ b ∷ rest) = not (a == 47)
is_no_comment _ = true

marks_open_none : every (λ (x : List ℕ × Mark). is_no_comment x.0) marks ≡ true
marks_open_none = refl

not_slash : (b : ℕ) → is_name_byte b ≡ true → (b == 47) ≡ false
not_slash b is = grind (arith, nat_tests)

mark_opens_none : (bytes rest : List ℕ) → is_mark_text bytes ≡ true → is_no_comment bytes ≡ true → IsApart rest → opens_comment (bytes ++ rest) ≡ false
mark_opens_none [] rest is none apart = absurd cc
mark_opens_none (a ∷ []) _ is none nothing = or_from ((a == 47) && false) ((a == 47) && false) (and_right (a == 47) false refl) (and_right (a == 47) false refl)
mark_opens_none (a ∷ []) _ is none (a_space rest) = or_from ((a == 47) && false) ((a == 47) && false) (and_right (a == 47) false refl) (and_right (a == 47) false refl)
mark_opens_none (a ∷ b ∷ []) rest is none apart =
    let other : (a == 47) ≡ false = not_true (a == 47) none in
    or_from ((a == 47) && (b == 42)) ((a == 47) && (b == 47)) (and_left (a == 47) (b == 42) other) (and_left (a == 47) (b == 47) other)
  where
    not_true : (t : Bool) → not t ≡ true → t ≡ false
    not_true true e = sym e
    not_true false e = refl
mark_opens_none (a ∷ b ∷ c ∷ more) rest is none apart = absurd cc

opens_none : (bytes rest : List ℕ) → Shape bytes → IsApart rest → opens_comment (bytes ++ rest) ≡ false
opens_none _ rest (a_word b more first all) apart =
    let other = not_slash b first in
    or_from (begins_with 47 42 (b ∷ more ++ rest)) (begins_with 47 47 (b ∷ more ++ rest)) (and_left (b == 47) _ other) (and_left (b == 47) _ other)
opens_none _ rest (a_mark bytes m there) apart =
    mark_opens_none bytes rest (mark_text bytes m there) (stands_every (λ (x : List ℕ × Mark). is_no_comment x.0) (bytes, m) marks there marks_open_none) apart

-- a spelling before nothing or a blank is a token
alone : (bytes rest : List ℕ) (t : Lexeme) → Spells bytes t → IsApart rest → IsToken bytes rest t
alone bytes rest t s apart = record {
  spells = s;
  longest = λ more later u e spelled. dark_longest bytes rest more later apart (dark more (shape more u spelled)) e;
  apart = λ _. stops rest apart;
  no_comment = opens_none bytes rest (shape bytes t s) apart;
}

pub divided : (before : List ℕ) (xs : List Spelling) → AreSpellings xs → Divides before (joined xs) (placed before xs) []
divided before [] all = up_to before []
divided before (x ∷ []) all =
    subst (λ (text : List ℕ). Divides before text ((x.1, place_behind before) ∷ []) []) (append-nil x.0)
    (token before x.0 [] x.1 [] [] (alone x.0 [] x.1 all.0 nothing) (up_to (before ++ x.0) []))
divided before (x ∷ y ∷ ys) all =
    let rest = divided (before ++ x.0 ++ 32 ∷ []) (y ∷ ys) all.1 in
    token before x.0 (32 ∷ joined (y ∷ ys)) x.1 (placed (before ++ x.0 ++ 32 ∷ []) (y ∷ ys)) [] (alone x.0 (32 ∷ joined (y ∷ ys)) x.1 all.0 (a_space (joined (y ∷ ys))))
    (gap (before ++ x.0) (32 ∷ []) (joined (y ∷ ys)) (placed (before ++ x.0 ++ 32 ∷ []) (y ∷ ys)) [] (a_blank 32 (joined (y ∷ ys)) refl) rest)

pub placed_length : (before : List ℕ) (xs : List Spelling) → length (placed before xs) ≡ length xs
placed_length before [] = refl
placed_length before (x ∷ xs) = ap suc (placed_length (before ++ x.0 ++ 32 ∷ []) xs)

pub spelled_read : (xs : List Spelling) → AreSpellings xs → length (joined xs) ≤ 1048576 → length xs ≤ 200000 →
    tokens_of (joined xs) ≡ Ok (placed [] xs ++ (end_of_text, place_behind (joined xs)) ∷ [])
spelled_read xs all size count =
    complete (joined xs) (placed [] xs ++ (end_of_text, place_behind (joined xs)) ∷ []) (record {
      tokens = placed [] xs;
      divides = divided [] xs all;
      is_all = refl;
      size = size;
      count = subst (λ (k : ℕ). k ≤ 200000) (sym (placed_length [] xs)) count;
    })
