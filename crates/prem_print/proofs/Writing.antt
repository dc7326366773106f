-- Laws of tokens put behind a text.
use Rattle.std.proofs.Common.{◌≡◌, ℕ, ◌-◌, List, [], ◌∷◌, ◌++◌, length, map, refl, ap, sym, ◌∙◌, append_assoc, take, arith}
use Rattle.std.proofs.Math.Seq.{take-append_seam}
use Rattle.std.proofs.lemmas.List.{length-append}
use Rattle.prem_text.specs.Lexing.Token.Lexeme.{Lexeme}
use Rattle.prem_text.specs.Spelling.Spelled.{joined}
use Rattle.prem_text.specs.Canonical.Printed.{lexeme_bytes, spelling_of}
use Rattle.prem_print.specs.Written.{piece, written}

pub written_append : (text : List ℕ) (xs ys : List Lexeme) → written text (xs ++ ys) ≡ written (written text xs) ys
written_append text [] ys = refl
written_append text (x ∷ xs) ys = written_append (text ++ piece x) xs ys

-- what is left is written behind its first part
pub behind_part : (text now : List ℕ) (part rest all : List Lexeme) → now ≡ written text part → all ≡ part ++ rest → written now rest ≡ written text all
behind_part text now part rest all is parts = ap (λ (t : List ℕ). written t rest) is ∙ sym (written_append text part rest) ∙ ap (written text) (sym parts)

-- written behind a text, tokens stand there with a blank between each two and one behind the last
written_joined : (text : List ℕ) (x : Lexeme) (xs : List Lexeme) → written text (x ∷ xs) ≡ text ++ (joined (map spelling_of (x ∷ xs)) ++ 32 ∷ [])
unfolding piece
written_joined text x [] = refl
written_joined text x (y ∷ ys) =
    let j = joined (map spelling_of (y ∷ ys)) in
    let whole : (text ++ (lexeme_bytes x ++ 32 ∷ [])) ++ (j ++ 32 ∷ []) ≡ text ++ ((lexeme_bytes x ++ 32 ∷ j) ++ 32 ∷ []) =
    append_assoc text (lexeme_bytes x ++ 32 ∷ []) (j ++ 32 ∷ []) ∙ ap (λ (u : List ℕ). text ++ u)
    (append_assoc (lexeme_bytes x) (32 ∷ []) (j ++ 32 ∷ []) ∙ sym (append_assoc (lexeme_bytes x) (32 ∷ j) (32 ∷ []))) in
    written_joined (text ++ piece x) y ys ∙ whole

-- without the last blank, where there is one, it is the text with a blank between each two
pub last_taken : (xs : List Lexeme) (n : ℕ) → n ≡ length (written [] xs) → take (n - 1) (written [] xs) ≡ joined (map spelling_of xs)
last_taken [] n is = rw is refl
last_taken (x ∷ xs) n is =
    let e = written_joined [] x xs in
    let j = joined (map spelling_of (x ∷ xs)) in
    let size : n - 1 ≡ length j = omega (arith, is ∙ ap (λ (u : List ℕ). length u) e ∙ length-append j (32 ∷ [])) in
    (λ i. take (size i) (e i)) ∙ take-append_seam j (32 ∷ [])
