-- The canonical spelling of a text's tree is read back.
use Rattle.std.proofs.Common.{◌≡◌, ◌≤◌, ◌<◌, nat_lt, Bool, true, false, arith, ℕ, suc, List, [], ◌∷◌, ◌++◌, length, Result, Ok, Err, refl, ap, sym, subst, ◌∙◌, map}
use Rattle.prem_text.proofs.Prelude.{ProgramText, program_lexemes, IsOfText, lexemes_of, AreCanonical, IsSpelled, IsTextOf, Fits, IsTooLong, too_many_bytes, too_many_tokens, ReadBack}
use Rattle.prem_text.proofs.Prelude.{gives_back, is_too_long, lexeme_bytes, spelling_of, printed, unplaced, outside, finished, stages, ProgramPhrase, IsProgram, program_tokens, program_tree}
use Rattle.prem_text.proofs.Prelude.{Lexeme, end_of_text, Seen, tokens_of, Divides, AreTokens, too_long, too_many, place_behind, AreSpellings, placed, reads, IsNoProgram, not_divided}
use Rattle.prem_text.proofs.Prelude.{unexpected, FrontFail, TooLong, nat_tests}
use Rattle.prem_text.proofs.CanonicalLemmas.Aside.{program_aside}
use Rattle.prem_text.proofs.CanonicalLemmas.Items.{program_said}
use Rattle.prem_text.proofs.CanonicalLemmas.ItemsSaid.{items_said, items_shaped}
use Rattle.prem_text.proofs.CanonicalLemmas.Parts.{Are, are_own}
use Rattle.prem_text.proofs.CanonicalLemmas.Sayable.{AreSayable, AreSaid, front, tokens_said}
use Rattle.prem_text.proofs.CanonicalLemmas.Shaped.{AreShapedItems}
use Rattle.prem_text.proofs.CanonicalLemmas.Spelled.{are_spellings}
use Rattle.prem_text.proofs.GrammarLemmas.Program.{Reached, reached, some_same, program_stages}
use Rattle.prem_text.proofs.SpellingLemmas.Exact.{complete, refusals_complete}
use Rattle.prem_text.proofs.SpellingLemmas.Joined.{divided, placed_length}
use Rattle.prem_text.proofs.Whole.{text_sound, text_refused, no_program_refused}
use Rattle.prem_text.specs.Canonical.Law.{is_too_deep}
use Rattle.prem_text.specs.Texts.{past}

-- ---- how many tokens there are

-- ---- what a text tells of its tree

shaped_of : (p : ProgramText) → IsOfText p → AreShapedItems (unplaced p)
shaped_of p is =
    let t = is.is_text in
    subst AreShapedItems (ap unplaced t.tree ∙ sym is.same) (items_shaped t.phrase.items t.right.0)

sayable_of : (p : ProgramText) → IsOfText p → AreSayable (program_lexemes p)
sayable_of p is =
    let t = is.is_text in
    let all = subst AreSaid (sym t.spelled) (tokens_said is.text t.all t.tokens) in
    let said = items_said t.phrase.items t.right.0 (front _ t.phrase.end all) in
    let same : program_lexemes is.items ≡ program_lexemes p = sym (program_aside is.items) ∙ ap program_lexemes (sym is.same) ∙ program_aside p in
    subst AreSayable same (subst (λ (items : ProgramText). AreSayable (program_lexemes items)) t.tree said)

pub canonical_spelled : (p : ProgramText) (ts : List Seen) → IsOfText p → AreCanonical p ts → IsSpelled p ts
canonical_spelled p ts is canonical =
    let s = program_said p ts (shaped_of p is) (subst (λ (xs : List Lexeme). Are xs ts) canonical (are_own ts)) in
    record { phrase = s.phrase; right = s.right; tokens = s.tokens; same = s.same }

pub canonical_spellings : (p : ProgramText) → IsOfText p → AreSpellings (map spelling_of (program_lexemes p))
canonical_spellings p is = are_spellings (program_lexemes p) (sayable_of p is)

-- ---- tokens

pub lexemes_placed : (before : List ℕ) (xs : List Lexeme) → lexemes_of (placed before (map spelling_of xs)) ≡ xs
lexemes_placed before [] = refl
lexemes_placed before (x ∷ xs) = ap (λ (ys : List Lexeme). x ∷ ys) (lexemes_placed (before ++ lexeme_bytes x ++ 32 ∷ []) xs)

pub and_end : (ts : List Seen) (xs : List Lexeme) (t : Seen) → lexemes_of ts ≡ xs → lexemes_of (ts ++ t ∷ []) ≡ xs ++ t.0 ∷ []
and_end ts xs t is = appended ts t ∙ ap (λ (ys : List Lexeme). ys ++ t.0 ∷ []) is
  where
    appended : (ts : List Seen) (t : Seen) → lexemes_of (ts ++ t ∷ []) ≡ lexemes_of ts ++ t.0 ∷ []
    appended [] t = refl
    appended (u ∷ ts) t = ap (λ (ys : List Lexeme). u.0 ∷ ys) (appended ts t)

abbrev pub tokens_in : ProgramText → List Seen
tokens_in p = placed [] (map spelling_of (program_lexemes p))

own_division : (p : ProgramText) → IsOfText p → Divides [] (printed p) (tokens_in p) []
own_division p is = divided [] (map spelling_of (program_lexemes p)) (canonical_spellings p is)

own_program : (p : ProgramText) → IsOfText p → IsSpelled p (tokens_in p ++ (end_of_text, place_behind (printed p)) ∷ [])
own_program p is = canonical_spelled p _ is (and_end (tokens_in p) (program_lexemes p) (end_of_text, place_behind (printed p)) (lexemes_placed [] (program_lexemes p)))

pub canonical_divided : (p : ProgramText) → IsOfText p → IsTextOf p (printed p)
canonical_divided p is = record { tokens = tokens_in p; divides = own_division p is; canonical = lexemes_placed [] (program_lexemes p); is_spelled = own_program p is }

pub length_spelled : (xs : List Lexeme) → length (map spelling_of xs) ≡ length xs
length_spelled [] = refl
length_spelled (x ∷ xs) = ap (λ (n : ℕ). suc n) (length_spelled xs)

pub how_many : (p : ProgramText) → length (tokens_in p) ≡ length (program_lexemes p)
how_many p = placed_length [] (map spelling_of (program_lexemes p)) ∙ length_spelled (program_lexemes p)

-- ---- reading

-- programs with the same tokens have the same tree
pub one_tree : (p q : ProgramPhrase) → IsProgram p → IsProgram q → program_tokens p ≡ program_tokens q → program_tree p ≡ program_tree q
one_tree p q is is' same =
    let a = (program_stages p is).0 in
    let b = (program_stages q is').0 in
    let e = sym a ∙ ap (λ (ts : List Seen). stages [] outside ts) same ∙ b in
    ap (λ (r : Reached). r.0) (some_same (program_tree p) finished (reached (program_tree q) finished) e)

pub same_tokens : (text : List ℕ) (ts all : List Seen) → tokens_of text ≡ Ok ts → AreTokens text all → all ≡ ts
same_tokens text ts all read are = let e = complete text all are in cc

pub back_by : (p : ProgramText) (ts : List Seen) (r : Result ProgramText FrontFail) → Fits p → IsSpelled p ts → tokens_of (printed p) ≡ Ok ts → reads (printed p) ≡ r → ReadBack p r
back_by p ts (Ok items) fits s tokens read =
    let t = text_sound (printed p) items read in
    let same = one_tree t.phrase s.phrase t.right s.right (t.spelled ∙ same_tokens (printed p) ts t.all tokens t.tokens ∙ sym s.tokens) in
    gives_back items fits t (ap unplaced (sym t.tree ∙ same) ∙ s.same)
back_by p ts (Err fail) fits s tokens read = refused fail (text_refused (printed p) fail read)
  where
    refused : (fail : FrontFail) → IsNoProgram (printed p) fail → ReadBack p (Err fail)
    refused fail (not_divided _ why) = let e = refusals_complete (printed p) fail why in absurd cc
    refused _ (unexpected all line col are why) = absurd (why.none why.rest s.phrase s.right (s.tokens ∙ sym (same_tokens (printed p) ts all tokens are) ∙ why.parts))
    refused _ (past all line are why) = is_too_deep line all fits are why

within : (p : ProgramText) → IsOfText p → Fits p → ReadBack p (reads (printed p))
within p is fits =
    let ts = tokens_in p ++ (end_of_text, place_behind (printed p)) ∷ [] in
    let few : length (tokens_in p) ≤ 200000 = subst (λ (n : ℕ). n ≤ 200000) (sym (how_many p)) fits.tokens in
    let tokens : tokens_of (printed p) ≡ Ok ts = complete (printed p) ts (record { tokens = tokens_in p; divides = own_division p is; is_all = refl; size = fits.bytes; count = few }) in
    back_by p ts (reads (printed p)) fits (own_program p is) tokens refl

pub refused_by : (p : ProgramText) → IsNoProgram (printed p) TooLong → IsTooLong p → ReadBack p (reads (printed p))
refused_by p why long = subst (ReadBack p) (sym (no_program_refused (printed p) TooLong why)) (is_too_long long)

pub at_most : (n most : ℕ) → nat_lt most n ≡ false → n ≤ most
at_most n most is = grind (arith, nat_tests)

pub more_than : (n most : ℕ) → nat_lt most n ≡ true → most < n
more_than n most is = grind (arith, nat_tests)

read_by : (p : ProgramText) (b c : Bool) → IsOfText p → nat_lt 1048576 (length (printed p)) ≡ b → nat_lt 200000 (length (program_lexemes p)) ≡ c → ReadBack p (reads (printed p))
read_by p true c is bytes tokens =
    let lt = more_than (length (printed p)) 1048576 bytes in
    refused_by p (not_divided TooLong (too_long lt)) (too_many_bytes lt)
read_by p false true is bytes tokens =
    let lt = more_than (length (program_lexemes p)) 200000 tokens in
    let many : 200000 < length (tokens_in p) = subst (λ (n : ℕ). 200000 < n) (sym (how_many p)) lt in
    refused_by p (not_divided TooLong (too_many (tokens_in p) [] (at_most (length (printed p)) 1048576 bytes) (own_division p is) many)) (too_many_tokens lt)
read_by p false false is bytes tokens = within p is (record { bytes = at_most (length (printed p)) 1048576 bytes; tokens = at_most (length (program_lexemes p)) 200000 tokens })

pub canonical_read : (p : ProgramText) → IsOfText p → ReadBack p (reads (printed p))
canonical_read p is = read_by p (nat_lt 1048576 (length (printed p))) (nat_lt 200000 (length (program_lexemes p))) is refl refl
