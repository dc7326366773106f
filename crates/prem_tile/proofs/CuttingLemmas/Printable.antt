-- The canonical spelling of a tree of the right shape, whose tokens can be spelled, is read back, or is past a limit.
use Rattle.std.proofs.Common.{◌≡◌, ◌≤◌, ◌<◌, nat_lt, Bool, true, false, ℕ, List, [], ◌∷◌, ◌++◌, length, Ok, refl, ap, sym, subst, map}
use Rattle.prem_syntax.specs.Syntax.{ProgramText}
use Rattle.prem_text.specs.declared.lexing.token.fail.FrontFail.TheVariants.{TooLong}
use Rattle.prem_text.specs.Lexing.Token.Lexeme.{Lexeme, end_of_text}
use Rattle.prem_text.specs.Lexing.Tokens.{tokens_of}
use Rattle.prem_text.specs.Spelling.Division.{Divides, too_long, too_many, place_behind}
use Rattle.prem_text.specs.Texts.{reads, not_divided}
use Rattle.prem_text.specs.Canonical.Unplaced.{unplaced}
use Rattle.prem_text.specs.Canonical.Canonical.{program_lexemes}
use Rattle.prem_text.specs.Canonical.Printed.{spelling_of, printed}
use Rattle.prem_text.specs.Canonical.Law.{IsSpelled, Fits, too_many_bytes, too_many_tokens, ReadBack}
use Rattle.prem_text.proofs.SpellingLemmas.Exact.{complete}
use Rattle.prem_text.proofs.SpellingLemmas.Joined.{divided}
use Rattle.prem_text.proofs.Whole.{text_sound}
use Rattle.prem_text.proofs.CanonicalLemmas.Parts.{Are, are_own}
use Rattle.prem_text.proofs.CanonicalLemmas.Shaped.{AreShapedItems}
use Rattle.prem_text.proofs.CanonicalLemmas.Items.{program_said}
use Rattle.prem_text.proofs.CanonicalLemmas.Sayable.{AreSayable, AreSaid, front, tokens_said}
use Rattle.prem_text.proofs.CanonicalLemmas.ItemsSaid.{items_said, items_shaped}
use Rattle.prem_text.proofs.CanonicalLemmas.Spelled.{are_spellings}
use Rattle.prem_text.proofs.CanonicalLemmas.Read.{back_by, and_end, lexemes_placed, refused_by, how_many, at_most, more_than, tokens_in}

-- a tree that can be printed so that it is read again
pub record IsPrintable (p : ProgramText) : Type 0 where
  pub shaped : AreShapedItems (unplaced p)
  pub sayable : AreSayable (program_lexemes p)

-- that of a text is one
pub read_printable : (text : List ℕ) (p : ProgramText) → reads text ≡ Ok p → IsPrintable p
read_printable text p e =
    let t = text_sound text p e in
    let all = subst AreSaid (sym t.spelled) (tokens_said text t.all t.tokens) in
    record {
      shaped = subst AreShapedItems (ap unplaced t.tree) (items_shaped t.phrase.items t.right.0);
      sayable = subst (λ (items : ProgramText). AreSayable (program_lexemes items)) t.tree (items_said t.phrase.items t.right.0 (front _ t.phrase.end all));
    }

-- ---- tokens

own_division : (p : ProgramText) → IsPrintable p → Divides [] (printed p) (tokens_in p) []
own_division p is = divided [] (map spelling_of (program_lexemes p)) (are_spellings (program_lexemes p) is.sayable)

own_program : (p : ProgramText) → IsPrintable p → IsSpelled p (tokens_in p ++ (end_of_text, place_behind (printed p)) ∷ [])
own_program p is =
    let ts = tokens_in p ++ (end_of_text, place_behind (printed p)) ∷ [] in
    let canonical = and_end (tokens_in p) (program_lexemes p) (end_of_text, place_behind (printed p)) (lexemes_placed [] (program_lexemes p)) in
    let s = program_said p ts is.shaped (subst (λ (xs : List Lexeme). Are xs ts) canonical (are_own ts)) in
    record { phrase = s.phrase; right = s.right; tokens = s.tokens; same = s.same }

-- ---- reading

within : (p : ProgramText) → IsPrintable p → Fits p → ReadBack p (reads (printed p))
within p is fits =
    let ts = tokens_in p ++ (end_of_text, place_behind (printed p)) ∷ [] in
    let few : length (tokens_in p) ≤ 200000 = subst (λ (n : ℕ). n ≤ 200000) (sym (how_many p)) fits.tokens in
    let tokens : tokens_of (printed p) ≡ Ok ts = complete (printed p) ts (record { tokens = tokens_in p; divides = own_division p is; is_all = refl; size = fits.bytes; count = few }) in
    back_by p ts (reads (printed p)) fits (own_program p is) tokens refl

read_by : (p : ProgramText) (b c : Bool) → IsPrintable p → nat_lt 1048576 (length (printed p)) ≡ b → nat_lt 200000 (length (program_lexemes p)) ≡ c → ReadBack p (reads (printed p))
read_by p true c is bytes tokens =
    let lt = more_than (length (printed p)) 1048576 bytes in
    refused_by p (not_divided TooLong (too_long lt)) (too_many_bytes lt)
read_by p false true is bytes tokens =
    let lt = more_than (length (program_lexemes p)) 200000 tokens in
    let many : 200000 < length (tokens_in p) = subst (λ (n : ℕ). 200000 < n) (sym (how_many p)) lt in
    refused_by p (not_divided TooLong (too_many (tokens_in p) [] (at_most (length (printed p)) 1048576 bytes) (own_division p is) many)) (too_many_tokens lt)
read_by p false false is bytes tokens = within p is (record { bytes = at_most (length (printed p)) 1048576 bytes; tokens = at_most (length (program_lexemes p)) 200000 tokens })

pub printable_read : (p : ProgramText) → IsPrintable p → ReadBack p (reads (printed p))
printable_read p is = read_by p (nat_lt 1048576 (length (printed p))) (nat_lt 200000 (length (program_lexemes p))) is refl refl
