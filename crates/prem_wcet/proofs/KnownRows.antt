-- Facts in memory that are alike to the definitions', one by one.
use Rattle.std.specs.Prelude.{slice_index_or, take}
use Rattle.std.proofs.Common.{◌≡◌, ℕ, zero, suc, ◌+◌, ◌<◌, ◌≤◌, List, [], ◌∷◌, ◌++◌, length, map, get_or, refl, ap, subst, arith}
use Rattle.prem_list.specs.declared.Sequence.{Sequence}
use Rattle.prem_list.specs.Sequence.{items_of}
use Rattle.prem_asm.specs.declared.piece.Piece.{Piece}
use Rattle.prem_asm.specs.Pieces.{no_pieces}
use Rattle.prem_asm.specs.PiecesOf.{pieces_of}
use Rattle.prem_bounds.specs.TableOf.{listed}
use Rattle.prem_wcet_laws.specs.Scopes.{Fact, no_fact}
use Rattle.prem_wcet.specs.Alike.{FactsAlike}
use Rattle.prem_wcet.specs.KnownOf.{AlikeRows}
use Rattle.prem_wcet.specs.SceneOf.{fact_in, facts_in}
use Rattle.prem_wcet.specs.declared.scene.Fact.{Fact as FactTree}

same_fact : (x : Fact) → FactsAlike x x
same_fact x = record { pieces = refl; code = λ p. refl; touched = λ p. refl; cuts = refl; least = refl; parted = record { total = refl; sums = refl } }

pub rows_each : (xs ys : List Fact) → AlikeRows xs ys → (f : ℕ) → FactsAlike (slice_index_or xs f no_fact) (slice_index_or ys f no_fact)
rows_each [] [] h f = same_fact no_fact
rows_each [] (y ∷ ys) h f = absurd h
rows_each (x ∷ xs) [] h f = absurd h
rows_each (x ∷ xs) (y ∷ ys) h zero = h.0
rows_each (x ∷ xs) (y ∷ ys) h (suc f) = rows_each xs ys h.1 f

pub rows_pieces : (xs ys : List Fact) → AlikeRows xs ys → map (λ (f : Fact). f.pieces) xs ≡ map (λ (f : Fact). f.pieces) ys
rows_pieces [] [] h = refl
rows_pieces [] (y ∷ ys) h = absurd h
rows_pieces (x ∷ xs) [] h = absurd h
rows_pieces (x ∷ xs) (y ∷ ys) h = λ i. (h.0).pieces i ∷ rows_pieces xs ys h.1 i

-- one more
row_more : (xs ys : List Fact) (n : ℕ) (x : Fact) → AlikeRows xs (take n ys) → n < length ys → FactsAlike x (slice_index_or ys n no_fact) → AlikeRows (xs ++ x ∷ []) (take (suc n) ys)
row_more xs [] n x h lt alike = absurd (omega (arith, lt))
row_more [] (y ∷ ys) zero x h lt alike = (alike, tt)
row_more (z ∷ zs) (y ∷ ys) zero x h lt alike = absurd h
row_more [] (y ∷ ys) (suc n) x h lt alike = absurd h
row_more (z ∷ zs) (y ∷ ys) (suc n) x h lt alike = (h.0, row_more zs ys n x h.1 (omega (arith, lt)) alike)

pub rows_more : (xs ys : List Fact) (n : ℕ) (x : Fact) → AlikeRows xs (take n ys) → n < length ys → FactsAlike x (slice_index_or ys n no_fact) → AlikeRows (xs ++ x ∷ []) (take (n + 1) ys)
rows_more xs ys n x h lt alike = let next : suc n ≡ n + 1 = omega arith in subst (λ k. AlikeRows (xs ++ x ∷ []) (take k ys)) next (row_more xs ys n x h lt alike)

pub facts_more : (fs : List FactTree) (x : FactTree) (code : List (Sequence Piece)) → length fs < length code →
    facts_in (fs ++ x ∷ []) code ≡ facts_in fs code ++ fact_in x (get_or (listed code) (length fs) no_pieces) ∷ []
facts_more [] x [] lt = absurd (omega (arith, lt))
facts_more [] x (s ∷ ss) lt = refl
facts_more (f ∷ fs) x [] lt = absurd (omega (arith, lt))
facts_more (f ∷ fs) x (s ∷ ss) lt = ap (λ gs. fact_in f (pieces_of (items_of s)) ∷ gs) (facts_more fs x ss (omega (arith, lt)))

-- all of them
pub take_whole : (ys : List Fact) (n : ℕ) → length ys ≤ n → take n ys ≡ ys
take_whole [] zero le = refl
take_whole [] (suc n) le = refl
take_whole (y ∷ ys) zero le = absurd (omega (arith, le))
take_whole (y ∷ ys) (suc n) le = ap (λ zs. y ∷ zs) (take_whole ys n (omega (arith, le)))
