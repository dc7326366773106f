-- Weights of pieces at places, sum by sum.
use Rattle.std.proofs.Common.{◌≡◌, ℕ, ◌+◌, ◌*◌, ◌<◌, List, length, drop, get_or, ap, ◌∙◌, arith}
use Rattle.prem_list.specs.Sequence.{items_of}
use Rattle.prem_asm.specs.declared.piece.Piece.{Piece}
use Rattle.prem_asm.specs.declared.piece.Piece.TheVariants.{Straight, Address, Either', Repeat', CallTo}
use Rattle.prem_asm.specs.Pieces.{Pieces, no_pieces, either_end, repeat_end, size_of}
use Rattle.prem_asm.specs.PiecesOf.{piece_before, row_before, pieces_of, piece_of}
use Rattle.prem_asm.proofs.PieceWords.{drop_piece, words_drop}
use Rattle.prem_bounds.specs.Scale.{clipped}
use Rattle.prem_bounds.proofs.Sums.{clipped_product}
use Rattle.prem_wcet_laws.specs.Weights.{PlaceWeight, weighted_from}

module _ (w : PlaceWeight) (calls : ℕ → ℕ) where
  -- a piece before others
  from_before : (at : ℕ) (p : Piece) (rest : Pieces) → weighted_from w calls at (piece_before p rest) ≡ weighted_from w calls at (piece_of p) + weighted_from w calls (at + size_of (piece_of p)) rest
  from_before at (Straight code) rest =
      let e = ap (λ k. weighted_from w calls k rest) (let f : at + 4 * length (items_of code) ≡ at + size_of (piece_of (Straight code)) = omega arith in f) in omega (arith, e)
  from_before at (Address rd part plus) rest = omega arith
  from_before at (Either' test p taken q other) rest =
      let e = ap (λ k. weighted_from w calls k rest)
      (let f : either_end at (row_before taken no_pieces) (row_before other no_pieces) ≡ at + size_of (piece_of (Either' test p taken q other)) = omega arith in f) in
      omega (arith, e)
  from_before at (Repeat' turns p head test q body) rest =
      let e = ap (λ k. weighted_from w calls k rest)
      (let f : repeat_end at (row_before head no_pieces) (row_before body no_pieces) ≡ at + size_of (piece_of (Repeat' turns p head test q body)) = omega arith in f) in
      omega (arith, e)
  from_before at (CallTo link part) rest = omega arith

  pub from_drop : (ps : List Piece) (i : ℕ) (p : Piece) (at : ℕ) → i < length ps → p ≡ get_or ps i p →
      weighted_from w calls at (pieces_of (drop i ps)) ≡ weighted_from w calls at (piece_of p) + weighted_from w calls (at + size_of (piece_of p)) (pieces_of (drop (i + 1) ps))
  from_drop ps i p at h is = ap (weighted_from w calls at) (drop_piece ps i p h is) ∙ from_before at p (pieces_of (drop (i + 1) ps))

-- so many bytes as they have, before others
pub size_drop : (ps : List Piece) (i : ℕ) (p : Piece) → i < length ps → p ≡ get_or ps i p →
    size_of (pieces_of (drop i ps)) ≡ size_of (piece_of p) + size_of (pieces_of (drop (i + 1) ps))
size_drop ps i p h is = let e = words_drop ps i p h is in omega (arith, e)

-- what the code of a loop sums
pub repeat_told : (n h b j k l first inside branch back leave start through turn out all sum : ℕ) → first ≡ clipped h → inside ≡ clipped b →
    branch ≡ j → back ≡ k → leave ≡ l → start ≡ clipped (first + branch) →
    through ≡ clipped (start + inside) → turn ≡ clipped (through + back) → out ≡ clipped (start + leave) → all ≡ clipped (n * turn) → sum ≡ clipped (all + out) →
    sum ≡ clipped (n * (h + j + b + k) + (h + j + l) + 0)
repeat_told n h b j k l first inside branch back leave start through turn out all sum f i e1 e2 e3 s t u o a e =
    let whole : turn ≡ clipped (h + j + b + k) = omega (arith, f, i, e1, e2, s, t, u) in
    let last : out ≡ clipped (h + j + l) = omega (arith, f, e1, e3, s, o) in
    ends (n * turn) (n * (h + j + b + k)) (h + j + l) all out sum a (clipped_product n turn (h + j + b + k) whole) last e
  where
    ends : (p q r all out sum : ℕ) → all ≡ clipped p → clipped p ≡ clipped q → out ≡ clipped r → sum ≡ clipped (all + out) → sum ≡ clipped (q + r + 0)
    ends p q r all out sum a pq o e = omega (arith, a, pq, o, e)
