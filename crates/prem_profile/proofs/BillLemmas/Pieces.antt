-- The bill of pieces one behind another.
use Rattle.std.proofs.Common.{◌≡◌, ℕ, ◌+◌, ◌*◌, ◌<◌, List, [], ◌∷◌, ◌++◌, append_assoc, length, drop, get_or, ap, sym, ◌∙◌, arith}
use Rattle.prem_isa.specs.declared.instr.Instr.TheVariants.{Lui, OpImm}
use Rattle.prem_isa.specs.declared.instr.AluOp.TheVariants.{Add}
use Rattle.prem_asm.specs.declared.piece.Piece.{Piece}
use Rattle.prem_asm.specs.Pieces.{Pieces, no_pieces, straight, address_of, either, repeat, call_to, back_at, branch_of, either_end, followed, other_at, repeat_end, size_of, skip_at, skip_words, test_at}
use Rattle.prem_asm.specs.PiecesOf.{piece_of, pieces_of}
use Rattle.prem_asm.proofs.PieceWords.{drop_piece}
use Rattle.prem_asm.proofs.Rows.{piece_before-followed}
use Rattle.std.specs.Prelude.{pos}
use Rattle.prem_profile.specs.Bound.Bills.{Bill, bill_times, dearer}
use Rattle.prem_profile.specs.Bound.Pieces.{PlaceCost, bill_from, item, jump_item, straight_bill}

joined : (xs ys zs us : Bill) → ys ≡ zs ++ us → xs ++ ys ≡ (xs ++ zs) ++ us
joined xs ys zs us e = ap (λ y. xs ++ y) e ∙ sym (append_assoc xs zs us)

-- what was there, and what is left behind one more
pub gone : (bill more here all total rest left : Bill) → more ≡ bill ++ here → rest ≡ left → all ≡ here ++ left → bill ++ all ≡ total → more ++ rest ≡ total
gone bill more here all total rest left m r a t = (λ i. m i ++ r i) ∙ append_assoc bill here left ∙ ap (λ y. bill ++ y) (sym a) ∙ t

module _ (c : PlaceCost) (calls : ℕ → Bill) where
  -- at another place that is the same
  there : (bill : Bill) (j k : ℕ) (qs : Pieces) → j ≡ k → bill ++ bill_from c calls j qs ≡ bill ++ bill_from c calls k qs
  there bill j k qs e = ap (λ n. bill ++ bill_from c calls n qs) e

  pub bill_followed : (at : ℕ) (ps qs : Pieces) → bill_from c calls at (followed ps qs) ≡ bill_from c calls at ps ++ bill_from c calls (at + size_of ps) qs
  bill_followed at no_pieces qs = let same : at ≡ at + size_of no_pieces = omega arith in ap (λ n. bill_from c calls n qs) same
  bill_followed at (straight code rest) qs =
      let place : at + 4 * length code + size_of rest ≡ at + size_of (straight code rest) = omega arith in
      joined (straight_bill c at code) _ (bill_from c calls (at + 4 * length code) rest) (bill_from c calls (at + size_of (straight code rest)) qs)
      (bill_followed (at + 4 * length code) rest qs ∙ there (bill_from c calls (at + 4 * length code) rest) _ _ qs place)
  bill_followed at (address_of rd part more rest) qs =
      let place : at + 8 + size_of rest ≡ at + size_of (address_of rd part more rest) = omega arith in
      joined (item c at (Lui 0 0) ∷ item c (at + 4) (OpImm Add 0 0 (pos 0)) ∷ []) _ (bill_from c calls (at + 8) rest) (bill_from c calls (at + size_of (address_of rd part more rest)) qs)
      (bill_followed (at + 8) rest qs ∙ there (bill_from c calls (at + 8) rest) _ _ qs place)
  bill_followed at (either test taken other rest) qs =
      let end : ℕ = either_end at taken other in
      let place : end + size_of rest ≡ at + size_of (either test taken other rest) = omega arith in
      joined
      (item c at (branch_of test)
      ∷ dearer (bill_from c calls (at + 8) taken ++ bill_times (skip_words other) (jump_item c (skip_at at taken) ∷ []))
      (jump_item c (at + 4) ∷ bill_from c calls (other_at at taken other) other))
      _ (bill_from c calls end rest) (bill_from c calls (at + size_of (either test taken other rest)) qs)
      (bill_followed end rest qs ∙ there (bill_from c calls end rest) _ _ qs place)
  bill_followed at (repeat turns head test body rest) qs =
      let end : ℕ = repeat_end at head body in
      let place : end + size_of rest ≡ at + size_of (repeat turns head test body rest) = omega arith in
      let out : Bill = bill_from c calls at head ++ item c (test_at at head) (branch_of test) ∷ jump_item c (test_at at head + 4) ∷ [] in
      let behind : Bill = bill_from c calls (at + size_of (repeat turns head test body rest)) qs in
      joined
      (bill_times turns
      (bill_from c calls at head ++ (item c (test_at at head) (branch_of test) ∷ (bill_from c calls (test_at at head + 8) body ++ jump_item c (back_at at head body) ∷ []))))
      _ (out ++ bill_from c calls end rest) behind
      (joined out _ (bill_from c calls end rest) behind (bill_followed end rest qs ∙ there (bill_from c calls end rest) _ _ qs place))
  bill_followed at (call_to link part rest) qs =
      let place : at + 4 + size_of rest ≡ at + size_of (call_to link part rest) = omega arith in
      joined (jump_item c at ∷ calls part) _ (bill_from c calls (at + 4) rest) (bill_from c calls (at + size_of (call_to link part rest)) qs)
      (bill_followed (at + 4) rest qs ∙ there (bill_from c calls (at + 4) rest) _ _ qs place)

  pub from_drop : (ps : List Piece) (i : ℕ) (p : Piece) (at : ℕ) → i < length ps → p ≡ get_or ps i p →
      bill_from c calls at (pieces_of (drop i ps)) ≡ bill_from c calls at (piece_of p) ++ bill_from c calls (at + size_of (piece_of p)) (pieces_of (drop (i + 1) ps))
  from_drop ps i p at h is =
      ap (bill_from c calls at) (drop_piece ps i p h is ∙ piece_before-followed p (pieces_of (drop (i + 1) ps))) ∙ bill_followed at (piece_of p) (pieces_of (drop (i + 1) ps))
