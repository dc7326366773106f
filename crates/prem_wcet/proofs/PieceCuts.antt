-- Slices of pieces in memory, as the pieces that they stand for.
use Rattle.std.proofs.Common.{◌≡◌, ℕ, zero, suc, ◌-◌, ◌≤◌, List, [], ◌∷◌, length, take, drop, get_or, refl, ap, sym, ◌∙◌, arith}
use Rattle.prem_asm.specs.declared.piece.Piece.{Piece}
use Rattle.prem_asm.specs.declared.piece.Piece.TheVariants.{Straight, Address, Either', Repeat', CallTo}
use Rattle.prem_asm.specs.Pieces.{Pieces}
use Rattle.prem_asm.specs.PiecesOf.{piece_before, piece_of, pieces_of}
use Rattle.prem_wcet.specs.Sliced.{tail_of, spine, first_pieces, before_pieces, first_side, second_side, head_in, body_in}

tail_before : (p : Piece) (rest : Pieces) → tail_of (piece_before p rest) ≡ rest
tail_before (Straight code) rest = refl
tail_before (Address rd part plus) rest = refl
tail_before (Either' test p taken q other) rest = refl
tail_before (Repeat' turns p head test q body) rest = refl
tail_before (CallTo link part) rest = refl

take_all : (ps : List Piece) → take (length ps) ps ≡ ps
take_all [] = refl
take_all (p ∷ ps) = ap (λ xs. p ∷ xs) (take_all ps)

pub tail_is : (ps : List Piece) → 1 ≤ length ps → pieces_of (take (length ps - 1) (drop 1 ps)) ≡ tail_of (pieces_of ps)
tail_is [] h = absurd (omega arith)
tail_is (p ∷ ps) h = let e : length (p ∷ ps) - 1 ≡ length ps = omega arith in ap (λ n. pieces_of (take n ps)) e ∙ ap pieces_of (take_all ps) ∙ sym (tail_before p (pieces_of ps))

spine_before : (p : Piece) (rest : Pieces) → spine (piece_before p rest) ≡ suc (spine rest)
spine_before (Straight code) rest = refl
spine_before (Address rd part plus) rest = refl
spine_before (Either' test p taken q other) rest = refl
spine_before (Repeat' turns p head test q body) rest = refl
spine_before (CallTo link part) rest = refl

spine_is : (ps : List Piece) → spine (pieces_of ps) ≡ length ps
spine_is [] = refl
spine_is (p ∷ ps) = spine_before p (pieces_of ps) ∙ ap suc (spine_is ps)

first_before : (n : ℕ) (p : Piece) (rest : Pieces) → first_pieces (suc n) (piece_before p rest) ≡ piece_before p (first_pieces n rest)
first_before n (Straight code) rest = refl
first_before n (Address rd part plus) rest = refl
first_before n (Either' test p taken q other) rest = refl
first_before n (Repeat' turns p head test q body) rest = refl
first_before n (CallTo link part) rest = refl

first_is : (n : ℕ) (ps : List Piece) → pieces_of (take n ps) ≡ first_pieces n (pieces_of ps)
first_is zero ps = refl
first_is (suc n) [] = refl
first_is (suc n) (p ∷ ps) = ap (piece_before p) (first_is n ps) ∙ sym (first_before n p (pieces_of ps))

pub before_told : (ps last : List Piece) (n : ℕ) → n ≡ length ps - length last → pieces_of (take n ps) ≡ before_pieces (pieces_of ps) (pieces_of last)
before_told ps last n is =
    first_is n ps ∙ ap (λ k. first_pieces k (pieces_of ps)) is ∙ ap (λ k. first_pieces (k - length last) (pieces_of ps)) (sym (spine_is ps))
    ∙ ap (λ k. first_pieces (spine (pieces_of ps) - k) (pieces_of ps)) (sym (spine_is last))

-- ---- within the first piece

first_side_before : (p : Piece) (rest : Pieces) → first_side (piece_of p) ≡ first_side (piece_before p rest)
first_side_before (Straight code) rest = refl
first_side_before (Address rd part plus) rest = refl
first_side_before (Either' test p taken q other) rest = refl
first_side_before (Repeat' turns p head test q body) rest = refl
first_side_before (CallTo link part) rest = refl

pub first_side_first : (ps : List Piece) (p : Piece) → 1 ≤ length ps → p ≡ get_or ps 0 p → first_side (piece_of p) ≡ first_side (pieces_of ps)
first_side_first [] p h is = absurd (omega arith)
first_side_first (x ∷ xs) p h is = ap (λ q. first_side (piece_of q)) is ∙ first_side_before x (pieces_of xs)

second_side_before : (p : Piece) (rest : Pieces) → second_side (piece_of p) ≡ second_side (piece_before p rest)
second_side_before (Straight code) rest = refl
second_side_before (Address rd part plus) rest = refl
second_side_before (Either' test p taken q other) rest = refl
second_side_before (Repeat' turns p head test q body) rest = refl
second_side_before (CallTo link part) rest = refl

pub second_side_first : (ps : List Piece) (p : Piece) → 1 ≤ length ps → p ≡ get_or ps 0 p → second_side (piece_of p) ≡ second_side (pieces_of ps)
second_side_first [] p h is = absurd (omega arith)
second_side_first (x ∷ xs) p h is = ap (λ q. second_side (piece_of q)) is ∙ second_side_before x (pieces_of xs)

head_in_before : (p : Piece) (rest : Pieces) → head_in (piece_of p) ≡ head_in (piece_before p rest)
head_in_before (Straight code) rest = refl
head_in_before (Address rd part plus) rest = refl
head_in_before (Either' test p taken q other) rest = refl
head_in_before (Repeat' turns p head test q body) rest = refl
head_in_before (CallTo link part) rest = refl

pub head_in_first : (ps : List Piece) (p : Piece) → 1 ≤ length ps → p ≡ get_or ps 0 p → head_in (piece_of p) ≡ head_in (pieces_of ps)
head_in_first [] p h is = absurd (omega arith)
head_in_first (x ∷ xs) p h is = ap (λ q. head_in (piece_of q)) is ∙ head_in_before x (pieces_of xs)

body_in_before : (p : Piece) (rest : Pieces) → body_in (piece_of p) ≡ body_in (piece_before p rest)
body_in_before (Straight code) rest = refl
body_in_before (Address rd part plus) rest = refl
body_in_before (Either' test p taken q other) rest = refl
body_in_before (Repeat' turns p head test q body) rest = refl
body_in_before (CallTo link part) rest = refl

pub body_in_first : (ps : List Piece) (p : Piece) → 1 ≤ length ps → p ≡ get_or ps 0 p → body_in (piece_of p) ≡ body_in (pieces_of ps)
body_in_first [] p h is = absurd (omega arith)
body_in_first (x ∷ xs) p h is = ap (λ q. body_in (piece_of q)) is ∙ body_in_before x (pieces_of xs)
