-- What is put in place, spelled out.
use Rattle.std.proofs.Common.{ℤ, ◌≡◌, ℕ, Bool, true, false, List, [], ◌∷◌, ◌++◌, map, refl, sym, ap, ◌∙◌, append_assoc}
use Rattle.std.specs.Prelude.{int_lt, pos, unsigned_abs, if◌then◌else◌, codes}
use Rattle.prem_annotating.proofs.Prelude.{length_bytes, range_bytes, regions_bytes, constant_bytes, range_spelled, region_spelled, regions_spelled, Piece, text_of, said, mark_piece, blank}
use Rattle.prem_annotating.proofs.Prelude.{constant_pieces, region_pieces, regions_pieces, RegionText, number_lexeme, mark}
use Rattle.prem_text.specs.declared.lexing.token.token.Mark.TheVariants as m

constant_before : (z : ℤ) (ps : List Piece) → text_of (constant_pieces z ++ ps) ≡ constant_bytes z ++ text_of ps
unfolding constant_bytes
constant_before z ps = by (int_lt z (pos 0))
  where
    by : (b : Bool) → text_of (map said (if b then mark m.Minus ∷ number_lexeme (unsigned_abs z) ∷ [] else number_lexeme (unsigned_abs z) ∷ []) ++ ps)
        ≡ (if b then 45 ∷ length_bytes (unsigned_abs z) else length_bytes (unsigned_abs z)) ++ text_of ps
    by true = refl
    by false = refl

pub range_said : (r : ℤ × ℤ) → range_spelled r ≡ range_bytes r
range_said (low, high) =
    let close = mark_piece m.CloseParenthesis ∷ [] in
    let behind = mark_piece m.Comma ∷ blank ∷ constant_pieces high ++ close in
    let tail : text_of behind ≡ codes ", " ++ (constant_bytes high ++ codes ")") = ap (λ (l : List ℕ). codes ", " ++ l) (constant_before high close) in
    let whole : range_bytes (low, high) ≡ codes " RANGE(" ++ (constant_bytes low ++ (codes ", " ++ (constant_bytes high ++ codes ")"))) =
    ap (λ (l : List ℕ). codes " RANGE(" ++ l) (grouped low high ∙ constant_before low behind ∙ ap (λ (l : List ℕ). constant_bytes low ++ l) tail) in
    regroup (codes " RANGE(") (constant_bytes low) (codes ", ") (constant_bytes high) (codes ")") ∙ sym whole
  where
    grouped : (low high : ℤ) → text_of
        (constant_pieces low ++ (mark_piece m.Comma ∷ blank ∷ constant_pieces high ++ mark_piece m.CloseParenthesis ∷ []))
        ≡ text_of (constant_pieces low ++ (mark_piece m.Comma ∷ blank ∷ (constant_pieces high ++ mark_piece m.CloseParenthesis ∷ [])))
    grouped low high = refl

    regroup : (a b c d e : List ℕ) → a ++ b ++ c ++ d ++ e ≡ a ++ (b ++ (c ++ (d ++ e)))
    regroup a b c d e = simp (append_assoc)

region_said : (r : RegionText) (ps : List Piece) → region_spelled r ++ text_of ps ≡ text_of (region_pieces r ++ ps)
region_said r ps = regroup (codes " REGION(") r.name (codes ", ") (length_bytes r.low) (codes ", ") (length_bytes r.high) (codes ")") (text_of ps)
  where
    regroup : (a b c d e f g h : List ℕ) → (a ++ b ++ c ++ d ++ e ++ f ++ g) ++ h ≡ a ++ (b ++ (c ++ (d ++ (e ++ (f ++ (g ++ h))))))
    regroup a b c d e f g h = simp (append_assoc)

pub regions_said : (rs : List RegionText) → regions_spelled rs ≡ regions_bytes rs
regions_said [] = refl
regions_said (r ∷ rs) = ap (λ (l : List ℕ). region_spelled r ++ l) (regions_said rs) ∙ region_said r (regions_pieces rs)
