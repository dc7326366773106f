-- Which bytes of a divided text begin its tokens: those at whose places these stand, since no two bytes have the same place.
use Rattle.std.proofs.Common.{◌==◌, ◌&&◌, if◌then◌else◌, ◌≡◌, ◌<◌, ◌⊎◌, inl, inr, ⊎_elim, ℕ, ◌+◌, Bool, true, false, List, [], ◌∷◌, ◌++◌, refl, sym, ap, subst, ◌∙◌, arith, append_assoc}
use Rattle.std.proofs.Common.{append-nil, Some, None}
use Rattle.prem_annotating.proofs.Prelude.{plain, marks_of, placed, Marked, Order, behind, same_place, first_if, tokens_behind, marked, edited, walked, Piece, between, a_token, text_of}
use Rattle.prem_annotating.proofs.Prelude.{AreDivided, Copying, Elsewhere, Place, Lexeme, end_of_text, Seen, place, place_behind, Divides, up_to, gap, token, nat_tests}
use Rattle.prem_annotating.proofs.Pieces.{token_begun, pieces_of}
use Rattle.prem_text.proofs.SpellingLemmas.Steps.{behind_is}

-- ---- no two places are the same

abbrev Later : Place → Place → Type 0
Later a b = (b.line < a.line) ⊎ ((b.line ≡ a.line) × (b.col < a.col))

-- the place behind a byte that ends a line or doesn't
abbrev next_place : Place → Bool → Place
next_place at x = record { line = if x then at.line + 1 else at.line; col = if x then 1 else at.col + 1 }

later_by : (at : Place) (x : Bool) → Later (next_place at x) at
later_by at true = inl (omega arith)
later_by at false = inr (refl, omega arith)

later_step : (at : Place) (b : ℕ) → Later (behind at b) at
later_step at b = later_by at (b == 10)

later_trans : (a b c : Place) → Later a b → Later b c → Later a c
later_trans a b c one two =
    ⊎_elim (λ (x : b.line < a.line). inl (⊎_elim (λ (y : c.line < b.line). omega (arith, x, y)) (λ (y : (c.line ≡ b.line) × (c.col < b.col)). omega (arith, x, y.0)) two))
    (λ (x : (b.line ≡ a.line) × (b.col < a.col)).
    ⊎_elim (λ (y : c.line < b.line). inl (omega (arith, x.0, y))) (λ (y : (c.line ≡ b.line) × (c.col < b.col)). inr (y.0 ∙ x.0, omega (arith, x.1, y.1))) two) one

place_step : (before : List ℕ) (b : ℕ) → behind (place_behind before) b ≡ place_behind (before ++ b ∷ [])
place_step before b = ap place (behind_is before b)

later_one : (xs : List ℕ) (y : ℕ) → Later (place_behind (xs ++ y ∷ [])) (place_behind xs)
later_one xs y = subst (λ p. Later p (place_behind xs)) (place_step xs y) (later_step (place_behind xs) y)

later_all : (xs : List ℕ) (y : ℕ) (ys : List ℕ) → Later (place_behind (xs ++ y ∷ ys)) (place_behind xs)
later_all xs y [] = later_one xs y
later_all xs y (z ∷ zs) =
    let rest : Later (place_behind ((xs ++ y ∷ []) ++ z ∷ zs)) (place_behind (xs ++ y ∷ [])) = later_all (xs ++ y ∷ []) z zs in
    let first : Later (place_behind (xs ++ y ∷ [])) (place_behind xs) = later_one xs y in
    subst (λ l. Later (place_behind l) (place_behind xs)) (append_assoc xs (y ∷ []) (z ∷ zs))
    (later_trans (place_behind ((xs ++ y ∷ []) ++ z ∷ zs)) (place_behind (xs ++ y ∷ [])) (place_behind xs) rest first)

numbers_differ : (a b c d : ℕ) → (b < a) ⊎ ((b ≡ a) × (d < c)) → ((a == b) && (c == d)) ≡ false
numbers_differ a b c d later = ⊎_elim (λ (x : b < a). grind (arith, nat_tests)) (λ (x : (b ≡ a) × (d < c)). let y = x.1 in grind (arith, nat_tests)) later

later_differs : (a b : Place) → Later a b → same_place a b ≡ false
later_differs a b later = numbers_differ a.line b.line a.col b.col later

numbers_same : (a b : ℕ) → ((a == a) && (b == b)) ≡ true
numbers_same a b = grind (arith, nat_tests)

same_self : (at : Place) → same_place at at ≡ true
same_self at = numbers_same at.line at.col

-- ---- bytes that begin no token

-- no byte of some stands at a place
abbrev IsFree : Place → List ℕ → List ℕ → Type 0
IsFree p before [] = Unit {0}
IsFree p before (b ∷ bytes) = (same_place p (place_behind before) ≡ false) × IsFree p (before ++ b ∷ []) bytes

free_before : (before bytes more whole : List ℕ) → whole ≡ before ++ bytes ++ more → IsFree (place_behind whole) before bytes
free_before before [] more whole e = tt
free_before before (b ∷ bytes) more whole e =
    let parts : whole ≡ before ++ b ∷ (bytes ++ more) = e ∙ append_assoc before (b ∷ bytes) more in
    let apart : same_place (place_behind whole) (place_behind before) ≡ false =
    later_differs (place_behind whole) (place_behind before) (subst (λ l. Later (place_behind l) (place_behind before)) (sym parts) (later_all before b (bytes ++ more))) in
    let next : whole ≡ (before ++ b ∷ []) ++ bytes ++ more = e ∙ ap (λ (l : List ℕ). l ++ more) (sym (append_assoc before (b ∷ []) bytes)) in
    (apart, free_before (before ++ b ∷ []) bytes more whole next)

marked_no : (at p : Place) (t : Lexeme) (ts : List Seen) (b : ℕ) (rest : List ℕ) → same_place p at ≡ false → marked at ((t, p) ∷ ts) (b ∷ rest) ≡ (b, None) ∷ marked (behind at b) ((t, p) ∷ ts) rest
marked_no at p t ts b rest is = ap (λ (x : Bool). (b, first_if x ((t, p) ∷ ts)) ∷ marked (behind at b) (tokens_behind x ((t, p) ∷ ts)) rest) is

marked_yes : (at : Place) (t : Lexeme) (ts : List Seen) (b : ℕ) (rest : List ℕ) → marked at ((t, at) ∷ ts) (b ∷ rest) ≡ (b, Some t) ∷ marked (behind at b) ts rest
marked_yes at t ts b rest = ap (λ (x : Bool). (b, first_if x ((t, at) ∷ ts)) ∷ marked (behind at b) (tokens_behind x ((t, at) ∷ ts)) rest) (same_self at)

marked_plain : (before bytes more : List ℕ) (p : Place) (t : Lexeme) (ts : List Seen) → IsFree p before bytes →
    marked (place_behind before) ((t, p) ∷ ts) (bytes ++ more) ≡ plain bytes ++ marked (place_behind (before ++ bytes)) ((t, p) ∷ ts) more
marked_plain before [] more p t ts free = ap (λ (l : List ℕ). marked (place_behind l) ((t, p) ∷ ts) more) (sym (append-nil before))
marked_plain before (b ∷ bytes) more p t ts free =
    marked_no (place_behind before) p t ts b (bytes ++ more) free.0
    ∙ ap (λ (at : Place). (b, None) ∷ marked at ((t, p) ∷ ts) (bytes ++ more)) (place_step before b)
    ∙ ap (λ (l : List Marked). (b, None) ∷ l) (marked_plain (before ++ b ∷ []) bytes more p t ts free.1)
    ∙ ap (λ (l : List ℕ). (b, None) ∷ plain bytes ++ marked (place_behind l) ((t, p) ∷ ts) more) (append_assoc before (b ∷ []) bytes)

-- ---- pieces

-- the end of a text
ended : List ℕ → List Seen
ended before = (end_of_text, place_behind before) ∷ []

-- the first of the tokens stands behind a gap
record FirstPlace (before : List ℕ) (ps : List Piece) : Type 0 where
  gap_bytes : List ℕ
  first : Lexeme
  others : List Seen
  is : placed before ps ≡ (first, place_behind (before ++ gap_bytes)) ∷ others

first_place : (before : List ℕ) (ps : List Piece) → FirstPlace before ps
unfolding ended
first_place before [] = record { gap_bytes = []; first = end_of_text; others = []; is = ap ended (sym (append-nil before)) }
first_place before (between bytes ∷ ps) =
    let f = first_place (before ++ bytes) ps in
    record { gap_bytes = bytes ++ f.gap_bytes; first = f.first; others = f.others; is = f.is ∙ ap (λ (l : List ℕ). (f.first, place_behind l) ∷ f.others) (append_assoc before bytes f.gap_bytes) }
first_place before (a_token bytes t ∷ ps) =
    record { gap_bytes = []; first = t; others = placed (before ++ bytes) ps; is = ap (λ (l : List ℕ). (t, place_behind l) ∷ placed (before ++ bytes) ps) (sym (append-nil before)) }

-- bytes before pieces begin no token of theirs
before_pieces : (before bytes : List ℕ) (ps : List Piece) (more : List ℕ) →
    marked (place_behind before) (placed (before ++ bytes) ps) (bytes ++ more) ≡ plain bytes ++ marked (place_behind (before ++ bytes)) (placed (before ++ bytes) ps) more
before_pieces before bytes ps more =
    let f = first_place (before ++ bytes) ps in
    let p = place_behind (before ++ bytes ++ f.gap_bytes) in
    ap (λ (l : List Seen). marked (place_behind before) l (bytes ++ more)) f.is
    ∙ marked_plain before bytes more p f.first f.others (free_before before bytes f.gap_bytes (before ++ bytes ++ f.gap_bytes) refl)
    ∙ ap (λ (l : List Seen). plain bytes ++ marked (place_behind (before ++ bytes)) l more) (sym f.is)

pub pieces_marked : (before : List ℕ) (ps : List Piece) → AreDivided ps → marked (place_behind before) (placed before ps) (text_of ps) ≡ marks_of ps
pieces_marked before [] h = refl
pieces_marked before (between bytes ∷ ps) h = before_pieces before bytes ps (text_of ps) ∙ ap (λ (l : List Marked). plain bytes ++ l) (pieces_marked (before ++ bytes) ps h.1)
pieces_marked before (a_token [] t ∷ ps) h = let none = token_begun [] (text_of ps) t h.0 in let parts : [] ≡ none.first ∷ none.more = none.parts in absurd cc
pieces_marked before (a_token (b ∷ bytes) t ∷ ps) h =
    let moved : before ++ b ∷ bytes ≡ (before ++ b ∷ []) ++ bytes = sym (append_assoc before (b ∷ []) bytes) in
    marked_yes (place_behind before) t (placed (before ++ b ∷ bytes) ps) b (bytes ++ text_of ps)
    ∙ ap (λ (at : Place). (b, Some t) ∷ marked at (placed (before ++ b ∷ bytes) ps) (bytes ++ text_of ps)) (place_step before b)
    ∙ ap (λ (l : List ℕ). (b, Some t) ∷ marked (place_behind (before ++ b ∷ [])) (placed l ps) (bytes ++ text_of ps)) moved
    ∙ ap (λ (l : List Marked). (b, Some t) ∷ l) (before_pieces (before ++ b ∷ []) bytes ps (text_of ps))
    ∙ ap (λ (l : List Marked). (b, Some t) ∷ plain bytes ++ l) (pieces_marked ((before ++ b ∷ []) ++ bytes) ps h.1)

-- the tokens of a text are those of its pieces
pieces_placed : (before text : List ℕ) (ts : List Seen) (d : Divides before text ts []) → placed before (pieces_of before text ts d).all ≡ ts ++ ended (before ++ text)
unfolding pieces_of ended
pieces_placed before _ _ (up_to _ _) = ap ended (sym (append-nil before))
pieces_placed before _ ts (gap _ bytes text _ _ g rest) =
    pieces_placed (before ++ bytes) text ts rest ∙ ap (λ (l : List ℕ). ts ++ ended l) (append_assoc before bytes text)
pieces_placed before _ _ (token _ bytes text t ts _ is rest) =
    ap (λ (l : List Seen). (t, place_behind before) ∷ l) (pieces_placed (before ++ bytes) text ts rest ∙ ap (λ (l : List ℕ). ts ++ ended l) (append_assoc before bytes text))

-- what the walk sees of a text
pub edited_is : (os : List Order) (text : List ℕ) (ts : List Seen) (d : Divides [] text ts []) →
    edited os (ts ++ (end_of_text, place_behind text) ∷ []) text ≡ walked Elsewhere Copying os (marks_of (pieces_of [] text ts d).all)
unfolding ended
edited_is os text ts d =
    let pieces = pieces_of [] text ts d in
    let whole : marked (place_behind []) (ts ++ (end_of_text, place_behind text) ∷ []) text ≡ marks_of pieces.all =
    ap (λ (l : List Seen). marked (place_behind []) l text) (sym (pieces_placed [] text ts d))
    ∙ ap (λ (l : List ℕ). marked (place_behind []) (placed [] pieces.all) l) (sym pieces.text_is) ∙ pieces_marked [] pieces.all pieces.divided in
    ap (λ (l : List Marked). walked Elsewhere Copying os l) whole
