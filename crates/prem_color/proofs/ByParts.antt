-- Ranges that are put behind those of their parts one by one are those that a search through all gives for each part.
use Rattle.std.specs.Prelude.{◌==◌, slice_index_or, slice_set}
use Rattle.std.proofs.Common.{◌≡◌, ℕ, zero, suc, ◌+◌, ◌<◌, ◌≤◌, cond, List, [], ◌∷◌, ◌++◌, Vec, Global, refl, ap, ap₂, sym, ◌∙◌, arith, append_assoc, append-nil, length, map, replicate}
use Rattle.std.proofs.lemmas.Bool.{eq-eqb, ne_eqb}
use Rattle.std.proofs.lemmas.List.{get_or-map, length-map}
use Rattle.std.proofs.lemmas.List.Elements.{filter-append}
use Rattle.prem_color.specs.declared.claims.Claim.{Claim}
use Rattle.prem_color.specs.Offsets.{PartRange}
use Rattle.prem_color.specs.Claims.{claim, claims_from, claims_in, by_parts_from, by_parts, with_claim, with_claims, with_wants}

abbrev pub lists : List (Vec Claim Global) → List (List Claim)
lists index = map (λ own. own.items) index

-- ---- one claim more

pub claim_put : (index : List (Vec Claim Global)) (n : ℕ) (c : Claim) (next before : Vec Claim Global) → n < length index → next.items ≡ (slice_index_or index n before).items ++ c ∷ [] →
    lists (slice_set index n next) ≡ with_claim n c (lists index)
claim_put [] n c next before lt e = absurd (omega (arith, lt))
claim_put (own ∷ owns) zero c next before lt e = ap (λ (first : List Claim). first ∷ lists owns) e
claim_put (own ∷ owns) (suc n) c next before lt e = ap (λ (rest : List (List Claim)). own.items ∷ rest) (claim_put owns n c next before (omega (arith, lt)) e)

pub claim_past : (owns : List (List Claim)) (n : ℕ) (c : Claim) → length owns ≤ n → owns ≡ with_claim n c owns
claim_past [] n c le = refl
claim_past (own ∷ owns) zero c le = absurd (omega (arith, le))
claim_past (own ∷ owns) (suc n) c le = ap (λ (rest : List (List Claim)). own ∷ rest) (claim_past owns n c (omega (arith, le)))

-- ---- all claims

here : (n : ℕ) (cs : List Claim) (c : Claim) → c.range.0 ≡ n → claims_in n (cs ++ c ∷ []) ≡ claims_in n cs ++ c ∷ []
here n cs c e = filter-append (λ (d : Claim). d.range.0 == n) cs (c ∷ []) ∙ ap (λ b. claims_in n cs ++ cond b (c ∷ []) []) (eq-eqb c.range.0 n e)

elsewhere : (n : ℕ) (cs : List Claim) (c : Claim) → (c.range.0 ≡ n → ⊥) → claims_in n (cs ++ c ∷ []) ≡ claims_in n cs
elsewhere n cs c ne = filter-append (λ (d : Claim). d.range.0 == n) cs (c ∷ []) ∙ ap (λ b. claims_in n cs ++ cond b (c ∷ []) []) (ne_eqb c.range.0 n ne) ∙ append-nil (claims_in n cs)

before_all : (n count : ℕ) (cs : List Claim) (c : Claim) → c.range.0 < n → by_parts_from n count cs ≡ by_parts_from n count (cs ++ c ∷ [])
before_all n zero cs c lt = refl
before_all n (suc count) cs c lt =
    ap₂ (λ (own : List Claim) (owns : List (List Claim)). own ∷ owns) (sym (elsewhere n cs c (λ e. omega (arith, e, lt)))) (before_all (n + 1) count cs c (omega (arith, lt)))

put_in : (n count k : ℕ) (cs : List Claim) (c : Claim) → c.range.0 ≡ n + k → with_claim k c (by_parts_from n count cs) ≡ by_parts_from n count (cs ++ c ∷ [])
put_in n zero zero cs c e = refl
put_in n zero (suc k) cs c e = refl
put_in n (suc count) zero cs c e =
    ap₂ (λ (own : List Claim) (owns : List (List Claim)). own ∷ owns) (sym (here n cs c (omega (arith, e)))) (before_all (n + 1) count cs c (omega (arith, e)))
put_in n (suc count) (suc k) cs c e =
    ap₂ (λ (own : List Claim) (owns : List (List Claim)). own ∷ owns) (sym (elsewhere n cs c (λ f. omega (arith, e, f)))) (put_in (n + 1) count k cs c (omega (arith, e)))

puts_in : (k count : ℕ) (rs : List PartRange) (cs : List Claim) → with_claims k rs (by_parts count cs) ≡ by_parts count (cs ++ map (claim k) rs)
puts_in k count [] cs = ap (by_parts count) (sym (append-nil cs))
puts_in k count (r ∷ rs) cs =
    ap (with_claims k rs) (put_in 0 count r.0 cs (claim k r) (omega arith))
    ∙ puts_in k count rs (cs ++ claim k r ∷ [])
    ∙ ap (by_parts count) (append_assoc cs (claim k r ∷ []) (map (claim k) rs))

all_in : (k count : ℕ) (ws : List (List PartRange)) (cs : List Claim) → with_wants k ws (by_parts count cs) ≡ by_parts count (cs ++ claims_from k ws)
all_in k count [] cs = ap (by_parts count) (sym (append-nil cs))
all_in k count (w ∷ ws) cs =
    ap (with_wants (k + 1) ws) (puts_in k count w cs)
    ∙ all_in (k + 1) count ws (cs ++ map (claim k) w)
    ∙ ap (by_parts count) (append_assoc cs (map (claim k) w) (claims_from (k + 1) ws))

nothing_in : (n count : ℕ) → replicate {A = List Claim} count [] ≡ by_parts_from n count []
nothing_in n zero = refl
nothing_in n (suc count) = ap (λ (owns : List (List Claim)). [] ∷ owns) (nothing_in (n + 1) count)

pub index_is : (count : ℕ) (ws : List (List PartRange)) → with_wants 0 ws (replicate count []) ≡ by_parts count (claims_from 0 ws)
index_is count ws = ap (with_wants 0 ws) (nothing_in 0 count) ∙ all_in 0 count ws []

-- ---- the claims of a part

long_from : (n count : ℕ) (cs : List Claim) → length (by_parts_from n count cs) ≡ count
long_from n zero cs = refl
long_from n (suc count) cs = ap suc (long_from (n + 1) count cs)

at_from : (n count k : ℕ) (cs : List Claim) → k < count → slice_index_or (by_parts_from n count cs) k [] ≡ claims_in (n + k) cs
at_from n zero k cs lt = absurd (omega (arith, lt))
at_from n (suc count) zero cs lt = let z : n ≡ n + zero = omega arith in ap (λ m. claims_in m cs) z
at_from n (suc count) (suc k) cs lt = let z : n + 1 + k ≡ n + suc k = omega arith in at_from (n + 1) count k cs (omega (arith, lt)) ∙ ap (λ m. claims_in m cs) z

pub index_long : (index : List (Vec Claim Global)) (count : ℕ) (cs : List Claim) → lists index ≡ by_parts count cs → length index ≡ count
index_long index count cs e = sym (length-map index (λ (own : Vec Claim Global). own.items)) ∙ ap length e ∙ long_from 0 count cs

pub claims_at : (index : List (Vec Claim Global)) (count n : ℕ) (cs : List Claim) (none : Vec Claim Global) → lists index ≡ by_parts count cs →
    n < count → (slice_index_or index n none).items ≡ claims_in n cs
claims_at index count n cs none e lt =
    let long = index_long index count cs e in
    let there : n < length index = omega (arith, lt, long) in
    let own : slice_index_or (lists index) n [] ≡ (slice_index_or index n none).items = get_or-map (λ (own : Vec Claim Global). own.items) index n none [] there in
    let z : 0 + n ≡ n = omega arith in
    sym own ∙ ap (λ (owns : List (List Claim)). slice_index_or owns n []) e ∙ at_from 0 count n cs lt ∙ ap (λ k. claims_in k cs) z
