-- The charges of passages, whose ranges are kept once.
use Rattle.std.proofs.Common.{◌≡◌, ℕ, ◌+◌, min, Bool, true, false, ◌||◌, Option, None, Some, List, [], ◌∷◌, ◌++◌, map, refl, ap, sym, ◌∙◌, arith}
use Rattle.std.specs.List.{flat_map, list_any}
use Rattle.std.proofs.lemmas.List.Folds.{list_any-append}
use Rattle.std.proofs.lemmas.List.{map-append}
use Rattle.prem_plant.specs.Places.{Extent}
use Rattle.prem_asm.specs.Pieces.{followed, size_of}
use Rattle.prem_layout.specs.Footprint.{lines_of}
use Rattle.prem_wcet_laws.specs.Scopes.{Scene, Span, fact_of, extent_of, code_ranges, data_ranges, charge_with}
use Rattle.prem_wcet_laws.specs.Parted.{Edge}
use Rattle.prem_wcet.specs.Known.{bare_span}
use Rattle.prem_wcet.specs.Same.{AreSame}
use Rattle.prem_wcet.specs.Once.{with_code, with_names, with_some, with_touched}
use Rattle.prem_wcet.specs.Outlines.{Outline, code_of, callees_of, names_of, between, data_between}
use Rattle.prem_wcet.specs.EdgesOf.{below_of}
use Rattle.prem_wcet.proofs.OnceSame.{code_same, names_same, range_same, touched_same}
use Rattle.prem_bounds.specs.Scale.{clipped}
use Rattle.prem_wcet.proofs.PlaceWeights.{size_followed}
use Rattle.prem_wcet.proofs.SameRanges.{same_append, same_lines}

-- what two edges add, in whichever order
mix : (s n f a b c d : Bool) → (((((s || (n || f)) || a) || b) || c) || d) ≡ ((s || ((a || (n || c)) || f)) || (b || d))
mix true n f a b c d = refl
mix false true f true b c d = refl
mix false true f false b c d = refl
mix false false true true b c d = refl
mix false false true false b true d = refl
mix false false true false b false d = refl
mix false false false true b c d = refl
mix false false false false true true d = refl
mix false false false false false true d = refl
mix false false false false true false d = refl
mix false false false false false false d = refl

or_none : (b : Bool) → (b || false) ≡ b
or_none true = refl
or_none false = refl

some_any : (p : Extent → Bool) (rs : List Extent) (x : Option Extent) → list_any p (with_some rs x) ≡ (list_any p rs || list_any p (below_of x))
some_any p rs None = sym (or_none (list_any p rs))
some_any p rs (Some r) = range_same rs r p ∙ ap (λ b. list_any p rs || b) (sym (or_none (p r)))

-- the ranges that are kept are those of the passage
pub between_kept : (e : Scene) (o : Outline) (b l : Edge) (first last : Option Extent) → b.below ≡ below_of first → l.below ≡ below_of last →
    AreSame (with_some (with_names e (with_some (with_names e (with_touched e e.stack o) b.globals) first) l.globals) last) (data_between e b o l)
between_kept e o b l first last bb ll = λ p.
    let g : List ℕ → List Extent = map e.global in
    let s : Bool = list_any p e.stack in
    let n : Bool = list_any p (g (names_of o)) in
    let f : Bool = list_any p (flat_map (λ k. (fact_of e k).touched) (callees_of o)) in
    let t0 : List Extent = with_touched e e.stack o in
    let t1 : List Extent = with_names e t0 b.globals in
    let t2 : List Extent = with_some t1 first in
    let t3 : List Extent = with_names e t2 l.globals in
    let e0 : list_any p t0 ≡ (s || (n || f)) =
    touched_same e e.stack o p ∙ list_any-append p e.stack _ ∙ ap (λ x. s || x) (list_any-append p (g (names_of o)) _) in
    let e1 : list_any p t1 ≡ ((s || (n || f)) || list_any p (g b.globals)) = names_same e t0 b.globals p ∙ list_any-append p t0 _ ∙ ap (λ x. x || list_any p (g b.globals)) e0 in
    let e2 : list_any p t2 ≡ (((s || (n || f)) || list_any p (g b.globals)) || list_any p b.below) =
    some_any p t1 first ∙ ap (λ x. x || list_any p (below_of first)) e1 ∙ ap (λ r. ((s || (n || f)) || list_any p (g b.globals)) || list_any p r) (sym bb) in
    let e3 : list_any p t3 ≡ ((((s || (n || f)) || list_any p (g b.globals)) || list_any p b.below) || list_any p (g l.globals)) =
    names_same e t2 l.globals p ∙ list_any-append p t2 _ ∙ ap (λ x. x || list_any p (g l.globals)) e2 in
    let e4 : list_any p (with_some t3 last) ≡ (((((s || (n || f)) || list_any p (g b.globals)) || list_any p b.below) || list_any p (g l.globals)) || list_any p l.below) =
    some_any p t3 last ∙ ap (λ x. x || list_any p (below_of last)) e3
    ∙ ap (λ r. ((((s || (n || f)) || list_any p (g b.globals)) || list_any p b.below) || list_any p (g l.globals)) || list_any p r) (sym ll) in
    let names : list_any p (g (b.globals ++ (names_of o ++ l.globals))) ≡ (list_any p (g b.globals) || (n || list_any p (g l.globals))) =
    ap (list_any p) (map-append e.global b.globals (names_of o ++ l.globals)) ∙ list_any-append p (g b.globals) _
    ∙ ap (λ x. list_any p (g b.globals) || x) (ap (list_any p) (map-append e.global (names_of o) l.globals) ∙ list_any-append p (g (names_of o)) _) in
    let whole : list_any p (data_between e b o l) ≡ ((s || ((list_any p (g b.globals) || (n || list_any p (g l.globals))) || f)) || (list_any p b.below || list_any p l.below)) =
    list_any-append p (data_ranges e (between b o l)) (b.below ++ l.below)
    ∙ ap (λ x. x || list_any p (b.below ++ l.below)) (list_any-append p e.stack _ ∙ ap (λ x. s || x) (list_any-append p (g (b.globals ++ (names_of o ++ l.globals))) _ ∙ ap (λ x. x || f) names))
    ∙ ap (λ x. (s || ((list_any p (g b.globals) || (n || list_any p (g l.globals))) || f)) || x) (list_any-append p b.below l.below) in
    e4 ∙ mix s n f (list_any p (g b.globals)) (list_any p b.below) (list_any p (g l.globals)) (list_any p l.below) ∙ sym whole

-- the charge of a passage as one scope
pub passage_told : (e : Scene) (at end : ℕ) (o : Outline) (b l : Edge) (first last : Option Extent) (code touched : List Extent) → b.below ≡ below_of first → l.below ≡ below_of last →
    end ≡ at + size_of (between b o l).pieces → code ≡ with_code e ((at, end) ∷ []) o →
    touched ≡ with_some (with_names e (with_some (with_names e (with_touched e e.stack o) b.globals) first) l.globals) last →
    charge_with e at (bare_span (between b o l).pieces) (lines_of e.plant.line (code ++ touched)) (lines_of e.plant.line touched)
    ≡ charge_with e at (between b o l) (lines_of e.plant.line (code_ranges e at (between b o l) ++ data_between e b o l)) (lines_of e.plant.line (data_between e b o l))
passage_told e at end o b l first last code touched bb ll place run touch =
    let s : Span = between b o l in
    let kept : AreSame touched (data_between e b o l) = λ p. ap (list_any p) touch ∙ between_kept e o b l first last bb ll p in
    let ran : AreSame code (code_ranges e at s) = λ p. ap (list_any p) (run ∙ ap (λ k. with_code e ((at, k) ∷ []) o) place) ∙ code_same e (extent_of at s.pieces ∷ []) o p in
    λ i. charge_with e at s (same_lines e.plant.line (code ++ touched) (code_ranges e at s ++ data_between e b o l)
    (same_append code (code_ranges e at s) touched (data_between e b o l) ran kept) i) (same_lines e.plant.line touched (data_between e b o l) kept i)

pub between_size : (b l : Edge) (o : Outline) → size_of (between b o l).pieces ≡ size_of b.pieces + (size_of (code_of o) + size_of l.pieces)
between_size b l o = size_followed b.pieces (followed (code_of o) l.pieces) ∙ ap (λ n. size_of b.pieces + n) (size_followed (code_of o) l.pieces)

pub passage_sum : (whole first inner last both divided r w f s b : ℕ) → whole ≡ clipped w → first ≡ clipped f → inner ≡ clipped s → last ≡ clipped b →
    both ≡ clipped (first + inner) → divided ≡ clipped (both + last) →
    r ≡ min whole divided → r ≡ clipped (min w (f + s + b))
passage_sum whole first inner last both divided r w f s b e1 e2 e3 e4 e5 e6 e7 = omega (arith, e1, e2, e3, e4, e5, e6, e7)
