-- The code of all functions, one behind the other.
use Rattle.std.specs.Prelude.{slice_get, nat_lt}
use Rattle.std.proofs.Common.{◌≡◌, ◌<◌, ◌≤◌, ℕ, zero, suc, ◌+◌, Bool, true, false, List, [], ◌∷◌, ◌++◌, length, take, drop, map, get_or, Option, None, Some, refl, ap, ◌∙◌, sym, subst, arith}
use Rattle.std.proofs.lemmas.Bool.{ltb-true, ltb-false}
use Rattle.std.proofs.lemmas.List.{append_assoc, map-append}
use Rattle.prem_list.specs.declared.Sequence.{Sequence}
use Rattle.prem_list.specs.Sequence.{items_of}
use Rattle.prem_plant.specs.declared.plant.Target.{Target}
use Rattle.prem_syntax.specs.Resolved.{Steps, Done, SetLocal, SetScalar, SetElement, Output, Input, If, For, While, Call, Routine, Resolved}
use Rattle.prem_tree.specs.declared.resolve.resolved.Routine.{Routine as RoutineTree}
use Rattle.prem_tree.specs.Resolve.ResolvedOf.{loops_of, all_loops}
use Rattle.prem_asm.specs.declared.piece.Piece.{Piece}
use Rattle.prem_asm.specs.Pieces.{Pieces}
use Rattle.prem_asm.specs.PiecesOf.{pieces_of}
use Rattle.prem_layout.specs.Template.Frames.{frame_at, frame_if_there}
use Rattle.prem_layout.specs.Template.Limits.{Excess, excess_or, excess_among, greatest_frame}
use Rattle.prem_layout.specs.Template.Parts.{parts_of, codes_of}
use Rattle.prem_layout.specs.Template.Steps.{Parts}
use Rattle.prem_gen.specs.declared.term.fail.GenFail.{GenFail}
use Rattle.prem_gen.specs.Term.Excess.{Exceeds}
use Rattle.prem_gen.specs.Numbers.Steps.{StepsSmall, EachCallee}
use Rattle.prem_gen.specs.Codes.Codes.{code_if_there, code_at, excess_if_there, excess_at, FunctionsSmall, CalleesFit}
use Rattle.prem_gen.proofs.CodesLemmas.Sameness.{fits_where_none}

-- ---- callees before a function

each_before : (Q : ℕ → Type 0) (n : ℕ) → ((c : ℕ) → c < n → Q c) → (s : Steps) → StepsSmall n s → EachCallee Q s
each_before Q n q Done h = tt
each_before Q n q (SetLocal at k value rest) h = each_before Q n q rest h.1
each_before Q n q (SetScalar at g ty value rest) h = each_before Q n q rest h.1
each_before Q n q (SetElement at g ty index value rest) h = each_before Q n q rest h.1
each_before Q n q (Output at value rest) h = each_before Q n q rest h.1
each_before Q n q (Input at k rest) h = each_before Q n q rest h.1
each_before Q n q (If at condition taken other rest) h = (each_before Q n q taken h.0.1.0, (each_before Q n q other h.0.1.1, each_before Q n q rest h.1))
each_before Q n q (For at k low closed high step turns body rest) h = (each_before Q n q body h.0.1.1.1.1, each_before Q n q rest h.1)
each_before Q n q (While at turns condition body rest) h = (each_before Q n q body h.0.1, each_before Q n q rest h.1)
each_before Q n q (Call at target f arguments rest) h = (q f h.0.1.0, each_before Q n q rest h.1)

-- the frames of the functions below a number may be
abbrev pub FitBelow : Resolved → ℕ → Type 0
FitBelow p n = (c : ℕ) → c < n → frame_at p.routines c ≤ greatest_frame

pub callees_fit : (p : Resolved) (n : ℕ) → FunctionsSmall p → FitBelow p n → CalleesFit p n
callees_fit p n small fits f there own = each_before (λ c. frame_at p.routines c ≤ greatest_frame) n fits f.body (small n f there own).body_is

-- ---- the next function

drop_at : {A : Type 0} (xs : List A) (k : ℕ) (x : A) → slice_get xs k ≡ Some x → drop k xs ≡ x ∷ drop (k + 1) xs
drop_at [] k x is = cc
drop_at (y ∷ ys) zero x is = let same : y ≡ x = cc in ap (λ z. z ∷ ys) same
drop_at (y ∷ ys) (suc k) x is = let e : suc (k + 1) ≡ suc k + 1 = omega arith in drop_at ys k x is ∙ ap (λ m. x ∷ drop m (y ∷ ys)) e

pub fits_next : (p : Resolved) (n : ℕ) (f : Routine) → slice_get p.routines n ≡ Some f → excess_at p n ≡ None → FitBelow p n → FitBelow p (n + 1)
fits_next p n f there none fits c below = by (nat_lt c n) refl where
  own : frame_at p.routines n ≤ greatest_frame
  own = subst (λ o. frame_if_there o ≤ greatest_frame) (sym there) (fits_where_none n f (ap (excess_if_there n) (sym there) ∙ none))

  by : (b : Bool) → nat_lt c n ≡ b → frame_at p.routines c ≤ greatest_frame
  by true is = fits c (ltb-true c n is)
  by false is = let le : n ≤ c = ltb-false c n is in let same : n ≡ c = omega arith in subst (λ k. frame_at p.routines k ≤ greatest_frame) same own

abbrev pub view : Sequence Piece → Pieces
view code = pieces_of (items_of code)

pub codes_next : (target : Target) (p : Resolved) (parts : Parts) (n : ℕ) (f : Routine) (old new : List (Sequence Piece)) (code : Sequence Piece)
    (all : List Pieces) → slice_get p.routines n ≡ Some f → parts ≡ parts_of target p.routines →
    view code ≡ code_at target p n → new ≡ old ++ code ∷ [] → map view old ++ codes_of parts (drop n p.routines) ≡ all → map view new ++ codes_of parts (drop (n + 1) p.routines) ≡ all
codes_next target p parts n f old new code all there same is more before =
    let rest = codes_of parts (drop (n + 1) p.routines) in
    let one : view code ≡ code_if_there parts (Some f) = is ∙ ap (λ q. code_if_there q (slice_get p.routines n)) (sym same) ∙ ap (code_if_there parts) there in
    ap (λ cs. map view cs ++ rest) more
    ∙ ap (λ cs. cs ++ rest) (map-append view old (code ∷ []))
    ∙ append_assoc (map view old) (view code ∷ []) rest
    ∙ ap (λ c. map view old ++ c ∷ rest) one
    ∙ ap (λ fs. map view old ++ codes_of parts fs) (sym (drop_at p.routines n f there))
    ∙ before

pub excess_next : (p : Resolved) (n : ℕ) (f : Routine) → slice_get p.routines n ≡ Some f → excess_at p n ≡ None → excess_among n (drop n p.routines) ≡ excess_among (n + 1) (drop (n + 1) p.routines)
excess_next p n f there none =
    ap (excess_among n) (drop_at p.routines n f there)
    ∙ ap (λ o. excess_or o (excess_among (n + 1) (drop (n + 1) p.routines))) (ap (excess_if_there n) (sym there) ∙ none)

exceeds_first : (e : GenFail) (o rest : Option Excess) → Exceeds e o → Exceeds e (excess_or o rest)
exceeds_first e o rest h = record {
  by_frame = λ f is. ap (λ x. excess_or x rest) (h.by_frame f is);
  by_depth = λ line is. ap (λ x. excess_or x rest) (h.by_depth line is);
}

pub exceeds_here : (p : Resolved) (n : ℕ) (f : Routine) (e : GenFail) (found : Option Excess) → slice_get p.routines n ≡ Some f →
    excess_among n (drop n p.routines) ≡ found → Exceeds e (excess_at p n) → Exceeds e found
exceeds_here p n f e found there is h =
    let same : excess_or (excess_at p n) (excess_among (n + 1) (drop (n + 1) p.routines)) ≡ found =
    ap (λ o. excess_or (excess_if_there n o) (excess_among (n + 1) (drop (n + 1) p.routines))) there
    ∙ ap (excess_among n) (sym (drop_at p.routines n f there)) ∙ is in
    subst (Exceeds e) same (exceeds_first e (excess_at p n) (excess_among (n + 1) (drop (n + 1) p.routines)) h)

-- ---- loops

pub take_next : (rs : List RoutineTree) (k : ℕ) (r : RoutineTree) → k < length rs → r ≡ get_or rs k r → all_loops (take (k + 1) rs) ≡ all_loops (take k rs) + loops_of r.body
take_next [] k r h is = absurd (omega arith)
take_next (x ∷ xs) zero r h is = let e : loops_of r.body ≡ loops_of x.body = ap (λ (q : RoutineTree). loops_of q.body) is in omega (arith, e)
take_next (x ∷ xs) (suc k) r h is =
    let number : suc k + 1 ≡ suc (k + 1) = omega arith in
    let e = take_next xs k r (omega arith) is in
    ap (λ m. all_loops (take m (x ∷ xs))) number ∙ sum (loops_of x.body) (all_loops (take (k + 1) xs)) (all_loops (take k xs)) (loops_of r.body) e
  where
    sum : (a b c d : ℕ) → b ≡ c + d → a + b ≡ a + c + d
    sum a b c d e = omega (arith, e)
