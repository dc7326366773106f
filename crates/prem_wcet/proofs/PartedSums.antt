-- Statements with marked calls, counted from the last one on.
use Rattle.std.proofs.Common.{◌≡◌, ℕ, zero, suc, ◌+◌, ◌-◌, ◌*◌, ◌<◌, ◌≤◌, ◌^◌, Bool, true, false, List, [], ◌∷◌, ap, sym, subst, ◌∙◌, arith, length, drop, take, get_or}
use Rattle.std.proofs.lemmas.List.{drop_more}
use Rattle.prem_asm.specs.Pieces.{branch_of, size_of}
use Rattle.prem_asm.specs.PiecesOf.{pieces_of}
use Rattle.prem_layout.specs.Bounds.{job_weight}
use Rattle.prem_layout.specs.Template.Terms.{nonzero}
use Rattle.prem_bounds.specs.Scale.{clipped}
use Rattle.prem_wcet_laws.specs.Counts.{PathCount, quiet, then_count}
use Rattle.prem_wcet_laws.specs.Least.{own_jump}
use Rattle.prem_wcet_laws.specs.Parted.{Edge, no_edge, by_cut, turn_count}
use Rattle.prem_wcet_laws.specs.Scopes.{Scene}
use Rattle.prem_wcet.specs.Alike.{AreAlike}
use Rattle.prem_wcet.specs.declared.outline.Part.{Part}
use Rattle.prem_wcet.specs.declared.outline.Part.TheVariants.{Plain, Calling, Choice', Turning'}
use Rattle.prem_wcet.specs.EdgesOf.{BelowFits, alone_in, cut_count_in, landing_edge, landing_place, passing_edge}
use Rattle.prem_wcet.specs.Fitting.{FitsAt}
use Rattle.prem_wcet.specs.Outlines.{Outline, ended, plain, calling, choice, turning, between, choice_parted, closed_in, code_of, cut_in, edge_in, front_in, parted_in, passage_in, passing_in}
use Rattle.prem_wcet.specs.PartsOf.{part_before, part_code, part_of, parts_of}
use Rattle.prem_wcet.proofs.CountSums.{alike_chain, alike_is, alike_same, choice_alike, quiet_told, then_told, turn_alike}
use Rattle.prem_wcet.proofs.CutSteps.{closed_cut, closed_quiet, edge_cut, edge_quiet, front_cut, front_quiet}
use Rattle.prem_wcet.proofs.LeastSums.{fits_all, fits_behind, fits_one}
use Rattle.prem_wcet.proofs.PartRows.{drop_part}
use Rattle.prem_wcet.proofs.Passages.{between_size}
use Rattle.prem_wcet.proofs.PlaceWeights.{size_followed}

-- ---- code of statements in a list

pub size_before : (p : Part) (rest : Outline) → size_of (code_of (part_before p rest)) ≡ size_of (part_code p) + size_of (code_of rest)
size_before (Plain code names) rest = size_followed (pieces_of code.now) (code_of rest)
size_before (Calling code names arguments count callee landing) rest = size_followed (pieces_of code.now) (code_of rest)
size_before (Choice' code names condition skips p taken q other) rest = size_followed (pieces_of code.now) (code_of rest)
size_before (Turning' code names first turns head before p body behind) rest = size_followed (pieces_of code.now) (code_of rest)

pub size_drop : (ps : List Part) (n : ℕ) (p : Part) → n < length ps → p ≡ get_or ps n p →
    size_of (code_of (parts_of (drop n ps))) ≡ size_of (part_code p) + size_of (code_of (parts_of (drop (n + 1) ps)))
size_drop ps n p h is = ap (λ o. size_of (code_of o)) (drop_part ps n p h is) ∙ size_before p (parts_of (drop (n + 1) ps))

-- those from a number on fit where they stand
pub fits_from : (ps : List Part) (n start place : ℕ) → n ≤ length ps → FitsAt start (parts_of ps) →
    place + size_of (code_of (parts_of (drop n ps))) ≡ start + size_of (code_of (parts_of ps)) → FitsAt place (parts_of (drop n ps))
fits_from ps zero start place h f is =
    let same : place + size_of (code_of (parts_of ps)) ≡ start + size_of (code_of (parts_of ps)) = is in
    let here : start ≡ place = omega (arith, same) in
    subst (λ k. FitsAt k (parts_of ps)) here f
fits_from [] (suc n) start place h f is = absurd (omega (arith, h))
fits_from (x ∷ xs) (suc n) start place h f is =
    fits_from xs n (start + size_of (part_code x)) place (omega (arith, h)) (fits_behind start x (parts_of xs) f) (let e = size_before x (parts_of xs) in omega (arith, is, e))

module _ (e : Scene) where
  below_behind : (p : Part) (rest : Outline) → BelowFits e (part_before p rest) → BelowFits e rest
  below_behind (Plain code names) rest f = f
  below_behind (Calling code names arguments count callee landing) rest f = f.1
  below_behind (Choice' code names condition skips p taken q other) rest f = f.1.1
  below_behind (Turning' code names first turns head before p body behind) rest f = f.1

  pub below_one : (p : Part) (rest : Outline) → BelowFits e (part_before p rest) → BelowFits e (part_of p)
  below_one (Plain code names) rest f = tt
  below_one (Calling code names arguments count callee landing) rest f = (f.0, tt)
  below_one (Choice' code names condition skips p taken q other) rest f = (f.0, (f.1.0, tt))
  below_one (Turning' code names first turns head before p body behind) rest f = (f.0, tt)

  pub below_from : (ps : List Part) (n : ℕ) → BelowFits e (parts_of ps) → BelowFits e (parts_of (drop n ps))
  below_from ps zero f = f
  below_from [] (suc n) f = f
  below_from (x ∷ xs) (suc n) f = below_from xs n (below_behind x (parts_of xs) f)

-- ---- the passage before the first statement that has marked calls in it

by_one : {A : Type 0} (P : A → Type 0) (b : Bool) (x y : A) → P x → P y → P (by_cut b x y)
by_one P true x y p q = p
by_one P false x y p q = q

by_both : {A B : Type 0} (P : A → B → Type 0) (b : Bool) (x x' : A) (y y' : B) → P x y → P x' y' → P (by_cut b x x') (by_cut b y y')
by_both P true x x' y y' p q = p
by_both P false x x' y y' p q = q

-- it fits where all of them do
pub front_fits : (e : Scene) (at : ℕ) (o : Outline) → FitsAt at o → FitsAt at (front_in e o)
front_fits e at ended f = f
front_fits e at (plain code names rest) f = front_fits e (at + size_of code) rest f
front_fits e at (calling code names arguments count callee landing rest) f =
    let all = fits_all (at + size_of code) rest f.1 in
    by_one (FitsAt at) (cut_in e (calling code names arguments count callee landing ended)) ended (calling code names arguments count callee landing (front_in e rest)) (omega (arith, all))
    (f.0, front_fits e (at + size_of code) rest f.1)
front_fits e at (choice code names condition skips taken other rest) f =
    let all = fits_all (at + size_of code) rest f.1.1 in
    by_one (FitsAt at) (cut_in e (choice code names condition skips taken other ended)) ended (choice code names condition skips taken other (front_in e rest)) (omega (arith, all))
    (f.0, (f.1.0, front_fits e (at + size_of code) rest f.1.1))
front_fits e at (turning code names first turns head before body behind rest) f =
    let all = fits_all (at + size_of code) rest f.1 in
    by_one (FitsAt at) (cut_in e (turning code names first turns head before body behind ended)) ended (turning code names first turns head before body behind (front_in e rest)) (omega (arith, all))
    (f.0, front_fits e (at + size_of code) rest f.1)

-- and with the edge behind it ends within them
pub front_ends : (e : Scene) (last : Edge) (at : ℕ) (o : Outline) → FitsAt at o → size_of (code_of (front_in e o)) + size_of (edge_in e last o).pieces ≤ size_of (code_of o) + size_of last.pieces
front_ends e last at ended f = omega arith
front_ends e last at (plain code names rest) f =
    let more = front_ends e last (at + size_of code) rest f in
    omega (arith, more, size_followed code (code_of rest), size_followed code (code_of (front_in e rest)))
front_ends e last at (calling code names arguments count callee landing rest) f =
    let more = front_ends e last (at + size_of code) rest f.1 in
    let whole = size_followed code (code_of rest) in
    by_both (λ o l. size_of (code_of o) + size_of l.pieces ≤ size_of (code_of (calling code names arguments count callee landing rest)) + size_of last.pieces)
    (cut_in e (calling code names arguments count callee landing ended)) ended (calling code names arguments count callee landing (front_in e rest))
    (passing_in e names arguments count callee) (edge_in e last rest)
    (omega (arith, f.0, whole)) (omega (arith, more, whole, size_followed code (code_of (front_in e rest))))
front_ends e last at (choice code names condition skips taken other rest) f =
    let more = front_ends e last (at + size_of code) rest f.1.1 in
    let whole = size_followed code (code_of rest) in
    by_both (λ o l. size_of (code_of o) + size_of l.pieces ≤ size_of (code_of (choice code names condition skips taken other rest)) + size_of last.pieces)
    (cut_in e (choice code names condition skips taken other ended)) ended (choice code names condition skips taken other (front_in e rest)) no_edge (edge_in e last rest)
    (omega arith) (omega (arith, more, whole, size_followed code (code_of (front_in e rest))))
front_ends e last at (turning code names first turns head before body behind rest) f =
    let more = front_ends e last (at + size_of code) rest f.1 in
    let whole = size_followed code (code_of rest) in
    by_both (λ o l. size_of (code_of o) + size_of l.pieces ≤ size_of (code_of (turning code names first turns head before body behind rest)) + size_of last.pieces)
    (cut_in e (turning code names first turns head before body behind ended)) ended (turning code names first turns head before body behind (front_in e rest)) no_edge (edge_in e last rest)
    (omega arith) (omega (arith, more, whole, size_followed code (code_of (front_in e rest))))

-- the code behind a statement's landing is what stands behind the statement
pub landing_ends : (at : ℕ) (p : Part) → FitsAt at (part_of p) → landing_place at (part_of p) + size_of (landing_edge (part_of p)).pieces ≡ at + size_of (part_code p)
landing_ends at (Plain code names) f = omega arith
landing_ends at (Calling code names arguments count callee landing) f = omega (arith, f.0)
landing_ends at (Choice' code names condition skips p taken q other) f = omega arith
landing_ends at (Turning' code names first turns head before p body behind) f = omega arith

-- ---- from the last one on

-- Statements from a number on, which stand at a place: the passage that they begin ends before one of them, or behind all; this edge is there, and
-- so much is counted behind it.
pub record IsClosed (e : Scene) (last : Edge) (ps : List Part) (start n place until : ℕ) (edge : Edge) (count : PathCount) : Type 0 where
  pub low : n ≤ until
  pub high : until ≤ length ps
  pub stand : place + size_of (code_of (parts_of (drop n ps))) ≡ start + size_of (code_of (parts_of ps))
  pub front : parts_of (take (until - n) (drop n ps)) ≡ front_in e (parts_of (drop n ps))
  pub behind : edge ≡ edge_in e last (parts_of (drop n ps))
  pub closed : AreAlike count (closed_in e last place (parts_of (drop n ps)))

-- the list from one of them on
taken_more : (ps : List Part) (n k : ℕ) (p : Part) → n < length ps → p ≡ get_or ps n p → parts_of (take (suc k) (drop n ps)) ≡ part_before p (parts_of (take k (drop (n + 1) ps)))
taken_more ps n k p h is = ap (λ xs. parts_of (take (suc k) xs)) (drop_more ps n p h) ∙ ap (λ q. part_before q (parts_of (take k (drop (n + 1) ps)))) (sym is)

-- one more before them, which has no marked calls in it
pub closed_before : (e : Scene) (last : Edge) (ps : List Part) (start m n place begin until : ℕ) (edge : Edge) (count : PathCount) (p : Part) → m ≡ n + 1 → n < length ps → p ≡ get_or ps n p →
    cut_in e (part_of p) ≡ false → begin + size_of (part_code p) ≡ place → IsClosed e last ps start m place until edge count → IsClosed e last ps start n begin until edge count
closed_before e last ps start m n place begin until edge count p ism h is cut at f =
    let rest : List Part = drop (n + 1) ps in
    let here : parts_of (drop n ps) ≡ part_before p (parts_of rest) = drop_part ps n p h is in
    let same : drop m ps ≡ rest = ap (λ k. drop k ps) ism in
    let one : until - n ≡ suc (until - m) = (let low = f.low in omega (arith, low, ism)) in
    let again : parts_of (take (until - m) rest) ≡ front_in e (parts_of rest) = subst (λ xs. parts_of (take (until - m) xs) ≡ front_in e (parts_of xs)) same f.front in
    let edges : edge ≡ edge_in e last (parts_of rest) = subst (λ xs. edge ≡ edge_in e last (parts_of xs)) same f.behind in
    let counts : AreAlike count (closed_in e last place (parts_of rest)) = subst (λ xs. AreAlike count (closed_in e last place (parts_of xs))) same f.closed in
    record {
      low = (let low = f.low in omega (arith, low, ism));
      high = f.high;
      stand = (let size = size_drop ps n p h is in let old = f.stand in let more = ap (λ xs. size_of (code_of (parts_of xs))) same in omega (arith, size, old, more, at));
      front =
          ap (λ k. parts_of (take k (drop n ps))) one ∙ taken_more ps n (until - m) p h is ∙ ap (part_before p) again ∙ sym (ap (front_in e) here ∙ front_quiet e p (parts_of rest) cut);
      behind = edges ∙ sym (ap (edge_in e last) here ∙ edge_quiet e last p (parts_of rest) cut);
      closed =
          alike_chain count (closed_in e last place (parts_of rest)) (closed_in e last begin (parts_of (drop n ps))) counts
          (alike_is (closed_in e last place (parts_of rest)) (closed_in e last begin (parts_of (drop n ps)))
          (sym (ap (closed_in e last begin) here ∙ closed_quiet e last begin p (parts_of rest) cut ∙ ap (λ k. closed_in e last k (parts_of rest)) at)));
    }

-- one that has
pub closed_at : (e : Scene) (last : Edge) (ps : List Part) (start m n place begin until : ℕ) (edge next : Edge) (count cut made : PathCount)
    (front : Outline) (p : Part) → m ≡ n + 1 → n < length ps → p ≡ get_or ps n p →
    cut_in e (part_of p) ≡ true → begin + size_of (part_code p) ≡ place → next ≡ passing_edge e (part_of p) →
    AreAlike cut (cut_count_in e begin (part_of p)) → front ≡ parts_of (take (until - m) (drop m ps)) →
    AreAlike made (then_count cut (then_count (quiet (passage_in e (landing_place begin (part_of p)) (landing_edge (part_of p)) front edge)) count)) →
    IsClosed e last ps start m place until edge count → IsClosed e last ps start n begin n next made
closed_at e last ps start m n place begin until edge next count cut made front p ism h is iscut at isn alike isf told f =
    let rest : List Part = drop (n + 1) ps in
    let here : parts_of (drop n ps) ≡ part_before p (parts_of rest) = drop_part ps n p h is in
    let same : drop m ps ≡ rest = ap (λ k. drop k ps) ism in
    let fronts : front ≡ front_in e (parts_of rest) = isf ∙ f.front ∙ ap (λ xs. front_in e (parts_of xs)) same in
    let edges : edge ≡ edge_in e last (parts_of rest) = subst (λ xs. edge ≡ edge_in e last (parts_of xs)) same f.behind in
    let counts : AreAlike count (closed_in e last place (parts_of rest)) = subst (λ xs. AreAlike count (closed_in e last place (parts_of xs))) same f.closed in
    let from : ℕ = landing_place begin (part_of p) in
    let first : Edge = landing_edge (part_of p) in
    let most : ℕ = passage_in e from first (front_in e (parts_of rest)) (edge_in e last (parts_of rest)) in
    let passes : passage_in e from first front edge ≡ most = λ i. passage_in e from first (fronts i) (edges i) in
    record {
      low = omega arith;
      high = omega (arith, h);
      stand = (let size = size_drop ps n p h is in let old = f.stand in let more = ap (λ xs. size_of (code_of (parts_of xs))) same in omega (arith, size, old, more, at));
      front = (let nothing : n - n ≡ 0 = omega arith in ap (λ k. parts_of (take k (drop n ps))) nothing ∙ sym (ap (front_in e) here ∙ front_cut e p (parts_of rest) iscut));
      behind = isn ∙ sym (ap (edge_in e last) here ∙ edge_cut e last p (parts_of rest) iscut);
      closed =
          alike_chain made (then_count (cut_count_in e begin (part_of p)) (then_count (quiet most) (closed_in e last place (parts_of rest)))) (closed_in e last begin (parts_of (drop n ps)))
          (then_told cut (cut_count_in e begin (part_of p)) (then_count (quiet (passage_in e from first front edge)) count)
          (then_count (quiet most) (closed_in e last place (parts_of rest))) made told alike
          (then_told (quiet (passage_in e from first front edge)) (quiet most) count (closed_in e last place (parts_of rest)) (then_count (quiet (passage_in e from first front edge)) count)
          (alike_same (then_count (quiet (passage_in e from first front edge)) count)) (alike_is (quiet (passage_in e from first front edge)) (quiet most) (ap quiet passes)) counts))
          (alike_is (then_count (cut_count_in e begin (part_of p)) (then_count (quiet most) (closed_in e last place (parts_of rest)))) (closed_in e last begin (parts_of (drop n ps)))
          (sym (ap (closed_in e last begin) here ∙ closed_cut e last begin p (parts_of rest) iscut
          ∙ ap (λ k. then_count (cut_count_in e begin (part_of p)) (then_count (quiet most) (closed_in e last k (parts_of rest)))) at)));
    }

-- all of them, behind the edge before them
pub closed_all : (e : Scene) (at place n until told : ℕ) (before last edge : Edge) (ps : List Part) (front : Outline) (start count r : PathCount) → n ≡ 0 → front ≡ parts_of (take until ps) →
    told ≡ clipped (passage_in e at before front edge) → start ≡ quiet told → AreAlike r (then_count start count) →
    IsClosed e last ps (at + size_of before.pieces) n place until edge count → AreAlike r (parted_in e at before last (parts_of ps))
closed_all e at place n until told before last edge ps front start count r isn isf ist iss isr f =
    let o : Outline = parts_of ps in
    let same : drop n ps ≡ ps = ap (λ k. drop k ps) isn in
    let count_is : until - n ≡ until = omega (arith, isn) in
    let taken : parts_of (take (until - n) (drop n ps)) ≡ parts_of (take until ps) = λ i. parts_of (take (count_is i) (same i)) in
    let fronts : front ≡ front_in e o = isf ∙ sym taken ∙ f.front ∙ ap (λ xs. front_in e (parts_of xs)) same in
    let edges : edge ≡ edge_in e last o = f.behind ∙ ap (λ xs. edge_in e last (parts_of xs)) same in
    let where_is : place ≡ at + size_of before.pieces = (let old = f.stand in let size = ap (λ xs. size_of (code_of (parts_of xs))) same in omega (arith, old, size)) in
    let counts : AreAlike count (closed_in e last (at + size_of before.pieces) o) =
    alike_chain count (closed_in e last place (parts_of (drop n ps))) (closed_in e last (at + size_of before.pieces) o) f.closed
    (alike_is (closed_in e last place (parts_of (drop n ps))) (closed_in e last (at + size_of before.pieces) o) (λ i. closed_in e last (where_is i) (parts_of (same i)))) in
    let passes : told ≡ clipped (passage_in e at before (front_in e o) (edge_in e last o)) = ist ∙ (λ i. clipped (passage_in e at before (fronts i) (edges i))) in
    then_told start (quiet (passage_in e at before (front_in e o) (edge_in e last o))) count (closed_in e last (at + size_of before.pieces) o) r isr
    (quiet_told start told (passage_in e at before (front_in e o) (edge_in e last o)) iss passes) counts

-- where it is counted from, at each statement
drop_small : (ps : List Part) (n : ℕ) → size_of (code_of (parts_of (drop n ps))) ≤ size_of (code_of (parts_of ps))
drop_small ps zero = (let same : size_of (code_of (parts_of ps)) ≤ size_of (code_of (parts_of ps)) = omega arith in same)
drop_small [] (suc n) = (let same : size_of (code_of (parts_of [])) ≤ size_of (code_of (parts_of [])) = omega arith in same)
drop_small (x ∷ xs) (suc n) = let more = drop_small xs n in let size = size_before x (parts_of xs) in omega (arith, more, size)

module _ (e : Scene) (last : Edge) (ps : List Part) (start m n place until : ℕ) (edge : Edge) (count : PathCount) (p : Part)
    (f : IsClosed e last ps start m place until edge count) (fits : FitsAt start (parts_of ps)) where
  pub part_room : m ≡ n + 1 → n < length ps → p ≡ get_or ps n p → size_of (part_code p) ≤ place
  part_room ism h is =
      let stand = f.stand in
      let small = drop_small ps n in
      let size = size_drop ps n p h is in
      let more = ap (λ k. size_of (code_of (parts_of (drop k ps)))) ism in
      omega (arith, stand, small, size, more)

  behind_it : FitsAt place (parts_of (drop m ps))
  behind_it = fits_from ps m start place (let low = f.low in let high = f.high in omega (arith, low, high)) fits f.stand

  pub part_fits : (begin : ℕ) → m ≡ n + 1 → n < length ps → p ≡ get_or ps n p → begin + size_of (part_code p) ≡ place → FitsAt begin (part_of p)
  part_fits begin ism h is at =
      let stand = f.stand in
      let size = size_drop ps n p h is in
      let more = ap (λ k. size_of (code_of (parts_of (drop k ps)))) ism in
      let all = fits_from ps n start begin (omega (arith, h)) fits (omega (arith, stand, size, more, at)) in
      fits_one begin p (parts_of (drop (n + 1) ps)) (subst (FitsAt begin) (drop_part ps n p h is) all)

  pub part_below : n < length ps → p ≡ get_or ps n p → BelowFits e (parts_of ps) → BelowFits e (part_of p)
  part_below h is below = below_one e p (parts_of (drop (n + 1) ps)) (subst (BelowFits e) (drop_part ps n p h is) (below_from e ps n below))

  pub front_place : (begin : ℕ) (front : Outline) → FitsAt begin (part_of p) → begin + size_of (part_code p) ≡ place → front ≡ parts_of (take (until - m) (drop m ps)) →
      start + size_of (code_of (parts_of ps)) + size_of last.pieces < 2 ^ 32 → landing_place begin (part_of p) + size_of (between (landing_edge (part_of p)) front edge).pieces < 2 ^ 32
  front_place begin front one at isf room =
      let stand = f.stand in
      let size = between_size (landing_edge (part_of p)) edge front in
      let landed = landing_ends begin p one in
      let ends = front_ends e last place (parts_of (drop m ps)) behind_it in
      let fronts = ap (λ o. size_of (code_of o)) (isf ∙ f.front) in
      let edges = ap (λ (l : Edge). size_of l.pieces) f.behind in
      omega (arith, stand, size, landed, ends, fronts, edges, at, room)

  pub front_stands : (begin : ℕ) (front : Outline) → FitsAt begin (part_of p) → begin + size_of (part_code p) ≡ place → front ≡ parts_of (take (until - m) (drop m ps)) →
      FitsAt (landing_place begin (part_of p) + size_of (landing_edge (part_of p)).pieces) front
  front_stands begin front one at isf =
      let landed : place ≡ landing_place begin (part_of p) + size_of (landing_edge (part_of p)).pieces = sym (landing_ends begin p one ∙ at) in
      subst (λ k. FitsAt k front) landed (subst (FitsAt place) (sym (isf ∙ f.front)) (front_fits e place (parts_of (drop m ps)) behind_it))

-- and before all of them
module _ (e : Scene) (last : Edge) (ps : List Part) (start n place until : ℕ) (edge : Edge) (count : PathCount) (f : IsClosed e last ps start n place until edge count) (isn : n ≡ 0) where
  whole_list : drop n ps ≡ ps
  whole_list = ap (λ k. drop k ps) isn

  pub first_front : parts_of (take until ps) ≡ front_in e (parts_of ps)
  first_front =
      let same : until - n ≡ until = omega (arith, isn) in
      let taken : parts_of (take (until - n) (drop n ps)) ≡ parts_of (take until ps) = λ i. parts_of (take (same i) (whole_list i)) in
      sym taken ∙ f.front ∙ ap (λ xs. front_in e (parts_of xs)) whole_list

  pub first_edge : edge ≡ edge_in e last (parts_of ps)
  first_edge = f.behind ∙ ap (λ xs. edge_in e last (parts_of xs)) whole_list

  pub first_fits : FitsAt start (parts_of ps) → FitsAt start (parts_of (take until ps))
  first_fits fits = subst (FitsAt start) (sym first_front) (front_fits e start (parts_of ps) fits)

  pub first_place : (at : ℕ) (before : Edge) → start ≡ at + size_of before.pieces → FitsAt start (parts_of ps) → at + size_of (between before (parts_of ps) last).pieces < 2 ^ 32 →
      at + size_of (between before (parts_of (take until ps)) edge).pieces < 2 ^ 32
  first_place at before iss fits room =
      let whole = between_size before last (parts_of ps) in
      let size = between_size before edge (parts_of (take until ps)) in
      let ends = front_ends e last start (parts_of ps) fits in
      let fronts = ap (λ o. size_of (code_of o)) first_front in
      let edges = ap (λ (l : Edge). size_of l.pieces) first_edge in
      omega (arith, whole, size, ends, fronts, edges, room)

-- no code around them
pub alone_place : (at : ℕ) (b : Edge) (o : Outline) → b ≡ no_edge → FitsAt at o → at + size_of (between b o b).pieces < 2 ^ 32
alone_place at b o is fits =
    let all = fits_all at o fits in
    let size = between_size b b o in
    let none : size_of b.pieces ≡ 0 = ap (λ (l : Edge). size_of l.pieces) is in
    omega (arith, all, size, none)

pub alone_fits : (at : ℕ) (b : Edge) (o : Outline) → b ≡ no_edge → FitsAt at o → FitsAt (at + size_of b.pieces) o
alone_fits at b o is fits =
    let none : size_of b.pieces ≡ 0 = ap (λ (l : Edge). size_of l.pieces) is in
    let same : at ≡ at + size_of b.pieces = omega (arith, none) in
    subst (λ k. FitsAt k o) same fits

-- ---- statements within others

pub alone_told : (e : Scene) (at : ℕ) (o : Outline) → parted_in e at no_edge no_edge o ≡ alone_in e at o
alone_told e at o =
    let none : at + 0 ≡ at = omega arith in
    ap (λ k. then_count (quiet (passage_in e at no_edge (front_in e o) (edge_in e no_edge o))) (closed_in e no_edge k o)) none

-- behind a statement that has marked calls in it
pub behind_told : (most : ℕ) (told : ℕ) (next tail cut rest r : PathCount) → told ≡ clipped most → next ≡ quiet told → AreAlike tail (then_count next rest) → AreAlike r (then_count cut tail) →
    AreAlike r (then_count cut (then_count (quiet most) rest))
behind_told most told next tail cut rest r ist isn t e =
    then_told cut cut tail (then_count (quiet most) rest) r e (alike_same cut) (then_told next (quiet most) rest rest tail t (quiet_told next told most isn ist) (alike_same rest))

-- a choice
pub cut_choice_told : (e : Scene) (skips w test : ℕ) (start sides first second x y r : PathCount) → test ≡ clipped w → start ≡ quiet test → AreAlike first x → AreAlike second y →
    AreAlike sides (choice_parted e skips first second) → AreAlike r (then_count start sides) → AreAlike r (then_count (quiet w) (choice_parted e skips x y))
cut_choice_told e skips w test start sides first second x y r isw iss a b s t =
    then_told start (quiet w) sides (choice_parted e skips x y) r t (quiet_told start test w iss isw)
    (alike_chain sides (choice_parted e skips first second) (choice_parted e skips x y) s
    (choice_alike (job_weight e.plant (branch_of (nonzero 10))) (skips * own_jump e) (own_jump e) first second x y a b))

-- a loop
pub cut_turns_told : (e : Scene) (turns h top f outside b start l last : ℕ) (inside leave closing begin turn all entry x r : PathCount) →
    AreAlike inside x → last ≡ clipped l → leave ≡ quiet last → AreAlike closing (then_count inside leave) →
    start ≡ clipped b → begin ≡ quiet start → AreAlike turn (then_count begin closing) → top ≡ clipped h →
    AreAlike all (turn_count e turns (nonzero 10) top turn) → outside ≡ clipped f → entry ≡ quiet outside → AreAlike r (then_count entry all) →
    AreAlike r (then_count (quiet f) (turn_count e turns (nonzero 10) h (then_count (quiet b) (then_count x (quiet l)))))
cut_turns_told e turns h top f outside b start l last inside leave closing begin turn all entry x r isx isl isleave isended iss isb isturn ist isall iso isentry isr =
    let tail : AreAlike closing (then_count x (quiet l)) = then_told inside x leave (quiet l) closing isended isx (quiet_told leave last l isleave isl) in
    let one : AreAlike turn (then_count (quiet b) (then_count x (quiet l))) = then_told begin (quiet b) closing (then_count x (quiet l)) turn isturn (quiet_told begin start b isb iss) tail in
    let same : clipped top ≡ clipped h = omega (arith, ist) in
    let every : AreAlike all (turn_count e turns (nonzero 10) h (then_count (quiet b) (then_count x (quiet l)))) =
    alike_chain all (turn_count e turns (nonzero 10) top turn) (turn_count e turns (nonzero 10) h (then_count (quiet b) (then_count x (quiet l)))) isall
    (turn_alike turns (job_weight e.plant (branch_of (nonzero 10))) (own_jump e) top h turn (then_count (quiet b) (then_count x (quiet l))) same one) in
    then_told entry (quiet f) all (turn_count e turns (nonzero 10) h (then_count (quiet b) (then_count x (quiet l)))) r isr (quiet_told entry outside f isentry iso) every
