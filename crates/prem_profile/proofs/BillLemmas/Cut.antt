-- Statements with marked calls, billed from the last one on.
use Rattle.std.specs.Prelude.{◌-◌}
use Rattle.std.proofs.Common.{◌≡◌, ℕ, ◌+◌, ◌<◌, Bool, true, false, List, [], ◌∷◌, ◌++◌, append_assoc, refl, ap, sym, subst, ◌∙◌, arith, length, drop, take, get_or}
use Rattle.prem_asm.specs.Pieces.{size_of}
use Rattle.prem_asm.specs.PiecesOf.{pieces_of}
use Rattle.prem_wcet_laws.specs.Counts.{PathCount, quiet, then_count}
use Rattle.prem_wcet_laws.specs.Parted.{Edge, by_cut, no_edge}
use Rattle.prem_wcet_laws.specs.Scopes.{Scene}
use Rattle.prem_wcet.specs.declared.outline.Part.{Part}
use Rattle.prem_wcet.specs.declared.outline.Part.TheVariants.{Plain, Calling, Choice', Turning'}
use Rattle.prem_wcet.specs.Alike.{AreAlike}
use Rattle.prem_wcet.specs.EdgesOf.{cut_count_in, landing_edge, landing_place, passing_edge}
use Rattle.prem_wcet.specs.Outlines.{Outline, ended, closed_in, code_of, cut_in, edge_in, first_place, front_in, inner_place, landing_in, passage_in, second_place}
use Rattle.prem_wcet.specs.PartsOf.{part_before, part_code, part_of, parts_of, row_before}
use Rattle.prem_wcet.proofs.CountSums.{alike_same}
use Rattle.prem_wcet.proofs.PartRows.{drop_part}
use Rattle.prem_wcet.proofs.PartedSums.{IsClosed as IsCounted, closed_at as counted_at, closed_before as counted_before, first_edge, first_front}
use Rattle.prem_profile.specs.Bound.Bills.{Bill}
use Rattle.prem_profile.specs.Bound.Scopes.{own_bill, own_jump_item}
use Rattle.prem_profile.specs.Bound.Statements.{CallBill, choice_bill, head_end, inner_end, over_place, turns_bill}
use Rattle.prem_profile.specs.Bound.Passages.{Stubs, closed_bill, cut_bill, first_passage, parted_bill, passage_bill}
use Rattle.prem_profile.specs.Bound.Memory.{alone_bill, cut_part_bill}
use Rattle.prem_profile.proofs.BillLemmas.Slots.{past}
use Rattle.prem_profile.proofs.Numbers.{false_true}

-- a statement where it has marked calls, the passage behind it, and the rest
cut_join : (b : Bool) (a p r : Bill) → b ≡ true → by_cut b (a ++ p) [] ++ r ≡ a ++ (p ++ r)
cut_join b a p r is = ap (λ t. by_cut t (a ++ p) [] ++ r) is ∙ append_assoc a p r

cut_none : (b : Bool) (x r : Bill) → b ≡ false → by_cut b x [] ++ r ≡ r
cut_none b x r is = ap (λ t. by_cut t x [] ++ r) is

module _ (e : Scene) (stubs : Stubs) (known : List CallBill) (last : Edge) where
  closed_cut : (at : ℕ) (p : Part) (rest : Outline) → cut_in e (part_of p) ≡ true →
      closed_bill e stubs known last at (part_before p rest)
      ≡ cut_part_bill e stubs known at (part_of p)
      ++ (passage_bill e known (landing_place at (part_of p)) (landing_edge (part_of p)) (front_in e rest) (edge_in e last rest) ++ closed_bill e stubs known last (at + size_of (part_code p)) rest)
  closed_cut at (Plain code names) rest is = absurd (false_true is)
  closed_cut at (Calling code names arguments count callee landing) rest is =
      cut_join (cut_in e (part_of (Calling code names arguments count callee landing)))
      (own_jump_item e (at + size_of (pieces_of arguments.now)) ∷ cut_bill e stubs known callee)
      (first_passage e known (at + size_of (pieces_of arguments.now) + 4) (landing_in (pieces_of landing.now)) last rest) (closed_bill e stubs known last (at + size_of (pieces_of code.now)) rest) is
  closed_cut at (Choice' code names condition skips p taken q other) rest is =
      let t : Outline = row_before taken ended in
      let o : Outline = row_before other ended in
      cut_join (cut_in e (part_of (Choice' code names condition skips p taken q other)))
      (own_bill e at (pieces_of condition.now)
      ++ choice_bill e (at + size_of (pieces_of condition.now)) (over_place at (pieces_of condition.now) t) skips (alone_bill e stubs known (first_place at (pieces_of condition.now)) t)
      (alone_bill e stubs known (second_place at (pieces_of condition.now) t skips) o))
      (first_passage e known (at + size_of (pieces_of code.now)) no_edge last rest) (closed_bill e stubs known last (at + size_of (pieces_of code.now)) rest) is
  closed_cut at (Turning' code names first turns head before p body behind) rest is =
      let b : Outline = row_before body ended in
      let start : ℕ = inner_place at (pieces_of first.now) (pieces_of head.now) (pieces_of before.now) in
      let end : ℕ = inner_end at (pieces_of first.now) (pieces_of head.now) (pieces_of before.now) b in
      cut_join (cut_in e (part_of (Turning' code names first turns head before p body behind)))
      (own_bill e at (pieces_of first.now)
      ++ turns_bill e (head_end at (pieces_of first.now) (pieces_of head.now)) (end + size_of (pieces_of behind.now)) turns (own_bill e (at + size_of (pieces_of first.now)) (pieces_of head.now))
      (own_bill e (head_end at (pieces_of first.now) (pieces_of head.now) + 8) (pieces_of before.now) ++ (alone_bill e stubs known start b ++ own_bill e end (pieces_of behind.now))))
      (first_passage e known (at + size_of (pieces_of code.now)) no_edge last rest) (closed_bill e stubs known last (at + size_of (pieces_of code.now)) rest) is

  closed_quiet : (at : ℕ) (p : Part) (rest : Outline) → cut_in e (part_of p) ≡ false →
      closed_bill e stubs known last at (part_before p rest) ≡ closed_bill e stubs known last (at + size_of (part_code p)) rest
  closed_quiet at (Plain code names) rest is = refl
  closed_quiet at (Calling code names arguments count callee landing) rest is = cut_none _ _ _ is
  closed_quiet at (Choice' code names condition skips p taken q other) rest is = cut_none _ _ _ is
  closed_quiet at (Turning' code names first turns head before p body behind) rest is = cut_none _ _ _ is

-- ---- from the last one on

-- Statements from a number on, which stand at a place: the passage that they begin ends before one of them, or behind all; this edge is there, and
-- this bill is behind it.
pub record IsClosed (e : Scene) (stubs : Stubs) (known : List CallBill) (last : Edge) (ps : List Part) (start n place until : ℕ) (edge : Edge) (bill : Bill) : Type 0 where
  pub count : PathCount
  pub counted : IsCounted e last ps start n place until edge count
  pub closed : bill ≡ closed_bill e stubs known last place (parts_of (drop n ps))

module _ (e : Scene) (stubs : Stubs) (known : List CallBill) (last : Edge) (ps : List Part) (start : ℕ) where
  -- none of them
  pub closed_none : (n place until : ℕ) (edge : Edge) (bill : Bill) → n ≡ length ps → until ≡ length ps → place ≡ start + size_of (code_of (parts_of ps)) → edge ≡ last → bill ≡ [] →
      IsClosed e stubs known last ps start n place until edge bill
  closed_none n place until edge bill isn isu at ise isb =
      let nothing : drop n ps ≡ [] = past ps n (omega (arith, isn)) in
      let few : until - n ≡ 0 = omega (arith, isn, isu) in
      record {
        count = quiet 0;
        counted = record {
          low = omega (arith, isn, isu);
          high = omega (arith, isu);
          stand = (let size = ap (λ xs. size_of (code_of (parts_of xs))) nothing in omega (arith, size, at));
          front = (λ i. parts_of (take (few i) (nothing i))) ∙ sym (ap (λ xs. front_in e (parts_of xs)) nothing);
          behind = ise ∙ sym (ap (λ xs. edge_in e last (parts_of xs)) nothing);
          closed = subst (λ xs. AreAlike (quiet 0) (closed_in e last place (parts_of xs))) (sym nothing) (alike_same (quiet 0));
        };
        closed = isb ∙ sym (ap (λ xs. closed_bill e stubs known last place (parts_of xs)) nothing);
      }

  -- one more before them, which has no marked calls in it
  pub closed_before : (m n place begin until : ℕ) (edge : Edge) (bill : Bill) (p : Part) → m ≡ n + 1 → n < length ps → p ≡ get_or ps n p →
      cut_in e (part_of p) ≡ false → begin + size_of (part_code p) ≡ place → IsClosed e stubs known last ps start m place until edge bill → IsClosed e stubs known last ps start n begin until edge bill
  closed_before m n place begin until edge bill p ism h is cut at f =
      let rest : List Part = drop (n + 1) ps in
      let here : parts_of (drop n ps) ≡ part_before p (parts_of rest) = drop_part ps n p h is in
      let same : drop m ps ≡ rest = ap (λ k. drop k ps) ism in
      record {
        count = f.count;
        counted = counted_before e last ps start m n place begin until edge f.count p ism h is cut at f.counted;
        closed = f.closed ∙ (λ i. closed_bill e stubs known last (sym at i) (parts_of (same i))) ∙ sym (ap (closed_bill e stubs known last begin) here ∙ closed_quiet e stubs known last begin p (parts_of rest) cut);
      }

  -- one that has
  pub closed_at : (m n place begin until : ℕ) (edge next : Edge) (bill cut made : Bill) (front : Outline) (p : Part) → m ≡ n + 1 → n < length ps → p ≡ get_or ps n p →
      cut_in e (part_of p) ≡ true → begin + size_of (part_code p) ≡ place → next ≡ passing_edge e (part_of p) →
      cut ≡ cut_part_bill e stubs known begin (part_of p) → front ≡ parts_of (take (until - m) (drop m ps)) →
      made ≡ cut ++ (passage_bill e known (landing_place begin (part_of p)) (landing_edge (part_of p)) front edge ++ bill) →
      IsClosed e stubs known last ps start m place until edge bill → IsClosed e stubs known last ps start n begin n next made
  closed_at m n place begin until edge next bill cut made front p ism h is iscut at isn isc isf ism2 f =
      let rest : List Part = drop (n + 1) ps in
      let here : parts_of (drop n ps) ≡ part_before p (parts_of rest) = drop_part ps n p h is in
      let same : drop m ps ≡ rest = ap (λ k. drop k ps) ism in
      let g = f.counted in
      let fronts : front ≡ front_in e (parts_of rest) = isf ∙ g.front ∙ ap (λ xs. front_in e (parts_of xs)) same in
      let edges : edge ≡ edge_in e last (parts_of rest) = subst (λ xs. edge ≡ edge_in e last (parts_of xs)) same g.behind in
      let from : ℕ = landing_place begin (part_of p) in
      let first : Edge = landing_edge (part_of p) in
      let told : PathCount = then_count (cut_count_in e begin (part_of p)) (then_count (quiet (passage_in e from first front edge)) f.count) in
      record {
        count = told;
        counted =
            counted_at e last ps start m n place begin until edge next f.count (cut_count_in e begin (part_of p)) told front p ism h is iscut at isn (alike_same (cut_count_in e begin (part_of p))) isf
            (alike_same told) g;
        closed =
            ism2
            ∙ (λ i. isc i ++ (passage_bill e known from first (fronts i) (edges i) ++ (f.closed ∙ (λ j. closed_bill e stubs known last (sym at j) (parts_of (same j)))) i))
            ∙ sym (ap (closed_bill e stubs known last begin) here ∙ closed_cut e stubs known last begin p (parts_of rest) iscut);
      }

-- all of them, behind the edge before them
pub closed_all : (e : Scene) (stubs : Stubs) (known : List CallBill) (at place n until : ℕ) (before last edge : Edge) (ps : List Part) (front : Outline) (first bill all : Bill) → n ≡ 0 →
    front ≡ parts_of (take until ps) → first ≡ passage_bill e known at before front edge → all ≡ first ++ bill →
    IsClosed e stubs known last ps (at + size_of before.pieces) n place until edge bill → all ≡ parted_bill e stubs known at before last (parts_of ps)
closed_all e stubs known at place n until before last edge ps front first bill all isn isf ist isa f =
    let g = f.counted in
    let same : drop n ps ≡ ps = ap (λ k. drop k ps) isn in
    let where_is : place ≡ at + size_of before.pieces = (let old = g.stand in let size = ap (λ xs. size_of (code_of (parts_of xs))) same in omega (arith, old, size)) in
    let fronts : front ≡ front_in e (parts_of ps) = isf ∙ first_front e last ps (at + size_of before.pieces) n place until edge f.count g isn in
    let edges : edge ≡ edge_in e last (parts_of ps) = first_edge e last ps (at + size_of before.pieces) n place until edge f.count g isn in
    isa
    ∙ (λ i. (ist ∙ (λ j. passage_bill e known at before (fronts j) (edges j))) i ++ (f.closed ∙ (λ j. closed_bill e stubs known last (where_is j) (parts_of (same j)))) i)
