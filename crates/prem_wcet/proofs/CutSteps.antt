-- What a statement before others adds to what is counted of these.
use Rattle.std.proofs.Common.{◌≡◌, ℕ, ◌+◌, Bool, true, false, refl, ap}
use Rattle.prem_asm.specs.Pieces.{size_of}
use Rattle.prem_wcet_laws.specs.Scopes.{Scene}
use Rattle.prem_wcet_laws.specs.Counts.{quiet, then_count}
use Rattle.prem_wcet_laws.specs.Parted.{Edge, by_cut}
use Rattle.prem_wcet.specs.declared.outline.Part.{Part}
use Rattle.prem_wcet.specs.declared.outline.Part.TheVariants.{Plain, Calling, Choice', Turning'}
use Rattle.prem_wcet.specs.Outlines.{Outline, ended, cut_in, front_in, edge_in, closed_in, passage_in}
use Rattle.prem_wcet.specs.PartsOf.{part_before, part_code, part_of}
use Rattle.prem_wcet.specs.EdgesOf.{cut_count_in, landing_edge, landing_place, passing_edge}

false_true : false ≡ true → ⊥
false_true e = cc

by_true : {A : Type 0} (b : Bool) (x y : A) → b ≡ true → by_cut b x y ≡ x
by_true b x y is = ap (λ c. by_cut c x y) is

by_false : {A : Type 0} (b : Bool) (x y : A) → b ≡ false → by_cut b x y ≡ y
by_false b x y is = ap (λ c. by_cut c x y) is

module _ (e : Scene) where
  pub closed_cut : (last : Edge) (at : ℕ) (p : Part) (rest : Outline) → cut_in e (part_of p) ≡ true →
      closed_in e last at (part_before p rest)
      ≡ then_count (cut_count_in e at (part_of p))
      (then_count (quiet (passage_in e (landing_place at (part_of p)) (landing_edge (part_of p)) (front_in e rest) (edge_in e last rest))) (closed_in e last (at + size_of (part_code p)) rest))
  closed_cut last at (Plain code names) rest is = absurd (false_true is)
  closed_cut last at (Calling code names arguments count callee landing) rest is = by_true _ _ _ is
  closed_cut last at (Choice' code names condition skips p taken q other) rest is = by_true _ _ _ is
  closed_cut last at (Turning' code names first turns head before p body behind) rest is = by_true _ _ _ is

  pub closed_quiet : (last : Edge) (at : ℕ) (p : Part) (rest : Outline) → cut_in e (part_of p) ≡ false → closed_in e last at (part_before p rest) ≡ closed_in e last (at + size_of (part_code p)) rest
  closed_quiet last at (Plain code names) rest is = refl
  closed_quiet last at (Calling code names arguments count callee landing) rest is = by_false _ _ _ is
  closed_quiet last at (Choice' code names condition skips p taken q other) rest is = by_false _ _ _ is
  closed_quiet last at (Turning' code names first turns head before p body behind) rest is = by_false _ _ _ is

  pub front_cut : (p : Part) (rest : Outline) → cut_in e (part_of p) ≡ true → front_in e (part_before p rest) ≡ ended
  front_cut (Plain code names) rest is = absurd (false_true is)
  front_cut (Calling code names arguments count callee landing) rest is = by_true _ _ _ is
  front_cut (Choice' code names condition skips p taken q other) rest is = by_true _ _ _ is
  front_cut (Turning' code names first turns head before p body behind) rest is = by_true _ _ _ is

  pub front_quiet : (p : Part) (rest : Outline) → cut_in e (part_of p) ≡ false → front_in e (part_before p rest) ≡ part_before p (front_in e rest)
  front_quiet (Plain code names) rest is = refl
  front_quiet (Calling code names arguments count callee landing) rest is = by_false _ _ _ is
  front_quiet (Choice' code names condition skips p taken q other) rest is = by_false _ _ _ is
  front_quiet (Turning' code names first turns head before p body behind) rest is = by_false _ _ _ is

  pub edge_cut : (last : Edge) (p : Part) (rest : Outline) → cut_in e (part_of p) ≡ true → edge_in e last (part_before p rest) ≡ passing_edge e (part_of p)
  edge_cut last (Plain code names) rest is = absurd (false_true is)
  edge_cut last (Calling code names arguments count callee landing) rest is = by_true _ _ _ is
  edge_cut last (Choice' code names condition skips p taken q other) rest is = by_true _ _ _ is
  edge_cut last (Turning' code names first turns head before p body behind) rest is = by_true _ _ _ is

  pub edge_quiet : (last : Edge) (p : Part) (rest : Outline) → cut_in e (part_of p) ≡ false → edge_in e last (part_before p rest) ≡ edge_in e last rest
  edge_quiet last (Plain code names) rest is = refl
  edge_quiet last (Calling code names arguments count callee landing) rest is = by_false _ _ _ is
  edge_quiet last (Choice' code names condition skips p taken q other) rest is = by_false _ _ _ is
  edge_quiet last (Turning' code names first turns head before p body behind) rest is = by_false _ _ _ is
