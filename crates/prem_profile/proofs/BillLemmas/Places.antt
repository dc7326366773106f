-- Loops of statements in memory end where they stand.
use Rattle.std.specs.Prelude.{◌-◌}
use Rattle.std.proofs.Common.{◌≡◌, ℕ, zero, suc, ◌+◌, ◌<◌, ◌≤◌, Bool, true, false, List, [], ◌∷◌, ap, sym, subst, ◌∙◌, arith, length, drop, take, get_or}
use Rattle.prem_asm.specs.Pieces.{size_of}
use Rattle.prem_wcet_laws.specs.Counts.{PathCount}
use Rattle.prem_wcet_laws.specs.Parted.{Edge, by_cut}
use Rattle.prem_wcet_laws.specs.Scopes.{Scene}
use Rattle.prem_wcet.specs.declared.outline.Part.{Part}
use Rattle.prem_wcet.specs.declared.outline.Part.TheVariants.{Plain, Calling, Choice', Turning'}
use Rattle.prem_wcet.specs.EdgesOf.{landing_edge, landing_place}
use Rattle.prem_wcet.specs.Fitting.{FitsAt}
use Rattle.prem_wcet.specs.Outlines.{Outline, ended, plain, calling, choice, turning, code_of, cut_in, front_in}
use Rattle.prem_wcet.specs.PartsOf.{part_before, part_code, part_of, parts_of}
use Rattle.prem_wcet.proofs.PartRows.{drop_part}
use Rattle.prem_wcet.proofs.PartedSums.{IsClosed, first_front, landing_ends, size_before, size_drop}
use Rattle.prem_profile.specs.Bound.Memory.{EndsAt}

pub ends_behind : (at : ℕ) (p : Part) (rest : Outline) → EndsAt at (part_before p rest) → EndsAt (at + size_of (part_code p)) rest
ends_behind at (Plain code names) rest f = f
ends_behind at (Calling code names arguments count callee landing) rest f = f
ends_behind at (Choice' code names condition skips p taken q other) rest f = f.1.1
ends_behind at (Turning' code names first turns head before p body behind) rest f = f.1.1

pub ends_one : (at : ℕ) (p : Part) (rest : Outline) → EndsAt at (part_before p rest) → EndsAt at (part_of p)
ends_one at (Plain code names) rest f = tt
ends_one at (Calling code names arguments count callee landing) rest f = tt
ends_one at (Choice' code names condition skips p taken q other) rest f = (f.0, (f.1.0, tt))
ends_one at (Turning' code names first turns head before p body behind) rest f = (f.0, (f.1.0, tt))

-- those from a number on
pub ends_from : (ps : List Part) (n start place : ℕ) → n ≤ length ps → EndsAt start (parts_of ps) →
    place + size_of (code_of (parts_of (drop n ps))) ≡ start + size_of (code_of (parts_of ps)) → EndsAt place (parts_of (drop n ps))
ends_from ps zero start place h f is =
    let same : place + size_of (code_of (parts_of ps)) ≡ start + size_of (code_of (parts_of ps)) = is in
    let here : start ≡ place = omega (arith, same) in
    subst (λ k. EndsAt k (parts_of ps)) here f
ends_from [] (suc n) start place h f is = absurd (omega (arith, h))
ends_from (x ∷ xs) (suc n) start place h f is =
    ends_from xs n (start + size_of (part_code x)) place (omega (arith, h)) (ends_behind start x (parts_of xs) f) (let e = size_before x (parts_of xs) in omega (arith, is, e))

by_one : {A : Type 0} (P : A → Type 0) (b : Bool) (x y : A) → P x → P y → P (by_cut b x y)
by_one P true x y p q = p
by_one P false x y p q = q

-- those before the first one that has marked calls in it
pub front_ends_at : (e : Scene) (at : ℕ) (o : Outline) → EndsAt at o → EndsAt at (front_in e o)
front_ends_at e at ended f = f
front_ends_at e at (plain code names rest) f = front_ends_at e (at + size_of code) rest f
front_ends_at e at (calling code names arguments count callee landing rest) f =
    by_one (EndsAt at) (cut_in e (calling code names arguments count callee landing ended)) ended (calling code names arguments count callee landing (front_in e rest)) tt
    (front_ends_at e (at + size_of code) rest f)
front_ends_at e at (choice code names condition skips taken other rest) f =
    by_one (EndsAt at) (cut_in e (choice code names condition skips taken other ended)) ended (choice code names condition skips taken other (front_in e rest)) tt
    (f.0, (f.1.0, front_ends_at e (at + size_of code) rest f.1.1))
front_ends_at e at (turning code names first turns head before body behind rest) f =
    by_one (EndsAt at) (cut_in e (turning code names first turns head before body behind ended)) ended (turning code names first turns head before body behind (front_in e rest)) tt
    (f.0, (f.1.0, front_ends_at e (at + size_of code) rest f.1.1))

module _ (e : Scene) (last : Edge) (ps : List Part) (start m n place until : ℕ) (edge : Edge) (count : PathCount) (p : Part)
    (f : IsClosed e last ps start m place until edge count) (ends : EndsAt start (parts_of ps)) where
  pub part_ends : (begin : ℕ) → m ≡ n + 1 → n < length ps → p ≡ get_or ps n p → begin + size_of (part_code p) ≡ place → EndsAt begin (part_of p)
  part_ends begin ism h is at =
      let stand = f.stand in
      let size = size_drop ps n p h is in
      let more = ap (λ k. size_of (code_of (parts_of (drop k ps)))) ism in
      let all = ends_from ps n start begin (omega (arith, h)) ends (omega (arith, stand, size, more, at)) in
      ends_one begin p (parts_of (drop (n + 1) ps)) (subst (EndsAt begin) (drop_part ps n p h is) all)

  pub front_stands_ends : (begin : ℕ) (front : Outline) → FitsAt begin (part_of p) → begin + size_of (part_code p) ≡ place → front ≡ parts_of (take (until - m) (drop m ps)) →
      EndsAt (landing_place begin (part_of p) + size_of (landing_edge (part_of p)).pieces) front
  front_stands_ends begin front one at isf =
      let landed : place ≡ landing_place begin (part_of p) + size_of (landing_edge (part_of p)).pieces = sym (landing_ends begin p one ∙ at) in
      let behind : EndsAt place (parts_of (drop m ps)) = ends_from ps m start place (let low = f.low in let high = f.high in omega (arith, low, high)) ends f.stand in
      subst (λ k. EndsAt k front) landed (subst (EndsAt place) (sym (isf ∙ f.front)) (front_ends_at e place (parts_of (drop m ps)) behind))

pub first_ends : (e : Scene) (last : Edge) (ps : List Part) (start n place until : ℕ) (edge : Edge) (count : PathCount) → IsClosed e last ps start n place until edge count → n ≡ 0 →
    EndsAt start (parts_of ps) → EndsAt start (parts_of (take until ps))
first_ends e last ps start n place until edge count f isn ends =
    subst (EndsAt start) (sym (first_front e last ps start n place until edge count f isn)) (front_ends_at e start (parts_of ps) ends)
