-- The bills of statements in memory, one by one.
use Rattle.std.proofs.Common.{◌≡◌, ℕ, zero, suc, ◌+◌, ◌<◌, List, [], ◌∷◌, ◌++◌, append_assoc, refl, ap, sym, ◌∙◌, arith, length, drop, take, get_or}
use Rattle.prem_asm.specs.Pieces.{size_of}
use Rattle.prem_asm.specs.PiecesOf.{pieces_of}
use Rattle.prem_asm.proofs.Rows.{followed_none}
use Rattle.prem_wcet_laws.specs.Scopes.{Scene}
use Rattle.prem_wcet.specs.declared.outline.Part.{Part}
use Rattle.prem_wcet.specs.declared.outline.Part.TheVariants.{Plain, Calling, Choice', Turning'}
use Rattle.prem_wcet.specs.Outlines.{Outline, code_of, coded_span, span_in}
use Rattle.prem_wcet.specs.PartsOf.{part_before, part_code, part_of, parts_of}
use Rattle.prem_wcet.proofs.LeastSums.{taken_one}
use Rattle.prem_wcet.proofs.PartRows.{drop_part}
use Rattle.prem_profile.specs.Bound.Bills.{Bill, cheaper}
use Rattle.prem_profile.specs.Bound.Scopes.{scope_bill}
use Rattle.prem_profile.specs.Bound.Statements.{CallBill, apart_bill}
use Rattle.prem_profile.specs.Bound.Passages.{Stubs}
use Rattle.prem_profile.specs.Bound.Memory.{cut_part_bill, divided_bill}

single_code : (p : Part) → code_of (part_of p) ≡ part_code p
single_code (Plain code names) = followed_none (pieces_of code.now)
single_code (Calling code names arguments count callee landing) = followed_none (pieces_of code.now)
single_code (Choice' code names condition skips p taken q other) = followed_none (pieces_of code.now)
single_code (Turning' code names first turns head before p body behind) = followed_none (pieces_of code.now)

module _ (e : Scene) (known : List CallBill) where
  apart_before : (at : ℕ) (p : Part) (rest : Outline) →
      apart_bill e known at (part_before p rest)
      ≡ cheaper (scope_bill e at (span_in (part_of p))) (divided_bill e known at (part_of p)) ++ apart_bill e known (at + size_of (part_code p)) rest
  apart_before at p rest =
      by_part p
      ∙ ap (λ ps. cheaper (scope_bill e at (coded_span ps (part_of p))) (divided_bill e known at (part_of p)) ++ apart_bill e known (at + size_of (part_code p)) rest) (sym (single_code p))
    where
      by_part : (p : Part) → apart_bill e known at (part_before p rest)
          ≡ cheaper (scope_bill e at (coded_span (part_code p) (part_of p))) (divided_bill e known at (part_of p)) ++ apart_bill e known (at + size_of (part_code p)) rest
      by_part (Plain code names) = refl
      by_part (Calling code names arguments count callee landing) = refl
      by_part (Choice' code names condition skips p taken q other) = refl
      by_part (Turning' code names first turns head before p body behind) = refl

  same_item : (ps : List Part) (n : ℕ) (p q : Part) → n < length ps → p ≡ get_or ps n p → q ≡ get_or ps n q → p ≡ q
  same_item [] n p q h e f = absurd (omega arith)
  same_item (x ∷ xs) zero p q h e f = e ∙ sym f
  same_item (x ∷ xs) (suc n) p q h e f = same_item xs n p q (omega arith) e f

  -- one more is there
  pub apart_step : (place stand : ℕ) (bill one divided more : Bill) (ps : List Part) (n : ℕ) (p q : Part) → n < length ps → p ≡ get_or ps n p → q ≡ get_or ps n q →
      one ≡ cheaper (scope_bill e place (span_in (parts_of (take 1 (drop n ps))))) divided → divided ≡ divided_bill e known place (part_of p) → more ≡ bill ++ one →
      stand ≡ place + size_of (part_code q) →
      more ++ apart_bill e known stand (parts_of (drop (n + 1) ps)) ≡ bill ++ apart_bill e known place (parts_of (drop n ps))
  apart_step place stand bill one divided more ps n p q lt isp isq iso isd ism iss =
      let rest : Outline = parts_of (drop (n + 1) ps) in
      let here : one ≡ cheaper (scope_bill e place (span_in (part_of p))) (divided_bill e known place (part_of p)) =
      iso ∙ (λ i. cheaper (scope_bill e place (span_in (taken_one ps n p lt isp i))) (isd i)) in
      let there : stand ≡ place + size_of (part_code p) = iss ∙ ap (λ x. place + size_of (part_code x)) (same_item ps n q p lt isq isp) in
      (λ i. (ism ∙ ap (λ x. bill ++ x) here) i ++ apart_bill e known (there i) rest)
      ∙ append_assoc bill (cheaper (scope_bill e place (span_in (part_of p))) (divided_bill e known place (part_of p))) (apart_bill e known (place + size_of (part_code p)) rest)
      ∙ ap (λ x. bill ++ x) (sym (ap (apart_bill e known place) (drop_part ps n p lt isp) ∙ apart_before place p rest))

  -- of a statement that is another one
  pub divided_is : (at : ℕ) (p o : Outline) (bill : Bill) → p ≡ o → bill ≡ divided_bill e known at o → bill ≡ divided_bill e known at p
  divided_is at p o bill is told = told ∙ sym (ap (divided_bill e known at) is)

  pub cut_is : (stubs : Stubs) (at : ℕ) (p o : Outline) (bill : Bill) → p ≡ o → bill ≡ cut_part_bill e stubs known at o → bill ≡ cut_part_bill e stubs known at p
  cut_is stubs at p o bill is told = told ∙ sym (ap (cut_part_bill e stubs known at) is)
