-- Bills one behind another, from the last one to the first one.
use Rattle.std.specs.Prelude.{Vec, take}
use Rattle.std.specs.Global.{Global}
use Rattle.std.proofs.Common.{◌≡◌, ℕ, zero, suc, ◌<◌, List, [], ◌∷◌, ◌++◌, append_assoc, append-nil, length, ap, sym, ◌∙◌, arith}
use Rattle.prem_profile.specs.declared.bound.bill.Item.{Item}
use Rattle.prem_profile.specs.Bound.Bills.{Bill}
use Rattle.prem_profile.specs.Bound.Memory.{from_last}
use Rattle.prem_profile.specs.Bound.Pieces.{bill_at}
use Rattle.prem_profile.specs.Bound.Priced.{bills_in}
use Rattle.prem_profile.proofs.BillLemmas.Scopes.{one_more}

last_first : (bills : List Bill) (b : Bill) → from_last (bills ++ b ∷ []) ≡ b ++ from_last bills
last_first [] b = sym (append-nil b)
last_first (c ∷ bills) b = ap (λ x. x ++ c) (last_first bills b) ∙ append_assoc b (from_last bills) c

taken_back : (bills : List Bill) (n : ℕ) → n < length bills → from_last (take (suc n) bills) ≡ bill_at bills n ++ from_last (take n bills)
taken_back [] n lt = absurd (omega (arith, lt))
taken_back (c ∷ bills) zero lt = sym (append-nil c)
taken_back (c ∷ bills) (suc n) lt =
    ap (λ x. x ++ c) (taken_back bills n (omega (arith, lt))) ∙ append_assoc (bill_at bills n) (from_last (take n bills)) c

-- what is there, and what is left, where one more is put behind it
pub one_back : (bill next here all : Bill) (bills : List Bill) (n k : ℕ) → n ≡ suc k → k < length bills → here ≡ bill_at bills k → next ≡ bill ++ here →
    bill ++ from_last (take n bills) ≡ all → next ++ from_last (take k bills) ≡ all
one_back bill next here all bills n k last lt is put rest =
    ap (λ x. x ++ from_last (take k bills)) (put ∙ ap (λ x. bill ++ x) is) ∙ append_assoc bill (bill_at bills k) (from_last (take k bills))
    ∙ ap (λ x. bill ++ x) (sym (ap (λ m. from_last (take m bills)) last ∙ taken_back bills k lt)) ∙ rest

-- one more, of two parts
pub block_more : (old new : List (Vec Item Global)) (b : Vec Item Global) (cut most : Bill) → new ≡ old ++ b ∷ [] → b.items ≡ cut ++ most →
    from_last (bills_in new) ≡ cut ++ (most ++ from_last (bills_in old))
block_more old new b cut most put is =
    ap (λ bs. from_last (bills_in bs)) put ∙ ap from_last (one_more old b) ∙ last_first (bills_in old) b.items
    ∙ ap (λ x. x ++ from_last (bills_in old)) is ∙ append_assoc cut most (from_last (bills_in old))
