-- Bytes that a sink tells, written piece by piece.
use Rattle.std.specs.Io.KnownBytes.{append_known}
use Rattle.std.proofs.Common.{◌≡◌, ℕ, List, ◌++◌, Option, None, Some, take, drop, ◌+◌, refl, ap, ◌∙◌, sym, append_assoc}
use Rattle.std.proofs.Math.Seq.{take-add}

append_known-append : (known : Option (List ℕ)) (xs ys : List ℕ) → append_known (append_known known xs) ys ≡ append_known known (xs ++ ys)
append_known-append None xs ys = refl
append_known-append (Some bytes) xs ys = ap Some (append_assoc bytes xs ys)

-- the front of a text grows by a piece of its rest
pub written_on : (old now new : Option (List ℕ)) (text : List ℕ) (at n : ℕ) → now ≡ append_known old (take at text) →
    new ≡ append_known now (take n (drop at text)) → new ≡ append_known old (take (at + n) text)
written_on old now new text at n so_far step =
    step
    ∙ ap (λ known. append_known known (take n (drop at text))) so_far
    ∙ append_known-append old (take at text) (take n (drop at text))
    ∙ ap (append_known old) (sym (take-add at n text))
