-- Sizes of steps and functions, by which runs end.
use Rattle.std.proofs.Common.{◌≡◌, ℕ, zero, suc, ◌+◌, ◌*◌, ◌<◌, ◌≤◌, List, [], ◌∷◌, length, get_or, refl, ap, ◌∙◌, arith}
use Rattle.std.proofs.Math.Nat.{mul-le-mul_left}
use Rattle.prem_list.specs.declared.Sequence.{Sequence}
use Rattle.prem_list.specs.Sequence.{items_of}
use Rattle.prem_tree.specs.declared.resolve.resolved.Step.{Step, Block, Row_of-Step, end_of-Step, more_of-Step, items-the_row-Step, items_hidden-the_row-Step-0}
use Rattle.prem_tree.specs.declared.resolve.resolved.Step.TheBlock.{hidden-the_row-Step-0}
use Rattle.prem_tree.specs.declared.resolve.resolved.Step.TheVariants.{Block', SetLocal, SetScalar, SetElement, Output, Input, If', For', While', Call}
use Rattle.prem_tree.specs.declared.resolve.resolved.Routine.{Routine}

abbrev mutual
  pub weight : Step → ℕ
  weight (Block' shape body) = 1 + row_weight body
  weight (SetLocal at k e) = 1
  weight (SetScalar at g ty e) = 1
  weight (SetElement at g ty index e) = 1
  weight (Output at e) = 1
  weight (Input at k) = 1
  weight (If' at condition p taken q other) = 1 + (weight taken + weight other)
  weight (For' at k low closed high step p body) = 1 + weight body
  weight (While' at turns condition p body) = 1 + weight body
  weight (Call at target f arguments) = 1

  row_weight : {m : _} → Row_of-Step m → ℕ
  row_weight end_of-Step = 0
  row_weight (more_of-Step first rest) = weight first + row_weight rest

abbrev pub list_weight : List Step → ℕ
list_weight [] = 0
list_weight (first ∷ rest) = weight first + list_weight rest

row_weighed : {m : _} (row : Row_of-Step m) → row_weight row ≡ list_weight (items-the_row-Step m row)
row_weighed end_of-Step = refl
row_weighed (more_of-Step first rest) = ap (λ k. weight first + k) (row_weighed rest)

pub weight-Block : (body : Sequence Step) → weight (Block body) ≡ 1 + list_weight (items_of body)
weight-Block body = ap (λ k. 1 + k) (row_weighed (hidden-the_row-Step-0 body.all) ∙ ap list_weight (items_hidden-the_row-Step-0 body.all))

-- a step weighs no more than its list
pub weight-at : (steps : List Step) (i : ℕ) (s : Step) → i < length steps → s ≡ get_or steps i s → weight s ≤ list_weight steps
weight-at [] i s inside is = absurd (omega arith)
weight-at (x ∷ xs) zero s inside is = let e = ap weight is in omega arith
weight-at (x ∷ xs) (suc i) s inside is = let below = weight-at xs i s (omega arith) is in omega arith

abbrev pub bodies_weight : List Routine → ℕ
bodies_weight [] = 0
bodies_weight (r ∷ rs) = weight r.body + bodies_weight rs

pub body_weight-at : (rs : List Routine) (i : ℕ) (r : Routine) → i < length rs → r ≡ get_or rs i r → weight r.body ≤ bodies_weight rs
body_weight-at [] i r inside is = absurd (omega arith)
body_weight-at (x ∷ xs) zero r inside is = let e = ap (λ (q : Routine). weight q.body) is in omega arith
body_weight-at (x ∷ xs) (suc i) r inside is = let below = body_weight-at xs i r (omega arith) is in omega arith

-- what is left of a run at a step of so much weight: each function with a smaller number may be called once more
abbrev pub left_of : List Routine → ℕ → ℕ → ℕ
left_of rs below w = below * (2 * bodies_weight rs + 1) + w

pub left_of-call : (rs : List Routine) (below f w : ℕ) → f < below → w ≤ bodies_weight rs → left_of rs f (2 * w) < left_of rs below 0
left_of-call rs below f w smaller light =
    let next : f + 1 ≤ below = omega arith in
    let more : (2 * bodies_weight rs + 1) * (f + 1) ≤ (2 * bodies_weight rs + 1) * below = mul-le-mul_left (2 * bodies_weight rs + 1) next in
    omega (arith, more)
