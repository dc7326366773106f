-- The locals that a tree in memory assigns are those that its steps assign.
use Rattle.std.proofs.Common.{◌≡◌, ℕ, Bool, true, false, eqb, ◌||◌, refl, ap, sym, ◌∙◌, Option, None, Some}
use Rattle.prem_analysis.proofs.Prelude.{plain_before, plain_row, plain, target_of, targets, row_targets, HasAssigned, among, among-append, assigns, is_target, Steps, Done, Step}
use Rattle.prem_analysis.proofs.Prelude.{Row_of-Step, end_of-Step, more_of-Step, Block', SetLocal as SetLocalTree, SetScalar as SetScalarTree, SetElement as SetElementTree}
use Rattle.prem_analysis.proofs.Prelude.{Output as OutputTree, Input as InputTree, If', For', While', Call as CallTree}
use Rattle.prem_analysis.proofs.RangingLemmas.Sequences.{or_end}

or_grouped : (a b c : Bool) → (a || (b || c)) ≡ ((a || b) || c)
or_grouped true b c = refl
or_grouped false b c = refl

target_is : (j : ℕ) (target : Option ℕ) → is_target j target ≡ among j (target_of target)
target_is j None = refl
target_is j (Some k) = sym (or_end (eqb k j))

mutual
  targeted : (j : ℕ) (s : Step) (rest : Steps) → assigns j (plain_before s rest) ≡ (among j (targets s) || assigns j rest)
  targeted j (Block' shape body) rest = row_targeted j body rest
  targeted j (SetLocalTree at number value) rest = ap (λ b. b || assigns j rest) (sym (or_end (eqb number j)))
  targeted j (SetScalarTree at g ty value) rest = refl
  targeted j (SetElementTree at g ty index value) rest = refl
  targeted j (OutputTree at value) rest = refl
  targeted j (InputTree at number) rest = ap (λ b. b || assigns j rest) (sym (or_end (eqb number j)))
  targeted j (If' at condition p taken q other) rest =
      ap (λ b. (b || assigns j (plain other)) || assigns j rest) (targeted j taken Done ∙ or_end (among j (targets taken)))
      ∙ ap (λ b. (among j (targets taken) || b) || assigns j rest) (targeted j other Done ∙ or_end (among j (targets other)))
      ∙ ap (λ b. b || assigns j rest) (sym (among-append j (targets taken) (targets other)))
  targeted j (For' at number low closed high step p body) rest = ap (λ b. (eqb number j || b) || assigns j rest) (targeted j body Done ∙ or_end (among j (targets body)))
  targeted j (While' at most condition p body) rest = ap (λ b. b || assigns j rest) (targeted j body Done ∙ or_end (among j (targets body)))
  targeted j (CallTree at target callee arguments) rest = ap (λ b. b || assigns j rest) (target_is j target)

  row_targeted : {m : _} (j : ℕ) (row : Row_of-Step m) (rest : Steps) → assigns j (plain_row row rest) ≡ (among j (row_targets row) || assigns j rest)
  row_targeted j end_of-Step rest = refl
  row_targeted j (more_of-Step first others) rest =
      targeted j first (plain_row others rest) ∙ ap (λ b. among j (targets first) || b) (row_targeted j others rest)
      ∙ or_grouped (among j (targets first)) (among j (row_targets others)) (assigns j rest) ∙ ap (λ b. b || assigns j rest) (sym (among-append j (targets first) (row_targets others)))

pub has_targets : (s : Step) → HasAssigned (targets s) (plain s)
has_targets s = record { covered = λ j out. targeted j s Done ∙ or_end (among j (targets s)) ∙ out }
