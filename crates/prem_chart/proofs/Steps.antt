-- The steps of the axis.
use Rattle.std.specs.Prelude.{nat_lt, ◌&&◌, ◌*◌}
use Rattle.std.specs.List.{list_all}
use Rattle.std.proofs.Common.{◌≡◌, ◌<◌, ℕ, List, [], ◌∷◌, Bool, true, false, cond, refl, arith}
use Rattle.std.proofs.lemmas.Bool.Decides.{nat_tests}
use Rattle.prem_chart.specs.declared.axis.TheConstants.{STEPS}
use Rattle.prem_chart.specs.Axis.{fitting, tick_step}

abbrev is_some : ℕ → Bool
is_some n = nat_lt 0 n

either_some : (b : Bool) (m n : ℕ) → 0 < m → 0 < n → 0 < cond b m n
either_some true m n h k = h
either_some false m n h k = k

first_some : (a b : Bool) → (a && b) ≡ true → a ≡ true
first_some true b e = refl
first_some false b e = absurd (cc)

pub rest_some : (a b : Bool) → (a && b) ≡ true → b ≡ true
rest_some true b e = e
rest_some false b e = absurd (cc)

fitting_some : (span : ℕ) (steps : List ℕ) → list_all is_some steps ≡ true → 0 < fitting span steps
fitting_some span [] e = omega arith
fitting_some span (s ∷ steps) e =
    let here : nat_lt 0 s ≡ true = first_some _ (list_all is_some steps) e in
    either_some (nat_lt span (13 * s)) s (fitting span steps) (grind (arith, nat_tests)) (fitting_some span steps (rest_some (is_some s) _ e))

pub step_some : (span : ℕ) → 0 < tick_step span
unfolding tick_step
step_some span = fitting_some span STEPS refl
