use Rattle.std.specs.Bool.{beq}
use Rattle.std.proofs.Common.{◌≡◌, Bool, true, false, Decides, true≢false, refl, sym}
use Rattle.std.proofs.lemmas.Slice.Eq.{slice_eq-Decides}
use Rattle.prem_names.proofs.reach.is_same.Goals as goal

pub returns : goal.returns
returns c = slice_eq-Decides decides c.args.a.now c.args.b.now c.eq.result c.eq.ensures
  where
    decides : (a b : Bool) → Decides (beq a b) (a ≡ b)
    decides true true = (λ e. refl, λ e. refl)
    decides false false = (λ e. refl, λ e. refl)
    decides true false = (λ e. absurd (true≢false (sym e)), λ e. absurd (true≢false e))
    decides false true = (λ e. absurd (true≢false (sym e)), λ e. absurd (true≢false (sym e)))
