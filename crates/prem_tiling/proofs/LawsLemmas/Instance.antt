-- A program whose function can be cut.
use Rattle.prem_tiling.proofs.Prelude.{IsWellFormed, first_breach, CanCut, refl, arith, digits}
use Rattle.prem_tiling.proofs.ShapesLemmas.Rows.{eight, eight_cut}

eight_is_well_formed : IsWellFormed eight
unfolding eight first_breach
eight_is_well_formed = refl

eight_can_be_cut : CanCut eight eight_cut
unfolding eight digits
eight_can_be_cut = record { named = refl; shape = refl; uncarried = refl; several = omega arith; few = omega arith; enough = omega arith; untaken = refl }
