use Rattle.prem_annotating.proofs.Fits.{ranges_fit}
use Rattle.prem_annotating.proofs.Inside.{regions_fit}
use Rattle.prem_annotating.proofs.laws.annotations_fit.Goals as goal

pub returns : goal.returns
returns c = record { ranges = ranges_fit; regions = regions_fit }
