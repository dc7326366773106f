use Rattle.prem_report.proofs.FittingLemmas.Fits.{lawful_fits}
use Rattle.prem_report.proofs.fitting.read.run_files_fit.Goals as goal

pub returns : goal.returns
returns c = lawful_fits
