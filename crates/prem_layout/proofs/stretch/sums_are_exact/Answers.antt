use Rattle.prem_layout.proofs.StretchLemmas.Exact.{sums_are_exact}
use Rattle.prem_layout.proofs.stretch.sums_are_exact.Goals as goal

pub returns : goal.returns
returns c = sums_are_exact
