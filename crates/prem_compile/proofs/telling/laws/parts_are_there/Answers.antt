use Rattle.prem_compile.proofs.TellingLemmas.PartsThere.{parts_there}
use Rattle.prem_compile.proofs.telling.laws.parts_are_there.Goals as goal

pub returns : goal.returns
returns c = parts_there
