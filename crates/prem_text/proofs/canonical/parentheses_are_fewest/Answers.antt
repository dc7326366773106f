use Rattle.prem_text.proofs.CanonicalLemmas.Fewest.{fewest_parentheses}
use Rattle.prem_text.proofs.canonical.parentheses_are_fewest.Goals as goal

pub returns : goal.returns
returns c = fewest_parentheses
