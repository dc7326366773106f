use Rattle.prem_sound.proofs.ScopesLemmas.Credits.{misses_owe_little}
use Rattle.prem_sound.proofs.ScopesLemmas.Misses.{scopes_miss_little, kinds_miss_little}
use Rattle.prem_sound.proofs.scopes.scopes_miss_little.Goals as goal

pub returns-clause-orders : goal.returns-clause-orders
returns-clause-orders c = scopes_miss_little

pub returns-clause-kinds : goal.returns-clause-kinds
returns-clause-kinds c = kinds_miss_little

pub returns-clause-owed : goal.returns-clause-owed
returns-clause-owed c = misses_owe_little
