use Rattle.prem_plant.specs.declared.plant.Replacement.TheVariants.{Lru, Fifo}
use Rattle.prem_sound.proofs.ResidentLemmas.Policies.{kind_policy}
use Rattle.prem_sound.proofs.resident.the_cache_is_a_policy.Goals as goal

pub returns-clause-lru : goal.returns-clause-lru
returns-clause-lru c = kind_policy Lru

pub returns-clause-fifo : goal.returns-clause-fifo
returns-clause-fifo c = kind_policy Fifo

pub returns-clause-each : goal.returns-clause-each
returns-clause-each c = kind_policy
