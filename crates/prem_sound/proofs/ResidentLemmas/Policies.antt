-- Each kind of replacement is a policy.
use Rattle.prem_sound.proofs.Prelude.{rule_of, kind_cache_once, kind_cache_full, order_rule_of, passes_of, IsPolicy}
use Rattle.prem_lru.proofs.RuleKinds.{kind_rule, kind_moves}
use Rattle.prem_plant.specs.declared.plant.Replacement.{Replacement}

pub kind_policy : (kind : Replacement) → IsPolicy (rule_of kind) (order_rule_of kind) (passes_of kind)
kind_policy kind = record {
  keeps = kind_rule kind;
  moves = kind_moves kind;
  once = kind_cache_once kind;
  full = kind_cache_full kind;
}
