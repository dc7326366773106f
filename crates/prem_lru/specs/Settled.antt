-- Lines whose next touch changes nothing.
use Rattle.prem_lru.specs.CacheState.{CacheState, set_of, is_resident}
use Rattle.prem_lru.specs.Entries.{ReplacementRule}
use Rattle.std.specs.Prelude.{◌≡◌, ℕ, true}

-- the line is resident, and a hit of it leaves its set as it stands
pub record IsSettled (rule : ReplacementRule) (c : CacheState) (line : ℕ) : Type 0 where
  pub resident : is_resident c line ≡ true
  pub stays : rule line (set_of c line) ≡ set_of c line
