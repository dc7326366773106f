-- Whether anything changes.
use Rattle.std.specs.Prelude.{Bool, true, false, List, [], ◌∷◌}
use Rattle.prem_wave.specs.Dump.{Change}

abbrev pub has_changes : List Change → Bool
has_changes [] = false
has_changes (c ∷ changes) = true
