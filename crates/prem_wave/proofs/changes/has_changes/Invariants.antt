use Rattle.std.proofs.Common.{◌≡◌, drop}
use Rattle.prem_wave.specs.Changed.{has_changes}
use Rattle.prem_wave.specs.Dump.{changes_from}
use Rattle.prem_wave.proofs.changes.has_changes.Given as goal

-- none so far has
abbrev pub invariant-signals : goal.invariant-signals
invariant-signals l = has_changes (changes_from l.before 0 l.values) ≡ has_changes (changes_from l.before l.signal (drop l.signal l.values))
