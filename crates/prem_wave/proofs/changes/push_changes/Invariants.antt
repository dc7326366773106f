use Rattle.std.specs.Prelude.{string_bytes}
use Rattle.std.proofs.Common.{◌≡◌, ◌++◌, drop}
use Rattle.prem_wave.specs.Dump.{changes_from, changes_text}
use Rattle.prem_wave.proofs.changes.push_changes.Given as goal

-- what is left gives what is missing
abbrev pub invariant-signals : goal.invariant-signals
invariant-signals l = string_bytes l.text ++ changes_text (changes_from l.before l.signal (drop l.signal l.values)) ≡ string_bytes l.initial.text ++ changes_text (changes_from l.before 0 l.values)
