use Rattle.std.proofs.Common.{◌≡◌, ◌++◌, drop}
use Rattle.prem_profile.specs.Callgrind.{switches_text}
use Rattle.prem_profile.proofs.callgrind.push_switches.Given as goal

-- what is there, and what is left
abbrev pub invariant-sources : goal.invariant-sources
invariant-sources l = l.text.items ++ switches_text (drop l.source-index l.sources) l.left ≡ l.initial.text.items ++ switches_text l.sources l.costs
