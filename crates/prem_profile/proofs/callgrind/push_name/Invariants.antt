use Rattle.std.proofs.Common.{◌≡◌, ◌++◌, drop}
use Rattle.prem_profile.specs.Callgrind.{name_text}
use Rattle.prem_profile.proofs.callgrind.push_name.Given as goal

abbrev pub invariant-bytes : goal.invariant-bytes
invariant-bytes l = l.text.items ++ name_text (drop l.byte-index l.name) ≡ l.initial.text.items ++ name_text l.name
