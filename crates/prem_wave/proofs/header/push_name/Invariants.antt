use Rattle.std.proofs.Common.{◌≡◌, ◌++◌, take}
use Rattle.prem_wave.specs.Header.{name_text}
use Rattle.prem_wave.proofs.header.push_name.Given as goal

abbrev pub invariant-bytes : goal.invariant-bytes
invariant-bytes l = l.text.items ≡ l.initial.text.items ++ name_text (take l.byte-index l.name)
