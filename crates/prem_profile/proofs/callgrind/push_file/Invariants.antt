use Rattle.std.proofs.Common.{◌≡◌, ◌++◌, drop}
use Rattle.prem_profile.specs.Callgrind.{file_text}
use Rattle.prem_profile.proofs.callgrind.push_file.Given as goal

abbrev pub invariant-bytes : goal.invariant-bytes
invariant-bytes l = l.text.items ++ file_text (drop l.byte-index l.file) ≡ l.initial.text.items ++ file_text l.file
