use Rattle.std.specs.Prelude.{string_bytes}
use Rattle.std.specs.List.{flat_map}
use Rattle.std.proofs.Common.{◌≡◌, ◌++◌, take}
use Rattle.prem_report.specs.Report.{output_line}
use Rattle.prem_report.proofs.whole.write_outputs.Given as goal

abbrev pub invariant-words : goal.invariant-words
invariant-words l = string_bytes l.text ≡ string_bytes l.initial.text ++ flat_map output_line (take l.word-index l.words)
