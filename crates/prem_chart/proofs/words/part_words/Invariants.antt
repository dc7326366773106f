use Rattle.std.specs.Prelude.{string_bytes}
use Rattle.std.proofs.Common.{◌≡◌, drop, map}
use Rattle.prem_chart.specs.Words.{parted_from, start}
use Rattle.prem_chart.specs.Asked.{parted_in}
use Rattle.prem_chart.proofs.words.part_words.Given as goal

-- the words that are left lead where all led
abbrev pub invariant-words : goal.invariant-words
invariant-words l = parted_from (parted_in l.parted) (map string_bytes (drop l.word-index l.words)) ≡ parted_from start (map string_bytes l.words)
