use Rattle.std.proofs.Common.{◌≡◌, drop, map, string_bytes}
use Rattle.prem_time.specs.Asked.{distances_in}
use Rattle.prem_time.specs.Words.{distances_behind}
use Rattle.std.specs.Prelude.{[]}
use Rattle.prem_time.proofs.words.distances_in.Given as goal

abbrev pub invariant-loop-word : goal.invariant-loop-word
invariant-loop-word l = distances_behind (map string_bytes (drop l.word-index l.words)) (distances_in l.all.items) ≡ distances_behind (map string_bytes l.words) []
