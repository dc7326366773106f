use Rattle.std.specs.List.{sum}
use Rattle.std.proofs.Common.{◌≡◌, ◌%◌, ◌^◌, take}
use Rattle.prem_running.proofs.sample.text.sum_of.Given as goal

abbrev pub invariant-words : goal.invariant-words
invariant-words l = l.total ≡ sum (take l.word-index l.words) % 2 ^ 32
