use Rattle.std.specs.List.{flat_map}
use Rattle.std.proofs.Common.{◌≡◌, ◌++◌, take}
use Rattle.prem_set.specs.Run.Text.{word_text}
use Rattle.prem_running.proofs.mail.text.push_words.Given as goal

abbrev pub invariant-words : goal.invariant-words
invariant-words l = l.text.items ≡ l.initial.text.items ++ flat_map word_text (take l.word-index l.words)
