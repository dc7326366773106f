-- The exit status of a program that has no words.
use Rattle.std.specs.Prelude.{ℕ}
use Rattle.prem_io.specs.declared.words.WordsFault.{WordsFault}
use Rattle.prem_io.specs.declared.words.WordsFault.TheVariants.{OutOfMemory, Unread}

abbrev pub words_code : WordsFault → ℕ
words_code OutOfMemory = 6
words_code Unread = 9
