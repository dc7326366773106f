-- Whether the end of a text has been read.
use Rattle.std.specs.Prelude.{Bool, true, false}
use Rattle.prem_text.specs.Grammar.Item.{Stage, finished}

abbrev pub is_finished : Stage → Bool
is_finished finished = true
is_finished _ = false
