-- The words of constants.
use Rattle.std.specs.Prelude.{ℕ, ℤ}
use Rattle.prem_word.specs.Words.{word_of}
use Rattle.prem_syntax.specs.declared.tree.Ty.{Ty}
use Rattle.prem_syntax.specs.Statements.{stored}

-- the word of a constant in a global of a type
unfoldable pub constant_word : Ty → ℤ → ℕ
constant_word ty z = stored ty (word_of z)
