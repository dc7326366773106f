-- What the law of this crate says.
use Rattle.std.specs.Prelude.{◌≡◌, ℕ, List, Ok}
use Rattle.prem_text.specs.Prelude.{ProgramText}
use Rattle.prem_syntax.specs.Literals.{ProgramHasWords}
use Rattle.prem_text.specs.Texts.{reads}

-- each literal of a program that is read from a text is below 2 ^ 32
abbrev pub ReadsHaveWords : Type 0
ReadsHaveWords = (bytes : List ℕ) (x : ProgramText) → reads bytes ≡ Ok x → ProgramHasWords x
