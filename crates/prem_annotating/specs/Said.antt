-- That a text can say the annotations of its program.
use Rattle.std.specs.Prelude.{◌≡◌, ℕ, ◌≤◌, List, None}
use Rattle.prem_annotating.specs.Prelude.{IsWellFormed, ProgramText, IsProgramText}
use Rattle.prem_annotating.specs.Annotated.{texts_of, all_annotated, first_other}
use Rattle.prem_annotating.specs.Phrases.{CanBeSaid}

-- the annotations of a text's well-formed program that with its new ranges breaks no rule on ranges but for regions can be said, whatever lengths they have that are literals
abbrev pub AnnotationsCanBeSaid : Type 0
AnnotationsCanBeSaid =
    (lengths : ℕ → ℕ) (text : List ℕ) (p : ProgramText) → IsProgramText text p → IsWellFormed p → first_other p ≡ None →
    ((n : ℕ) → lengths n ≤ 4294967295) → CanBeSaid (texts_of (all_annotated lengths p))
