-- What a text with notes is.
use Rattle.std.specs.Prelude.{◌≡◌, ℕ, List, map, Ok}
use Rattle.prem_annotate.specs.Prelude.{texts_of, all_annotated, annotated, functions_of, ProgramText}
use Rattle.prem_annotate.specs.Notes.{notes, program_notes}
use Rattle.prem_annotate.specs.Writing.Text.{annotated_text}
use Rattle.prem_annotating.specs.Phrases.{CanBeSaid, AnnotatedText}
use Rattle.prem_annotating.specs.Pieces.{text_of}
use Rattle.prem_text.specs.Canonical.Unplaced.{unplaced}
use Rattle.prem_text.specs.Lexing.Token.Lexeme.{Seen}
use Rattle.prem_text.specs.Lexing.Tokens.{tokens_of}
use Rattle.prem_text.specs.Texts.{reads, IsProgramText}

-- the text with a program's notes is that of pieces with edits at annotations alone, which have the tokens of the annotated program
abbrev pub TextsAreEdits : Type 0
TextsAreEdits =
    (lengths : ℕ → ℕ) (text : List ℕ) (p : ProgramText) → (is : IsProgramText text p) → CanBeSaid (texts_of (all_annotated lengths p)) →
    (a : AnnotatedText lengths text p is.phrase) × (annotated_text (program_notes lengths p) text ≡ text_of a.new)

-- where that text has tokens, since it isn't too long, it is read as the annotated program, places aside
abbrev pub TextsAreRead : Type 0
TextsAreRead =
    (lengths : ℕ → ℕ) (text : List ℕ) (p : ProgramText) → IsProgramText text p → CanBeSaid (texts_of (all_annotated lengths p)) → (ts : List Seen) →
    tokens_of (annotated_text (program_notes lengths p) text) ≡ Ok ts →
    (more : ProgramText) × (reads (annotated_text (program_notes lengths p) text) ≡ Ok more) × (unplaced more ≡ unplaced (annotated lengths p))

-- a text stays where its notes stand in it
abbrev pub TextsStay : Type 0
TextsStay = (text : List ℕ) (p : ProgramText) → IsProgramText text p → annotated_text (map notes (functions_of p)) text ≡ text
