-- The programs of a set's texts, by which places are found.
use Rattle.std.specs.Prelude.{◌≡◌, ⊤, ℕ, List, [], slice_get, Option, None, Some, Ok}
use Rattle.prem_syntax.specs.Syntax.{Text, ProgramText}
use Rattle.prem_text.specs.Texts.{reads}
use Rattle.prem_tasks.specs.Told.{Told, of_text, of_program, of_ranges, of_code}
use Rattle.prem_lint.specs.declared.spot.Spot.{Spot}
use Rattle.prem_lint.specs.declared.spot.Spot.TheVariants.{Whole, Line}
use Rattle.prem_lint.specs.Places.{beside, named_place, program_place, spot_at}

-- ---- the program of one task

-- that of the n-th task; a set as a whole has none
abbrev pub program_at : List ProgramText → Option ℕ → Option ProgramText
program_at programs None = None
program_at programs (Some n) = slice_get programs n

-- a text has this program; without one there is no text
abbrev pub IsProgramOf : List ℕ → Option ProgramText → Type 0
IsProgramOf text None = text ≡ []
IsProgramOf text (Some p) = reads text ≡ Ok p

-- so it is where a rule is told by its program; those on texts and programs have a line of their own
abbrev pub HasProgram : Told → List ℕ → Option ProgramText → Type 0
HasProgram (of_text fail) text program = ⊤
HasProgram (of_program told) text program = ⊤
HasProgram (of_ranges told) text program = IsProgramOf text program
HasProgram (of_code rule) text program = IsProgramOf text program

-- ---- places in it

-- where it has the function with this name
abbrev pub function_spot_of : Text → Option ProgramText → Spot
function_spot_of name None = Whole
function_spot_of name (Some p) = spot_at (named_place name p)

-- a line, with the column of its first broken rule on ranges
abbrev pub range_spot_of : ℕ → Option ProgramText → Spot
range_spot_of line None = Line line
range_spot_of line (Some p) = beside line (program_place p)
