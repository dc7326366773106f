-- What `tile` answers.
use Rattle.std.specs.Prelude.{◌≡◌, ℕ, ◌≤◌, Bool, true, false, List, Some, Result, Ok, Err}
use Rattle.prem_syntax.specs.declared.tree.Program.{Program}
use Rattle.prem_syntax.specs.Name.{name_bytes}
use Rattle.prem_syntax.specs.Syntax.{Text, ProgramText}
use Rattle.prem_syntax.specs.SyntaxOf.{program_of}
use Rattle.prem_syntax.specs.Resolve.{functions_of, number_named}
use Rattle.prem_syntax.specs.Source.{source}
use Rattle.prem_syntax.specs.ProgramRules.{IsWellFormed}
use Rattle.prem_text.specs.declared.lexing.token.fail.FrontFail.{FrontFail}
use Rattle.prem_text.specs.declared.lexing.token.fail.FrontFail.TheVariants.{TooLong, TooDeep}
use Rattle.prem_text.specs.Texts.{reads}
use Rattle.prem_text.specs.Canonical.Printed.{printed}
use Rattle.prem_text.specs.Canonical.Unplaced.{unplaced}
use Rattle.prem_tiling.specs.Shapes.Shape.{marked_named, shape_of}
use Rattle.prem_tiling.specs.Shapes.Tiled.{Cut}
use Rattle.prem_tiling.specs.Shapes.Tile.{TileRule, no_function, shape, carry, turns, taken, limit, Past}
use Rattle.prem_tiling.specs.Laws.Runs.{AreSame}
use Rattle.prem_tile.specs.declared.cutting.fail.TileFail.{TileFail}
use Rattle.prem_tile.specs.declared.cutting.fail.TileFail.TheVariants as t

-- a reading ends at a limit of texts
abbrev pub ends_at_limit : Result ProgramText FrontFail → Bool
ends_at_limit (Err TooLong) = true
ends_at_limit (Err (TooDeep line)) = true
ends_at_limit read = false

-- the canonical text of a program is past a limit of texts
abbrev pub is_text_past : Past
is_text_past q = ends_at_limit (reads (printed q))

-- a refusal tells the first reason, unless memory ran out
abbrev pub Refuses : TileFail → Result ProgramText TileRule → Type 0
Refuses t.NoFunction said = said ≡ Err no_function
Refuses (t.Shape line) said = said ≡ Err (shape line)
Refuses (t.Carry line) said = said ≡ Err (carry line)
Refuses (t.Turns n) said = said ≡ Err (turns n)
Refuses (t.Taken name) said = said ≡ Err (taken (name_bytes name))
Refuses t.Limit said = said ≡ Err limit
Refuses t.OutOfMemory said = Unit {0}

-- what a call returned is the program with tiles, or the first reason why there is none
abbrev pub Tells : Result Program TileFail → Result ProgramText TileRule → Type 0
Tells (Ok q) said = said ≡ Ok (program_of q)
Tells (Err fail) said = Refuses fail said

-- a marked function of a program that breaks no rule has a loop, and is to be cut into some tiles
pub record IsAsked (p : ProgramText) (c : Cut) : Type 0 where
  pub formed : IsWellFormed p
  pub named : marked_named (functions_of p) c.function.name ≡ Some c.function
  pub shaped : shape_of c.function ≡ Some c.loop
  pub several : 2 ≤ c.tiles
  pub few : c.tiles ≤ 64
  pub some : 1 ≤ c.stated
  pub stated : c.stated ≤ 2147483647

-- a program with tiles breaks no rule, and does what the program did
pub record IsTiled (p q : ProgramText) (name : Text) (tiles : ℕ) : Type 0 where
  pub formed : IsWellFormed q
  pub same : (n : ℕ) → number_named (functions_of p) name ≡ Some n → (inputs : List ℕ) (jobs : ℕ) → AreSame n tiles (source p inputs jobs) (source q inputs jobs)

-- reading the canonical text of a program gives it back, places aside
pub record IsReadBack (q : ProgramText) : Type 0 where
  pub items : ProgramText
  pub read : reads (printed q) ≡ Ok items
  pub same : unplaced items ≡ unplaced q
