-- Well-formed programs.
use Rattle.std.specs.Prelude.{Option, is_none, IsTrue}
use Rattle.prem_syntax.specs.Syntax.{ProgramText}
use Rattle.prem_syntax.specs.Rules.{Breach, first_of}
use Rattle.prem_syntax.specs.Breaches.{breaches}

-- the first broken rule of a program
unfoldable pub first_breach : ProgramText → Option Breach
first_breach p = first_of (breaches p)

-- no rule is broken
abbrev pub IsWellFormed : ProgramText → Type 0
IsWellFormed p = IsTrue (is_none (first_breach p))
