-- The code of an expression of a function, and what keeps it from having any.
use Rattle.std.specs.Prelude.{ℕ, ◌+◌, Option}
use Rattle.prem_plant.specs.declared.plant.Target.{Target}
use Rattle.prem_syntax.specs.Syntax.{Expression, ProgramText}
use Rattle.prem_syntax.specs.Resolve.{functions_of}
use Rattle.prem_asm.specs.Pieces.{Pieces}
use Rattle.prem_layout.specs.Template.Limits.{Excess}
use Rattle.prem_layout.specs.Template.Terms.{term_code}
use Rattle.prem_gen.specs.Term.Numbers.{from_part}
use Rattle.prem_gen.specs.Term.Excess.{term_excess}
use Rattle.prem_expr.specs.Scope.{frame_in, term_in}
use Rattle.prem_expr.specs.Marks.{first_global}

-- the register of the k-th value: the first of twelve is x10
abbrev pub value_register : ℕ → ℕ
value_register k = 10 + k

abbrev pub expression_code : Target → ProgramText → ℕ → Expression → ℕ → Pieces
expression_code target p n e k = term_code target (from_part (first_global (functions_of p))) (value_register k) (term_in p n e)

abbrev pub expression_excess : ProgramText → ℕ → Expression → ℕ → Option Excess
expression_excess p n e k = term_excess n (frame_in p n) (value_register k) (term_in p n e)
