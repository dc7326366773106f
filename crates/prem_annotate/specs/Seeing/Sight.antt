-- What a walk has seen, as it lies in memory: accesses of globals, and arguments of calls.
use Rattle.std.specs.Prelude.{ℕ, List, ◌++◌, map}
use Rattle.prem_annotate.specs.Prelude.{span_of, GlobalAccess, touch, Span}
use Rattle.prem_annotate.specs.declared.seeing.sight.Argument.{Argument as ArgumentTree}
use Rattle.prem_annotate.specs.declared.seeing.sight.Sight.{Sight as SightTree}
use Rattle.prem_annotate.specs.declared.seeing.sight.GlobalAccess.{GlobalAccess as TouchTree}

abbrev pub touch_of : TouchTree → GlobalAccess
touch_of t = touch t.at t.global (span_of t.elements)

-- an argument for a parameter of a function, by their numbers, and its range before it is converted
pub record Argument : Type 0 where
  pub callee : ℕ
  pub parameter : ℕ
  pub range : Span

abbrev pub argument : ℕ → ℕ → Span → Argument
argument f k r = record { callee = f; parameter = k; range = r }

abbrev pub argument_of : ArgumentTree → Argument
argument_of a = argument a.callee a.parameter (span_of a.range)

pub record Sight : Type 0 where
  pub touches : List GlobalAccess
  pub arguments : List Argument

abbrev pub sight_of : SightTree → Sight
sight_of s = record { touches = map touch_of s.touches.items; arguments = map argument_of s.arguments.items }

-- accesses, and arguments, are put behind what is seen
abbrev pub touched : List GlobalAccess → Sight → Sight
touched ts s = record { touches = s.touches ++ ts; arguments = s.arguments }

abbrev pub both : List GlobalAccess → List Argument → Sight → Sight
both ts as_ s = record { touches = s.touches ++ ts; arguments = s.arguments ++ as_ }

abbrev pub passed_on : List Argument → Sight → Sight
passed_on as_ s = record { touches = s.touches; arguments = s.arguments ++ as_ }
