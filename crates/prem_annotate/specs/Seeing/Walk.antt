-- What a walk sees of steps and of functions.
use Rattle.std.specs.Prelude.{ℕ, ◌+◌, List, [], ◌∷◌, ◌++◌}
use Rattle.prem_annotate.specs.Prelude.{GlobalAccess, touched_by_locals, touched_in, touched_by_result, KnownCall, calls_in, Term, Steps, Routine}
use Rattle.prem_annotate.specs.Seeing.Sight.{Argument, argument, Sight}
use Rattle.prem_ranges.specs.After.{after, declared}
use Rattle.prem_ranges.specs.Environment.{Environment}
use Rattle.prem_ranges.specs.RangeOf.{range_of}

-- ---- arguments

-- those for the parameters of function f from number k on
abbrev pub arguments_from : ℕ → ℕ → Environment → List Term → List Argument
arguments_from f k env [] = []
arguments_from f k env (e ∷ es) = argument f k (range_of env e) ∷ arguments_from f (k + 1) env es

-- those of calls
abbrev pub passed : List KnownCall → List Argument
passed [] = []
passed (c ∷ cs) = arguments_from c.callee 0 c.known c.arguments ++ passed cs

-- ---- what is seen behind steps

abbrev pub behind : Environment → Steps → Sight → Sight
behind env steps s = record { touches = s.touches ++ touched_in env steps; arguments = s.arguments ++ passed (calls_in env steps) }

-- behind steps without steps in them
abbrev pub looked : List GlobalAccess → Sight → Sight
looked ts s = record { touches = s.touches ++ (ts ++ []); arguments = s.arguments ++ [] }

abbrev pub called : List GlobalAccess → List Argument → Sight → Sight
called ts as_ s = record { touches = s.touches ++ (ts ++ []); arguments = s.arguments ++ (as_ ++ []) }

-- ---- what is seen of a function

-- where so much is known of its parameters
abbrev pub begun : Environment → Routine → Environment
begun env f = declared env f.text.locals f.locals

abbrev pub seen_with : Environment → Routine → Sight
seen_with env f = record {
  touches = touched_by_locals env f.text.locals f.locals ++ touched_in (begun env f) f.body ++ touched_by_result (after (begun env f) f.body) f.result;
  arguments = passed (calls_in (begun env f) f.body);
}
