use Rattle.std.proofs.Common.{◌≡◌, ◌++◌, map, drop, Ok}
use Rattle.prem_syntax.specs.Expressions.{and_then}
use Rattle.prem_syntax.specs.Statements.{values}
use Rattle.prem_syntax.specs.Source.{everywhere}
use Rattle.prem_tree.specs.Resolve.ResolvedOf.{term_of}
use Rattle.prem_tree.specs.State.Interpreter.{state_of}
use Rattle.prem_tree.proofs.state.interpreter.Interpreter.values.Given as goal

abbrev pub invariant-loop-term : goal.invariant-loop-term
invariant-loop-term l =
    values everywhere (state_of l.self l.locals) (map term_of l.terms)
    ≡ and_then (values everywhere (state_of l.self l.locals) (map term_of (drop l.term-index l.terms))) (λ ws. Ok (l.words.items ++ ws))
