use Rattle.std.proofs.Common.{◌≡◌, map, drop}
use Rattle.prem_syntax.specs.Statements.{declare}
use Rattle.prem_syntax.specs.Source.{everywhere}
use Rattle.prem_tree.specs.Resolve.ResolvedOf.{term_of}
use Rattle.prem_tree.specs.State.Interpreter.{state_of}
use Rattle.prem_tree.proofs.state.interpreter.Interpreter.declare.Given as goal

abbrev pub invariant-loop-term : goal.invariant-loop-term
invariant-loop-term l =
    declare everywhere (map term_of (drop l.term-index l.terms)) (state_of l.self l.locals.items) ≡ declare everywhere (map term_of l.terms) (state_of l.self l.fn.locals.items)
