use Rattle.std.proofs.Common.{◌≡◌, length}
use Rattle.prem_syntax.specs.SyntaxOf.{expression_of}
use Rattle.prem_text.specs.Grammar.Expression.{bind}
use Rattle.prem_reader.specs.Expression.StateOf.{open_of}
use Rattle.prem_reader.proofs.expression.open.OpenStack.bind.Given as goal

-- what is left binds to what all binds to
abbrev pub invariant-loop-inner : goal.invariant-loop-inner
invariant-loop-inner l = record {
  whole : bind l.level (expression_of l.value) (open_of l.self) ≡ bind l.level (expression_of l.initial.value) (open_of l.initial.self);
}

abbrev pub decreases-loop-inner : goal.decreases-loop-inner
decreases-loop-inner l = length l.self.all.items
