use Rattle.std.proofs.Common.{◌≡◌, drop, map}
use Rattle.prem_syntax.specs.SyntaxOf.{expression_of}
use Rattle.prem_text.specs.Canonical.Canonical.{more_arguments}
use Rattle.prem_print.specs.Written.{written}
use Rattle.prem_print.proofs.statement.push_more.Given as goal

abbrev pub invariant-loop-argument : goal.invariant-loop-argument
invariant-loop-argument l = written l.text.items (more_arguments (map expression_of (drop l.argument-index l.rest))) ≡ written l.initial.text.items (more_arguments (map expression_of l.rest))
