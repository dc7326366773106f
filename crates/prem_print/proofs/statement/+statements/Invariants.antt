use Rattle.std.proofs.Common.{◌≡◌, drop}
use Rattle.prem_syntax.specs.SyntaxOf.{statements_of}
use Rattle.prem_text.specs.Canonical.Canonical.{statements_lexemes}
use Rattle.prem_print.specs.Written.{written}
use Rattle.prem_print.proofs.statement.+statements.Given as goal

abbrev pub invariant-push_statements-loop-stmt : goal.invariant-push_statements-loop-stmt
invariant-push_statements-loop-stmt l =
    written l.text.items (statements_lexemes (statements_of (drop l.stmt-index l.body))) ≡ written l.initial.text.items (statements_lexemes (statements_of l.body))
