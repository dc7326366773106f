use Rattle.std.proofs.Common.{◌≡◌, drop, map}
use Rattle.prem_syntax.specs.SyntaxOf.{local_of}
use Rattle.prem_text.specs.Canonical.Canonical.{locals_lexemes}
use Rattle.prem_print.specs.Written.{written}
use Rattle.prem_print.proofs.item.push_locals.Given as goal

abbrev pub invariant-loop-local : goal.invariant-loop-local
invariant-loop-local l = written l.text.items (locals_lexemes (map local_of (drop l.local-index l.locals))) ≡ written l.initial.text.items (locals_lexemes (map local_of l.locals))
