use Rattle.std.proofs.Common.{◌≡◌, drop, map}
use Rattle.prem_syntax.specs.SyntaxOf.{parameter_of}
use Rattle.prem_text.specs.Canonical.Canonical.{more_parameters}
use Rattle.prem_print.specs.Written.{written}
use Rattle.prem_print.proofs.item.push_more_parameters.Given as goal

abbrev pub invariant-loop-parameter : goal.invariant-loop-parameter
invariant-loop-parameter l = written l.text.items (more_parameters (map parameter_of (drop l.parameter-index l.rest))) ≡ written l.initial.text.items (more_parameters (map parameter_of l.rest))
