use Rattle.std.proofs.Common.{◌≡◌, drop, map}
use Rattle.prem_tiling.proofs.Prelude.{has_name, parameter_texts, parameter_of}
use Rattle.prem_tiling.proofs.copies.used.parameter_named.Given as goal

abbrev pub invariant-params : goal.invariant-params
invariant-params l = has_name (parameter_texts (map parameter_of l.params)) l.text ≡ has_name (parameter_texts (map parameter_of (drop l.p-index l.params))) l.text
