use Rattle.std.proofs.Common.{◌≡◌, map, take}
use Rattle.prem_syntax.specs.Name.{name_bytes}
use Rattle.prem_names.proofs.names.names_of.Given as goal

abbrev pub invariant-loop-f : goal.invariant-loop-f
invariant-loop-f l = l.names ≡ map (λ f. name_bytes f.now.name) (take l.f-index l.functions)
