use Rattle.std.specs.List.{list_any}
use Rattle.std.proofs.Common.{◌≡◌, map, drop, not}
use Rattle.prem_syntax.specs.Syntax.{GlobalVariable}
use Rattle.prem_syntax.specs.SyntaxOf.{global_of}
use Rattle.prem_syntax.specs.Breaches.{is_length}
use Rattle.prem_check.proofs.limits.has_other_length.Given as goal

abbrev pub invariant-loop-g : goal.invariant-loop-g
invariant-loop-g l =
    list_any (λ (g : GlobalVariable). not (is_length g.len)) (map (λ g. global_of g.now) l.globals)
    ≡ list_any (λ (g : GlobalVariable). not (is_length g.len)) (map (λ g. global_of g.now) (drop l.g-index l.globals))
