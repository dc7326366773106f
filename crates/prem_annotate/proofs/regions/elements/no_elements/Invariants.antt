use Rattle.std.proofs.Common.{◌≡◌, ◌++◌, map, drop}
use Rattle.prem_annotate.proofs.Prelude.{elements_of, no_elements, global_of}
use Rattle.prem_annotate.proofs.regions.elements.no_elements.Given as goal

abbrev pub invariant-loop-global : goal.invariant-loop-global
invariant-loop-global l =
    elements_of l.all.items ++ no_elements (map (λ g. global_of g.now) (drop l.global-index l.globals)) ≡ no_elements (map (λ g. global_of g.now) l.globals)
