use Rattle.std.proofs.Common.{◌≡◌, ◌++◌, map, drop, length}
use Rattle.prem_layout.specs.Parts.{element_size}
use Rattle.prem_foot.proofs.places.element_sizes.Given as goal

abbrev pub invariant-loop-g : goal.invariant-loop-g
invariant-loop-g l =
    record {
      rest : l.sizes.items ++ map (λ g. element_size g.now.ty) (drop l.g-index l.globals) ≡ map (λ g. element_size g.now.ty) l.globals;
      long : length l.sizes.items ≡ l.g-index;
    }
