use Rattle.std.proofs.Common.{◌≡◌, map, drop}
use Rattle.prem_syntax.specs.SyntaxOf.{region_of}
use Rattle.prem_syntax.specs.Rules.{first, first_of}
use Rattle.prem_syntax.specs.Breaches.{in_regions}
use Rattle.prem_names.specs.Scopes.{scope_of}
use Rattle.prem_check.specs.FoundOf.{found_of}
use Rattle.prem_check.proofs.global.in_regions.Given as goal

abbrev pub invariant-loop-region : goal.invariant-loop-region
invariant-loop-region l =
    first (found_of l.found) (first_of (in_regions (scope_of l.names) (map region_of (drop l.region-index l.regions)))) ≡ first_of (in_regions (scope_of l.names) (map region_of l.regions))
