use Rattle.std.proofs.Common.{◌≡◌, drop, map}
use Rattle.prem_syntax.specs.SyntaxOf.{region_of}
use Rattle.prem_text.specs.Canonical.Canonical.{regions_lexemes}
use Rattle.prem_print.specs.Written.{written}
use Rattle.prem_print.proofs.item.push_regions.Given as goal

abbrev pub invariant-loop-region : goal.invariant-loop-region
invariant-loop-region l = written l.text.items (regions_lexemes (map region_of (drop l.region-index l.regions))) ≡ written l.initial.text.items (regions_lexemes (map region_of l.regions))
