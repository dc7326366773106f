-- Scenes of which the same is known: facts whose ranges are the same, each once or more often, and whose counts are told alike.
use Rattle.std.specs.Prelude.{◌≡◌}
use Rattle.prem_bounds.specs.Scale.{clipped}
use Rattle.prem_bounds.specs.ToldSums.{clipped_sums}
use Rattle.prem_wcet_laws.specs.Counts.{PathCount}
use Rattle.prem_wcet_laws.specs.Scopes.{Fact}
use Rattle.prem_wcet.specs.Same.{AreSame}

-- counts that are told alike
pub record AreAlike (a b : PathCount) : Type 0 where
  pub total : clipped a.total ≡ clipped b.total
  pub sums : clipped_sums a.sums ≡ clipped_sums b.sums

pub record FactsAlike (a b : Fact) : Type 0 where
  pub pieces : a.pieces ≡ b.pieces
  pub code : AreSame a.code b.code
  pub touched : AreSame a.touched b.touched
  pub cuts : a.cuts ≡ b.cuts
  pub least : clipped a.least ≡ clipped b.least
  pub parted : AreAlike a.parted b.parted
