use Rattle.prem_pair_top.proofs.Limits.{pair_limits_are_small}
use Rattle.prem_pair_top.proofs.Sets.{pair_reports_end, pairs_of_sets_are_sound}
use Rattle.prem_pair_top.proofs.laws.pairs_of_sets_are_sound.Goals as goal

pub returns-clause-sound : goal.returns-clause-sound
returns-clause-sound c = pairs_of_sets_are_sound

pub returns-clause-limits : goal.returns-clause-limits
returns-clause-limits c = pair_limits_are_small

pub returns-clause-reports : goal.returns-clause-reports
returns-clause-reports c = pair_reports_end
