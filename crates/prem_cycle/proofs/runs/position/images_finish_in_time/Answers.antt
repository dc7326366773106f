use Rattle.prem_cycle.proofs.RunsLemmas.PositionLemmas.ImageRuns.{image_finishes_in_time, image_finishes_one_job}
use Rattle.prem_cycle.proofs.runs.position.images_finish_in_time.Goals as goal

pub returns-clause-due : goal.returns-clause-due
returns-clause-due c = image_finishes_in_time

pub returns-clause-one_job : goal.returns-clause-one_job
returns-clause-one_job c = image_finishes_one_job
