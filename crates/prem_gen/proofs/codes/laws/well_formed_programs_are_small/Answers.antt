use Rattle.prem_gen.proofs.CodesLemmas.Sameness.{well_formed_are_small}
use Rattle.prem_gen.proofs.codes.laws.well_formed_programs_are_small.Goals as goal

pub returns : goal.returns
returns c = well_formed_are_small
