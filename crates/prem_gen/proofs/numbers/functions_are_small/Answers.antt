use Rattle.prem_gen.proofs.NumbersLemmas.Resolving.{functions_are_small}
use Rattle.prem_gen.proofs.NumbersLemmas.StepTrees.{trees_are_small}
use Rattle.prem_gen.proofs.numbers.functions_are_small.Goals as goal

pub returns : goal.returns
returns c = record { plain = functions_are_small; trees = trees_are_small }
