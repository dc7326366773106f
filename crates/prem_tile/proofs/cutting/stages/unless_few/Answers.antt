use Rattle.prem_syntax.specs.SyntaxOf.{program_of}
use Rattle.prem_tiling.specs.Copies.CutOf.{cut_in}
use Rattle.prem_tiling.proofs.LawsLemmas.Standing.{step_of}
use Rattle.prem_tile.proofs.cutting.stages.unless_few.Goals as goal

pub turns_of-turns-requires : goal.turns_of-turns-requires
turns_of-turns-requires c = step_of (program_of c.args.p.now) (cut_in c.args.c.now) c.requires.asked.formed c.requires.asked.named c.requires.asked.shaped
