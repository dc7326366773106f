use Rattle.std.proofs.Common.{IfOk, subst}
use Rattle.prem_syntax.specs.SyntaxOf.{program_of}
use Rattle.prem_tile.specs.Cutting.Answer.{is_text_past, IsTiled}
use Rattle.prem_tile.proofs.CuttingLemmas.Stages.{kept_result}
use Rattle.prem_tile.proofs.cutting.whole.tile.Goals as goal

pub returns-clause-kept : goal.returns-clause-kept
returns-clause-kept c =
    subst (λ p. IfOk c.tile_program.result (λ q. IsTiled (program_of p) (program_of q) c.args.name.now c.args.tiles)) c.program.ensures.program
    (kept_result is_text_past (program_of c.program.result.now)
    c.args.name.now c.args.tiles c.args.stated c.tile_program.result c.program.ensures.well_formed c.requires.several c.requires.few c.tile_program.ensures)
