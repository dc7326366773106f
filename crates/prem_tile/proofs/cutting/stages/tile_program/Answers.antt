use Rattle.std.proofs.Common.{map, ap, sym, ◌∙◌}
use Rattle.prem_syntax.specs.SyntaxOf.{item_of, function_of, program_of}
use Rattle.prem_syntax.specs.Resolve.{functions_of}
use Rattle.prem_tiling.specs.Shapes.Shape.{marked_named}
use Rattle.prem_tile.proofs.CuttingLemmas.Stages.{named_again}
use Rattle.prem_tile.proofs.cutting.stages.tile_program.Goals as goal

pub of_shape-requires-clause-named : goal.of_shape-requires-clause-named
of_shape-requires-clause-named c =
    named_again (functions_of (program_of c.args.p.now)) c.args.name.now (function_of c.in-Some.f.now)
    (ap (λ xs. marked_named (functions_of (map item_of xs)) c.args.name.now) (sym c.items.ensures) ∙ sym (rw c.in-Some.is at c.marked_named.ensures))
