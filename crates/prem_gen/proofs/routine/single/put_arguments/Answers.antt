use Rattle.std.proofs.Common.{ap, sym, ◌∙◌, map}
use Rattle.prem_list.specs.Sequence.{items_of}
use Rattle.prem_tree.specs.Resolve.ResolvedOf.{term_of}
use Rattle.prem_asm.specs.Pieces.{followed}
use Rattle.prem_asm.specs.PiecesOf.{pieces_of}
use Rattle.prem_asm.proofs.Rows.{followed_none}
use Rattle.prem_layout.specs.Template.Steps.{argument_code}
use Rattle.prem_gen.specs.Term.Numbers.{from_part}
use Rattle.prem_gen.proofs.RoutineLemmas.Lists.{drop_end}
use Rattle.prem_gen.proofs.routine.single.put_arguments.Goals as goal

pub returns-clause-pieces : goal.returns-clause-pieces
returns-clause-pieces c =
    sym (followed_none (pieces_of (items_of c.loop-argument.pieces)))
    ∙ ap (λ xs. followed (pieces_of (items_of c.loop-argument.pieces))
    (argument_code c.args.task.now.target (from_part c.args.task.now.first) c.args.frame c.loop-argument.argument-index (map term_of xs)))
    (sym (drop_end c.args.arguments.now c.loop-argument.argument-index c.loop-argument-test.false))
    ∙ c.loop-argument.invariant.pieces
