use Rattle.std.proofs.Common.{◌≡◌, ◌-◌, ◌*◌, map, drop}
use Rattle.prem_list.specs.Sequence.{items_of}
use Rattle.prem_tree.specs.Resolve.ResolvedOf.{term_of}
use Rattle.prem_asm.specs.Pieces.{followed}
use Rattle.prem_asm.specs.PiecesOf.{pieces_of}
use Rattle.prem_layout.specs.Template.Steps.{argument_code}
use Rattle.prem_layout.specs.Template.Limits.{too_deep_among}
use Rattle.prem_gen.specs.Term.Numbers.{from_part}
use Rattle.prem_gen.proofs.routine.single.put_arguments.Given as goal

-- what is there, and the rest
abbrev pub invariant-loop-argument : goal.invariant-loop-argument
invariant-loop-argument l = record {
  pieces :
      followed (pieces_of (items_of l.pieces)) (argument_code l.task.target (from_part l.task.first) l.frame l.argument-index (map term_of (drop l.argument-index l.arguments)))
      ≡ followed (pieces_of (items_of l.fn.pieces)) (argument_code l.task.target (from_part l.task.first) l.frame 0 (map term_of l.arguments));
  deep : too_deep_among (map term_of (drop l.argument-index l.arguments)) ≡ too_deep_among (map term_of l.arguments);
  below : l.below ≡ l.frame - 4 - 4 * l.argument-index - 1;
}
