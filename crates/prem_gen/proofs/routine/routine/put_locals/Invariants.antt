use Rattle.std.proofs.Common.{◌≡◌, ◌+◌, map, drop}
use Rattle.prem_list.specs.Sequence.{items_of}
use Rattle.prem_tree.specs.Resolve.ResolvedOf.{term_of}
use Rattle.prem_asm.specs.Pieces.{followed}
use Rattle.prem_asm.specs.PiecesOf.{pieces_of}
use Rattle.prem_layout.specs.Template.Steps.{declare_code}
use Rattle.prem_layout.specs.Template.Limits.{too_deep_among}
use Rattle.prem_gen.specs.Term.Numbers.{from_part}
use Rattle.prem_gen.proofs.routine.routine.put_locals.Given as goal

-- what is there, and the rest
abbrev pub invariant-loop-value : goal.invariant-loop-value
invariant-loop-value l = record {
  pieces :
      followed (pieces_of (items_of l.pieces)) (declare_code l.task.target (from_part l.task.first) l.slot (map term_of (drop l.value-index l.locals)))
      ≡ followed (pieces_of (items_of l.fn.pieces)) (declare_code l.task.target (from_part l.task.first) l.k (map term_of l.locals));
  deep : too_deep_among (map term_of (drop l.value-index l.locals)) ≡ too_deep_among (map term_of l.locals);
  slot : l.slot ≡ l.k + l.value-index;
}
