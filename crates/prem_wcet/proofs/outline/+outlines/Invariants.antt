use Rattle.std.proofs.Common.{◌≡◌, drop}
use Rattle.prem_list.specs.Sequence.{items_of}
use Rattle.prem_asm.specs.PiecesOf.{pieces_of}
use Rattle.prem_wcet.specs.PartsOf.{cut_list, joined, parts_of}
use Rattle.prem_wcet.proofs.outline.+outlines.Given as goal

-- what is there, and the rest
abbrev pub invariant-put_steps-loop-step : goal.invariant-put_steps-loop-step
invariant-put_steps-loop-step l =
    joined (parts_of (items_of l.parts)) (cut_list l.target (drop l.step-index l.steps) (pieces_of l.rest)) ≡ joined (parts_of (items_of l.fn.parts)) (cut_list l.target l.steps (pieces_of l.code))
