use Rattle.std.specs.Prelude.{◌||◌}
use Rattle.std.proofs.Common.{ap, sym, ◌∙◌}
use Rattle.prem_asm.specs.Pieces.{followed}
use Rattle.prem_asm.specs.PiecesOf.{pieces_of}
use Rattle.prem_wcet.specs.Outlines.{code_of}
use Rattle.prem_wcet.specs.PartsOf.{parts_of}
use Rattle.prem_profile.specs.Bound.Pieces.{has_call}
use Rattle.prem_profile.proofs.BillLemmas.Calling.{call_followed, or_assoc}
use Rattle.prem_profile.proofs.bound.calling.code_calls.Goals as goal

pub returns : goal.returns
returns c =
    let before = pieces_of c.args.before.now in
    let parts = code_of (parts_of c.args.parts.now) in
    let last = pieces_of c.args.last.now in
    (λ i. (c.pieces_call-first.ensures i || c.parts_call-middle.ensures i) || c.pieces_call-end.ensures i)
    ∙ or_assoc (has_call before) (has_call parts) (has_call last)
    ∙ sym (call_followed before (followed parts last) ∙ ap (λ b. has_call before || b) (call_followed parts last))
