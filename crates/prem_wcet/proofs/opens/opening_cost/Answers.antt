use Rattle.std.specs.Prelude.{◌-◌}
use Rattle.std.proofs.Common.{ap, ◌∙◌}
use Rattle.prem_asm.specs.PiecesOf.{pieces_of}
use Rattle.prem_wcet.proofs.Openings.{bare_weight}
use Rattle.prem_wcet.proofs.opens.opening_cost.Goals as goal

pub returns : goal.returns
returns c = c.saturating_sub.ensures ∙ ap (λ n. n - 7) (c.weight_in.ensures ∙ bare_weight (pieces_of c.args.stub.now))
