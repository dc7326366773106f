use Rattle.prem_lint.proofs.Chains.{joined, ends_so}
use Rattle.prem_lint.proofs.message.put_divisor.Goals as goal

pub returns : goal.returns
returns c =
    ends_so c.put_values.result _ _ _ c.put_values.ensures (λ e.
    let s0 = joined _ _ _ _ _ c.in_ok-put_bytes.ensures e in
    s0)
