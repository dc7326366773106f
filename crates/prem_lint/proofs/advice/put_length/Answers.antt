use Rattle.std.specs.Prelude.{◌++◌, codes, decimal}
use Rattle.prem_lint.proofs.Chains.{joined, ends_so}
use Rattle.prem_lint.proofs.advice.put_length.Goals as goal

pub returns : goal.returns
returns c =
    let r2 = codes ") or more" in
    let r1 = decimal c.args.bound ++ r2 in
    ends_so c.put_bytes-2.result _ _ _ c.put_bytes-2.ensures (λ e.
    let s1 = joined c.put_bytes.new.text.items (decimal c.args.bound) r2 c.put_number.new.text.items c.put_bytes-2.new.text.items c.in_ok-put_number.ensures e in
    let s0 = joined c.args.text.now.items (codes "write PREDICTABLE(") r1 c.put_bytes.new.text.items c.put_bytes-2.new.text.items c.in_ok-put_bytes.ensures s1 in
    s0)
