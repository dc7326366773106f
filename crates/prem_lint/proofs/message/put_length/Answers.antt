use Rattle.std.specs.Prelude.{◌++◌, codes, decimal}
use Rattle.prem_syntax.specs.Name.{name_bytes}
use Rattle.prem_lint.proofs.Chains.{joined, ends_so}
use Rattle.prem_lint.proofs.message.put_length.Goals as goal

pub returns : goal.returns
returns c =
    let r4 = decimal c.args.stated in
    let r3 = codes " cycles, and states " ++ r4 in
    let r2 = decimal c.args.bound ++ r3 in
    let r1 = codes " needs at least " ++ r2 in
    ends_so c.put_number-2.result _ _ _ c.put_number-2.ensures (λ e.
    let s3 = joined c.put_number.new.text.items (codes " cycles, and states ") r4 c.put_bytes-2.new.text.items c.put_number-2.new.text.items c.in_ok-put_bytes-2.ensures e in
    let s2 = joined c.put_bytes.new.text.items (decimal c.args.bound) r3 c.put_number.new.text.items c.put_number-2.new.text.items c.in_ok-put_number.ensures s3 in
    let s1 = joined c.put_name.new.text.items (codes " needs at least ") r2 c.put_bytes.new.text.items c.put_number-2.new.text.items c.in_ok-put_bytes.ensures s2 in
    let s0 = joined c.args.text.now.items (name_bytes c.args.function.now) r1 c.put_name.new.text.items c.put_number-2.new.text.items c.in_ok-put_name.ensures s1 in
    s0)
