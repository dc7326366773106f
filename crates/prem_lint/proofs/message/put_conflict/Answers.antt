use Rattle.std.specs.Prelude.{◌++◌, codes, decimal}
use Rattle.prem_syntax.specs.Name.{name_bytes}
use Rattle.prem_lint.proofs.Chains.{joined, ends_so}
use Rattle.prem_lint.proofs.message.put_conflict.Goals as goal

pub returns : goal.returns
returns c =
    let r7 = codes " ways" in
    let r6 = decimal c.args.ways ++ r7 in
    let r5 = codes " of the cache, which has " ++ r6 in
    let r4 = decimal c.args.set ++ r5 in
    let r3 = codes " lines in set " ++ r4 in
    let r2 = decimal c.args.lines ++ r3 in
    let r1 = codes " needs " ++ r2 in
    ends_so c.put_bytes-4.result _ _ _ c.put_bytes-4.ensures (λ e.
    let s6 = joined c.put_bytes-3.new.text.items (decimal c.args.ways) r7 c.put_number-3.new.text.items c.put_bytes-4.new.text.items c.in_ok-put_number-3.ensures e in
    let s5 = joined c.put_number-2.new.text.items (codes " of the cache, which has ") r6 c.put_bytes-3.new.text.items c.put_bytes-4.new.text.items c.in_ok-put_bytes-3.ensures s6 in
    let s4 = joined c.put_bytes-2.new.text.items (decimal c.args.set) r5 c.put_number-2.new.text.items c.put_bytes-4.new.text.items c.in_ok-put_number-2.ensures s5 in
    let s3 = joined c.put_number.new.text.items (codes " lines in set ") r4 c.put_bytes-2.new.text.items c.put_bytes-4.new.text.items c.in_ok-put_bytes-2.ensures s4 in
    let s2 = joined c.put_bytes.new.text.items (decimal c.args.lines) r3 c.put_number.new.text.items c.put_bytes-4.new.text.items c.in_ok-put_number.ensures s3 in
    let s1 = joined c.put_name.new.text.items (codes " needs ") r2 c.put_bytes.new.text.items c.put_bytes-4.new.text.items c.in_ok-put_bytes.ensures s2 in
    let s0 = joined c.args.text.now.items (name_bytes c.args.function.now) r1 c.put_name.new.text.items c.put_bytes-4.new.text.items c.in_ok-put_name.ensures s1 in
    s0)
