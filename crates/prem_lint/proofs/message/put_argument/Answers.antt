use Rattle.std.specs.Prelude.{◌++◌, codes}
use Rattle.std.specs.Fmt.{signed_decimal}
use Rattle.prem_word.specs.Ranges.{span_of}
use Rattle.prem_lint.specs.Elements.{past}
use Rattle.prem_lint.proofs.Chains.{joined, ends_so}
use Rattle.prem_lint.proofs.message.put_argument.Goals as goal

pub returns : goal.returns
returns c =
    let r6 = codes ")" in
    let r5 = signed_decimal (span_of c.args.stated).hi ++ r6 in
    let r4 = codes ", " ++ r5 in
    let r3 = signed_decimal (span_of c.args.stated).lo ++ r4 in
    let r2 = codes ", and its parameter has RANGE(" ++ r3 in
    let r1 = signed_decimal (past (span_of c.args.stated).hi (span_of c.args.r)) ++ r2 in
    ends_so c.put_bytes-4.result _ _ _ c.put_bytes-4.ensures (λ e.
    let s5 = joined c.put_bytes-3.new.text.items (signed_decimal (span_of c.args.stated).hi) r6 c.put_high.new.text.items c.put_bytes-4.new.text.items c.in_ok-put_high.ensures e in
    let s4 = joined c.put_low.new.text.items (codes ", ") r5 c.put_bytes-3.new.text.items c.put_bytes-4.new.text.items c.in_ok-put_bytes-3.ensures s5 in
    let s3 = joined c.put_bytes-2.new.text.items (signed_decimal (span_of c.args.stated).lo) r4 c.put_low.new.text.items c.put_bytes-4.new.text.items c.in_ok-put_low.ensures s4 in
    let s2 = joined c.put_past_stated.new.text.items (codes ", and its parameter has RANGE(") r3 c.put_bytes-2.new.text.items c.put_bytes-4.new.text.items c.in_ok-put_bytes-2.ensures s3 in
    let s1 = joined c.put_bytes.new.text.items (signed_decimal (past (span_of c.args.stated).hi (span_of c.args.r)))
    r2 c.put_past_stated.new.text.items c.put_bytes-4.new.text.items c.in_ok-put_past_stated.ensures s2 in
    let s0 = joined c.args.text.now.items (codes "an argument of this call can be ") r1 c.put_bytes.new.text.items c.put_bytes-4.new.text.items c.in_ok-put_bytes.ensures s1 in
    s0)
