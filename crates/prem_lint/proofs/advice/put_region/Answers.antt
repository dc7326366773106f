use Rattle.std.specs.Prelude.{◌++◌, codes}
use Rattle.std.specs.Fmt.{signed_decimal}
use Rattle.prem_word.specs.Ranges.{span_of}
use Rattle.prem_syntax.specs.Name.{name_bytes}
use Rattle.prem_lint.proofs.Chains.{joined, ends_so}
use Rattle.prem_lint.proofs.advice.put_region.Goals as goal

pub returns : goal.returns
returns c =
    let r7 = name_bytes c.args.function.now in
    let r6 = codes ") before " ++ r7 in
    let r5 = signed_decimal (span_of c.args.r).hi ++ r6 in
    let r4 = codes ", " ++ r5 in
    let r3 = signed_decimal (span_of c.args.r).lo ++ r4 in
    let r2 = codes ", " ++ r3 in
    let r1 = name_bytes c.args.global.now ++ r2 in
    ends_so c.put_name-2.result _ _ _ c.put_name-2.ensures (λ e.
    let s6 = joined c.put_high.new.text.items (codes ") before ") r7 c.put_bytes-4.new.text.items c.put_name-2.new.text.items c.in_ok-put_bytes-4.ensures e in
    let s5 = joined c.put_bytes-3.new.text.items (signed_decimal (span_of c.args.r).hi) r6 c.put_high.new.text.items c.put_name-2.new.text.items c.in_ok-put_high.ensures s6 in
    let s4 = joined c.put_low.new.text.items (codes ", ") r5 c.put_bytes-3.new.text.items c.put_name-2.new.text.items c.in_ok-put_bytes-3.ensures s5 in
    let s3 = joined c.put_bytes-2.new.text.items (signed_decimal (span_of c.args.r).lo) r4 c.put_low.new.text.items c.put_name-2.new.text.items c.in_ok-put_low.ensures s4 in
    let s2 = joined c.put_name.new.text.items (codes ", ") r3 c.put_bytes-2.new.text.items c.put_name-2.new.text.items c.in_ok-put_bytes-2.ensures s3 in
    let s1 = joined c.put_bytes.new.text.items (name_bytes c.args.global.now) r2 c.put_name.new.text.items c.put_name-2.new.text.items c.in_ok-put_name.ensures s2 in
    let s0 = joined c.args.text.now.items (codes "write REGION(") r1 c.put_bytes.new.text.items c.put_name-2.new.text.items c.in_ok-put_bytes.ensures s1 in
    s0)
