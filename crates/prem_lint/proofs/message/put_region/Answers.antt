use Rattle.std.specs.Prelude.{◌++◌, codes}
use Rattle.prem_word.specs.Ranges.{span_of}
use Rattle.prem_syntax.specs.Name.{name_bytes}
use Rattle.prem_lint.specs.Elements.{values}
use Rattle.prem_lint.proofs.Chains.{joined, ends_so}
use Rattle.prem_lint.proofs.message.put_region.Goals as goal

pub returns : goal.returns
returns c =
    let r5 = codes " here, and no REGION that it states has that" in
    let r4 = values (span_of c.args.r) ++ r5 in
    let r3 = codes " at " ++ r4 in
    let r2 = name_bytes c.args.global.now ++ r3 in
    let r1 = codes " may access " ++ r2 in
    ends_so c.put_bytes-3.result _ _ _ c.put_bytes-3.ensures (λ e.
    let s4 = joined c.put_bytes-2.new.text.items (values (span_of c.args.r)) r5 c.put_values.new.text.items c.put_bytes-3.new.text.items c.in_ok-put_values.ensures e in
    let s3 = joined c.put_name-2.new.text.items (codes " at ") r4 c.put_bytes-2.new.text.items c.put_bytes-3.new.text.items c.in_ok-put_bytes-2.ensures s4 in
    let s2 = joined c.put_bytes.new.text.items (name_bytes c.args.global.now) r3 c.put_name-2.new.text.items c.put_bytes-3.new.text.items c.in_ok-put_name-2.ensures s3 in
    let s1 = joined c.put_name.new.text.items (codes " may access ") r2 c.put_bytes.new.text.items c.put_bytes-3.new.text.items c.in_ok-put_bytes.ensures s2 in
    let s0 = joined c.args.text.now.items (name_bytes c.args.function.now) r1 c.put_name.new.text.items c.put_bytes-3.new.text.items c.in_ok-put_name.ensures s1 in
    s0)
