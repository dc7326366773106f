use Rattle.std.specs.Prelude.{◌++◌, ◌-◌, codes, decimal, pos}
use Rattle.std.specs.Fmt.{signed_decimal}
use Rattle.prem_word.specs.Ranges.{span_of}
use Rattle.prem_lint.specs.Elements.{array, element, past}
use Rattle.prem_lint.proofs.Chains.{joined, ends_so}
use Rattle.prem_lint.proofs.message.put_index.Goals as goal

pub returns : goal.returns
returns c =
    let r6 = decimal (c.args.len - 1) in
    let r5 = codes " has elements 0 to " ++ r6 in
    let r4 = array c.args.rest.now ++ r5 in
    let r3 = codes ", and " ++ r4 in
    let r2 = signed_decimal (past (pos (c.args.len - 1)) (span_of c.args.r)) ++ r3 in
    let r1 = codes ": the index can be " ++ r2 in
    ends_so c.put_last.result _ _ _ c.put_last.ensures (λ e.
    let s5 = joined c.put_array.new.text.items (codes " has elements 0 to ") r6 c.put_bytes-3.new.text.items c.put_last.new.text.items c.in_ok-put_bytes-3.ensures e in
    let s4 = joined c.put_bytes-2.new.text.items (array c.args.rest.now) r5 c.put_array.new.text.items c.put_last.new.text.items c.in_ok-put_array.ensures s5 in
    let s3 = joined c.put_past_last.new.text.items (codes ", and ") r4 c.put_bytes-2.new.text.items c.put_last.new.text.items c.in_ok-put_bytes-2.ensures s4 in
    let s2 = joined c.put_bytes.new.text.items (signed_decimal (past (pos (c.args.len - 1)) (span_of c.args.r)))
    r3 c.put_past_last.new.text.items c.put_last.new.text.items c.in_ok-put_past_last.ensures s3 in
    let s1 = joined c.put_element.new.text.items (codes ": the index can be ") r2 c.put_bytes.new.text.items c.put_last.new.text.items c.in_ok-put_bytes.ensures s2 in
    let s0 = joined c.args.text.now.items (element c.args.rest.now) r1 c.put_element.new.text.items c.put_last.new.text.items c.in_ok-put_element.ensures s1 in
    s0)
