use Rattle.std.specs.Prelude.{◌++◌, codes, decimal}
use Rattle.prem_syntax.specs.Name.{name_bytes}
use Rattle.prem_lint.specs.declared.spot.Spot.TheVariants.{Line}
use Rattle.prem_lint.specs.Spots.{head}
use Rattle.prem_lint.proofs.Chains.{joined, ends_so}
use Rattle.prem_lint.proofs.needs.put_need.Goals as goal

pub returns : goal.returns
returns c =
    let r5 = codes " cycles\n" in
    let r4 = decimal c.args.bound ++ r5 in
    let r3 = codes " needs at least " ++ r4 in
    let r2 = name_bytes c.args.f.now.name ++ r3 in
    let r1 = codes "note: " ++ r2 in
    ends_so c.put_bytes-3.result _ _ _ c.put_bytes-3.ensures (λ e.
    let s4 = joined c.put_bytes-2.new.text.items (decimal c.args.bound) r5 c.put_number.new.text.items c.put_bytes-3.new.text.items c.in_ok-put_number.ensures e in
    let s3 = joined c.put_name.new.text.items (codes " needs at least ") r4 c.put_bytes-2.new.text.items c.put_bytes-3.new.text.items c.in_ok-put_bytes-2.ensures s4 in
    let s2 = joined c.put_bytes.new.text.items (name_bytes c.args.f.now.name) r3 c.put_name.new.text.items c.put_bytes-3.new.text.items c.in_ok-put_name.ensures s3 in
    let s1 = joined c.put_head.new.text.items (codes "note: ") r2 c.put_bytes.new.text.items c.put_bytes-3.new.text.items c.in_ok-put_bytes.ensures s2 in
    let s0 = joined c.args.text.now.items (head c.args.file.now (Line c.args.f.now.at.line)) r1 c.put_head.new.text.items c.put_bytes-3.new.text.items c.in_ok-put_head.ensures s1 in
    s0)
