use Rattle.std.proofs.Common.{◌++◌, [], ◌∷◌, ◌∙◌, Vec, Global, ap, arith}
use Rattle.std.proofs.lemmas.List.{length-map}
use Rattle.prem_color.specs.declared.claims.Claim.{Claim}
use Rattle.prem_color.proofs.ByParts.{lists, claim_put, claim_past}
use Rattle.prem_color.proofs.claims.push_claim.Goals as goal

pub returns-in_ok-push : goal.returns-in_ok-push
returns-in_ok-push c =
    claim_put c.args.index.now.items c.args.claim.range.0 c.args.claim c.push.new.self _ (omega (arith, c.if-part-len.true, c.len.ensures))
    (c.in_ok-push.ensures.items ∙ ap (λ (own : Vec Claim Global). own.items ++ c.args.claim ∷ []) c.index_mut.ensures.value)

pub returns-else-part-len : goal.returns-else-part-len
returns-else-part-len c =
    let long = length-map c.args.index.now.items (λ (own : Vec Claim Global). own.items) in
    claim_past (lists c.args.index.now.items) c.args.claim.range.0 c.args.claim (omega (arith, c.if-part-len.false, c.len.ensures, long))
