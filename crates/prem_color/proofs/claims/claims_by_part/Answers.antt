use Rattle.std.specs.Prelude.{replicate}
use Rattle.std.proofs.Common.{◌≡◌, ◌∙◌, ℕ, List, [], ap, sym, arith, drop, length}
use Rattle.std.proofs.lemmas.List.{at_drop_all}
use Rattle.prem_foot.specs.declared.want.Want.{Want}
use Rattle.prem_color.specs.Claims.{claims_from, with_wants}
use Rattle.prem_color.specs.WantOf.{ranges_in}
use Rattle.prem_color.proofs.ByParts.{lists, index_is, index_long}
use Rattle.prem_color.proofs.claims.claims_by_part.Goals as goal

pub returns-clause-each : goal.returns-clause-each
returns-clause-each c =
    let wants = c.args.wants.now in
    let k = c.loop-k.k in
    let done : with_wants k (ranges_in (drop k wants)) (lists c.loop-k.index.items) ≡ lists c.loop-k.index.items =
    at_drop_all (λ (left : List Want). with_wants k (ranges_in left) (lists c.loop-k.index.items)) wants k (omega (arith, c.loop-k-test.false)) in
    let empty : lists c.in_ok-index.index.items ≡ replicate c.args.parts [] =
    c.in_ok-index.ensures ∙ ap (λ (counts : List ℕ). replicate (length counts) []) c.deref.ensures.value ∙ ap (λ n. replicate n []) c.in_ok-counts.ensures in
    sym done ∙ c.loop-k.invariant ∙ ap (with_wants 0 (ranges_in wants)) empty ∙ index_is c.args.parts (ranges_in wants)

pub returns-clause-count : goal.returns-clause-count
returns-clause-count c = index_long c.loop-k.index.items c.args.parts (claims_from 0 (ranges_in c.args.wants.now)) (returns-clause-each c)
