use Rattle.std.specs.Prelude.{slice_index_or}
use Rattle.std.proofs.Common.{◌≡◌, ◌∙◌, ◌+◌, ◌++◌, List, ap, sym, arith, append_assoc, drop, length, map}
use Rattle.std.proofs.lemmas.List.{map-append, take_rest}
use Rattle.prem_color.specs.declared.claims.Claim.{Claim}
use Rattle.prem_color.specs.declared.claims.Share.{Share as ShareInMemory}
use Rattle.prem_color.specs.Claims.{Share, grouped, leading, share_of}
use Rattle.prem_color.proofs.Sharing.{shared}
use Rattle.prem_color.proofs.claims.shares_of.Goals as goal

pub loop-at-preserved : goal.loop-at-preserved
loop-at-preserved c =
    let claims = c.args.claims.now in
    let at = c.loop-at.at in
    let own = c.in_ok-own.own.items in
    let none : Claim = record { want = 0; range = (0, 0, 0) } in
    let want = (slice_index_or claims at none).want in
    let s = shared claims at own none c.loop-at-test.true (c.in_ok-own.ensures ∙ ap (leading want) (take_rest claims at)) in
    let long : c.len-at.result ≡ length own = c.len-at.ensures ∙ c.in_ok-own.own.ok.0 in
    let before : List Share = map share_of c.loop-at.shares.items in
    let left : List Share = grouped (drop (at + length own) claims) in
    record {
      rest = ap (λ k. map share_of c.push.new.self.items ++ grouped (drop (at + k) claims)) long
          ∙ ap (λ (shares : List ShareInMemory). map share_of shares ++ left) c.in_ok-push.ensures.items
          ∙ ap (λ (shares : List Share). shares ++ left) (map-append share_of c.loop-at.shares.items _)
          ∙ append_assoc before _ left
          ∙ ap (λ (shares : List Share). before ++ shares) (sym s.joins)
          ∙ c.loop-at.invariant.rest;
      within = let w = s.within in omega (arith, w, long);
    }
