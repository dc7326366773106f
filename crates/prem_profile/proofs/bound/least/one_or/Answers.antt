use Rattle.std.specs.Prelude.{◌-◌}
use Rattle.std.proofs.Common.{◌≡◌, ◌+◌, ap, ◌∙◌, arith, take, drop}
use Rattle.prem_wcet.specs.Outlines.{span_in}
use Rattle.prem_wcet.specs.PartsOf.{parts_of}
use Rattle.prem_wcet.specs.SceneOf.{scene_in}
use Rattle.prem_wcet.proofs.Outcomes.{if_more}
use Rattle.prem_profile.specs.Bound.Bills.{cheaper}
use Rattle.prem_profile.specs.Bound.Scopes.{scope_bill}
use Rattle.prem_profile.proofs.bound.least.one_or.Goals as goal

pub returns : goal.returns
returns c =
    let e = scene_in c.args.scene.now in
    let n = c.args.n in
    if_more {Q = λ bill. bill.items ≡ cheaper (scope_bill e c.args.at (span_in (parts_of (take 1 (drop n c.args.parts.now))))) c.args.divided.items} c.parts_or.result (λ bill told. told
    ∙ ap (λ m. cheaper (scope_bill e c.args.at (span_in (parts_of (take m (drop n c.args.parts.now))))) c.args.divided.items)
    (let one : n + 1 - n ≡ 1 = omega arith in one)) c.parts_or.ensures
