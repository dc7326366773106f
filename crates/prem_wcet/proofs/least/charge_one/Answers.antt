use Rattle.std.proofs.Common.{◌≡◌, ◌+◌, ◌-◌, ap, ◌∙◌, arith, take, drop}
use Rattle.prem_bounds.specs.Scale.{clipped}
use Rattle.prem_wcet_laws.specs.Scopes.{charge}
use Rattle.prem_wcet.specs.Outlines.{span_in}
use Rattle.prem_wcet.specs.PartsOf.{parts_of}
use Rattle.prem_wcet.specs.SceneOf.{scene_in}
use Rattle.prem_wcet.proofs.Outcomes.{if_more}
use Rattle.prem_wcet.proofs.least.charge_one.Goals as goal

pub returns : goal.returns
returns c =
    let e = scene_in c.args.scene.now in
    let n = c.args.n in
    if_more c.charge.result (λ k told. told
    ∙ ap (λ m. clipped (charge e c.args.at (span_in (parts_of (take m (drop n c.args.parts.now))))))
    (let one : n + 1 - n ≡ 1 = omega arith in one)) c.charge.ensures
