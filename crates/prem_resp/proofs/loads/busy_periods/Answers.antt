use Rattle.std.proofs.Common.{◌+◌, ◌-◌, ◌++◌, ap, ◌∙◌, length}
use Rattle.prem_resp.specs.Fits.{found_from}
use Rattle.prem_resp.proofs.Found.{found_more}
use Rattle.prem_resp.proofs.loads.busy_periods.Goals as goal

pub loop-i-preserved : goal.loop-i-preserved
loop-i-preserved c =
    let loads = c.args.loads.now in
    let i = c.loop-i.i in
    ap (λ xs. xs ++ found_from loads (i + 1) (length loads - (i + 1))) c.in_ok-push.ensures.items
    ∙ found_more loads i (length loads) c.loop-i.found.items c.busy_length.result c.loop-i-test.true c.busy_length.ensures c.loop-i.invariant
