use Rattle.std.proofs.Common.{◌∙◌}
use Rattle.prem_resp.specs.Fits.{found_in}
use Rattle.prem_time.specs.Told.{loads_by, times_by}
use Rattle.prem_time.proofs.LoadsAre.{lent_told}
use Rattle.prem_time.proofs.promises.promises_by.Goals as goal

pub promises_told-requires : goal.promises_told-requires
promises_told-requires c =
    lent_told c.args.devices.now c.args.bus.now c.args.timed.now (loads_by c.args.timed.now) (found_in (loads_by c.args.timed.now)) (times_by c.args.timed.now) c.deref.result.now c.deref-2.result.now
    c.requires.devices c.deref.ensures.value (c.deref-2.ensures.value ∙ c.in_ok-waits.ensures)
