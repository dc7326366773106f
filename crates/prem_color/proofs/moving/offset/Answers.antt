use Rattle.std.proofs.Common.{◌+◌, ◌*◌, ◌∙◌, sym, map}
use Rattle.prem_color.specs.RoomOf.{room_of}
use Rattle.prem_color.specs.Claims.{share_of}
use Rattle.prem_color.specs.Shares.{shares_fit}
use Rattle.prem_color.proofs.Taking.{least_next}
use Rattle.prem_color.proofs.moving.offset.Goals as goal

pub loop-o-preserved : goal.loop-o-preserved
loop-o-preserved c =
    let k = c.args.cache in
    let rooms = map room_of c.args.rooms.now in
    let shares = map share_of c.args.shares.now in
    sym (least_next (λ o. shares_fit k.line k.sets k.«ways» (c.args.base + o * k.line) rooms shares) c.loop-o.o k.sets c.loop-o-test.true
    (sym (c.in_ok-shares_fit.ensures) ∙ c.if-branch.false)) ∙ c.loop-o.invariant
