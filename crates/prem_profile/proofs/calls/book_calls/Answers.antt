use Rattle.std.proofs.Common.{◌≡◌, ◌-◌, suc, ap, ◌∙◌, arith, map}
use Rattle.prem_profile.specs.Calls.{caller_of, calls_of, narrow, with_calls}
use Rattle.prem_profile.proofs.Rooms.{calls_next, room_next}
use Rattle.prem_profile.proofs.calls.book_calls.Goals as goal

pub calls-preserved : goal.calls-preserved
calls-preserved c =
    let n = c.calls.left - 1 in
    let some = c.calls-test.true in
    let left : c.calls.left ≡ suc (c.calls.left - 1) = omega (arith, some) in
    let table = c.args.table.now in
    let callers = c.args.callers.now in
    let costs = map narrow c.calls.costs.items in
    let new = map narrow c.book_in.new.costs.items in
    let caller = c.caller_of-caller.result in
    let whole = with_calls (map narrow c.args.costs.now.items) (calls_of table.most table.functions.items callers c.args.row) c.args.cost in
    record {
      room = room_next n c.calls.left costs new c.args.cost caller left c.book_in.ensures c.calls.invariant.room;
      booked =
          calls_next n c.calls.left table.functions.items callers c.calls.at caller costs new whole c.args.cost left
          (c.caller_of-caller.ensures ∙ ap (λ functions. caller_of functions callers c.calls.at) c.as_slice.ensures.value) c.if-caller-eq0.false c.book_in.ensures c.calls.invariant.booked;
    }
