use Rattle.std.proofs.Common.{◌≤◌, length, map, refl, replicate, ap, ap₂, sym, ◌∙◌, subst, arith}
use Rattle.prem_cycle.specs.State.{MachineState}
use Rattle.prem_profile.specs.Spent.{no_cost, plus}
use Rattle.prem_profile.specs.Turn.{seen_cost, seen_home, seen_of}
use Rattle.prem_profile.specs.Account.{row_of, with_cost}
use Rattle.prem_profile.specs.Calls.{LastCalls, costs_with, function_at, last_calls, narrow, no_calls, noted, recent_with}
use Rattle.prem_profile.proofs.Profiled.{ended, first_now, first_profiled, here, is_turn, next_profiled, turn_cost, turn_goes, turn_small}
use Rattle.prem_profile.specs.Ahead.{run_after}
use Rattle.prem_profile.proofs.ToldTurns.{as_standing, first_ahead, standing, standing_later}
use Rattle.prem_profile.proofs.CalledRuns.{ended_called, first_called, next_called, recent_fits, room_called}
use Rattle.prem_profile.proofs.tracing.profile.Goals as goal

pub run_to-stop-requires-clause-now : goal.run_to-stop-requires-clause-now
run_to-stop-requires-clause-now g c =
    let now = ap (λ (x : MachineState). x.now) c.in_ok-machine.ensures.state ∙ first_now c.args.image.now c.args.input.now in
    subst (λ n. n ≤ 0) (sym now) (omega arith)

pub turns-init : goal.turns-init
turns-init g c =
    let new = c.in_ok-machine.ensures in
    let run = c.run_to-stop.ensures in
    let empty = c.new_account-account.ensures in
    let functions = c.args.functions.now in
    let fresh = c.in_ok-calls.calls in
    let known = c.in_ok-calls.ensures in
    let rows = length c.args.costs.items in
    let first =
    first_profiled c.args.image.now c.args.input.now c.args.table.now.tasks c.args.table.now.words.items rows
    c.args.limit c.run_to-stop.result c.in_ok-machine.machine c.run_to-stop.new.self
    c.new_account-account.result.home c.new_account-account.result.total c.new_account-account.result.costs.items new.setup new.requests new.state
    run.state run.setup run.requests run.stop empty.home empty.total (empty.costs ∙ c.requires.costs) in
    record {
      profiled = as_standing c.args.image.now c.args.input.now c.args.table.now.tasks c.args.table.now.words.items rows c.args.limit 0 c.run_to-stop.result c.run_to-stop.new.self
          c.new_account-account.result.home c.new_account-account.result.total c.new_account-account.result.costs.items first;
      ahead = first_ahead c.args.image.now c.args.input.now c.args.limit c.run_to-stop.new.self c.in_ok-ahead.ahead c.in_ok-ahead.ensures.told c.in_ok-ahead.ensures.booked
          first.setup first.requests first.state;
      called =
          first_called c.args.image.now c.args.input.now functions.most c.args.table.now.tasks c.args.table.now.words.items functions.functions.items rows fresh.row fresh.function fresh.recent
          (last_calls fresh) (map narrow fresh.costs.items) (known.row ∙ c.row_of-first.ensures) (known.function ∙ ap (λ r. function_at functions.functions.items r) (sym known.row)) known.recent
          (known.calls ∙ ap (no_calls functions.most) (c.len.ensures ∙ c.args.costs.ok.0)) (known.costs ∙ ap (λ n. replicate n no_cost) (c.len.ensures ∙ c.args.costs.ok.0));
    }

pub next_turn-turn-requires-clause-ahead : goal.next_turn-turn-requires-clause-ahead
next_turn-turn-requires-clause-ahead g c = c.turns.invariant.ahead

pub next_turn-turn-requires-clause-now : goal.next_turn-turn-requires-clause-now
next_turn-turn-requires-clause-now g c =
    let goes = turn_goes c.turns.at c.args.limit c.turns.stop c.has_turn.result c.has_turn.ensures c.turns-test.true in
    (here c.args.image.now c.args.input.now c.args.table.now.tasks c.args.table.now.words.items (length c.args.costs.items) c.args.limit c.turns.at c.turns.stop
    (standing c.args.image.now c.args.input.now c.turns.at) c.turns.account.home c.turns.account.total c.turns.account.costs.items c.turns.invariant.profiled goes).now

pub next_turn-turn-requires-clause-going : goal.next_turn-turn-requires-clause-going
next_turn-turn-requires-clause-going g c =
    let goes = turn_goes c.turns.at c.args.limit c.turns.stop c.has_turn.result c.has_turn.ensures c.turns-test.true in
    (here c.args.image.now c.args.input.now c.args.table.now.tasks c.args.table.now.words.items (length c.args.costs.items) c.args.limit c.turns.at c.turns.stop
    (standing c.args.image.now c.args.input.now c.turns.at) c.turns.account.home c.turns.account.total c.turns.account.costs.items c.turns.invariant.profiled goes).going

pub book-requires : goal.book-requires
book-requires g c =
    let goes = turn_goes c.turns.at c.args.limit c.turns.stop c.has_turn.result c.has_turn.ensures c.turns-test.true in
    let a = c.turns.account in
    let later = standing_later c.args.image.now c.args.input.now c.turns.at c.next_turn-turn.result.end
    (here c.args.image.now c.args.input.now c.args.table.now.tasks c.args.table.now.words.items (length c.args.costs.items) c.args.limit c.turns.at c.turns.stop
    (standing c.args.image.now c.args.input.now c.turns.at) c.turns.account.home c.turns.account.total c.turns.account.costs.items c.turns.invariant.profiled goes).now c.next_turn-turn.ensures.from in
    let end = c.next_turn-turn.ensures in
    let went = c.next_turn-turn.ensures in
    let within = end.within in
    let limit = c.requires.limit in
    turn_small c.args.image.now c.args.input.now c.args.table.now.tasks c.args.table.now.words.items (length c.args.costs.items)
    c.args.limit c.turns.at c.turns.stop (standing c.args.image.now c.args.input.now c.turns.at) a.home a.total a.costs.items
    c.turns.invariant.profiled (standing c.args.image.now c.args.input.now c.next_turn-turn.result.end) c.next_turn-turn.result.end c.next_turn-turn.result.cost goes end.from (omega (arith, within, limit)) end.seen later went.cost

pub call-requires-clause-function : goal.call-requires-clause-function
call-requires-clause-function g c = c.turns.invariant.called.function_is

pub call-requires-clause-room : goal.call-requires-clause-room
call-requires-clause-room g c =
    let k = c.turns.calls in
    let within = c.turns.invariant.profiled.within in
    let limit = c.requires.limit in
    let functions = c.args.functions.now in
    room_called c.args.image.now c.args.input.now functions.most c.args.table.now.tasks c.args.table.now.words.items functions.functions.items (length c.args.costs.items) c.turns.at
    k.row k.function k.recent (last_calls k) (map narrow k.costs.items) c.turns.invariant.called c.in_ok-calls.ensures.few (omega (arith, within, limit))

pub call-requires-clause-fits : goal.call-requires-clause-fits
call-requires-clause-fits g c =
    let goes = turn_goes c.turns.at c.args.limit c.turns.stop c.has_turn.result c.has_turn.ensures c.turns-test.true in
    let a = c.turns.account in
    let later = standing_later c.args.image.now c.args.input.now c.turns.at c.next_turn-turn.result.end
    (here c.args.image.now c.args.input.now c.args.table.now.tasks c.args.table.now.words.items (length c.args.costs.items) c.args.limit c.turns.at c.turns.stop
    (standing c.args.image.now c.args.input.now c.turns.at) c.turns.account.home c.turns.account.total c.turns.account.costs.items c.turns.invariant.profiled goes).now c.next_turn-turn.ensures.from in
    let k = c.turns.calls in
    let end = c.next_turn-turn.ensures in
    let went = c.next_turn-turn.ensures in
    let within = end.within in
    let from = end.from in
    let limit = c.requires.limit in
    let functions = c.args.functions.now in
    let image = c.args.image.now in
    let input = c.args.input.now in
    let tasks = c.args.table.now.tasks in
    let words = c.args.table.now.words.items in
    let rows = length c.args.costs.items in
    recent_fits image input functions.most tasks words functions.functions.items rows c.turns.at k.row k.function k.recent (last_calls k) (map narrow k.costs.items) c.turns.invariant.called
    c.next_turn-turn.result.cost (omega (arith, from, within, limit))
    (turn_cost image input tasks words rows c.args.limit c.turns.at c.turns.stop (standing c.args.image.now c.args.input.now c.turns.at) a.home a.total a.costs.items c.turns.invariant.profiled (standing c.args.image.now c.args.input.now c.next_turn-turn.result.end)
    c.next_turn-turn.result.end c.next_turn-turn.result.cost goes end.from (omega (arith, within, limit)) end.seen later went.cost)

pub turns-preserved : goal.turns-preserved
turns-preserved g c =
    let goes = turn_goes c.turns.at c.args.limit c.turns.stop c.has_turn.result c.has_turn.ensures c.turns-test.true in
    let a = c.turns.account in
    let later = standing_later c.args.image.now c.args.input.now c.turns.at c.next_turn-turn.result.end
    (here c.args.image.now c.args.input.now c.args.table.now.tasks c.args.table.now.words.items (length c.args.costs.items) c.args.limit c.turns.at c.turns.stop
    (standing c.args.image.now c.args.input.now c.turns.at) c.turns.account.home c.turns.account.total c.turns.account.costs.items c.turns.invariant.profiled goes).now c.next_turn-turn.ensures.from in
    let b = c.book.new.account in
    let end = c.next_turn-turn.ensures in
    let went = c.next_turn-turn.ensures in
    let put = c.book.ensures in
    let k = c.turns.calls in
    let n = c.call.new.calls in
    let called = c.call.ensures in
    let image = c.args.image.now in
    let input = c.args.input.now in
    let tasks = c.args.table.now.tasks in
    let words = c.args.table.now.words.items in
    let functions = c.args.functions.now in
    let rows = length c.args.costs.items in
    let to = c.next_turn-turn.result.end in
    let home = seen_home (seen_of a.home (run_after image input c.turns.at)) (run_after image input to) in
    let cost = seen_cost (seen_of a.home (run_after image input c.turns.at)) (run_after image input to) in
    let row_is = c.row_of-row.ensures ∙ ap (row_of tasks words) went.home in
    let turn = is_turn image input tasks words rows c.args.limit c.turns.at c.turns.stop (standing c.args.image.now c.args.input.now c.turns.at) a.home a.total a.costs.items c.turns.invariant.profiled (standing c.args.image.now c.args.input.now c.next_turn-turn.result.end)
    to goes end.from end.seen later in
    let costs_of = costs_with functions.most functions.functions.items k.callers.items k.row in
    record {
      profiled =
          next_profiled image input tasks words rows
          c.args.limit c.turns.at c.turns.stop (standing c.args.image.now c.args.input.now c.turns.at) a.home a.total a.costs.items
          c.turns.invariant.profiled c.next_turn-turn.result.stop (standing c.args.image.now c.args.input.now c.next_turn-turn.result.end) b.home b.total b.costs.items to goes end.from end.within
          end.seen later refl refl went.stop
          (put.home ∙ went.home) (put.total ∙ ap (plus a.total) went.cost)
          (put.costs ∙ ap₂ (λ r x. with_cost a.costs.items r x) row_is went.cost);
      ahead = end.ahead;
      called =
          next_called image input functions.most tasks words functions.functions.items rows c.turns.at k.row k.function k.recent (last_calls k) (map narrow k.costs.items) c.turns.invariant.called
          to home cost n.row n.function n.recent (last_calls n) (map narrow n.costs.items) end.from turn
          (called.row ∙ row_is) (called.function ∙ ap (function_at functions.functions.items) (sym called.row))
          (called.calls ∙ ap (λ r. noted functions.functions.items k.row r (last_calls k)) (sym called.row))
          (called.recent ∙ (λ i. recent_with functions.functions.items k.row (sym called.row i) k.recent (went.cost i)))
          (called.costs ∙ ap (λ r. costs_of r k.recent (map narrow k.costs.items)) (sym called.row));
    }

pub returns-clause-total : goal.returns-clause-total
returns-clause-total g c =
    let a = c.turns.account in
    (ended c.args.image.now c.args.input.now c.args.table.now.tasks c.args.table.now.words.items (length c.args.costs.items)
    c.args.limit c.turns.at c.turns.stop (standing c.args.image.now c.args.input.now c.turns.at) a.home a.total a.costs.items
    c.turns.invariant.profiled (sym c.has_turn.ensures ∙ c.turns-test.false)).total_is

pub returns-clause-costs : goal.returns-clause-costs
returns-clause-costs g c =
    let a = c.turns.account in
    (ended c.args.image.now c.args.input.now c.args.table.now.tasks c.args.table.now.words.items (length c.args.costs.items)
    c.args.limit c.turns.at c.turns.stop (standing c.args.image.now c.args.input.now c.turns.at) a.home a.total a.costs.items
    c.turns.invariant.profiled (sym c.has_turn.ensures ∙ c.turns-test.false)).costs_are

pub settle-requires : goal.settle-requires
settle-requires g c =
    let k = c.turns.calls in
    let within = c.turns.invariant.profiled.within in
    let limit = c.requires.limit in
    let functions = c.args.functions.now in
    room_called c.args.image.now c.args.input.now functions.most c.args.table.now.tasks c.args.table.now.words.items functions.functions.items (length c.args.costs.items) c.turns.at
    k.row k.function k.recent (last_calls k) (map narrow k.costs.items) c.turns.invariant.called c.in_ok-calls.ensures.few (omega (arith, within, limit))

pub returns-clause-callees : goal.returns-clause-callees
returns-clause-callees g c =
    let k = c.turns.calls in
    let w = c.turns.invariant.profiled in
    let functions = c.args.functions.now in
    ap (λ (l : LastCalls). l.callees) (c.settle.ensures.calls
    ∙ (ended_called c.args.image.now c.args.input.now functions.most c.args.table.now.tasks c.args.table.now.words.items functions.functions.items (length c.args.costs.items) c.args.limit
    c.turns.at k.row k.function k.recent (last_calls k) (map narrow k.costs.items) c.turns.stop (standing c.args.image.now c.args.input.now c.turns.at) c.turns.invariant.called c.requires.functions w.within w.state w.stopped
    (sym c.has_turn.ensures ∙ c.turns-test.false)).calls_are)

pub returns-clause-calls : goal.returns-clause-calls
returns-clause-calls g c =
    let k = c.turns.calls in
    let w = c.turns.invariant.profiled in
    let functions = c.args.functions.now in
    c.settle.ensures.costs
    ∙ (ended_called c.args.image.now c.args.input.now functions.most c.args.table.now.tasks c.args.table.now.words.items functions.functions.items (length c.args.costs.items) c.args.limit
    c.turns.at k.row k.function k.recent (last_calls k) (map narrow k.costs.items) c.turns.stop (standing c.args.image.now c.args.input.now c.turns.at) c.turns.invariant.called c.requires.functions w.within w.state w.stopped
    (sym c.has_turn.ensures ∙ c.turns-test.false)).costs_are
