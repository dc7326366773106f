use Rattle.std.proofs.Common.{◌≡◌, ◌∙◌, sym, ap, arith, Some, option_map, max}
use Rattle.prem_layout.specs.Footprint.{last_line_end}
use Rattle.prem_foot.proofs.RunLaws.{next_found, next_none, run_within}
use Rattle.prem_color.specs.Rooms.{room_behind}
use Rattle.prem_color.proofs.Behind.{runs_full, runs_go, runs_done}
use Rattle.prem_color.proofs.room.Room.with_ranges.Goals as goal

pub with_run-requires-clause-order : goal.with_run-requires-clause-order
with_run-requires-clause-order c =
    let f = next_found c.args.cache.line c.loop-first.at c.args.ranges.now c.next_run.result (c.in-Some.first, c.in-Some.end) c.next_run.ensures c.in-Some.is in
    omega (arith, f.some)

pub returns-in_default-with_run : goal.returns-in_default-with_run
returns-in_default-with_run c =
    let f = next_found c.args.cache.line c.loop-first.at c.args.ranges.now c.next_run.result (c.in-Some.first, c.in-Some.end) c.next_run.ensures c.in-Some.is in
    let line = c.args.cache.line in
    sym (ap (option_map (room_behind (max c.args.self.now.at (last_line_end line c.args.ranges.now))))
    (sym c.loop-first.invariant ∙ runs_full line c.args.cache.sets c.args.cache.«ways» c.args.ranges.now c.loop-first.at
    (c.in-Some.first, c.in-Some.end) c.loop-first.counts f (sym c.with_run.ensures ∙ c.in_default-with_run.is)))

pub loop-first-smaller : goal.loop-first-smaller
loop-first-smaller c =
    let f = next_found c.args.cache.line c.loop-first.at c.args.ranges.now c.next_run.result (c.in-Some.first, c.in-Some.end) c.next_run.ensures c.in-Some.is in
    omega (arith, f.some, f.from, run_within c.args.cache.line c.args.ranges.now c.loop-first.at (c.in-Some.first, c.in-Some.end) f)

pub loop-first-preserved : goal.loop-first-preserved
loop-first-preserved c =
    let f = next_found c.args.cache.line c.loop-first.at c.args.ranges.now c.next_run.result (c.in-Some.first, c.in-Some.end) c.next_run.ensures c.in-Some.is in
    sym (runs_go c.args.cache.line c.args.cache.sets c.args.cache.«ways» c.args.ranges.now c.loop-first.at (c.in-Some.first, c.in-Some.end)
    c.loop-first.counts c.in-Some-with_run.next f (sym c.with_run.ensures ∙ c.in-Some-with_run.is))
    ∙ c.loop-first.invariant

pub returns : goal.returns
returns c =
    let line = c.args.cache.line in
    let none = next_none line c.loop-first.at c.args.ranges.now c.next_run.result c.next_run.ensures c.in_default.is in
    let done = sym (runs_done line c.args.cache.sets c.args.cache.«ways» c.args.ranges.now c.loop-first.at c.loop-first.counts none) ∙ c.loop-first.invariant in
    let e : c.max.result ≡ max c.args.self.now.at (last_line_end line c.args.ranges.now) = omega (arith, c.max.ensures, c.last_line_end.ensures) in
    ap (λ k. Some (room_behind k c.loop-first.counts)) e ∙ ap (option_map (room_behind (max c.args.self.now.at (last_line_end line c.args.ranges.now)))) done
