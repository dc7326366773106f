use Rattle.std.proofs.Common.{ap, arith, length, get_or, refl, sym, ◌∙◌}
use Rattle.prem_syntax.specs.Name.{name_bytes}
use Rattle.prem_tree.specs.declared.resolve.resolved.Routine.{Routine}
use Rattle.prem_wcet.proofs.Turns.{interval_there, plan_at}
use Rattle.prem_wcet.proofs.timed.interval_at.Goals as goal

pub bounds-routines-f : goal.bounds-routines-f
bounds-routines-f c =
    let there = c.requires.there in
    let lent = ap length c.items-plans.ensures in
    let function = plan_at c.args.p.now c.args.t.now c.args.k c.items-plans.result.now c.index-plans-k.result c.requires.task c.items-plans.ensures (omega (arith, there, lent)) c.index-plans-k.is in
    let from = c.from-f.ensures in
    let routines = ap length c.items-routines.ensures in
    omega (arith, function, from, routines)

pub bounds-routines-f-2 : goal.bounds-routines-f-2
bounds-routines-f-2 c = bounds-routines-f c

pub returns : goal.returns
returns c =
    let there = c.requires.there in
    let lent = ap length c.items-plans.ensures in
    interval_there c.args.p.now c.args.t.now c.args.k c.from-f.result c.args.opens.now c.items-plans.result.now c.index-plans-k.result c.items-routines.result.now c.index-routines-f.result
    (record { name = c.in_ok-name.name; stated = c.index-plans-k.result.stated; opens = get_or c.args.opens.now c.args.k 0 })
    c.requires.task c.items-plans.ensures c.items-routines.ensures c.requires.opens
    (omega (arith, there, lent)) c.index-plans-k.is c.from-f.ensures c.index-routines-f.is
    (c.in_ok-name.ensures ∙ ap (λ (r : Routine). name_bytes r.text.now.name) (sym c.index-routines-f.is)) refl refl
