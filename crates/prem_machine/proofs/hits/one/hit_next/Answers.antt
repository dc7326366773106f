use Rattle.std.proofs.Common.{◌≡◌, ◌+◌, ap, subst, sym, ◌∙◌, arith}
use Rattle.prem_machine.proofs.Prelude.{EffectFits, Done, Loads, Moves, Puts, Stores, view_of, ComesTo, putting, storing}
use Rattle.prem_machine.proofs.Finding.{comes_to, known_does, known_ready, load_does, load_goes_on}
use Rattle.prem_machine.proofs.hits.one.hit_next.Goals as goal

pub hit_known-requires-clause-ready : goal.hit_known-requires-clause-ready
hit_known-requires-clause-ready g c =
    let x = c.args.cache.now in
    let view = view_of x c.args.mem.now in
    let core = c.args.core.now in
    let q = c.plant-plant.result in
    let m = c.in-Some.m in
    let u = Moves m.rd m.value m.next in
    let come : ComesTo x.plant view core c.cost_at.result u =
    comes_to x.plant q view core c.pc-pc.result c.peek_near-word.result c.cost_at.result u c.plant-plant.ensures.same c.pc-pc.ensures.same c.pc-pc.ensures.aligned
    (omega (arith, c.if-from.false, c.from.ensures, c.from-2.ensures)) c.peek_near-word.ensures.number c.cost_at.ensures.cost
    (λ v input. c.in-Some.ensures.outcome q.memory v core.phase input) c.in-Some.ensures.fit in
    known_ready x.plant view core c.cost_at.result u c.moving-effect.result come (λ v input. ap Done c.moving-effect.ensures)
    (subst (EffectFits x.plant.memory) (sym c.moving-effect.ensures) (record { register = c.in-Some.ensures.fit; access = tt; matches = tt }))

pub hit_known-requires-clause-does : goal.hit_known-requires-clause-does
hit_known-requires-clause-does g c =
    let x = c.args.cache.now in
    let view = view_of x c.args.mem.now in
    let core = c.args.core.now in
    let q = c.plant-plant.result in
    let m = c.in-Some.m in
    let u = Moves m.rd m.value m.next in
    let come : ComesTo x.plant view core c.cost_at.result u =
    comes_to x.plant q view core c.pc-pc.result c.peek_near-word.result c.cost_at.result u c.plant-plant.ensures.same c.pc-pc.ensures.same c.pc-pc.ensures.aligned
    (omega (arith, c.if-from.false, c.from.ensures, c.from-2.ensures)) c.peek_near-word.ensures.number c.cost_at.ensures.cost
    (λ v input. c.in-Some.ensures.outcome q.memory v core.phase input) c.in-Some.ensures.fit in
    known_does x.plant view core c.cost_at.result u c.moving-effect.result come (λ v input. ap Done c.moving-effect.ensures)

pub hit_load-requires-clause-next : goal.hit_load-requires-clause-next
hit_load-requires-clause-next g c =
    let x = c.args.cache.now in
    let view = view_of x c.args.mem.now in
    let core = c.args.core.now in
    let q = c.plant-plant.result in
    let m = c.in-Some-loads.load in
    let u = Loads m.op m.rd m.address m.next in
    let come : ComesTo x.plant view core c.cost_at-in-Some-loads.result u =
    comes_to x.plant q view core c.pc-pc.result c.peek_near-word.result c.cost_at-in-Some-loads.result u c.plant-plant.ensures.same c.pc-pc.ensures.same c.pc-pc.ensures.aligned
    (omega (arith, c.if-from.false, c.from.ensures, c.from-2.ensures)) c.peek_near-word.ensures.number c.cost_at-in-Some-loads.ensures.cost
    (λ v input. c.in-Some-loads.ensures.outcome q.target v core.phase input) c.in-Some-loads.ensures.fit in
    load_goes_on x.plant view core c.cost_at-in-Some-loads.result m come

pub hit_load-requires-clause-does : goal.hit_load-requires-clause-does
hit_load-requires-clause-does g c =
    let x = c.args.cache.now in
    let view = view_of x c.args.mem.now in
    let core = c.args.core.now in
    let q = c.plant-plant.result in
    let m = c.in-Some-loads.load in
    let u = Loads m.op m.rd m.address m.next in
    let come : ComesTo x.plant view core c.cost_at-in-Some-loads.result u =
    comes_to x.plant q view core c.pc-pc.result c.peek_near-word.result c.cost_at-in-Some-loads.result u c.plant-plant.ensures.same c.pc-pc.ensures.same c.pc-pc.ensures.aligned
    (omega (arith, c.if-from.false, c.from.ensures, c.from-2.ensures)) c.peek_near-word.ensures.number c.cost_at-in-Some-loads.ensures.cost
    (λ v input. c.in-Some-loads.ensures.outcome q.target v core.phase input) c.in-Some-loads.ensures.fit in
    load_does x.plant view core c.cost_at-in-Some-loads.result m come

pub hit_known-requires-in-Some-stores-clause-does : goal.hit_known-requires-in-Some-stores-clause-does
hit_known-requires-in-Some-stores-clause-does g c =
    let x = c.args.cache.now in
    let view = view_of x c.args.mem.now in
    let core = c.args.core.now in
    let q = c.plant-plant.result in
    let m = c.in-Some-stores.stored in
    let u = Stores m.address m.size m.value in
    let come : ComesTo x.plant view core c.cost_at-in-Some-stores.result u =
    comes_to x.plant q view core c.pc-pc.result c.peek_near-word.result c.cost_at-in-Some-stores.result u c.plant-plant.ensures.same c.pc-pc.ensures.same c.pc-pc.ensures.aligned
    (omega (arith, c.if-from.false, c.from.ensures, c.from-2.ensures)) c.peek_near-word.ensures.number c.cost_at-in-Some-stores.ensures.cost
    (λ v input. c.in-Some-stores.ensures.outcome q.target v core.phase input) c.in-Some-stores.ensures.fit in
    let told : c.storing-effect.result ≡ storing m.address m.size m.value (core.pc + 4) =
    c.storing-effect.ensures ∙ ap (λ n. storing m.address m.size m.value (n + 4)) c.pc-pc.ensures.same in
    known_does x.plant view core c.cost_at-in-Some-stores.result u c.storing-effect.result come (λ v input. ap Done told)

pub hit_known-requires-in-Some-puts-clause-does : goal.hit_known-requires-in-Some-puts-clause-does
hit_known-requires-in-Some-puts-clause-does g c =
    let x = c.args.cache.now in
    let view = view_of x c.args.mem.now in
    let core = c.args.core.now in
    let q = c.plant-plant.result in
    let m = c.in-Some-puts.out in
    let u = Puts m in
    let come : ComesTo x.plant view core c.cost_at-in-Some-puts.result u =
    comes_to x.plant q view core c.pc-pc.result c.peek_near-word.result c.cost_at-in-Some-puts.result u c.plant-plant.ensures.same c.pc-pc.ensures.same c.pc-pc.ensures.aligned
    (omega (arith, c.if-from.false, c.from.ensures, c.from-2.ensures)) c.peek_near-word.ensures.number c.cost_at-in-Some-puts.ensures.cost
    (λ v input. c.in-Some-puts.ensures.outcome q.target q.memory v core.pc input) tt in
    let told : c.putting-effect.result ≡ putting m (core.pc + 4) = c.putting-effect.ensures ∙ ap (λ n. putting m (n + 4)) c.pc-pc.ensures.same in
    known_does x.plant view core c.cost_at-in-Some-puts.result u c.putting-effect.result come (λ v input. ap Done told)
