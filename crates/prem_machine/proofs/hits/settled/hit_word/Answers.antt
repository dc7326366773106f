use Rattle.std.proofs.Common.{◌≡◌, ◌+◌, ap, subst, sym, ◌∙◌}
use Rattle.prem_machine.proofs.Prelude.{EffectFits, Done, Loads, Moves, Puts, Stores, view_of, ComesTo, putting, storing}
use Rattle.prem_machine.proofs.Finding.{known_does, known_ready, load_does, load_goes_on}
use Rattle.prem_machine.proofs.SettledHits.{word_comes}
use Rattle.prem_machine.proofs.hits.settled.hit_word.Goals as goal

pub go_on-requires-clause-does : goal.go_on-requires-clause-does
go_on-requires-clause-does g c =
    let x = c.args.cache.now in
    let view = view_of x c.args.mem.now in
    let core = c.args.core.now in
    let q = c.args.plant.now in
    let m = c.in-Some.m in
    let u = Moves m.rd m.value m.next in
    let come : ComesTo x.plant view core c.cost_at.result u =
    word_comes x.plant q view core c.pc-pc.result c.args.word c.cost_at.result u c.requires.plant c.pc-pc.ensures.same c.pc-pc.ensures.aligned c.requires.place c.requires.word
    c.cost_at.ensures.cost (λ v input. c.in-Some.ensures.outcome q.memory v core.phase input) c.in-Some.ensures.fit in
    known_does x.plant view core c.cost_at.result u c.moving-effect.result come (λ v input. ap Done c.moving-effect.ensures)

pub go_on-requires-clause-pc : goal.go_on-requires-clause-pc
go_on-requires-clause-pc g c =
    let x = c.args.cache.now in
    let view = view_of x c.args.mem.now in
    let core = c.args.core.now in
    let q = c.args.plant.now in
    let m = c.in-Some.m in
    let u = Moves m.rd m.value m.next in
    let come : ComesTo x.plant view core c.cost_at.result u =
    word_comes x.plant q view core c.pc-pc.result c.args.word c.cost_at.result u c.requires.plant c.pc-pc.ensures.same c.pc-pc.ensures.aligned c.requires.place c.requires.word
    c.cost_at.ensures.cost (λ v input. c.in-Some.ensures.outcome q.memory v core.phase input) c.in-Some.ensures.fit in
    (known_ready x.plant view core c.cost_at.result u c.moving-effect.result come (λ v input. ap Done c.moving-effect.ensures)
    (subst (EffectFits x.plant.memory) (sym c.moving-effect.ensures) (record { register = c.in-Some.ensures.fit; access = tt; matches = tt }))).aligned

pub load_on-requires-clause-does : goal.load_on-requires-clause-does
load_on-requires-clause-does g c =
    let x = c.args.cache.now in
    let view = view_of x c.args.mem.now in
    let core = c.args.core.now in
    let q = c.args.plant.now in
    let m = c.in-Some-loads.load in
    let u = Loads m.op m.rd m.address m.next in
    let come : ComesTo x.plant view core c.cost_at-in-Some-loads.result u =
    word_comes x.plant q view core c.pc-pc.result c.args.word c.cost_at-in-Some-loads.result u c.requires.plant c.pc-pc.ensures.same c.pc-pc.ensures.aligned c.requires.place c.requires.word
    c.cost_at-in-Some-loads.ensures.cost (λ v input. c.in-Some-loads.ensures.outcome q.target v core.phase input) c.in-Some-loads.ensures.fit in
    load_does x.plant view core c.cost_at-in-Some-loads.result m come

pub load_on-requires-clause-next : goal.load_on-requires-clause-next
load_on-requires-clause-next g c =
    let x = c.args.cache.now in
    let view = view_of x c.args.mem.now in
    let core = c.args.core.now in
    let q = c.args.plant.now in
    let m = c.in-Some-loads.load in
    let u = Loads m.op m.rd m.address m.next in
    let come : ComesTo x.plant view core c.cost_at-in-Some-loads.result u =
    word_comes x.plant q view core c.pc-pc.result c.args.word c.cost_at-in-Some-loads.result u c.requires.plant c.pc-pc.ensures.same c.pc-pc.ensures.aligned c.requires.place c.requires.word
    c.cost_at-in-Some-loads.ensures.cost (λ v input. c.in-Some-loads.ensures.outcome q.target v core.phase input) c.in-Some-loads.ensures.fit in
    load_goes_on x.plant view core c.cost_at-in-Some-loads.result m come

pub store_on-requires-clause-does : goal.store_on-requires-clause-does
store_on-requires-clause-does g c =
    let x = c.args.cache.now in
    let view = view_of x c.args.mem.now in
    let core = c.args.core.now in
    let q = c.args.plant.now in
    let m = c.in-Some-stores.stored in
    let u = Stores m.address m.size m.value in
    let come : ComesTo x.plant view core c.cost_at-in-Some-stores.result u =
    word_comes x.plant q view core c.pc-pc.result c.args.word c.cost_at-in-Some-stores.result u c.requires.plant c.pc-pc.ensures.same c.pc-pc.ensures.aligned c.requires.place c.requires.word
    c.cost_at-in-Some-stores.ensures.cost (λ v input. c.in-Some-stores.ensures.outcome q.target v core.phase input) c.in-Some-stores.ensures.fit in
    known_does x.plant view core c.cost_at-in-Some-stores.result u (storing m.address m.size m.value (c.pc-pc.result + 4)) come
    (λ v input. ap (λ n. Done (storing m.address m.size m.value (n + 4))) c.pc-pc.ensures.same)

pub go_on-requires-in-Some-puts-clause-does : goal.go_on-requires-in-Some-puts-clause-does
go_on-requires-in-Some-puts-clause-does g c =
    let x = c.args.cache.now in
    let view = view_of x c.args.mem.now in
    let core = c.args.core.now in
    let q = c.args.plant.now in
    let m = c.in-Some-puts.out in
    let u = Puts m in
    let come : ComesTo x.plant view core c.cost_at-in-Some-puts.result u =
    word_comes x.plant q view core c.pc-pc.result c.args.word c.cost_at-in-Some-puts.result u c.requires.plant c.pc-pc.ensures.same c.pc-pc.ensures.aligned c.requires.place c.requires.word
    c.cost_at-in-Some-puts.ensures.cost (λ v input. c.in-Some-puts.ensures.outcome q.target q.memory v core.pc input) tt in
    let told : c.putting-effect.result ≡ putting m (core.pc + 4) = c.putting-effect.ensures ∙ ap (λ n. putting m (n + 4)) c.pc-pc.ensures.same in
    known_does x.plant view core c.cost_at-in-Some-puts.result u c.putting-effect.result come (λ v input. ap Done told)
