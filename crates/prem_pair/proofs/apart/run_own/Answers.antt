use Rattle.std.proofs.Common.{◌≡◌, ◌-◌, Option, Some, ap, sym, ◌∙◌, subst, arith}
use Rattle.prem_pair.proofs.Prelude.{log_size, near_none, IsNear, put_out, Parts, Arrives, IsPlant, IfNone}
use Rattle.prem_pair.proofs.Owning.{own_more, own_next, own_none, rooms_left}
use Rattle.std.specs.Prelude.{Bool}
use Rattle.prem_pair.proofs.apart.run_own.Goals as goal

pub cycles-init : goal.cycles-init
cycles-init g c =
    let x = c.args.parts.now in
    let p = c.args.setting.now in
    let r = c.requires in
    let rooms = rooms_left p c.args.requests.now x r.stands r.full in
    let left = c.room_left-left.ensures ∙ ap (λ ts. log_size - put_out ts) c.items.ensures in (
      own_none p c.args.requests.now c.args.task c.args.until x c.room_left-left.result r.stands r.goes r.trapped r.going r.now (omega (arith, rooms.0, left)) rooms.1,
      subst (IsNear x.work.cache) (sym c.none-near.ensures) (near_none x.work.cache (subst IsPlant (sym r.stands.cache) r.setting.plant)),
    )

pub returns-in_default-clause-arrives : goal.returns-in_default-clause-arrives
returns-in_default-clause-arrives g c = λ t r.
    let old = c.cycles.parts in
    let N : Option Bool → Type 0 = λ o. IfNone o (c.own_cycle.new.parts ≡ old) in
    let kept = subst N c.in_default.is c.own_cycle.ensures.none in
    let A : Parts g.row.P.Denot → Type 0 = λ x. Arrives t c.args.requests.now x in
    subst A (sym kept) (c.cycles.invariant.0.arrives t r)

pub returns-then-not-more-clause-own : goal.returns-then-not-more-clause-own
returns-then-not-more-clause-own g c = λ holds.
    let f = c.cycles.invariant.0 in
    own_more c.args.setting.now holds c.args.parts.now c.cycles.parts c.own_cycle.new.parts (f.own holds) f.begun (c.in-Some.ensures.own holds) c.in-Some.ensures.now

pub returns-then-not-more-clause-arrives : goal.returns-then-not-more-clause-arrives
returns-then-not-more-clause-arrives g c = λ t r. c.own_cycle.ensures.arrives t (c.cycles.invariant.0.arrives t r)

pub cycles-preserved : goal.cycles-preserved
cycles-preserved g c =
    let f = c.cycles.invariant.0 in
    let e = c.own_cycle.ensures in
    let more = c.in-Some.is ∙ ap Some c.if-not-more.false in (
      own_next c.args.setting.now c.args.requests.now c.args.task c.args.until c.args.parts.now c.cycles.parts c.own_cycle.new.parts c.cycles.left f
          (omega (arith, c.cycles-test.true)) c.if-parts-until.true
          c.in-Some.ensures.own e.stands e.goes e.arrives e.gates e.trapped (e.more more) c.in-Some.ensures.now e.put e.intervals,
      e.near,
    )
