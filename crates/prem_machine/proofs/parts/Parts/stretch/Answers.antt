use Rattle.std.proofs.Common.{◌-◌, ap, sym, ◌∙◌, subst, arith}
use Rattle.prem_machine.proofs.Prelude.{log_size, rule_in, IsNear, put_out, state_of, setup_in, IsPlant}
use Rattle.prem_machine.proofs.IssueLemmas.Nearness.{near_none}
use Rattle.prem_machine.proofs.Stretching.{follows_far, follows_none, follows_on, follows_one, rooms_going, silent_on, silent_stays, stays}
use Rattle.std.specs.Prelude.{◌<◌, ◌≤◌, Vec}
use Rattle.std.specs.Global.{Global}
use Rattle.prem_machine.specs.declared.execution.Execution.{Execution}
use Rattle.prem_machine.specs.declared.execution.ExecutionView.{ExecutionView}
use Rattle.prem_machine.proofs.OneByOne.{one_grows, task_there, tells_none, tells_on, tells_turn}
use Rattle.prem_machine.proofs.parts.Parts.stretch.Goals as goal

pub returns-in_default-clause-state : goal.returns-in_default-clause-state
returns-in_default-clause-state g c =
    let x = c.args.self.now in
    stays (rule_in (setup_in c.args.setting.now)) (setup_in c.args.setting.now) c.args.requests.now (state_of x) x.now

pub instructions-init : goal.instructions-init
instructions-init g c =
    let x = c.args.self.now in
    let p = c.args.setting.now in
    let lone = c.in-Some.lone in
    let rooms = rooms_going p c.args.requests.now x c.requires.stands c.requires.going in
    let left = c.room_left-left.ensures ∙ ap (λ ts. log_size - put_out ts) c.items.ensures in (
      follows_none p c.args.requests.now lone.task lone.until x c.room_left-left.result c.requires.stands c.requires.runs c.requires.going c.in-Some.ensures.until.0 c.in-Some.ensures.lone
          (omega (arith, rooms.0, left)),
      (
        subst (IsNear x.work.cache) (sym c.none-near.ensures) (near_none x.work.cache (subst IsPlant (sym c.requires.stands.cache) c.requires.setting.plant)),
        λ is_told. tells_none (rule_in (setup_in p)) (setup_in p) c.args.requests.now (state_of x) x.now c.args.told.now.items,
      ),
    )

pub returns-then-rest-le1-clause-state : goal.returns-then-rest-le1-clause-state
returns-then-rest-le1-clause-state g c =
    let p = c.args.setting.now in
    let old = c.instructions.self in
    let e = c.follow_where-rest.ensures in
    let f = c.instructions.invariant.0 in
    follows_on (rule_in (setup_in p)) (setup_in p) c.args.requests.now (state_of c.args.self.now) (state_of old) (state_of c.follow_where-rest.new.self) c.args.self.now.now old.now
    c.follow_where-rest.new.self.now f.begun e.from f.state e.state

pub returns-then-not-goes_on-clause-state : goal.returns-then-not-goes_on-clause-state
returns-then-not-goes_on-clause-state g c =
    let p = c.args.setting.now in
    let lone = c.in-Some.lone in
    let old = c.follow_where-rest.new.self in
    let new = c.step-goes_on.new.self in
    let d = c.follow_where-rest.ensures in
    let f = follows_far p c.args.requests.now lone.task lone.until c.args.self.now c.instructions.self old c.instructions.left c.follow_where-rest.result c.instructions.invariant.0
    d.state d.silent d.stands d.runs d.from d.within d.trapped d.lone d.room d.intervals in
    follows_on (rule_in (setup_in p)) (setup_in p) c.args.requests.now (state_of c.args.self.now) (state_of old) (state_of new) c.args.self.now.now old.now new.now f.begun c.step-goes_on.ensures.from
    f.state c.step-goes_on.ensures.state

pub instructions-preserved : goal.instructions-preserved
instructions-preserved g c =
    let p = c.args.setting.now in
    let old = c.follow_where-rest.new.self in
    let new = c.step-goes_on.new.self in
    let d = c.follow_where-rest.ensures in
    let e = c.step-goes_on.ensures in
    let lone = c.in-Some.lone in
    let f = follows_far p c.args.requests.now lone.task lone.until c.args.self.now c.instructions.self old c.instructions.left c.follow_where-rest.result c.instructions.invariant.0
    d.state d.silent d.stands d.runs d.from d.within d.trapped d.lone d.room d.intervals in (
      follows_one p c.args.requests.now lone.task lone.until c.args.self.now old new c.follow_where-rest.result f (omega (arith, c.if-rest-le1.false))
          e.state e.silent e.stands e.runs e.from e.within e.trapped (e.lone c.if-not-goes_on.false) (e.put c.if-not-goes_on.false) (e.intervals c.if-not-goes_on.false),
      (
        e.near c.if-not-goes_on.false,
        λ is_told.
            tells_turn p c.args.requests.now c.args.self.now c.instructions.self old new lone.task c.see-before.result c.args.told.now.items c.instructions.told.items c.follow_where-rest.new.told.items
            c.tell.new.told.items c.instructions.invariant.0.begun d.from e.from c.instructions.invariant.0.state f.state e.state (c.instructions.invariant.1.1 is_told) (d.told is_told) e.one d.stands
            (task_there p c.args.requests.now old lone.task lone.until d.lone d.stands d.runs) c.see-before.ensures
            (λ went. c.tell.ensures.some is_told (subst (λ (v : ExecutionView). v.now < new.now) (sym c.see-before.ensures) went))
            (λ stays. ap (λ (v : Vec Execution Global). v.items) (c.tell.ensures.none (subst (λ (v : ExecutionView). new.now ≤ v.now) (sym c.see-before.ensures) stays))),
      ),
    )

-- ---- nothing comes to a task

pub returns-in_default-clause-silent : goal.returns-in_default-clause-silent
returns-in_default-clause-silent g c =
    let x = c.args.self.now in
    silent_stays (rule_in (setup_in c.args.setting.now)) (setup_in c.args.setting.now) c.args.requests.now (state_of x) x.now

pub returns-then-rest-le1-clause-silent : goal.returns-then-rest-le1-clause-silent
returns-then-rest-le1-clause-silent g c =
    let p = c.args.setting.now in
    let old = c.instructions.self in
    let e = c.follow_where-rest.ensures in
    let f = c.instructions.invariant.0 in
    silent_on (rule_in (setup_in p)) (setup_in p) c.args.requests.now (state_of c.args.self.now) (state_of old) c.args.self.now.now old.now c.follow_where-rest.new.self.now f.begun e.from
    f.state f.silent e.silent

pub returns-then-not-goes_on-clause-silent : goal.returns-then-not-goes_on-clause-silent
returns-then-not-goes_on-clause-silent g c =
    let p = c.args.setting.now in
    let lone = c.in-Some.lone in
    let old = c.follow_where-rest.new.self in
    let new = c.step-goes_on.new.self in
    let d = c.follow_where-rest.ensures in
    let f = follows_far p c.args.requests.now lone.task lone.until c.args.self.now c.instructions.self old c.instructions.left c.follow_where-rest.result c.instructions.invariant.0
    d.state d.silent d.stands d.runs d.from d.within d.trapped d.lone d.room d.intervals in
    silent_on (rule_in (setup_in p)) (setup_in p) c.args.requests.now (state_of c.args.self.now) (state_of old) c.args.self.now.now old.now new.now f.begun c.step-goes_on.ensures.from
    f.state f.silent c.step-goes_on.ensures.silent

-- ---- what is told

pub returns-in_default-clause-told : goal.returns-in_default-clause-told
returns-in_default-clause-told g c is_told =
    let x = c.args.self.now in
    tells_none (rule_in (setup_in c.args.setting.now)) (setup_in c.args.setting.now) c.args.requests.now (state_of x) x.now c.args.told.now.items

pub returns-then-not-goes_on-clause-told : goal.returns-then-not-goes_on-clause-told
returns-then-not-goes_on-clause-told g c is_told =
    let p = c.args.setting.now in
    let lone = c.in-Some.lone in
    let old = c.follow_where-rest.new.self in
    let new = c.step-goes_on.new.self in
    let d = c.follow_where-rest.ensures in
    let e = c.step-goes_on.ensures in
    let f = follows_far p c.args.requests.now lone.task lone.until c.args.self.now c.instructions.self old c.instructions.left c.follow_where-rest.result c.instructions.invariant.0
    d.state d.silent d.stands d.runs d.from d.within d.trapped d.lone d.room d.intervals in
    tells_turn p c.args.requests.now c.args.self.now c.instructions.self old new lone.task c.see-before.result c.args.told.now.items c.instructions.told.items c.follow_where-rest.new.told.items
    c.tell.new.told.items c.instructions.invariant.0.begun d.from e.from c.instructions.invariant.0.state f.state e.state (c.instructions.invariant.1.1 is_told) (d.told is_told) e.one d.stands
    (task_there p c.args.requests.now old lone.task lone.until d.lone d.stands d.runs) c.see-before.ensures
    (λ went. c.tell.ensures.some is_told (subst (λ (v : ExecutionView). v.now < new.now) (sym c.see-before.ensures) went))
    (λ stays. ap (λ (v : Vec Execution Global). v.items) (c.tell.ensures.none (subst (λ (v : ExecutionView). new.now ≤ v.now) (sym c.see-before.ensures) stays)))

pub returns-then-rest-le1-clause-told : goal.returns-then-rest-le1-clause-told
returns-then-rest-le1-clause-told g c is_told =
    let p = c.args.setting.now in
    let old = c.instructions.self in
    let d = c.follow_where-rest.ensures in
    let f = c.instructions.invariant.0 in
    tells_on (rule_in (setup_in p)) (setup_in p) c.args.requests.now (state_of c.args.self.now) (state_of old) c.args.self.now.now old.now c.follow_where-rest.new.self.now
    c.args.told.now.items c.instructions.told.items c.follow_where-rest.new.told.items f.begun d.from f.state (c.instructions.invariant.1.1 is_told) (d.told is_told)

pub tell-requires-clause-misses : goal.tell-requires-clause-misses
tell-requires-clause-misses g c went =
    let p = c.args.setting.now in
    let old = c.follow_where-rest.new.self in
    let new = c.step-goes_on.new.self in
    let e = c.step-goes_on.ensures in
    let seen = sym c.see-before.ensures in
    let grows = one_grows (rule_in (setup_in p)) (setup_in p) c.args.requests.now c.in-Some.lone.task (new.now - old.now) (state_of old) (state_of new)
    (e.one (subst (λ (v : ExecutionView). v.now < new.now) c.see-before.ensures went)) e.state in
    subst (λ (v : ExecutionView). v.misses ≤ new.facts.misses) seen grows.misses

pub tell-requires-clause-backs : goal.tell-requires-clause-backs
tell-requires-clause-backs g c went =
    let p = c.args.setting.now in
    let old = c.follow_where-rest.new.self in
    let new = c.step-goes_on.new.self in
    let e = c.step-goes_on.ensures in
    let seen = sym c.see-before.ensures in
    let grows = one_grows (rule_in (setup_in p)) (setup_in p) c.args.requests.now c.in-Some.lone.task (new.now - old.now) (state_of old) (state_of new)
    (e.one (subst (λ (v : ExecutionView). v.now < new.now) c.see-before.ensures went)) e.state in
    subst (λ (v : ExecutionView). v.backs ≤ new.facts.writebacks) seen grows.backs
