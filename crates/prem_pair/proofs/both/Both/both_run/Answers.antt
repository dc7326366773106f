use Rattle.std.proofs.Common.{◌≤◌, ◌-◌, [], length, ap, sym, ◌∙◌, subst, arith}
use Rattle.prem_pair.proofs.Prelude.{log_size, rule_in, near_none, IsNear, put_out, setup_in, pair_of, pair_cycles, IsPlant}
use Rattle.prem_pair.proofs.Going.{none_trapped}
use Rattle.prem_pair.proofs.Owning.{rooms_left}
use Rattle.prem_pair.proofs.Stretched.{none_full, none_taken}
use Rattle.prem_pair.proofs.Together.{so_far_goes, taken_goes, taken_then}
use Rattle.prem_pair.proofs.both.Both.both_run.Goals as goal

pub cycles-init : goal.cycles-init
cycles-init g c =
    let x = c.args.self.now in
    let r = c.requires in
    let s = pair_of x in
    let p = c.args.first.now in
    let q = c.args.second.now in
    let full = none_full s r.over in
    let rooms = rooms_left p c.args.requests.now x.first r.stands.first full.0 in
    let other = rooms_left q [] x.second r.stands.second full.1 in
    let one = c.room_left-first_left.ensures ∙ ap (λ ts. log_size - put_out ts) c.items.ensures in
    let two = c.room_left-second_left.ensures ∙ ap (λ ts. log_size - put_out ts) c.items-2.ensures in
    let least = c.min-left.ensures in (
      record {
        state = none_taken (rule_in (setup_in p)) (rule_in (setup_in q)) (setup_in p) (setup_in q) c.args.requests.now x.first.now s;
        stands = r.stands;
        goes = r.goes;
        trapped = none_trapped s r.over;
        may = r.may;
        going = r.going;
        other_going = r.other_going;
        begun = omega arith;
        room = omega (arith, rooms.0, one, least);
        other_room = omega (arith, other.0, two, least);
        intervals = rooms.1;
        other_intervals = other.1;
      },
      (
        subst (IsNear x.first.work.cache) (sym c.none-near.ensures) (near_none x.first.work.cache (subst IsPlant (sym r.stands.first.cache) r.one.plant)),
        subst (IsNear x.second.work.cache) (sym c.none-other_near.ensures) (near_none x.second.work.cache (subst IsPlant (sym r.stands.second.cache) r.two.plant)),
      ),
    )

pub both_step-requires-clause-over : goal.both_step-requires-clause-over
both_step-requires-clause-over g c =
    so_far_goes c.args.first.now c.args.second.now c.args.requests.now c.args.task c.args.other c.args.until c.args.self.now c.cycles.self
    c.cycles.left c.cycles.invariant.0 (omega (arith, c.cycles-test.true))

pub returns-then-not-both_step-clause-state : goal.returns-then-not-both_step-clause-state
returns-then-not-both_step-clause-state g c =
    let p = setup_in c.args.first.now in
    let q = setup_in c.args.second.now in
    let f = c.cycles.invariant.0 in
    taken_then (rule_in p) (rule_in q) p q c.args.requests.now (pair_of c.args.self.now) (pair_of c.cycles.self) (pair_of c.both_step.new.self)
    f.state c.both_step.ensures.state f.begun c.both_step.ensures.from

pub cycles-preserved : goal.cycles-preserved
cycles-preserved g c =
    let p = setup_in c.args.first.now in
    let q = setup_in c.args.second.now in
    let f = c.cycles.invariant.0 in
    let e = c.both_step.ensures in
    let so = c.if-not-both_step.false in
    let from = pair_of c.args.self.now in
    let new = pair_of c.both_step.new.self in
    let some : 1 ≤ c.cycles.left = omega (arith, c.cycles-test.true) in
    let same = ap length (e.intervals so) in
    let same2 = ap length (e.other_intervals so) in (
      record {
        state = taken_then (rule_in p) (rule_in q) p q c.args.requests.now from (pair_of c.cycles.self) new f.state e.state f.begun e.from
            ∙ ap (λ k. pair_cycles (rule_in p) (rule_in q) p q c.args.requests.now k from) (taken_goes from new (e.trapped so));
        stands = e.stands;
        goes = e.goes (e.trapped so);
        trapped = e.trapped so;
        may = e.may so;
        going = e.going so;
        other_going = e.other_going so;
        begun = omega (arith, f.begun, e.from);
        room = omega (arith, some, e.put so, f.room);
        other_room = omega (arith, some, e.other_put so, f.other_room);
        intervals = omega (arith, same, f.intervals);
        other_intervals = omega (arith, same2, f.other_intervals);
      },
      (e.near so, e.other_near so),
    )
