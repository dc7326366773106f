use Rattle.std.proofs.Common.{◌≡◌, ◌+◌, ◌<◌, Option, Some, [], true, false, refl, ap, sym, ◌∙◌, subst, arith}
use Rattle.std.specs.Prelude.{Bool, IfNone, is_some, ◌||◌}
use Rattle.prem_pair.proofs.Prelude.{rule_in, GatesState, state_of, setup_in, Parts, pair_of, PairState, one_trapped, pair_cycles, is_first, is_second, cycles_taken, Arrives}
use Rattle.prem_pair.proofs.CyclesLemmas.OneCycle.{paired}
use Rattle.prem_pair.proofs.Going.{none_trapped}
use Rattle.prem_pair.proofs.Owning.{rooms_left}
use Rattle.prem_pair.proofs.Stretched.{none_full}
use Rattle.prem_pair.proofs.Together.{apart_now, arrives_next, both_cycle, may_still, none_were_taken, one_taken, taken_one}
use Rattle.prem_pair.proofs.both.Both.both_step.Goals as goal

pub returns-then-self-until-clause-state : goal.returns-then-self-until-clause-state
returns-then-self-until-clause-state g c =
    let s = pair_of c.args.self.now in
    let p = setup_in c.args.first.now in
    let q = setup_in c.args.second.now in
    none_were_taken (rule_in p) (rule_in q) p q c.args.requests.now s (none_trapped s c.requires.over)

pub own_cycle-requires-clause-room : goal.own_cycle-requires-clause-room
own_cycle-requires-clause-room g c =
    let x = c.args.self.now in
    (rooms_left c.args.first.now c.args.requests.now x.first c.requires.stands.first (none_full (pair_of x) c.requires.over).0).0

pub returns-in_default-clause-state : goal.returns-in_default-clause-state
returns-in_default-clause-state g c =
    let x = c.args.self.now in
    let s = pair_of x in
    let p = setup_in c.args.first.now in
    let q = setup_in c.args.second.now in
    let N : Option Bool → Type 0 = λ o. IfNone o (c.own_cycle.new.parts ≡ x.first) in
    let kept = subst N c.in_default.is c.own_cycle.ensures.none in
    let T : Parts g.row.P.Denot → PairState = λ v. paired (state_of v) s.second s.holder in
    let S : Parts g.row.P.Denot → Type 0 = λ v. T v ≡ pair_cycles (rule_in p) (rule_in q) p q c.args.requests.now (cycles_taken s (T v)) s in
    subst S (sym kept) (none_were_taken (rule_in p) (rule_in q) p q c.args.requests.now s (none_trapped s c.requires.over))

pub own_cycle-requires-2-clause-room : goal.own_cycle-requires-2-clause-room
own_cycle-requires-2-clause-room g c =
    let x = c.args.self.now in
    (rooms_left c.args.second.now [] x.second c.requires.stands.second (none_full (pair_of x) c.requires.over).1).0

pub catch_up-requires-clause-arrives : goal.catch_up-requires-clause-arrives
catch_up-requires-clause-arrives g c =
    let x = c.args.self.now in
    let lt : x.first.now < c.args.until = omega (arith, c.if-self-until.false) in
    subst (λ k. Arrives k c.args.requests.now c.own_cycle.new.parts) (sym c.in-Some.ensures.now)
    (c.own_cycle.ensures.arrives (x.first.now + 1) (arrives_next c.args.until c.args.requests.now (pair_of x) x.first c.requires.goes.arrives c.requires.may refl lt))

pub returns-in_default-own_cycle-clause-state : goal.returns-in_default-own_cycle-clause-state
returns-in_default-own_cycle-clause-state g c =
    let x = c.args.self.now in
    let s = pair_of x in
    let r = c.requires in
    let p = setup_in c.args.first.now in
    let q = setup_in c.args.second.now in
    let lt : x.first.now < c.args.until = omega (arith, c.if-self-until.false) in
    let apart = apart_now c.args.until c.args.requests.now s r.may (r.goes.free r.may.gates) lt in
    let N : Option Bool → Type 0 = λ o. IfNone o (c.own_cycle-2.new.parts ≡ x.second) in
    let kept = subst N c.in_default-own_cycle.is c.own_cycle-2.ensures.none in
    let t = pair_of c.catch_up.new.self in
    let is = c.catch_up.ensures.state p s (ap state_of (sym kept)) refl apart (c.in-Some.ensures.own (is_first x.holder)) in
    let there = ap (λ (v : Parts g.row.Q.Denot). v.now) kept ∙ r.stands.same_now in
    let one = taken_one s t (λ e. c.catch_up.ensures.goes_on e ∙ c.in-Some.ensures.now) (λ e. c.catch_up.ensures.stops e ∙ there) in
    one_taken (rule_in p) (rule_in q) p q c.args.requests.now s t r.over is one

pub returns-then-one-clause-state : goal.returns-then-one-clause-state
returns-then-one-clause-state g c =
    let x = c.args.self.now in
    let s = pair_of x in
    let r = c.requires in
    let p = setup_in c.args.first.now in
    let q = setup_in c.args.second.now in
    let h = x.holder in
    let lt : x.first.now < c.args.until = omega (arith, c.if-self-until.false) in
    let apart = apart_now c.args.until c.args.requests.now s r.may (r.goes.free r.may.gates) lt in
    let a = c.own_cycle.new.parts in
    let b = c.own_cycle-2.new.parts in
    let t = paired (state_of a) (state_of b) h in
    let is = both_cycle (rule_in p) (rule_in q) p q c.args.requests.now s (state_of a) (state_of b) apart (c.in-Some.ensures.own (is_first h)) (c.in-Some-own_cycle.ensures.own (is_second h)) in
    let none : one_trapped t ≡ false = ap (λ o. is_some o || is_some b.trapped) c.own_cycle.ensures.trapped ∙ ap (λ o. false || is_some o) c.own_cycle-2.ensures.trapped in
    let one = taken_one s t (λ e. c.in-Some.ensures.now) (λ e. absurd (let z : true ≡ false = sym e ∙ none in cc)) in
    one_taken (rule_in p) (rule_in q) p q c.args.requests.now s t r.over is one

pub returns-then-one-clause-goes : goal.returns-then-one-clause-goes
returns-then-one-clause-goes g c = λ none.
    let x = c.args.self.now in
    let s = pair_of x in
    let r = c.requires in
    let lt : x.first.now < c.args.until = omega (arith, c.if-self-until.false) in
    record {
      first = c.own_cycle.ensures.goes;
      second = c.own_cycle-2.ensures.goes;
      arrives = subst (λ k. Arrives k c.args.requests.now c.own_cycle.new.parts) (sym c.in-Some.ensures.now)
          (c.own_cycle.ensures.arrives (x.first.now + 1) (arrives_next c.args.until c.args.requests.now s x.first r.goes.arrives r.may refl lt));
      free = λ ne. ap (λ (k : GatesState). k.carried) c.own_cycle.ensures.gates ∙ r.goes.free ne;
    }

pub returns-then-one-clause-may : goal.returns-then-one-clause-may
returns-then-one-clause-may g c = λ two.
    let x = c.args.self.now in
    let r = c.requires in
    let p = setup_in c.args.first.now in
    let q = setup_in c.args.second.now in
    let h = x.holder in
    let lt : x.first.now < c.args.until = omega (arith, c.if-self-until.false) in
    let a = c.own_cycle.new.parts in
    let b = c.own_cycle-2.new.parts in
    may_still (rule_in p) (rule_in q) p q c.args.until c.args.task c.args.other c.args.requests.now (pair_of x) (state_of a) (state_of b) r.may lt (c.in-Some.ensures.own (is_first h))
    (c.in-Some-own_cycle.ensures.own (is_second h)) (c.own_cycle.ensures.more (c.in-Some.is ∙ ap Some c.if-one.true)) (c.own_cycle-2.ensures.more (c.in-Some-own_cycle.is ∙ ap Some two))

pub returns-else-one-clause-state : goal.returns-else-one-clause-state
returns-else-one-clause-state g c =
    let x = c.args.self.now in
    let s = pair_of x in
    let r = c.requires in
    let p = setup_in c.args.first.now in
    let q = setup_in c.args.second.now in
    let h = x.holder in
    let lt : x.first.now < c.args.until = omega (arith, c.if-self-until.false) in
    let apart = apart_now c.args.until c.args.requests.now s r.may (r.goes.free r.may.gates) lt in
    let a = c.own_cycle.new.parts in
    let b = c.own_cycle-2.new.parts in
    let t = paired (state_of a) (state_of b) h in
    let is = both_cycle (rule_in p) (rule_in q) p q c.args.requests.now s (state_of a) (state_of b) apart (c.in-Some.ensures.own (is_first h)) (c.in-Some-own_cycle.ensures.own (is_second h)) in
    let none : one_trapped t ≡ false = ap (λ o. is_some o || is_some b.trapped) c.own_cycle.ensures.trapped ∙ ap (λ o. false || is_some o) c.own_cycle-2.ensures.trapped in
    let one = taken_one s t (λ e. c.in-Some.ensures.now) (λ e. absurd (let z : true ≡ false = sym e ∙ none in cc)) in
    one_taken (rule_in p) (rule_in q) p q c.args.requests.now s t r.over is one

pub returns-else-one-clause-goes : goal.returns-else-one-clause-goes
returns-else-one-clause-goes g c = λ none.
    let x = c.args.self.now in
    let s = pair_of x in
    let r = c.requires in
    let lt : x.first.now < c.args.until = omega (arith, c.if-self-until.false) in
    record {
      first = c.own_cycle.ensures.goes;
      second = c.own_cycle-2.ensures.goes;
      arrives = subst (λ k. Arrives k c.args.requests.now c.own_cycle.new.parts) (sym c.in-Some.ensures.now)
          (c.own_cycle.ensures.arrives (x.first.now + 1) (arrives_next c.args.until c.args.requests.now s x.first r.goes.arrives r.may refl lt));
      free = λ ne. ap (λ (k : GatesState). k.carried) c.own_cycle.ensures.gates ∙ r.goes.free ne;
    }
