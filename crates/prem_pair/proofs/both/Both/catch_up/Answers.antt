use Rattle.std.proofs.Common.{◌≡◌, ◌-◌, false, ap, sym, ◌∙◌, arith}
use Rattle.prem_pair.proofs.Prelude.{next_cycle, with_now, MachineState, rule_in, state_of, setup_in, own_cycle, own_part, holder_after, is_second, core_done, move_had, is_some}
use Rattle.prem_pair.proofs.CyclesLemmas.Apart.{catch_goes, catch_stops}
use Rattle.prem_pair.proofs.CyclesLemmas.OneCycle.{paired}
use Rattle.prem_pair.proofs.Together.{own_done}
use Rattle.prem_pair.proofs.both.Both.catch_up.Goals as goal

pub returns-then-is_some-clause-state : goal.returns-then-is_some-clause-state
returns-then-is_some-clause-state g c = λ p s same held apart own.
    let old = c.args.self.now in
    let q = setup_in c.args.second.now in
    let h = s.holder in
    let t = state_of old.second in
    let x = state_of old.first in
    let holds = c.is_second.ensures ∙ ap is_second (sym held) in
    let y : state_of c.act.new.parts ≡ own_part (rule_in q) q (is_second h) s.second =
    c.act.ensures.state ∙ ap (λ v. core_done q (move_had v false q t.now t.sched t.work t.core) t) holds ∙ own_done q (is_second h) t c.requires.wants
    ∙ ap (own_part (rule_in q) q (is_second h)) (sym same) in
    let traps = ap (λ (z : MachineState). is_some z.trapped) (sym y) ∙ sym c.is_some.ensures ∙ c.if-is_some.true in
    let now : old.first.now - 1 ≡ s.first.now = omega (arith, own.time) in
    ap (λ n. paired (with_now x n) (state_of c.act.new.parts) old.holder) now
    ∙ ap (λ v. paired (with_now x s.first.now) v old.holder) y
    ∙ ap (paired (with_now x s.first.now) (own_part (rule_in q) q (is_second h) s.second)) (sym held)
    ∙ sym (catch_stops (rule_in p) (rule_in q) p q c.args.requests.now s x apart own traps)

pub returns-clause-state : goal.returns-clause-state
returns-clause-state g c = λ p s same held apart own.
    let old = c.args.self.now in
    let q = setup_in c.args.second.now in
    let h = s.holder in
    let t = state_of old.second in
    let x = state_of old.first in
    let holds = c.is_second.ensures ∙ ap is_second (sym held) in
    let y : state_of c.act.new.parts ≡ own_part (rule_in q) q (is_second h) s.second =
    c.act.ensures.state ∙ ap (λ v. core_done q (move_had v false q t.now t.sched t.work t.core) t) holds ∙ own_done q (is_second h) t c.requires.wants
    ∙ ap (own_part (rule_in q) q (is_second h)) (sym same) in
    let none = ap (λ (z : MachineState). is_some z.trapped) (sym y) ∙ sym c.is_some.ensures ∙ c.if-is_some.false in
    let z : state_of c.tick.new.parts ≡ own_cycle (rule_in q) q (is_second h) s.second = c.tick.ensures.state ∙ ap next_cycle y in
    let holder = c.holder_after-self.ensures old.first.core.debt c.tick.new.parts.core.debt ∙ ap (λ v. holder_after v x.core (state_of c.tick.new.parts).core false) (sym held)
    ∙ ap (λ (v : MachineState). holder_after h x.core v.core false) z in
    ap (paired x (state_of c.tick.new.parts)) holder
    ∙ ap (λ v. paired x v (holder_after h x.core (own_cycle (rule_in q) q (is_second h) s.second).core false)) z
    ∙ sym (catch_goes (rule_in p) (rule_in q) p q c.args.requests.now s x apart own none)
