use Rattle.std.proofs.Common.{◌≡◌, ◌+◌, None, ap, sym, ◌∙◌, subst, arith}
use Rattle.std.specs.Prelude.{is_some, ◌&&◌}
use Rattle.prem_pair.proofs.Prelude.{arrivals_at, next_cycle, MachineState, rule_in, GatesState, BusTurn, state_of, setup_in, bus_in, holder_in, pair_of, ended_in_place, first_acted}
use Rattle.prem_pair.proofs.Prelude.{second_acted, pair_cycle, holder_after, is_first, is_second, Arrives}
use Rattle.prem_pair.proofs.Cycling.{first_is, second_is, cycle_traps, cycle_goes, same_pair, after_free, bus_frees}
use Rattle.prem_pair.proofs.both.Both.cycle.Goals.{then-turn, else-turn, then-turn-2, else-turn-2}
use Rattle.prem_pair.proofs.both.Both.cycle.Goals as goal

pub returns-then-is_some-2-clause-state : goal.returns-then-is_some-2-clause-state
returns-then-is_some-2-clause-state g c =
    let s = pair_of c.args.self.now in
    let rs = c.args.requests.now in
    let p = setup_in c.args.first.now in
    let q = setup_in c.args.second.now in
    let h = holder_in rs s in
    let b = bus_in rs s in
    let turn = ap (λ (t : BusTurn). t.core) c.meet-turn.ensures.turn in
    let holds : c.is_first-holds.result ≡ is_first h = c.is_first-holds.ensures ∙ ap is_first c.meet-turn.ensures.holder in
    let holds2 : c.is_second-holds.result ≡ is_second h = c.is_second-holds.ensures ∙ ap is_second c.meet-turn.ensures.holder in
    let had : c.if-turn.act ≡ (c.meet-turn.result.core && c.is_first-holds.result) = elim c.if-turn.branch [
      | then-turn w ↦ w.act-is ∙ sym (ap (λ v. v && c.is_first-holds.result) w.if-turn.true)
      | else-turn w ↦ w.act-is ∙ w.if-turn.false ∙ sym (ap (λ v. v && c.is_first-holds.result) w.if-turn.false)
    ] in
    let had2 : c.if-turn-2.act ≡ (c.meet-turn.result.core && c.is_second-holds.result) = elim c.if-turn-2.branch [
      | then-turn-2 w ↦ w.act-is ∙ sym (ap (λ v. v && c.is_second-holds.result) w.if-turn-2.true)
      | else-turn-2 w ↦ w.act-is ∙ w.if-turn-2.false ∙ sym (ap (λ v. v && c.is_second-holds.result) w.if-turn-2.false)
    ] in
    let f = first_is p h (arrivals_at rs s.first) b s (state_of c.meet-turn.new.self.first) (state_of c.act.new.parts) c.is_first-holds.result c.if-turn.act c.meet-turn.ensures.first holds
    (had ∙ ap (λ v. v && c.is_first-holds.result) turn ∙ ap (λ v. b.turn.core && v) holds) c.act.ensures.state in
    let g = second_is q h b s (state_of c.meet-turn.new.self.second) (state_of c.act-2.new.parts) c.is_second-holds.result c.if-turn-2.act (ap state_of c.meet-turn.ensures.second) holds2
    (had2 ∙ ap (λ v. v && c.is_second-holds.result) turn ∙ ap (λ v. b.turn.core && v) holds2) c.act-2.ensures.state in
    let none = ap (λ (x : MachineState). is_some x.trapped) (sym f) ∙ sym c.is_some.ensures ∙ c.if-is_some.false in
    let some = ap (λ (x : MachineState). is_some x.trapped) (sym g) ∙ sym c.is_some-2.ensures ∙ c.if-is_some-2.true in
    same_pair (state_of c.end_in_place.new.parts) (ended_in_place (first_acted (rule_in p) p h (arrivals_at rs s.first) b s))
    (state_of c.act-2.new.parts) (second_acted (rule_in q) q h b s) c.meet-turn.new.self.holder h
    (λ x. x ≡ pair_cycle (rule_in p) (rule_in q) p q rs s) (c.end_in_place.ensures.state ∙ ap ended_in_place f) g c.meet-turn.ensures.holder
    (cycle_traps p q rs s none some)

pub returns-clause-state : goal.returns-clause-state
returns-clause-state g c =
    let s = pair_of c.args.self.now in
    let rs = c.args.requests.now in
    let p = setup_in c.args.first.now in
    let q = setup_in c.args.second.now in
    let h = holder_in rs s in
    let b = bus_in rs s in
    let turn = ap (λ (t : BusTurn). t.core) c.meet-turn.ensures.turn in
    let holds : c.is_first-holds.result ≡ is_first h = c.is_first-holds.ensures ∙ ap is_first c.meet-turn.ensures.holder in
    let holds2 : c.is_second-holds.result ≡ is_second h = c.is_second-holds.ensures ∙ ap is_second c.meet-turn.ensures.holder in
    let had : c.if-turn.act ≡ (c.meet-turn.result.core && c.is_first-holds.result) = elim c.if-turn.branch [
      | then-turn w ↦ w.act-is ∙ sym (ap (λ v. v && c.is_first-holds.result) w.if-turn.true)
      | else-turn w ↦ w.act-is ∙ w.if-turn.false ∙ sym (ap (λ v. v && c.is_first-holds.result) w.if-turn.false)
    ] in
    let had2 : c.if-turn-2.act ≡ (c.meet-turn.result.core && c.is_second-holds.result) = elim c.if-turn-2.branch [
      | then-turn-2 w ↦ w.act-is ∙ sym (ap (λ v. v && c.is_second-holds.result) w.if-turn-2.true)
      | else-turn-2 w ↦ w.act-is ∙ w.if-turn-2.false ∙ sym (ap (λ v. v && c.is_second-holds.result) w.if-turn-2.false)
    ] in
    let f = first_is p h (arrivals_at rs s.first) b s (state_of c.meet-turn.new.self.first) (state_of c.act.new.parts) c.is_first-holds.result c.if-turn.act c.meet-turn.ensures.first holds
    (had ∙ ap (λ v. v && c.is_first-holds.result) turn ∙ ap (λ v. b.turn.core && v) holds) c.act.ensures.state in
    let g = second_is q h b s (state_of c.meet-turn.new.self.second) (state_of c.act-2.new.parts) c.is_second-holds.result c.if-turn-2.act (ap state_of c.meet-turn.ensures.second) holds2
    (had2 ∙ ap (λ v. v && c.is_second-holds.result) turn ∙ ap (λ v. b.turn.core && v) holds2) c.act-2.ensures.state in
    let none = ap (λ (x : MachineState). is_some x.trapped) (sym f) ∙ sym c.is_some.ensures ∙ c.if-is_some.false in
    let none2 = ap (λ (x : MachineState). is_some x.trapped) (sym g) ∙ sym c.is_some-2.ensures ∙ c.if-is_some-2.false in
    let one = c.tick.ensures.state ∙ ap next_cycle f in
    let two = c.tick-2.ensures.state ∙ ap next_cycle g in
    let ended = c.is_some-3.ensures ∙ ap (λ (t : BusTurn). is_some t.ended) c.meet-turn.ensures.turn in
    let holder = c.holder_after-self.ensures c.tick.new.parts.core.debt c.tick-2.new.parts.core.debt
    ∙ ap (λ v. holder_after v (state_of c.tick.new.parts).core (state_of c.tick-2.new.parts).core c.is_some-3.result) c.meet-turn.ensures.holder
    ∙ ap (λ (x : MachineState). holder_after h x.core (state_of c.tick-2.new.parts).core c.is_some-3.result) one
    ∙ ap (λ (x : MachineState). holder_after h (next_cycle (first_acted (rule_in p) p h (arrivals_at rs s.first) b s)).core x.core c.is_some-3.result) two
    ∙ ap (λ v. holder_after h (next_cycle (first_acted (rule_in p) p h (arrivals_at rs s.first) b s)).core (next_cycle (second_acted (rule_in q) q h b s)).core v) ended in
    same_pair (state_of c.tick.new.parts) (next_cycle (first_acted (rule_in p) p h (arrivals_at rs s.first) b s)) (state_of c.tick-2.new.parts)
    (next_cycle (second_acted (rule_in q) q h b s)) c.holder_after-self.result
    (holder_after h (next_cycle (first_acted (rule_in p) p h (arrivals_at rs s.first) b s)).core (next_cycle (second_acted (rule_in q) q h b s)).core (is_some b.turn.ended))
    (λ x. x ≡ pair_cycle (rule_in p) (rule_in q) p q rs s) one two holder (cycle_goes p q rs s none none2)

pub returns-clause-goes : goal.returns-clause-goes
returns-clause-goes g c = λ none.
    let s = pair_of c.args.self.now in
    let rs = c.args.requests.now in
    let b = bus_in rs s in
    let next = c.tick.ensures.now in
    let same = c.act.ensures.now in
    let met = c.meet-turn.ensures.now in
    let at : c.args.self.now.first.now + 1 ≡ c.tick.new.parts.now = omega (arith, next, same, met) in
    let gates = ap (λ (x : MachineState). x.gates) c.meet-turn.ensures.first in
    record {
      first = c.tick.ensures.goes;
      second = c.tick-2.ensures.goes;
      arrives = subst (λ n. Arrives n rs c.tick.new.parts) at
          (c.tick.ensures.arrives (c.args.self.now.first.now + 1) (c.act.ensures.arrives (c.args.self.now.first.now + 1) c.meet-turn.ensures.arrives));
      free = λ ne.
          ap (λ (x : GatesState). x.carried) (c.tick.ensures.gates ∙ c.act.ensures.gates)
          ∙ after_free c.meet-turn.new.self.holder (state_of c.tick.new.parts).core (state_of c.tick-2.new.parts).core c.is_some-3.result (c.meet-turn.new.self.first.gates.carried ≡ None)
          (λ e. ne (c.holder_after-self.ensures c.tick.new.parts.core.debt c.tick-2.new.parts.core.debt ∙ e)) c.meet-turn.ensures.free
          (λ over. ap (λ (x : GatesState). x.carried) gates
          ∙ bus_frees rs s (ap (λ (t : BusTurn). is_some t.ended) (sym c.meet-turn.ensures.turn) ∙ sym c.is_some-3.ensures ∙ over));
    }
