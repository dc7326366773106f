use Rattle.std.proofs.Common.{◌≡◌, ◌-◌, ◌*◌, ◌≤◌, ap, sym, ◌∙◌, subst, arith}
use Rattle.prem_pair.proofs.Prelude.{Within, MachineState, rule_in, GatesState, No, core_within, less_arrive, behind_within, state_of, setup_in, pair_of, OwnRun, pair_cycles, rest_with}
use Rattle.prem_pair.proofs.Prelude.{side_passed, is_second, Arrives, Goes}
use Rattle.prem_pair.proofs.CyclesLemmas.OneCycle.{paired}
use Rattle.prem_pair.proofs.Passes.{arrives_later, steady_pair}
use Rattle.prem_pair.proofs.Stretched.{apart_second}
use Rattle.prem_pair.proofs.both.Both.second_runs.Goals as goal

pub returns-clause-state : goal.returns-clause-state
returns-clause-state g c =
    let x = c.args.self.now in
    let s = pair_of x in
    let p = setup_in c.args.first.now in
    let q = setup_in c.args.second.now in
    let r = c.requires in
    let now = x.first.now in
    let at = c.run_own.new.parts.now in
    let n = at - now in
    let most = behind_within now c.args.until c.rest_with-rest.result r.may.from in
    let bound = c.cycle_behind-until.ensures in
    let rest = c.rest_with-rest.ensures ∙ ap (λ b. rest_with b s.first) c.is_first-holds.ensures in
    let rests = subst (λ o. Within n o) rest (core_within now n c.args.until c.rest_with-rest.result r.may.from (omega (arith, c.run_own.ensures.within, bound))) in
    let same : at - x.second.now ≡ n = ap (λ k. at - k) r.stands.same_now in
    let passed : n ≡ c.pass_with.new.parts.now - now = ap (λ k. k - now) (sym c.pass_with.ensures.now) in
    let first = c.pass_with.ensures.state ∙ ap (λ b. side_passed b n s.first) c.is_first-holds.ensures in
    let own = subst (λ k. OwnRun (rule_in q) q (is_second x.holder) No s.second k (state_of c.run_own.new.parts)) same (c.run_own.ensures.own (is_second x.holder)) in
    ap (λ (v : MachineState). paired v (state_of c.run_own.new.parts) x.holder) first
    ∙ apart_second (rule_in p) (rule_in q) p q c.args.requests.now n c.args.until c.args.task s (state_of c.run_own.new.parts)
    (steady_pair c.args.first.now c.args.second.now c.args.requests.now x r.stands r.goes r.over) r.may r.going (omega (arith, c.run_own.ensures.within, bound, most)) rests own
    ∙ ap (λ k. pair_cycles (rule_in p) (rule_in q) p q c.args.requests.now k s) passed

pub returns-clause-goes : goal.returns-clause-goes
returns-clause-goes g c =
    let x = c.args.self.now in
    let r = c.requires in
    let now = x.first.now in
    let at = c.run_own.new.parts.now in
    let most = behind_within now c.args.until c.rest_with-rest.result r.may.from in
    let bound = c.cycle_behind-until.ensures in
    let from : now ≤ at = omega (arith, c.run_own.ensures.from, r.stands.same_now) in
    let none = less_arrive (at - now) (c.args.until - now) now c.args.requests.now (omega (arith, c.run_own.ensures.within, bound, most)) r.may.arrivals in
    record {
      first = subst (λ k. Goes (4 * k) c.pass_with.new.parts) (sym c.pass_with.ensures.now) c.pass_with.ensures.goes;
      second = c.run_own.ensures.goes;
      arrives = subst (λ k. Arrives k c.args.requests.now c.pass_with.new.parts) (sym c.pass_with.ensures.now)
          (c.pass_with.ensures.arrives (arrives_later c.args.requests.now x.first at r.goes.arrives from none));
      free = λ ne. ap (λ (k : GatesState). k.carried) c.pass_with.ensures.gates ∙ r.goes.free ne;
    }
