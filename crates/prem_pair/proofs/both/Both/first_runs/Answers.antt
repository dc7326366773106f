use Rattle.std.proofs.Common.{◌≡◌, ◌-◌, ◌*◌, ap, sym, ◌∙◌, subst, arith}
use Rattle.prem_pair.proofs.Prelude.{Within, MachineState, rule_in, GatesState, core_within, less_arrive, behind_within, state_of, setup_in, pair_of, rest_with, side_passed, is_first}
use Rattle.prem_pair.proofs.Prelude.{is_second, Goes}
use Rattle.prem_pair.proofs.CyclesLemmas.OneCycle.{paired}
use Rattle.prem_pair.proofs.Passes.{arrives_later, steady_pair}
use Rattle.prem_pair.proofs.Stretched.{apart_first}
use Rattle.prem_pair.proofs.both.Both.first_runs.Goals as goal

pub returns-clause-state : goal.returns-clause-state
returns-clause-state g c =
    let x = c.args.self.now in
    let s = pair_of x in
    let p = setup_in c.args.first.now in
    let q = setup_in c.args.second.now in
    let r = c.requires in
    let now = x.first.now in
    let at = c.run_own.new.parts.now in
    let n = at - now in
    let most = behind_within now c.args.until c.rest_with-rest.result r.may.from in
    let bound = c.cycle_behind-until.ensures in
    let rest = c.rest_with-rest.ensures ∙ ap (λ b. rest_with b s.second) c.is_second-holds.ensures in
    let rests = subst (λ o. Within n o) rest (core_within now n c.args.until c.rest_with-rest.result r.may.from (omega (arith, c.run_own.ensures.within, bound))) in
    let same : at - x.second.now ≡ n = ap (λ k. at - k) r.stands.same_now in
    let second = c.pass_with.ensures.state ∙ ap (λ b. side_passed b (at - x.second.now) s.second) c.is_second-holds.ensures ∙ ap (λ k. side_passed (is_second x.holder) k s.second) same in
    ap (λ (v : MachineState). paired (state_of c.run_own.new.parts) v x.holder) second
    ∙ apart_first (rule_in p) (rule_in q) p q c.args.requests.now n c.args.until c.args.task s (state_of c.run_own.new.parts)
    (steady_pair c.args.first.now c.args.second.now c.args.requests.now x r.stands r.goes r.over) r.may r.going
    (omega (arith, c.run_own.ensures.within, bound, most)) rests (c.run_own.ensures.own (is_first x.holder))

pub returns-clause-goes : goal.returns-clause-goes
returns-clause-goes g c =
    let x = c.args.self.now in
    let r = c.requires in
    let now = x.first.now in
    let at = c.run_own.new.parts.now in
    let most = behind_within now c.args.until c.rest_with-rest.result r.may.from in
    let bound = c.cycle_behind-until.ensures in
    let none = less_arrive (at - now) (c.args.until - now) now c.args.requests.now (omega (arith, c.run_own.ensures.within, bound, most)) r.may.arrivals in
    record {
      first = c.run_own.ensures.goes;
      second = subst (λ k. Goes (4 * k) c.pass_with.new.parts) (sym c.pass_with.ensures.now) c.pass_with.ensures.goes;
      arrives = c.run_own.ensures.arrives at (arrives_later c.args.requests.now x.first at r.goes.arrives c.run_own.ensures.from none);
      free = λ ne. ap (λ (k : GatesState). k.carried) c.run_own.ensures.gates ∙ r.goes.free ne;
    }
