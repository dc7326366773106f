use Rattle.std.specs.Prelude.{is_some, slice_get}
use Rattle.std.proofs.Common.{◌≡◌, ◌≤◌, ◌+◌, ℕ, All, List, length, ap, sym, ◌∙◌, subst, Option}
use Rattle.prem_gate.specs.declared.bus.Transfer.{Transfer}
use Rattle.prem_cycle.specs.declared.state.Trap.{Trap}
use Rattle.prem_cycle.specs.Cycle.{is_over}
use Rattle.prem_cycle.specs.FactsOf.{Report}
use Rattle.prem_mail.specs.Mailing.{Mailing}
use Rattle.prem_mail.proofs.Stepping.{supplied_over, supplied_now, supplied_lost, received_now, received_trapped}
use Rattle.prem_mail.proofs.mail.Mail.step.Goals as goal

pub cycle-requires-clause-going : goal.cycle-requires-clause-going
cycle-requires-clause-going g c =
    let x : Mailing = c.args.self.now in
    ap (λ (y : Mailing). is_over y.mailed.state) c.supply.ensures ∙ supplied_over c.args.wanted x.mailed ∙ c.requires.going

pub receive-requires : goal.receive-requires
receive-requires g c =
    let x : Mailing = c.args.self.now in
    let m = c.self.inside in
    let long : length m.machine.state.log.transfers ≡ length c.items-before.result.now =
    sym (ap (λ (ts : List Transfer). length ts) (c.items-before.ensures ∙ ap (λ (r : Report). r.transfers) c.facts.ensures)) in
    let few : All (λ n. n ≤ length c.items-before.result.now) m.lost.items = subst (λ i. All (λ n. n ≤ i) m.lost.items) long c.self.invariant.few in
    let lost : m.lost.items ≡ c.cycle.new.self.mailed.mail.lost =
    ap (λ (y : Mailing). y.mailed.mail.lost) c.self.view_is
    ∙ sym (ap (λ (y : Mailing). y.mailed.mail.lost) c.cycle.ensures.new ∙ ap (λ (y : Mailing). y.mailed.mail.lost) c.supply.ensures ∙ supplied_lost c.args.wanted x.mailed) in
    record { few = subst (λ (ls : List ℕ). All (λ n. n ≤ length c.items-before.result.now) ls) lost few }

pub returns-clause-goes_on : goal.returns-clause-goes_on
returns-clause-goes_on g c none =
    let x : Mailing = c.args.self.now in
    let y : Mailing = c.cycle.new.self in
    let o : Option Transfer = slice_get y.mailed.state.log.transfers (length c.items-before.result.now) in
    ap (λ (z : Mailing). z.mailed.state.now) c.receive.ensures ∙ received_now y.feeds o y.mailed
    ∙ c.cycle.ensures.goes_on (sym (ap (λ (z : Mailing). z.mailed.state.trapped) c.receive.ensures ∙ received_trapped y.feeds o y.mailed) ∙ none)
    ∙ ap (λ (z : Mailing). z.mailed.state.now + 1) c.supply.ensures ∙ ap (λ n. n + 1) (supplied_now c.args.wanted x.mailed)

pub returns-clause-stops : goal.returns-clause-stops
returns-clause-stops g c some =
    let x : Mailing = c.args.self.now in
    let y : Mailing = c.cycle.new.self in
    let o : Option Transfer = slice_get y.mailed.state.log.transfers (length c.items-before.result.now) in
    ap (λ (z : Mailing). z.mailed.state.now) c.receive.ensures ∙ received_now y.feeds o y.mailed
    ∙ c.cycle.ensures.stops (sym (ap (λ (t : Option Trap). is_some t) (ap (λ (z : Mailing). z.mailed.state.trapped) c.receive.ensures ∙ received_trapped y.feeds o y.mailed)) ∙ some)
    ∙ ap (λ (z : Mailing). z.mailed.state.now) c.supply.ensures ∙ supplied_now c.args.wanted x.mailed
