use Rattle.std.proofs.Common.{◌≡◌, ◌≤◌, ℕ, All, List, length, ap, sym, ◌∙◌, subst}
use Rattle.prem_cycle.specs.FactsOf.{Report}
use Rattle.prem_machine.specs.Deliveries.{HaltsBy, RunsSilently}
use Rattle.prem_machine.specs.declared.machine.deliveries.DeliveryHalt.TheVariants.{Wants}
use Rattle.prem_mail.specs.Gliding.{GoesBy, TellsNext, awaited, machine_in}
use Rattle.prem_mail.specs.Mailing.{Mailing}
use Rattle.prem_mail.proofs.Gliding.{glides, wants_there}
use Rattle.prem_mail.proofs.mail.Mail.glide.Goals as goal

pub receive-requires : goal.receive-requires
receive-requires g c =
    let m = c.self.inside in
    let long : length m.machine.state.log.transfers ≡ length c.items-before.result.now =
    sym (ap length (c.items-before.ensures ∙ ap (λ (r : Report). r.transfers) c.facts.ensures)) in
    let few : All (λ n. n ≤ length c.items-before.result.now) m.lost.items = subst (λ i. All (λ n. n ≤ i) m.lost.items) long c.self.invariant.few in
    let lost : m.lost.items ≡ c.advance-halt.new.self.mailed.mail.lost =
    ap (λ (y : Mailing). y.mailed.mail.lost) c.self.view_is ∙ sym (ap (λ (y : Mailing). y.mailed.mail.lost) c.advance-halt.ensures.kept) in
    record { few = subst (λ (ls : List ℕ). All (λ n. n ≤ length c.items-before.result.now) ls) lost few }

pub returns-in-Wants-clause-by : goal.returns-in-Wants-clause-by
returns-in-Wants-clause-by g c =
    let x : Mailing = c.args.self.now in
    let y : Mailing = c.advance-halt.new.self in
    let before = length c.items-before.result.now in
    let count : before ≡ length x.mailed.state.log.transfers =
    ap length (c.items-before.ensures ∙ ap (λ (r : Report). r.transfers) c.facts.ensures) ∙ ap (λ (v : Mailing). length v.mailed.state.log.transfers) c.self.view_is in
    let until : c.awaited-transfers.result ≡ awaited x.feeds before =
    c.awaited-transfers.ensures ∙ ap (λ fs. awaited fs before) c.deref.ensures.value ∙ ap (λ (v : Mailing). awaited v.feeds before) c.self.view_is in
    let R : ℕ → Type 0 = λ n. RunsSilently c.args.limit n (machine_in x) (machine_in y) in
    glides c.args.limit before x y c.receive.new.self count (subst R until c.advance-halt.ensures.runs) c.advance-halt.ensures.kept c.receive.ensures

pub returns-in-Wants-clause-next : goal.returns-in-Wants-clause-next
returns-in-Wants-clause-next g c =
    let x : Mailing = c.args.self.now in
    let y : Mailing = c.advance-halt.new.self in
    let before = length c.items-before.result.now in
    let until : c.awaited-transfers.result ≡ awaited x.feeds before =
    c.awaited-transfers.ensures ∙ ap (λ fs. awaited fs before) c.deref.ensures.value ∙ ap (λ (v : Mailing). awaited v.feeds before) c.self.view_is in
    let H : ℕ → Type 0 = λ n. HaltsBy c.args.limit n (machine_in y) (Wants c.in-Wants.task) in
    wants_there c.args.limit before c.in-Wants.task x y c.receive.new.self c.advance-halt.ensures.kept (subst H until c.in-Wants.ensures.halts) c.receive.ensures

pub returns-in-Stops : goal.returns-in-Stops
returns-in-Stops g c =
    let x : Mailing = c.args.self.now in
    let y : Mailing = c.advance-halt.new.self in
    let before = length c.items-before.result.now in
    let count : before ≡ length x.mailed.state.log.transfers =
    ap length (c.items-before.ensures ∙ ap (λ (r : Report). r.transfers) c.facts.ensures) ∙ ap (λ (v : Mailing). length v.mailed.state.log.transfers) c.self.view_is in
    let until : c.awaited-transfers.result ≡ awaited x.feeds before =
    c.awaited-transfers.ensures ∙ ap (λ fs. awaited fs before) c.deref.ensures.value ∙ ap (λ (v : Mailing). awaited v.feeds before) c.self.view_is in
    let R : ℕ → Type 0 = λ n. RunsSilently c.args.limit n (machine_in x) (machine_in y) in
    let G : Mailing → Type 0 = λ m. GoesBy c.args.limit x m in
    let T : Mailing → Type 0 = λ m. TellsNext c.args.limit m c.next.result in
    record {
      by = subst G (sym c.next.ensures.same) (glides c.args.limit before x y c.receive.new.self count (subst R until c.advance-halt.ensures.runs) c.advance-halt.ensures.kept c.receive.ensures);
      next = subst T (sym c.next.ensures.same) c.next.ensures.next;
    }
