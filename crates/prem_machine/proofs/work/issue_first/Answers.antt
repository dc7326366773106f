use Rattle.std.proofs.Common.{◌≡◌, ◌+◌, ◌-◌, ℕ, Option, None, false, ap, sym, ◌∙◌, subst}
use Rattle.prem_machine.proofs.Prelude.{CoreTurn, core_issued, owed_by, Debt, Facts, Stay, items_of, CoreParts, counts_in, CountsWithin, log_in, core_owing, core_with, GoesOn, turn_of_issue}
use Rattle.prem_machine.proofs.Prelude.{with_counts, work_in, Plain, IfNone}
use Rattle.prem_machine.proofs.work.issue_first.Goals as goal

-- ---- where it goes on

turn_is : (g : _) (c : goal.After-issued g) →
    turn_of_issue c.args.setting.now c.args.now c.args.task c.args.interval (core_with c.args.core.now.debt c.args.moment.now) c.args.work.now c.args.facts.now
    ≡ record {
      work = work_in c.issue_plain.new.work (items_of c.issue_plain.new.facts.tasks);
      core = core_issued c.args.now c.args.task c.args.interval Stay c.in-Some.plain.cost (owed_by c.args.setting.now.plant c.in-Some.plain.touches) (core_with c.args.core.now.debt c.args.moment.now);
      counts = counts_in c.issue_plain.new.facts;
      trapped = None;
    }
turn_is g c =
    let new = c.issue_plain.new in
    let plain = c.in-Some.plain in
    let G : ℕ → Type 0 = λ k. GoesOn c.args.setting.now k c.args.work.now c.args.facts.now new.work new.facts plain.touches plain.cost in
    subst G c.from.ensures c.in-Some.ensures.goes_on c.args.now c.args.interval (core_with c.args.core.now.debt c.args.moment.now)

pub returns-in-Some-clause-work : goal.returns-in-Some-clause-work
returns-in-Some-clause-work g c = sym (ap (λ (t : CoreTurn). t.work) (turn_is g c))

pub returns-in-Some-clause-core : goal.returns-in-Some-clause-core
returns-in-Some-clause-core g c =
    let plain = c.in-Some.plain in
    let owed = c.owed_for.ensures in
    let before = core_with c.args.core.now.debt c.args.moment.now in
    let debt : c.owe.new.self.debt ≡ record { transactions = owed_by c.args.setting.now.plant plain.touches; begun = false; cost = plain.cost - 1 } =
    ap (λ (k : CoreParts). k.debt) c.owe.ensures ∙ (λ i. record { transactions = owed.transactions i; begun = owed.begun i; cost = owed.cost i }) in
    c.issued.ensures.core c.owe.new.self.debt c.args.core.now.debt
    ∙ ap (λ (d : Debt). core_owing c.args.now c.args.task c.args.interval Stay d before) debt
    ∙ sym (ap (λ (t : CoreTurn). t.core) (turn_is g c))

pub returns-in-Some-clause-log : goal.returns-in-Some-clause-log
returns-in-Some-clause-log g c =
    c.in-Some.ensures.kept.log ∙ sym (ap (λ (t : CoreTurn). with_counts t.counts (log_in c.args.facts.now)) (turn_is g c))

pub returns-in-Some-clause-trapped : goal.returns-in-Some-clause-trapped
returns-in-Some-clause-trapped g c = sym (ap (λ (t : CoreTurn). t.trapped) (turn_is g c))

-- ---- where nothing has changed so far

same : (g : _) (c : goal.After-issue g) → (c.issue_plain.new.work ≡ c.args.work.now) × (c.issue_plain.new.facts ≡ c.args.facts.now)
same g c =
    let new = c.issue_plain.new in
    let N : Option Plain → Type 0 = λ o. IfNone o ((new.work ≡ c.args.work.now) × (new.facts ≡ c.args.facts.now)) in
    subst N c.in_default.is c.issue_plain.ensures.none

turn_stays : (g : _) (c : goal.After-issue g) →
    turn_of_issue c.args.setting.now c.args.now c.args.task c.args.interval (core_with c.args.core.now.debt c.args.moment.now) c.issue_plain.new.work c.issue_plain.new.facts
    ≡ turn_of_issue c.args.setting.now c.args.now c.args.task c.args.interval (core_with c.args.core.now.debt c.args.moment.now) c.args.work.now c.args.facts.now
turn_stays g c =
    let p = c.args.setting.now in
    let a = c.args in
    let before = core_with a.core.now.debt a.moment.now in
    ap (λ w. turn_of_issue p a.now a.task a.interval before w c.issue_plain.new.facts) (same g c).0
    ∙ ap (λ (f : Facts). turn_of_issue p a.now a.task a.interval before a.work.now f) (same g c).1

pub returns-clause-work : goal.returns-clause-work
returns-clause-work g c = c.issue.ensures.work ∙ ap (λ (t : CoreTurn). t.work) (turn_stays g c)

pub returns-clause-core : goal.returns-clause-core
returns-clause-core g c = c.issue.ensures.core ∙ ap (λ (t : CoreTurn). t.core) (turn_stays g c)

pub returns-clause-log : goal.returns-clause-log
returns-clause-log g c =
    c.issue.ensures.log ∙ ap (λ (t : CoreTurn). with_counts t.counts (log_in c.issue_plain.new.facts)) (turn_stays g c)
    ∙ ap (λ (f : Facts). with_counts
    (turn_of_issue c.args.setting.now c.args.now c.args.task c.args.interval (core_with c.args.core.now.debt c.args.moment.now)
    c.args.work.now c.args.facts.now).counts (log_in f)) (same g c).1

pub returns-clause-trapped : goal.returns-clause-trapped
returns-clause-trapped g c = c.issue.ensures.trapped ∙ ap (λ (t : CoreTurn). t.trapped) (turn_stays g c)

pub returns-clause-counts : goal.returns-clause-counts
returns-clause-counts g c =
    let C : Facts → Type 0 = λ f. (n : ℕ) → CountsWithin n (counts_in f) → CountsWithin (n + 2) (counts_in c.issue.new.facts) in
    subst C (same g c).1 c.issue.ensures.counts
