use Rattle.std.proofs.Common.{◌≡◌, ℕ, ◌-◌, [], false, ap, sym, ◌∙◌, subst, refl}
use Rattle.prem_pair.proofs.Prelude.{owed_by, Debt, no_debt, Stay, rooms_there, has_room, CoreParts, core_owing, core_with, GoesOn}
use Rattle.prem_pair.proofs.Owning.{hit_core, issues_own, kept_goes}
use Rattle.prem_pair.proofs.apart.issue_own.Goals as goal

pub issue_plain-requires-clause-room : goal.issue_plain-requires-clause-room
issue_plain-requires-clause-room g c = (rooms_there c.args.setting.now c.args.requests.now c.args.parts.now c.requires.stands c.requires.room c.requires.intervals).0

pub returns-then-plain-clause-own : goal.returns-then-plain-clause-own
returns-then-plain-clause-own g c = λ holds.
    let x = c.args.parts.now in
    let p = c.args.setting.now in
    let r = c.requires in
    let new = c.issue_plain.new in
    let plain = c.in-Some.plain in
    let e = c.in-Some.ensures in
    let G : ℕ → Type 0 = λ k. GoesOn p k x.work x.facts new.work new.facts plain.touches plain.cost in
    let debt : c.owe.new.self.debt ≡ record no_debt { cost = plain.cost - 1 } = ap (λ (k : CoreParts). k.debt) c.owe.ensures ∙ c.cost_alone.ensures in
    let core = ap (λ (d : Debt). core_with d x.moment) debt ∙ hit_core x c.args.task plain.cost r.going in
    issues_own p holds x new.work new.facts x.moment c.owe.new.self c.args.task plain.cost plain.touches [] r.going r.paid r.trapped
    (has_room p c.args.requests.now x r.stands r.room r.intervals) (subst G c.from-k.ensures e.goes_on) (e.hit c.if-plain.true p.plant) e.kept core

pub returns-then-plain-clause-goes : goal.returns-then-plain-clause-goes
returns-then-plain-clause-goes g c =
    let x = c.args.parts.now in
    let new = c.issue_plain.new in
    kept_goes x new.work new.facts x.moment c.owe.new.self c.requires.stands.periods c.requires.goes c.in-Some.ensures.kept refl refl

pub returns-clause-own : goal.returns-clause-own
returns-clause-own g c = λ holds.
    let x = c.args.parts.now in
    let p = c.args.setting.now in
    let r = c.requires in
    let new = c.issue_plain.new in
    let plain = c.in-Some.plain in
    let e = c.in-Some.ensures in
    let owed = c.owed_for-owed.ensures in
    let G : ℕ → Type 0 = λ k. GoesOn p k x.work x.facts new.work new.facts plain.touches plain.cost in
    let debt : c.owe-2.new.self.debt ≡ record { transactions = owed_by p.plant plain.touches; begun = false; cost = plain.cost - 1 } =
    ap (λ (k : CoreParts). k.debt) c.owe-2.ensures ∙ (λ i. record { transactions = owed.transactions i; begun = owed.begun i; cost = owed.cost i }) in
    let core = c.issued-parts.ensures.core c.owe-2.new.self.debt x.core.debt
    ∙ ap (λ (d : Debt). core_owing x.now c.args.task x.moment.interval Stay d (core_with x.core.debt x.moment)) debt in
    issues_own p holds x new.work new.facts c.issued-parts.result c.owe-2.new.self c.args.task plain.cost plain.touches (owed_by p.plant plain.touches) r.going r.paid r.trapped
    (has_room p c.args.requests.now x r.stands r.room r.intervals) (subst G c.from-k.ensures e.goes_on) refl e.kept core

pub returns-clause-goes : goal.returns-clause-goes
returns-clause-goes g c =
    let x = c.args.parts.now in
    let new = c.issue_plain.new in
    kept_goes x new.work new.facts c.issued-parts.result c.owe-2.new.self c.requires.stands.periods c.requires.goes c.in-Some.ensures.kept
    (c.issued-parts.ensures.mode ∙ sym c.requires.going.mode) c.issued-parts.ensures.interval
