use Rattle.std.proofs.Common.{refl, ap, ◌∙◌, sym}
use Rattle.prem_wcet_laws.specs.Scopes.{Fact}
use Rattle.prem_wcet.specs.declared.scene.Fact.{Fact as FactTree}
use Rattle.prem_wcet.specs.Once.{with_ranges}
use Rattle.prem_wcet.proofs.FactRows.{fact_there, fact_none}
use Rattle.prem_wcet.proofs.Outcomes.{on_always, on_more}
use Rattle.prem_wcet.proofs.scene.add_callee.Goals as goal

pub returns-in_ok-add_ranges-in-Some-clause-code : goal.returns-in_ok-add_ranges-in-Some-clause-code
returns-in_ok-add_ranges-in-Some-clause-code c =
    let l = c.in-Some.ensures.lookup in
    on_always c.add_ranges-in-Some.result
    (c.in_ok-add_ranges-in-Some.ensures
    ∙ ap (with_ranges c.args.ranges.now.code.items)
    (c.deref.ensures.value ∙ fact_there (λ (x : Fact). x.code) (λ (x : FactTree). x.code.items) (λ x ps. refl)
    c.args.scene.now.facts.now c.args.scene.now.code.now c.args.f c.in-Some.fact.now c.requires.known l.3.0 l.1))

pub returns-in_ok-add_ranges-in-Some-clause-touched : goal.returns-in_ok-add_ranges-in-Some-clause-touched
returns-in_ok-add_ranges-in-Some-clause-touched c =
    let l = c.in-Some.ensures.lookup in
    on_more c.add_ranges-in-Some.result
    (λ e. e ∙ ap (with_ranges c.args.ranges.now.touched.items)
    (c.deref-in-Some.ensures.value
    ∙ fact_there (λ (x : Fact). x.touched) (λ (x : FactTree). x.touched.items) (λ x ps. refl)
    c.args.scene.now.facts.now c.args.scene.now.code.now c.args.f c.in-Some.fact.now c.requires.known l.3.0 l.1))
    c.add_ranges-in-Some.ensures

pub returns-in-None-clause-code : goal.returns-in-None-clause-code
returns-in-None-clause-code c =
    let l = c.in-None.ensures.lookup in
    ap (λ (x : Fact). with_ranges c.args.ranges.now.code.items x.code) (sym (fact_none c.args.scene.now.facts.now c.args.scene.now.code.now c.args.f l.3))

pub returns-in-None-clause-touched : goal.returns-in-None-clause-touched
returns-in-None-clause-touched c =
    let l = c.in-None.ensures.lookup in
    ap (λ (x : Fact). with_ranges c.args.ranges.now.touched.items x.touched) (sym (fact_none c.args.scene.now.facts.now c.args.scene.now.code.now c.args.f l.3))
