use Rattle.std.proofs.Common.{refl, ap, sym, ◌∙◌}
use Rattle.prem_wcet_laws.specs.Scopes.{Fact}
use Rattle.prem_wcet.specs.CountOf.{count_in}
use Rattle.prem_wcet.specs.declared.scene.Fact.{Fact as FactTree}
use Rattle.prem_wcet.proofs.FactRows.{fact_there, fact_none}
use Rattle.prem_wcet.proofs.parted.fact_parted.Goals as goal

pub returns-in-Some : goal.returns-in-Some
returns-in-Some c =
    let l = c.in-Some.ensures.lookup in
    fact_there (λ (x : Fact). x.parted) (λ (x : FactTree). count_in x.parted) (λ x ps. refl) c.args.scene.now.facts.now c.args.scene.now.code.now c.args.f c.in-Some.fact.now c.requires.known l.3.0 l.1

pub returns-in-None : goal.returns-in-None
returns-in-None c = let l = c.in-None.ensures.lookup in c.no_count.ensures ∙ ap (λ (x : Fact). x.parted) (sym (fact_none c.args.scene.now.facts.now c.args.scene.now.code.now c.args.f l.3))
