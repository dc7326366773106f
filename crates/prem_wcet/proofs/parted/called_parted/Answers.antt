use Rattle.std.proofs.Common.{sym, ◌∙◌}
use Rattle.prem_wcet_laws.specs.Scopes.{fact_of}
use Rattle.prem_wcet.specs.SceneOf.{scene_in}
use Rattle.prem_wcet.proofs.MarkedFaces.{called_marked, called_other}
use Rattle.prem_wcet.proofs.parted.called_parted.Goals as goal

pub returns-in-Some : goal.returns-in-Some
returns-in-Some c =
    let e = scene_in c.args.scene.now in
    c.marked_count.ensures ∙ called_marked c.args.scene.now.plant.now c.args.scene.now.faces.now c.args.f c.in-Some.stated (fact_of e c.args.f).parted (sym c.stated_of.ensures ∙ c.in-Some.is)

pub returns-in-None : goal.returns-in-None
returns-in-None c =
    let e = scene_in c.args.scene.now in
    c.fact_parted.ensures ∙ called_other c.args.scene.now.plant.now c.args.scene.now.faces.now c.args.f (fact_of e c.args.f).parted (sym c.stated_of.ensures ∙ c.in-None.is)
