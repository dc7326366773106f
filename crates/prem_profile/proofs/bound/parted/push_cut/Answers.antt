use Rattle.std.proofs.Common.{◌++◌, Some, ap, sym, ◌∙◌}
use Rattle.prem_wcet.specs.SceneOf.{plan_stating}
use Rattle.prem_wcet.proofs.Outcomes.{on_more}
use Rattle.prem_profile.specs.Bound.Passages.{marked_call}
use Rattle.prem_profile.specs.Bound.Statements.{call_at}
use Rattle.prem_profile.specs.Bound.Memory.{calls_of, stubs_in}
use Rattle.prem_profile.proofs.BillLemmas.Marked.{called_marked, called_other}
use Rattle.prem_profile.proofs.bound.parted.push_cut.Goals as goal

pub returns-in-Some : goal.returns-in-Some
returns-in-Some c =
    let s = c.args.scene.now in
    let f = c.args.f in
    let at = (stubs_in s c.args.task).places f in
    let n = c.in-Some.stated in
    on_more c.push_marked.result
    (λ told. told
    ∙ ap (λ x. c.args.bill.now.items ++ x)
    (ap (λ k. marked_call s.plant.now c.args.task k (plan_stating (record { frame = 0; stated = Some n }))) c.stub_place.ensures
    ∙ called_marked s.plant.now c.args.task at s.faces.now f n (call_at (calls_of c.args.known.now) f).parted (sym c.stated_of.ensures ∙ c.in-Some.is)))
    c.push_marked.ensures

pub returns-in-None : goal.returns-in-None
returns-in-None c =
    let s = c.args.scene.now in
    let f = c.args.f in
    let at = (stubs_in s c.args.task).places f in
    on_more c.append.result
    (λ told. told
    ∙ ap (λ x. c.args.bill.now.items ++ x)
    (c.parted_at.ensures ∙ called_other s.plant.now c.args.task at s.faces.now f (call_at (calls_of c.args.known.now) f).parted (sym c.stated_of.ensures ∙ c.in-None.is)))
    c.append.ensures
