use Rattle.std.specs.Prelude.{IfOk, None}
use Rattle.std.proofs.Common.{◌≡◌, subst}
use Rattle.prem_list.specs.Sequence.{items_of}
use Rattle.prem_tasks.specs.SetOf.{set_of}
use Rattle.prem_compile.specs.CompiledOf.{compiled_of}
use Rattle.prem_answer.specs.Stages.{reply_of}
use Rattle.prem_exec.specs.Sources.Sources.{input_of}
use Rattle.prem_running.specs.Running.{run_limit}
use Rattle.prem_chart.specs.Asked.{asked_in}
use Rattle.prem_chart.specs.Answer.{image_chart, promised}
use Rattle.prem_chart.proofs.Asking.{reply_same}
use Rattle.prem_chart.proofs.answer.DrawingTeller.tell.Goals as goal

pub returns : goal.returns
returns g c =
    let asked = c.args.self.now.asked.now in
    let set = set_of c.args.set.now in
    let compiled = compiled_of c.args.compiled.now in
    let picture = image_chart (asked_in asked).chart compiled.image (input_of c.args.input.now) (promised set (asked_in asked).distances) (run_limit None compiled.limit) in
    let is = reply_same c.deref.result.now asked.distances.items c.devices.result.now set.devices c.items.result.now (items_of c.args.input.now.requests) picture
    c.deref.ensures.value c.devices.ensures.devices c.items.ensures in
    subst (λ x. IfOk c.picture_answer.result (λ a. reply_of a ≡ x)) is c.picture_answer.ensures
