use Rattle.std.specs.Prelude.{IfOk}
use Rattle.std.proofs.Common.{◌≡◌, subst}
use Rattle.prem_image.specs.Text.{image_text}
use Rattle.prem_cycle.specs.FactsOf.{report_in}
use Rattle.prem_exec.specs.Sources.Sources.{input_of}
use Rattle.prem_pair_top.specs.Running.{pair_at}
use Rattle.prem_pair_top.proofs.Runs.{told_is}
use Rattle.prem_pair_top.proofs.run.told.Goals as goal

pub returns : goal.returns
returns g c =
    let x = c.args.given.now in
    let i = image_text x.one.now in
    let j = image_text x.two.now in
    let s = pair_at i j (input_of x.input.now) (input_of x.other.now) c.args.limit in
    let first = report_in c.first_facts-first.result.now in
    let second = report_in c.second_facts-second.result.now in
    let told = told_is i j c.args.times c.args.limit s c.in_ok-pair.pair.state c.items.result.now c.items-2.result.now c.items-3.result.now c.now.result first second c.in_ok-pair.stop
    c.in_ok-pair.ensures.state c.items.ensures c.items-2.ensures c.items-3.ensures c.now.ensures c.first_facts-first.ensures c.second_facts-second.ensures c.in_ok-pair.ensures.stop in
    subst (λ t. IfOk c.pair_report.result (λ text. text.items ≡ t)) told c.pair_report.ensures
