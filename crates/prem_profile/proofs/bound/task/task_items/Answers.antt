use Rattle.std.proofs.Common.{◌≡◌, ◌≤◌, ◌^◌, List, ◌∷◌, ap, sym, subst, ◌∙◌}
use Rattle.prem_layout.specs.Bounds.{job_bound_of}
use Rattle.prem_layout.specs.Plans.{Plan}
use Rattle.prem_bounds.specs.TableOf.{table_of}
use Rattle.prem_place.specs.Placed.PlacedOf.{coded_of, plans_of}
use Rattle.prem_wcet_laws.specs.Wcet.{known_scene, wcet_of}
use Rattle.prem_wcet.specs.JobTimes.{at_start}
use Rattle.prem_wcet.specs.KnownOf.{memory_scene}
use Rattle.prem_wcet.specs.Lengths.{stated_in}
use Rattle.prem_wcet.proofs.JobTold.{wcet_small}
use Rattle.prem_wcet.proofs.Outcomes.{if_more}
use Rattle.prem_wcet.proofs.Shorter.{with_stated}
use Rattle.prem_profile.specs.Bound.Passages.{switch_item}
use Rattle.prem_profile.specs.Bound.Tasks.{job_bill, task_bill}
use Rattle.prem_profile.specs.Bound.Memory.{calls_of, job_items}
use Rattle.prem_profile.proofs.BillLemmas.Job.{job_told}
use Rattle.prem_profile.proofs.BillLemmas.Known.{stated_long}
use Rattle.prem_profile.proofs.bound.task.task_items.Goals as goal

pub returns-clause-bill : goal.returns-clause-bill
returns-clause-bill c =
    let p = c.args.p.now in
    let t = c.args.t.now in
    let w = known_scene p (plans_of t) (coded_of t).program t.places in
    let known = c.in_ok-known.field-0.known in
    let calls = calls_of c.in_ok-known.field-0.calls.items in
    let codes = c.items.result.now in
    let faces = c.deref.result.now in
    let facts = c.deref-2.result.now in
    let job = c.deref-4.ensures.value ∙ c.in_ok-job.ensures
    ∙ ap (λ xs. job_items (at_start (memory_scene p t.places codes faces (0, 0) facts)) (calls_of xs) t.table.job) c.deref-3.ensures.value
    ∙ job_told p t c.requires.timed.whole codes faces facts known.facts.items known.costs c.items.ensures c.deref-2.ensures.value c.in_ok-known.ensures.known calls
    ∙ ap (λ cs. job_bill w cs (coded_of t).program) c.in_ok-known.ensures.calls in
    if_more {Q = λ bill. bill.items ≡ task_bill p (plans_of t) c.args.task (coded_of t).program t.places} c.behind_switch.result (λ bill told. told ∙ ap (λ b. switch_item p c.args.task ∷ b) job) c.behind_switch.ensures

pub returns-clause-short : goal.returns-clause-short
returns-clause-short c =
    let p = c.args.p.now in
    let t = c.args.t.now in
    let same = with_stated (plans_of t) in
    if_more {Q = λ bill. wcet_of p (plans_of t) (coded_of t).program t.places ≤ 2 ^ 40} c.behind_switch.result
    (λ bill told. subst (λ (plans : List Plan). wcet_of p plans (coded_of t).program t.places ≤ 2 ^ 40) same
    (wcet_small p t (stated_in t) c.requires.timed.whole c.requires.plant (stated_long t)
    (subst (λ (plans : List Plan). job_bound_of p plans (table_of t.table) ≤ 2 ^ 40) (sym same) c.requires.timed.bound) c.in_ok-are_short.ensures))
    c.behind_switch.ensures
