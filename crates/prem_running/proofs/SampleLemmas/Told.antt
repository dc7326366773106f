-- What is told of the run of a compiled sample is the answer.
use Rattle.std.proofs.Common.{◌≡◌, ℕ, List, refl, ap, ◌∙◌}
use Rattle.prem_image.specs.Text.{ImageText}
use Rattle.prem_cycle.specs.declared.state.Stop.{Stop}
use Rattle.prem_cycle.specs.State.{MachineState}
use Rattle.prem_cycle.specs.FactsOf.{Report, report_of}
use Rattle.prem_tasks.specs.Broken.{broken}
use Rattle.prem_answer.specs.declared.status.Status.{Status}
use Rattle.prem_answer.specs.declared.status.Status.TheVariants.{Done}
use Rattle.prem_answer.specs.Stages.{Reply, Reads, IsFine}
use Rattle.prem_answer.specs.Tool.{IsSettled}
use Rattle.prem_exec.specs.Exec.{stop_at}
use Rattle.prem_running.specs.Sample.Trace.{sample_run, sample_set}
use Rattle.prem_running.specs.Sample.Sample.{sample_stages, sample_tells, sample_text, told_reply}
use Rattle.prem_running.proofs.Tellings.{judged_fine}

-- from what the machine says of itself
abbrev reply : Status → List ℕ → Reply
reply status text = (status, text)

pub run_is : (seed : ℕ) (i : ImageText) (limit : ℕ) (s : MachineState) (stop : Stop) (text : List ℕ) (now : ℕ) (r : Report) → stop ≡ stop_at limit s →
    now ≡ s.now → r ≡ report_of s → text ≡ sample_text seed i.tasks i.devices now r stop → reply Done text ≡ told_reply seed i limit s
run_is seed i limit s stop text now r stops at told is =
    let texts : text ≡ sample_text seed i.tasks i.devices s.now (report_of s) (stop_at limit s) =
    is
    ∙ ap (λ n. sample_text seed i.tasks i.devices n r stop) at
    ∙ ap (λ q. sample_text seed i.tasks i.devices s.now q stop) told
    ∙ ap (sample_text seed i.tasks i.devices s.now (report_of s)) stops in
    ap (reply Done) texts

pub sample_is_fine : (seed : ℕ) (reads : Reads) → IsFine IsSettled (sample_stages seed reads)
sample_is_fine seed reads = judged_fine (sample_tells seed) (sample_set seed) (sample_run seed) refl (broken (sample_set seed))
