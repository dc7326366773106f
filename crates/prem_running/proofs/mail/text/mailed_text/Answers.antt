use Rattle.std.proofs.Common.{◌++◌, false, ℕ, List, ap, ◌∙◌}
use Rattle.std.proofs.lemmas.List.{append_assoc}
use Rattle.prem_list.specs.Sequence.{items_of}
use Rattle.prem_image.specs.declared.image.TaskRecord.{TaskRecord}
use Rattle.prem_image.specs.declared.image.DeviceRecord.{DeviceRecord}
use Rattle.prem_cycle.specs.FactsOf.{Report, report_in, report_of}
use Rattle.prem_report.specs.Report.{report_text}
use Rattle.prem_mail.specs.Delivery.{Delivery}
use Rattle.prem_mail.specs.Mailing.{mailed_in, state_in}
use Rattle.prem_running.specs.Mail.Text.{lists_text, losses_text}
use Rattle.prem_running.proofs.mail.text.mailed_text.Goals as goal

pub returns : goal.returns
returns g c =
    let ts : List TaskRecord = items_of c.args.image.now.tasks in
    let ds : List DeviceRecord = items_of c.args.image.now.devices in
    let mail : Delivery = (mailed_in c.args.mail.now).mail in
    let s = state_in c.args.mail.now in
    let tasks = c.items-tasks.ensures in
    let devices = c.items-devices.ensures in
    let lists = c.in_ok-push_lists.ensures
    ∙ ap (λ (x : List ℕ). x ++ lists_text c.items-tasks.result.now mail.lists) c.new-text.ensures.items
    ∙ ap (λ (t : List TaskRecord). lists_text t mail.lists) tasks in
    let both = c.in_ok-push_losses.ensures
    ∙ ap (λ (x : List ℕ). x ++ losses_text c.items-tasks.result.now mail.lost) lists
    ∙ ap (λ (t : List TaskRecord). lists_text ts mail.lists ++ losses_text t mail.lost) tasks in
    let told = c.deref.ensures.value
    ∙ c.in_ok-told.ensures
    ∙ ap (λ (t : List TaskRecord). report_text t c.items-devices.result.now false c.now.result (report_in c.facts.result.now) c.args.stop) tasks
    ∙ ap (λ (d : List DeviceRecord). report_text ts d false c.now.result (report_in c.facts.result.now) c.args.stop) devices
    ∙ ap (λ (n : ℕ). report_text ts ds false n (report_in c.facts.result.now) c.args.stop) c.now.ensures
    ∙ ap (λ (r : Report). report_text ts ds false s.now r c.args.stop) c.facts.ensures in
    c.in_ok-extend_from_slice.ensures.items
    ∙ ap (λ (x : List ℕ). x ++ c.deref.result.now) both
    ∙ ap (λ (y : List ℕ). (lists_text ts mail.lists ++ losses_text ts mail.lost) ++ y) told
    ∙ append_assoc (lists_text ts mail.lists) (losses_text ts mail.lost) (report_text ts ds false s.now (report_of s) c.args.stop)
