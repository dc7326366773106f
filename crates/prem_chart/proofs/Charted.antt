-- The picture of the run of an image is that of its machine.
use Rattle.std.specs.Prelude.{ℕ, List}
use Rattle.std.proofs.Common.{◌≡◌, ap, ◌∙◌}
use Rattle.prem_lru.specs.Rules.{rule_of}
use Rattle.prem_gate.specs.declared.request.Request.{Request}
use Rattle.prem_image.specs.Text.{ImageText}
use Rattle.prem_image.specs.declared.image.TaskRecord.{TaskRecord}
use Rattle.prem_image.specs.declared.image.DeviceRecord.{DeviceRecord}
use Rattle.prem_cycle.specs.declared.state.Stop.{Stop}
use Rattle.prem_cycle.specs.State.{MachineState}
use Rattle.prem_cycle.specs.FactsOf.{Report, report_of}
use Rattle.prem_cycle.specs.Inputs.{image_setup}
use Rattle.prem_command.specs.Chart.{ChartAsked}
use Rattle.prem_time.specs.declared.promises.Promise.{Promise}
use Rattle.prem_chart.specs.declared.view.View.{View}
use Rattle.prem_chart.specs.declared.note.Note.{Note}
use Rattle.prem_chart.specs.Picture.{chart_text}
use Rattle.prem_exec.specs.Forms.{RunText}
use Rattle.prem_exec.specs.Exec.{state_at, stop_at}
use Rattle.prem_chart.specs.Notes.{notes_of}
use Rattle.prem_chart.specs.Answer.{image_chart, state_chart, view_of}

-- the picture of what a machine says of itself is that of its run
pub picture_is : (asked : ChartAsked) (i : ImageText) (input : RunText) (promises : List Promise) (limit : ℕ) (s : MachineState) (v : View)
    (tasks : List TaskRecord) (devices : List DeviceRecord) (r : Report)
    (cycles : ℕ) (stop : Stop) (notes : List Note) (requests : List Request) → v ≡ view_of asked.from_cycle asked.to_cycle cycles → tasks ≡ i.tasks →
    devices ≡ i.devices → r ≡ report_of s → cycles ≡ s.now →
    stop ≡ stop_at limit s → notes ≡ notes_of (rule_of i.plant.policy) (image_setup i) input.requests limit (state_at i input 0) → requests ≡ input.requests → s ≡ state_at i input limit →
    chart_text v asked.set tasks devices r cycles stop notes requests promises ≡ image_chart asked i input promises limit
picture_is asked i input promises limit s v tasks devices r cycles stop notes requests view same_tasks same_devices told at stopped noted came state =
    ap (λ x. chart_text x asked.set tasks devices r cycles stop notes requests promises) view
    ∙ ap (λ x. chart_text (view_of asked.from_cycle asked.to_cycle cycles) asked.set x devices r cycles stop notes requests promises) same_tasks
    ∙ ap (λ x. chart_text (view_of asked.from_cycle asked.to_cycle cycles) asked.set i.tasks x r cycles stop notes requests promises) same_devices
    ∙ ap (λ x. chart_text (view_of asked.from_cycle asked.to_cycle cycles) asked.set i.tasks i.devices x cycles stop notes requests promises) told
    ∙ ap (λ n. chart_text (view_of asked.from_cycle asked.to_cycle n) asked.set i.tasks i.devices (report_of s) n stop notes requests promises) at
    ∙ ap (λ x. chart_text (view_of asked.from_cycle asked.to_cycle s.now) asked.set i.tasks i.devices (report_of s) s.now x notes requests promises) stopped
    ∙ ap (λ x. chart_text (view_of asked.from_cycle asked.to_cycle s.now) asked.set i.tasks i.devices (report_of s) s.now (stop_at limit s) x requests promises) noted
    ∙ ap (λ (x : List Request). chart_text (view_of asked.from_cycle asked.to_cycle s.now) asked.set i.tasks i.devices (report_of s) s.now (stop_at limit s)
    (notes_of (rule_of i.plant.policy) (image_setup i) input.requests limit (state_at i input 0)) x promises) came
    ∙ ap (state_chart asked i input promises limit) state
