-- What a run in which devices feed tasks tells beside its report.
use Rattle.std.specs.Prelude.{ℕ, ◌==◌, false, if◌then◌else◌, List, [], ◌++◌, length, codes, decimal, slice_get}
use Rattle.std.specs.Option.{option_map_or}
use Rattle.prem_image.specs.declared.image.TaskRecord.{TaskRecord}
use Rattle.prem_image.specs.Text.{ImageText}
use Rattle.prem_cycle.specs.declared.state.Stop.{Stop}
use Rattle.prem_cycle.specs.State.{MachineState}
use Rattle.prem_cycle.specs.FactsOf.{report_of}
use Rattle.prem_set.specs.Run.Text.{list_line}
use Rattle.prem_report.specs.Report.{in_turn, task_name, report_text}
use Rattle.prem_mail.specs.Delivery.{Delivery}

-- ---- lists, each as a run file's line

abbrev pub lists_text : List TaskRecord → List (List ℕ) → List ℕ
lists_text tasks lists = in_turn (λ k. option_map_or (list_line (task_name tasks k)) (slice_get lists k) []) (length tasks)

-- ---- lost values

abbrev pub lost_line : List ℕ → ℕ → List ℕ
lost_line name lost = codes "lost " ++ (name ++ (codes " " ++ (decimal lost ++ codes "\n")))

-- a line only where there are some
abbrev pub loss_text : List ℕ → ℕ → List ℕ
loss_text name lost = if lost == 0 then [] else lost_line name lost

abbrev pub losses_text : List TaskRecord → List ℕ → List ℕ
losses_text tasks lost = in_turn (λ k. option_map_or (loss_text (task_name tasks k)) (slice_get lost k) []) (length tasks)

-- ---- all

abbrev pub mailed_text : ImageText → Delivery → MachineState → Stop → List ℕ
mailed_text i d s stop = lists_text i.tasks d.lists ++ (losses_text i.tasks d.lost ++ report_text i.tasks i.devices false s.now (report_of s) stop)
