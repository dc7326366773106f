-- The text that tells of a run.
use Rattle.std.specs.Prelude.{ℕ, zero, suc, ◌+◌, ◌==◌, Bool, if◌then◌else◌, List, [], ◌∷◌, ◌++◌, length, Option, Some, None, codes, decimal, slice_get}
use Rattle.std.specs.List.{flat_map}
use Rattle.std.specs.Option.{option_map_or}
use Rattle.prem_line.specs.Hexadecimal.{hex_word}
use Rattle.prem_isa.specs.declared.effect.Cause.{Cause}
use Rattle.prem_isa.specs.declared.effect.Cause.TheVariants.{Decode, Align, Outside, Ecall, Ebreak, Phase}
use Rattle.prem_gate.specs.declared.bus.Transfer.{Transfer}
use Rattle.prem_image.specs.declared.image.TaskRecord.{TaskRecord}
use Rattle.prem_image.specs.declared.image.DeviceRecord.{DeviceRecord}
use Rattle.prem_cycle.specs.declared.state.Stop.{Stop}
use Rattle.prem_cycle.specs.declared.state.Stop.TheVariants.{Finished, Trap, LogFull, Limit}
use Rattle.prem_cycle.specs.declared.facts.EndedInterval.{EndedInterval}
use Rattle.prem_cycle.specs.declared.facts.DeviceFacts.{DeviceFacts}
use Rattle.prem_cycle.specs.State.{Counts}
use Rattle.prem_cycle.specs.FactsOf.{TaskReport, Report}
use Rattle.prem_cycle.specs.Runs.Transfer.Lengths.{device_cost}

-- ---- parts of lines

-- texts for 0, 1 and so on, n of them, one behind another
abbrev pub in_turn : (ℕ → List ℕ) → ℕ → List ℕ
in_turn text zero = []
in_turn text (suc n) = in_turn text n ++ text n

abbrev pub task_name : List TaskRecord → ℕ → List ℕ
task_name tasks k = option_map_or (λ t. t.name) (slice_get tasks k) []

abbrev pub device_name : List DeviceRecord → ℕ → List ℕ
device_name devices k = option_map_or (λ d. d.device.name) (slice_get devices k) []

-- ---- tasks

abbrev pub output_line : ℕ → List ℕ
output_line v = codes "out " ++ (decimal v ++ codes "\n")

abbrev pub task_line : List ℕ → ℕ → List ℕ
task_line name ended = codes "task " ++ (name ++ (codes " jobs " ++ (decimal ended ++ codes "\n")))

-- a task's jobs that have ended, and its output words
abbrev pub task_text : List ℕ → TaskReport → List ℕ
task_text name t = task_line name t.ended ++ flat_map output_line t.outputs

abbrev pub tasks_text : List TaskRecord → List TaskReport → List ℕ
tasks_text tasks reports = in_turn (λ k. option_map_or (task_text (task_name tasks k)) (slice_get reports k) []) (length reports)

-- ---- intervals and transfers

abbrev pub kind_word : Bool → List ℕ
kind_word predictable = if predictable then codes "predictable" else codes "compatible"

abbrev pub interval_line : List TaskRecord → EndedInterval → List ℕ
interval_line tasks e =
    codes "interval " ++ (task_name tasks e.task ++ (codes " " ++ (kind_word e.predictable ++ (codes " "
    ++ (decimal e.first ++ (codes " " ++ (decimal e.length ++ codes "\n")))))))

abbrev pub direction_word : Option ℕ → List ℕ
direction_word (Some v) = codes "put"
direction_word None = codes "get"

-- its device, its first cycle and its cycles
abbrev pub transfer_time : List DeviceRecord → Transfer → List ℕ
transfer_time devices t =
    codes "transfer " ++ (device_name devices t.device ++ (codes " " ++ (decimal t.first ++ (codes " " ++ (decimal (device_cost devices t.device) ++ codes " ")))))

-- the way it went, its line and its word
abbrev pub transfer_word : Transfer → List ℕ
transfer_word t =
    direction_word t.request.put ++ (codes " " ++ (decimal t.request.line ++ (codes " " ++ (decimal t.value ++ codes "\n"))))

abbrev pub transfer_line : List DeviceRecord → Transfer → List ℕ
transfer_line devices t = transfer_time devices t ++ transfer_word t

-- the intervals and the transfers that have ended, each in order of time
abbrev pub times_text : List TaskRecord → List DeviceRecord → Report → List ℕ
times_text tasks devices r = flat_map (interval_line tasks) r.intervals ++ flat_map (transfer_line devices) r.transfers

-- ---- counts

abbrev pub cycles_line : ℕ → List ℕ
cycles_line cycles = codes "cycles " ++ (decimal cycles ++ codes "\n")

abbrev pub cache_line : Counts → List ℕ
cache_line n =
    codes "hits " ++ (decimal n.hits ++ (codes " misses " ++ (decimal n.misses ++ (codes " writebacks " ++ (decimal n.writebacks ++ codes "\n")))))

abbrev pub phase_line : Counts → List ℕ
phase_line n =
    codes "execmisses " ++ (decimal n.exec_misses ++ (codes " memstores " ++ (decimal n.memory_stores
    ++ (codes " clashes " ++ (decimal n.clashes ++ (codes " overruns " ++ (decimal n.overruns ++ codes "\n")))))))

-- ---- devices

-- the transfers of a device
abbrev pub transferred : ℕ → List Transfer → ℕ
transferred k [] = 0
transferred k (t ∷ transfers) = (if t.device == k then 1 else 0) + transferred k transfers

abbrev pub device_line : List ℕ → ℕ → DeviceFacts → List ℕ
device_line name count d =
    codes "device " ++ (name ++ (codes " transferred " ++ (decimal count ++ (codes " dropped " ++ (decimal d.dropped
    ++ (codes " waiting " ++ (decimal d.waiting ++ codes "\n")))))))

abbrev pub devices_text : List DeviceRecord → Report → List ℕ
devices_text devices r =
    in_turn (λ k. option_map_or (device_line (device_name devices k) (transferred k r.transfers)) (slice_get r.devices k) []) (length r.devices)

-- ---- why the run stopped

abbrev pub cause_word : Cause → List ℕ
cause_word Decode = codes "decode"
cause_word Align = codes "align"
cause_word Outside = codes "outside"
cause_word Ecall = codes "ecall"
cause_word Ebreak = codes "ebreak"
cause_word Phase = codes "phase"

abbrev pub trap_place : List ℕ → List ℕ
trap_place name = codes "trap " ++ (name ++ codes " 0x")

abbrev pub trap_cause : Cause → List ℕ
trap_cause cause = codes " " ++ (cause_word cause ++ codes "\n")

abbrev pub stop_line : List TaskRecord → Stop → List ℕ
stop_line tasks Finished = codes "finished\n"
stop_line tasks Limit = codes "stopped\n"
stop_line tasks (LogFull n) = codes "full\n"
stop_line tasks (Trap task pc cause) = trap_place (task_name tasks task) ++ (hex_word pc ++ trap_cause cause)

-- ---- the report

-- so many cycles have passed
abbrev pub counts_text : ℕ → Counts → List ℕ
counts_text cycles n = cycles_line cycles ++ (cache_line n ++ phase_line n)

abbrev pub report_text : List TaskRecord → List DeviceRecord → Bool → ℕ → Report → Stop → List ℕ
report_text tasks devices times cycles r stop =
    tasks_text tasks r.tasks ++ ((if times then times_text tasks devices r else [])
    ++ (counts_text cycles r.counts ++ (devices_text devices r ++ stop_line tasks stop)))
