-- The answer to `sample N`: what the run of the compiled sample tells in sums, or the first rule that its set breaks.
use Rattle.std.specs.Prelude.{ℕ, ◌%◌, ◌^◌, ◌++◌, List, length, Ok, codes, decimal}
use Rattle.std.specs.List.{flat_map, sum}
use Rattle.prem_image.specs.declared.image.DeviceRecord.{DeviceRecord}
use Rattle.prem_image.specs.declared.image.TaskRecord.{TaskRecord}
use Rattle.prem_image.specs.Text.{ImageText}
use Rattle.prem_cycle.specs.declared.state.Stop.{Stop}
use Rattle.prem_cycle.specs.State.{MachineState}
use Rattle.prem_cycle.specs.FactsOf.{TaskReport, Report, report_of}
use Rattle.prem_tasks.specs.Compiled.{CompiledText}
use Rattle.prem_report.specs.Report.{counts_text, devices_text, stop_line}
use Rattle.prem_answer.specs.declared.status.Status.TheVariants.{Done}
use Rattle.prem_answer.specs.Stages.{Reply, Stage}
use Rattle.prem_exec.specs.Exec.{state_at, stop_at}
use Rattle.prem_running.specs.Tellings.{Tells, set_reply}
use Rattle.prem_running.specs.Sample.Trace.{sample_set, sample_run}

-- ---- the text

-- the output words of all tasks
abbrev pub words_of_all : List TaskReport → List ℕ
words_of_all reports = flat_map (λ r. r.outputs) reports

abbrev pub sample_line : ℕ → List ℕ
sample_line seed = codes "sample " ++ (decimal seed ++ codes " tasks 4\n")

-- how many output words there are, and their sum as a word
abbrev pub outputs_line : List ℕ → List ℕ
outputs_line words = codes "outputs " ++ (decimal (length words) ++ (codes " sum " ++ (decimal (sum words % 2 ^ 32) ++ codes "\n")))

-- a report without what it tells of tasks, intervals and transfers
abbrev pub totals_text : List TaskRecord → List DeviceRecord → ℕ → Report → Stop → List ℕ
totals_text tasks devices cycles r stop = counts_text cycles r.counts ++ (devices_text devices r ++ stop_line tasks stop)

abbrev pub sample_text : ℕ → List TaskRecord → List DeviceRecord → ℕ → Report → Stop → List ℕ
sample_text seed tasks devices cycles r stop =
    sample_line seed ++ (outputs_line (words_of_all r.tasks) ++ totals_text tasks devices cycles r stop)

-- ---- the answer

-- what is told of a state of a run that was to go up to a cycle
abbrev pub told_reply : ℕ → ImageText → (limit : ℕ) → MachineState → Reply
told_reply seed i limit s =
    (Done, sample_text seed i.tasks i.devices s.now (report_of s) (stop_at limit s))

-- the run of a compiled set goes up to its limit
abbrev pub sample_tells : ℕ → Tells
sample_tells seed set input c = told_reply seed c.image c.limit (state_at c.image input c.limit)

abbrev pub compiled_reply : ℕ → CompiledText → Reply
compiled_reply seed c = sample_tells seed (sample_set seed) (sample_run seed) c

abbrev pub sample_reply : ℕ → Reply
sample_reply seed = set_reply (sample_tells seed) (sample_set seed) (sample_run seed)

-- no file is read
abbrev pub sample_stages : ℕ → Stage Reply
sample_stages seed reads = Ok (sample_reply seed)
