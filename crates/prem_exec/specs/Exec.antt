-- The answer to `exec IMAGE RUN`: what the run of an image file tells.
use Rattle.std.specs.Prelude.{ℕ, ◌^◌, min, Bool, List, Option, Result, Ok, unwrap_or}
use Rattle.prem_list.specs.Sequence.{items_of}
use Rattle.prem_lru.specs.Rules.{rule_of}
use Rattle.prem_gate.specs.declared.request.RunInput.{RunInput}
use Rattle.prem_image.specs.Text.{ImageText}
use Rattle.prem_cycle.specs.declared.state.Stop.{Stop}
use Rattle.prem_cycle.specs.declared.state.Stop.TheVariants.{Finished, Trap, LogFull, Limit}
use Rattle.prem_cycle.specs.State.{MachineState}
use Rattle.prem_cycle.specs.Run.{run_of}
use Rattle.prem_cycle.specs.FactsOf.{report_of, stop_of}
use Rattle.prem_cycle.specs.Inputs.{image_setup, words_of}
use Rattle.prem_set.specs.Run.Run.{run_of as lines_of_run}
use Rattle.prem_imagefile.specs.Reading.{read_as}
use Rattle.prem_command.specs.Words.{RunAsked}
use Rattle.prem_report.specs.Fitting.Named.{names_for}
use Rattle.prem_report.specs.Report.{report_text}
use Rattle.prem_answer.specs.declared.status.Status.{Status}
use Rattle.prem_answer.specs.declared.status.Status.TheVariants.{Done, Trap as Trapped}
use Rattle.prem_answer.specs.Stages.{Reply, Stage, reading}
use Rattle.prem_exec.specs.Forms.{RunText, image_in, run_in}

-- ---- the run

-- the state after n cycles, by the rule of replacement of the image's plant
abbrev pub state_at : ImageText → RunText → ℕ → MachineState
state_at i input n = run_of (rule_of i.plant.policy) (image_setup i) i.content input.words input.requests n

-- why the run up to a cycle stops
abbrev pub stop_at : ℕ → MachineState → Stop
stop_at limit s = unwrap_or (stop_of limit s) Limit

-- a run that traps has a status of its own
abbrev pub stop_status : Stop → Status
stop_status Finished = Done
stop_status (Trap task pc cause) = Trapped
stop_status (LogFull length) = Done
stop_status Limit = Done

abbrev pub told_reply : ImageText → (times : Bool) → (limit : ℕ) → MachineState → Reply
told_reply i times limit s =
    (stop_status (stop_at limit s), report_text i.tasks i.devices times s.now (report_of s) (stop_at limit s))

-- what is told of the run up to a cycle
abbrev pub run_reply : ImageText → RunText → (times : Bool) → (limit : ℕ) → Reply
run_reply i input times limit = told_reply i times limit (state_at i input limit)

-- ---- the answer

-- the bytes that an image file, and a run file, have at most
abbrev pub image_limit : ℕ
image_limit = 16842752

abbrev pub run_limit : ℕ
run_limit = 4194304

-- the cycle up to which a run goes: the one that the words tell, which is at most 2 ^ 50, or else 10000000
abbrev pub exec_limit : Option ℕ → ℕ
exec_limit cycles = min (unwrap_or cycles 10000000) (2 ^ 50)

-- the image of a file's bytes
abbrev pub image_of_bytes : List ℕ → List ℕ → Result ImageText Reply
image_of_bytes name bytes = image_in name (read_as bytes)

-- the run of a file's bytes, by the names of an image
abbrev pub run_of_bytes : ImageText → List ℕ → List ℕ → Result RunText Reply
run_of_bytes i name bytes = run_in name (lines_of_run bytes (names_for i.tasks i.devices))

-- the image, then the run file, then the run
abbrev pub exec_stages : RunAsked → Stage Reply
exec_stages asked =
    reading image_limit asked.of (image_of_bytes asked.of) (λ i.
    reading run_limit asked.run (run_of_bytes i asked.run) (λ input reads.
    Ok (run_reply i input asked.intervals (exec_limit asked.cycles))))

-- ---- what the code holds

abbrev pub input_of : RunInput → RunText
input_of run = record { words = words_of run; requests = items_of run.requests }
