-- The answer to `SET RUN [--from N] [--to N] [--every DEVICE=CYCLES ..]`: the picture of the run of a compiled set, or the first rule that the set breaks.
use Rattle.std.specs.Prelude.{ℕ, ⊤, ◌+◌, ◌-◌, ◌^◌, ◌++◌, min, max, List, [], ◌∷◌, Option, None, Some, unwrap_or, codes}
use Rattle.prem_syntax.specs.Syntax.{Text}
use Rattle.prem_lru.specs.Rules.{rule_of}
use Rattle.prem_image.specs.Text.{ImageText}
use Rattle.prem_cycle.specs.State.{MachineState}
use Rattle.prem_cycle.specs.FactsOf.{report_of}
use Rattle.prem_cycle.specs.Inputs.{image_setup}
use Rattle.prem_command.specs.Chart.{ChartAsked}
use Rattle.prem_chart.specs.declared.view.View.{View}
use Rattle.prem_chart.specs.Picture.{chart_text}
use Rattle.prem_tasks.specs.Broken.{TaskSet}
use Rattle.prem_answer.specs.declared.status.Status.TheVariants.{Done, Refused}
use Rattle.prem_answer.specs.Stages.{Reply}
use Rattle.prem_answer.specs.Tool.{ToolMeaning}
use Rattle.prem_exec.specs.Forms.{RunText}
use Rattle.prem_exec.specs.Exec.{state_at, stop_at}
use Rattle.prem_running.specs.Tellings.{IsToldOf, Tells, told_stages}
use Rattle.prem_running.specs.Running.{run_limit}
use Rattle.prem_time.specs.declared.promises.Promise.{Promise}
use Rattle.prem_time.specs.Words.{Distance}
use Rattle.prem_time.specs.Devices.{unknown_in}
use Rattle.prem_time.specs.Promises.{promises_in}
use Rattle.prem_time.specs.Stages.{unknown_reply}
use Rattle.prem_chart.specs.Notes.{notes_of}
use Rattle.prem_chart.specs.Words.{Asked, asked_of}
use Rattle.prem_chart.specs.Keeping.{stray_in}

-- ---- the picture

-- the cycles from one up to another, which is left out: those of the words, else all of a run that took so many cycles; one cycle at least
abbrev pub view_of : (from to : Option ℕ) → (cycles : ℕ) → View
view_of from to cycles =
    record { first = min (unwrap_or from 0) (2 ^ 50 - 1); behind = min (max (unwrap_or to cycles) (min (unwrap_or from 0) (2 ^ 50 - 1) + 1)) (2 ^ 50) }

-- of the state in which the run up to a cycle ends
abbrev pub state_chart : ChartAsked → ImageText → RunText → List Promise → (limit : ℕ) → MachineState → List ℕ
state_chart asked i input promises limit s =
    chart_text (view_of asked.from_cycle asked.to_cycle s.now) asked.set i.tasks i.devices (report_of s) s.now (stop_at limit s)
    (notes_of (rule_of i.plant.policy) (image_setup i) input.requests limit (state_at i input 0)) input.requests promises

abbrev pub image_chart : ChartAsked → ImageText → RunText → List Promise → (limit : ℕ) → List ℕ
image_chart asked i input promises limit = state_chart asked i input promises limit (state_at i input limit)

-- ---- what is promised

-- to the devices that are named, of a set that breaks no rule
abbrev pub promised : TaskSet → List Distance → List Promise
promised set [] = []
promised set (d ∷ ds) = promises_in set (d ∷ ds)

-- to a run file with requests of a device that isn't named, or that come nearer to each other than is said
abbrev pub stray_reply : Text → Reply
stray_reply name = (Refused, codes "refused * requests " ++ (name ++ codes "\n"))

-- by the first device that is named and that the set hasn't got, and the first whose requests stray
abbrev pub reply_by : (unknown stray : Option Text) → (picture : List ℕ) → Reply
reply_by (Some name) stray picture = unknown_reply name
reply_by None (Some name) picture = stray_reply name
reply_by None None picture = (Done, picture)

-- ---- the answer

-- to a compiled set
abbrev pub chart_tells : Asked → Tells
chart_tells asked set input c =
    reply_by (unknown_in asked.distances set.devices) (stray_in asked.distances set.devices input.requests)
    (image_chart asked.chart c.image input (promised set asked.distances) (run_limit None c.limit))

abbrev pub chart_tool : ToolMeaning
chart_tool = record {
  Asked = Asked;
  asked_of = asked_of;
  usage = codes "usage: prem_chart SET RUN [--from N] [--to N] [--every DEVICE=CYCLES ..]\n";
  stages = λ asked. told_stages (chart_tells asked) asked.chart.set asked.chart.run;
  keeps = λ asked reads given. ⊤;
  succeeds = λ files asked reply. IsToldOf (chart_tells asked) files asked.chart.set asked.chart.run reply;
}
