-- The answer to `SET RUN [--from N] [--to N]`: the dump of the run of a compiled set, or the first rule that the set breaks.
use Rattle.std.specs.Prelude.{ℕ, List, unwrap_or, codes}
use Rattle.prem_lru.specs.Rules.{rule_of}
use Rattle.prem_image.specs.Text.{ImageText}
use Rattle.prem_cycle.specs.Inputs.{image_setup}
use Rattle.prem_command.specs.Chart.{ChartAsked}
use Rattle.prem_wave.specs.Waves.{wave_text}
use Rattle.prem_answer.specs.declared.status.Status.TheVariants.{Done}
use Rattle.prem_answer.specs.Tool.{ToolMeaning}
use Rattle.prem_exec.specs.Forms.{RunText}
use Rattle.prem_exec.specs.Exec.{state_at}
use Rattle.prem_running.specs.Tellings.{Tells, telling_tool}
use Rattle.prem_running.specs.Running.{run_limit}

-- ---- the dump

-- of the run of an image up to a limit, from a cycle on
abbrev pub image_wave : (from : ℕ) → ImageText → RunText → (limit : ℕ) → List ℕ
image_wave from i input limit = wave_text (rule_of i.plant.policy) (image_setup i) input.requests (state_at i input 0) from limit

-- ---- the answer

-- to a compiled set: its run up to the cycle that the words tell, else to the limit of the set
abbrev pub wave_tells : ChartAsked → Tells
wave_tells asked set input c = (Done, image_wave (unwrap_or asked.from_cycle 0) c.image input (run_limit asked.to_cycle c.limit))

abbrev pub wave_tool : ToolMeaning
wave_tool = telling_tool (codes "usage: prem_wave SET RUN [--from N] [--to N]\n") wave_tells
