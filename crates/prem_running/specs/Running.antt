-- The answer to `run SET RUN`: what the run of a compiled set tells, or the first rule that the set breaks.
use Rattle.std.specs.Prelude.{ℕ, ◌^◌, min, Option, unwrap_or}
use Rattle.prem_tasks.specs.Compiled.{CompiledText}
use Rattle.prem_command.specs.Words.{RunAsked}
use Rattle.prem_answer.specs.declared.status.Status.TheVariants.{Done}
use Rattle.prem_answer.specs.Stages.{Reply, Stage}
use Rattle.prem_exec.specs.Forms.{RunText}
use Rattle.prem_exec.specs.Exec.{run_reply}
use Rattle.prem_running.specs.Tellings.{Tells, told_stages}

-- the cycle up to which a run goes: that of the words, else the limit of the set; past cycle 2^61 no machine goes
abbrev pub run_limit : Option ℕ → ℕ → ℕ
run_limit cycles limit = min (unwrap_or cycles limit) (2 ^ 61)

-- to a compiled set: that its run traps has no status of its own
abbrev pub compiled_reply : RunAsked → RunText → CompiledText → Reply
compiled_reply asked input c = (Done, (run_reply c.image input asked.intervals (run_limit asked.cycles c.limit)).1)

abbrev pub run_tells : RunAsked → Tells
run_tells asked set input c = compiled_reply asked input c

abbrev pub run_stages : RunAsked → Stage Reply
run_stages asked = told_stages (run_tells asked) asked.of asked.run
