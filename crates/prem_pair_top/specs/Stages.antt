-- The stages of the work: both sets and their run files are read, judged by all rules, compiled and run.
use Rattle.std.specs.Prelude.{ℕ, List, [], ◌∷◌, ◌++◌, Option, None, Some, Result, Ok, Err, codes, decimal}
use Rattle.prem_plant.specs.declared.plant.Device.{Device}
use Rattle.prem_layout.specs.Rules.{Refusal}
use Rattle.prem_tasks.specs.Told.{Told}
use Rattle.prem_tasks.specs.Broken.{TaskText, TaskSet, broken}
use Rattle.prem_tasks.specs.Compiled.{CompiledText, compiled}
use Rattle.prem_set.specs.SetFile.{SetData}
use Rattle.prem_answer.specs.declared.answer.Telling.TheVariants.{Brief}
use Rattle.prem_answer.specs.declared.status.Status.TheVariants.{Done, Refused}
use Rattle.prem_answer.specs.Stages.{Reply, Stage, and_then, form_reply, reading_by}
use Rattle.prem_answer.specs.Refusal.Texts.{breaker}
use Rattle.prem_exec.specs.Forms.{RunText}
use Rattle.prem_exec.specs.Sources.Sources.{reading_run_by, reading_set_by, reading_sources, set_limit, set_of_bytes_by}
use Rattle.prem_pair_top.specs.Words.{PairAsked}
use Rattle.prem_pair_top.specs.Running.{cycles_in, limit_in, run_text}

-- ---- two sets and their run files

-- the task of a core's set that breaks a rule, and a star where the set as a whole does
abbrev pub refused_text : ℕ → List TaskText → Refusal Told → List ℕ
refused_text core tasks r = codes "refused " ++ (decimal core ++ (codes " " ++ (breaker tasks r.task ++ codes "\n")))

-- what the run of two compiled sets tells
abbrev pub compiled_text : PairAsked → RunText → RunText → CompiledText → CompiledText → List ℕ
compiled_text asked input other c d =
    run_text c.image d.image input other asked.options.intervals (cycles_in asked.options.cycles (limit_in c d input.requests))

-- to sets whose first broken rules are these, if they break any; that of the first set comes first
abbrev pub judged_reply : PairAsked → TaskSet → TaskSet → RunText → RunText → Option (Refusal Told) → Option (Refusal Told) → Reply
judged_reply asked one two input other (Some r) second = (Refused, refused_text 0 one.tasks r)
judged_reply asked one two input other None (Some r) = (Refused, refused_text 1 two.tasks r)
judged_reply asked one two input other None None = (Done, compiled_text asked input other (compiled one) (compiled two))

abbrev pub sets_reply : PairAsked → TaskSet → TaskSet → RunText → RunText → Reply
sets_reply asked one two input other = judged_reply asked one two input other (broken one) (broken two)

-- ---- the stages

-- the second set has no device
abbrev pub without : List ℕ → SetData → List Device → Result SetData Reply
without name s [] = Ok s
without name s (d ∷ ds) = Err (form_reply name (codes "limit device"))

abbrev pub without_devices : List ℕ → SetData → Result SetData Reply
without_devices name s = without name s s.devices

abbrev pub other_of_bytes : List ℕ → List ℕ → Result SetData Reply
other_of_bytes name bytes = and_then (set_of_bytes_by Brief name bytes) (without_devices name)

abbrev pub reading_other : List ℕ → (TaskSet → Stage Reply) → Stage Reply
reading_other name next = reading_by Brief set_limit name (other_of_bytes name) (λ s. reading_sources Brief s next)

-- both sets with their sources, then both run files; then both are judged by all rules, compiled and run
abbrev pub pair_stages : PairAsked → Stage Reply
pair_stages asked =
    reading_set_by Brief asked.set (λ one.
    reading_other asked.other_set (λ two.
    reading_run_by Brief one asked.run (λ input.
    reading_run_by Brief two asked.other_run (λ other reads.
    Ok (sets_reply asked one two input other)))))
