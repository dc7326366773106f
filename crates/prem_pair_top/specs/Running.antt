-- The run of two images, and the cycle up to which it goes.
use Rattle.std.specs.Prelude.{◌≡◌, ℕ, ◌+◌, ◌*◌, ◌^◌, min, Bool, List, [], ◌∷◌, Option, unwrap_or}
use Rattle.prem_lru.specs.Rules.{rule_of}
use Rattle.prem_gate.specs.declared.request.Request.{Request}
use Rattle.prem_image.specs.declared.image.TaskRecord.{TaskRecord}
use Rattle.prem_image.specs.Text.{ImageText}
use Rattle.prem_cycle.specs.FactsOf.{report_of}
use Rattle.prem_cycle.specs.Inputs.{image_setup}
use Rattle.prem_sound.specs.Script.Scripts.{last_release}
use Rattle.prem_pair.specs.declared.cycles.state.PairStop.{PairStop}
use Rattle.prem_pair.specs.declared.cycles.state.PairStop.TheVariants.{Limit}
use Rattle.prem_pair.specs.Cycles.Pair.{PairState, pair_run, pair_stop_of}
use Rattle.prem_pair.specs.Laws.PairSound.{pair_limit}
use Rattle.prem_tasks.specs.Compiled.{CompiledText}
use Rattle.prem_exec.specs.Forms.{RunText}
use Rattle.prem_pair_top.specs.Report.{pair_text}

-- ---- the run

-- the state after n cycles, each core by the rule of replacement of its image's plant
abbrev pub pair_at : ImageText → ImageText → RunText → RunText → ℕ → PairState
pair_at i j input other n =
    pair_run (rule_of i.plant.policy) (rule_of j.plant.policy) (image_setup i) (image_setup j) i.content j.content input.words other.words input.requests n

-- why the run up to a cycle stops
abbrev pub pair_stop_at : ℕ → PairState → PairStop
pair_stop_at limit s = unwrap_or (pair_stop_of limit s) Limit

abbrev pub told_text : ImageText → ImageText → (times : Bool) → (limit : ℕ) → PairState → List ℕ
told_text i j times limit s =
    pair_text i.tasks j.tasks i.devices times s.first.now (report_of s.first) (report_of s.second) (pair_stop_at limit s)

-- what is told of the run up to a cycle
abbrev pub run_text : ImageText → ImageText → RunText → RunText → (times : Bool) → (limit : ℕ) → List ℕ
run_text i j input other times limit = told_text i j times limit (pair_at i j input other limit)

-- ---- by when it has finished

-- the jobs of some tasks times the bounds of a job of each
abbrev pub jobs_due : List TaskRecord → (bounds : List ℕ) → ℕ
jobs_due [] bounds = 0
jobs_due (t ∷ ts) [] = 0
jobs_due (t ∷ ts) (bound ∷ bounds) = t.jobs * bound + jobs_due ts bounds

-- what the jobs of all tasks of a compiled set are due
abbrev pub due_in : CompiledText → ℕ
due_in c = jobs_due c.image.tasks c.jobs

-- the limit of a compiled set alone is that behind its last release
abbrev pub CountsDue : CompiledText → Type 0
CountsDue c = c.limit ≡ last_release c.image.tasks + due_in c

-- the greatest last release of both, the jobs of both times their bounds, and the greatest cycle and the costs of all requests
abbrev pub limit_in : CompiledText → CompiledText → List Request → ℕ
limit_in c d requests = pair_limit (image_setup c.image) (image_setup d.image) (due_in c) (due_in d) requests

-- the cycle up to which a run goes: that of the words, else the limit of both sets; past cycle 2^61 no machine goes
abbrev pub cycles_in : Option ℕ → ℕ → ℕ
cycles_in cycles limit = min (unwrap_or cycles limit) (2 ^ 61)
