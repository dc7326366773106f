-- Jobs, one behind another, of which each call runs in scopes, lone steps and marked calls.
use Rattle.std.specs.Prelude.{◌≡◌, ℕ, ◌+◌, ◌≤◌, List}
use Rattle.prem_plant.specs.declared.plant.Plant.{Plant}
use Rattle.prem_isa.specs.declared.instr.Instr.TheVariants.{PmDone}
use Rattle.prem_isa.specs.Plain.{TaskRun, Did}
use Rattle.prem_syntax.specs.Resolved.{Resolved}
use Rattle.prem_syntax.specs.Source.{Limits}
use Rattle.prem_asm.specs.Pieces.{jump_weight}
use Rattle.prem_asm.specs.Runs.{Setting, Calls}
use Rattle.prem_layout.specs.Bounds.{job_weight}
use Rattle.prem_layout.specs.Stretch.Sums.{taking, chained, greatest}
use Rattle.prem_code_laws.specs.ExprLaws.Relation.{Globals}
use Rattle.prem_sound.specs.Script.Script.{Script}
use Rattle.prem_sets_sound.specs.Weave.Weave.{Weave, dids_of}
use Rattle.prem_sets_sound.specs.StubLaws.JobWeave.Jobs.{JobRun, JobsAlong}
use Rattle.prem_wcet_laws.specs.Counts.{PathCount}
use Rattle.prem_wcet_laws.specs.Divided.{Courses, KeepsTo, StaysOn, scope_charge}
use Rattle.prem_wcet_laws.specs.PartedLaws.{is_marked}
use Rattle.prem_latency.specs.Wcet.Openings.{counts_of}
use Rattle.prem_latency.specs.Wcet.Marked.{is_marked_call}
use Rattle.prem_latency.specs.Wcet.Aligned.{StateWithin}
use Rattle.prem_latency.specs.Wcet.Jobs.{JobStrand}
use Rattle.prem_asm.specs.Steps.{AllSteps}
use Rattle.prem_wcet_laws.specs.Starts.{start_steps}

-- one switch, the jump to `job`, its call, and the job's end
abbrev pub cost_with : Plant → PathCount → ℕ
cost_with p call = p.switch + (jump_weight (job_weight p) + job_weight p PmDone + call.total)

-- and the greatest stretch
abbrev pub stretch_with : Plant → PathCount → ℕ
stretch_with p call = greatest (chained (taking (jump_weight (job_weight p))) (chained call.sums (taking (job_weight p PmDone))))

-- each call of `job` is such a course
abbrev pub CallsCourse : Plant → (counts : List Did → ℕ) → Setting → Globals → Limits → Resolved → TaskRun → Calls → (start job : ℕ) → PathCount → Type 0
CallsCourse p counts s gs limits program own calls start job call =
    (steps : List Did) (r : JobRun s gs limits program own calls start job steps) → Courses p (is_marked (is_marked_call p counts)) call r.trace

-- then the weave of these jobs is a strand that is charged so much for each of them, where marked calls count what a script's calls state
abbrev pub JobsGoByCourses : Type 0
JobsGoByCourses =
    (p : Plant) (passes : ℕ → ℕ) (script : Script) (counts : List Did → ℕ) (s : Setting) (gs : Globals) (limits : Limits) (program : Resolved)
    (own : TaskRun) (calls : Calls) (start job : ℕ) (weave : Weave) (call : PathCount) (cost most : ℕ) →
    JobsAlong p passes s gs limits program own calls start job weave → CallsCourse p counts s gs limits program own calls start job call → cost_with p call ≤ cost → stretch_with p call ≤ most →
    StateWithin script 0 (counts_of counts weave) → JobStrand p script cost most 0 (dids_of weave)

-- ---- without marked calls

-- each call of `job` is one scope, with the jump from the start and the job's end
abbrev pub CallsScope : Plant → Setting → Globals → Limits → Resolved → TaskRun → Calls → (start job : ℕ) → (lines : List ℕ) → (most : ℕ) → Type 0
CallsScope p s gs limits program own calls start job lines most =
    (steps : List Did) (r : JobRun s gs limits program own calls start job steps) →
    AllSteps (KeepsTo p.line lines) (start_steps (s.places start) (s.places job) r.trace)
    × (AllSteps StaysOn r.trace × (scope_charge p lines (start_steps (s.places start) (s.places job) r.trace) ≤ most))

-- then the weave of these jobs is a strand of such scopes
abbrev pub JobsGoByScopes : Type 0
JobsGoByScopes =
    (p : Plant) (passes : ℕ → ℕ) (script : Script) (s : Setting) (gs : Globals) (limits : Limits) (program : Resolved) (own : TaskRun) (calls : Calls)
    (start job : ℕ) (weave : Weave) (lines : List ℕ) (charge cost most : ℕ) → s.places start ≡ own.entry →
    JobsAlong p passes s gs limits program own calls start job weave → CallsScope p s gs limits program own calls start job lines charge → p.switch + charge ≤ cost → charge ≤ most →
    JobStrand p script cost most 0 (dids_of weave)
