-- When the calls of a script open, and what gives bounds of what the jobs of a task keep closed.
use Rattle.std.proofs.Common.{◌≡◌, ℕ, zero, suc, ◌+◌, ◌-◌, ◌*◌, ◌≤◌, ap, ◌∙◌, subst, arith, Some, None, Option, length}
use Rattle.prem_plant.specs.declared.plant.Plant.{Plant}
use Rattle.prem_isa.specs.declared.effect.Phase.{Phase}
use Rattle.prem_isa.specs.declared.effect.Phase.TheVariants.{Compatible, Memory as MemoryPhase, Execution}
use Rattle.prem_isa.specs.declared.effect.Change.{Change}
use Rattle.prem_isa.specs.declared.effect.Change.TheVariants.{Stay, Memory, Execute, End, Job}
use Rattle.prem_isa.specs.Bounds.{IsLawful}
use Rattle.prem_isa.specs.Decode.{cost_of}
use Rattle.prem_isa.specs.Plain.{TaskRun, Did, plain_did, plain_run}
use Rattle.prem_cycle.specs.Core.{is_predictable}
use Rattle.prem_sound.specs.Script.Script.{change_due, cost_of_dids, begun_by, Script, call_at, call_of, IsStep}
use Rattle.prem_sound.specs.Paced.Paced.{within_job}
use Rattle.prem_sound.specs.Scopes.Charged.{Charges, did_charge, job_with, job_charged}
use Rattle.prem_sound.proofs.ScriptLemmas.Begins.{Executed, executed, did_lawful}
use Rattle.prem_latency.specs.Closed.{short_of, closed_with, closed_charged, ScriptsOpen, ShorterCallsClose, ChargedTasksClose}

-- ---- when the calls of a script open

abbrev stated_of : Script → ℕ → ℕ
stated_of s i = (call_at s i).stated

pub scripts_open : ScriptsOpen
scripts_open plant passes run s h = record { calls = one } where
  one : (n stated : ℕ) (d : Did) → plain_did run (plain_run run n) ≡ Some d → d.change ≡ Execute stated →
      cost_of_dids (begun_by run n).steps + length (call_of s (begun_by run n)).members * (plant.fill + plant.back) ≤ stated_of s ((begun_by run n).calls - 1)
  one n stated d e c =
      let x : Executed run (plain_run run n) d = executed run (plain_run run n) d e in
      let l : IsLawful (plain_run run n).task.phase d.change = did_lawful run (plain_run run n) d x in
      let ph : (plain_run run n).task.phase ≡ MemoryPhase = subst (IsLawful (plain_run run n).task.phase) c l in
      let same : d.phase ≡ (plain_run run n).task.phase = ap (λ (f : Did). f.phase) x.did_is in
      let st : IsStep plant passes (call_of s (begun_by run n)) (begun_by run n).steps d = h.steps n d e (ap is_predictable (same ∙ ph)) in
      sum (cost_of_dids (begun_by run n).steps) (cost_of d.instr) (length (call_of s (begun_by run n)).members * (plant.fill + plant.back)) (stated_of s ((begun_by run n).calls - 1)) st.fits where
        sum : (a b c s : ℕ) → a + b + c ≤ s → a + c ≤ s
        sum a b c s h = omega (arith, h)

-- ---- with shorter calls

pub change_more : (plant : Plant) (c : Change) (a b : ℕ) → a ≤ b → change_due plant a c ≤ change_due plant b c
change_more plant Stay a b le = omega arith
change_more plant Memory a b le = omega (arith, le)
change_more plant (Execute l) a b le = omega arith
change_more plant End a b le = omega arith
change_more plant Job a b le = omega arith

charge_more : (plant : Plant) (ph : Phase) (c : Change) (n a b : ℕ) → a ≤ b → did_charge plant a ph c n ≤ did_charge plant b ph c n
charge_more plant Compatible c n a b le = omega (arith, change_more plant c a b le)
charge_more plant MemoryPhase c n a b le = omega arith
charge_more plant Execution c n a b le = omega arith

pub job_more : (c : Change) (a b : ℕ) → a ≤ b → within_job c a ≤ within_job c b
job_more Stay a b le = le
job_more Memory a b le = le
job_more (Execute l) a b le = le
job_more End a b le = le
job_more Job a b le = omega arith

module _ (plant : Plant) (run : TaskRun) (s : Script) (short : ℕ → ℕ) (charge : Charges) (less : (i : ℕ) → short i ≤ (call_at s i).stated) where
  pub did_less : (n : ℕ) (d : Did) →
      did_charge plant (short (begun_by run n).calls) d.phase d.change (charge n d) ≤ did_charge plant
      (call_at s (begun_by run n).calls).stated d.phase d.change (charge n d)
  did_less n d = charge_more plant d.phase d.change (charge n d) (short (begun_by run n).calls) (call_at s (begun_by run n).calls).stated (less (begun_by run n).calls)

  pub closed_within : (n : ℕ) → closed_charged plant short run charge n ≤ job_charged plant s run charge n
  unfolding closed_charged job_charged
  closed_within zero = omega arith
  closed_within (suc n) = by (plain_did run (plain_run run n)) (closed_within n) (did_less n) where
    by : (o : Option Did) → closed_charged plant short run charge n ≤ job_charged plant s run charge n →
        ((d : Did) → did_charge plant (short (begun_by run n).calls) d.phase d.change (charge n d) ≤ did_charge plant
        (call_at s (begun_by run n).calls).stated d.phase d.change (charge n d)) →
        closed_with plant short (begun_by run n) charge n o (closed_charged plant short run charge n) ≤ job_with plant s (begun_by run n) charge n o
        (job_charged plant s run charge n)
    by None le m = le
    by (Some d) le m =
        job_more d.change (closed_charged plant short run charge n + did_charge plant (short (begun_by run n).calls) d.phase d.change (charge n d))
        (job_charged plant s run charge n + did_charge plant (call_at s (begun_by run n).calls).stated d.phase d.change (charge n d))
        (omega (arith, le, m d))

pub shorter_calls_close : ShorterCallsClose
shorter_calls_close plant run s short charge cost longest less h = record {
  jobs = λ n d e. omega (arith, closed_within plant run s short charge less n, did_less plant run s short charge less n d, h.jobs n d e);
}

pub charged_tasks_close : ChargedTasksClose
charged_tasks_close plant run s charge cost interval opens longest h = shorter_calls_close plant run s (λ i. short_of s opens longest i) charge cost interval (λ i. omega arith) h
