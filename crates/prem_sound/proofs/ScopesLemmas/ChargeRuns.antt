-- What the job and the stretch in which a task's run on its own stands are charged.
use Rattle.std.proofs.Common.{◌≡◌, ℕ, zero, suc, ◌+◌, ◌*◌, ◌<◌, ◌≤◌, refl, ap, ◌∙◌, sym, subst, arith, Some, None, Option, List, length}
use Rattle.prem_sound.proofs.Prelude.{cost_bounds, IsLawful, cost_of, TaskRun, PlainState, Did, moved_by, after_change, plain_did, plain_step, plain_steps, plain_run, Change, Stay, Memory}
use Rattle.prem_sound.proofs.Prelude.{Execute, End, Job, Phase, Compatible, Execution, Plant, within_job, within_stretch, Scoping, lines_with, scope_with, scope_by, lines_charged}
use Rattle.prem_sound.proofs.Prelude.{charge_with, Charges, own_charge, did_charge, job_with, job_charged, stretch_with, stretch_charged, IsCharged, charge_due, all_charged, line_cost}
use Rattle.prem_sound.proofs.Prelude.{crowded_of, begun_by, change_due, Script, call_at, lines_of_did}
use Rattle.prem_isa.specs.declared.effect.Phase.TheVariants.{Memory as MemoryPhase}
use Rattle.prem_sound.proofs.ScriptLemmas.Begins.{Executed, executed, did_lawful, still_by}

pub scope_by-next : (run : TaskRun) (scoping : Scoping) (n : ℕ) → scope_by run scoping (n + 1) ≡ scope_with (plain_did run (plain_run run n)) (lines_with (scoping n) (scope_by run scoping n))
unfolding scope_by
scope_by-next run scoping n = let e : n + 1 ≡ suc n = omega arith in ap (scope_by run scoping) e

pub job_charged-next : (plant : Plant) (s : Script) (run : TaskRun) (charge : Charges) (n : ℕ) →
    job_charged plant s run charge (n + 1) ≡ job_with plant s (begun_by run n) charge n (plain_did run (plain_run run n)) (job_charged plant s run charge n)
unfolding job_charged
job_charged-next plant s run charge n = let e : n + 1 ≡ suc n = omega arith in ap (job_charged plant s run charge) e

pub stretch_charged-next : (run : TaskRun) (charge : Charges) (n : ℕ) → stretch_charged run charge (n + 1) ≡ stretch_with charge n (plain_did run (plain_run run n)) (stretch_charged run charge n)
unfolding stretch_charged
stretch_charged-next run charge n = let e : n + 1 ≡ suc n = omega arith in ap (stretch_charged run charge) e

pub all_charged-next : (plant : Plant) (s : Script) (run : TaskRun) (charge : Charges) (n : ℕ) →
    all_charged plant s run charge (n + 1) ≡ all_charged plant s run charge n + charge_due plant s (begun_by run n) charge n (plain_did run (plain_run run n))
unfolding all_charged
all_charged-next plant s run charge n = let e : n + 1 ≡ suc n = omega arith in ap (all_charged plant s run charge) e

-- ---- a job that isn't over

-- each instruction is charged its cost
pub some_charge : (plant : Plant) (o : Option (List ℕ)) (lines : List ℕ) (d : Did) → 1 ≤ charge_with plant o lines d
some_charge plant o lines d = sum (cost_of d.instr) ((lines_charged plant o + length (crowded_of plant lines (lines_of_did plant.line d))) * line_cost plant) (cost_bounds d.instr).0 where
  sum : (c x : ℕ) → 1 ≤ c → 1 ≤ c + x
  sum c x h = omega (arith, h)

-- a job's last instruction is due with a switch
pub last_charge : (plant : Plant) (stated charge : ℕ) (d : Did) (phase : Phase) (c : Change) → IsLawful phase c → d.phase ≡ phase → d.change ≡ c →
    c ≡ Job → 1 ≤ charge → 1 + plant.switch ≤ did_charge plant stated d.phase d.change charge
last_charge plant stated charge d phase c l e f job some =
    let b : change_due plant stated d.change ≡ plant.switch = ap (change_due plant stated) (f ∙ job) in
    let ph : d.phase ≡ Compatible = e ∙ subst (IsLawful phase) job l in
    subst (λ p. 1 + plant.switch ≤ did_charge plant stated p d.change charge) (sym ph) (sum charge (change_due plant stated d.change) plant.switch some b) where
      sum : (x y z : ℕ) → 1 ≤ x → y ≡ z → 1 + z ≤ x + y
      sum x y z h e = omega (arith, h, e)

module _ (plant : Plant) (s : Script) (run : TaskRun) (charge : Charges) (cost longest : ℕ) (some : (n : ℕ) (d : Did) → 1 ≤ charge n d) (h : IsCharged plant run s charge cost longest) where
  -- what is left for it
  abbrev IsLeft : ℕ → Type 0
  IsLeft job = job + (1 + plant.switch) ≤ cost

  abbrev with_did : ℕ → Did → ℕ
  with_did n d = job_charged plant s run charge n + did_charge plant (call_at s (begun_by run n).calls).stated d.phase d.change (charge n d)

  -- an instruction before another one, or the last one of the job
  left_by : (n : ℕ) (d : Did) (c : Change) → d.change ≡ c → plain_did run (plain_run run n) ≡ Some d → ((c ≡ Job → ⊥) → (plain_step run (plain_run run n)).ended ≡ (plain_run run n).ended) →
      ((plain_step run (plain_run run n)).ended ≡ (plain_run run n).ended → IsLeft (within_job c (with_did n d))) → IsLeft (job_charged plant s run charge n)
  left_by n d Job e did same more =
      let st : PlainState = plain_run run n in
      let x : Executed run st d = executed run st d did in
      let l : IsLawful st.task.phase d.change = did_lawful run st d x in
      let due : 1 + plant.switch ≤ did_charge plant (call_at s (begun_by run n).calls).stated d.phase d.change (charge n d) =
      last_charge plant (call_at s (begun_by run n).calls).stated (charge n d) d st.task.phase d.change l (ap (λ (f : Did). f.phase) x.did_is) refl e (some n d) in
      omega (arith, due, h.jobs n d did)
  left_by n d Stay e did same more = let y : with_did n d + (1 + plant.switch) ≤ cost = more (same (λ x. cc)) in omega (arith, y)
  left_by n d Memory e did same more = let y : with_did n d + (1 + plant.switch) ≤ cost = more (same (λ x. cc)) in omega (arith, y)
  left_by n d (Execute stated) e did same more = let y : with_did n d + (1 + plant.switch) ≤ cost = more (same (λ x. cc)) in omega (arith, y)
  left_by n d End e did same more = let y : with_did n d + (1 + plant.switch) ≤ cost = more (same (λ x. cc)) in omega (arith, y)

  changed_ended : (c : Change) (x : PlainState) → (c ≡ Job → ⊥) → (after_change run c x).ended ≡ x.ended
  changed_ended Stay x ne = refl
  changed_ended Memory x ne = refl
  changed_ended (Execute stated) x ne = refl
  changed_ended End x ne = refl
  changed_ended Job x ne = absurd (ne refl)

  same_ended : (n : ℕ) (d : Did) → plain_did run (plain_run run n) ≡ Some d → (d.change ≡ Job → ⊥) → (plain_step run (plain_run run n)).ended ≡ (plain_run run n).ended
  same_ended n d did ne =
      let x : Executed run (plain_run run n) d = executed run (plain_run run n) d did in
      let c : d.change ≡ x.effect.change = ap (λ (f : Did). f.change) x.did_is in
      ap (λ (q : PlainState). q.ended) x.next ∙ changed_ended x.effect.change (moved_by x.effect (plain_run run n)) (λ e. ne (c ∙ e))

  left_with : (n : ℕ) (o : Option Did) → plain_did run (plain_run run n) ≡ o →
      ((plain_step run (plain_run run n)).ended ≡ (plain_run run n).ended →
      IsLeft (job_with plant s (begun_by run n) charge n o (job_charged plant s run charge n))) → IsLeft (job_charged plant s run charge n)
  left_with n None did more = more (still_by (λ (t : PlainState). t.ended ≡ (plain_run run n).ended) run (plain_run run n) did refl (λ cause. refl))
  left_with n (Some d) did more = left_by n d d.change refl did (same_ended n d did) more

  left_ahead : (m n : ℕ) → (plain_run run n).ended < run.jobs → run.jobs ≤ (plain_run run (n + m)).ended → IsLeft (job_charged plant s run charge n)
  unfolding job_charged plain_steps
  left_ahead zero n lt end = let e : n + 0 ≡ n = omega arith in absurd (let z : run.jobs ≤ (plain_run run n).ended = subst (λ k. run.jobs ≤ (plain_run run k).ended) e end in omega (arith, z, lt))
  left_ahead (suc m) n lt end =
      let e : n + suc m ≡ suc n + m = omega arith in
      left_with n (plain_did run (plain_run run n)) refl
      (λ same. left_ahead m (suc n) (omega (arith, same, lt)) (subst (λ k. run.jobs ≤ (plain_run run k).ended) e end))

  -- while a job isn't over, its last instruction is left, with a switch
  pub job_left : (n m : ℕ) → (plain_run run n).ended < run.jobs → ((k : ℕ) → m ≤ k → run.jobs ≤ (plain_run run k).ended) → IsLeft (job_charged plant s run charge n)
  job_left n m lt ends = left_ahead m n lt (ends (n + m) (omega arith))

  -- a stretch is no longer than an interval
  stretch_in : (ph : Phase) (c : Change) (stretch charge : ℕ) → (ph ≡ Compatible → plant.switch + stretch + charge ≤ longest) →
      plant.switch + stretch ≤ longest → plant.switch + within_stretch c (stretch + own_charge ph charge) ≤ longest
  stretch_in Compatible Stay stretch d most h = omega (arith, most refl)
  stretch_in Compatible Memory stretch d most h = omega (arith, h)
  stretch_in Compatible (Execute stated) stretch d most h = omega (arith, most refl)
  stretch_in Compatible End stretch d most h = omega (arith, h)
  stretch_in Compatible Job stretch d most h = omega (arith, h)
  stretch_in MemoryPhase Stay stretch d most h = omega (arith, h)
  stretch_in MemoryPhase Memory stretch d most h = omega (arith, h)
  stretch_in MemoryPhase (Execute stated) stretch d most h = omega (arith, h)
  stretch_in MemoryPhase End stretch d most h = omega (arith, h)
  stretch_in MemoryPhase Job stretch d most h = omega (arith, h)
  stretch_in Execution Stay stretch d most h = omega (arith, h)
  stretch_in Execution Memory stretch d most h = omega (arith, h)
  stretch_in Execution (Execute stated) stretch d most h = omega (arith, h)
  stretch_in Execution End stretch d most h = omega (arith, h)
  stretch_in Execution Job stretch d most h = omega (arith, h)

  stretch_next : (n : ℕ) (o : Option Did) → plain_did run (plain_run run n) ≡ o → plant.switch + stretch_charged run charge n ≤ longest →
      plant.switch + stretch_with charge n o (stretch_charged run charge n) ≤ longest
  stretch_next n None e was = was
  stretch_next n (Some d) e was = stretch_in d.phase d.change (stretch_charged run charge n) (charge n d) (λ c. h.stretches n d e c) was

  pub stretch_most : (n : ℕ) → plant.switch + stretch_charged run charge n ≤ longest
  unfolding stretch_charged
  stretch_most zero = omega (arith, h.calls 0)
  stretch_most (suc n) = stretch_next n (plain_did run (plain_run run n)) refl (stretch_most n)
