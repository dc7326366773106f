-- What a task's run on its own is charged in all, instruction by instruction.
use Rattle.std.proofs.Common.{◌≡◌, ℕ, zero, suc, ◌+◌, ◌-◌, ◌*◌, ◌<◌, ◌≤◌, refl, ap, ◌∙◌, sym, subst, arith, ltb, true, false, Some, None, Option, ◌⊎◌, inl, inr, ⊎_elim}
use Rattle.prem_sound.proofs.Prelude.{TaskRun, PlainState, Did, moved_by, after_change, is_running, plain_did, plain_step, plain_steps, plain_run, Change, Stay, Memory, Execute, End, Job}
use Rattle.prem_sound.proofs.Prelude.{Plant, within_job, Charges, did_charge, job_with, job_charged, charge_due, all_charged, IsCharged, ChargesSumUp, begun_by, Script, call_at, add-mul}
use Rattle.prem_sound.proofs.Prelude.{and_parts, cases_Bool, cases_lt, ltb-true, is_none}
use Rattle.prem_sound.proofs.CallRuns.{ended_before, none_did}
use Rattle.prem_sound.proofs.Ends.{not_running, behind_end, ended_most}
use Rattle.prem_sound.proofs.ScopesLemmas.ChargeRuns.{last_charge}
use Rattle.prem_sound.proofs.ScriptLemmas.Begins.{Executed, executed, did_lawful, still_by}

module _ (plant : Plant) (s : Script) (run : TaskRun) (charge : Charges) (some : (n : ℕ) (d : Did) → 1 ≤ charge n d) where
  abbrev all : ℕ → ℕ
  all n = all_charged plant s run charge n

  abbrev next : ℕ → ℕ
  next n = charge_due plant s (begun_by run n) charge n (plain_did run (plain_run run n))

  grows : (n m : ℕ) → all n ≤ all (n + m)
  unfolding all_charged
  grows n zero = let e : n + 0 ≡ n = omega arith in subst (λ k. all n ≤ all k) (sym e) (omega arith)
  grows n (suc m) =
      let e : n + suc m ≡ suc (n + m) = omega arith in
      let a : all n ≤ all (n + m) = grows n m in
      subst (λ k. all n ≤ all k) (sym e) (omega (arith, a))

  stays : (n m : ℕ) → run.jobs ≤ (plain_run run n).ended → all (n + m) ≡ all n
  unfolding all_charged
  stays n zero h = let e : n + 0 ≡ n = omega arith in ap all e
  stays n (suc m) h =
      let e : n + suc m ≡ suc (n + m) = omega arith in
      let le : n ≤ n + m = omega arith in
      let over : is_running run (plain_run run (n + m)) ≡ false = ap (is_running run) (behind_end run n (n + m) h le) ∙ not_running run (plain_run run n) h in
      let none : next (n + m) ≡ 0 = ap (charge_due plant s (begun_by run (n + m)) charge (n + m)) (none_did run (plain_run run (n + m)) over) in
      let a : all (n + m) ≡ all n = stays n m h in
      ap all e ∙ omega (arith, none, a)

  -- never more than in the end
  pub charged_most : (n m : ℕ) → run.jobs ≤ (plain_run run m).ended → all n ≤ all m
  charged_most n m h =
      ⊎_elim (λ (lt : n < m).
      let e : n + (m - n) ≡ m = omega (arith, lt) in
      subst (λ k. all n ≤ all k) e (grows n (m - n)))
      (λ (le : m ≤ n).
      let e : m + (n - m) ≡ n = omega (arith, le) in
      let a : all n ≡ all m = ap all (sym e) ∙ stays m (n - m) h in
      omega (arith, a))
      (cases_lt n m)

  -- the instruction that ends the last job is charged a switch
  job_step : (n : ℕ) (o : Option Did) → plain_did run (plain_run run n) ≡ o → (plain_run run n).ended < run.jobs →
      run.jobs ≤ (plain_step run (plain_run run n)).ended → 1 + plant.switch ≤ charge_due plant s (begun_by run n) charge n o
  job_step n None e lt h =
      let st : PlainState = plain_run run n in
      let same : (plain_step run st).ended ≡ st.ended = still_by (λ (t : PlainState). t.ended ≡ st.ended) run st e refl (λ cause. refl) in
      absurd (omega (arith, same, lt, h))
  job_step n (Some d) e lt h =
      let st : PlainState = plain_run run n in
      let x : Executed run st d = executed run st d e in
      let job : d.change ≡ Job = ap (λ (f : Did). f.change) x.did_is ∙ ended_before run x.effect.change (moved_by x.effect st) (subst (λ (t : PlainState). run.jobs ≤ t.ended) x.next h) lt in
      last_charge plant (call_at s (begun_by run n).calls).stated (charge n d) d st.task.phase d.change (did_lawful run st d x) (ap (λ (f : Did). f.phase) x.did_is) refl job (some n d)

  ahead : (m n : ℕ) → (plain_run run n).ended < run.jobs → run.jobs ≤ (plain_run run (n + m)).ended → all n + 1 + plant.switch ≤ all (n + m)
  unfolding all_charged plain_steps
  ahead zero n lt h = let e : n + 0 ≡ n = omega arith in absurd (let z : run.jobs ≤ (plain_run run n).ended = subst (λ k. run.jobs ≤ (plain_run run k).ended) e h in omega (arith, z, lt))
  ahead (suc m) n lt h =
      let e : n + suc m ≡ suc n + m = omega arith in
      let x : ℕ = next n in
      subst (λ k. all n + 1 + plant.switch ≤ all k) (sym e)
      (⊎_elim (λ (more : (plain_run run (suc n)).ended < run.jobs).
      let r : all n + x + 1 + plant.switch ≤ all (suc n + m) = ahead m (suc n) more (subst (λ k. run.jobs ≤ (plain_run run k).ended) e h) in
      omega (arith, r))
      (λ (done : run.jobs ≤ (plain_run run (suc n)).ended).
      let j : 1 + plant.switch ≤ x = job_step n (plain_did run (plain_run run n)) refl lt done in
      let g : all n + x ≤ all (suc n + m) = grows (suc n) m in
      omega (arith, j, g))
      (cases_lt (plain_run run (suc n)).ended run.jobs))

  -- while a job isn't done
  pub charged_left : (n m : ℕ) → (plain_run run n).ended < run.jobs → run.jobs ≤ (plain_run run m).ended → all n + (1 + plant.switch) ≤ all m
  charged_left n m lt h =
      ⊎_elim (λ (less : n < m).
      let e : n + (m - n) ≡ m = omega (arith, less) in
      let a : all n + 1 + plant.switch ≤ all (n + (m - n)) = ahead (m - n) n lt (subst (λ k. run.jobs ≤ (plain_run run k).ended) (sym e) h) in
      subst (λ k. all n + (1 + plant.switch) ≤ all k) e (omega (arith, a)))
      (λ (le : m ≤ n). absurd (let z : run.jobs ≤ (plain_run run n).ended = subst (λ (t : PlainState). run.jobs ≤ t.ended) (sym (behind_end run m n h le)) h in omega (arith, z, lt)))
      (cases_lt n m)

-- ---- by jobs

did_runs : (run : TaskRun) (x : PlainState) (d : Did) → plain_did run x ≡ Some d → x.ended < run.jobs
did_runs run x d e =
    ⊎_elim (λ (on : is_running run x ≡ true). ltb-true x.ended run.jobs (and_parts (is_none x.trapped) (ltb x.ended run.jobs) on).1)
    (λ (off : is_running run x ≡ false). absurd (let z : None ≡ Some d = sym (none_did run x off) ∙ e in cc))
    (cases_Bool (is_running run x))

module _ (plant : Plant) (s : Script) (run : TaskRun) (charge : Charges) (cost longest : ℕ) (h : IsCharged plant run s charge cost longest) where
  -- the jobs that are over, and the one that isn't
  record Jobs (n : ℕ) (y : PlainState) : Type 0 where
    most : all_charged plant s run charge n ≤ y.ended * cost + job_charged plant s run charge n
    left : (y.ended < run.jobs) ⊎ (job_charged plant s run charge n ≡ 0)

  record Moved (all job : ℕ) (y : PlainState) : Type 0 where
    most : all ≤ y.ended * cost + job
    left : (y.ended < run.jobs) ⊎ (job ≡ 0)

  same_jobs : (c : Change) (x : PlainState) → (c ≡ Job → ⊥) → (after_change run c x).ended ≡ x.ended
  same_jobs Stay x ne = refl
  same_jobs Memory x ne = refl
  same_jobs (Execute stated) x ne = refl
  same_jobs End x ne = refl
  same_jobs Job x ne = absurd (ne refl)

  moved : (c : Change) (all job v : ℕ) (x y : PlainState) → y ≡ after_change run c x → x.ended < run.jobs → job + v ≤ cost → all ≤ x.ended * cost + job → Moved (all + v) (within_job c (job + v)) y
  moved Job all job v x y e lt fits le =
      let one : y.ended ≡ x.ended + 1 = ap (λ (q : PlainState). q.ended) e in
      let product : y.ended * cost ≡ x.ended * cost + cost = ap (λ m. m * cost) one
      ∙ (let z : (x.ended + 1) * cost ≡ x.ended * cost + 1 * cost = add-mul x.ended 1 cost in let w : 1 * cost ≡ cost = omega arith in
      omega (arith, z, w)) in
      record { most = omega (arith, product, fits, le); left = inr refl }
  moved Stay all job v x y e lt fits le = stays_in Stay (λ z. let q : Stay ≡ Job = z in cc) all job v x y e lt le where
    stays_in : (c : Change) → (c ≡ Job → ⊥) → (all job v : ℕ) (x y : PlainState) → y ≡ after_change run c x → x.ended < run.jobs → all ≤ x.ended * cost + job → Moved (all + v) (job + v) y
    stays_in c ne all job v x y e lt le =
        let same : y.ended ≡ x.ended = ap (λ (q : PlainState). q.ended) e ∙ same_jobs c x ne in
        record { most = (let product : y.ended * cost ≡ x.ended * cost = ap (λ m. m * cost) same in omega (arith, product, le)); left = inl (omega (arith, same, lt)) }
  moved Memory all job v x y e lt fits le =
      let same : y.ended ≡ x.ended = ap (λ (q : PlainState). q.ended) e in
      record { most = (let product : y.ended * cost ≡ x.ended * cost = ap (λ m. m * cost) same in omega (arith, product, le)); left = inl (omega (arith, same, lt)) }
  moved (Execute stated) all job v x y e lt fits le =
      let same : y.ended ≡ x.ended = ap (λ (q : PlainState). q.ended) e in
      record { most = (let product : y.ended * cost ≡ x.ended * cost = ap (λ m. m * cost) same in omega (arith, product, le)); left = inl (omega (arith, same, lt)) }
  moved End all job v x y e lt fits le =
      let same : y.ended ≡ x.ended = ap (λ (q : PlainState). q.ended) e in
      record { most = (let product : y.ended * cost ≡ x.ended * cost = ap (λ m. m * cost) same in omega (arith, product, le)); left = inl (omega (arith, same, lt)) }

  next_jobs : (n : ℕ) (o : Option Did) → plain_did run (plain_run run n) ≡ o → Jobs n (plain_run run n) →
      Moved (all_charged plant s run charge n + charge_due plant s (begun_by run n) charge n o)
      (job_with plant s (begun_by run n) charge n o (job_charged plant s run charge n)) (plain_step run (plain_run run n))
  next_jobs n None e j =
      let x : PlainState = plain_run run n in
      let same : (plain_step run x).ended ≡ x.ended = still_by (λ (t : PlainState). t.ended ≡ x.ended) run x e refl (λ cause. refl) in
      record {
        most = (let product : (plain_step run x).ended * cost ≡ x.ended * cost = ap (λ m. m * cost) same in omega (arith, product, j.most));
        left = ⊎_elim (λ (lt : x.ended < run.jobs). inl (omega (arith, same, lt))) (λ (z : job_charged plant s run charge n ≡ 0). inr z) j.left;
      }
  next_jobs n (Some d) e j =
      let x : PlainState = plain_run run n in
      let ex : Executed run x d = executed run x d e in
      let c : d.change ≡ ex.effect.change = ap (λ (f : Did). f.change) ex.did_is in
      let v : ℕ = did_charge plant (call_at s (begun_by run n).calls).stated d.phase d.change (charge n d) in
      moved d.change (all_charged plant s run charge n) (job_charged plant s run charge n) v (moved_by ex.effect x) (plain_step run x)
      (ex.next ∙ ap (λ q. after_change run q (moved_by ex.effect x)) (sym c)) (did_runs run x d e) (h.jobs n d e) j.most

  first_jobs : Jobs 0 (plain_run run 0)
  unfolding all_charged job_charged plain_steps
  first_jobs = record { most = omega arith; left = inr refl }

  jobs_by : (n : ℕ) → Jobs n (plain_run run n)
  unfolding all_charged job_charged plain_steps
  jobs_by zero = first_jobs
  jobs_by (suc n) =
      let m : Moved (all_charged plant s run charge n + charge_due plant s (begun_by run n) charge n (plain_did run (plain_run run n)))
      (job_with plant s (begun_by run n) charge n (plain_did run (plain_run run n)) (job_charged plant s run charge n)) (plain_step run (plain_run run n)) =
      next_jobs n (plain_did run (plain_run run n)) refl (jobs_by n) in
      record { most = m.most; left = m.left }

pub charges_sum_up : ChargesSumUp
charges_sum_up plant run s charge cost longest n h done =
    let j : Jobs plant s run charge cost longest h n (plain_run run n) = jobs_by plant s run charge cost longest h n in
    let most : (plain_run run n).ended ≤ run.jobs = ended_most run n in
    let same : (plain_run run n).ended ≡ run.jobs = omega (arith, most, done) in
    let product : (plain_run run n).ended * cost ≡ run.jobs * cost = ap (λ m. m * cost) same in
    ⊎_elim (λ (lt : (plain_run run n).ended < run.jobs). absurd (omega (arith, lt, done)))
    (λ (z : job_charged plant s run charge n ≡ 0). omega (arith, j.most, product, z))
    j.left
