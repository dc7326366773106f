-- Each task that is charged along its weave keeps closed what it is charged, and opens its calls within what they state.
use Rattle.std.proofs.Common.{◌≡◌, ℕ, zero, suc, ◌+◌, ◌*◌, ◌≤◌, refl, ap, ◌∙◌, sym, subst, arith, List, [], ◌∷◌, length}
use Rattle.prem_plant.specs.declared.plant.Plant.{Plant}
use Rattle.prem_isa.specs.declared.effect.Phase.TheVariants.{Memory as MemoryPhase}
use Rattle.prem_isa.specs.Bounds.{IsLawful}
use Rattle.prem_isa.specs.Decode.{cost_of}
use Rattle.prem_isa.specs.Plain.{TaskRun, Did, plain_run, plain_trace}
use Rattle.prem_cycle.specs.Core.{is_predictable}
use Rattle.prem_sound.specs.Script.Script.{cost_of_dids, change_due, none_begun, Begun, begun_after, Call, Script, call_at, call_of, IsStep}
use Rattle.prem_sound.specs.Script.Conforms.{KeepsCalls, Conforms}
use Rattle.prem_sound.specs.Paced.Paced.{within_job, within_stretch}
use Rattle.prem_sound.proofs.ScriptLemmas.Begins.{Executed, executed, did_lawful}
use Rattle.prem_sets_sound.specs.Weave.Weave.{dids_of, calls_of}
use Rattle.prem_sets_sound.specs.StubLaws.JoinedRuns.Joined.{TaskJoins}
use Rattle.prem_sets_sound.proofs.WeaveLemmas.Woven.{woven_runs_conform}
use Rattle.prem_sound.specs.Scopes.Scopes.{charge_of}
use Rattle.prem_sound.specs.Scopes.Strands.{Strand, ends, runs, calls, last_change, calls_begun, scope_due, ChargedFrom}
use Rattle.prem_sets_sound.specs.StubLaws.Charges.Charges.{script_of}
use Rattle.prem_sets_sound.proofs.StubLawsLemmas.ChargesLemmas.Singles.{paced_tasks_are_charged}
use Rattle.prem_latency.specs.Opened.{OpensAlong}
use Rattle.prem_latency.proofs.Closes.{change_more, job_more}
use Rattle.prem_sound.proofs.ScopesLemmas.StrandRuns.{ListGoes, list_goes, first_state}
use Rattle.prem_latency.specs.Joined.{shortened, ChargedTasksWait, PacedTasksWait}
use Rattle.prem_latency.proofs.JoinedRuns.{opens_look}

-- what keeps the calls of a script opens them within what they state
keeps_open : (plant : Plant) (passes : ℕ → ℕ) (run : TaskRun) (s : Script) (ds : List Did) (n : ℕ) (b : Begun) → ListGoes run n ds →
    KeepsCalls plant passes s b ds → OpensAlong plant s (λ i. (call_at s i).stated) b ds
keeps_open plant passes run s [] n b g k = tt
keeps_open plant passes run s (d ∷ ds) n b g k = (
  λ stated c.
      let x : Executed run (plain_run run n) d = executed run (plain_run run n) d g.0 in
      let l : IsLawful (plain_run run n).task.phase d.change = did_lawful run (plain_run run n) d x in
      let ph : (plain_run run n).task.phase ≡ MemoryPhase = subst (IsLawful (plain_run run n).task.phase) c l in
      let same : d.phase ≡ (plain_run run n).task.phase = ap (λ (f : Did). f.phase) x.did_is in
      let st : IsStep plant passes (call_of s b) b.steps d = k.0 (ap is_predictable (same ∙ ph)) in
      sum (cost_of_dids b.steps) (cost_of d.instr) (length (call_of s b).members * (plant.fill + plant.back)) (call_of s b).stated st.fits,
  keeps_open plant passes run s ds (n + 1) (begun_after d.change d b) g.1 k.1,
) where
  sum : (a b c s : ℕ) → a + b + c ≤ s → a + c ≤ s
  sum a b c s h = omega (arith, h)

-- with calls that state less a strand is charged no more
pub charged_less : (plant : Plant) (s other : Script) (cost most begun job job' stretch : ℕ) (w : Strand) →
    ((i : ℕ) → (call_at other i).stated ≤ (call_at s i).stated) → job' ≤ job → ChargedFrom plant s cost most begun job stretch w →
    ChargedFrom plant other cost most begun job' stretch w
charged_less plant s other cost most begun job job' stretch ends less le h = tt
charged_less plant s other cost most begun job job' stretch (runs x rest) less le h =
    let m : change_due plant (call_at other begun).stated (last_change x.dids) ≤ change_due plant (call_at s begun).stated (last_change x.dids) =
    change_more plant (last_change x.dids) (call_at other begun).stated (call_at s begun).stated (less begun) in
    let more : job' + scope_due plant other begun x ≤ job + scope_due plant s begun x =
    sum job' job (charge_of plant x) (change_due plant (call_at other begun).stated (last_change x.dids))
    (change_due plant (call_at s begun).stated (last_change x.dids)) le m in (
      within (job' + scope_due plant other begun x) (job + scope_due plant s begun x) cost more h.0,
      h.1,
      charged_less plant s other cost most (begun + calls_begun (last_change x.dids))
          (within_job (last_change x.dids) (job + scope_due plant s begun x)) (within_job (last_change x.dids) (job' + scope_due plant other begun x))
          (within_stretch (last_change x.dids) (stretch + charge_of plant x)) rest less
          (job_more (last_change x.dids) (job' + scope_due plant other begun x) (job + scope_due plant s begun x) more) h.2,
    ) where
      sum : (j' j c x y : ℕ) → j' ≤ j → x ≤ y → j' + (c + x) ≤ j + (c + y)
      sum j' j c x y a b = omega (arith, a, b)

      within : (x y z : ℕ) → x ≤ y → y ≤ z → x ≤ z
      within x y z a b = omega (arith, a, b)
charged_less plant s other cost most begun job job' stretch (calls ds rest) less le h = charged_less plant s other cost most begun job job' stretch rest less le h

shortened_less : (cs : List Call) (opens : ℕ → ℕ) (longest i : ℕ) → (call_at (script_of (shortened opens longest cs)) i).stated ≤ (call_at (script_of cs) i).stated
shortened_less [] opens longest i = omega arith
shortened_less (c ∷ cs) opens longest zero = omega arith
shortened_less (c ∷ cs) opens longest (suc i) = shortened_less cs (λ n. opens (suc n)) longest i

pub charged_tasks_wait : ChargedTasksWait
charged_tasks_wait p passes own run most cycles longest top q t =
    let j : TaskJoins p passes own run most q = t.joins in
    let ds : List Did = dids_of j.weave in
    let stated : ℕ → ℕ = λ i. (call_at (script_of (calls_of j.weave)) i).stated in
    let c : Conforms p passes own run (calls_of j.weave) (run.jobs * most.cycles) ds = woven_runs_conform p passes own q.reads run (run.jobs * most.cycles) j.weave j.ending j.woven in
    let g : ListGoes run 0 ds = list_goes run ds 0 (ap (plain_trace run (length ds)) (sym (first_state run)) ∙ c.trace) in
    record {
      charges = t;
      opens = stated;
      opened = opens_look p.plant (record { count = length ds; calls = calls_of j.weave; due = run.jobs * most.cycles }) (script_of (calls_of j.weave)) stated none_begun ds refl
          (keeps_open p.plant passes run (record { count = length ds; calls = calls_of j.weave; due = run.jobs * most.cycles }) ds 0 none_begun g c.keeps);
      strand = t.strand;
      dids_are = t.dids_are;
      scopes = t.scopes;
      stretch = longest;
      closes = charged_less p.plant (script_of (calls_of j.weave)) (script_of (shortened stated top (calls_of j.weave)))
          cycles longest 0 0 0 0 t.strand (shortened_less (calls_of j.weave) stated top) (omega arith) t.charged;
    }

pub paced_tasks_wait : PacedTasksWait
paced_tasks_wait p passes own run most longest top q h = charged_tasks_wait p passes own run most most.cycles longest top q (paced_tasks_are_charged p passes own run most longest q h)
