-- What a task's run on its own has done of its calls, instruction by instruction.
use Rattle.std.proofs.Common.{◌≡◌, ℕ, zero, suc, ◌+◌, refl, ap, ◌∙◌, sym, subst, arith, cond, true, false, Bool, Some, None, Option, List, [], ◌∷◌, ◌++◌}
use Rattle.prem_sound.proofs.Prelude.{is_predictable, act_lawful, fetch, phase_after, OnDone, EffectLawful, IsLawful, TaskRun, PlainState, Did, did_of, did_with, did_fetched, next_input}
use Rattle.prem_sound.proofs.Prelude.{trap_at, moved_by, after_change, after_outcome, outcome_of, is_running, plain_did, plain_step, plain_steps, plain_run, Cause, Change, Stay, Memory}
use Rattle.prem_sound.proofs.Prelude.{Execute, End, Job, Effect, Outcome, Trap, Done, Phase, Compatible, Execution, Instr, AllIn, Plant, lines_of_did, lines_of_dids, Begun, steps_after}
use Rattle.prem_sound.proofs.Prelude.{begun_after, begun_with, begun_by, Call, IsCovered, Opens, IsStep, Script, call_of, IsScript, Result, Ok, Err}
use Rattle.prem_isa.specs.declared.effect.Phase.TheVariants.{Memory as MemoryPhase}
use Rattle.prem_sound.proofs.ScriptLemmas.Residency.{lines_of_dids-last, covered_more}

-- ---- one instruction

-- an executed instruction, and what it leaves
pub record Executed (run : TaskRun) (s : PlainState) (d : Did) : Type 0 where
  pub instr : Instr
  pub effect : Effect
  pub did_is : d ≡ did_of s.pc s.task.phase instr effect
  pub next : plain_step run s ≡ after_change run effect.change (moved_by effect s)
  pub lawful : EffectLawful s.task.phase effect

executed_done : (run : TaskRun) (s : PlainState) (i : Instr) (o : Outcome) (d : Did) → plain_step run s ≡ after_outcome run o s →
    OnDone (EffectLawful s.task.phase) o → did_with s.pc s.task.phase i o ≡ Some d → Executed run s d
executed_done run s i (Trap cause) d next l e = absurd (let x : None ≡ Some d = e in cc)
executed_done run s i (Done f) d next l e =
    let x : Some (did_of s.pc s.task.phase i f) ≡ Some d = e in
    record { instr = i; effect = f; did_is = cc; next = next; lawful = l }

executed_fetched : (run : TaskRun) (s : PlainState) (f : Result Instr Cause) (d : Did) → plain_step run s ≡ after_outcome run (outcome_of run s f) s → did_fetched run s f ≡ Some d → Executed run s d
executed_fetched run s (Err cause) d next e = absurd (let x : None ≡ Some d = e in cc)
executed_fetched run s (Ok i) d next e =
    executed_done run s i (outcome_of run s (Ok i)) d next (act_lawful run.target run.size s.task.view s.task.registers s.pc s.task.phase (next_input s.task.left) i) e

pub executed : (run : TaskRun) (s : PlainState) (d : Did) → plain_did run s ≡ Some d → Executed run s d
executed run s d h = by (is_running run s) refl where
  by : (b : Bool) → is_running run s ≡ b → Executed run s d
  by true e =
      executed_fetched run s (fetch run.size s.task.view s.pc) d
      (ap (λ c. cond c (after_outcome run (outcome_of run s (fetch run.size s.task.view s.pc)) s) s) e)
      (let none : Option Did = None in sym (ap (λ c. cond c (did_fetched run s (fetch run.size s.task.view s.pc)) none) e) ∙ h)
  by false e =
      let none : Option Did = None in
      let x : None ≡ Some d = sym (ap (λ c. cond c (did_fetched run s (fetch run.size s.task.view s.pc)) none) e) ∙ h in
      absurd cc

changed_phase : (run : TaskRun) (c : Change) (s : PlainState) → (after_change run c s).task.phase ≡ s.task.phase
changed_phase run Stay s = refl
changed_phase run Memory s = refl
changed_phase run (Execute stated) s = refl
changed_phase run End s = refl
changed_phase run Job s = refl

-- the phase behind it
pub next_phase : (run : TaskRun) (s : PlainState) (d : Did) → Executed run s d → (plain_step run s).task.phase ≡ phase_after d.change s.task.phase
next_phase run s d x =
    ap (λ (q : PlainState). q.task.phase) x.next ∙ changed_phase run x.effect.change (moved_by x.effect s)
    ∙ ap (λ (e : Did). phase_after e.change s.task.phase) (sym x.did_is)

pub did_lawful : (run : TaskRun) (s : PlainState) (d : Did) → Executed run s d → IsLawful s.task.phase d.change
did_lawful run s d x = subst (λ (e : Did). IsLawful s.task.phase e.change) (sym x.did_is) x.lawful.change

-- where nothing is executed it stays, or traps
still_outcome : (P : PlainState → Type 0) (run : TaskRun) (s : PlainState) (i : Instr) (o : Outcome) → ((cause : Cause) → P (trap_at cause s)) →
    did_with s.pc s.task.phase i o ≡ None → P (after_outcome run o s)
still_outcome P run s i (Trap cause) t e = t cause
still_outcome P run s i (Done f) t e = absurd (let x : Some (did_of s.pc s.task.phase i f) ≡ None = e in cc)

still_fetched : (P : PlainState → Type 0) (run : TaskRun) (s : PlainState) (f : Result Instr Cause) → ((cause : Cause) → P (trap_at cause s)) →
    did_fetched run s f ≡ None → P (after_outcome run (outcome_of run s f) s)
still_fetched P run s (Err cause) t e = t cause
still_fetched P run s (Ok i) t e = still_outcome P run s i (outcome_of run s (Ok i)) t e

pub still_by : (P : PlainState → Type 0) (run : TaskRun) (s : PlainState) → plain_did run s ≡ None → P s → ((cause : Cause) → P (trap_at cause s)) → P (plain_step run s)
still_by P run s h same t = by (is_running run s) refl where
  by : (b : Bool) → is_running run s ≡ b → P (plain_step run s)
  by true e =
      subst (λ c. P (cond c (after_outcome run (outcome_of run s (fetch run.size s.task.view s.pc)) s) s)) (sym e)
      (still_fetched P run s (fetch run.size s.task.view s.pc) t
      (let none : Option Did = None in sym (ap (λ c. cond c (did_fetched run s (fetch run.size s.task.view s.pc)) none) e) ∙ h))
  by false e = subst (λ c. P (cond c (after_outcome run (outcome_of run s (fetch run.size s.task.view s.pc)) s) s)) (sym e) same

still_phase : (run : TaskRun) (s : PlainState) → plain_did run s ≡ None → (plain_step run s).task.phase ≡ s.task.phase
still_phase run s h = still_by (λ (t : PlainState). t.task.phase ≡ s.task.phase) run s h refl (λ cause. refl)

-- ---- the calls

pub begun_by-next : (run : TaskRun) (n : ℕ) → begun_by run (n + 1) ≡ begun_with (plain_did run (plain_run run n)) (begun_by run n)
unfolding begun_by
begun_by-next run n = let e : n + 1 ≡ suc n = omega arith in ap (λ k. begun_by run k) e

-- in an execution phase all members have been brought in
abbrev pub Brought : Plant → (ℕ → ℕ) → Call → List Did → Phase → Type 0
Brought plant passes c ds Compatible = Unit {0}
Brought plant passes c ds MemoryPhase = Unit {0}
Brought plant passes c ds Execution = IsCovered (passes plant.ways) c.members (lines_of_dids plant.line ds)

covered_last : (plant : Plant) (count : ℕ) (members : List ℕ) (ds : List Did) (d : Did) → IsCovered count members (lines_of_dids plant.line ds) →
    AllIn members (lines_of_did plant.line d) → IsCovered count members (lines_of_dids plant.line (ds ++ d ∷ []))
covered_last plant count members ds d c all =
    subst (IsCovered count members) (sym (lines_of_dids-last plant.line ds d)) (covered_more count members (lines_of_dids plant.line ds) (lines_of_did plant.line d) c all)

-- an instruction in this phase that makes this change
record Known (plant : Plant) (passes : ℕ → ℕ) (c : Call) (ds : List Did) (d : Did) (phase : Phase) (change : Change) : Type 0 where
  phase_is : d.phase ≡ phase
  change_is : d.change ≡ change
  step : is_predictable phase ≡ true → IsStep plant passes c ds d
  was : Brought plant passes c ds phase

brought_after : (plant : Plant) (passes : ℕ → ℕ) (s : Script) (b : Begun) (d : Did) (phase : Phase) (change : Change) → IsLawful phase change →
    Known plant passes (call_of s b) b.steps d phase change →
    Brought plant passes (call_of s (begun_after change d b)) (begun_after change d b).steps (phase_after change phase)
brought_after plant passes s b d Compatible Stay l k = tt
brought_after plant passes s b d MemoryPhase Stay l k = tt
brought_after plant passes s b d Execution Stay l k =
    subst (λ ph. Brought plant passes (call_of s b) (steps_after ph d b.steps) Execution) (sym k.phase_is)
    (covered_last plant (passes plant.ways) (call_of s b).members b.steps d k.was (k.step refl).within)
brought_after plant passes s b d phase Memory l k = tt
brought_after plant passes s b d phase End l k = tt
brought_after plant passes s b d phase Job l k = tt
brought_after plant passes s b d phase (Execute stated) l k =
    let m : d.phase ≡ MemoryPhase = k.phase_is ∙ l in
    let st : IsStep plant passes (call_of s b) b.steps d = k.step (ap is_predictable l) in
    subst (λ ph. Brought plant passes (call_of s b) (steps_after ph d b.steps) Execution) (sym m)
    (covered_last plant (passes plant.ways) (call_of s b).members b.steps d
    (subst (Opens plant passes (call_of s b) b.steps) k.change_is st.opens).1 st.within)

brought_next : (plant : Plant) (passes : ℕ → ℕ) (run : TaskRun) (s : Script) (n : ℕ) (o : Option Did) → IsScript plant passes run s →
    plain_did run (plain_run run n) ≡ o → Brought plant passes (call_of s (begun_by run n)) (begun_by run n).steps (plain_run run n).task.phase →
    Brought plant passes (call_of s (begun_with o (begun_by run n))) (begun_with o (begun_by run n)).steps (plain_step run (plain_run run n)).task.phase
brought_next plant passes run s n None h e was =
    subst (Brought plant passes (call_of s (begun_by run n)) (begun_by run n).steps) (sym (still_phase run (plain_run run n) e)) was
brought_next plant passes run s n (Some d) h e was =
    let x : Executed run (plain_run run n) d = executed run (plain_run run n) d e in
    let same : d.phase ≡ (plain_run run n).task.phase = ap (λ (f : Did). f.phase) x.did_is in
    subst (Brought plant passes (call_of s (begun_after d.change d (begun_by run n))) (begun_after d.change d (begun_by run n)).steps) (sym (next_phase run (plain_run run n) d x))
    (brought_after plant passes s (begun_by run n) d (plain_run run n).task.phase d.change (did_lawful run (plain_run run n) d x) (record {
      phase_is = same;
      change_is = refl;
      step = λ p. h.steps n d e (ap is_predictable same ∙ p);
      was = was;
    }))

pub brought_in : (plant : Plant) (passes : ℕ → ℕ) (run : TaskRun) (s : Script) → IsScript plant passes run s → (n : ℕ) →
    Brought plant passes (call_of s (begun_by run n)) (begun_by run n).steps (plain_run run n).task.phase
unfolding begun_by plain_steps
brought_in plant passes run s h zero = tt
brought_in plant passes run s h (suc n) = brought_next plant passes run s n (plain_did run (plain_run run n)) h refl (brought_in plant passes run s h n)
