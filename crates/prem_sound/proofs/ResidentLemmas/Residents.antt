-- While a task is in a predictable interval, its lines stand as the interval's touches leave them.
use Rattle.std.proofs.Common.{◌≡◌, ◌≢◌, ℕ, zero, suc, ◌<◌, refl, ap, ◌∙◌, sym, subst, true, false, Bool, Some, List, [], ◌∷◌, ◌++◌, length, ◌⊎◌, inl, inr, ⊎_elim}
use Rattle.prem_sound.proofs.Prelude.{Continues, MoveCase, pays_on_bus, is_denied, pays_cost, waits, goes_on, switches, begins, chooses, chooses_now, begins_idle, has_finished, idles, bump}
use Rattle.prem_sound.proofs.Prelude.{bump_same, bump_other, CoreMove, Passes, Issues, is_predictable, new_interval, phase_in, stated_after, ends_before, is_execution, Setup, Work}
use Rattle.prem_sound.proofs.Prelude.{CoreState, Interval, Mode, Point, Switching, Running, Idle, plain_steps-next, phase_after, IsLawful, TaskRun, Did, plain_did, plain_step, plain_run}
use Rattle.prem_sound.proofs.Prelude.{Change, Stay, Memory, Execute, End, Job, Phase, Compatible, Execution, OrderRule, HaveRoom, IsCacheFullAfter, caches_after, cache_misses, Plant}
use Rattle.prem_sound.proofs.Prelude.{TaskJobs, lines_of_did, lines_of_dids, Begun, steps_after, begun_after, begun_with, begun_by, Call, IsCovered, Opens, IsStep, Script, call_of, IsScript}
use Rattle.prem_sound.proofs.Prelude.{cases_eq}
use Rattle.prem_isa.specs.declared.effect.Phase.TheVariants.{Memory as MemoryPhase}
use Rattle.prem_sound.proofs.ScriptLemmas.Begins.{Executed, executed, next_phase, did_lawful, begun_by-next, Brought, brought_in}
use Rattle.prem_sound.proofs.ScriptLemmas.Residency.{lines_of_dids-last, Since, since_none, since_more, covered_hits}

-- ---- an interval

-- a task of this phase is to issue in an interval
pub record Goes (phase : Phase) (stated : ℕ) (i : Interval) : Type 0 where
  pub kind : is_predictable phase ≡ i.predictable
  pub opened : phase ≡ Execution → i.stated ≡ stated

-- a task has issued an instruction in it that makes this change, and is then in this phase, where its call has these instructions
abbrev pub Issued : Change → Phase → ℕ → List Did → Interval → Type 0
Issued Stay phase stated ds i = Goes phase stated i
Issued (Execute l) phase stated ds i = Goes phase stated i
Issued Memory phase stated ds i = (i.predictable ≡ false) × (ds ≡ [])
Issued End phase stated ds i = (i.predictable ≡ true) × (phase ≡ Compatible) × (i.stated ≡ stated)
Issued Job phase stated ds i = (i.predictable ≡ false) × (phase ≡ Compatible)

abbrev pub with_stated : Change → Interval → Interval
with_stated c i = record i { stated = stated_after c i.stated }

issued_by_change : (plant : Plant) (passes : ℕ → ℕ) (s : Script) (b : Begun) (d : Did) (phase : Phase) (c : Change) (i : Interval) →
    IsLawful phase c → (is_predictable phase ≡ true → Opens plant passes (call_of s b) b.steps c) → Goes phase (call_of s b).stated i →
    Issued c (phase_after c phase) (call_of s (begun_after c d b)).stated (begun_after c d b).steps (with_stated c i)
issued_by_change plant passes s b d phase Stay i l o g = record { kind = g.kind; opened = g.opened }
issued_by_change plant passes s b d phase Memory i l o g = (sym g.kind ∙ ap is_predictable l, refl)
issued_by_change plant passes s b d phase (Execute stated) i l o g =
    record { kind = sym (ap is_predictable l) ∙ g.kind; opened = λ _. (o (ap is_predictable l)).0 }
issued_by_change plant passes s b d phase End i l o g = (sym g.kind ∙ ap is_predictable l, refl, g.opened l)
issued_by_change plant passes s b d phase Job i l o g = (sym g.kind ∙ ap is_predictable l, refl)

-- the instructions of the call, while the interval is predictable
steps_in : (phase : Phase) (d : Did) (ds : List Did) → d.phase ≡ phase → is_predictable phase ≡ true → steps_after d.phase d ds ≡ ds ++ d ∷ []
steps_in Compatible d ds e h = absurd (let x : false ≡ true = h in cc)
steps_in MemoryPhase d ds e h = ap (λ ph. steps_after ph d ds) e
steps_in Execution d ds e h = ap (λ ph. steps_after ph d ds) e

pub steps_more : (phase : Phase) (c : Change) (d : Did) (b : Begun) → d.phase ≡ phase → IsLawful phase c → is_predictable phase ≡ true → (begun_after c d b).steps ≡ b.steps ++ d ∷ []
steps_more phase Stay d b e l h = steps_in phase d b.steps e h
steps_more phase Memory d b e l h = absurd (let x : false ≡ true = sym (ap is_predictable l) ∙ h in cc)
steps_more phase (Execute stated) d b e l h = steps_in phase d b.steps e h
steps_more phase End d b e l h = steps_in phase d b.steps e h
steps_more phase Job d b e l h = steps_in phase d b.steps e h

-- an instruction in an execution phase, or that begins one
abbrev pub opens : Change → Bool
opens Stay = false
opens Memory = false
opens (Execute stated) = true
opens End = false
opens Job = false

abbrev pub MustHit : Phase → Change → Type 0
MustHit phase c = (is_execution phase ≡ true) ⊎ (opens c ≡ true)

-- ---- all tasks

abbrev pub phase_at : (ℕ → TaskRun) → (ℕ → ℕ) → ℕ → Phase
phase_at runs at k = (plain_run (runs k) (at k)).task.phase

abbrev pub begun_at : (ℕ → TaskRun) → (ℕ → ℕ) → ℕ → Begun
begun_at runs at k = begun_by (runs k) (at k)

-- a task whose next interval hasn't begun has done nothing of its call
abbrev pub IsFresh : (ℕ → TaskRun) → (ℕ → ℕ) → ℕ → Type 0
IsFresh runs at j = is_predictable (phase_at runs at j) ≡ true → (begun_at runs at j).steps ≡ []

module _ (order : OrderRule) (plant : Plant) (tasks : ℕ) (runs : ℕ → TaskRun) (scripts : ℕ → Script) where
  -- the lines stand as the touches of the interval leave them
  abbrev pub IsSince : (ℕ → ℕ) → List (List ℕ) → ℕ → Interval → Type 0
  IsSince at orders k i = i.predictable ≡ true → Since order plant.ways orders (lines_of_dids plant.line (begun_at runs at k).steps)

  pub record InInterval (at : ℕ → ℕ) (orders : List (List ℕ)) (k : ℕ) (i : Interval) (mark : Change) : Type 0 where
    pub issued : Issued mark (phase_at runs at k) (call_of (scripts k) (begun_at runs at k)).stated (begun_at runs at k).steps i
    pub since : IsSince at orders k i

  pub record Resides (at : ℕ → ℕ) (orders : List (List ℕ)) (mode : Mode) (i : Interval) (mark : Change) : Type 0 where
    pub rests : (j : ℕ) → j < tasks → (mode ≡ Running j → ⊥) → IsFresh runs at j
    pub runs_in : (k : ℕ) → mode ≡ Running k → InInterval at orders k i mark

  -- a task is to issue in an interval, and the others rest
  pub record MayIssue (at : ℕ → ℕ) (orders : List (List ℕ)) (k : ℕ) (i : Interval) : Type 0 where
    pub goes : Goes (phase_at runs at k) (call_of (scripts k) (begun_at runs at k)).stated i
    pub since : IsSince at orders k i
    pub others : (j : ℕ) → j < tasks → j ≢ k → IsFresh runs at j

  abbrev pub Moves : (ℕ → ℕ) → List (List ℕ) → CoreMove → Type 0
  Moves at orders (Passes c) = Resides at orders c.mode c.interval c.mark
  Moves at orders (Issues k i) = MayIssue at orders k i

  -- the task that issues is one of them
  abbrev pub IsThere : CoreMove → Type 0
  IsThere (Passes c) = Unit {0}
  IsThere (Issues k i) = k < tasks

  -- ---- the move

  module _ (at : ℕ → ℕ) (orders : List (List ℕ)) where
    -- where none runs
    rest : (mode : Mode) (i : Interval) (mark : Change) → ((j : ℕ) → j < tasks → IsFresh runs at j) → ((k : ℕ) → mode ≡ Running k → ⊥) → Resides at orders mode i mark
    rest mode i mark all none = record { rests = λ j lt _. all j lt; runs_in = λ k e. absurd (none k e) }

    all_point : (i : Interval) (mark : Change) → Resides at orders Point i mark → (j : ℕ) → j < tasks → IsFresh runs at j
    all_point i mark h j lt = h.rests j lt (λ e. let x : Point ≡ Running j = e in cc)

    all_switch : (k left : ℕ) (i : Interval) (mark : Change) → Resides at orders (Switching k left) i mark → (j : ℕ) → j < tasks → IsFresh runs at j
    all_switch k left i mark h j lt = h.rests j lt (λ e. let x : Switching k left ≡ Running j = e in cc)

    begins_at : (now k : ℕ) (phase : Phase) → phase ≡ phase_at runs at k → (phase ≡ Execution → ⊥) → k < tasks →
        ((j : ℕ) → j < tasks → IsFresh runs at j) → MayIssue at orders k (new_interval now phase)
    begins_at now k phase same none lt all = record {
      goes = record { kind = ap is_predictable (sym same); opened = λ e. absurd (none (same ∙ e)) };
      since = λ p.
          subst (λ ds. Since order plant.ways orders (lines_of_dids plant.line ds)) (sym (all k lt (ap is_predictable (sym same) ∙ p)))
          (since_none order plant.ways orders);
      others = λ j lj _. all j lj;
    }

    goes_by : (mark : Change) (phase : Phase) (stated : ℕ) (ds : List Did) (i : Interval) → Continues mark → Issued mark phase stated ds i → Goes phase stated i
    goes_by Stay phase stated ds i g h = h
    goes_by (Execute l) phase stated ds i g h = h
    goes_by Memory phase stated ds i g h = absurd g
    goes_by End phase stated ds i g h = absurd g
    goes_by Job phase stated ds i g h = absurd g

    issues_on : (k : ℕ) (i : Interval) (mark : Change) → Continues mark → Resides at orders (Running k) i mark → MayIssue at orders k i
    issues_on k i mark g h =
        let x : InInterval at orders k i mark = h.runs_in k refl in
        record {
          goes = goes_by mark (phase_at runs at k) (call_of (scripts k) (begun_at runs at k)).stated (begun_at runs at k).steps i g x.issued;
          since = x.since;
          others = λ j lt ne. h.rests j lt (λ e. let y : Running k ≡ Running j = e in ne (sym cc));
        }

    -- what is known of the phases of the tasks in the machine
    pub record Phases (w : Work) (mode : Mode) : Type 0 where
      pub same : (k : ℕ) → k < tasks → phase_in w k ≡ phase_at runs at k
      pub runs_alone : (k : ℕ) → phase_in w k ≡ Execution → mode ≡ Running k

    none_at_point : (w : Work) (mode : Mode) (k : ℕ) → Phases w mode → mode ≡ Point → phase_in w k ≡ Execution → ⊥
    none_at_point w mode k h e x = let y : Point ≡ Running k = sym e ∙ h.runs_alone k x in cc

    none_in_switch : (w : Work) (mode : Mode) (k left : ℕ) → Phases w mode → mode ≡ Switching k left → phase_in w k ≡ Execution → ⊥
    none_in_switch w mode k left h e x = let y : Switching k left ≡ Running k = sym e ∙ h.runs_alone k x in cc

    pub moves : (p : Setup) (now : ℕ) (had : Bool) (sched : List TaskJobs) (w : Work) (c : CoreState) (m : CoreMove) →
        MoveCase p now had sched w c m → IsThere m → Phases w c.mode → Resides at orders c.mode c.interval c.mark → Moves at orders m
    moves p now had sched w c _ (pays_on_bus q h) l ph r = r
    moves p now had sched w c _ (is_denied q h) l ph r = r
    moves p now had sched w c _ (pays_cost k cost q e h) l ph r = r
    moves p now had sched w c _ (waits k q e h x) l ph r = r
    moves p now had sched w c _ (has_finished q e h) l ph r = r
    moves p now had sched w c _ (idles until q e) l ph r = r
    moves p now had sched w c _ (goes_on k q e h x) l ph r =
        issues_on k c.interval c.mark x (subst (λ m. Resides at orders m c.interval c.mark) e r)
    moves p now had sched w c _ (switches k left q e) l ph r =
        rest (Switching k left) c.interval c.mark
        (all_switch k (suc left) c.interval c.mark (subst (λ m. Resides at orders m c.interval c.mark) e r)) (λ j x. let y : Switching k left ≡ Running j = x in cc)
    moves p now had sched w c _ (begins k q e) l ph r =
        begins_at now k (phase_in w k) (ph.same k l) (none_in_switch w c.mode k zero ph e) l
        (all_switch k zero c.interval c.mark (subst (λ m. Resides at orders m c.interval c.mark) e r))
    moves p now had sched w c _ (chooses k left q e h z) l ph r =
        rest (Switching k left) c.interval c.mark
        (all_point c.interval c.mark (subst (λ m. Resides at orders m c.interval c.mark) e r)) (λ j x. let y : Switching k left ≡ Running j = x in cc)
    moves p now had sched w c _ (chooses_now k q e h z) l ph r =
        begins_at now k (phase_in w k) (ph.same k l) (none_at_point w c.mode k ph e) l
        (all_point c.interval c.mark (subst (λ m. Resides at orders m c.interval c.mark) e r))
    moves p now had sched w c _ (begins_idle until q e h) l ph r =
        rest (Idle until) c.interval c.mark
        (all_point c.interval c.mark (subst (λ m. Resides at orders m c.interval c.mark) e r)) (λ j x. let y : Idle until ≡ Running j = x in cc)

    -- ---- what is over

    ended_fresh : (now : ℕ) (i : Interval) (mark : Change) (phase : Phase) (stated : ℕ) (ds : List Did) → ends_before now i mark ≡ true →
        Issued mark phase stated ds i → is_predictable phase ≡ true → ds ≡ []
    ended_fresh now i Stay phase stated ds e h p = absurd (let x : false ≡ true = e in cc)
    ended_fresh now i (Execute l) phase stated ds e h p = absurd (let x : false ≡ true = e in cc)
    ended_fresh now i Memory phase stated ds e h p = h.1
    ended_fresh now i End phase stated ds e h p = absurd (let x : false ≡ true = sym (ap is_predictable h.1) ∙ p in cc)
    ended_fresh now i Job phase stated ds e h p = absurd (let x : false ≡ true = sym (ap is_predictable h.1) ∙ p in cc)

    pub ends : (now k : ℕ) (i : Interval) (mark : Change) → ends_before now i mark ≡ true → Resides at orders (Running k) i mark → Resides at orders Point i mark
    ends now k i mark e h =
        let x : InInterval at orders k i mark = h.runs_in k refl in
        rest Point i mark
        (λ j lt.
        ⊎_elim (λ (same : j ≡ k).
        subst (IsFresh runs at) (sym same) (ended_fresh now i mark (phase_at runs at k) (call_of (scripts k) (begun_at runs at k)).stated (begun_at runs at k).steps e x.issued))
        (λ (ne : j ≡ k → ⊥). h.rests j lt (λ y. let z : Running k ≡ Running j = y in ne (sym cc))) (cases_eq j k))
        (λ j x. let y : Point ≡ Running j = x in cc)

    pub idle_ends : (until : ℕ) (i : Interval) (mark : Change) → Resides at orders (Idle until) i mark → Resides at orders Point i mark
    idle_ends until i mark h =
        rest Point i mark (λ j lt. h.rests j lt (λ e. let x : Idle until ≡ Running j = e in cc)) (λ j x. let y : Point ≡ Running j = x in cc)

    -- ---- an instruction

    issue_since : (n : ℕ) (k : ℕ) (d : Did) (c : Change) (i : Interval) → d.phase ≡ phase_at runs at k → IsLawful (phase_at runs at k) c →
        Goes (phase_at runs at k) n i → IsSince at orders k i → i.predictable ≡ true →
        Since order plant.ways (caches_after order plant.ways orders (lines_of_did plant.line d))
        (lines_of_dids plant.line (begun_after c d (begun_at runs at k)).steps)
    issue_since n k d c i same l g s p =
        let ds : List Did = (begun_at runs at k).steps in
        let more : (begun_after c d (begun_at runs at k)).steps ≡ ds ++ d ∷ [] = steps_more (phase_at runs at k) c d (begun_at runs at k) same l (g.kind ∙ p) in
        subst (Since order plant.ways (caches_after order plant.ways orders (lines_of_did plant.line d))) (sym (ap (lines_of_dids plant.line) more ∙ lines_of_dids-last plant.line ds d))
        (since_more order plant.ways orders (lines_of_dids plant.line ds) (lines_of_did plant.line d) (s p))

    pub bump_run : (k : ℕ) → plain_run (runs k) (bump k at k) ≡ plain_step (runs k) (plain_run (runs k) (at k))
    bump_run k = ap (plain_run (runs k)) (bump_same k at) ∙ plain_steps-next (runs k) (at k) _

    pub bump_begun : (k : ℕ) (d : Did) → plain_did (runs k) (plain_run (runs k) (at k)) ≡ Some d → begun_at runs (bump k at) k ≡ begun_after d.change d (begun_at runs at k)
    bump_begun k d e = ap (begun_by (runs k)) (bump_same k at) ∙ begun_by-next (runs k) (at k) ∙ ap (λ o. begun_with o (begun_at runs at k)) e

    fresh_other : (k j : ℕ) → j ≢ k → IsFresh runs at j → IsFresh runs (bump k at) j
    fresh_other k j ne h = subst (λ n. is_predictable (plain_run (runs j) n).task.phase ≡ true → (begun_by (runs j) n).steps ≡ []) (sym (bump_other k j at ne)) h

    -- a task issues the next instruction of its run
    pub issues : (passes : ℕ → ℕ) (k : ℕ) (i : Interval) (d : Did) → IsScript plant passes (runs k) (scripts k) →
        plain_did (runs k) (plain_run (runs k) (at k)) ≡ Some d → MayIssue at orders k i →
        Resides (bump k at) (caches_after order plant.ways orders (lines_of_did plant.line d)) (Running k) (with_stated d.change i) d.change
    issues passes k i d sc e h =
        let b : Begun = begun_at runs at k in
        let ph : Phase = phase_at runs at k in
        let orders' : List (List ℕ) = caches_after order plant.ways orders (lines_of_did plant.line d) in
        let x : Executed (runs k) (plain_run (runs k) (at k)) d = executed (runs k) (plain_run (runs k) (at k)) d e in
        let l : IsLawful ph d.change = did_lawful (runs k) (plain_run (runs k) (at k)) d x in
        let same : d.phase ≡ ph = ap (λ (f : Did). f.phase) x.did_is in
        let next : phase_at runs (bump k at) k ≡ phase_after d.change ph = ap (λ s. s.task.phase) (bump_run k) ∙ next_phase (runs k) (plain_run (runs k) (at k)) d x in
        let more : begun_at runs (bump k at) k ≡ begun_after d.change d b = bump_begun k d e in
        record {
          rests = λ j lt ne. fresh_other k j (λ s. ne (ap (λ q. Running q) (sym s))) (h.others j lt (λ s. ne (ap (λ q. Running q) (sym s))));
          runs_in = λ q run.
              let y : Running k ≡ Running q = run in
              let z : k ≡ q = cc in
              subst (λ r. InInterval (bump k at) orders' r (with_stated d.change i) d.change) z (record {
                issued =
                    subst (λ f. Issued d.change f (call_of (scripts k) (begun_at runs (bump k at) k)).stated (begun_at runs (bump k at) k).steps (with_stated d.change i)) (sym next)
                    (subst (λ f. Issued d.change (phase_after d.change ph) (call_of (scripts k) f).stated f.steps (with_stated d.change i)) (sym more)
                    (issued_by_change plant passes (scripts k) b d ph d.change i l (λ p. (sc.steps (at k) d e (ap is_predictable same ∙ p)).opens) h.goes));
                since = λ p.
                    subst (λ f. Since order plant.ways orders' (lines_of_dids plant.line f.steps)) (sym more)
                    (issue_since (call_of (scripts k) b).stated k d d.change i same l h.goes h.since p);
              });
        }

    -- ---- it hits

    covered : (passes : ℕ → ℕ) (k : ℕ) (d : Did) (phase : Phase) (c : Change) → phase_at runs at k ≡ phase → d.change ≡ c →
        IsStep plant passes (call_of (scripts k) (begun_at runs at k)) (begun_at runs at k).steps d →
        Brought plant passes (call_of (scripts k) (begun_at runs at k)) (begun_at runs at k).steps phase → MustHit phase c →
        IsCovered (passes plant.ways) (call_of (scripts k) (begun_at runs at k)).members (lines_of_dids plant.line (begun_at runs at k).steps)
    covered passes k d Execution c e f st br (inl m) = br
    covered passes k d Compatible c e f st br (inl m) = absurd (let x : false ≡ true = m in cc)
    covered passes k d MemoryPhase c e f st br (inl m) = absurd (let x : false ≡ true = m in cc)
    covered passes k d phase (Execute l) e f st br (inr m) = (subst (Opens plant passes (call_of (scripts k) (begun_at runs at k)) (begun_at runs at k).steps) f st.opens).1
    covered passes k d phase Stay e f st br (inr m) = absurd (let x : false ≡ true = m in cc)
    covered passes k d phase Memory e f st br (inr m) = absurd (let x : false ≡ true = m in cc)
    covered passes k d phase End e f st br (inr m) = absurd (let x : false ≡ true = m in cc)
    covered passes k d phase Job e f st br (inr m) = absurd (let x : false ≡ true = m in cc)

    must_predict : (phase : Phase) (c : Change) → IsLawful phase c → MustHit phase c → is_predictable phase ≡ true
    must_predict Execution c l m = refl
    must_predict MemoryPhase c l m = refl
    must_predict Compatible c l (inl m) = absurd (let x : false ≡ true = m in cc)
    must_predict Compatible (Execute s) l (inr m) = absurd (let x : Compatible ≡ MemoryPhase = l in cc)
    must_predict Compatible Stay l (inr m) = absurd (let x : false ≡ true = m in cc)
    must_predict Compatible Memory l (inr m) = absurd (let x : false ≡ true = m in cc)
    must_predict Compatible End l (inr m) = absurd (let x : false ≡ true = m in cc)
    must_predict Compatible Job l (inr m) = absurd (let x : false ≡ true = m in cc)

    -- no line of it misses
    pub hits : (passes : ℕ → ℕ) (k : ℕ) (i : Interval) (d : Did) → IsCacheFullAfter passes order → IsScript plant passes (runs k) (scripts k) →
        plain_did (runs k) (plain_run (runs k) (at k)) ≡ Some d → 0 < plant.sets → length orders ≡ plant.sets → MayIssue at orders k i →
        MustHit (phase_at runs at k) d.change → cache_misses order plant.ways orders (lines_of_did plant.line d) ≡ []
    hits passes k i d full sc e pos count h m =
        let b : Begun = begun_at runs at k in
        let c : Call = call_of (scripts k) b in
        let ph : Phase = phase_at runs at k in
        let x : Executed (runs k) (plain_run (runs k) (at k)) d = executed (runs k) (plain_run (runs k) (at k)) d e in
        let l : IsLawful ph d.change = did_lawful (runs k) (plain_run (runs k) (at k)) d x in
        let same : d.phase ≡ ph = ap (λ (f : Did). f.phase) x.did_is in
        let p : is_predictable ph ≡ true = must_predict ph d.change l m in
        let st : IsStep plant passes c b.steps d = sc.steps (at k) d e (ap is_predictable same ∙ p) in
        covered_hits order passes plant.ways orders c.members (lines_of_dids plant.line b.steps) (lines_of_did plant.line d) full
        (subst (λ n. 0 < n) (sym count) pos) (subst (λ n. HaveRoom n plant.ways c.members) (sym count) (sc.room _))
        (covered passes k d ph d.change refl refl st (brought_in plant passes (runs k) (scripts k) sc (at k)) m)
        (h.since (sym h.goes.kind ∙ p)) st.within
