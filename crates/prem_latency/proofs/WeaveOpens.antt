-- Along a weave whose calls name just the lines that they touch, each call opens as its steps tell.
use Rattle.std.specs.Prelude.{Bool, min, slice_index_or}
use Rattle.std.proofs.Common.{◌≡◌, ℕ, zero, suc, ◌+◌, ◌*◌, ◌<◌, ◌≤◌, ap, ◌∙◌, sym, subst, arith, List, [], ◌∷◌, ◌++◌, length, get_or}
use Rattle.std.proofs.lemmas.List.Elements.{All-nil, All-cons, All-append}
use Rattle.prem_plant.specs.declared.plant.Plant.{Plant}
use Rattle.prem_isa.specs.declared.effect.Phase.TheVariants.{Execution}
use Rattle.prem_isa.specs.declared.effect.Change.{Change}
use Rattle.prem_isa.specs.declared.effect.Change.TheVariants.{Stay, Memory, Execute}
use Rattle.prem_isa.specs.Plain.{TaskRun, Did}
use Rattle.prem_cycle.specs.State.{Setup}
use Rattle.prem_sound.specs.Script.Script.{cost_of_dids, Begun, none_begun, begun_after, Call, no_call, call_at, Script}
use Rattle.prem_sound.specs.Script.Scripts.{Promise}
use Rattle.prem_sound.specs.Script.Conforms.{GoesOrDone, GoesOrEnds, IsStretch, IsCall}
use Rattle.prem_sound.proofs.ScriptLemmas.Pieces.{stretches_keep, calls_keep}
use Rattle.prem_sets_sound.specs.Weave.Weave.{Section, segment_of, IsSection, Weave, ends, goes, calls, dids_of, calls_of, IsWeave}
use Rattle.prem_sets_sound.specs.StubLaws.JoinedRuns.Joined.{JobLimits}
use Rattle.prem_sets_sound.specs.StubLaws.Charges.Charges.{script_of}
use Rattle.prem_latency.specs.Wcet.Openings.{before_exec, touched_by, opening_of, shut_of, counts_of, AreTrimmed}
use Rattle.prem_latency.specs.Wcet.Tasks.{script_by, TaskShuts}
use Rattle.prem_latency.proofs.WcetLemmas.Openings.{section_before, section_states}
use Rattle.prem_latency.specs.Opened.{OpensAlong}
use Rattle.prem_latency.specs.Joined.{shortened, TaskWaits}
use Rattle.prem_latency.proofs.Openings.{openings_join}
use Rattle.prem_latency.proofs.CallOpenings.{calls_open}
use Rattle.prem_latency.proofs.JoinedTasks.{charged_less}

-- ---- one call

ends_free : (c : Change) → c ≡ Stay → GoesOrEnds c
ends_free c e = subst GoesOrEnds (sym e) tt

no_exec : (c : Change) (stated : ℕ) → GoesOrDone c → c ≡ Execute stated → ⊥
no_exec c stated h e = subst GoesOrDone e h

memory_exec : (c : Change) (stated : ℕ) → c ≡ Memory → c ≡ Execute stated → ⊥
memory_exec c stated e f = apart (sym e ∙ f) where
  apart : Memory ≡ Execute stated → ⊥
  apart e = cc

section_call : (plant : Plant) (passes : ℕ → ℕ) (m : Section) → IsSection plant passes m → IsCall plant passes m.call m.before m.exec (m.body ++ m.last ∷ [])
section_call plant passes m h = record {
  fetching = λ k d lt. ((h.fetching k d lt).0, ends_free (get_or m.before k d).change (h.fetching k d lt).1, (h.fetching k d lt).2);
  opens = h.opens;
  running =
      All-append (λ (d : Did). (d.phase ≡ Execution) × GoesOrEnds d.change) m.body (m.last ∷ [])
      (λ k d lt. ((h.running k d lt).0, ends_free (get_or m.body k d).change (h.running k d lt).1))
      (All-cons (λ (d : Did). (d.phase ≡ Execution) × GoesOrEnds d.change) m.last [] (h.lasts.0, subst GoesOrEnds (sym h.lasts.1) tt)
      (All-nil (λ (d : Did). (d.phase ≡ Execution) × GoesOrEnds d.change)));
  within = h.within;
  covered = h.covered;
  fits = h.fits;
}

-- ---- a weave

module _ (plant : Plant) (passes : ℕ → ℕ) (s : Script) (opens : ℕ → ℕ) where
  -- from some call on the calls of the script are those of a weave, and open as is told
  record OpensFrom (n : ℕ) (w : Weave) : Type 0 where
    calls_are : (i : ℕ) → i < length (calls_of w) → call_at s (n + i) ≡ slice_index_or (calls_of w) i no_call
    opens_in : (i : ℕ) → i < length (calls_of w) → slice_index_or (counts_of (opening_of plant) w) i 0 ≤ opens (n + i)

  behind_one : (n : ℕ) (m : Section) (w : Weave) → OpensFrom n (calls m w) → OpensFrom (n + 1) w
  behind_one n m w h = record {
    calls_are = λ i lt. let e : n + 1 + i ≡ n + suc i = omega arith in ap (call_at s) e ∙ h.calls_are (suc i) (omega (arith, lt));
    opens_in = λ i lt. let e : n + suc i ≡ n + 1 + i = omega arith in subst (λ k. slice_index_or (counts_of (opening_of plant) w) i 0 ≤ opens k) e (h.opens_in (suc i) (omega (arith, lt)));
  }

  first_opens : (n : ℕ) (m : Section) (w : Weave) → IsSection plant passes m → m.call.members ≡ touched_by plant (segment_of m) → OpensFrom n (calls m w) →
      (call_at s n ≡ m.call) × (cost_of_dids m.before + length (call_at s n).members * (plant.fill + plant.back) ≤ opens n)
  first_opens n m w is names h =
      let zero_is : n + 0 ≡ n = omega arith in
      let this : call_at s n ≡ m.call = ap (call_at s) (sym zero_is) ∙ h.calls_are 0 (omega arith) in
      let le : opening_of plant (segment_of m) ≤ opens n = subst (λ k. opening_of plant (segment_of m) ≤ opens k) zero_is (h.opens_in 0 (omega arith)) in
      let cost : cost_of_dids m.before + length (call_at s n).members * (plant.fill + plant.back) ≡ opening_of plant (segment_of m) =
      ap (λ (ds : List Did). cost_of_dids ds + length (call_at s n).members * (plant.fill + plant.back)) (sym (section_before plant passes m is))
      ∙ ap (λ (ms : List ℕ). cost_of_dids (before_exec (segment_of m)) + length ms * (plant.fill + plant.back)) (ap (λ (c : Call). c.members) this ∙ names) in
      (this, subst (λ k. k ≤ opens n) (sym cost) le)

  weave_opens : (b : Begun) (w : Weave) → IsWeave plant passes w → AreTrimmed plant w → OpensFrom b.calls w → OpensAlong plant s opens b (dids_of w)
  weave_opens b ends h t o = tt
  weave_opens b (goes d rest) h t o =
      let one = stretches_keep plant passes s b (d ∷ []) (All-cons IsStretch d [] h.0 (All-nil IsStretch)) in (
        λ stated c. absurd (no_exec d.change stated h.0.goes_on c),
        subst (λ x. OpensAlong plant s opens x (dids_of rest)) (sym one.1) (weave_opens b rest h.1 t (record { calls_are = o.calls_are; opens_in = o.opens_in })),
      )
  weave_opens b (calls m rest) h t o =
      let b1 : Begun = record { calls = b.calls + 1; steps = [] } in
      let b2 : Begun = record { calls = b.calls + 1; steps = segment_of m } in
      let same : begun_after m.begin.change m.begin b ≡ b1 = ap (λ c. begun_after c m.begin b) h.0.begins.1 in
      let f = first_opens b.calls m rest h.0 t.0 o in
      let is_call = subst (λ (x : Call). IsCall plant passes x m.before m.exec (m.body ++ m.last ∷ [])) (sym f.0) (section_call plant passes m h.0) in
      let c = calls_keep plant passes s b.calls m.before m.exec (m.body ++ m.last ∷ []) is_call in
      let later = weave_opens b2 rest h.1 t.1 (behind_one b.calls m rest o) in (
        λ stated e. absurd (memory_exec m.begin.change stated h.0.begins.1 e),
        subst (λ x. OpensAlong plant s opens x (segment_of m ++ dids_of rest)) (sym same)
            (openings_join plant s opens b1 (segment_of m) (dids_of rest) (calls_open plant passes s opens b.calls m.before m.exec (m.body ++ m.last ∷ []) is_call f.1)
            (subst (λ x. OpensAlong plant s opens x (dids_of rest)) (sym c.1) later)),
      )

-- shortened calls state no more than what their steps keep closed
short_less : (plant : Plant) (passes : ℕ → ℕ) (top : ℕ) (w : Weave) → IsWeave plant passes w → (i : ℕ) →
    (call_at (script_of (shortened (λ j. slice_index_or (counts_of (opening_of plant) w) j 0) top (calls_of w))) i).stated ≤ (call_at (script_by (counts_of (shut_of plant top) w)) i).stated
short_less plant passes top ends h i = omega arith
short_less plant passes top (goes d rest) h i = short_less plant passes top rest h.1 i
short_less plant passes top (calls m rest) h zero = let e = section_states plant passes m h.0 in shorter _ _ _ e where
  shorter : (stated call opens : ℕ) → stated ≡ call → min call (opens + top) ≤ min stated (opens + top)
  shorter stated call opens e = omega (arith, e)
short_less plant passes top (calls m rest) h (suc i) = short_less plant passes top rest h.1 i

-- so a task that keeps the bus closed as its calls' steps tell waits as is asked
pub shutting_tasks_wait : (p : Setup) (passes : ℕ → ℕ) (own : ℕ → Bool) (run : TaskRun) (most : JobLimits) (cycles longest top closed : ℕ) (q : Promise) →
    TaskShuts p passes own run most cycles longest top closed q → TaskWaits p passes own run most cycles longest top closed q
shutting_tasks_wait p passes own run most cycles longest top closed q h =
    let is : IsWeave p.plant passes h.charges.joins.weave = h.charges.joins.woven.weave in
    record {
      charges = h.charges;
      opens = λ i. slice_index_or (counts_of (opening_of p.plant) h.charges.joins.weave) i 0;
      opened = weave_opens p.plant passes (script_of (calls_of h.charges.joins.weave))
          (λ i. slice_index_or (counts_of (opening_of p.plant) h.charges.joins.weave) i 0) none_begun h.charges.joins.weave is h.names
          (record {
            calls_are = λ i lt. let e : 0 + i ≡ i = omega arith in ap (λ n. slice_index_or (calls_of h.charges.joins.weave) n no_call) e;
            opens_in = λ i lt. let e : i ≡ 0 + i = omega arith in
                subst (λ n. slice_index_or (counts_of (opening_of p.plant) h.charges.joins.weave) i 0 ≤ slice_index_or
                (counts_of (opening_of p.plant) h.charges.joins.weave) n 0) e (omega arith);
          });
      strand = h.strand;
      dids_are = h.dids_are;
      scopes = h.scopes;
      stretch = h.stretch;
      closes = charged_less p.plant (script_by (counts_of (shut_of p.plant top) h.charges.joins.weave))
          (script_of (shortened (λ i. slice_index_or (counts_of (opening_of p.plant) h.charges.joins.weave) i 0) top (calls_of h.charges.joins.weave)))
          closed h.stretch 0 0 0 0 h.strand (short_less p.plant passes top h.charges.joins.weave is) (omega arith) h.closes;
    }
