-- A stub that stands is cut between `pm.mem` and its return.
use Rattle.std.proofs.Common.{◌≡◌, ℕ, ◌+◌, ◌≤◌, refl, ap, ◌∙◌, sym, subst, arith, List, [], ◌∷◌}
use Rattle.prem_sets_sound.proofs.Prelude.{Guard, Setting, Ending, Falls, Returns, Stuck, run, stubs_return, Codes, code_calls, with_guard, return_step, StubSteps, stub_code, due_of}
use Rattle.prem_sets_sound.proofs.Prelude.{TaskRun, TaskState, TaskFits, Did, Jalr, PmMem, within_same, chained_within, taking_within, job_weight, Takes, Cuts, taking, cut, chained}
use Rattle.prem_sets_sound.proofs.Prelude.{sums_of_path, marked_sums_of, IsWithin, Plant, IsReady, ReturnsStrided, StubAt, StubStands, events_of, strides, section_of, Section, IsSection}
use Rattle.prem_sets_sound.proofs.Prelude.{Mark, pos}
use Rattle.prem_asm.specs.Steps.{Holds}
use Rattle.prem_sets_sound.proofs.StubLawsLemmas.JobChargesLemmas.Steps.{Any}
use Rattle.prem_sets_sound.proofs.StubLawsLemmas.JobChargesLemmas.Stubs.{stub_fits}
use Rattle.prem_sets_sound.proofs.WeaveLemmas.PaceLemmas.Jobs.{section_events, stretch_events}
use Rattle.prem_sets_sound.proofs.WeaveLemmas.SegmentLemmas.Sections.{stubs_are_sections}

module _ (plant : Plant) (passes : ℕ → ℕ) (s : Setting) (h : Guard) (c : Codes) (own : TaskRun) (ended : ℕ) (bytes : ℕ → ℕ) (parts n : ℕ) (x : StubAt)
    (stands : StubStands plant passes s h c own ended bytes parts n x) where
  returned : (t u : TaskState) (back : ℕ) (trace : List Did) → IsReady t →
      run (with_guard h s) (code_calls (with_guard h s) c n) (s.places x.stub) (stub_code x.kind plant.line x.ranges x.stated x.part) t ≡ Returns back u trace →
      IsWithin (strides plant trace) (marked_sums_of plant) × (u.phase ≡ Rattle.prem_isa.specs.declared.effect.Phase.TheVariants.Compatible)
  returned t u back trace ready goes_so =
      let r = stubs_return (with_guard h s) (code_calls (with_guard h s) c n)
      plant.line stands.line_fits x.ranges stands.in_memory x.kind stands.few x.stated x.part (s.places x.stub) stands.small t u back trace ready.0
      (record { zero = ready.1.zero; word = ready.1.registers }) goes_so in
      let w : StubSteps (code_calls (with_guard h s) c n x.part) (s.places x.stub) plant.line x.ranges (passes plant.ways) x.stated trace =
      subst (λ k. StubSteps (code_calls (with_guard h s) c n x.part) (s.places x.stub) plant.line x.ranges k x.stated trace) stands.count_is r.steps in
      let mark : Mark = record { stated = x.stated; before = []; after = [] } in
      let m : Section = section_of w x.members mark in
      let ret : Did = return_step (w.ended_at + 4) in
      let is : IsSection plant passes m =
      stubs_are_sections plant passes (with_guard h s) c x.ranges x.members n x.part (s.places x.stub)
      x.kind x.stated mark t u back trace stands.line_fits.positive stands.within goes_so stands.room w refl stands.cost in
      let events : events_of plant trace ≡ Takes (due_of plant m.begin) ∷ Cuts ∷ Takes (due_of plant ret) ∷ [] =
      ap (events_of plant) w.trace_is ∙ section_events plant passes m is (ret ∷ [])
      ∙ ap (λ es. Takes (due_of plant m.begin) ∷ Cuts ∷ es) (stretch_events plant ret [] (record { phase = refl; goes_on = tt })) in (
        subst (λ es. IsWithin (sums_of_path es) (marked_sums_of plant)) (sym events) (within (due_of plant m.begin) (due_of plant ret) (omega arith) (omega arith)),
        ap (λ (v : TaskState). v.phase) r.ends,
      )
    where
      within : (a b : ℕ) → a ≤ job_weight plant PmMem → b ≤ job_weight plant (Jalr 0 4 (pos 0)) → IsWithin (sums_of_path (Takes a ∷ Cuts ∷ Takes b ∷ [])) (marked_sums_of plant)
      within a b la lb =
          chained_within (taking a) (chained cut (chained (taking b) (taking 0))) (taking (job_weight plant PmMem))
          (chained cut (chained (taking (job_weight plant (Jalr 0 4 (pos 0)))) (taking 0))) (taking_within a (job_weight plant PmMem) la)
          (chained_within cut (chained (taking b) (taking 0)) cut (chained (taking (job_weight plant (Jalr 0 4 (pos 0)))) (taking 0)) (within_same cut)
          (chained_within (taking b) (taking 0) (taking (job_weight plant (Jalr 0 4 (pos 0)))) (taking 0) (taking_within b (job_weight plant (Jalr 0 4 (pos 0))) lb) (within_same (taking 0))))

  strided : (t : TaskState) → IsReady t → (o : Ending) →
      run (with_guard h s) (code_calls (with_guard h s) c n) (s.places x.stub) (stub_code x.kind plant.line x.ranges x.stated x.part) t ≡ o →
      Holds Any TaskFits o →
      ReturnsStrided plant (marked_sums_of plant) o
  strided t ready (Falls u trace) is fits = tt
  strided t ready (Returns back u trace) is fits = let r = returned t u back trace ready is in (r.0, (r.1, fits.1))
  strided t ready Stuck is fits = tt

  pub stub_strided : (t : TaskState) → IsReady t →
      ReturnsStrided plant (marked_sums_of plant)
      (run (with_guard h s) (code_calls (with_guard h s) c n) (s.places x.stub) (stub_code x.kind plant.line x.ranges x.stated x.part) t)
  stub_strided t ready =
      strided t ready (run (with_guard h s) (code_calls (with_guard h s) c n) (s.places x.stub) (stub_code x.kind plant.line x.ranges x.stated x.part) t) refl
      (stub_fits plant passes s h c own ended bytes parts n x stands t ready.1)
