-- A stub that stands is charged the weight of its stated length, and leaves words where words are.
use Rattle.std.proofs.Common.{◌≡◌, ℕ, zero, suc, ◌+◌, ◌*◌, ◌%◌, ◌^◌, ◌<◌, ◌≤◌, refl, ap, subst, arith, eqb, List, [], ◌∷◌, ◌++◌}
use Rattle.prem_sets_sound.proofs.Prelude.{every, flat_ok, all_fit, code_near, code_stands, Stand, CodeStands, Pieces, code_of, Guard, Setting, Ending, Falls, Returns, Stuck, run, AllCode}
use Rattle.prem_sets_sound.proofs.Prelude.{total, one_holds, stubs_return, PartStands, Codes, code_calls, with_guard, return_step, StubSteps, stub_code, cost_of, TaskRun, TaskState}
use Rattle.prem_sets_sound.proofs.Prelude.{TaskFits, Did, Compatible, Instr, Jalr, PmMem, line_cost, Plant, IsReady, ReturnsCharged, call_weight, StubsAreCharged, StubAt, StubStands}
use Rattle.prem_sets_sound.proofs.Prelude.{section_of, Section, section_dids, ends, goes, calls, due_along, charge, Mark, pos}
use Rattle.prem_asm.specs.Steps.{Holds}
use Rattle.prem_sets_sound.proofs.StubLawsLemmas.JobChargesLemmas.Steps.{WellAt, Any, fits_rules}
use Rattle.prem_sets_sound.proofs.WeaveLemmas.Charges.{weaves_are_charged}
use Rattle.prem_sets_sound.proofs.WeaveLemmas.SegmentLemmas.Sections.{stubs_are_sections}

-- ---- code that stands

well_code : (size : ℕ) (g : Guard) (bytes : ℕ → ℕ) (code : List Instr) (at : ℕ) → size < 2 ^ 32 → CodeStands size g bytes at code → AllCode WellAt at code
well_code size g bytes [] at small st = tt
well_code size g bytes (i ∷ is) at small st = ((st.0.1, below at st.0.0.within), well_code size g bytes is (at + 4) small st.1) where
  below : (at : ℕ) → at + 4 ≤ size → at + 4 < 2 ^ 32
  below at le = omega (arith, le, small)

pub well_part : (s : Setting) (bytes : ℕ → ℕ) (parts part : ℕ) (ps : Pieces) → s.size < 2 ^ 32 → s.places part % 4 ≡ 0 →
    PartStands s bytes parts part ps → AllCode WellAt (s.places part) (code_of s.places (s.places part) ps)
well_part s bytes parts part ps small al w =
    let f = flat_ok s.places (s.places part) ps w.words w.flat_is in
    well_code s.size s.guard bytes (code_of s.places (s.places part) ps) (s.places part) small
    (code_stands s.size s.guard bytes (code_of s.places (s.places part) ps) (s.places part) (all_fit (code_of s.places (s.places part) ps) (code_near parts s.places ps (s.places part) w.fit al) f.0)
    (subst (λ ws. Stand s.size s.guard bytes (s.places part) ws) f.1 w.stand))

-- ---- the stub

module _ (plant : Plant) (passes : ℕ → ℕ) (s : Setting) (h : Guard) (c : Codes) (own : TaskRun) (ended : ℕ) (bytes : ℕ → ℕ) (parts n : ℕ) (x : StubAt)
    (stands : StubStands plant passes s h c own ended bytes parts n x) where
  calls_fit : (m : ℕ) → m ≤ n → (part : ℕ) (t : TaskState) → TaskFits t → Holds Any TaskFits (code_calls (with_guard h s) c m part t)
  unfolding code_calls
  calls_fit zero le part t fits = tt
  calls_fit (suc m) le part t fits =
      one_holds Any TaskFits (eqb part (c.code_part m)) (run (with_guard h s) (code_calls (with_guard h s) c m) (s.places (c.code_part m)) (c.code m) t) (code_calls (with_guard h s) c m part t)
      (every WellAt Any TaskFits (with_guard h s) (code_calls (with_guard h s) c m) (fits_rules s.target s.size h)
      (λ part t fits. calls_fit m (omega arith) part t fits) (c.code m) (s.places (c.code_part m))
      (well_part s bytes parts (c.code_part m) (c.code m) stands.running.small (stands.running.aligned (c.code_part m)) (stands.code m le)) t fits)
      (calls_fit m (omega arith) part t fits)

  pub stub_fits : (t : TaskState) → TaskFits t → Holds Any TaskFits (run (with_guard h s) (code_calls (with_guard h s) c n) (s.places x.stub) (stub_code x.kind plant.line x.ranges x.stated x.part) t)
  stub_fits t fits =
      every WellAt Any TaskFits (with_guard h s) (code_calls (with_guard h s) c n) (fits_rules s.target s.size h)
      (λ part t fits. calls_fit n (omega arith) part t fits) (stub_code x.kind plant.line x.ranges x.stated x.part) (s.places x.stub)
      (well_part s bytes parts x.stub (stub_code x.kind plant.line x.ranges x.stated x.part) stands.running.small (stands.running.aligned x.stub) stands.stub_words) t fits

  returned : (t u : TaskState) (back : ℕ) (trace : List Did) → IsReady t →
      run (with_guard h s) (code_calls (with_guard h s) c n) (s.places x.stub) (stub_code x.kind plant.line x.ranges x.stated x.part) t ≡ Returns back u trace →
      (total (charge plant) trace ≤ call_weight plant x.stated) × (u.phase ≡ Compatible)
  returned t u back trace ready goes_so =
      let r = stubs_return (with_guard h s) (code_calls (with_guard h s) c n)
      plant.line stands.line_fits x.ranges stands.in_memory x.kind stands.few x.stated x.part (s.places x.stub) stands.small t u back trace ready.0
      (record { zero = ready.1.zero; word = ready.1.registers }) goes_so in
      let w : StubSteps (code_calls (with_guard h s) c n x.part) (s.places x.stub) plant.line x.ranges (passes plant.ways) x.stated trace =
      subst (λ k. StubSteps (code_calls (with_guard h s) c n x.part) (s.places x.stub) plant.line x.ranges k x.stated trace) stands.count_is r.steps in
      let mark : Mark = record { stated = x.stated; before = []; after = [] } in
      let m : Section = section_of w x.members mark in
      let ret : Did = return_step (w.ended_at + 4) in
      let is = stubs_are_sections plant passes (with_guard h s) c x.ranges x.members n x.part (s.places x.stub)
      x.kind x.stated mark t u back trace stands.line_fits.positive stands.within goes_so stands.room w refl stands.cost in
      let sum : due_along plant (calls m (goes ret ends)) ≡ total (charge plant) (section_dids m ++ ret ∷ []) =
      weaves_are_charged plant passes (calls m (goes ret ends)) (is, (record { phase = refl; goes_on = tt }, tt)) in
      let same : total (charge plant) trace ≡ total (charge plant) (section_dids m ++ ret ∷ []) = ap (total (charge plant)) w.trace_is in
      (within (total (charge plant) trace) (total (charge plant) (section_dids m ++ ret ∷ [])) x.stated same sum, ap (λ (v : TaskState). v.phase) r.ends)
    where
      within : (all steps stated : ℕ) → all ≡ steps →
          cost_of PmMem + 1 * line_cost plant + (2 * plant.switch + stated) + (cost_of (Jalr 0 4 (pos 0)) + 1 * line_cost plant + 0 + 0) ≡ steps →
          all ≤ call_weight plant stated
      within all steps stated e f = omega (arith, e, f)

  charged : (t : TaskState) → IsReady t → (o : Ending) →
      run (with_guard h s) (code_calls (with_guard h s) c n) (s.places x.stub) (stub_code x.kind plant.line x.ranges x.stated x.part) t ≡ o →
      Holds Any TaskFits o →
      ReturnsCharged plant (call_weight plant x.stated) o
  charged t ready (Falls u trace) is fits = tt
  charged t ready (Returns back u trace) is fits = let r = returned t u back trace ready is in (r.0, (r.1, fits.1))
  charged t ready Stuck is fits = tt

pub stubs_are_charged : StubsAreCharged
stubs_are_charged plant passes s h c own ended bytes parts n x stands t ready =
    charged plant passes s h c own ended bytes parts n x stands t ready
    (run (with_guard h s) (code_calls (with_guard h s) c n) (s.places x.stub) (stub_code x.kind plant.line x.ranges x.stated x.part) t) refl
    (stub_fits plant passes s h c own ended bytes parts n x stands t ready.1)
