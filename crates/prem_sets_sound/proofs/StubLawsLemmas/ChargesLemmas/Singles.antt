-- A weave whose instructions are scopes by themselves.
use Rattle.std.proofs.Common.{slice_index_or, ◌≡◌, ℕ, suc, ◌+◌, ◌*◌, ◌<◌, refl, ap, ◌∙◌, sym, subst, arith, true, [], ◌∷◌, ◌++◌, length, ◌%◌, eqb, leb}
use Rattle.prem_sets_sound.proofs.Prelude.{is_predictable, due_of, Did, Change, Stay, Memory, Execute, End, Job, Plant, script_of, PacedTasksAreCharged, RoomIsCounted, PacedFrom, Section}
use Rattle.prem_sets_sound.proofs.Prelude.{segment_of, IsSection, Weave, ends, goes, calls, dids_of, calls_of, IsWeave, within_job, within_stretch, Strand, runs, dids_along, GoesTo}
use Rattle.prem_sets_sound.proofs.Prelude.{IsStrand, calls_begun, scope_due, ChargedFrom, GoesOrDone, change_due, no_call, call_at, Script, All-nil, All-cons, All-append, length-filter, All}
use Rattle.prem_sets_sound.proofs.WeaveLemmas.Woven.{change_free}
use Rattle.prem_sound.proofs.ScopesLemmas.Alone.{singles_are_due}
use Rattle.prem_sound.specs.Scopes.Scopes.{charge_of, single}
use Rattle.prem_sound.specs.Scopes.Strands.{ends as over, calls as marks}
use Rattle.prem_sound.specs.Script.Script.{Call}

module _ (plant : Plant) where
  abbrev pub singles : Weave → Strand
  singles ends = over
  singles (goes d rest) = runs (single plant d) (singles rest)
  singles (calls m rest) = runs (single plant m.begin) (marks (segment_of m) (singles rest))

  singles_dids : (w : Weave) → dids_along (singles w) ≡ dids_of w
  singles_dids ends = refl
  singles_dids (goes d rest) = ap (λ ds. d ∷ ds) (singles_dids rest)
  singles_dids (calls m rest) = ap (λ ds. m.begin ∷ (segment_of m ++ ds)) (singles_dids rest)

  -- ---- what it keeps

  goes_to : (c : Change) → GoesOrDone c → GoesTo c []
  goes_to Stay g = tt
  goes_to Memory g = absurd g
  goes_to (Execute stated) g = absurd g
  goes_to End g = absurd g
  goes_to Job g = refl

  abbrev IsMarked : Did → Type 0
  IsMarked d = is_predictable d.phase ≡ true

  segment_marked : (passes : ℕ → ℕ) (m : Section) → IsSection plant passes m → All IsMarked (segment_of m)
  segment_marked passes m h =
      All-append IsMarked m.before (m.exec ∷ (m.body ++ m.last ∷ [])) (λ k d lt. ap is_predictable (h.fetching k d lt).0)
      (All-cons IsMarked m.exec (m.body ++ m.last ∷ []) (ap is_predictable h.opens.0)
      (All-append IsMarked m.body (m.last ∷ []) (λ k d lt. ap is_predictable (h.running k d lt).0)
      (All-cons IsMarked m.last [] (ap is_predictable h.lasts.0) (All-nil IsMarked))))

  singles_strand : (passes : ℕ → ℕ) (w : Weave) → IsWeave plant passes w → IsStrand plant (singles w)
  singles_strand passes ends h = tt
  singles_strand passes (goes d rest) h = ((h.0.phase, goes_to d.change h.0.goes_on, tt), (singles_are_due plant d).0, singles_strand passes rest h.1)
  singles_strand passes (calls m rest) h =
      ((h.0.begins.0, subst (λ c. GoesTo c []) (sym h.0.begins.1) refl, tt), (singles_are_due plant m.begin).0, (segment_marked passes m h.0, singles_strand passes rest h.1))

  -- ---- what it takes

  module _ (passes : ℕ → ℕ) (s : Script) (cost most : ℕ) where
    abbrev Aligned : ℕ → Weave → Type 0
    Aligned n w = (i : ℕ) → i < length (calls_of w) → call_at s (n + i) ≡ slice_index_or (calls_of w) i no_call

    none_begun : (c : Change) → GoesOrDone c → calls_begun c ≡ 0
    none_begun Stay g = refl
    none_begun Memory g = absurd g
    none_begun (Execute stated) g = absurd g
    none_begun End g = absurd g
    none_begun Job g = refl

    charged_from : (w : Weave) (begun job stretch : ℕ) → IsWeave plant passes w → Aligned begun w → PacedFrom plant cost most job stretch w →
        ChargedFrom plant s cost most begun job stretch (singles w)
    charged_from ends begun job stretch h a p = tt
    charged_from (goes d rest) begun job stretch h a p =
        let is : charge_of plant (single plant d) ≡ due_of plant d = (singles_are_due plant d).1 in
        let free : change_due plant (call_at s begun).stated d.change ≡ change_due plant 0 d.change = change_free plant (call_at s begun).stated d.change h.0.goes_on in
        let due : scope_due plant s begun (single plant d) ≡ due_of plant d + change_due plant 0 d.change = omega (arith, is, free) in
        let count : begun + calls_begun d.change ≡ begun = let z : calls_begun d.change ≡ 0 = none_begun d.change h.0.goes_on in omega (arith, z) in (
          omega (arith, p.0, due),
          omega (arith, p.1, is),
          subst (λ n. ChargedFrom plant s cost most n (within_job d.change (job + scope_due plant s begun (single plant d)))
              (within_stretch d.change (stretch + charge_of plant (single plant d))) (singles rest)) (sym count)
              (subst (λ n. ChargedFrom plant s cost most begun (within_job d.change (job + n)) (within_stretch d.change (stretch + charge_of plant (single plant d))) (singles rest)) (sym due)
              (subst (λ n. ChargedFrom plant s cost most begun (within_job d.change (job + (due_of plant d + change_due plant 0 d.change)))
              (within_stretch d.change (stretch + n)) (singles rest)) (sym is)
              (charged_from rest begun _ _ h.1 a p.2))),
        )
    charged_from (calls m rest) begun job stretch h a p =
        let d : Did = m.begin in
        let is : charge_of plant (single plant d) ≡ due_of plant d = (singles_are_due plant d).1 in
        let zero_is : begun + 0 ≡ begun = omega arith in
        let this : call_at s begun ≡ m.call = ap (call_at s) (sym zero_is) ∙ a 0 (omega arith) in
        let change : change_due plant (call_at s begun).stated d.change ≡ 2 * plant.switch + m.call.stated =
        ap (change_due plant (call_at s begun).stated) h.0.begins.1 ∙ ap (λ (c : Call). 2 * plant.switch + c.stated) this in
        let due : scope_due plant s begun (single plant d) ≡ due_of plant d + (2 * plant.switch + m.call.stated) = omega (arith, is, change) in
        let job' : within_job d.change (job + scope_due plant s begun (single plant d)) ≡ job + (due_of plant d + (2 * plant.switch + m.call.stated)) =
        ap (λ c. within_job c (job + scope_due plant s begun (single plant d))) h.0.begins.1 ∙ ap (λ n. job + n) due in
        let stretch' : within_stretch d.change (stretch + charge_of plant (single plant d)) ≡ 0 = ap (λ c. within_stretch c (stretch + charge_of plant (single plant d))) h.0.begins.1 in
        let count : begun + calls_begun d.change ≡ begun + 1 = ap (λ c. begun + calls_begun c) h.0.begins.1 in
        let align : Aligned (begun + 1) rest = (λ i lt. let e : begun + 1 + i ≡ begun + suc i = omega arith in ap (call_at s) e ∙ a (suc i) (omega (arith, lt))) in (
          omega (arith, p.0, due),
          omega (arith, p.1, is),
          subst (λ n. ChargedFrom plant s cost most n (within_job d.change (job + scope_due plant s begun (single plant d)))
              (within_stretch d.change (stretch + charge_of plant (single plant d))) (singles rest)) (sym count)
              (subst (λ n. ChargedFrom plant s cost most (begun + 1) n (within_stretch d.change (stretch + charge_of plant (single plant d))) (singles rest)) (sym job')
              (subst (λ n. ChargedFrom plant s cost most (begun + 1) (job + (due_of plant d + (2 * plant.switch + m.call.stated))) n (singles rest)) (sym stretch')
              (charged_from rest (begun + 1) _ _ h.1 align p.2))),
        )

pub paced_tasks_are_charged : PacedTasksAreCharged
paced_tasks_are_charged p passes own run most longest q t = record {
  joins = t.joins;
  strand = singles p.plant t.joins.weave;
  dids_are = singles_dids p.plant t.joins.weave;
  scopes = singles_strand p.plant passes t.joins.weave t.joins.woven.weave;
  charged = charged_from p.plant passes (script_of (calls_of t.joins.weave)) most.cycles longest t.joins.weave 0 0 0 t.joins.woven.weave
      (λ i lt. let e : 0 + i ≡ i = omega arith in ap (call_at (script_of (calls_of t.joins.weave))) e) t.paced;
  stated = t.stated;
}

-- ---- lines

pub room_is_counted : RoomIsCounted
room_is_counted plant lines set = ap (λ n. leb n plant.«ways») (length-filter (λ n. eqb (n % plant.sets) set) lines)
