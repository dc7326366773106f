-- The run of a stub that returns has the steps of a marked call, which weigh what is counted for it.
use Rattle.std.specs.Prelude.{pos, All}
use Rattle.std.proofs.Common.{◌≡◌, ℕ, zero, suc, ◌+◌, ◌*◌, ◌≤◌, refl, ap, ◌∙◌, arith, true, List, [], ◌∷◌, ◌++◌, append_assoc, Some, slice_get, leb}
use Rattle.std.proofs.lemmas.Bool.{le-leb, and_from}
use Rattle.prem_plant.specs.declared.plant.Plant.{Plant}
use Rattle.prem_isa.specs.declared.instr.Instr.TheVariants.{Jalr, PmMem}
use Rattle.prem_isa.specs.declared.effect.Change.TheVariants.{Stay}
use Rattle.prem_isa.specs.Plain.{Did}
use Rattle.prem_cycle.specs.Runs.Position.Finish.{due_of}
use Rattle.prem_layout.specs.Plans.{Plan}
use Rattle.prem_layout.specs.Bounds.{marked_weights, marked_weight, job_weight}
use Rattle.prem_layout.specs.Stretch.Sums.{marked_sums, marked_sums_of}
use Rattle.prem_code_laws.specs.PrefetchLaws.Stubs.{memory_step}
use Rattle.prem_code_laws.specs.PrefetchLaws.Confined.{return_step}
use Rattle.prem_sets_sound.specs.Weave.Weave.{Section, IsSection, segment_of, section_dids}
use Rattle.prem_sets_sound.specs.StubLaws.StubWeave.StubWeave.{StubAt}
use Rattle.prem_sets_sound.specs.StubLaws.JobCharges.Charged.{call_weight}
use Rattle.prem_latency.specs.Wcet.Openings.{up_to_end}
use Rattle.prem_latency.specs.Wcet.Marked.{is_stay, goes_by, goes_to_end, is_memory, is_call, is_marked_call, first_within, last_within, last_due, call_due}
use Rattle.prem_latency.proofs.WcetLemmas.Openings.{section_ends, last_is}
use Rattle.prem_latency.proofs.WcetLemmas.OpeningRuns.{StubSection}

-- steps that change nothing lead on
stays_lead : (xs ys : List Did) → All (λ (d : Did). d.change ≡ Stay) xs → goes_to_end (xs ++ ys) ≡ goes_to_end ys
stays_lead [] ys h = refl
stays_lead (x ∷ xs) ys h = ap (λ c. goes_by c (xs ++ ys) (goes_to_end (xs ++ ys))) (h 0 x (omega arith)) ∙ stays_lead xs ys (λ k d lt. h (suc k) d (omega (arith, lt)))

-- a marked call and a return
pub section_is_call : (plant : Plant) (passes : ℕ → ℕ) (m : Section) (ret : Did) → IsSection plant passes m → ret.change ≡ Stay → is_call (section_dids m ++ ret ∷ []) ≡ true
section_is_call plant passes m ret h e =
    let begins : is_memory m.begin.change ≡ true = ap is_memory h.begins.1 in
    let body : goes_to_end ((m.body ++ m.last ∷ []) ++ ret ∷ []) ≡ true =
    ap goes_to_end (append_assoc m.body (m.last ∷ []) (ret ∷ [])) ∙ stays_lead m.body (m.last ∷ ret ∷ []) (λ k d lt. (h.running k d lt).1)
    ∙ ap (λ c. goes_by c (ret ∷ []) (goes_to_end (ret ∷ []))) h.lasts.1 ∙ ap (λ c. is_stay c) e in
    let opened : goes_to_end (m.exec ∷ ((m.body ++ m.last ∷ []) ++ ret ∷ [])) ≡ true =
    ap (λ c. goes_by c ((m.body ++ m.last ∷ []) ++ ret ∷ []) (goes_to_end ((m.body ++ m.last ∷ []) ++ ret ∷ []))) h.opens.1 ∙ body in
    let all : goes_to_end ((m.before ++ m.exec ∷ (m.body ++ m.last ∷ [])) ++ ret ∷ []) ≡ true =
    ap goes_to_end (append_assoc m.before (m.exec ∷ (m.body ++ m.last ∷ [])) (ret ∷ []))
    ∙ stays_lead m.before (m.exec ∷ ((m.body ++ m.last ∷ []) ++ ret ∷ [])) (λ k d lt. (h.fetching k d lt).1) ∙ opened in
    and_from _ _ begins all

pub marked_is : (plant : Plant) (plans : List Plan) (k : ℕ) (plan : Plan) → slice_get plans k ≡ Some plan → marked_weights plant plans k ≡ call_weight plant plan.stated
marked_is plant [] k plan e = cc
marked_is plant (x ∷ plans) zero plan e = let same : x ≡ plan = cc in ap (marked_weight plant) same
marked_is plant (x ∷ plans) (suc k) plan e = marked_is plant plans k plan e

-- and so are its sums
pub marked_sums_are : (plant : Plant) (plans : List Plan) (k : ℕ) (plan : Plan) → slice_get plans k ≡ Some plan → marked_sums plant plans k ≡ marked_sums_of plant
marked_sums_are plant [] k plan e = cc
marked_sums_are plant (x ∷ plans) zero plan e = refl
marked_sums_are plant (x ∷ plans) (suc k) plan e = marked_sums_are plant plans k plan e

pub last_end : (p : Plant) (xs : List Did) (r : Did) → last_within p (xs ++ r ∷ []) ≡ leb (due_of p r) (job_weight p (Jalr 0 4 (pos 0)))
last_end p [] r = refl
last_end p (x ∷ []) r = refl
last_end p (x ∷ y ∷ ys) r = last_end p (y ∷ ys) r

-- where the interval counts no more than some length, the call counts no more than one that states it
pub section_is_marked : (plant : Plant) (passes : ℕ → ℕ) (counts : List Did → ℕ) (at most : ℕ) (x : StubAt) (trace : List Did)
    (c : StubSection plant passes at x trace) → counts (segment_of c.section) ≤ most → is_marked_call plant counts trace (call_weight plant most) ≡ true
section_is_marked plant passes counts at most x trace c le =
    let ret : Did = return_step c.ended in
    let call : is_call trace ≡ true = ap is_call c.trace_is ∙ section_is_call plant passes c.section ret c.is_section refl in
    let starts : first_within plant trace ≡ true = ap (first_within plant) c.trace_is
    ∙ ap (λ (d : Did). leb (due_of plant d) (job_weight plant PmMem)) c.begins
    ∙ le-leb (due_of plant (memory_step at)) (job_weight plant PmMem) (omega arith) in
    let returns_ : last_within plant trace ≡ true = ap (last_within plant) c.trace_is ∙ last_end plant (section_dids c.section) ret
    ∙ le-leb (due_of plant ret) (job_weight plant (Jalr 0 4 (pos 0))) (omega arith) in
    let first : due_of plant c.section.begin ≡ due_of plant (memory_step at) = ap (due_of plant) c.begins in
    let inner : counts (up_to_end (segment_of c.section ++ ret ∷ [])) ≡ counts (segment_of c.section) = ap counts (section_ends plant passes c.section c.is_section (ret ∷ [])) in
    let last : last_due plant (segment_of c.section ++ ret ∷ []) ≡ due_of plant ret = last_is plant (segment_of c.section) ret in
    let due : call_due plant counts trace ≡ call_due plant counts (section_dids c.section ++ ret ∷ []) = ap (call_due plant counts) c.trace_is in
    and_from _ _ call (and_from _ _
    (le-leb _ _ (within (call_due plant counts trace) (due_of plant c.section.begin) (counts (up_to_end (segment_of c.section ++ ret ∷ [])))
    (last_due plant (segment_of c.section ++ ret ∷ [])) (counts (segment_of c.section)) due first inner last le)) (and_from _ _ starts returns_))
  where
    within : (all first inner last counted : ℕ) → all ≡ first + (2 * plant.switch + inner) + last → first ≡ due_of plant (memory_step at) →
        inner ≡ counted → last ≡ due_of plant (return_step c.ended) → counted ≤ most → all ≤ call_weight plant most
    within all first inner last counted a b c d e = omega (arith, a, b, c, d, e)
