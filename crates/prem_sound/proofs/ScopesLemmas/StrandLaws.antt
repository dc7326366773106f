-- Strands one behind another, and what a scope's charge is made of.
use Rattle.std.proofs.Common.{◌≡◌, ℕ, suc, ◌+◌, ◌*◌, ◌≤◌, refl, ap, ◌∙◌, sym, subst, arith, None, List, [], ◌∷◌, ◌++◌, append_assoc, length, slice_index_or, ◌%◌, ◌/◌, cond, true, false}
use Rattle.std.proofs.Common.{Bool, Some, Option}
use Rattle.prem_sound.proofs.Prelude.{cost_of, Did, Access, Change, Stay, Memory, Execute, End, Job, Plant, within_job, within_stretch, charge_with, crowd_cost, access_cost, ScopesSumUp}
use Rattle.prem_sound.proofs.Prelude.{ChargesByAccess, line_cost, is_roomy, roomy_of, crowded_of, Scope, charge_of, Strand, ends, runs, calls, dids_along, IsStrand, last_change, calls_begun}
use Rattle.prem_sound.proofs.Prelude.{scope_due, ChargedFrom, begun_along, charges_along, EndsNoJob, StretchesWithin, StrandsJoin, JobsAreCharged, ChargesLookAtCalls, access_lines}
use Rattle.prem_sound.proofs.Prelude.{lines_of_did, lines_of_dids, cost_of_dids, change_due, Call, no_call, Script, add-mul, length-append, filter-append, sum_by-cons, sum_by, not}
use Rattle.prem_sound.specs.Scopes.Strands.{joined}

-- ---- a scope

crowded-append : (plant : Plant) (lines xs ys : List ℕ) → length (crowded_of plant lines (xs ++ ys)) ≡ length (crowded_of plant lines xs) + length (crowded_of plant lines ys)
crowded-append plant lines xs ys = ap length (filter-append _ xs ys) ∙ length-append (crowded_of plant lines xs) (crowded_of plant lines ys)

dids_sum : (plant : Plant) (lines : List ℕ) (ds : List Did) →
    cost_of_dids ds + length (crowded_of plant lines (lines_of_dids plant.line ds)) * line_cost plant ≡ sum_by (λ (d : Did). charge_with plant None lines d) ds
dids_sum plant lines [] = omega arith
dids_sum plant lines (d ∷ ds) =
    sum (cost_of_dids (d ∷ ds)) (cost_of d.instr) (cost_of_dids ds) (length (crowded_of plant lines (lines_of_dids plant.line (d ∷ ds))))
    (length (crowded_of plant lines (lines_of_did plant.line d))) (length (crowded_of plant lines (lines_of_dids plant.line ds)))
    (line_cost plant) (sum_by (λ (d : Did). charge_with plant None lines d) ds)
    (sum_by-cons (λ (x : Did). cost_of x.instr) d ds) (crowded-append plant lines (lines_of_did plant.line d) (lines_of_dids plant.line ds)) (dids_sum plant lines ds)
    ∙ sym (sum_by-cons (λ (d : Did). charge_with plant None lines d) d ds) where
      sum : (t a b c x y f r : ℕ) → t ≡ a + b → c ≡ x + y → b + y * f ≡ r → t + c * f ≡ a + (0 + x) * f + r
      sum t a b c x y f r e g h =
          let k : c * f ≡ x * f + y * f = ap (λ m. m * f) g ∙ add-mul x y f in
          let z : (0 + x) * f ≡ x * f = (let q : 0 + x ≡ x = omega arith in ap (λ m. m * f) q) in
          omega (arith, e, k, h, z)

crowded_one : (plant : Plant) (lines : List ℕ) (x : ℕ) (xs : List ℕ) →
    length (crowded_of plant lines (x ∷ xs)) * line_cost plant ≡ crowd_cost plant lines x + length (crowded_of plant lines xs) * line_cost plant
crowded_one plant lines x xs = by (is_roomy plant lines (x % plant.sets)) where
  more : (n f : ℕ) → suc n * f ≡ f + n * f
  more n f = omega arith

  by : (b : Bool) → length (cond (not b) (x ∷ crowded_of plant lines xs) (crowded_of plant lines xs)) * line_cost plant
      ≡ cond b 0 (line_cost plant) + length (crowded_of plant lines xs) * line_cost plant
  by true = omega arith
  by false = more (length (crowded_of plant lines xs)) (line_cost plant)

pub charges_by_access : ChargesByAccess
charges_by_access plant lines d = by d.access refl where
  zero_more : (n f : ℕ) → (0 + n) * f ≡ n * f
  zero_more n f = let e : 0 + n ≡ n = omega arith in ap (λ m. m * f) e

  by : (a : Option Access) → d.access ≡ a → charge_with plant None lines d ≡ cost_of d.instr + crowd_cost plant lines (d.pc / plant.line) + access_cost plant lines d.access
  by None e =
      let first : length (crowded_of plant lines (lines_of_did plant.line d)) * line_cost plant
      ≡ crowd_cost plant lines (d.pc / plant.line) + length (crowded_of plant lines (access_lines plant.line d.access)) * line_cost plant =
      crowded_one plant lines (d.pc / plant.line) (access_lines plant.line d.access) in
      let rest : length (crowded_of plant lines (access_lines plant.line d.access)) * line_cost plant ≡ 0 =
      ap (λ a. length (crowded_of plant lines (access_lines plant.line a)) * line_cost plant) e ∙ omega arith in
      let same : access_cost plant lines d.access ≡ 0 = ap (access_cost plant lines) e in
      omega (arith, zero_more (length (crowded_of plant lines (lines_of_did plant.line d))) (line_cost plant), first, rest, same)
  by (Some a) e =
      let first : length (crowded_of plant lines (lines_of_did plant.line d)) * line_cost plant
      ≡ crowd_cost plant lines (d.pc / plant.line) + length (crowded_of plant lines (access_lines plant.line d.access)) * line_cost plant =
      crowded_one plant lines (d.pc / plant.line) (access_lines plant.line d.access) in
      let one : length (crowded_of plant lines (a.address / plant.line ∷ [])) * line_cost plant
      ≡ crowd_cost plant lines (a.address / plant.line) + 0 * line_cost plant = crowded_one plant lines (a.address / plant.line) [] in
      let rest : length (crowded_of plant lines (access_lines plant.line d.access)) * line_cost plant
      ≡ crowd_cost plant lines (a.address / plant.line) =
      ap (λ a. length (crowded_of plant lines (access_lines plant.line a)) * line_cost plant) e ∙ one ∙ omega arith in
      let same : access_cost plant lines d.access ≡ crowd_cost plant lines (a.address / plant.line) = ap (access_cost plant lines) e in
      omega (arith, zero_more (length (crowded_of plant lines (lines_of_did plant.line d))) (line_cost plant), first, rest, same)

pub scopes_sum_up : ScopesSumUp
scopes_sum_up plant s =
    sum (cost_of_dids s.dids) (length (roomy_of plant s.lines s.lines)) (length (crowded_of plant s.lines (lines_of_dids plant.line s.dids)))
    (line_cost plant) (sum_by (λ (d : Did). charge_with plant None s.lines d) s.dids) (dids_sum plant s.lines s.dids) where
      sum : (a r c f t : ℕ) → a + c * f ≡ t → a + (r + c) * f ≡ r * f + t
      sum a r c f t e = let k : (r + c) * f ≡ r * f + c * f = add-mul r c f in omega (arith, e, k)

-- ---- one behind another

joined_dids : (w v : Strand) → dids_along (joined w v) ≡ dids_along w ++ dids_along v
joined_dids ends v = refl
joined_dids (runs x rest) v = ap (λ ds. x.dids ++ ds) (joined_dids rest v) ∙ sym (append_assoc x.dids (dids_along rest) (dids_along v))
joined_dids (calls ds rest) v = ap (λ xs. ds ++ xs) (joined_dids rest v) ∙ sym (append_assoc ds (dids_along rest) (dids_along v))

joined_strand : (plant : Plant) (w v : Strand) → IsStrand plant w → IsStrand plant v → IsStrand plant (joined w v)
joined_strand plant ends v h g = g
joined_strand plant (runs x rest) v h g = (h.0, h.1, joined_strand plant rest v h.2 g)
joined_strand plant (calls ds rest) v h g = (h.0, joined_strand plant rest v h.1 g)

pub strands_join : StrandsJoin
strands_join plant w v = (joined_dids w v, joined_strand plant w v)

-- ---- a job

module _ (plant : Plant) (s : Script) (cost most : ℕ) where
  no_job : (c : Change) (n : ℕ) → (c ≡ Job → ⊥) → within_job c n ≡ n
  no_job Stay n h = refl
  no_job Memory n h = refl
  no_job (Execute stated) n h = refl
  no_job End n h = refl
  no_job Job n h = absurd (h refl)

  ends_job : (x : Scope) (v : Strand) (begun job stretch : ℕ) → last_change x.dids ≡ Job → job + scope_due plant s begun x ≤ cost →
      stretch + charge_of plant x ≤ most → ChargedFrom plant s cost most begun 0 0 v → ChargedFrom plant s cost most begun job stretch (runs x v)
  ends_job x v begun job stretch e fits within h = (
    fits,
    within,
    subst (λ n. ChargedFrom plant s cost most n (within_job (last_change x.dids) (job + scope_due plant s begun x)) (within_stretch (last_change x.dids) (stretch + charge_of plant x)) v) none
        (subst (λ n. ChargedFrom plant s cost most begun n (within_stretch (last_change x.dids) (stretch + charge_of plant x)) v) (sym (ap (λ c. within_job c (job + scope_due plant s begun x)) e))
        (subst (λ n. ChargedFrom plant s cost most begun 0 n v) (sym (ap (λ c. within_stretch c (stretch + charge_of plant x)) e)) h)),
  ) where
    none : begun ≡ begun + calls_begun (last_change x.dids)
    none = let z : calls_begun (last_change x.dids) ≡ 0 = ap calls_begun e in omega (arith, z)

  job_along : (w v : Strand) (last : Scope) (begun job stretch : ℕ) → EndsNoJob w → last_change last.dids ≡ Job →
      job + (charges_along plant s begun w + scope_due plant s (begun_along begun w) last) ≤ cost →
      StretchesWithin plant most stretch (joined w (runs last ends)) →
      ChargedFrom plant s cost most (begun_along begun w) 0 0 v → ChargedFrom plant s cost most begun job stretch (joined w (runs last v))
  job_along ends v last begun job stretch free e fits within h = ends_job last v begun job stretch e (omega (arith, fits)) within.0 h
  job_along (calls ds rest) v last begun job stretch free e fits within h = job_along rest v last begun job stretch free e fits within h
  job_along (runs x rest) v last begun job stretch free e fits within h =
      let c : Change = last_change x.dids in
      let kept : within_job c (job + scope_due plant s begun x) ≡ job + scope_due plant s begun x = no_job c (job + scope_due plant s begun x) free.0 in (
        omega (arith, fits),
        within.0,
        job_along rest v last (begun + calls_begun c) (within_job c (job + scope_due plant s begun x)) (within_stretch c (stretch + charge_of plant x)) free.1 e (omega (arith, fits, kept)) within.1 h,
      )

pub jobs_are_charged : JobsAreCharged
jobs_are_charged plant s cost most begun w v last free e fits within h = job_along plant s cost most w v last begun 0 0 free e (omega (arith, fits)) within h

-- ---- the script

same_due : (plant : Plant) (s other : Script) (begun : ℕ) (x : Scope) → s.calls ≡ other.calls → scope_due plant s begun x ≡ scope_due plant other begun x
same_due plant s other begun x e = ap (λ (cs : List Call). charge_of plant x + change_due plant (slice_index_or cs begun no_call).stated (last_change x.dids)) e

pub charges_look_at_calls : ChargesLookAtCalls
charges_look_at_calls plant s other cost most begun job stretch ends e h = tt
charges_look_at_calls plant s other cost most begun job stretch (calls ds rest) e h = charges_look_at_calls plant s other cost most begun job stretch rest e h
charges_look_at_calls plant s other cost most begun job stretch (runs x rest) e h =
    let same : scope_due plant s begun x ≡ scope_due plant other begun x = same_due plant s other begun x e in (
      omega (arith, h.0, same),
      h.1,
      subst (λ n. ChargedFrom plant other cost most (begun + calls_begun (last_change x.dids)) (within_job (last_change x.dids) (job + n))
          (within_stretch (last_change x.dids) (stretch + charge_of plant x)) rest) same
          (charges_look_at_calls plant s other cost most (begun + calls_begun (last_change x.dids))
          (within_job (last_change x.dids) (job + scope_due plant s begun x)) (within_stretch (last_change x.dids) (stretch + charge_of plant x))
          rest e h.2),
    )
