-- A run along a strand is scoped and charged as the strand is.
use Rattle.std.proofs.Common.{◌≡◌, ℕ, suc, ◌+◌, ◌*◌, ◌<◌, ◌≤◌, refl, ap, ◌∙◌, sym, subst, arith, true, false, Some, None, Option, List, [], ◌∷◌, ◌++◌, length, slice_index_or, ⊎_elim}
use Rattle.prem_sound.proofs.Prelude.{is_predictable, plain_run-add, plain_trace-add, IsLawful, cost_of, TaskRun, PlainState, Did, is_running, plain_did, plain_start, plain_steps, plain_run}
use Rattle.prem_sound.proofs.Prelude.{plain_trace, with_last, Change, Stay, Memory, Execute, End, Job, Phase, Compatible, Execution, AllIn, Plant, within_job, within_stretch, Scoping}
use Rattle.prem_sound.proofs.Prelude.{lines_with, within_scope, scope_with, scope_by, scope_at, lines_charged, charge_with, Charges, charges_by, own_charge, did_charge, job_with}
use Rattle.prem_sound.proofs.Prelude.{job_charged, stretch_with, stretch_charged, line_cost, roomy_of, crowded_of, Scope, charge_of, Strand, ends, runs, calls, dids_along, none_begins}
use Rattle.prem_sound.proofs.Prelude.{one_begins, begins_along, scoping_of, GoesTo, IsWithinInterval, IsStrand, last_change, calls_begun, scope_due, ChargedFrom, StrandsAreCharged}
use Rattle.prem_sound.proofs.Prelude.{lines_of_did, lines_of_dids, cost_of_dids, Begun, begun_with, begun_by, change_due, call_at, Script, add-mul, cases_lt, length-append, filter-append}
use Rattle.prem_sound.proofs.Prelude.{sum_by-cons, All}
use Rattle.prem_isa.specs.declared.effect.Phase.TheVariants.{Memory as MemoryPhase}
use Rattle.prem_sound.proofs.CallRuns.{begins_call, calls_after, none_did}
use Rattle.prem_sound.proofs.Ends.{not_running, behind_end}
use Rattle.prem_sound.proofs.ScopesLemmas.ChargeRuns.{scope_by-next, job_charged-next, stretch_charged-next}
use Rattle.prem_sound.proofs.ScriptLemmas.Begins.{Executed, executed, did_lawful, begun_by-next}
use Rattle.prem_sound.proofs.ScriptLemmas.Conforming.{trace_short}

-- ---- a trace, instruction by instruction

trace_one : (run : TaskRun) (s : PlainState) → plain_trace run 1 s ≡ with_last (plain_did run s) []
unfolding plain_trace plain_steps
trace_one run s = refl

module _ (run : TaskRun) where
  -- these are executed from a place on
  abbrev pub ListGoes : ℕ → List Did → Type 0
  ListGoes n [] = Unit {0}
  ListGoes n (d ∷ ds) = (plain_did run (plain_run run n) ≡ Some d) × ListGoes (n + 1) ds

  pub list_goes : (ds : List Did) (n : ℕ) → plain_trace run (length ds) (plain_run run n) ≡ ds → ListGoes n ds
  list_goes [] n e = tt
  list_goes (d ∷ ds) n e =
      let s : PlainState = plain_run run n in
      let one : suc (length ds) ≡ 1 + length ds = omega arith in
      let next : plain_run run (n + 1) ≡ plain_steps run 1 s = plain_run-add run n 1 in
      let split : d ∷ ds ≡ with_last (plain_did run s) [] ++ plain_trace run (length ds) (plain_run run (n + 1)) =
      sym e ∙ ap (λ k. plain_trace run k s) one ∙ plain_trace-add run 1 (length ds) s
      ∙ ap (λ xs. xs ++ plain_trace run (length ds) (plain_steps run 1 s)) (trace_one run s)
      ∙ ap (λ x. with_last (plain_did run s) [] ++ plain_trace run (length ds) x) (sym next) in
      by (plain_did run s) refl (list_goes ds (n + 1)) split where
        by : (o : Option Did) → plain_did run (plain_run run n) ≡ o →
            (plain_trace run (length ds) (plain_run run (n + 1)) ≡ ds → ListGoes (n + 1) ds) →
            d ∷ ds ≡ with_last o [] ++ plain_trace run (length ds) (plain_run run (n + 1)) → ListGoes n (d ∷ ds)
        by (Some x) is more split =
            let same : d ≡ x = cc in
            let rest : ds ≡ plain_trace run (length ds) (plain_run run (n + 1)) = cc in
            (is ∙ ap Some (sym same), more (sym rest))
        by None is more split =
            let long : suc (length ds) ≡ length (plain_trace run (length ds) (plain_run run (n + 1))) = ap length split in
            absurd (omega (arith, long, trace_short run (length ds) (plain_run run (n + 1))))

  list_split : (xs ys : List Did) (n : ℕ) → ListGoes n (xs ++ ys) → ListGoes n xs × ListGoes (n + length xs) ys
  list_split [] ys n h = (tt, let e : n ≡ n + 0 = omega arith in subst (λ k. ListGoes k ys) e h)
  list_split (x ∷ xs) ys n h =
      let r : ListGoes (n + 1) xs × ListGoes (n + 1 + length xs) ys = list_split xs ys (n + 1) h.1 in
      let e : n + 1 + length xs ≡ n + suc (length xs) = omega arith in
      ((h.0, r.0), subst (λ k. ListGoes k ys) e r.1)

-- ---- where scopes begin

module _ (scoping : Scoping) where
  abbrev BeginsGo : ℕ → List (Option (List ℕ)) → Type 0
  BeginsGo n [] = Unit {0}
  BeginsGo n (o ∷ os) = (scoping n ≡ o) × BeginsGo (n + 1) os

  begins_go : (os : List (Option (List ℕ))) (n : ℕ) → ((m : ℕ) → scoping (n + m) ≡ slice_index_or os m None) → BeginsGo n os
  begins_go [] n f = tt
  begins_go (o ∷ os) n f = (
    let e : n ≡ n + 0 = omega arith in ap scoping e ∙ f 0,
    begins_go os (n + 1) (λ m. let e : n + 1 + m ≡ n + suc m = omega arith in ap scoping e ∙ f (suc m)),
  )

  begins_split : (xs ys : List (Option (List ℕ))) (n : ℕ) → BeginsGo n (xs ++ ys) → BeginsGo n xs × BeginsGo (n + length xs) ys
  begins_split [] ys n h = (tt, let e : n ≡ n + 0 = omega arith in subst (λ k. BeginsGo k ys) e h)
  begins_split (x ∷ xs) ys n h =
      let r : BeginsGo (n + 1) xs × BeginsGo (n + 1 + length xs) ys = begins_split xs ys (n + 1) h.1 in
      let e : n + 1 + length xs ≡ n + suc (length xs) = omega arith in
      ((h.0, r.0), subst (λ k. BeginsGo k ys) e r.1)

none_length : (ds : List Did) → length (none_begins ds) ≡ length ds
none_length [] = refl
none_length (d ∷ ds) = let r : length (none_begins ds) ≡ length ds = none_length ds in omega (arith, r)

one_length : (lines : List ℕ) (ds : List Did) → length (one_begins lines ds) ≡ length ds
one_length lines [] = refl
one_length lines (d ∷ ds) = let r : length (none_begins ds) ≡ length ds = none_length ds in omega (arith, r)

-- ---- sums

crowded-append : (plant : Plant) (lines xs ys : List ℕ) → length (crowded_of plant lines (xs ++ ys)) ≡ length (crowded_of plant lines xs) + length (crowded_of plant lines ys)
crowded-append plant lines xs ys = ap length (filter-append _ xs ys) ∙ length-append (crowded_of plant lines xs) (crowded_of plant lines ys)

all_left : (c xs ys : List ℕ) → AllIn c (xs ++ ys) → AllIn c xs × AllIn c ys
all_left c [] ys h = (tt, h)
all_left c (x ∷ xs) ys h = let r : AllIn c xs × AllIn c ys = all_left c xs ys h.1 in ((h.0, r.0), r.1)

module _ (plant : Plant) (run : TaskRun) (s : Script) (scoping : Scoping) (cost most : ℕ) where
  abbrev charge : Charges
  charge = charges_by plant run scoping

  abbrev stated_at : ℕ → ℕ
  stated_at n = (call_at s (begun_by run n).calls).stated

  record Bound (m : ℕ) (d : Did) : Type 0 where
    job : job_charged plant s run charge m + did_charge plant (stated_at m) d.phase d.change (charge m d) ≤ cost
    stretch : d.phase ≡ Compatible → stretch_charged run charge m + charge m d ≤ most
    within : d.phase ≡ Compatible → AllIn (scope_at run scoping m) (lines_of_did plant.line d)

  -- the instructions of some places are within their bounds
  abbrev AreBound : (from behind : ℕ) → Type 0
  AreBound n k = (m : ℕ) (d : Did) → n ≤ m → m < k → plain_did run (plain_run run m) ≡ Some d → Bound m d

  one_bound : (n : ℕ) (d : Did) → plain_did run (plain_run run n) ≡ Some d → Bound n d → AreBound n (n + 1)
  one_bound n d is b m e le lt h =
      let at : m ≡ n = omega (arith, le, lt) in
      let o : Some d ≡ Some e = sym is ∙ ap (λ k. plain_did run (plain_run run k)) (sym at) ∙ h in
      let same : d ≡ e = cc in
      subst (λ k. Bound k e) (sym at) (subst (Bound n) same b)

  both_bound : (n k l : ℕ) → AreBound n k → AreBound k l → AreBound n l
  both_bound n k l a b m d le lt h =
      ⊎_elim (λ (low : m < k). a m d le low h) (λ (high : k ≤ m). b m d high lt h) (cases_lt m k)

  none_bound : (n : ℕ) → AreBound n (n + 0)
  none_bound n m d ge lt h = absurd (omega (arith, ge, lt))

  -- what a place has behind it
  record At (n begun job stretch : ℕ) : Type 0 where
    calls_are : (begun_by run n).calls ≡ begun
    job_is : job_charged plant s run charge n ≤ job
    stretch_is : stretch_charged run charge n ≤ stretch

  record Walked (n k begun job stretch : ℕ) : Type 0 where
    bound : AreBound n k
    at : At k begun job stretch

  -- ---- one instruction

  job_next : (n : ℕ) (d : Did) → plain_did run (plain_run run n) ≡ Some d →
      job_charged plant s run charge (n + 1)
      ≡ within_job d.change (job_charged plant s run charge n + did_charge plant (stated_at n) d.phase d.change (charge n d))
  job_next n d is = job_charged-next plant s run charge n ∙ ap (λ o. job_with plant s (begun_by run n) charge n o (job_charged plant s run charge n)) is

  stretch_next : (n : ℕ) (d : Did) → plain_did run (plain_run run n) ≡ Some d →
      stretch_charged run charge (n + 1) ≡ within_stretch d.change (stretch_charged run charge n + own_charge d.phase (charge n d))
  stretch_next n d is = stretch_charged-next run charge n ∙ ap (λ o. stretch_with charge n o (stretch_charged run charge n)) is

  begun_next : (n : ℕ) (d : Did) → plain_did run (plain_run run n) ≡ Some d → (begun_by run (n + 1)).calls ≡ (begun_by run n).calls + calls_begun d.change
  begun_next n d is = ap (λ (b : Begun). b.calls) (begun_by-next run n ∙ ap (λ o. begun_with o (begun_by run n)) is)
      ∙ calls_after d.change d (begun_by run n) ∙ ap (λ c. (begun_by run n).calls + c) (same_count d.change)
    where
      same_count : (c : Change) → begins_call c ≡ calls_begun c
      same_count Stay = refl
      same_count Memory = refl
      same_count (Execute stated) = refl
      same_count End = refl
      same_count Job = refl

  scope_next : (n : ℕ) (d : Did) → plain_did run (plain_run run n) ≡ Some d → scope_by run scoping (n + 1) ≡ within_scope d.change (scope_at run scoping n)
  scope_next n d is = scope_by-next run scoping n ∙ ap (λ o. scope_with o (scope_at run scoping n)) is

  job_less : (c : Change) (a b : ℕ) → a ≤ b → within_job c a ≤ within_job c b
  job_less Stay a b le = le
  job_less Memory a b le = le
  job_less (Execute stated) a b le = le
  job_less End a b le = le
  job_less Job a b le = omega arith

  stretch_less : (c : Change) (a b : ℕ) → a ≤ b → within_stretch c a ≤ within_stretch c b
  stretch_less Stay a b le = le
  stretch_less Memory a b le = omega arith
  stretch_less (Execute stated) a b le = le
  stretch_less End a b le = omega arith
  stretch_less Job a b le = omega arith

  -- one of a compatible interval, which is charged so much
  step_goes : (n : ℕ) (d : Did) (begun job stretch value : ℕ) → plain_did run (plain_run run n) ≡ Some d → d.phase ≡ Compatible → charge n d ≡ value →
      AllIn (scope_at run scoping n) (lines_of_did plant.line d) → At n begun job stretch →
      job + (value + change_due plant (call_at s begun).stated d.change) ≤ cost → stretch + value ≤ most →
      Walked n (n + 1) (begun + calls_begun d.change) (within_job d.change (job + (value + change_due plant (call_at s begun).stated d.change))) (within_stretch d.change (stretch + value))
  step_goes n d begun job stretch value is ph e within a fits_job fits_stretch =
      let due : did_charge plant (stated_at n) d.phase d.change (charge n d) ≡ value + change_due plant (call_at s begun).stated d.change =
      ap (λ q. did_charge plant (stated_at n) q d.change (charge n d)) ph ∙ ap (λ q. q + change_due plant (stated_at n) d.change) e
      ∙ ap (λ q. value + change_due plant (call_at s q).stated d.change) a.calls_are in
      let own : own_charge d.phase (charge n d) ≡ value = ap (λ q. own_charge q (charge n d)) ph ∙ e in
      record {
        bound = one_bound n d is (record {
          job = omega (arith, a.job_is, due, fits_job);
          stretch = λ _. omega (arith, a.stretch_is, e, fits_stretch);
          within = λ _. within;
        });
        at = record {
          calls_are = begun_next n d is ∙ ap (λ q. q + calls_begun d.change) a.calls_are;
          job_is = subst (λ q. q ≤ within_job d.change (job + (value + change_due plant (call_at s begun).stated d.change))) (sym (job_next n d is))
              (job_less d.change _ _ (omega (arith, a.job_is, due)));
          stretch_is = subst (λ q. q ≤ within_stretch d.change (stretch + value)) (sym (stretch_next n d is)) (stretch_less d.change _ _ (omega (arith, a.stretch_is, own)));
        };
      }

  job_within : (c : Change) (n : ℕ) → n ≤ cost → within_job c n ≤ cost
  job_within Stay n le = le
  job_within Memory n le = le
  job_within (Execute stated) n le = le
  job_within End n le = le
  job_within Job n le = omega arith

  -- ---- a scope

  module _ (lines : List ℕ) where
    -- what instructions of the scope are charged, where it begins with them or goes on
    abbrev charged : Option (List ℕ) → List Did → ℕ
    charged o ds = cost_of_dids ds + (lines_charged plant o + length (crowded_of plant lines (lines_of_dids plant.line ds))) * line_cost plant

    charged_more : (o : Option (List ℕ)) (d : Did) (ds : List Did) → charged o (d ∷ ds) ≡ charge_with plant o lines d + charged None ds
    charged_more o d ds =
        sum (cost_of_dids (d ∷ ds)) (cost_of d.instr) (cost_of_dids ds) (lines_charged plant o)
        (length (crowded_of plant lines (lines_of_dids plant.line (d ∷ ds)))) (length (crowded_of plant lines (lines_of_did plant.line d)))
        (length (crowded_of plant lines (lines_of_dids plant.line ds))) (line_cost plant)
        (sum_by-cons (λ (x : Did). cost_of x.instr) d ds) (crowded-append plant lines (lines_of_did plant.line d) (lines_of_dids plant.line ds)) where
          sum : (t a b l c x y f : ℕ) → t ≡ a + b → c ≡ x + y → t + (l + c) * f ≡ a + (l + x) * f + (b + (0 + y) * f)
          sum t a b l c x y f e g =
              let h : l + c ≡ (l + x) + (0 + y) = omega (arith, g) in
              let k : (l + c) * f ≡ (l + x) * f + (0 + y) * f = ap (λ m. m * f) h ∙ add-mul (l + x) (0 + y) f in
              omega (arith, e, k)

    charged_none : charged None [] ≡ 0
    charged_none = omega arith

    goes_stay : (c : Change) (e : Did) (es : List Did) → GoesTo c (e ∷ es) → c ≡ Stay
    goes_stay Stay e es g = refl
    goes_stay Memory e es g = absurd (let z : e ∷ es ≡ [] = g in cc)
    goes_stay (Execute stated) e es g = absurd g
    goes_stay End e es g = absurd g
    goes_stay Job e es g = absurd (let z : e ∷ es ≡ [] = g in cc)

    first_within : (n : ℕ) (o : Option (List ℕ)) (d : Did) (ds : List Did) → BeginsGo scoping n (o ∷ none_begins ds) →
        lines_with o (scope_by run scoping n) ≡ lines → AllIn lines (lines_of_dids plant.line (d ∷ ds)) →
        AllIn (scope_at run scoping n) (lines_of_did plant.line d)
    first_within n o d ds b here all =
        subst (λ q. AllIn q (lines_of_did plant.line d)) (sym (ap (λ q. lines_with q (scope_by run scoping n)) b.0 ∙ here))
        (all_left lines (lines_of_did plant.line d) (lines_of_dids plant.line ds) all).0

    -- those of a scope from one on
    scope_goes : (ds : List Did) (d : Did) (n : ℕ) (o : Option (List ℕ)) (begun job stretch : ℕ) → ListGoes run n (d ∷ ds) →
        BeginsGo scoping n (o ∷ none_begins ds) → lines_with o (scope_by run scoping n) ≡ lines → IsWithinInterval (d ∷ ds) →
        AllIn lines (lines_of_dids plant.line (d ∷ ds)) → At n begun job stretch →
        job + (charged o (d ∷ ds) + change_due plant (call_at s begun).stated (last_change (d ∷ ds))) ≤ cost → stretch + charged o (d ∷ ds) ≤ most →
        Walked n (n + length (d ∷ ds)) (begun + calls_begun (last_change (d ∷ ds)))
        (within_job (last_change (d ∷ ds)) (job + (charged o (d ∷ ds) + change_due plant (call_at s begun).stated (last_change (d ∷ ds)))))
        (within_stretch (last_change (d ∷ ds)) (stretch + charged o (d ∷ ds)))
    scope_goes [] d n o begun job stretch g b here w all a fits_job fits_stretch =
        let is : charge n d ≡ charge_with plant o lines d = ap (λ q. charge_with plant q (lines_with q (scope_by run scoping n)) d) b.0 ∙ ap (λ q. charge_with plant o q d) here in
        let total : charged o (d ∷ []) ≡ charge_with plant o lines d + charged None [] = charged_more o d [] in
        let value : charge n d ≡ charged o (d ∷ []) = omega (arith, is, total, charged_none) in
        step_goes n d begun job stretch (charged o (d ∷ [])) g.0 w.0 value (first_within n o d [] b here all) a fits_job fits_stretch
    scope_goes (e ∷ es) d n o begun job stretch g b here w all a fits_job fits_stretch =
        let value : ℕ = charge_with plant o lines d in
        let is : charge n d ≡ value = ap (λ q. charge_with plant q (lines_with q (scope_by run scoping n)) d) b.0 ∙ ap (λ q. charge_with plant o q d) here in
        let total : charged o (d ∷ (e ∷ es)) ≡ value + charged None (e ∷ es) = charged_more o d (e ∷ es) in
        let stay : d.change ≡ Stay = goes_stay d.change e es w.1 in
        let lc : Change = last_change (e ∷ es) in
        let due : ℕ = change_due plant (call_at s begun).stated lc in
        let none : change_due plant (call_at s begun).stated d.change ≡ 0 = ap (change_due plant (call_at s begun).stated) stay in
        let one : Walked n (n + 1) (begun + calls_begun d.change)
        (within_job d.change (job + (value + change_due plant (call_at s begun).stated d.change))) (within_stretch d.change (stretch + value)) =
        step_goes n d begun job stretch value g.0 w.0 is (first_within n o d (e ∷ es) b here all) a (omega (arith, fits_job, total, none)) (omega (arith, fits_stretch, total)) in
        let count : calls_begun d.change ≡ 0 = ap calls_begun stay in
        let jobs : within_job d.change (job + (value + change_due plant (call_at s begun).stated d.change)) ≡ job + value =
        ap (λ q. within_job q (job + (value + change_due plant (call_at s begun).stated d.change))) stay ∙ omega (arith, none) in
        let stretches : within_stretch d.change (stretch + value) ≡ stretch + value = ap (λ q. within_stretch q (stretch + value)) stay in
        let next : At (n + 1) begun (job + value) (stretch + value) = record {
          calls_are = omega (arith, one.at.calls_are, count);
          job_is = omega (arith, one.at.job_is, jobs);
          stretch_is = omega (arith, one.at.stretch_is, stretches);
        } in
        let stands : scope_at run scoping n ≡ lines = ap (λ q. lines_with q (scope_by run scoping n)) b.0 ∙ here in
        let on : scope_by run scoping (n + 1) ≡ lines = scope_next n d g.0 ∙ ap (λ q. within_scope q (scope_at run scoping n)) stay ∙ stands in
        let later : AllIn lines (lines_of_dids plant.line (e ∷ es)) = (all_left lines (lines_of_did plant.line d) (lines_of_dids plant.line (e ∷ es)) all).1 in
        let more : Walked (n + 1) (n + 1 + length (e ∷ es)) (begun + calls_begun lc) (within_job lc (job + value + (charged None (e ∷ es) + due)))
        (within_stretch lc (stretch + value + charged None (e ∷ es))) =
        scope_goes es e (n + 1) None begun (job + value) (stretch + value) g.1 b.1 on w.2 later next (omega (arith, fits_job, total)) (omega (arith, fits_stretch, total)) in
        let at : n + 1 + length (e ∷ es) ≡ n + length (d ∷ (e ∷ es)) = omega arith in
        let job' : job + value + (charged None (e ∷ es) + due) ≡ job + (charged o (d ∷ (e ∷ es)) + due) = omega (arith, total) in
        let stretch' : stretch + value + charged None (e ∷ es) ≡ stretch + charged o (d ∷ (e ∷ es)) = omega (arith, total) in
        subst (λ k. Walked n k (begun + calls_begun lc) (within_job lc (job + (charged o (d ∷ (e ∷ es)) + due))) (within_stretch lc (stretch + charged o (d ∷ (e ∷ es))))) at
        (record {
          bound = both_bound n (n + 1) (n + 1 + length (e ∷ es)) one.bound more.bound;
          at = record {
            calls_are = more.at.calls_are;
            job_is = subst (λ q. job_charged plant s run charge (n + 1 + length (e ∷ es)) ≤ within_job lc q) job' more.at.job_is;
            stretch_is = subst (λ q. stretch_charged run charge (n + 1 + length (e ∷ es)) ≤ within_stretch lc q) stretch' more.at.stretch_is;
          };
        })

  -- ---- a marked call

  calm_job : (c : Change) (n : ℕ) → within_job c (n + 0) ≤ n
  calm_job Stay n = omega arith
  calm_job Memory n = omega arith
  calm_job (Execute stated) n = omega arith
  calm_job End n = omega arith
  calm_job Job n = omega arith

  calm_stretch : (c : Change) (n : ℕ) → within_stretch c (n + 0) ≤ n
  calm_stretch Stay n = omega arith
  calm_stretch Memory n = omega arith
  calm_stretch (Execute stated) n = omega arith
  calm_stretch End n = omega arith
  calm_stretch Job n = omega arith

  -- none begins in it
  calm_calls : (ph : Phase) (c : Change) → IsLawful ph c → is_predictable ph ≡ true → calls_begun c ≡ 0
  calm_calls ph Stay l e = refl
  calm_calls ph Memory l e = absurd (let z : false ≡ true = sym (ap is_predictable l) ∙ e in cc)
  calm_calls ph (Execute stated) l e = refl
  calm_calls ph End l e = refl
  calm_calls ph Job l e = refl

  calm_charges : (ph : Phase) (c : Change) (n v : ℕ) → is_predictable ph ≡ true → (did_charge plant n ph c v ≡ 0) × (own_charge ph v ≡ 0)
  calm_charges Compatible c n v e = absurd (let z : false ≡ true = e in cc)
  calm_charges MemoryPhase c n v e = (refl, refl)
  calm_charges Execution c n v e = (refl, refl)

  not_compatible : (ph : Phase) → is_predictable ph ≡ true → ph ≡ Compatible → ⊥
  not_compatible ph e c = let z : false ≡ true = sym (ap is_predictable c) ∙ e in cc

  call_goes : (ds : List Did) (n begun job stretch : ℕ) → ListGoes run n ds → All (λ (d : Did). is_predictable d.phase ≡ true) ds →
      At n begun job stretch → job ≤ cost → Walked n (n + length ds) begun job stretch
  call_goes [] n begun job stretch g h a le = record { bound = none_bound n; at = (let e : n ≡ n + 0 = omega arith in subst (λ k. At k begun job stretch) e a) }
  call_goes (d ∷ ds) n begun job stretch g h a le =
      let p : is_predictable d.phase ≡ true = h 0 d (omega arith) in
      let x : Executed run (plain_run run n) d = executed run (plain_run run n) d g.0 in
      let same : d.phase ≡ (plain_run run n).task.phase = ap (λ (f : Did). f.phase) x.did_is in
      let l : IsLawful d.phase d.change = subst (λ ph. IsLawful ph d.change) (sym same) (did_lawful run (plain_run run n) d x) in
      let z = calm_charges d.phase d.change (stated_at n) (charge n d) p in
      let b : Bound n d = record {
        job = omega (arith, a.job_is, z.0, le);
        stretch = λ c. absurd (not_compatible d.phase p c);
        within = λ c. absurd (not_compatible d.phase p c);
      } in
      let count : calls_begun d.change ≡ 0 = calm_calls d.phase d.change l p in
      let jobs : job_charged plant s run charge (n + 1) ≤ job_charged plant s run charge n =
      subst (λ q. q ≤ job_charged plant s run charge n)
      (sym (job_next n d g.0 ∙ ap (λ q. within_job d.change (job_charged plant s run charge n + q)) z.0))
      (calm_job d.change (job_charged plant s run charge n)) in
      let stretches : stretch_charged run charge (n + 1) ≤ stretch_charged run charge n =
      subst (λ q. q ≤ stretch_charged run charge n)
      (sym (stretch_next n d g.0 ∙ ap (λ q. within_stretch d.change (stretch_charged run charge n + q)) z.1))
      (calm_stretch d.change (stretch_charged run charge n)) in
      let next : At (n + 1) begun job stretch = record {
        calls_are = omega (arith, begun_next n d g.0, count, a.calls_are);
        job_is = omega (arith, jobs, a.job_is);
        stretch_is = omega (arith, stretches, a.stretch_is);
      } in
      let more : Walked (n + 1) (n + 1 + length ds) begun job stretch = call_goes ds (n + 1) begun job stretch g.1 (λ k e lt. h (suc k) e (omega (arith, lt))) next le in
      let e : n + 1 + length ds ≡ n + suc (length ds) = omega arith in
      subst (λ k. Walked n k begun job stretch) e (record { bound = both_bound n (n + 1) (n + 1 + length ds) (one_bound n d g.0 b) more.bound; at = more.at })

  -- ---- a strand

  goes_scope : (x : Scope) (n begun job stretch : ℕ) → ListGoes run n x.dids → BeginsGo scoping n (one_begins x.lines x.dids) →
      IsWithinInterval x.dids → AllIn x.lines (lines_of_dids plant.line x.dids) → At n begun job stretch → job + scope_due plant s begun x ≤ cost →
      stretch + charge_of plant x ≤ most →
      Walked n (n + length x.dids) (begun + calls_begun (last_change x.dids)) (within_job (last_change x.dids) (job + scope_due plant s begun x))
      (within_stretch (last_change x.dids) (stretch + charge_of plant x))
  goes_scope x n begun job stretch g b w all a fits_job fits_stretch = by x.dids refl g b w all fits_job fits_stretch where
    by : (ds : List Did) → x.dids ≡ ds → ListGoes run n ds → BeginsGo scoping n (one_begins x.lines ds) → IsWithinInterval ds → AllIn x.lines (lines_of_dids plant.line ds) →
        job + (cost_of_dids ds + (length (roomy_of plant x.lines x.lines) + length (crowded_of plant x.lines (lines_of_dids plant.line ds)))
        * line_cost plant + change_due plant (call_at s begun).stated (last_change ds)) ≤ cost →
        stretch + (cost_of_dids ds + (length (roomy_of plant x.lines x.lines) + length (crowded_of plant x.lines (lines_of_dids plant.line ds))) * line_cost plant) ≤ most →
        Walked n (n + length ds) (begun + calls_begun (last_change ds))
        (within_job (last_change ds) (job +
        (cost_of_dids ds + (length (roomy_of plant x.lines x.lines) + length (crowded_of plant x.lines (lines_of_dids plant.line ds)))
        * line_cost plant + change_due plant (call_at s begun).stated (last_change ds))))
        (within_stretch (last_change ds)
        (stretch + (cost_of_dids ds + (length (roomy_of plant x.lines x.lines) + length (crowded_of plant x.lines (lines_of_dids plant.line ds)))
        * line_cost plant)))
    by [] e g b w all fj fs = record {
      bound = none_bound n;
      at = record {
        calls_are = (let z : n ≡ n + 0 = omega arith in subst (λ k. (begun_by run k).calls ≡ begun + 0) z (omega (arith, a.calls_are)));
        job_is = (let z : n ≡ n + 0 = omega arith in
            subst (λ k. job_charged plant s run charge k ≤ job +
            (cost_of_dids [] + (length (roomy_of plant x.lines x.lines) + 0) * line_cost plant + 0)) z (omega (arith, a.job_is)));
        stretch_is = (let z : n ≡ n + 0 = omega arith in
            subst (λ k. stretch_charged run charge k ≤ stretch + (cost_of_dids [] + (length (roomy_of plant x.lines x.lines) + 0) * line_cost plant))
            z (omega (arith, a.stretch_is)));
      };
    }
    by (d ∷ ds) e g b w all fj fs = scope_goes x.lines ds d n (Some x.lines) begun job stretch g b refl w all a fj fs

  along : (w : Strand) (n begun job stretch : ℕ) → ListGoes run n (dids_along w) → BeginsGo scoping n (begins_along w) → IsStrand plant w →
      At n begun job stretch → job ≤ cost → ChargedFrom plant s cost most begun job stretch w → AreBound n (n + length (dids_along w))
  along ends n begun job stretch g b h a le c = none_bound n
  along (runs x rest) n begun job stretch g b h a le c =
      let gs = list_split run x.dids (dids_along rest) n g in
      let bs = begins_split scoping (one_begins x.lines x.dids) (begins_along rest) n b in
      let k : ℕ = n + length x.dids in
      let one : Walked n k (begun + calls_begun (last_change x.dids)) (within_job (last_change x.dids) (job + scope_due plant s begun x))
      (within_stretch (last_change x.dids) (stretch + charge_of plant x)) =
      goes_scope x n begun job stretch gs.0 bs.0 h.0 h.1 a c.0 c.1 in
      let at : n + length (one_begins x.lines x.dids) ≡ k = ap (λ m. n + m) (one_length x.lines x.dids) in
      let more : AreBound k (k + length (dids_along rest)) =
      along rest k (begun + calls_begun (last_change x.dids)) (within_job (last_change x.dids) (job + scope_due plant s begun x)) (within_stretch (last_change x.dids) (stretch + charge_of plant x))
      gs.1 (subst (λ m. BeginsGo scoping m (begins_along rest)) at bs.1) h.2 one.at (job_within (last_change x.dids) (job + scope_due plant s begun x) c.0) c.2 in
      let e : k + length (dids_along rest) ≡ n + length (x.dids ++ dids_along rest) = omega (arith, length-append x.dids (dids_along rest)) in
      subst (AreBound n) e (both_bound n k (k + length (dids_along rest)) one.bound more)
  along (calls ds rest) n begun job stretch g b h a le c =
      let gs = list_split run ds (dids_along rest) n g in
      let bs = begins_split scoping (none_begins ds) (begins_along rest) n b in
      let k : ℕ = n + length ds in
      let one : Walked n k begun job stretch = call_goes ds n begun job stretch gs.0 h.0 a le in
      let at : n + length (none_begins ds) ≡ k = ap (λ m. n + m) (none_length ds) in
      let more : AreBound k (k + length (dids_along rest)) = along rest k begun job stretch gs.1 (subst (λ m. BeginsGo scoping m (begins_along rest)) at bs.1) h.1 one.at le c in
      let e : k + length (dids_along rest) ≡ n + length (ds ++ dids_along rest) = omega (arith, length-append ds (dids_along rest)) in
      subst (AreBound n) e (both_bound n k (k + length (dids_along rest)) one.bound more)

-- ---- a whole run

first_at : (plant : Plant) (run : TaskRun) (s : Script) (scoping : Scoping) (cost most : ℕ) → At plant run s scoping cost most 0 0 0 0
unfolding begun_by job_charged stretch_charged
first_at plant run s scoping cost most = record { calls_are = refl; job_is = omega arith; stretch_is = omega arith }

pub first_state : (run : TaskRun) → plain_start run ≡ plain_run run 0
unfolding plain_steps
first_state run = refl

pub strands_are_charged : StrandsAreCharged
strands_are_charged plant run s w cost most longest trace done h c le stated =
    let n : ℕ = length (dids_along w) in
    let scoping : Scoping = scoping_of w in
    let g : ListGoes run 0 (dids_along w) = list_goes run (dids_along w) 0 (ap (plain_trace run n) (sym (first_state run)) ∙ trace) in
    let b : BeginsGo scoping 0 (begins_along w) = begins_go scoping (begins_along w) 0 (λ m. let e : 0 + m ≡ m = omega arith in ap scoping e) in
    let r : AreBound plant run s scoping cost most 0 (0 + n) = along plant run s scoping cost most w 0 0 0 0 g b h (first_at plant run s scoping cost most) (omega arith) c in
    let last : run.jobs ≤ (plain_run run n).ended = omega (arith, done) in
    let bound : (m : ℕ) (d : Did) → plain_did run (plain_run run m) ≡ Some d → Bound plant run s scoping cost most m d =
    (λ m d is.
    ⊎_elim (λ (lt : m < n). r m d (omega arith) (omega (arith, lt)) is)
    (λ (late : n ≤ m).
    let over : is_running run (plain_run run m) ≡ false = ap (is_running run) (behind_end run n m last late) ∙ not_running run (plain_run run n) last in
    absurd (let x : None ≡ Some d = sym (none_did run (plain_run run m) over) ∙ is in cc))
    (cases_lt m n)) in (
      record { within = λ m d is ph. (bound m d is).within ph },
      record {
        jobs = λ m d is. (bound m d is).job;
        stretches = λ m d is ph. omega (arith, (bound m d is).stretch ph, le);
        calls = stated;
      },
    )
