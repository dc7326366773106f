-- The longest stretch counts no more than by the rule.
use Rattle.std.proofs.Common.{◌≡◌, ℕ, zero, suc, ◌+◌, ◌-◌, ◌≤◌, max, min, arith, subst, sym, refl, ap, ◌∙◌, cond, ltb, ◌||◌, true, false, Bool, List, [], ◌∷◌, ◌++◌, length, length-append}
use Rattle.prem_wcet_laws.proofs.Prelude.{jump_weight, PmDone, sums_are_exact, within_same, chained_within, taking_within, greatest_within, job_weight, TaskPlaces, code_part, start_part}
use Rattle.prem_wcet_laws.proofs.Prelude.{Plan, stretch_of, greatest_stated, Sums, taking, no_sums, chained, greatest, part_sums, sums_at, sums_behind, marked_sums, job_sums, IsWithin}
use Rattle.prem_wcet_laws.proofs.Prelude.{parts_of, codes_of, is_marked_at, marked_before, stub_part, Plant, Routine, Resolved, marked_count, table_of, LongestIsWithin, called_least}
use Rattle.prem_wcet_laws.proofs.Prelude.{own_jump, cuts, called_parted, Fact, no_fact, Scene, fact_of, charge, scene_of, stack_of, fact_at, at_function, facts_behind, known_scene}
use Rattle.prem_wcet_laws.proofs.Prelude.{own_start, start_span, ltb-false, le-ltb, slice_index_or}
use Rattle.prem_wcet_laws.proofs.Facts.{codes_length, past}
use Rattle.prem_wcet_laws.proofs.Ordered.{right_of}
use Rattle.prem_wcet_laws.proofs.Split.{function_taken, function_sums}
use Rattle.prem_wcet_laws.proofs.Within.{taken_both, taken_less}

none_within : (x : Sums) → IsWithin no_sums x
none_within x = record { whole = tt; before = tt; between = tt; behind = tt }

-- the part of a stub
stub_sums : (functions : ℕ) (code stubs : ℕ → Sums) (k : ℕ) → part_sums functions code stubs (1 + functions + k) ≡ stubs k
stub_sums functions code stubs k =
    let e : 1 + functions + k ≡ suc (functions + k) = omega arith in
    let m : functions + k - functions ≡ k = omega arith in
    ap (part_sums functions code stubs) e ∙ ap (λ b. cond b (code (functions + k)) (stubs (functions + k - functions))) (le-ltb (functions + k) functions (omega arith)) ∙ ap stubs m

-- ---- lists

record IsSummed (f : Fact) (s : Sums) : Type 0 where
  sums : IsWithin f.parted.sums s
  least : f.cuts ≡ false → IsWithin (taking f.least) s

abbrev AllSummed : List Fact → List Sums → Type 0
AllSummed [] [] = Unit {0}
AllSummed [] (s ∷ ss) = ⊥
AllSummed (f ∷ fs) [] = ⊥
AllSummed (f ∷ fs) (s ∷ ss) = IsSummed f s × AllSummed fs ss

no_fact_summed : (s : Sums) → IsSummed no_fact s
no_fact_summed s = record { sums = none_within s; least = λ e. cc }

last_summed : (fs : List Fact) (ss : List Sums) (f : Fact) (s : Sums) → AllSummed fs ss → IsSummed f s → AllSummed (fs ++ f ∷ []) (ss ++ s ∷ [])
last_summed [] [] f s h k = (k, tt)
last_summed [] (x ∷ ss) f s h k = absurd h
last_summed (g ∷ fs) [] f s h k = absurd h
last_summed (g ∷ fs) (x ∷ ss) f s h k = (h.0, last_summed fs ss f s h.1 k)

one_summed : (fs : List Fact) (ss : List Sums) → AllSummed fs ss → (n : ℕ) → IsSummed (slice_index_or fs n no_fact) (sums_at ss n)
one_summed [] [] h n = no_fact_summed (taking 0)
one_summed [] (s ∷ ss) h n = absurd h
one_summed (f ∷ fs) [] h n = absurd h
one_summed (f ∷ fs) (s ∷ ss) h zero = h.0
one_summed (f ∷ fs) (s ∷ ss) h (suc n) = one_summed fs ss h.1 n

-- the part of a function's code
code_summed : (functions : ℕ) (stubs : ℕ → Sums) (fs : List Fact) (ss : List Sums) → AllSummed fs ss → length fs ≤ functions → (n : ℕ) →
    IsSummed (slice_index_or fs n no_fact) (part_sums functions (sums_at ss) stubs (code_part n))
code_summed functions stubs fs ss h le n =
    let e : suc n ≡ 1 + n = omega arith in
    subst (λ q. IsSummed (slice_index_or fs n no_fact) (part_sums functions (sums_at ss) stubs q)) e (by (ltb n functions) refl) where
      by : (b : Bool) → ltb n functions ≡ b → IsSummed (slice_index_or fs n no_fact) (cond b (sums_at ss n) (stubs (n - functions)))
      by true is = one_summed fs ss h n
      by false is =
          let more : functions ≤ n = ltb-false n functions is in
          subst (λ f. IsSummed f (stubs (n - functions))) (sym (past fs n (omega (arith, le, more)))) (no_fact_summed (stubs (n - functions)))

-- ---- a task

module _ (p : Plant) (plans : List Plan) (program : Resolved) (t : TaskPlaces) (functions : ℕ) (count : functions ≡ length program.routines) where
  abbrev stubs : ℕ → Sums
  stubs k = marked_sums p plans k

  abbrev sums : List Sums → ℕ → Sums
  sums ss part = part_sums functions (sums_at ss) stubs part

  abbrev scene : List Fact → Scene
  scene known = at_function (scene_of p plans program t) (stack_of program t) known

  stub_is : (k : ℕ) (ss : List Sums) → sums ss (1 + length program.routines + k) ≡ stubs k
  stub_is k ss = ap (λ n. sums ss (1 + n + k)) (sym count) ∙ stub_sums functions (sums_at ss) stubs k

  sums_called : (known : List Fact) (ss : List Sums) → AllSummed known ss → length known ≤ functions → (f : ℕ) → IsWithin (called_parted (scene known) f).sums (sums ss ((scene known).parts.callee f))
  sums_called known ss h le f = by (is_marked_at program.routines f) where
    by : (b : Bool) → IsWithin (cond b (marked_count p plans (marked_before f program.routines)) (slice_index_or known f no_fact).parted).sums
        (sums ss (cond b (stub_part program.routines f) (code_part f)))
    by true = subst (λ s. IsWithin (stubs (marked_before f program.routines)) s) (sym (stub_is (marked_before f program.routines) ss)) (within_same (stubs (marked_before f program.routines)))
    by false = (code_summed functions stubs known ss h le f).sums

  least_called : (known : List Fact) (ss : List Sums) → AllSummed known ss → length known ≤ functions → (f : ℕ) → cuts (scene known) f ≡ false →
      IsWithin (taking (called_least (scene known) f)) (sums ss ((scene known).parts.callee f))
  least_called known ss h le f = by (is_marked_at program.routines f) where
    by : (b : Bool) → (b || (slice_index_or known f no_fact).cuts) ≡ false →
        IsWithin (taking (cond b 0 (slice_index_or known f no_fact).least)) (sums ss (cond b (stub_part program.routines f) (code_part f)))
    by true is = cc
    by false is = (code_summed functions stubs known ss h le f).least is

  behind_summed : (fs : List Routine) (known : List Fact) (ss : List Sums) → AllSummed known ss → length known + length fs ≤ functions →
      AllSummed (facts_behind (scene_of p plans program t) (stack_of program t) known fs) (sums_behind (job_weight p) functions stubs ss (codes_of (parts_of p.target program.routines) fs))
  behind_summed [] known ss h le = h
  behind_summed (f ∷ fs) known ss h le =
      let e = scene known in
      let at = e.places (code_part (length known)) in
      let short : length known ≤ functions = omega (arith, le) in
      behind_summed fs _ _
      (last_summed known ss (fact_at e f at) _ h (record {
        sums = function_sums e (sums ss) (least_called known ss h short) (sums_called known ss h short) f at;
        least = λ none. function_taken e (sums ss) (least_called known ss h short) f at none;
      }))
      (longer (length known) (length (known ++ fact_at e f at ∷ [])) (length fs) (length-append known (fact_at e f at ∷ [])) le) where
        longer : (a b n : ℕ) → b ≡ a + 1 → a + suc n ≤ functions → b + n ≤ functions
        longer a b n e le = omega (arith, e, le)

  facts_length : (fs : List Routine) (known : List Fact) → length (facts_behind (scene_of p plans program t) (stack_of program t) known fs) ≡ length known + length fs
  facts_length [] known = omega arith
  facts_length (f ∷ fs) known =
      let e = scene known in
      let g = fact_at e f (e.places (code_part (length known))) in
      longer (length known) (length (known ++ g ∷ [])) (length fs) _ (length-append known (g ∷ [])) (facts_length fs (known ++ g ∷ [])) where
        longer : (a b n all : ℕ) → b ≡ a + 1 → all ≡ b + n → all ≡ a + suc n
        longer a b n all e more = omega (arith, e, more)

  pub job_summed : (ss : List Sums) → ss ≡ sums_behind (job_weight p) functions stubs [] (codes_of (parts_of p.target program.routines) program.routines) →
      IsWithin (fact_of (known_scene p plans program t) program.job).parted.sums (sums ss (code_part program.job))
      × ((fact_of (known_scene p plans program t) program.job).cuts ≡ false → IsWithin (taking (fact_of (known_scene p plans program t) program.job).least) (sums ss (code_part program.job)))
  job_summed ss is =
      let known = facts_behind (scene_of p plans program t) (stack_of program t) [] program.routines in
      let h = behind_summed program.routines [] [] tt (same count) in
      let one = code_summed functions stubs known _ h (few (length known) (length program.routines) (facts_length program.routines []) count) program.job in
      subst (λ ss. IsWithin (fact_of (known_scene p plans program t) program.job).parted.sums (sums ss (code_part program.job))
      × ((fact_of (known_scene p plans program t) program.job).cuts ≡ false → IsWithin (taking (fact_of (known_scene p plans program t) program.job).least) (sums ss (code_part program.job)))) (sym is)
      (one.sums, one.least) where
        same : {a b : ℕ} → a ≡ b → 0 + b ≤ a
        same e = omega (arith, e)

        few : (a b : ℕ) → a ≡ 0 + b → functions ≡ b → a ≤ functions
        few a b e more = omega (arith, e, more)

pub longest_is_within : LongestIsWithin
longest_is_within p plans program t stubs =
    let table = table_of p program stubs in
    let h = job_summed p plans program t (length table.code) (codes_length (parts_of p.target program.routines) program.routines) (job_sums p plans table) refl in
    more p.switch _ (stretch_of p plans table) (greatest_stated plans) (by (fact_of (known_scene p plans program t) program.job).cuts h.0 h.1 (sums_are_exact p plans table)) where
      more : (s a b c : ℕ) → a ≤ b → s + max a c ≤ s + max b c
      more s a b c le = omega (arith, le)

      same : {a b : ℕ} → a ≡ b → a ≤ b
      same e = omega (arith, e)

      within : (a b c : ℕ) → a ≤ c → b ≡ c → a ≤ b
      within a b c le e = omega (arith, le, e)

      greatest_taking : (n : ℕ) (s : Sums) → IsWithin (taking n) s → n ≤ greatest s
      greatest_taking n s h = below n (greatest s) (greatest_within (taking n) s h) where
        below : (n m : ℕ) → greatest (taking n) ≤ m → n ≤ m
        below n m le = omega (arith, le)

      moved : (j d x : ℕ) → j + d + x ≤ j + (x + ((d + 0) + 0))
      moved j d x = omega arith

      added : (d : ℕ) → d ≤ (d + 0) + 0
      added d = omega arith

      by : (b : Bool) {s : Sums} {n : ℕ} → IsWithin (fact_of (known_scene p plans program t) program.job).parted.sums s →
          (b ≡ false → IsWithin (taking (fact_of (known_scene p plans program t) program.job).least) s) →
          n ≡ greatest (chained (taking (jump_weight (job_weight p))) (chained s (chained (taking (job_weight p PmDone + 0)) (taking 0)))) →
          cond b
          (greatest (chained (taking (own_jump (known_scene p plans program t))) (chained (fact_of (known_scene p plans program t) program.job).parted.sums (taking (job_weight p PmDone)))))
          (cond b (own_start (known_scene p plans program t) + (fact_of (known_scene p plans program t) program.job).parted.total)
          (min (charge (known_scene p plans program t) ((known_scene p plans program t).places start_part) (start_span program))
          (own_start (known_scene p plans program t) + (fact_of (known_scene p plans program t) program.job).least)))
          ≤ n
      by true sums least is =
          within _ _ _
          (greatest_within _ _ (chained_within _ _ _ _ (within_same (taking (jump_weight (job_weight p)))) (chained_within _ _ _ _ sums (taking_within _ _ (added (job_weight p PmDone)))))) is
      by false sums least is =
          within _ _ _
          (right_of _ _ _
          (greatest_taking _ _
          (taken_less _ _ _ (moved (jump_weight (job_weight p)) (job_weight p PmDone) _)
          (taken_both _ _ _ _ (within_same (taking (jump_weight (job_weight p)))) (taken_both _ _ _ _ (least refl) (within_same (taking ((job_weight p PmDone + 0) + 0))))))))
          is
