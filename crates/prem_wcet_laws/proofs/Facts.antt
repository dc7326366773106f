-- The facts of functions count no more than the rule's weights, and so does a job.
use Rattle.std.proofs.Common.{◌≡◌, ℕ, zero, suc, ◌+◌, ◌-◌, ◌≤◌, min, arith, subst, sym, refl, ap, ◌∙◌, cond, ltb, true, false, Bool, List, [], ◌∷◌, ◌++◌, length, length-append}
use Rattle.prem_wcet_laws.proofs.Prelude.{jump_weight, PmDone, job_weight, part_weight, weight_at, weights_behind, marked_weights, job_weights, TaskPlaces, code_part, start_part, Plan}
use Rattle.prem_wcet_laws.proofs.Prelude.{parts_of, codes_of, is_marked_at, marked_before, stub_part, Parts, Plant, Routine, Resolved, marked_count, table_of, WcetIsWithin, called_least}
use Rattle.prem_wcet_laws.proofs.Prelude.{called_parted, Fact, no_fact, Scene, fact_of, charge, scene_of, stack_of, fact_at, at_function, facts_behind, known_scene, own_start, start_span}
use Rattle.prem_wcet_laws.proofs.Prelude.{ltb-false, le-ltb, slice_index_or}
use Rattle.prem_wcet_laws.proofs.Ordered.{right_of}
use Rattle.prem_wcet_laws.proofs.Rule.{least_function_within, parted_function_within}

-- ---- numbers of parts

pub codes_length : (parts : Parts) (fs : List Routine) → length (codes_of parts fs) ≡ length fs
codes_length parts [] = refl
codes_length parts (f ∷ fs) = ap suc (codes_length parts fs)

-- the part of a stub
pub stub_weighs : (functions : ℕ) (code stubs : ℕ → ℕ) (k : ℕ) → part_weight functions code stubs (1 + functions + k) ≡ stubs k
stub_weighs functions code stubs k =
    let e : 1 + functions + k ≡ suc (functions + k) = omega arith in
    let m : functions + k - functions ≡ k = omega arith in
    ap (part_weight functions code stubs) e ∙ ap (λ b. cond b (code (functions + k)) (stubs (functions + k - functions))) (le-ltb (functions + k) functions (omega arith)) ∙ ap stubs m

-- ---- lists

record IsLess (f : Fact) (w : ℕ) : Type 0 where
  least : f.least ≤ w
  parted : f.parted.total ≤ w

abbrev AllLess : List Fact → List ℕ → Type 0
AllLess [] [] = Unit {0}
AllLess [] (w ∷ ws) = ⊥
AllLess (f ∷ fs) [] = ⊥
AllLess (f ∷ fs) (w ∷ ws) = IsLess f w × AllLess fs ws

last_less : (fs : List Fact) (ws : List ℕ) (f : Fact) (w : ℕ) → AllLess fs ws → IsLess f w → AllLess (fs ++ f ∷ []) (ws ++ w ∷ [])
last_less [] [] f w h k = (k, tt)
last_less [] (x ∷ ws) f w h k = absurd h
last_less (g ∷ fs) [] f w h k = absurd h
last_less (g ∷ fs) (x ∷ ws) f w h k = (h.0, last_less fs ws f w h.1 k)

one_less : (fs : List Fact) (ws : List ℕ) → AllLess fs ws → (n : ℕ) → IsLess (slice_index_or fs n no_fact) (weight_at ws n)
one_less [] [] h n = record { least = omega arith; parted = omega arith }
one_less [] (w ∷ ws) h n = absurd h
one_less (f ∷ fs) [] h n = absurd h
one_less (f ∷ fs) (w ∷ ws) h zero = h.0
one_less (f ∷ fs) (w ∷ ws) h (suc n) = one_less fs ws h.1 n

pub past : (fs : List Fact) (n : ℕ) → length fs ≤ n → slice_index_or fs n no_fact ≡ no_fact
past [] n le = refl
past (f ∷ fs) zero le = absurd (omega (arith, le))
past (f ∷ fs) (suc n) le = past fs n (omega (arith, le))

-- the part of a function's code
code_weighs : (functions : ℕ) (stubs : ℕ → ℕ) (fs : List Fact) (ws : List ℕ) → AllLess fs ws → length fs ≤ functions → (n : ℕ) →
    IsLess (slice_index_or fs n no_fact) (part_weight functions (weight_at ws) stubs (code_part n))
code_weighs functions stubs fs ws h le n =
    let e : suc n ≡ 1 + n = omega arith in
    subst (λ q. IsLess (slice_index_or fs n no_fact) (part_weight functions (weight_at ws) stubs q)) e (by (ltb n functions) refl) where
      by : (b : Bool) → ltb n functions ≡ b → IsLess (slice_index_or fs n no_fact) (cond b (weight_at ws n) (stubs (n - functions)))
      by true is = one_less fs ws h n
      by false is =
          let more : functions ≤ n = ltb-false n functions is in
          subst (λ f. IsLess f (stubs (n - functions))) (sym (past fs n (omega (arith, le, more)))) (record { least = omega arith; parted = omega arith })

-- ---- a task

module _ (p : Plant) (plans : List Plan) (program : Resolved) (t : TaskPlaces) (functions : ℕ) (count : functions ≡ length program.routines) where
  abbrev stubs : ℕ → ℕ
  stubs k = marked_weights p plans k

  abbrev weights : List ℕ → ℕ → ℕ
  weights ws part = part_weight functions (weight_at ws) stubs part

  abbrev scene : List Fact → Scene
  scene known = at_function (scene_of p plans program t) (stack_of program t) known

  stub_count : (k : ℕ) (ws : List ℕ) → weights ws (1 + length program.routines + k) ≡ stubs k
  stub_count k ws = ap (λ n. weights ws (1 + n + k)) (sym count) ∙ stub_weighs functions (weight_at ws) stubs k

  least_called : (known : List Fact) (ws : List ℕ) → AllLess known ws → length known ≤ functions → (f : ℕ) → called_least (scene known) f ≤ weights ws ((scene known).parts.callee f)
  least_called known ws h le f = by (is_marked_at program.routines f) where
    by : (b : Bool) → cond b 0 (slice_index_or known f no_fact).least ≤ weights ws (cond b (stub_part program.routines f) (code_part f))
    by true = omega arith
    by false = (code_weighs functions stubs known ws h le f).least

  parted_called : (known : List Fact) (ws : List ℕ) → AllLess known ws → length known ≤ functions → (f : ℕ) → (called_parted (scene known) f).total ≤ weights ws ((scene known).parts.callee f)
  parted_called known ws h le f = by (is_marked_at program.routines f) where
    by : (b : Bool) → (cond b (marked_count p plans (marked_before f program.routines)) (slice_index_or known f no_fact).parted).total ≤ weights ws
        (cond b (stub_part program.routines f) (code_part f))
    by true = less (stub_count (marked_before f program.routines) ws) where
      less : {a b : ℕ} → a ≡ b → b ≤ a
      less e = omega (arith, e)
    by false = (code_weighs functions stubs known ws h le f).parted

  behind_less : (fs : List Routine) (known : List Fact) (ws : List ℕ) → AllLess known ws → length known + length fs ≤ functions →
      AllLess (facts_behind (scene_of p plans program t) (stack_of program t) known fs) (weights_behind (job_weight p) functions (λ known. stubs) ws (codes_of (parts_of p.target program.routines) fs))
  behind_less [] known ws h le = h
  behind_less (f ∷ fs) known ws h le =
      let e = scene known in
      let at = e.places (code_part (length known)) in
      let short : length known ≤ functions = omega (arith, le) in
      behind_less fs _ _
      (last_less known ws (fact_at e f at) _ h (record {
        least = least_function_within e (weights ws) (least_called known ws h short) f at;
        parted = parted_function_within e (weights ws) (least_called known ws h short) (parted_called known ws h short) f at;
      }))
      (longer (length known) (length (known ++ fact_at e f at ∷ [])) (length fs) (length-append known (fact_at e f at ∷ [])) le) where
        longer : (a b n : ℕ) → b ≡ a + 1 → a + suc n ≤ functions → b + n ≤ functions
        longer a b n e le = omega (arith, e, le)

  facts_length : (fs : List Routine) (known : List Fact) → length (facts_behind (scene_of p plans program t) (stack_of program t) known fs) ≡ length known + length fs
  facts_length [] known = omega arith
  facts_length (f ∷ fs) known =
      let e = scene known in
      let g = fact_at e f (e.places (code_part (length known))) in
      longer (length known) (length (known ++ g ∷ [])) (length fs) _ (length-append known (g ∷ [])) (facts_length fs (known ++ g ∷ [])) where
        longer : (a b n all : ℕ) → b ≡ a + 1 → all ≡ b + n → all ≡ a + suc n
        longer a b n all e more = omega (arith, e, more)

  pub job_less : (ws : List ℕ) → ws ≡ weights_behind (job_weight p) functions (λ known. stubs) [] (codes_of (parts_of p.target program.routines) program.routines) →
      ((fact_of (known_scene p plans program t) program.job).least ≤ weights ws (code_part program.job))
      × ((fact_of (known_scene p plans program t) program.job).parted.total ≤ weights ws (code_part program.job))
  job_less ws is =
      let known = facts_behind (scene_of p plans program t) (stack_of program t) [] program.routines in
      let h = behind_less program.routines [] [] tt (same count) in
      let one = code_weighs functions stubs known _ h (few (length known) (length program.routines) (facts_length program.routines []) count) program.job in
      subst (λ ws. ((fact_of (known_scene p plans program t) program.job).least ≤ weights ws (code_part program.job))
      × ((fact_of (known_scene p plans program t) program.job).parted.total ≤ weights ws (code_part program.job))) (sym is)
      (one.least, one.parted) where
        same : {a b : ℕ} → a ≡ b → 0 + b ≤ a
        same e = omega (arith, e)

        few : (a b : ℕ) → a ≡ 0 + b → functions ≡ b → a ≤ functions
        few a b e more = omega (arith, e, more)

pub wcet_is_within : WcetIsWithin
wcet_is_within p plans program t stubs =
    let table = table_of p program stubs in
    let h = job_less p plans program t (length table.code) (codes_length (parts_of p.target program.routines) program.routines) (job_weights p plans table) refl in
    more p.switch _ _ (by (fact_of (known_scene p plans program t) program.job).cuts h.0 h.1) where
      more : (a b c : ℕ) → b ≤ c → a + b ≤ a + c
      more a b c le = omega (arith, le)

      start_less : (j d x y : ℕ) → x ≤ y → j + d + x ≤ j + y + ((d + 0) + 0)
      start_less j d x y le = omega (arith, le)

      by : (b : Bool) {x : ℕ} → (fact_of (known_scene p plans program t) program.job).least ≤ x → (fact_of (known_scene p plans program t) program.job).parted.total ≤ x →
          cond b (own_start (known_scene p plans program t) + (fact_of (known_scene p plans program t) program.job).parted.total)
          (min (charge (known_scene p plans program t) ((known_scene p plans program t).places start_part) (start_span program))
          (own_start (known_scene p plans program t) + (fact_of (known_scene p plans program t) program.job).least))
          ≤ jump_weight (job_weight p) + x + ((job_weight p PmDone + 0) + 0)
      by true least parted = start_less _ _ _ _ parted
      by false least parted = right_of _ _ _ (start_less _ _ _ _ least)
