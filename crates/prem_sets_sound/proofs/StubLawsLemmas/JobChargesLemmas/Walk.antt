-- Code that changes no phase is charged at most the greatest weight over its paths.
use Rattle.std.proofs.Common.{◌≡◌, ℕ, zero, suc, ◌+◌, ◌*◌, ◌≤◌, subst, arith, eqb, List, [], ◌∷◌, ◌++◌, length, max}
use Rattle.prem_sets_sound.proofs.Prelude.{total-append, code-length, skip_code-length, skip_one, choose_both, Pieces, no_pieces, straight, address_of, either, repeat, call_to, skip_words}
use Rattle.prem_sets_sound.proofs.Prelude.{skip_code, jump, jump_to, branch_of, address_code, skip_at, other_at, either_end, test_at, back_at, repeat_end, code_of, weight, jump_weight}
use Rattle.prem_sets_sound.proofs.Prelude.{address_weight, weighted, Setting, Calls, Ending, Falls, Returns, Stuck, with_trace, then_run, called, run_one, run_code, control, test_holds}
use Rattle.prem_sets_sound.proofs.Prelude.{taken_steps, other_steps, skip_steps, linked, Loop, left_loop, run_turns, run, AllCode, total, Test, TaskState, Did, Instr, job_weight, Plant}
use Rattle.prem_sets_sound.proofs.Prelude.{IsReady, IsCharged, ReturnsCharged, PartCharged, EachCall, CalmRunsAreCharged, CalmAt, charge, cond_both}
use Rattle.prem_sets_sound.proofs.StubLawsLemmas.JobChargesLemmas.Steps.{one_charged}
use Rattle.prem_sets_sound.proofs.StubLawsLemmas.JobWeaveLemmas.Jobs.{control_charged, linked_fits}

-- ---- code at places

pub code_split : (xs ys : List Instr) (at : ℕ) → AllCode CalmAt at (xs ++ ys) → AllCode CalmAt at xs × AllCode CalmAt (at + 4 * length xs) ys
code_split [] ys at c = let e : at ≡ at + 4 * 0 = omega arith in (tt, subst (λ k. AllCode CalmAt k ys) e c)
code_split (x ∷ xs) ys at c =
    let h = code_split xs ys (at + 4) c.1 in
    let e : at + 4 + 4 * length xs ≡ at + 4 * suc (length xs) = omega arith in
    ((c.0, h.0), subst (λ k. AllCode CalmAt k ys) e h.1)

pub moved : (is : List Instr) (at there : ℕ) → at ≡ there → AllCode CalmAt at is → AllCode CalmAt there is
moved is at there e c = subst (λ k. AllCode CalmAt k is) e c

-- ---- runs one after another

module _ (plant : Plant) where
  more : (o : Ending) (a b : ℕ) → a ≤ b → IsCharged plant a o → IsCharged plant b o
  more (Falls t trace) a b le h = (omega (arith, le, h.0), h.1)
  more (Returns to t trace) a b le h = (omega (arith, le, h.0), h.1)
  more Stuck a b le h = tt

  with_steps : (trace : List Did) (o : Ending) (a b : ℕ) → total (charge plant) trace ≤ a → IsCharged plant b o → IsCharged plant (a + b) (with_trace trace o)
  with_steps trace (Falls t rest) a b le h = (omega (arith, le, h.0, total-append (charge plant) trace rest), h.1)
  with_steps trace (Returns to t rest) a b le h = (omega (arith, le, h.0, total-append (charge plant) trace rest), h.1)
  with_steps trace Stuck a b le h = tt

  then_steps : (o : Ending) (next : TaskState → Ending) (a b : ℕ) → IsCharged plant a o → ((t : TaskState) → IsReady t → IsCharged plant b (next t)) → IsCharged plant (a + b) (then_run o next)
  then_steps (Falls t trace) next a b h k = with_steps trace (next t) a b h.0 (k t h.1)
  then_steps (Returns to t trace) next a b h k = (omega (arith, h.0), h.1)
  then_steps Stuck next a b h k = tt

  called_steps : (back : ℕ) (o : Ending) (next : TaskState → Ending) (a b : ℕ) → ReturnsCharged plant a o →
      ((t : TaskState) → IsReady t → IsCharged plant b (next t)) → IsCharged plant (a + b) (called back o next)
  called_steps back (Falls t trace) next a b h k = tt
  called_steps back (Returns to t trace) next a b h k = cond_both (eqb to back) (with_trace trace (next t)) Stuck (IsCharged plant (a + b)) (λ e. with_steps trace (next t) a b h.0 (k t h.1)) (λ e. tt)
  called_steps back Stuck next a b h k = tt

  -- a loop's turns, each with head, entry, body and way back, and the last head and way out
  turns_charged : (h n f b k : ℕ) (r : ℕ) (l : Loop) →
      ((t : TaskState) → IsReady t → IsCharged plant h (l.head t)) → ((t : TaskState) → IsReady t → total (charge plant) (l.enters t) ≤ n) →
      ((t : TaskState) → IsReady t → total (charge plant) (l.leaves t) ≤ f) →
      ((t : TaskState) → IsReady t → IsCharged plant b (l.body t)) → ((t : TaskState) → IsReady t → total (charge plant) (l.back t) ≤ k) →
      (t : TaskState) → IsReady t → IsCharged plant (r * (h + n + b + k) + (h + f)) (run_turns r l t)
  unfolding run_turns
  turns_charged h n f b k zero l hh hn hf hb hk t ready =
      more (run_turns zero l t) (h + f) _ (omega arith)
      (then_steps (l.head t) _ h f (hh t ready) (λ u j. choose_both (l.test u) (λ t. Stuck) (left_loop l) u (IsCharged plant f) (λ e. tt) (λ e. (hf u j, j))))
  turns_charged h n f b k (suc r) l hh hn hf hb hk t ready =
      let x = r * (h + n + b + k) + (h + f) in
      more (run_turns (suc r) l t) (h + (n + (b + (k + x)))) _ (omega arith)
      (then_steps (l.head t) _ h (n + (b + (k + x))) (hh t ready) (λ u j. choose_both (l.test u)
      (λ t. with_trace (l.enters t) (then_run (l.body t) (λ t. with_trace (l.back t) (run_turns r l t)))) (left_loop l) u (IsCharged plant (n + (b + (k + x))))
      (λ e. with_steps (l.enters u) _ n (b + (k + x)) (hn u j)
      (then_steps (l.body u) _ b (k + x) (hb u j) (λ v i. with_steps (l.back v) _ k x (hk v i) (turns_charged h n f b k r l hh hn hf hb hk v i))))
      (λ e. let le : total (charge plant) (l.leaves u) ≤ f = hf u j in (omega (arith, le), j))))

  -- ---- branches and jumps

  taken_charged : (at : ℕ) (test : Test) (t : TaskState) → IsReady t → total (charge plant) (taken_steps at test t) ≤ job_weight plant (branch_of test)
  taken_charged at test t ready = omega (arith, control_charged plant at (branch_of test) t ready.0)

  jump_charged : (link from to : ℕ) (t : TaskState) → IsReady t → total (charge plant) (control from (jump_to link from to) t) ≤ jump_weight (job_weight plant)
  jump_charged link from to t ready = omega (arith, control_charged plant from (jump_to link from to) t ready.0)

  other_charged : (at : ℕ) (test : Test) (to : ℕ) (t : TaskState) → IsReady t → total (charge plant) (other_steps at test to t) ≤ job_weight plant (branch_of test) + jump_weight (job_weight plant)
  other_charged at test to t ready =
      omega (
        arith,
        total-append (charge plant) (control at (branch_of test) t) (control (at + 4) (jump (at + 4) to) t),
        taken_charged at test t ready,
        jump_charged 0 (at + 4) to t ready,
      )

  skip_charged : (n from to : ℕ) (t : TaskState) → IsReady t → total (charge plant) (skip_steps n from to t) ≤ n * jump_weight (job_weight plant)
  skip_charged zero from to t ready = omega arith
  skip_charged (suc n) from to t ready = omega (arith, jump_charged 0 from to t ready)

  -- ---- pieces

  module _ (s : Setting) (calls : Calls) (weights : ℕ → ℕ) where
    code_charged : (code : List Instr) (at : ℕ) (t : TaskState) → AllCode CalmAt at code → IsReady t → IsCharged plant (weight (job_weight plant) code) (run_code s at code t)
    code_charged [] at t c ready = (omega arith, ready)
    code_charged (i ∷ is) at t c ready =
        then_steps (run_one s at i t) (run_code s (at + 4) is) (job_weight plant i) (weight (job_weight plant) is)
        (one_charged plant s.target s.size s.guard at i t c.0 ready) (λ u j. code_charged is (at + 4) u c.1 j)

    abbrev Called : Pieces → Type 0
    Called ps = EachCall (λ part. PartCharged plant calls (weights part) part) ps

    walk : (ps : Pieces) (at : ℕ) → AllCode CalmAt at (code_of s.places at ps) → Called ps → (t : TaskState) → IsReady t →
        IsCharged plant (weighted (job_weight plant) weights ps) (run s calls at ps t)
    walk no_pieces at g p t i = (omega arith, i)
    walk (straight code rest) at g p t i =
        let c = code_split code (code_of s.places (at + 4 * length code) rest) at g in
        then_steps (run_code s at code t) (run s calls (at + 4 * length code) rest) (weight (job_weight plant) code) (weighted (job_weight plant) weights rest) (code_charged code at t c.0 i)
        (λ u j. walk rest (at + 4 * length code) c.1 p u j)
    walk (address_of rd part plus rest) at g p t i =
        let code = address_code rd (s.places part + plus) in
        let c = code_split code (code_of s.places (at + 8) rest) at g in
        then_steps (run_code s at code t) (run s calls (at + 8) rest) (address_weight (job_weight plant)) (weighted (job_weight plant) weights rest)
        (more (run_code s at code t) (weight (job_weight plant) code) (address_weight (job_weight plant)) (omega arith) (code_charged code at t c.0 i))
        (λ u j. walk rest (at + 8) (moved (code_of s.places (at + 8) rest) (at + 4 * length code) (at + 8) (omega arith) c.1) p u j)
    walk (either test taken other rest) at g p t i =
        let j = jump_weight (job_weight plant) in
        let b = job_weight plant (branch_of test) in
        let x = weighted (job_weight plant) weights taken in
        let y = weighted (job_weight plant) weights other in
        let n = skip_words other * j in
        let skip = skip_at at taken in
        let oth = other_at at taken other in
        let end = either_end at taken other in
        let ct = code_of s.places (at + 8) taken in
        let k = skip_code (skip_words other) skip end in
        let co = code_of s.places oth other in
        let r = code_of s.places end rest in
        let g8 = moved (ct ++ (k ++ (co ++ r))) (at + 4 + 4) (at + 8) (omega arith) g.1.1 in
        let ga = code_split ct (k ++ (co ++ r)) (at + 8) g8 in
        let gak = moved (k ++ (co ++ r)) (at + 8 + 4 * length ct) skip (omega (arith, code-length s.places (at + 8) taken)) ga.1 in
        let gk = code_split k (co ++ r) skip gak in
        let gkb = moved (co ++ r) (skip + 4 * length k) oth (omega (arith, skip_code-length (skip_words other) skip end (skip_one other))) gk.1 in
        let gb = code_split co r oth gkb in
        let gr = moved r (oth + 4 * length co) end (omega (arith, code-length s.places oth other)) gb.1 in
        then_steps _ (run s calls end rest) (b + max (x + n) (j + y)) (weighted (job_weight plant) weights rest)
        (choose_both (test_holds test t)
        (λ t. with_trace (taken_steps at test t) (then_run (run s calls (at + 8) taken t) (λ t. Falls t (skip_steps (skip_words other) skip end t))))
        (λ t. with_trace (other_steps at test oth t) (run s calls oth other t))
        t (IsCharged plant (b + max (x + n) (j + y)))
        (λ is. more _ (b + (x + n)) (b + max (x + n) (j + y)) (omega arith) (with_steps (taken_steps at test t) _ b (x + n) (taken_charged at test t i)
        (then_steps (run s calls (at + 8) taken t) _ x n (walk taken (at + 8) ga.0 p.0 t i) (λ u q. (skip_charged (skip_words other) skip end u q, q)))))
        (λ is. more _ ((b + j) + y) (b + max (x + n) (j + y)) (omega arith) (with_steps (other_steps at test oth t) (run s calls oth other t) (b + j) y (other_charged at test oth t i)
        (walk other oth gb.0 p.1 t i))))
        (λ u q. walk rest end gr p.2 u q)
    walk (repeat turns head test body rest) at g p t i =
        let j = jump_weight (job_weight plant) in
        let b = job_weight plant (branch_of test) in
        let tst = test_at at head in
        let bck = back_at at head body in
        let end = repeat_end at head body in
        let x = weighted (job_weight plant) weights head in
        let y = weighted (job_weight plant) weights body in
        let ch = code_of s.places at head in
        let cb = code_of s.places (tst + 8) body in
        let r = code_of s.places end rest in
        let gh = code_split ch (branch_of test ∷ jump (tst + 4) end ∷ (cb ++ (jump bck at ∷ r))) at g in
        let g1 = moved (branch_of test ∷ jump (tst + 4) end ∷ (cb ++ (jump bck at ∷ r))) (at + 4 * length ch) tst (omega (arith, code-length s.places at head)) gh.1 in
        let g8 = moved (cb ++ (jump bck at ∷ r)) (tst + 4 + 4) (tst + 8) (omega arith) g1.1.1 in
        let gb = code_split cb (jump bck at ∷ r) (tst + 8) g8 in
        let gk = moved (jump bck at ∷ r) (tst + 8 + 4 * length cb) bck (omega (arith, code-length s.places (tst + 8) body)) gb.1 in
        then_steps _ (run s calls end rest) (turns * (x + b + y + j) + (x + b + j)) (weighted (job_weight plant) weights rest)
        (more _ (turns * (x + b + y + j) + (x + (b + j))) _ (omega arith)
        (turns_charged x b (b + j) y j turns (record {
          head = run s calls at head;
          test = test_holds test;
          enters = taken_steps tst test;
          leaves = other_steps tst test end;
          body = run s calls (tst + 8) body;
          back = λ t. control bck (jump bck at) t;
        })
        (λ u q. walk head at gh.0 p.0 u q)
        (λ u q. taken_charged tst test u q)
        (λ u q. other_charged tst test end u q)
        (λ u q. walk body (tst + 8) gb.0 p.1 u q)
        (λ u q. jump_charged 0 bck at u q)
        t i))
        (λ u q. walk rest end gk.1 p.2 u q)
    walk (call_to link part rest) at g p t i =
        let j = jump_weight (job_weight plant) in
        let u = linked link (at + 4) t in
        more _ (j + (weights part + weighted (job_weight plant) weights rest)) _ (omega arith)
        (with_steps (control at (jump_to link at (s.places part)) t) _ j (weights part + weighted (job_weight plant) weights rest) (jump_charged link at (s.places part) t i)
        (called_steps (at + 4) (calls part u) (run s calls (at + 4) rest) (weights part) (weighted (job_weight plant) weights rest)
        (p.0 u (i.0, linked_fits link (at + 4) t g.0.1.1 i.1)) (λ v q. walk rest (at + 4) g.1 p.1 v q)))

pub calm_runs_are_charged : CalmRunsAreCharged
calm_runs_are_charged plant s calls weights ps at g p t i = walk plant s calls weights ps at g p t i
