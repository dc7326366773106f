-- A run of code that changes no phase has no greater sums than its pieces.
use Rattle.std.proofs.Common.{◌≡◌, inl, inr, ℕ, zero, suc, ◌+◌, ◌*◌, ◌≤◌, refl, ap, ◌∙◌, sym, subst, arith, cond, eqb, true, false, List, [], ◌∷◌, ◌++◌, length, None}
use Rattle.prem_sets_sound.proofs.Prelude.{code-length, skip_code-length, skip_one, choose_both, Pieces, no_pieces, straight, address_of, either, repeat, call_to, skip_words, skip_code}
use Rattle.prem_sets_sound.proofs.Prelude.{jump, jump_to, branch_of, address_code, skip_at, other_at, either_end, test_at, back_at, repeat_end, code_of, weight, jump_weight, address_weight}
use Rattle.prem_sets_sound.proofs.Prelude.{EachInstr, EachPiece, Guard, Setting, Calls, Ending, Falls, Returns, Stuck, allowed, ends_job, is_return, arrives, stepped, outcome_at, with_trace}
use Rattle.prem_sets_sound.proofs.Prelude.{then_run, called, run_one, run_code, control, test_holds, taken_steps, other_steps, skip_steps, linked, Loop, left_loop, run_turns, run, AllCode}
use Rattle.prem_sets_sound.proofs.Prelude.{Test, due_of, data_accesses, phase_after, OnDone, cost_of, TaskState, Did, did_of, after_effect, Stay, Effect, Outcome, Trap, Compatible, Instr}
use Rattle.prem_sets_sound.proofs.Prelude.{chained_assoc, chained_among, taken_none, path_joined, within_same, within_then, chained_within, within_first, within_second, taking_within}
use Rattle.prem_sets_sound.proofs.Prelude.{line_cost, job_weight, Takes, Sums, taking, among, chained, sums_of_path, turned, summed, IsWithin, Plant, Target, IsReady, EachCall, GoesOn}
use Rattle.prem_sets_sound.proofs.Prelude.{ReturnsLast, FallsStrided, IsStrided, ReturnsStrided, PartStrided, CalmRunsAreStrided, did_events, change_events, events_of, strides, CalmAt}
use Rattle.prem_sets_sound.proofs.Prelude.{cond_both}
use Rattle.prem_isa.specs.declared.effect.Outcome.TheVariants.{Done}
use Rattle.prem_sets_sound.proofs.StubLawsLemmas.JobChargesLemmas.Steps.{Cheap, calm_cheap, effect_words}
use Rattle.prem_sets_sound.proofs.StubLawsLemmas.JobChargesLemmas.Walk.{code_split, moved}
use Rattle.prem_sets_sound.proofs.StubLawsLemmas.JobWeaveLemmas.Jobs.{linked_fits}
use Rattle.prem_sets_sound.proofs.WeaveLemmas.PaceLemmas.Jobs.{events_joined}

-- the events of a jump or branch of a compatible phase
control_events : (plant : Plant) (at : ℕ) (i : Instr) (t : TaskState) → t.phase ≡ Compatible → events_of plant (control at i t) ≡ Takes (cost_of i + line_cost plant) ∷ []
control_events plant at i t e =
    let due : cost_of i + (1 + 0) * (plant.fill + plant.back) ≡ cost_of i + line_cost plant = omega arith in
    ap (λ p. did_events plant p (record { pc = at; instr = i; phase = t.phase; access = None; change = Stay }) ++ []) e ∙ ap (λ n. Takes n ∷ []) due

-- ---- code at places

module _ (plant : Plant) where
  abbrev w : Instr → ℕ
  w i = job_weight plant i

  -- ---- runs one after another

  strides_joined : (xs ys : List Did) → strides plant (xs ++ ys) ≡ chained (strides plant xs) (strides plant ys)
  strides_joined xs ys = ap sums_of_path (events_joined plant xs ys) ∙ path_joined (events_of plant xs) (events_of plant ys)

  joined_within : (xs ys : List Did) (a b : Sums) → IsWithin (strides plant xs) a → IsWithin (strides plant ys) b → IsWithin (strides plant (xs ++ ys)) (chained a b)
  joined_within xs ys a b h k = subst (λ s. IsWithin s (chained a b)) (sym (strides_joined xs ys)) (chained_within (strides plant xs) (strides plant ys) a b h k)

  wider : (o : Ending) (a b : Sums) → IsWithin a b → FallsStrided plant a o → FallsStrided plant b o
  wider (Falls t trace) a b le h = (within_then (strides plant trace) a b h.0 le, h.1)
  wider (Returns to t trace) a b le h = h
  wider Stuck a b le h = tt

  same : (o : Ending) (a b : Sums) → a ≡ b → FallsStrided plant a o → FallsStrided plant b o
  same o a b e h = subst (λ s. FallsStrided plant s o) e h

  with_steps : (trace : List Did) (o : Ending) (a b : Sums) → IsWithin (strides plant trace) a → FallsStrided plant b o → FallsStrided plant (chained a b) (with_trace trace o)
  with_steps trace (Falls t rest) a b le h = (joined_within trace rest a b le h.0, h.1)
  with_steps trace (Returns to t rest) a b le h = h
  with_steps trace Stuck a b le h = tt

  then_steps : (o : Ending) (next : TaskState → Ending) (a b : Sums) → FallsStrided plant a o →
      ((t : TaskState) → IsReady t → FallsStrided plant b (next t)) → FallsStrided plant (chained a b) (then_run o next)
  then_steps (Falls t trace) next a b h k = with_steps trace (next t) a b h.0 (k t h.1)
  then_steps (Returns to t trace) next a b h k = absurd h
  then_steps Stuck next a b h k = tt

  -- the last of them may return
  with_last : (trace : List Did) (o : Ending) (a b : Sums) → IsWithin (strides plant trace) a → IsStrided plant b o → IsStrided plant (chained a b) (with_trace trace o)
  with_last trace (Falls t rest) a b le h = (joined_within trace rest a b le h.0, h.1)
  with_last trace (Returns to t rest) a b le h = (joined_within trace rest a b le h.0, h.1)
  with_last trace Stuck a b le h = tt

  then_last : (o : Ending) (next : TaskState → Ending) (a b : Sums) → FallsStrided plant a o →
      ((t : TaskState) → IsReady t → IsStrided plant b (next t)) → IsStrided plant (chained a b) (then_run o next)
  then_last (Falls t trace) next a b h k = with_last trace (next t) a b h.0 (k t h.1)
  then_last (Returns to t trace) next a b h k = absurd h
  then_last Stuck next a b h k = tt

  same_last : (o : Ending) (a b : Sums) → a ≡ b → IsStrided plant a o → IsStrided plant b o
  same_last o a b e h = subst (λ s. IsStrided plant s o) e h

  called_steps : (back : ℕ) (o : Ending) (next : TaskState → Ending) (a b : Sums) → ReturnsStrided plant a o →
      ((t : TaskState) → IsReady t → FallsStrided plant b (next t)) → FallsStrided plant (chained a b) (called back o next)
  called_steps back (Falls t trace) next a b h k = tt
  called_steps back (Returns to t trace) next a b h k =
      cond_both (eqb to back) (with_trace trace (next t)) Stuck (FallsStrided plant (chained a b)) (λ e. with_steps trace (next t) a b h.0 (k t h.1)) (λ e. tt)
  called_steps back Stuck next a b h k = tt

  called_last : (back : ℕ) (o : Ending) (next : TaskState → Ending) (a b : Sums) → ReturnsStrided plant a o →
      ((t : TaskState) → IsReady t → IsStrided plant b (next t)) → IsStrided plant (chained a b) (called back o next)
  called_last back (Falls t trace) next a b h k = tt
  called_last back (Returns to t trace) next a b h k =
      cond_both (eqb to back) (with_trace trace (next t)) Stuck (IsStrided plant (chained a b)) (λ e. with_last trace (next t) a b h.0 (k t h.1)) (λ e. tt)
  called_last back Stuck next a b h k = tt

  -- ---- one instruction

  step_within : (at : ℕ) (i : Instr) (t : TaskState) (e : Effect) → t.phase ≡ Compatible → Cheap plant i e → IsWithin (strides plant (did_of at t.phase i e ∷ [])) (taking (w i))
  step_within at i t e ready c =
      let d : Did = did_of at t.phase i e in
      let events : events_of plant (d ∷ []) ≡ Takes (due_of plant d) ∷ [] =
      ap (λ p. did_events plant p (did_of at t.phase i e) ++ []) ready ∙ ap (λ x. (Takes (due_of plant d) ∷ change_events x) ++ []) c.stay in
      let le : due_of plant d ≤ w i = (let x : cost_of i + (1 + data_accesses e.access) * line_cost plant ≤ w i = c.cheap in x) in
      subst (λ es. IsWithin (sums_of_path es) (taking (w i))) (sym events)
      (subst (λ s. IsWithin s (taking (w i))) (sym (taken_none (due_of plant d))) (taking_within (due_of plant d) (w i) le))

  ready_then : (i : Instr) (t : TaskState) (e : Effect) → t.phase ≡ Compatible → Cheap plant i e → phase_after e.change t.phase ≡ Compatible
  ready_then i t e ready c = ap (λ x. phase_after x t.phase) c.stay ∙ ready

  one_strided : (target : Target) (size : ℕ) (g : Guard) (at : ℕ) (i : Instr) (t : TaskState) → CalmAt at i → IsReady t →
      IsStrided plant (taking (w i)) (stepped g at i t (outcome_at target size at i t))
      × (GoesOn i → FallsStrided plant (taking (w i)) (stepped g at i t (outcome_at target size at i t)))
  one_strided target size g at i t good ready = by (outcome_at target size at i t) refl where
    by : (o : Outcome) → outcome_at target size at i t ≡ o → IsStrided plant (taking (w i)) (stepped g at i t o) × (GoesOn i → FallsStrided plant (taking (w i)) (stepped g at i t o))
    by (Trap cause) is = (tt, λ on. tt)
    by (Done e) is =
        let c : Cheap plant i e = subst (OnDone (Cheap plant i)) is (calm_cheap plant target size at i t ready.0 good.0) in
        let u : TaskState = after_effect e t in
        let ds : List Did = did_of at t.phase i e ∷ [] in
        let h : IsWithin (strides plant ds) (taking (w i)) × IsReady u = (step_within at i t e ready.0 c, (ready_then i t e ready.0 c, effect_words target size at i t e good.1 ready.1 is)) in (
          cond_both (allowed g e) (cond (ends_job e.change) Stuck (arrives at i e.pc u ds)) Stuck (IsStrided plant (taking (w i)))
              (λ a. cond_both (ends_job e.change) Stuck (arrives at i e.pc u ds) (IsStrided plant (taking (w i))) (λ b. tt)
              (λ b. cond_both (is_return i) (Returns e.pc u ds) (cond (eqb e.pc (at + 4)) (Falls u ds) Stuck) (IsStrided plant (taking (w i))) (λ r. h)
              (λ r. cond_both (eqb e.pc (at + 4)) (Falls u ds) Stuck (IsStrided plant (taking (w i))) (λ f. h) (λ f. tt))))
              (λ a. tt),
          λ on.
              cond_both (allowed g e) (cond (ends_job e.change) Stuck (arrives at i e.pc u ds)) Stuck (FallsStrided plant (taking (w i)))
              (λ a. cond_both (ends_job e.change) Stuck (arrives at i e.pc u ds) (FallsStrided plant (taking (w i))) (λ b. tt)
              (λ b. cond_both (is_return i) (Returns e.pc u ds) (cond (eqb e.pc (at + 4)) (Falls u ds) Stuck) (FallsStrided plant (taking (w i))) (λ r. let x : true ≡ false = sym r ∙ on in cc)
              (λ r. cond_both (eqb e.pc (at + 4)) (Falls u ds) Stuck (FallsStrided plant (taking (w i))) (λ f. h) (λ f. tt))))
              (λ a. tt),
        )

  -- ---- branches and jumps

  control_within : (at : ℕ) (i : Instr) (t : TaskState) → IsReady t → (n : ℕ) → cost_of i + line_cost plant ≡ n → IsWithin (strides plant (control at i t)) (taking n)
  control_within at i t ready n e =
      let events : events_of plant (control at i t) ≡ Takes (cost_of i + line_cost plant) ∷ [] = control_events plant at i t ready.0 in
      subst (λ m. IsWithin (strides plant (control at i t)) (taking m)) e
      (subst (λ es. IsWithin (sums_of_path es) (taking (cost_of i + line_cost plant))) (sym events)
      (subst (λ s. IsWithin s (taking (cost_of i + line_cost plant))) (sym (taken_none (cost_of i + line_cost plant))) (within_same (taking (cost_of i + line_cost plant)))))

  taken_within : (at : ℕ) (test : Test) (t : TaskState) → IsReady t → IsWithin (strides plant (taken_steps at test t)) (taking (w (branch_of test)))
  taken_within at test t ready = control_within at (branch_of test) t ready (w (branch_of test)) refl

  jump_within : (link from to : ℕ) (t : TaskState) → IsReady t → IsWithin (strides plant (control from (jump_to link from to) t)) (taking (jump_weight w))
  jump_within link from to t ready = control_within from (jump_to link from to) t ready (jump_weight w) refl

  other_within : (at : ℕ) (test : Test) (to : ℕ) (t : TaskState) → IsReady t → IsWithin (strides plant (other_steps at test to t)) (taking (w (branch_of test) + jump_weight w))
  other_within at test to t ready =
      joined_within (control at (branch_of test) t) (control (at + 4) (jump (at + 4) to) t) (taking (w (branch_of test))) (taking (jump_weight w))
      (taken_within at test t ready) (jump_within 0 (at + 4) to t ready)

  none_within : IsWithin (strides plant []) (taking 0)
  none_within = within_same (taking 0)

  skip_within : (n from to : ℕ) (t : TaskState) → IsReady t → IsWithin (strides plant (skip_steps n from to t)) (taking (n * jump_weight w))
  skip_within zero from to t ready = taking_within 0 (0 * jump_weight w) (omega arith)
  skip_within (suc n) from to t ready =
      within_then _ (taking (jump_weight w)) (taking (suc n * jump_weight w)) (jump_within 0 from to t ready)
      (taking_within (jump_weight w) (suc n * jump_weight w) (omega arith))

  -- ---- loops

  turns_strided : (h b : Sums) (n k : ℕ) (r : ℕ) (l : Loop) →
      ((t : TaskState) → IsReady t → FallsStrided plant h (l.head t)) →
      ((t : TaskState) → IsReady t → IsWithin (strides plant (l.enters t)) (taking n)) →
      ((t : TaskState) → IsReady t → IsWithin (strides plant (l.leaves t)) (taking (n + k))) →
      ((t : TaskState) → IsReady t → FallsStrided plant b (l.body t)) → ((t : TaskState) → IsReady t → IsWithin (strides plant (l.back t)) (taking k)) →
      (t : TaskState) → IsReady t → FallsStrided plant (turned r (chained h (chained (taking n) (chained b (taking k)))) (chained h (taking (n + k)))) (run_turns r l t)
  unfolding run_turns turned
  turns_strided h b n k zero l hh hn hf hb hk t ready =
      then_steps (l.head t) _ h (taking (n + k)) (hh t ready) (λ u j. choose_both (l.test u) (λ t. Stuck) (left_loop l) u (FallsStrided plant (taking (n + k))) (λ e. tt) (λ e. (hf u j, j)))
  turns_strided h b n k (suc r) l hh hn hf hb hk t ready =
      let x : Sums = turned r (chained h (chained (taking n) (chained b (taking k)))) (chained h (taking (n + k))) in
      let p : Sums = chained (taking n) (chained b (chained (taking k) x)) in
      let f : Sums = taking (n + k) in
      let turn : chained h p ≡ chained (chained h (chained (taking n) (chained b (taking k)))) x =
      ap (λ s. chained h (chained (taking n) s)) (sym (chained_assoc b (taking k) x))
      ∙ ap (chained h) (sym (chained_assoc (taking n) (chained b (taking k)) x))
      ∙ sym (chained_assoc h (chained (taking n) (chained b (taking k))) x) in
      same (run_turns (suc r) l t) (chained h (among p f)) _ (chained_among h p f ∙ ap (λ s. among s (chained h f)) turn)
      (then_steps (l.head t) _ h (among p f) (hh t ready) (λ u j. choose_both (l.test u)
      (λ t. with_trace (l.enters t) (then_run (l.body t) (λ t. with_trace (l.back t) (run_turns r l t)))) (left_loop l) u (FallsStrided plant (among p f))
      (λ e. wider _ p (among p f) (within_first p p f (within_same p)) (with_steps (l.enters u) _ (taking n) (chained b (chained (taking k) x)) (hn u j)
      (then_steps (l.body u) _ b (chained (taking k) x) (hb u j) (λ v i. with_steps (l.back v) _ (taking k) x (hk v i) (turns_strided h b n k r l hh hn hf hb hk v i)))))
      (λ e. (within_second (strides plant (l.leaves u)) p f (hf u j), j))))

  -- ---- pieces

  module _ (s : Setting) (calls : Calls) (sums : ℕ → Sums) where
    code_strided : (code : List Instr) (at : ℕ) (t : TaskState) → AllCode CalmAt at code → EachInstr GoesOn code → IsReady t → FallsStrided plant (taking (weight w code)) (run_code s at code t)
    code_strided [] at t c on ready = (none_within, ready)
    code_strided (i ∷ is) at t c on ready =
        then_steps (run_one s at i t) (run_code s (at + 4) is) (taking (w i)) (taking (weight w is))
        ((one_strided s.target s.size s.guard at i t c.0 ready).1 on.0) (λ u j. code_strided is (at + 4) u c.1 on.1 j)

    -- the last code may return anywhere
    returned : (o : Ending) (next : TaskState → Ending) (a b : ℕ) → IsStrided plant (taking a) o →
        ((t : TaskState) → IsReady t → IsStrided plant (taking b) (next t)) → IsStrided plant (taking (a + b)) (then_run o next)
    returned (Falls t trace) next a b h k = with_last trace (next t) (taking a) (taking b) h.0 (k t h.1)
    returned (Returns to t trace) next a b h k = (within_then (strides plant trace) (taking a) (taking (a + b)) h.0 (taking_within a (a + b) (omega arith)), h.1)
    returned Stuck next a b h k = tt

    last_strided : (code : List Instr) (at : ℕ) (t : TaskState) → AllCode CalmAt at code → IsReady t → IsStrided plant (taking (weight w code)) (run_code s at code t)
    last_strided [] at t c ready = (none_within, ready)
    last_strided (i ∷ is) at t c ready =
        returned (run_one s at i t) (run_code s (at + 4) is) (w i) (weight w is) (one_strided s.target s.size s.guard at i t c.0 ready).0
        (λ u j. last_strided is (at + 4) u c.1 j)

    address_strided : (rd part plus at : ℕ) (t : TaskState) → AllCode CalmAt at (address_code rd (s.places part + plus)) → IsReady t →
        FallsStrided plant (taking (address_weight w)) (run_code s at (address_code rd (s.places part + plus)) t)
    address_strided rd part plus at t c ready =
        wider (run_code s at (address_code rd (s.places part + plus)) t) (taking (weight w (address_code rd (s.places part + plus)))) (taking (address_weight w)) (taking_within _ _ (omega arith))
        (code_strided (address_code rd (s.places part + plus)) at t c (refl, (refl, tt)) ready)

    abbrev Called : Pieces → Type 0
    Called ps = EachCall (λ part. PartStrided plant calls (sums part) part) ps

    abbrev S : Pieces → Sums
    S ps = summed w sums ps

    -- the parts of the code of a choice and of a loop
    record Sides (test : Test) (taken other rest : Pieces) (at : ℕ) : Type 0 where
      first : AllCode CalmAt (at + 8) (code_of s.places (at + 8) taken)
      second : AllCode CalmAt (other_at at taken other) (code_of s.places (other_at at taken other) other)
      last : AllCode CalmAt (either_end at taken other) (code_of s.places (either_end at taken other) rest)

    sides : (test : Test) (taken other rest : Pieces) (at : ℕ) → AllCode CalmAt at (code_of s.places at (either test taken other rest)) → Sides test taken other rest at
    sides test taken other rest at g =
        let skip = skip_at at taken in
        let oth = other_at at taken other in
        let end = either_end at taken other in
        let ct = code_of s.places (at + 8) taken in
        let k = skip_code (skip_words other) skip end in
        let co = code_of s.places oth other in
        let r = code_of s.places end rest in
        let g8 = moved (ct ++ (k ++ (co ++ r))) (at + 4 + 4) (at + 8) (omega arith) g.1.1 in
        let ga = code_split ct (k ++ (co ++ r)) (at + 8) g8 in
        let gak = moved (k ++ (co ++ r)) (at + 8 + 4 * length ct) skip (omega (arith, code-length s.places (at + 8) taken)) ga.1 in
        let gk = code_split k (co ++ r) skip gak in
        let gkb = moved (co ++ r) (skip + 4 * length k) oth (omega (arith, skip_code-length (skip_words other) skip end (skip_one other))) gk.1 in
        let gb = code_split co r oth gkb in
        record { first = ga.0; second = gb.0; last = moved r (oth + 4 * length co) end (omega (arith, code-length s.places oth other)) gb.1 }

    record Turn (test : Test) (head body rest : Pieces) (at : ℕ) : Type 0 where
      first : AllCode CalmAt at (code_of s.places at head)
      second : AllCode CalmAt (test_at at head + 8) (code_of s.places (test_at at head + 8) body)
      last : AllCode CalmAt (repeat_end at head body) (code_of s.places (repeat_end at head body) rest)

    turn : (turns : ℕ) (test : Test) (head body rest : Pieces) (at : ℕ) → AllCode CalmAt at (code_of s.places at (repeat turns head test body rest)) → Turn test head body rest at
    turn turns test head body rest at g =
        let tst = test_at at head in
        let bck = back_at at head body in
        let end = repeat_end at head body in
        let ch = code_of s.places at head in
        let cb = code_of s.places (tst + 8) body in
        let r = code_of s.places end rest in
        let gh = code_split ch (branch_of test ∷ jump (tst + 4) end ∷ (cb ++ (jump bck at ∷ r))) at g in
        let g1 = moved (branch_of test ∷ jump (tst + 4) end ∷ (cb ++ (jump bck at ∷ r))) (at + 4 * length ch) tst (omega (arith, code-length s.places at head)) gh.1 in
        let g8 = moved (cb ++ (jump bck at ∷ r)) (tst + 4 + 4) (tst + 8) (omega arith) g1.1.1 in
        let gb = code_split cb (jump bck at ∷ r) (tst + 8) g8 in
        let gk = moved (jump bck at ∷ r) (tst + 8 + 4 * length cb) bck (omega (arith, code-length s.places (tst + 8) body)) gb.1 in
        record { first = gh.0; second = gb.0; last = gk.1 }

    -- a choice, where its sides have no greater sums than these
    abbrev choice_of : Test → (taken other : Pieces) → (at : ℕ) → TaskState → Ending
    choice_of test taken other at t =
        Rattle.prem_asm.specs.Runs.run_choice at test taken other (run s calls (at + 8) taken) (run s calls (other_at at taken other) other) t

    abbrev choice_sums : Test → (taken other : Pieces) → Sums
    choice_sums test taken other =
        chained (taking (w (branch_of test))) (among (chained (S taken) (taking (skip_words other * jump_weight w))) (chained (taking (jump_weight w)) (S other)))

    choice_strided : (test : Test) (taken other : Pieces) (at : ℕ) →
        ((t : TaskState) → IsReady t → FallsStrided plant (S taken) (run s calls (at + 8) taken t)) →
        ((t : TaskState) → IsReady t → FallsStrided plant (S other) (run s calls (other_at at taken other) other t)) →
        (t : TaskState) → IsReady t → FallsStrided plant (choice_sums test taken other) (choice_of test taken other at t)
    choice_strided test taken other at first second t ready =
        let b : Sums = taking (w (branch_of test)) in
        let x : Sums = chained (S taken) (taking (skip_words other * jump_weight w)) in
        let y : Sums = chained (taking (jump_weight w)) (S other) in
        choose_both (test_holds test t)
        (λ t. with_trace (taken_steps at test t) (then_run (run s calls (at + 8) taken t) (λ t. Falls t (skip_steps (skip_words other) (skip_at at taken) (either_end at taken other) t))))
        (λ t. with_trace (other_steps at test (other_at at taken other) t) (run s calls (other_at at taken other) other t))
        t (FallsStrided plant (chained b (among x y)))
        (λ is. with_steps (taken_steps at test t) _ b (among x y) (taken_within at test t ready)
        (wider _ x (among x y) (within_first x x y (within_same x))
        (then_steps (run s calls (at + 8) taken t) _ (S taken) (taking (skip_words other * jump_weight w)) (first t ready)
        (λ u q. (skip_within (skip_words other) (skip_at at taken) (either_end at taken other) u q, q)))))
        (λ is. wider _ (chained b y) (chained b (among x y)) (chained_within b y b (among x y) (within_same b) (within_second y x y (within_same y)))
        (same _ (chained (taking (w (branch_of test) + jump_weight w)) (S other)) (chained b y) (chained_assoc b (taking (jump_weight w)) (S other))
        (with_steps (other_steps at test (other_at at taken other) t) _ (taking (w (branch_of test) + jump_weight w)) (S other)
        (other_within at test (other_at at taken other) t ready) (second t ready))))

    abbrev loop_of : ℕ → (head : Pieces) → Test → (body : Pieces) → (at : ℕ) → TaskState → Ending
    loop_of turns head test body at t =
        run_turns turns (Rattle.prem_asm.specs.Runs.loop_at at head test body (run s calls at head) (run s calls (test_at at head + 8) body)) t

    abbrev loop_sums : ℕ → (head : Pieces) → Test → (body : Pieces) → Sums
    loop_sums turns head test body =
        turned turns (chained (S head) (chained (taking (w (branch_of test))) (chained (S body) (taking (jump_weight w))))) (chained (S head) (taking (w (branch_of test) + jump_weight w)))

    loop_strided : (turns : ℕ) (head : Pieces) (test : Test) (body : Pieces) (at : ℕ) →
        ((t : TaskState) → IsReady t → FallsStrided plant (S head) (run s calls at head t)) →
        ((t : TaskState) → IsReady t → FallsStrided plant (S body) (run s calls (test_at at head + 8) body t)) →
        (t : TaskState) → IsReady t → FallsStrided plant (loop_sums turns head test body) (loop_of turns head test body at t)
    loop_strided turns head test body at first second t ready =
        turns_strided (S head) (S body) (w (branch_of test)) (jump_weight w) turns
        (Rattle.prem_asm.specs.Runs.loop_at at head test body (run s calls at head) (run s calls (test_at at head + 8) body))
        first (λ u q. taken_within (test_at at head) test u q) (λ u q. other_within (test_at at head) test (repeat_end at head body) u q) second
        (λ u q. jump_within 0 (back_at at head body) at u q) t ready

    call_linked : (link part at : ℕ) (t : TaskState) → CalmAt at (jump_to link at (s.places part)) → IsReady t → IsReady (linked link (at + 4) t)
    call_linked link part at t good ready = (ready.0, linked_fits link (at + 4) t good.1.1 ready.1)

    -- pieces that don't return
    walk : (ps : Pieces) (at : ℕ) → AllCode CalmAt at (code_of s.places at ps) → EachPiece GoesOn ps → Called ps → (t : TaskState) → IsReady t → FallsStrided plant (S ps) (run s calls at ps t)
    walk no_pieces at g on p t i = (none_within, i)
    walk (straight code rest) at g on p t i =
        let c = code_split code (code_of s.places (at + 4 * length code) rest) at g in
        then_steps (run_code s at code t) (run s calls (at + 4 * length code) rest) (taking (weight w code)) (S rest) (code_strided code at t c.0 on.0 i)
        (λ u j. walk rest (at + 4 * length code) c.1 on.1 p u j)
    walk (address_of rd part plus rest) at g on p t i =
        let code = address_code rd (s.places part + plus) in
        let c = code_split code (code_of s.places (at + 8) rest) at g in
        then_steps (run_code s at code t) (run s calls (at + 8) rest) (taking (address_weight w)) (S rest) (address_strided rd part plus at t c.0 i)
        (λ u j. walk rest (at + 8) (moved (code_of s.places (at + 8) rest) (at + 4 * length code) (at + 8) (omega arith) c.1) on.1 p u j)
    walk (either test taken other rest) at g on p t i =
        let d = sides test taken other rest at g in
        same _ (chained (choice_sums test taken other) (S rest)) (S (either test taken other rest)) (chained_assoc (taking (w (branch_of test))) _ (S rest))
        (then_steps (choice_of test taken other at t) (run s calls (either_end at taken other) rest) (choice_sums test taken other) (S rest)
        (choice_strided test taken other at (λ u q. walk taken (at + 8) d.first on.0.2 p.0 u q) (λ u q. walk other (other_at at taken other) d.second on.0.3 p.1 u q) t i)
        (λ u q. walk rest (either_end at taken other) d.last on.1 p.2 u q))
    walk (repeat turns head test body rest) at g on p t i =
        let d = turn turns test head body rest at g in
        then_steps (loop_of turns head test body at t) (run s calls (repeat_end at head body) rest) (loop_sums turns head test body) (S rest)
        (loop_strided turns head test body at (λ u q. walk head at d.first on.0.2 p.0 u q) (λ u q. walk body (test_at at head + 8) d.second on.0.3 p.1 u q) t i)
        (λ u q. walk rest (repeat_end at head body) d.last on.1 p.2 u q)
    walk (call_to link part rest) at g on p t i =
        with_steps (control at (jump_to link at (s.places part)) t) _ (taking (jump_weight w)) (chained (sums part) (S rest)) (jump_within link at (s.places part) t i)
        (called_steps (at + 4) (calls part (linked link (at + 4) t)) (run s calls (at + 4) rest) (sums part) (S rest)
        (p.0 (linked link (at + 4) t) (call_linked link part at t g.0 i)) (λ v q. walk rest (at + 4) g.1 on.1 p.1 v q))

    -- pieces that may return in the end
    walk_last : (ps : Pieces) (at : ℕ) → AllCode CalmAt at (code_of s.places at ps) → ReturnsLast ps → Called ps → (t : TaskState) → IsReady t → IsStrided plant (S ps) (run s calls at ps t)
    walk_last no_pieces at g on p t i = (none_within, i)
    walk_last (straight code rest) at g (inl on) p t i =
        let c = code_split code (code_of s.places (at + 4 * length code) rest) at g in
        then_last (run_code s at code t) (run s calls (at + 4 * length code) rest) (taking (weight w code)) (S rest) (code_strided code at t c.0 on.0 i)
        (λ u j. walk_last rest (at + 4 * length code) c.1 on.1 p u j)
    walk_last (straight code rest) at g (inr none) p t i =
        let c = code_split code (code_of s.places (at + 4 * length code) rest) at g in
        subst (λ r. IsStrided plant (S (straight code r)) (run s calls at (straight code r) t)) (sym none)
        (returned (run_code s at code t) (λ u. Falls u []) (weight w code) 0 (last_strided code at t c.0 i) (λ u j. (none_within, j)))
    walk_last (address_of rd part plus rest) at g on p t i =
        let code = address_code rd (s.places part + plus) in
        let c = code_split code (code_of s.places (at + 8) rest) at g in
        then_last (run_code s at code t) (run s calls (at + 8) rest) (taking (address_weight w)) (S rest) (address_strided rd part plus at t c.0 i)
        (λ u j. walk_last rest (at + 8) (moved (code_of s.places (at + 8) rest) (at + 4 * length code) (at + 8) (omega arith) c.1) on p u j)
    walk_last (either test taken other rest) at g on p t i =
        let d = sides test taken other rest at g in
        same_last _ (chained (choice_sums test taken other) (S rest)) (S (either test taken other rest)) (chained_assoc (taking (w (branch_of test))) _ (S rest))
        (then_last (choice_of test taken other at t) (run s calls (either_end at taken other) rest) (choice_sums test taken other) (S rest)
        (choice_strided test taken other at (λ u q. walk taken (at + 8) d.first on.0 p.0 u q) (λ u q. walk other (other_at at taken other) d.second on.1 p.1 u q) t i)
        (λ u q. walk_last rest (either_end at taken other) d.last on.2 p.2 u q))
    walk_last (repeat turns head test body rest) at g on p t i =
        let d = turn turns test head body rest at g in
        then_last (loop_of turns head test body at t) (run s calls (repeat_end at head body) rest) (loop_sums turns head test body) (S rest)
        (loop_strided turns head test body at (λ u q. walk head at d.first on.0 p.0 u q) (λ u q. walk body (test_at at head + 8) d.second on.1 p.1 u q) t i)
        (λ u q. walk_last rest (repeat_end at head body) d.last on.2 p.2 u q)
    walk_last (call_to link part rest) at g on p t i =
        with_last (control at (jump_to link at (s.places part)) t) _ (taking (jump_weight w)) (chained (sums part) (S rest)) (jump_within link at (s.places part) t i)
        (called_last (at + 4) (calls part (linked link (at + 4) t)) (run s calls (at + 4) rest) (sums part) (S rest)
        (p.0 (linked link (at + 4) t) (call_linked link part at t g.0 i)) (λ v q. walk_last rest (at + 4) g.1 on p.1 v q))

pub calm_runs_are_strided : CalmRunsAreStrided
calm_runs_are_strided plant s calls sums ps at g last p t i = walk_last plant s calls sums ps at g last p t i
