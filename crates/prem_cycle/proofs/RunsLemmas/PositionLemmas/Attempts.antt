-- What a task's next instruction comes to in the machine is what it comes to on its own.
use Rattle.std.proofs.Common.{◌≡◌, ℕ, zero, suc, ◌+◌, ◌<◌, ◌≤◌, refl, ap, ◌∙◌, sym, subst, Bool, true, Some, None, Option}
use Rattle.prem_cycle.proofs.Prelude.{plain_of, Traps, Executes, attempt_by, attempt_fetched, attempt_in, value_of, effect_in, AllOwn, LoadsOwn, IsOwn, IsOwnOutcome, next_outcome, Setup}
use Rattle.prem_cycle.proofs.Prelude.{Task, act_fits, act_lawful, act_same, fetch_same, fetch_fits, act, fetch, OnDone, EffectFits, EffectLawful, SameBytes, SameAccess, SameLoaded, Fits}
use Rattle.prem_cycle.proofs.Prelude.{TaskRun, next_input, outcome_of, Access, Cause, Effect, Outcome, Trap, Done, Instr, Target, Result, Ok, Err, slice_index}

-- two views agree on own bytes
abbrev pub AgreeOn : (ℕ → Bool) → (ℕ → ℕ) → (ℕ → ℕ) → Type 0
AgreeOn own view other = (a : ℕ) → own a ≡ true → view a ≡ other a

-- the instruction that a task executes next, where memory reads as a view or as any other that agrees with it
pub record Next (p : Setup) (own : ℕ → Bool) (target : Target) (size : ℕ) (view : ℕ → ℕ) (t : Task) : Type 0 where
  pub instr : Instr
  pub effect : Effect
  pub does : (other : ℕ → ℕ) → AgreeOn own view other → attempt_in target size other t ≡ Executes instr effect
  pub fetch_within : t.pc + 4 ≤ size
  pub fits : EffectFits size effect
  pub lawful : EffectLawful t.phase effect
  pub stays : IsOwn p own t.pc effect

same_bytes : (own : ℕ → Bool) (view other : ℕ → ℕ) (address n : ℕ) → AgreeOn own view other → AllOwn own address n → SameBytes view other address n
same_bytes own view other address n same all = λ k lt. same (address + k) (all k lt)

same_access : (own : ℕ → Bool) (view other : ℕ → ℕ) (rd : ℕ) (access : Option Access) → AgreeOn own view other → LoadsOwn own rd access → SameAccess view other rd access
same_access own view other zero access same loads = tt
same_access own view other (suc rd) None same loads = tt
same_access own view other (suc rd) (Some a) same loads = λ e. same_bytes own view other a.address a.size same (loads e)

-- the instruction that was fetched
next_done : (p : Setup) (own : ℕ → Bool) (target : Target) (size : ℕ) (view : ℕ → ℕ) (t : Task) (i : Instr) (o : Outcome) → ((a : ℕ) → view a < 256) →
    fetch size view t.pc ≡ Ok i → act target size view (slice_index t.registers) t.pc t.phase (next_input t.left) i ≡ o → IsOwnOutcome p own t.pc o →
    Next p own target size view t
next_done p own target size view t i (Trap cause) bytes f d h = absurd h
next_done p own target size view t i (Done e) bytes f d h =
    let is : Fits i × (t.pc + 4 ≤ size) = fetch_fits size view t.pc bytes i f in
    record {
      instr = i;
      effect = e;
      does = λ other same.
          let same_act : act target size view (slice_index t.registers) t.pc t.phase (next_input t.left) i ≡ act target size other (slice_index t.registers) t.pc t.phase (next_input t.left) i =
          act_same target size view other (slice_index t.registers) t.pc t.phase (next_input t.left) i
          (subst (SameLoaded view other) (sym d) (same_access own view other e.rd e.access same h.loads)) in
          ap (attempt_fetched target size other t) (sym (fetch_same size view other t.pc (same_bytes own view other t.pc 4 same h.fetched)) ∙ f)
          ∙ ap (attempt_by i) (sym same_act ∙ d);
      fetch_within = is.1;
      fits = subst (OnDone (EffectFits size)) d (act_fits target size view (slice_index t.registers) t.pc t.phase (next_input t.left) i is.0);
      lawful = subst (OnDone (EffectLawful t.phase)) d (act_lawful target size view (slice_index t.registers) t.pc t.phase (next_input t.left) i);
      stays = h;
    }

next_fetched : (p : Setup) (own : ℕ → Bool) (run : TaskRun) (view : ℕ → ℕ) (t : Task) (ended : ℕ) (f : Result Instr Cause) →
    ((a : ℕ) → view a < 256) → fetch run.size view t.pc ≡ f → IsOwnOutcome p own t.pc (outcome_of run (plain_of t view ended) f) →
    Next p own run.target run.size view t
next_fetched p own run view t ended (Err cause) bytes f h = absurd h
next_fetched p own run view t ended (Ok i) bytes f h =
    next_done p own run.target run.size view t i (outcome_of run (plain_of t view ended) (Ok i)) bytes f refl h

-- where its run on its own stays with its own bytes
pub next_of : (p : Setup) (own : ℕ → Bool) (run : TaskRun) (view : ℕ → ℕ) (t : Task) (ended : ℕ) → ((a : ℕ) → view a < 256) →
    IsOwnOutcome p own t.pc (next_outcome run (plain_of t view ended)) → Next p own run.target run.size view t
next_of p own run view t ended bytes h = next_fetched p own run view t ended (fetch run.size view t.pc) bytes refl h

-- ---- behind its touches

seen_by : (target : Target) (size : ℕ) (view : ℕ → ℕ) (t : Task) (i j : Instr) (e : Effect) (o : Outcome) →
    act target size view (slice_index t.registers) t.pc t.phase (next_input t.left) j ≡ o → attempt_by j o ≡ Executes i e → effect_in target size view t i e ≡ e
seen_by target size view t i j e (Trap cause) d h = absurd (let x : Traps cause ≡ Executes i e = h in cc)
seen_by target size view t i j e (Done f) d h =
    let x : Executes j f ≡ Executes i e = h in
    let instr : j ≡ i = cc in
    let effect : Done f ≡ Done e = cc in
    let with_value : Outcome → Effect = λ o. record e { value = value_of e.value o } in
    ap with_value (ap (act target size view (slice_index t.registers) t.pc t.phase (next_input t.left)) (sym instr) ∙ d ∙ effect)

seen_fetched : (target : Target) (size : ℕ) (view : ℕ → ℕ) (t : Task) (i : Instr) (e : Effect) (f : Result Instr Cause) →
    attempt_fetched target size view t f ≡ Executes i e → effect_in target size view t i e ≡ e
seen_fetched target size view t i e (Err cause) h = absurd (let x : Traps cause ≡ Executes i e = h in cc)
seen_fetched target size view t i e (Ok j) h =
    seen_by target size view t i j e (act target size view (slice_index t.registers) t.pc t.phase (next_input t.left) j) refl h

-- where a view gives an effect, reading its register's word there again leaves it
pub seen_same : (target : Target) (size : ℕ) (view : ℕ → ℕ) (t : Task) (i : Instr) (e : Effect) → attempt_in target size view t ≡ Executes i e → effect_in target size view t i e ≡ e
seen_same target size view t i e h = seen_fetched target size view t i e (fetch size view t.pc) h
