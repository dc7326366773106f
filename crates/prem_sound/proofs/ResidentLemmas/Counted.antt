-- What an instruction adds to the counts, and what it makes the core owe.
use Rattle.std.proofs.Common.{◌≡◌, ℕ, ◌+◌, ◌<◌, ◌≤◌, refl, ap, ◌∙◌, sym, subst, arith, cond, Some, None, Option, true, false, Bool, List, [], ◌∷◌, ◌++◌}
use Rattle.std.specs.Prelude.{not, ◌&&◌, Result, Ok, Err, slice_index}
use Rattle.prem_sound.proofs.Prelude.{Traps, Executes, attempt_by, attempt_fetched, attempt_in, LineTouch, owed_by, write_back, fill, one_if, is_execution, with_touch, with_touches, with_store, Task, Counts}
use Rattle.prem_sound.proofs.Prelude.{act_fits, fetch_fits, act, fetch, OnDone, EffectFits, AccessMatches, Fits, next_input, Access, Loads, Stores, Cause, Effect, Outcome, Trap, Done, Phase}
use Rattle.prem_sound.proofs.Prelude.{Compatible, Execution, Stored, Instr, Plant, Target, StoresNothing}
use Rattle.prem_isa.specs.declared.effect.Phase.TheVariants.{Memory as MemoryPhase}
use Rattle.prem_sound.proofs.ResidentLemmas.Touches.{missed_lines}

-- ---- faults

-- nothing that a good run doesn't do
pub record NoFaults (n : Counts) : Type 0 where
  pub exec_misses : n.exec_misses ≡ 0
  pub memory_stores : n.memory_stores ≡ 0
  pub clashes : n.clashes ≡ 0

-- ---- touches

all_hit : (t : LineTouch) (ts : List LineTouch) → missed_lines (t ∷ ts) ≡ [] → (t.hit ≡ true) × (missed_lines ts ≡ [])
all_hit t ts h = by t.hit refl where
  by : (b : Bool) → t.hit ≡ b → (t.hit ≡ true) × (missed_lines ts ≡ [])
  by true e = (e, sym (ap (λ c. cond c (missed_lines ts) (t.line ∷ missed_lines ts)) e) ∙ h)
  by false e = absurd (let x : t.line ∷ missed_lines ts ≡ [] = sym (ap (λ c. cond c (missed_lines ts) (t.line ∷ missed_lines ts)) e) ∙ h in cc)

-- where all hit, the core owes nothing
pub owed_none : (plant : Plant) (ts : List LineTouch) → missed_lines ts ≡ [] → owed_by plant ts ≡ []
owed_none plant [] h = refl
owed_none plant (t ∷ ts) h =
    let a : (t.hit ≡ true) × (missed_lines ts ≡ []) = all_hit t ts h in
    ap (λ b. cond b [] (cond t.back (write_back plant ∷ fill plant ∷ []) (fill plant ∷ [])) ++ owed_by plant ts) a.0 ∙ owed_none plant ts a.1

no_exec_miss : (hit execution : Bool) → (execution ≡ true → hit ≡ true) → (not hit && execution) ≡ false
no_exec_miss true execution h = refl
no_exec_miss false false h = refl
no_exec_miss false true h = absurd (let x : false ≡ true = h refl in cc)

touches_counts : (phase : Phase) (ts : List LineTouch) (n : Counts) → (is_execution phase ≡ true → missed_lines ts ≡ []) → NoFaults n → NoFaults (with_touches phase ts n)
touches_counts phase [] n h f = f
touches_counts phase (t ∷ ts) n h f =
    let none : (not t.hit && is_execution phase) ≡ false = no_exec_miss t.hit (is_execution phase) (λ e. (all_hit t ts (h e)).0) in
    touches_counts phase ts (with_touch phase t n) (λ e. (all_hit t ts (h e)).1)
    (record {
      exec_misses = ap (λ b. n.exec_misses + one_if b) none ∙ (let z : n.exec_misses ≡ 0 = f.exec_misses in omega arith);
      memory_stores = f.memory_stores;
      clashes = f.clashes;
    })

-- ---- stores

no_store : (access : Option Access) (stored : Option Stored) → AccessMatches access stored → StoresNothing MemoryPhase access → stored ≡ None
no_store None None m h = refl
no_store None (Some s) m h = absurd m
no_store (Some a) None m h = refl
no_store (Some a) (Some s) m h =
    let k : a.kind ≡ Loads = h in
    let x : Loads ≡ Stores = sym k ∙ ap (λ (b : Access). b.kind) m in absurd cc

store_counts : (phase : Phase) (access : Option Access) (stored : Option Stored) (n : Counts) → AccessMatches access stored →
    StoresNothing phase access → NoFaults n → NoFaults (with_store phase stored n)
store_counts Compatible access None n m h f = f
store_counts Compatible access (Some s) n m h f = record { exec_misses = f.exec_misses; memory_stores = (let z : n.memory_stores ≡ 0 = f.memory_stores in omega arith); clashes = f.clashes }
store_counts Execution access None n m h f = f
store_counts Execution access (Some s) n m h f = record { exec_misses = f.exec_misses; memory_stores = (let z : n.memory_stores ≡ 0 = f.memory_stores in omega arith); clashes = f.clashes }
store_counts MemoryPhase access stored n m h f = subst (λ o. NoFaults (with_store MemoryPhase o n)) (sym (no_store access stored m h)) f

pub issue_counts : (phase : Phase) (e : Effect) (ts : List LineTouch) (n : Counts) → AccessMatches e.access e.stored → StoresNothing phase e.access →
    (is_execution phase ≡ true → missed_lines ts ≡ []) → NoFaults n → NoFaults (with_store phase e.stored (with_touches phase ts n))
issue_counts phase e ts n m s h f = store_counts phase e.access e.stored (with_touches phase ts n) m s (touches_counts phase ts n h f)

-- ---- what is executed fits memory

-- fetched from memory, with its data in memory
pub record AttemptFits (size : ℕ) (t : Task) (e : Effect) : Type 0 where
  pub within : t.pc + 4 ≤ size
  pub effect : EffectFits size e

fits_done : (size : ℕ) (i instr : Instr) (o : Outcome) (e : Effect) → OnDone (EffectFits size) o → attempt_by i o ≡ Executes instr e → EffectFits size e
fits_done size i instr (Trap cause) e h is = absurd (let x : Traps cause ≡ Executes instr e = is in cc)
fits_done size i instr (Done f) e h is =
    let x : Executes i f ≡ Executes instr e = is in
    let same : f ≡ e = cc in
    subst (EffectFits size) same h

fits_fetched : (target : Target) (size : ℕ) (view : ℕ → ℕ) (t : Task) (f : Result Instr Cause) (instr : Instr) (e : Effect) →
    ((a : ℕ) → view a < 256) → fetch size view t.pc ≡ f → attempt_fetched target size view t f ≡ Executes instr e → AttemptFits size t e
fits_fetched target size view t (Err cause) instr e bytes at is = absurd (let x : Traps cause ≡ Executes instr e = is in cc)
fits_fetched target size view t (Ok i) instr e bytes at is =
    let f : Fits i × (t.pc + 4 ≤ size) = fetch_fits size view t.pc bytes i at in
    record {
      within = f.1;
      effect = fits_done size i instr (act target size view (slice_index t.registers) t.pc t.phase (next_input t.left) i) e
          (act_fits target size view (slice_index t.registers) t.pc t.phase (next_input t.left) i f.0) is;
    }

pub attempt_fits : (target : Target) (size : ℕ) (view : ℕ → ℕ) (t : Task) (instr : Instr) (e : Effect) → ((a : ℕ) → view a < 256) →
    attempt_in target size view t ≡ Executes instr e → AttemptFits size t e
attempt_fits target size view t instr e bytes is = fits_fetched target size view t (fetch size view t.pc) instr e bytes refl is
