-- One task without devices: all of memory is its own.
use Rattle.std.proofs.Common.{◌≡◌, ℕ, zero, suc, ◌+◌, ◌-◌, ◌/◌, ◌<◌, ◌≤◌, refl, ap, ◌∙◌, sym, arith, cond, ltb, Some, None, Option, true, false, Bool, List, [], ◌∷◌, ◌++◌, length, get_or}
use Rattle.std.proofs.Common.{replicate, IfSome, ⊎_elim, ◌⊎◌, inl, inr, is_none}
use Rattle.std.specs.Prelude.{All, ◌&&◌}
use Rattle.prem_cycle.proofs.Prelude.{IsRequest, memory_of, lone, run_alone, NeverTraps, IsLone, EndsIn, IsRunOf, AreOwn, IsRunnable, AllOwn, LoadsOwn, IsFree, IsOwn, IsOwnOutcome}
use Rattle.prem_cycle.proofs.Prelude.{next_outcome, StaysOwn, IsPlaced, TaskRecord, plain_steps-next, plain_stays, plain_run-add, TaskRun, PlainState, RunFits, is_running, after_outcome}
use Rattle.prem_cycle.proofs.Prelude.{plain_start, plain_run, Access, Cause, Effect, Outcome, Trap, Done, Stored, Plant, cases_lt, le-ltb, All-nil}

-- every byte
abbrev pub whole : ℕ → Bool
whole a = true

abbrev pub all_whole : ℕ → ℕ → Bool
all_whole k = whole

-- ---- a run that never traps

all_loads : (rd : ℕ) (access : Option Access) → LoadsOwn whole rd access
all_loads zero access = tt
all_loads (suc rd) None = tt
all_loads (suc rd) (Some a) = λ e k lt. refl

all_stores : (stored : Option Stored) → IfSome stored (λ s. AllOwn whole s.address s.size)
all_stores None = tt
all_stores (Some s) = λ k lt. refl

no_line : (plant : Plant) (task : TaskRecord) (line : ℕ) → IsFree (lone plant task) line
no_line plant task line d j lt = absurd (omega arith)

no_data : (plant : Plant) (task : TaskRecord) (access : Option Access) → IfSome access (λ a. IsFree (lone plant task) (a.address / plant.line))
no_data plant task None = tt
no_data plant task (Some a) = no_line plant task (a.address / plant.line)

all_own : (plant : Plant) (task : TaskRecord) (pc : ℕ) (e : Effect) → IsOwn (lone plant task) whole pc e
all_own plant task pc e = record {
  fetched = λ k lt. refl;
  loads = all_loads e.rd e.access;
  stores = all_stores e.stored;
  fetch_line = no_line plant task (pc / plant.line);
  data_line = no_data plant task e.access;
}

own_by : (plant : Plant) (task : TaskRecord) (run : TaskRun) (s : PlainState) (o : Outcome) → (after_outcome run o s).trapped ≡ None → IsOwnOutcome (lone plant task) whole s.pc o
own_by plant task run s (Trap cause) h = let x : Some cause ≡ None = h in cc
own_by plant task run s (Done e) h = all_own plant task s.pc e

never_own : (plant : Plant) (task : TaskRecord) (run : TaskRun) → NeverTraps run → StaysOwn (lone plant task) whole run
never_own plant task run h n goes =
    let s : PlainState = plain_run run n in
    let o : Outcome = next_outcome run s in
    let e : plain_run run (n + 1) ≡ after_outcome run o s =
    plain_steps-next run n (plain_start run) ∙ ap (λ b. cond b (after_outcome run o s) s) goes in
    own_by plant task run s o (ap (λ (q : PlainState). q.trapped) (sym e) ∙ h (n + 1))

-- ---- a run that ends never traps

pub stopped : (run : TaskRun) (s : PlainState) → run.jobs ≤ s.ended → is_running run s ≡ false
stopped run s h = ap (λ b. is_none s.trapped && b) (le-ltb s.ended run.jobs h) ∙ by (is_none s.trapped) where
  by : (b : Bool) → (b && false) ≡ false
  by true = refl
  by false = refl

trapped_stops : (run : TaskRun) (s : PlainState) (o : Option Cause) → s.trapped ≡ o → (o ≡ None) ⊎ (is_running run s ≡ false)
trapped_stops run s None e = inl refl
trapped_stops run s (Some cause) e = inr (ap (λ t. is_none t && ltb s.ended run.jobs) e)

-- behind a state that has stopped the run stays
pub later_same : (run : TaskRun) (m n : ℕ) → m ≤ n → is_running run (plain_run run m) ≡ false → plain_run run n ≡ plain_run run m
later_same run m n le h =
    let e : n ≡ m + (n - m) = omega arith in
    ap (plain_run run) e ∙ plain_run-add run m (n - m) ∙ plain_stays run (n - m) (plain_run run m) h

pub ends_stopped : (run : TaskRun) (n : ℕ) → EndsIn run n → is_running run (plain_run run n) ≡ false
ends_stopped run n h = stopped run (plain_run run n) (omega (arith, h.ended))

pub ends_never : (run : TaskRun) (n : ℕ) → EndsIn run n → NeverTraps run
ends_never run n h m =
    ⊎_elim (λ (before : m < n).
    ⊎_elim (λ (none : (plain_run run m).trapped ≡ None). none)
    (λ (stops : is_running run (plain_run run m) ≡ false).
    ap (λ (q : PlainState). q.trapped) (sym (later_same run m n (omega arith) stops)) ∙ h.untrapped)
    (trapped_stops run (plain_run run m) (plain_run run m).trapped refl))
    (λ (from : n ≤ m). ap (λ (q : PlainState). q.trapped) (later_same run n m from (ends_stopped run n h)) ∙ h.untrapped)
    (cases_lt m n)

-- ---- what fits

zero_byte : (n a : ℕ) → get_or (replicate n 0) a 0 < 256
zero_byte zero a = omega arith
zero_byte (suc n) zero = omega arith
zero_byte (suc n) (suc a) = zero_byte n a

memory_byte : (content : List ℕ) (n a : ℕ) → All (λ byte. byte < 256) content → get_or (content ++ replicate n 0) a 0 < 256
memory_byte [] n a h = zero_byte n a
memory_byte (byte ∷ content) n zero h = h 0 0 (omega arith)
memory_byte (byte ∷ content) n (suc a) h = memory_byte content n a (λ k d lt. h (suc k) d (omega arith))

alone_fits : (plant : Plant) (task : TaskRecord) (content words : List ℕ) → IsLone plant task content words → RunFits (run_alone plant task content words)
alone_fits plant task content words h =
    let most : plant.memory ≤ 16777216 = h.in_range.memory.1 in
    record {
      size = omega arith;
      bytes = λ a. memory_byte content (plant.memory - length content) a h.bytes;
      entry = h.entry;
      stack = omega (arith, h.stack);
      inputs = h.inputs;
    }

lone_is : (plant : Plant) (task : TaskRecord) (content words : List ℕ) (k : ℕ) → IsLone plant task content words → k < 1 →
    IsRunOf (lone plant task) (memory_of (lone plant task) content) (words ∷ []) whole k (run_alone plant task content words)
lone_is plant task content words zero h lt = record {
  target = refl;
  size = refl;
  entry = refl;
  stack = refl;
  jobs = refl;
  words = refl;
  bytes = λ a o. refl;
  fits = alone_fits plant task content words h;
}
lone_is plant task content words (suc k) h lt = absurd (omega arith)

pub lone_runnable : (plant : Plant) (task : TaskRecord) (content words : List ℕ) → IsLone plant task content words → IsRunnable (lone plant task) content []
lone_runnable plant task content words h = record {
  plant = h.in_range;
  room = h.room;
  devices = All-nil (IsPlaced plant.line plant.memory);
  asked = All-nil (IsRequest []);
}

pub lone_own : (plant : Plant) (task : TaskRecord) (content words : List ℕ) → IsLone plant task content words →
    NeverTraps (run_alone plant task content words) → AreOwn (lone plant task) content (words ∷ []) all_whole (λ k. run_alone plant task content words)
lone_own plant task content words h never = record {
  runs_are = λ k lt. lone_is plant task content words k h lt;
  stay = λ k lt. never_own plant task (run_alone plant task content words) never;
  apart = λ j k a lj lk oj ok. omega arith;
  free = λ k a lt o. no_line plant task (a / plant.line);
}
