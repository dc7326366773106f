-- The cache and memory behind an instruction: what they keep, and what the core sees.
use Rattle.std.proofs.Common.{◌≡◌, ℕ, zero, suc, ◌+◌, ◌*◌, ◌/◌, ◌%◌, ◌<◌, ◌≤◌, refl, ap, ◌∙◌, sym, subst, arith, cond, eqb, true, false, Some, None, Option, List, length, IfSome, ⊎_elim}
use Rattle.prem_cycle.proofs.Prelude.{task_after, stored_in, touched_with, view_behind, issued_with, issued_by, IsFree, Setup, record_of, Task, Work, task_in, with_stored, IsSize}
use Rattle.prem_cycle.proofs.Prelude.{AccessMatches, EffectFits, Access, Effect, Stored, store_kept, store_resident, store_clean, store_view, CacheState, Touched, touch_of, view_of}
use Rattle.prem_cycle.proofs.Prelude.{entry_of, is_resident, IsClean, IsCache, Entry, ReplacementRule, IsRule, IsPlant, Plant, div-lt_iff_lt-mul, cases_eq, div-add-mod', slice_set, is_some}
use Rattle.prem_isa.specs.Bounds.{IsPlaced}
use Rattle.prem_lru.proofs.Caches.{access_within}
use Rattle.prem_lru.proofs.Shapes.{touch_kept}
use Rattle.prem_lru.proofs.Touches.{touch_view, touch_clean, length-touch, touch_resident, touch_others}
use Rattle.prem_plant.proofs.Powers.{lines_whole}
use Rattle.prem_word.specs.Bytes.{put_byte, put_number}

-- the cache over memory: each resident line is free, and has memory's bytes if it isn't dirty
pub record IsKept (p : Setup) (c : CacheState) (memory : List ℕ) : Type 0 where
  pub cache : IsCache c
  pub plant : c.plant ≡ p.plant
  pub size : length memory ≡ p.plant.memory
  pub clean : IsClean c memory
  pub free : (q : ℕ) → is_resident c q ≡ true → IsFree p q

pub kept_plant : (p : Setup) (c : CacheState) (memory : List ℕ) → IsKept p c memory → IsPlant p.plant
kept_plant p c memory h = subst IsPlant h.plant h.cache.plant

-- ---- places in memory

-- the line of a byte in memory is in memory
pub line_in : (p : Plant) (a : ℕ) → IsPlant p → a < p.memory → a / p.line < p.memory / p.line
line_in p a h lt =
    let low : 16 ≤ p.line = h.line.0 in
    let whole : p.memory ≡ p.memory / p.line * p.line = omega (arith, div-add-mod' p.memory p.line, lines_whole p h) in
    (div-lt_iff_lt-mul {k = p.line} {x = a} {y = p.memory / p.line} (omega arith)).1 (omega arith)

size_positive : (n : ℕ) → IsSize n → 0 < n
size_positive n h = ⊎_elim (λ (e : n ≡ 1). omega arith) (⊎_elim (λ (e : n ≡ 2). omega arith) (λ (e : n ≡ 4). omega arith)) h

-- ---- a touch

pub record Touch (rule : ReplacementRule) (p : Setup) (c : CacheState) (line : ℕ) (memory : List ℕ) : Type 0 where
  pub kept : IsKept p (touch_of rule c line memory).cache (touch_of rule c line memory).memory
  pub view : (a : ℕ) → view_of (touch_of rule c line memory).cache (touch_of rule c line memory).memory a ≡ view_of c memory a
  pub resident : is_resident (touch_of rule c line memory).cache line ≡ true

pub touched : (rule : ReplacementRule) (p : Setup) (c : CacheState) (line : ℕ) (memory : List ℕ) → IsRule rule → IsKept p c memory →
    line < p.plant.memory / p.plant.line → IsFree p line → Touch rule p c line memory
touched rule p c line memory r h lt free =
    let size : length memory ≡ c.plant.memory = h.size ∙ ap (λ (q : Plant). q.memory) (sym h.plant) in
    record {
      kept = record {
        cache = touch_kept rule c line memory r h.cache (subst (λ (q : Plant). line < q.memory / q.line) (sym h.plant) lt) size;
        plant = h.plant;
        size = length-touch rule c line memory r h.cache size ∙ h.size;
        clean = touch_clean rule c line memory r h.cache size h.clean;
        free = λ q is.
            ⊎_elim (λ (e : q ≡ line). subst (IsFree p) (sym e) free)
            (λ (ne : q ≡ line → ⊥). h.free q (touch_others rule c line q memory r h.cache ne is)) (cases_eq q line);
      };
      view = λ a. touch_view rule c line memory a r h.cache size h.clean;
      resident = touch_resident rule c line memory r h.cache;
    }

-- ---- a store

-- the bytes of a store lie in a resident line
pub record LiesInLine (p : Setup) (c : CacheState) (s : Stored) : Type 0 where
  pub resident : is_resident c (s.address / p.plant.line) ≡ true
  pub within : s.address % p.plant.line + s.size ≤ p.plant.line

pub record Store (p : Setup) (c : CacheState) (memory : List ℕ) (stored : Option Stored) : Type 0 where
  pub kept : IsKept p (stored_in stored c) memory
  pub view : (a : ℕ) → view_of (stored_in stored c) memory a ≡ with_stored stored (view_of c memory) a

store_at : (p : Setup) (c : CacheState) (memory : List ℕ) (s : Stored) (o : Option Entry) → IsKept p c memory →
    entry_of c (s.address / c.plant.line) ≡ o → is_some o ≡ true → s.address % c.plant.line + s.size ≤ c.plant.line → Store p c memory (Some s)
store_at p c memory s None h f is le = absurd (let x : false ≡ true = is in cc)
store_at p c memory s (Some e) h f is le =
    record {
      kept = record {
        cache = store_kept c s.address s.size s.value h.cache le;
        plant = h.plant;
        size = h.size;
        clean = store_clean c s.address s.size s.value memory e h.cache f h.clean;
        free = λ q r. h.free q (sym (store_resident c s.address s.size s.value q e h.cache f) ∙ r);
      };
      view = λ a. store_view c s.address s.size s.value memory e a h.cache f le;
    }

stored_facts : (p : Setup) (c : CacheState) (memory : List ℕ) (stored : Option Stored) → IsKept p c memory → IfSome stored (LiesInLine p c) → Store p c memory stored
stored_facts p c memory None h l = record { kept = h; view = λ a. refl }
stored_facts p c memory (Some s) h l =
    store_at p c memory s (entry_of c (s.address / c.plant.line)) h refl
    (subst (λ (q : Plant). is_resident c (s.address / q.line) ≡ true) (sym h.plant) l.resident)
    (subst (λ (q : Plant). s.address % q.line + s.size ≤ q.line) (sym h.plant) l.within)

-- the same store into two views
put_same : (n address value : ℕ) (view other : ℕ → ℕ) (a : ℕ) → view a ≡ other a → put_number n address value view a ≡ put_number n address value other a
put_same zero address value view other a h = h
put_same (suc n) address value view other a h =
    put_same n (address + 1) (value / 256) (put_byte view address (value % 256)) (put_byte other address (value % 256)) a
    (ap (cond (eqb a address) (value % 256)) h)

pub stored_same : (stored : Option Stored) (view other : ℕ → ℕ) (a : ℕ) → view a ≡ other a → with_stored stored view a ≡ with_stored stored other a
stored_same None view other a h = h
stored_same (Some s) view other a h = put_same s.size s.address s.value view other a h

-- ---- an instruction

-- the work behind it
pub record Issue (p : Setup) (tasks : List Task) (stored : Option Stored) (view : ℕ → ℕ) (w : Work) : Type 0 where
  pub kept : IsKept p w.cache w.memory
  pub sees : (a : ℕ) → view_of w.cache w.memory a ≡ with_stored stored view a
  pub tasks_are : w.tasks ≡ tasks

-- the line of the fetch has been touched
access_facts : (rule : ReplacementRule) (p : Setup) (tasks : List Task) (stored : Option Stored) (line : ℕ) (t : Touched) (access : Option Access) →
    IsRule rule → IsKept p t.cache t.memory → AccessMatches access stored → IfSome access (λ a. IsPlaced p.plant.memory a.address a.size) →
    IfSome access (λ a. IsFree p (a.address / p.plant.line)) →
    Issue p tasks stored (view_of t.cache t.memory) (issued_with rule p.plant.line tasks stored line t access).work
access_facts rule p tasks None line t None r h m within free = record { kept = h; sees = λ a. refl; tasks_are = refl }
access_facts rule p tasks (Some s) line t None r h m within free = absurd m
access_facts rule p tasks None line t (Some x) r h m within free =
    let some : 0 < x.size = size_positive x.size within.sized in
    let le : x.address + x.size ≤ p.plant.memory = within.within in
    let d : Touch rule p t.cache (x.address / p.plant.line) t.memory =
    touched rule p t.cache (x.address / p.plant.line) t.memory r h (line_in p.plant x.address (kept_plant p t.cache t.memory h) (omega arith)) free in
    record { kept = d.kept; sees = d.view; tasks_are = refl }
access_facts rule p tasks (Some s) line t (Some x) r h m within free =
    let some : 0 < x.size = size_positive x.size within.sized in
    let le : x.address + x.size ≤ p.plant.memory = within.within in
    let is : IsPlant p.plant = kept_plant p t.cache t.memory h in
    let d : Touch rule p t.cache (x.address / p.plant.line) t.memory =
    touched rule p t.cache (x.address / p.plant.line) t.memory r h (line_in p.plant x.address is (omega arith)) free in
    let t' : Touched = touch_of rule t.cache (x.address / p.plant.line) t.memory in
    let l : LiesInLine p t'.cache s = record {
      resident = subst (λ (a : Access). is_resident t'.cache (a.address / p.plant.line) ≡ true) m d.resident;
      within = subst (λ (a : Access). a.address % p.plant.line + a.size ≤ p.plant.line) m (access_within p.plant x.address x.size is within.sized within.aligned);
    } in
    let f : Store p t'.cache t'.memory (Some s) = stored_facts p t'.cache t'.memory (Some s) d.kept l in
    record {
      kept = f.kept;
      sees = λ a. f.view a ∙ stored_same (Some s) (view_of t'.cache t'.memory) (view_of t.cache t.memory) a (d.view a);
      tasks_are = refl;
    }

pub issue_facts : (rule : ReplacementRule) (p : Setup) (k : ℕ) (e : Effect) (w : Work) → IsRule rule → IsKept p w.cache w.memory →
    EffectFits p.plant.memory e → (task_in w k).pc + 4 ≤ p.plant.memory → IsFree p ((task_in w k).pc / p.plant.line) →
    IfSome e.access (λ a. IsFree p (a.address / p.plant.line)) →
    Issue p (slice_set w.tasks k (task_after (record_of p k) e (task_in w k))) e.stored (view_of w.cache w.memory) (issued_by rule p k e w).work
issue_facts rule p k e w r h fits within fetch_free data_free =
    let line : ℕ = (task_in w k).pc / p.plant.line in
    let d : Touch rule p w.cache line w.memory =
    touched rule p w.cache line w.memory r h (line_in p.plant (task_in w k).pc (kept_plant p w.cache w.memory h) (omega arith)) fetch_free in
    let t : Touched = touch_of rule w.cache line w.memory in
    let f : Issue p (slice_set w.tasks k (task_after (record_of p k) e (task_in w k))) e.stored (view_of t.cache t.memory) (issued_by rule p k e w).work =
    access_facts rule p (slice_set w.tasks k (task_after (record_of p k) e (task_in w k))) e.stored line t e.access r d.kept fits.matches fits.access data_free in
    record {
      kept = f.kept;
      sees = λ a. f.sees a ∙ stored_same e.stored (view_of t.cache t.memory) (view_of w.cache w.memory) a (d.view a);
      tasks_are = f.tasks_are;
    }

-- ---- what the core sees behind the touches

access_view : (rule : ReplacementRule) (p : Setup) (t : Touched) (access : Option Access) → IsRule rule → IsKept p t.cache t.memory →
    IfSome access (λ a. IsPlaced p.plant.memory a.address a.size) → IfSome access (λ a. IsFree p (a.address / p.plant.line)) → (a : ℕ) →
    view_of (touched_with rule p.plant.line t access).cache (touched_with rule p.plant.line t access).memory a ≡ view_of t.cache t.memory a
access_view rule p t None r h within free a = refl
access_view rule p t (Some x) r h within free a =
    let some : 0 < x.size = size_positive x.size within.sized in
    let le : x.address + x.size ≤ p.plant.memory = within.within in
    let d : Touch rule p t.cache (x.address / p.plant.line) t.memory =
    touched rule p t.cache (x.address / p.plant.line) t.memory r h (line_in p.plant x.address (kept_plant p t.cache t.memory h) (omega arith)) free in
    d.view a

-- the same as before them
pub behind_view : (rule : ReplacementRule) (p : Setup) (k : ℕ) (access : Option Access) (w : Work) → IsRule rule → IsKept p w.cache w.memory →
    IfSome access (λ a. IsPlaced p.plant.memory a.address a.size) → (task_in w k).pc + 4 ≤ p.plant.memory →
    IsFree p ((task_in w k).pc / p.plant.line) → IfSome access (λ a. IsFree p (a.address / p.plant.line)) → (a : ℕ) →
    view_behind rule p k w access a ≡ view_of w.cache w.memory a
behind_view rule p k access w r h placed within fetch_free data_free a =
    let line : ℕ = (task_in w k).pc / p.plant.line in
    let d : Touch rule p w.cache line w.memory =
    touched rule p w.cache line w.memory r h (line_in p.plant (task_in w k).pc (kept_plant p w.cache w.memory h) (omega arith)) fetch_free in
    access_view rule p (touch_of rule w.cache line w.memory) access r d.kept placed data_free a ∙ d.view a
