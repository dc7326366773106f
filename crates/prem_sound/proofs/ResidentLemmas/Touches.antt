-- The touches of an instruction: which of them miss, and how the lines stand behind them.
use Rattle.std.proofs.Common.{◌≡◌, ℕ, ◌+◌, ◌/◌, ◌<◌, ◌≤◌, refl, ap, ◌∙◌, sym, subst, arith, cond, Some, None, Option, List, [], ◌∷◌, length}
use Rattle.prem_sound.proofs.Prelude.{IsKept, kept_plant, line_in, LineTouch, stored_in, Issued, issued_with, issued_by, task_after, Setup, record_of, Task, Work, task_in, Access, Effect}
use Rattle.prem_sound.proofs.Prelude.{Stored, touch_kept, touch_hit, is_in-order, lines_in-touch, lines_in-same, lines-write_line, some_sets, CacheState, Touched, set_of, touch_of, IsCache}
use Rattle.prem_sound.proofs.Prelude.{ReplacementRule, write_line, lines_in, IsRule, MovesBy, bytes_of, is_in, OrderRule, order_of, cache_after, caches_after, cache_misses, Plant}
use Rattle.prem_sound.proofs.Prelude.{access_lines, length-set, slice_set}

-- the lines of those that miss
abbrev pub missed_lines : List LineTouch → List ℕ
missed_lines [] = []
missed_lines (t ∷ ts) = cond t.hit (missed_lines ts) (t.line ∷ missed_lines ts)

-- what the touches of these lines come to
pub record TouchesLines (order : OrderRule) (room : ℕ) (c : CacheState) (lines : List ℕ) (i : Issued) : Type 0 where
  pub lines_are : lines_in i.work.cache ≡ caches_after order room (lines_in c) lines
  pub misses_are : missed_lines i.touches ≡ cache_misses order room (lines_in c) lines

hit_is : (rule : ReplacementRule) (c : CacheState) (line : ℕ) (memory : List ℕ) → IsCache c → (touch_of rule c line memory).hit ≡ is_in line (order_of (lines_in c) line)
hit_is rule c line memory h = touch_hit rule c line memory ∙ sym (is_in-order c line (some_sets c h))

-- a store moves no line
store_lines : (c : CacheState) (stored : Option Stored) → 0 < length c.sets → lines_in (stored_in stored c) ≡ lines_in c
store_lines c None pos = refl
store_lines c (Some s) pos =
    let line : ℕ = s.address / c.plant.line in
    lines_in-same c line (write_line line _ (bytes_of s.size s.value) (set_of c line)) pos (lines-write_line line _ (bytes_of s.size s.value) (set_of c line))

touch_sets : (rule : ReplacementRule) (c : CacheState) (line : ℕ) (memory : List ℕ) → 0 < length c.sets → 0 < length (touch_of rule c line memory).cache.sets
touch_sets rule c line memory pos = subst (λ n. 0 < n) (sym (length-set c.sets _ _)) pos

module _ (rule : ReplacementRule) (order : OrderRule) (m : MovesBy rule order) where
  with_access : (size : ℕ) (c : CacheState) (line : ℕ) (memory : List ℕ) (tasks : List Task) (stored : Option Stored) (access : Option Access) →
      IsCache c → IsCache (touch_of rule c line memory).cache →
      TouchesLines order c.plant.ways c (line ∷ access_lines size access) (issued_with rule size tasks stored line (touch_of rule c line memory) access)
  with_access size c line memory tasks stored None h k =
      let t : Touched = touch_of rule c line memory in
      record {
        lines_are = store_lines t.cache stored (some_sets t.cache k) ∙ lines_in-touch rule order c line memory m h;
        misses_are = ap (λ b. cond b [] (line ∷ [])) (hit_is rule c line memory h);
      }
  with_access size c line memory tasks stored (Some a) h k =
      let t : Touched = touch_of rule c line memory in
      let q : ℕ = a.address / size in
      let u : Touched = touch_of rule t.cache q t.memory in
      let here : lines_in t.cache ≡ cache_after order c.plant.ways (lines_in c) line = lines_in-touch rule order c line memory m h in
      record {
        lines_are =
            store_lines u.cache stored (touch_sets rule t.cache q t.memory (some_sets t.cache k))
            ∙ lines_in-touch rule order t.cache q t.memory m k ∙ ap (λ o. cache_after order c.plant.ways o q) here;
        misses_are =
            ap (λ b. cond b (cond u.hit [] (q ∷ [])) (line ∷ cond u.hit [] (q ∷ []))) (hit_is rule c line memory h)
            ∙ ap (λ b. cond (is_in line (order_of (lines_in c) line)) (cond b [] (q ∷ [])) (line ∷ cond b [] (q ∷ [])))
            (hit_is rule t.cache q t.memory k ∙ ap (λ o. is_in q (order_of o q)) here);
      }

  -- an instruction that is fetched from memory
  pub issue_touches : (p : Setup) (k : ℕ) (e : Effect) (w : Work) → IsRule rule → IsKept p w.cache w.memory → (task_in w k).pc + 4 ≤ p.plant.memory →
      TouchesLines order p.plant.ways w.cache ((task_in w k).pc / p.plant.line ∷ access_lines p.plant.line e.access) (issued_by rule p k e w)
  issue_touches p k e w r h within =
      let line : ℕ = (task_in w k).pc / p.plant.line in
      let inside : line < p.plant.memory / p.plant.line = line_in p.plant (task_in w k).pc (kept_plant p w.cache w.memory h) (omega arith) in
      subst (λ (q : Plant). TouchesLines order q.ways w.cache ((task_in w k).pc / p.plant.line ∷ access_lines p.plant.line e.access) (issued_by rule p k e w)) h.plant
      (with_access p.plant.line w.cache line w.memory (slice_set w.tasks k (task_after (record_of p k) e (task_in w k))) e.stored e.access h.cache
      (touch_kept rule w.cache line w.memory r h.cache (subst (λ (q : Plant). line < q.memory / q.line) (sym h.plant) inside) (h.size ∙ ap (λ (q : Plant). q.memory) (sym h.plant))))
