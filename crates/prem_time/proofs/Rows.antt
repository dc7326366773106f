-- The lines of a text.
use Rattle.std.proofs.Common.{◌≡◌, ℕ, zero, suc, ◌+◌, ◌<◌, Bool, List, [], ◌∷◌, ◌++◌, length, map, get_or, Option, Some, slice_get, unwrap_or, refl, ap, ◌∙◌, sym, subst, arith, append_assoc}
use Rattle.prem_line.specs.Spelled.{ended}
use Rattle.prem_resp.specs.declared.busy.load.Load.{Load}
use Rattle.prem_resp.specs.declared.busy.length.Busy.{Busy}
use Rattle.prem_resp.specs.Busy.Busy.{load_at, blocking}
use Rattle.prem_time.specs.Times.{TaskTold, no_told}
use Rattle.prem_time.specs.Devices.{DeviceTold}
use Rattle.prem_time.specs.Lines.{HasLine, TellsTask, device_line, interval_line, last_line, limit_line, task_line, task_text, tasks_text, time_text}

ended_both : (xs ys : List (List ℕ)) → ended (xs ++ ys) ≡ ended xs ++ ended ys
ended_both [] ys = refl
ended_both (x ∷ xs) ys = ap (λ t. x ++ 10 ∷ t) (ended_both xs ys) ∙ sym (append_assoc x (10 ∷ ended xs) (ended ys))

-- ---- the lines of tasks

abbrev row : List Load → ℕ → TaskTold → Busy → List ℕ
row loads i t busy = task_line t.name t.bound (load_at loads i).cost (load_at loads i).longest (blocking loads i) busy

abbrev task_rows : List Load → ℕ → TaskTold → Busy → List (List ℕ)
task_rows loads i t busy = row loads i t busy ∷ map interval_line t.intervals

abbrev rows_from : List Load → ℕ → List TaskTold → List Busy → List (List ℕ)
rows_from loads i [] found = []
rows_from loads i (t ∷ ts) [] = []
rows_from loads i (t ∷ ts) (busy ∷ found) = task_rows loads i t busy ++ rows_from loads (i + 1) ts found

text_rows : (loads : List Load) (i : ℕ) (tolds : List TaskTold) (found : List Busy) → tasks_text loads i tolds found ≡ ended (rows_from loads i tolds found)
text_rows loads i [] found = refl
text_rows loads i (t ∷ ts) [] = refl
text_rows loads i (t ∷ ts) (busy ∷ found) =
    ap (λ x. task_text t (load_at loads i) (blocking loads i) busy ++ x) (text_rows loads (i + 1) ts found)
    ∙ sym (ended_both (task_rows loads i t busy) (rows_from loads (i + 1) ts found))

-- ---- one of them

record Among (xs : List (List ℕ)) (x : List ℕ) : Type 0 where
  before : List (List ℕ)
  after : List (List ℕ)
  is : xs ≡ before ++ x ∷ after

row_there : (loads : List Load) (n : ℕ) (tolds : List TaskTold) (found : List Busy) (i : ℕ) (busy : Busy) → i < length tolds → slice_get found i ≡ Some busy →
    Among (rows_from loads n tolds found) (row loads (n + i) (get_or tolds i no_told) busy)
row_there loads n [] found i busy lt e = absurd (omega (arith, lt))
row_there loads n (t ∷ ts) [] i busy lt e = absurd cc
row_there loads n (t ∷ ts) (b ∷ bs) zero busy lt e =
    let same : n ≡ n + 0 = omega arith in
    let is : b ≡ busy = ap (λ (o : Option Busy). unwrap_or o b) e in
    subst (λ j. Among (rows_from loads n (t ∷ ts) (b ∷ bs)) (row loads j t busy)) same
    (subst (λ x. Among (rows_from loads n (t ∷ ts) (b ∷ bs)) (row loads n t x)) is
    (record { before = []; after = map interval_line t.intervals ++ rows_from loads (n + 1) ts bs; is = refl }))
row_there loads n (t ∷ ts) (b ∷ bs) (suc i) busy lt e =
    let same : n + 1 + i ≡ n + suc i = omega arith in
    let h = row_there loads (n + 1) ts bs i busy (omega (arith, lt)) e in
    subst (λ j. Among (rows_from loads n (t ∷ ts) (b ∷ bs)) (row loads j (get_or ts i no_told) busy)) same
    (record {
      before = task_rows loads n t b ++ h.before;
      after = h.after;
      is = ap (λ x. task_rows loads n t b ++ x) h.is ∙ sym (append_assoc (task_rows loads n t b) h.before (row loads (n + 1 + i) (get_or ts i no_told) busy ∷ h.after));
    })

-- ---- the lines of devices

device_there : (before more : List (List ℕ)) (ds : List DeviceTold) (i : ℕ) (d : DeviceTold) → slice_get ds i ≡ Some d → Among (before ++ (map device_line ds ++ more)) (device_line d)
device_there before more [] i d e = absurd cc
device_there before more (x ∷ xs) zero d e =
    let same : x ≡ d = cc in
    subst (λ (y : DeviceTold). Among (before ++ (device_line x ∷ (map device_line xs ++ more))) (device_line y)) same (record { before = before; after = map device_line xs ++ more; is = refl })
device_there before more (x ∷ xs) (suc i) d e =
    let h = device_there (before ++ device_line x ∷ []) more xs i d e in
    record { before = h.before; after = h.after; is = sym (append_assoc before (device_line x ∷ []) (map device_line xs ++ more)) ∙ h.is }

-- ---- the whole text

module _ (tolds : List TaskTold) (loads : List Load) (found : List Busy) (devices : List DeviceTold) (limit : ℕ) (fits : Bool) where
  abbrev ends : List (List ℕ)
  ends = limit_line limit ∷ last_line fits ∷ []

  abbrev rows : List (List ℕ)
  rows = rows_from loads 0 tolds found

  text_is_rows : time_text tolds loads found devices limit fits ≡ ended (rows ++ (map device_line devices ++ ends))
  text_is_rows =
      ap (λ x. ((x ++ ended (map device_line devices)) ++ ended (limit_line limit ∷ [])) ++ ended (last_line fits ∷ [])) (text_rows loads 0 tolds found)
      ∙ append_assoc (ended rows ++ ended (map device_line devices)) (ended (limit_line limit ∷ [])) (ended (last_line fits ∷ []))
      ∙ ap (λ x. (ended rows ++ ended (map device_line devices)) ++ x) (sym (ended_both (limit_line limit ∷ []) (last_line fits ∷ [])))
      ∙ append_assoc (ended rows) (ended (map device_line devices)) (ended ends)
      ∙ ap (λ x. ended rows ++ x) (sym (ended_both (map device_line devices) ends))
      ∙ sym (ended_both rows (map device_line devices ++ ends))

  pub limit_told : HasLine (time_text tolds loads found devices limit fits) (limit_line limit)
  limit_told = record {
    before = rows ++ map device_line devices;
    after = last_line fits ∷ [];
    is = text_is_rows ∙ ap ended (sym (append_assoc rows (map device_line devices) ends));
  }

  pub task_told : (i : ℕ) (busy : Busy) → i < length tolds → slice_get found i ≡ Some busy → TellsTask (time_text tolds loads found devices limit fits) loads i (get_or tolds i no_told) busy
  task_told i busy lt e =
      let h = row_there loads 0 tolds found i busy lt e in
      let same : 0 + i ≡ i = omega arith in
      subst (λ j. TellsTask (time_text tolds loads found devices limit fits) loads j (get_or tolds i no_told) busy) same
      (record {
        before = h.before;
        after = h.after ++ (map device_line devices ++ ends);
        is = text_is_rows ∙ ap (λ x. ended (x ++ (map device_line devices ++ ends))) h.is
            ∙ ap ended (append_assoc h.before (row loads (0 + i) (get_or tolds i no_told) busy ∷ h.after) (map device_line devices ++ ends));
      })

  pub device_told : (i : ℕ) (d : DeviceTold) → slice_get devices i ≡ Some d → HasLine (time_text tolds loads found devices limit fits) (device_line d)
  device_told i d e =
      let h = device_there rows ends devices i d e in
      record { before = h.before; after = h.after; is = text_is_rows ∙ ap ended h.is }
