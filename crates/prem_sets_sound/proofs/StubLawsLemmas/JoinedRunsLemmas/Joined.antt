-- A joined image is sound.
use Rattle.std.proofs.Common.{◌≡◌, ℕ, zero, suc, ◌+◌, ◌*◌, ◌<◌, ◌≤◌, ◌⊎◌, refl, sym, subst, arith, Bool, List, [], ◌∷◌, ◌++◌, length, inl, inr, ⊎_elim}
use Rattle.prem_sets_sound.proofs.Prelude.{IsTrace, StaysOwn, Setup, record_of, no_record, IsTask, TaskRun, RunFits, plain_run, JobLimits, TaskJoins, IsJoined, JoinedImagesAreSound, dids_of}
use Rattle.prem_sets_sound.proofs.Prelude.{calls_of, scripts_finish, scripts_are_good, Script, IsScript, Promise, IsKept, sum_below, last_release, limit_of, interval_count, AreScripts}
use Rattle.prem_sets_sound.proofs.Prelude.{IsRun, AreInputs, suc-mul, cases_eq, All, replicate, slice_index}
use Rattle.prem_cycle.specs.Cycle.{log_size}
use Rattle.prem_gate.specs.declared.request.Request.{Request}
use Rattle.prem_sets_sound.proofs.WeaveLemmas.Woven.{woven_runs_conform, woven_runs_give_promises}
use Rattle.prem_sets_sound.specs.StubLaws.JoinedRuns.Joined.{run_in}
use Rattle.prem_sound.proofs.ScriptLemmas.Conforming.{conforming, keeping}
use Rattle.prem_sound.proofs.Sums.{sum_le}
use Rattle.prem_sound.specs.Serve.Requests.{PutWords}
use Rattle.std.specs.Prelude.{◌-◌}

-- ---- a choice for each number below a limit

pub chosen : {A : Type 0} → (n : ℕ) (P : ℕ → A → Type 0) (other : A) → ((k : ℕ) → k < n → (a : A) × P k a) → (g : ℕ → A) × ((k : ℕ) → k < n → P k (g k))
chosen zero P other f = (λ k. other, λ k lt. absurd (omega (arith, lt)))
chosen {A} (suc n) P other f =
    let r = chosen n P other (λ k lt. f k (omega (arith, lt))) in
    let last = f n (omega arith) in
    let g : ℕ → A = λ k. ⊎_elim (λ (e : k ≡ n). last.0) (λ (ne : k ≡ n → ⊥). r.0 k) (cases_eq k n) in
    (g, λ k lt. by P k lt (cases_eq k n) last r.0 r.1) where
      by : {B : Type 0} (Q : ℕ → B → Type 0) {m : ℕ} (k : ℕ) → k < suc m → (c : (k ≡ m) ⊎ (k ≡ m → ⊥)) → (last : (a : B) × Q m a) (h : ℕ → B) → ((j : ℕ) → j < m → Q j (h j)) →
          Q k (⊎_elim (λ (e : k ≡ m). last.0) (λ (ne : k ≡ m → ⊥). h k) c)
      by {B} Q {m} k lt (inl e) last h all = subst (λ j. Q j last.0) (sym e) last.1
      by {B} Q {m} k lt (inr ne) last h all = all k (below k m lt ne) where
        below : (k m : ℕ) → k < suc m → (k ≡ m → ⊥) → k < m
        below k m lt ne = omega (arith, lt, ne)

-- ---- one task

pub record Scripted (p : Setup) (passes : ℕ → ℕ) (own : ℕ → Bool) (run : TaskRun) (most : JobLimits) (q : Promise) (s : Script) : Type 0 where
  pub script : IsScript p.plant passes run s
  pub stays : StaysOwn p own run
  pub kept : IsKept own run s q
  pub outputs : length (plain_run run s.count).task.outputs ≤ run.jobs * most.outputs
  pub intervals : interval_count run s ≤ run.jobs * (1 + 2 * most.calls)
  pub due : s.due ≤ run.jobs * most.cycles

pub joined_script : (p : Setup) (passes : ℕ → ℕ) (own : ℕ → Bool) (run : TaskRun) (most : JobLimits) (q : Promise) → RunFits run →
    TaskJoins p passes own run most q → (s : Script) × Scripted p passes own run most q s
joined_script p passes own run most q fits h =
    let c = woven_runs_conform p passes own q.reads run (run.jobs * most.cycles) h.weave h.ending h.woven in
    let g = woven_runs_give_promises p passes own run (run.jobs * most.cycles) h.weave h.ending q h.woven h.promised in
    let x = conforming p passes own run (calls_of h.weave) (run.jobs * most.cycles) (dids_of h.weave) fits c in (
      record { count = length (dids_of h.weave); calls = calls_of h.weave; due = run.jobs * most.cycles },
      record {
        script = x.0;
        stays = x.1;
        kept = keeping p passes own run (calls_of h.weave) (run.jobs * most.cycles) (dids_of h.weave) q c g;
        outputs = subst (λ os. length os ≤ run.jobs * most.outputs) (sym g.outputs) h.outputs;
        intervals = counted run.jobs (length (calls_of h.weave)) most.calls h.calls;
        due = omega arith;
      },
    ) where
      counted : (jobs n m : ℕ) → n ≤ jobs * m → jobs + 2 * n ≤ jobs * (1 + 2 * m)
      counted jobs n m le = let e : jobs * (1 + 2 * m) ≡ jobs + 2 * (jobs * m) = spread jobs m in omega (arith, le, e) where
        spread : (j m : ℕ) → j * (1 + 2 * m) ≡ j + 2 * (j * m)
        spread zero m = omega arith
        spread (suc j) m =
            let r : j * (1 + 2 * m) ≡ j + 2 * (j * m) = spread j m in
            let a : suc j * (1 + 2 * m) ≡ j * (1 + 2 * m) + (1 + 2 * m) = suc-mul j (1 + 2 * m) in
            let b : suc j * m ≡ j * m + m = suc-mul j m in
            omega (arith, r, a, b)

-- its calls are those of the weave
pub joined_calls : (p : Setup) (passes : ℕ → ℕ) (own : ℕ → Bool) (run : TaskRun) (most : JobLimits) (q : Promise) (fits : RunFits run)
    (h : TaskJoins p passes own run most q) → (joined_script p passes own run most q fits h).0.calls ≡ calls_of h.weave
unfolding joined_script
joined_calls p passes own run most q fits h = refl

-- ---- all of them

module _ (passes : ℕ → ℕ) (p : Setup) (content : List ℕ) (own : ℕ → ℕ → Bool) (most : ℕ → JobLimits) (promises : List (List ℕ) → ℕ → Promise)
    (limit : ℕ) (h : IsJoined passes p content own most promises limit) where
  record_in : (k : ℕ) → k < length p.tasks → IsTask p.plant.memory (record_of p k)
  record_in k lt = h.image.each_task k no_record lt

  bytes_below : (bs : List ℕ) (n : ℕ) → All (λ byte. byte < 256) bs → (a : ℕ) → slice_index (bs ++ replicate n 0) a < 256
  bytes_below [] zero all a = omega arith
  bytes_below [] (suc n) all zero = omega arith
  bytes_below [] (suc n) all (suc a) = bytes_below [] n all a
  bytes_below (b ∷ bs) n all zero = all 0 b (omega arith)
  bytes_below (b ∷ bs) n all (suc a) = bytes_below bs n (λ k d lt. all (suc k) d (omega (arith, lt))) a

  pub run_fits : (inputs : List (List ℕ)) → AreInputs p inputs → (k : ℕ) → k < length p.tasks → RunFits (run_in p content inputs k)
  run_fits inputs i k lt =
      let t = record_in k lt in
      let m : p.plant.memory ≤ 16777216 = h.image.plant.memory.1 in
      record {
        size = omega (arith, m);
        bytes = bytes_below content (p.plant.memory - length content) h.bytes;
        entry = t.entry_aligned;
        stack = omega (arith, m, t.stack_within);
        inputs = i.words k [] (omega (arith, lt, i.count));
      }

  pub scripted : (inputs : List (List ℕ)) → AreInputs p inputs →
      (scripts : ℕ → Script) × ((k : ℕ) → k < length p.tasks → Scripted p passes (own k) (run_in p content inputs k) (most k) (promises inputs k) (scripts k))
  scripted inputs i =
      chosen (length p.tasks) (λ k s. Scripted p passes (own k) (run_in p content inputs k) (most k) (promises inputs k) s) (record { count = 0; calls = []; due = 0 })
      (λ k lt. joined_script p passes (own k) (run_in p content inputs k) (most k) (promises inputs k) (run_fits inputs i k lt) (h.each inputs i k lt))

  -- such scripts, one for each task
  pub scripts_join : (inputs : List (List ℕ)) → AreInputs p inputs → (scripts : ℕ → Script) →
      ((k : ℕ) → k < length p.tasks → Scripted p passes (own k) (run_in p content inputs k) (most k) (promises inputs k) (scripts k)) →
      AreScripts p passes content inputs own (run_in p content inputs) scripts
  scripts_join inputs i scripts each =
      let n : ℕ = length p.tasks in
      let outputs : sum_below n (λ k. length (plain_run (run_in p content inputs k) (scripts k).count).task.outputs) ≤ sum_below n
      (λ k. (record_of p k).jobs * (most k).outputs) = sum_le n _ _ (λ k lt. (each k lt).outputs) in
      let intervals : sum_below n (λ k. interval_count (run_in p content inputs k) (scripts k)) ≤ sum_below n
      (λ k. (record_of p k).jobs * (1 + 2 * (most k).calls)) = sum_le n _ _ (λ k lt. (each k lt).intervals) in
      record {
        own_runs = record {
          runs_are = λ k lt. record { target = refl; size = refl; entry = refl; stack = refl; jobs = refl; words = refl; bytes = λ a e. refl; fits = run_fits inputs i k lt };
          stay = λ k lt. (each k lt).stays;
          apart = h.apart;
          free = h.free;
        };
        each = λ k lt. (each k lt).script;
        outputs = less _ _ log_size outputs h.outputs;
        intervals = less _ _ log_size intervals h.intervals;
      } where
        less : (x y z : ℕ) → x ≤ y → y < z → x < z
        less x y z a b = omega (arith, a, b)

  pub are_scripts : (inputs : List (List ℕ)) (i : AreInputs p inputs) → AreScripts p passes content inputs own (run_in p content inputs) (scripted inputs i).0
  are_scripts inputs i = scripts_join inputs i (scripted inputs i).0 (scripted inputs i).1

  pub limits : (inputs : List (List ℕ)) (i : AreInputs p inputs) → limit_of p (scripted inputs i).0 ≤ limit
  limits inputs i =
      let n : ℕ = length p.tasks in
      let s = scripted inputs i in
      let dues : sum_below n (λ k. (s.0 k).due) ≤ sum_below n (λ k. (record_of p k).jobs * (most k).cycles) = sum_le n _ _ (λ k lt. (s.1 k lt).due) in
      added (last_release p.tasks) _ _ limit dues h.limits where
        added : (r x y z : ℕ) → x ≤ y → r + y ≤ z → r + x ≤ z
        added r x y z a b = omega (arith, a, b)

  pub runs : (requests : List Request) → IsTrace p.devices requests → PutWords requests → IsRun p content requests
  runs requests t w = record {
    runnable = record { plant = h.image.plant; room = h.image.within; devices = h.image.each_device; asked = t.each };
    periods = λ k d lt. (h.image.each_task k d lt).period.0;
    apart = h.image.apart;
    zero = h.zero;
    words = w;
  }

pub joined_images_are_sound : JoinedImagesAreSound
joined_images_are_sound rule order passes p content own most promises limit policy h = record {
  good = λ inputs requests n i t w.
      let s = scripted passes p content own most promises limit h inputs i in
      scripts_are_good rule order passes p content inputs requests own (run_in p content inputs) s.0 (promises inputs) n policy (runs passes p content own most promises limit h requests t w)
      (are_scripts passes p content own most promises limit h inputs i) (λ k lt. (s.1 k lt).kept);
  finished = λ inputs requests n i t w le.
      let s = scripted passes p content own most promises limit h inputs i in
      scripts_finish rule order passes p content inputs requests own (run_in p content inputs) s.0 n policy (runs passes p content own most promises limit h requests t w)
      (are_scripts passes p content own most promises limit h inputs i) (omega (arith, limits passes p content own most promises limit h inputs i, le));
}
