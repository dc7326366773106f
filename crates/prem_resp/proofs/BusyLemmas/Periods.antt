-- A busy period ends in time: some cycle later no job of its level that was released before is unfinished.
use Rattle.std.specs.Prelude.{◌&&◌}
use Rattle.std.proofs.Common.{◌≡◌, ℕ, zero, suc, ◌+◌, ◌-◌, ◌*◌, ◌<◌, ◌≤◌, min, refl, ap, ◌∙◌, sym, subst, arith, eqb, true, false, Bool, Some, None, Option, ◌⊎◌, inl, inr, ⊎_elim}
use Rattle.std.proofs.lemmas.Bool.{cases_eq, cases_lt, cases_Bool, eq-eqb, eqb-true, and_parts}
use Rattle.std.proofs.lemmas.Nat.{mul-le}
use Rattle.std.proofs.Math.Nat.{mul-add, mul-one, mul_comm}
use Rattle.prem_sound.specs.Script.Scripts.{sum_below}
use Rattle.prem_resp.specs.Busy.Busy.{releases_in}
use Rattle.prem_resp.specs.Busy.Schedule.{Tasks, released, released_before, Schedule, IsReady, is_task, one_if, served, IsServed, IsSchedule, IsEnough, JobsEndInTime}
use Rattle.prem_resp.proofs.BusyLemmas.Totals.{sum_le, sum_less, all_or_one}
use Rattle.prem_resp.proofs.BusyLemmas.Releases.{released_next, released_grows, none_at_first, released_add, one_in_period, job_released}

both_one : (b : Bool) → one_if (b && true) ≡ one_if b
both_one true = refl
both_one false = refl

is_itself : (k : ℕ) → is_task k (Some k) ≡ true
is_itself k = eq-eqb k k refl

that_task : (k : ℕ) (o : Option ℕ) → is_task k o ≡ true → o ≡ Some k
that_task k None e = absurd (let x : false ≡ true = e in cc)
that_task k (Some j) e = ap Some (sym (eqb-true k j e))

module _ (x : Tasks) (s : Schedule) (h : IsSchedule x s) where
  -- ---- what a task gets in some cycles

  -- of the cycles from one on so many serve a task
  abbrev got : (task from cycles : ℕ) → ℕ
  got k a zero = 0
  got k a (suc n) = got k a n + one_if (is_task k (s.serves (a + n)))

  -- it is what jobs take that have ended, and what the one behind them has had
  got_jobs : (k a n : ℕ) → k < x.count → got k a n + x.cost k * s.ended k a ≤ x.cost k * s.ended k (a + n) + served s k (s.ended k (a + n)) (a + n)
  got_jobs k a zero lt =
      let e : a + 0 ≡ a = omega arith in
      let y : x.cost k * s.ended k (a + 0) ≡ x.cost k * s.ended k a = ap (λ t. x.cost k * s.ended k t) e in
      omega (arith, y)
  got_jobs k a (suc n) lt =
      let t : ℕ = a + n in
      let c : ℕ = x.cost k in
      let e : ℕ = s.ended k t in
      let f : ℕ = s.ended k (suc t) in
      let was : got k a n + c * s.ended k a ≤ c * e + served s k e t = got_jobs k a n lt in
      let one : ℕ = one_if (is_task k (s.serves t)) in
      let here : served s k e (suc t) ≡ served s k e t + one = ap (λ b. served s k e t + one_if (is_task k (s.serves t) && b)) (eq-eqb e e refl)
      ∙ ap (λ n. served s k e t + n) (both_one (is_task k (s.serves t))) in
      subst (λ u. got k a n + one + c * s.ended k a ≤ c * s.ended k u + served s k (s.ended k u) u) (next a n)
      (⊎_elim (λ (same : e ≡ f).
      let z : c * e + served s k e (suc t) ≡ c * f + served s k f (suc t) = ap (λ m. c * m + served s k m (suc t)) same in
      omega (arith, was, here, z))
      (λ (ne : e ≡ f → ⊥).
      let grows : e ≤ f = h.grows k t lt in
      let less : e + 1 ≤ f = below e f grows ne in
      let most : c * (e + 1) ≤ c * f = mul-le c (e + 1) c f (omega arith) less in
      let more : c * (e + 1) ≡ c * e + c * 1 = mul-add c e 1 in
      let unit : c * 1 ≡ c = mul-one c in
      let full : served s k e (suc t) ≤ c = h.most k e (suc t) lt in
      sum (got k a n) one (c * s.ended k a) (c * e) (served s k e t) (served s k e (suc t)) c (c * (e + 1)) (c * 1) (c * f) (served s k f (suc t)) was here full more unit most)
      (cases_eq e f)) where
        next : (a n : ℕ) → suc (a + n) ≡ a + suc n
        next a n = omega arith

        below : (e f : ℕ) → e ≤ f → (e ≡ f → ⊥) → e + 1 ≤ f
        below e f le ne = ⊎_elim (λ (lt : e < f). omega (arith, lt)) (λ (ge : f ≤ e). absurd (ne (omega (arith, le, ge)))) (cases_lt e f)

        sum : (g one a ce v w c d u cf z : ℕ) → g + a ≤ ce + v → w ≡ v + one → w ≤ c → d ≡ ce + u → u ≡ c → d ≤ cf → g + one + a ≤ cf + z
        sum g one a ce v w c d u cf z p q r m n o = omega (arith, p, q, r, m, n, o)

  -- a job that isn't released has had nothing
  nothing_before : (k m t : ℕ) → k < x.count → released_before x k t ≤ m → served s k m t ≡ 0
  nothing_before k m zero lt le = refl
  nothing_before k m (suc t) lt le =
      let some : 1 ≤ x.period k = h.periods k lt in
      let was : served s k m t ≡ 0 = nothing_before k m t lt (let g : released_before x k t ≤ released_before x k (suc t) = released_grows x k t (suc t) some (omega arith) in omega (arith, g, le)) in
      let none : one_if (is_task k (s.serves t) && (eqb (s.ended k t) m)) ≡ 0 =
      ⊎_elim (λ (yes : (is_task k (s.serves t) && (eqb (s.ended k t) m)) ≡ true).
      let parts : (is_task k (s.serves t) ≡ true) × (eqb (s.ended k t) m ≡ true) = and_parts (is_task k (s.serves t)) (eqb (s.ended k t) m) yes in
      let r : IsServed x s k t = h.serves t k (that_task k (s.serves t) parts.0) in
      let ready : s.ended k t < released x k t = r.ready in
      let e : s.ended k t ≡ m = eqb-true (s.ended k t) m parts.1 in
      let next : released_before x k (suc t) ≡ released x k t = released_next x k t some in
      absurd (omega (arith, ready, e, next, le)))
      (λ (no : (is_task k (s.serves t) && (eqb (s.ended k t) m)) ≡ false). ap one_if no)
      (cases_Bool (is_task k (s.serves t) && (eqb (s.ended k t) m))) in
      omega (arith, was, none)

  -- from where no job of a task is unfinished, it gets no more than its jobs take that are released from there on, and less where
  -- one of them is unfinished
  got_less : (k a n : ℕ) → k < x.count → released_before x k a ≤ s.ended k a → s.ended k (a + n) < released_before x k (a + n) → got k a n + 1 ≤ x.cost k * releases_in (x.period k) n
  got_less k a n lt clean late =
      let c : ℕ = x.cost k in
      let last : ℕ = s.ended k (a + n) in
      let first : ℕ = released_before x k a in
      let le : released_before x k (a + n) ≤ first + releases_in (x.period k) n = released_add x k a n (h.periods k lt) in
      let m : c * released_before x k (a + n) ≤ c * (first + releases_in (x.period k) n) = mul-le c (released_before x k (a + n)) c (first + releases_in (x.period k) n) (omega arith) le in
      let d : c * (first + releases_in (x.period k) n) ≡ c * first + c * releases_in (x.period k) n = mul-add c first (releases_in (x.period k) n) in
      let begun : c * first ≤ c * s.ended k a = mul-le c first c (s.ended k a) (omega arith) clean in
      let up : c * (last + 1) ≤ c * released_before x k (a + n) = mul-le c (last + 1) c (released_before x k (a + n)) (omega arith) (omega (arith, late)) in
      let more : c * (last + 1) ≡ c * last + c * 1 = mul-add c last 1 in
      let unit : c * 1 ≡ c = mul-one c in
      let full : served s k last (a + n) < c = h.unfinished k (a + n) lt (omega (arith, late)) in
      sum (got k a n) (c * s.ended k a) (c * first) (c * last) (served s k last (a + n)) c (c * (last + 1)) (c * 1) (c * released_before x k (a + n))
      (c * (first + releases_in (x.period k) n)) (c * releases_in (x.period k) n)
      (got_jobs k a n lt) begun full more unit up m d where
        sum : (g a f e v c d u r q b : ℕ) → g + a ≤ e + v → f ≤ a → v < c → d ≡ e + u → u ≡ c → d ≤ r → r ≤ q → q ≡ f + b → g + 1 ≤ b
        sum g a f e v c d u r q b h1 h2 h3 h4 h5 h6 h7 h8 = omega (arith, h1, h2, h3, h4, h5, h6, h7, h8)

  got_most : (k a n : ℕ) → k < x.count → released_before x k a ≤ s.ended k a → got k a n ≤ x.cost k * releases_in (x.period k) n
  got_most k a n lt clean =
      ⊎_elim (λ (late : s.ended k (a + n) < released_before x k (a + n)). let y : got k a n + 1 ≤ x.cost k * releases_in (x.period k) n = got_less k a n lt clean late in omega (arith, y))
      (λ (done : released_before x k (a + n) ≤ s.ended k (a + n)).
      let c : ℕ = x.cost k in
      let last : ℕ = s.ended k (a + n) in
      let counted : last ≤ released_before x k (a + n) = h.counted k (a + n) lt in
      let le : last ≤ released_before x k a + releases_in (x.period k) n = omega (arith, counted, released_add x k a n (h.periods k lt)) in
      let up : c * last ≤ c * (released_before x k a + releases_in (x.period k) n) = mul-le c last c (released_before x k a + releases_in (x.period k) n) (omega arith) le in
      let d : c * (released_before x k a + releases_in (x.period k) n) ≡ c * released_before x k a + c * releases_in (x.period k) n = mul-add c (released_before x k a) (releases_in (x.period k) n) in
      let begun : c * released_before x k a ≤ c * s.ended k a = mul-le c (released_before x k a) c (s.ended k a) (omega arith) clean in
      sum (got k a n) (c * s.ended k a) (c * released_before x k a) (c * last) (served s k last (a + n)) (c * (released_before x k a + releases_in (x.period k) n)) (c * releases_in (x.period k) n)
      (got_jobs k a n lt) begun (nothing_before k last (a + n) lt done) up d)
      (cases_lt (s.ended k (a + n)) (released_before x k (a + n))) where
        sum : (g a f e v q b : ℕ) → g + a ≤ e + v → f ≤ a → v ≡ 0 → e ≤ q → q ≡ f + b → g ≤ b
        sum g a f e v q b h1 h2 h3 h4 h5 = omega (arith, h1, h2, h3, h4, h5)

  -- ---- a level

  module _ (i length : ℕ) (p : IsEnough x i length) where
    below : (k : ℕ) → k < suc i → k < x.count
    below k lt = omega (arith, lt, p.there)

    -- no job of the level that was released before is unfinished
    abbrev IsClean : ℕ → Type 0
    IsClean t = (k : ℕ) → k < suc i → released_before x k t ≤ s.ended k t

    abbrev IsLate : ℕ → Type 0
    IsLate t = (k : ℕ) × (k < suc i) × (s.ended k t < released_before x k t)

    clean_or_late : (t : ℕ) → IsClean t ⊎ IsLate t
    clean_or_late t = all_or_one (suc i) (λ k. released_before x k t) (λ k. s.ended k t)

    -- where one is unfinished behind a cycle, one is ready in it
    late_ready : (t : ℕ) → (l : IsLate (suc t)) → IsReady x s l.0 t
    late_ready t l =
        let grows : s.ended l.0 t ≤ s.ended l.0 (suc t) = h.grows l.0 t (below l.0 l.1) in
        let next : released_before x l.0 (suc t) ≡ released x l.0 t = released_next x l.0 t (h.periods l.0 (below l.0 l.1)) in
        omega (arith, grows, next, l.2)

    abbrev got_all : (from cycles : ℕ) → ℕ
    got_all a n = sum_below (suc i) (λ k. got k a n)

    -- then each cycle serves the level, but for those at first in which an interval behind it goes on
    level_served : (a n : ℕ) → ((v : ℕ) → v < n → IsLate (suc (a + v))) → n ≤ min n p.blocked + got_all a n
    level_served a zero late = omega arith
    level_served a (suc n) late = more a n late (level_served a n (λ v lt. late v (omega (arith, lt)))) (s.serves (a + n)) refl where
      blocks : (a n : ℕ) → ((v : ℕ) → v < suc n → IsLate (suc (a + v))) → (k : ℕ) → IsServed x s k (a + n) → suc i ≤ k → n < p.blocked
      blocks a n late k r behind =
          ⊎_elim (λ (lt : r.chosen < a). omega (arith, lt, r.lasts, p.behind k (omega (arith, behind)) r.there))
          (λ (le : a ≤ r.chosen).
          let v : ℕ = r.chosen - a in
          let e : a + v ≡ r.chosen = omega (arith, le) in
          let m : IsLate (suc (a + v)) = late v (omega (arith, e, r.before)) in
          absurd (r.first m.0 (omega (arith, m.1, behind)) (subst (IsReady x s m.0) e (late_ready (a + v) m))))
          (cases_lt r.chosen a)

      more : (a n : ℕ) → ((v : ℕ) → v < suc n → IsLate (suc (a + v))) → n ≤ min n p.blocked + got_all a n → (o : Option ℕ) → s.serves (a + n) ≡ o → suc n ≤ min (suc n) p.blocked + got_all a (suc n)
      more a n late was None e =
          let l : IsLate (suc (a + n)) = late n (omega arith) in
          absurd (h.rests (a + n) e l.0 (below l.0 l.1) (late_ready (a + n) l))
      more a n late was (Some k) e =
          let r : IsServed x s k (a + n) = h.serves (a + n) k e in
          let same : got_all a n ≤ got_all a (suc n) = sum_le (suc i) (λ k. got k a n) (λ k. got k a (suc n)) (λ k lt. omega arith) in
          ⊎_elim (λ (lt : k < suc i).
          let here : one_if (is_task k (s.serves (a + n))) ≡ 1 = ap (λ o. one_if (is_task k o)) e ∙ ap one_if (is_itself k) in
          let more : got_all a n + 1 ≤ got_all a (suc n) = sum_less (suc i) k 1 (λ k. got k a n) (λ k. got k a (suc n)) lt (omega (arith, here)) (λ j lj. omega arith) in
          omega (arith, was, more))
          (λ (behind : suc i ≤ k).
          let less : n < p.blocked = blocks a n late k r behind in
          omega (arith, was, same, less))
          (cases_lt k (suc i))

    -- the least cycle is found by looking
    search : (a n : ℕ) → ((t : ℕ) × (a < t) × (t ≤ a + n) × IsClean t) ⊎ ((v : ℕ) → v < n → IsLate (suc (a + v)))
    search a zero = inr (λ v lt. absurd (omega (arith, lt)))
    search a (suc n) =
        ⊎_elim (λ (f : (t : ℕ) × (a < t) × (t ≤ a + n) × IsClean t). inl (f.0, f.1, omega (arith, f.2), f.3))
        (λ (late : (v : ℕ) → v < n → IsLate (suc (a + v))).
        ⊎_elim (λ (clean : IsClean (suc (a + n))). inl (suc (a + n), omega arith, omega arith, clean))
        (λ (l : IsLate (suc (a + n))). inr (λ v lt.
        ⊎_elim (λ (less : v < n). late v less) (λ (ge : n ≤ v). let e : n ≡ v = omega (arith, ge, lt) in subst (λ u. IsLate (suc (a + u))) e l) (cases_lt v n)))
        (clean_or_late (suc (a + n))))
        (search a n)

    -- a busy period ends
    ends : (a : ℕ) → IsClean a → (t : ℕ) × (a < t) × (t ≤ a + length) × IsClean t
    ends a clean =
        ⊎_elim (λ (f : (t : ℕ) × (a < t) × (t ≤ a + length) × IsClean t). f)
        (λ (late : (v : ℕ) → v < length → IsLate (suc (a + v))). absurd (never late))
        (search a length) where
          work : ℕ → ℕ
          work k = releases_in (x.period k) length * x.cost k

          swapped : (k : ℕ) → x.cost k * releases_in (x.period k) length ≡ work k
          swapped k = mul_comm (x.cost k) (releases_in (x.period k) length)

          never : ((v : ℕ) → v < length → IsLate (suc (a + v))) → ⊥
          never late =
              let last : length - 1 < length = omega (arith, p.some) in
              let e : suc (a + (length - 1)) ≡ a + length = omega (arith, p.some) in
              let l : IsLate (a + length) = subst IsLate e (late (length - 1) last) in
              let all : length ≤ min length p.blocked + got_all a length = level_served a length late in
              let less : got_all a length + 1 ≤ sum_below (suc i) work =
              sum_less (suc i) l.0 1 (λ k. got k a length) work l.1
              (let y : got l.0 a length + 1 ≤ x.cost l.0 * releases_in (x.period l.0) length = got_less l.0 a length (below l.0 l.1) (clean l.0 l.1) l.2 in omega (arith, y, swapped l.0))
              (λ k lk. let y : got k a length ≤ x.cost k * releases_in (x.period k) length = got_most k a length (below k lk) (clean k lk) in omega (arith, y, swapped k)) in
              let one : releases_in (x.period i) length ≤ 1 = one_in_period (x.period i) length (h.periods i p.there) p.within in
              let own : work i ≤ 1 * x.cost i = mul-le (releases_in (x.period i) length) (x.cost i) 1 (x.cost i) one (omega arith) in
              omega (arith, all, less, own, p.most)

    clean_at_first : IsClean 0
    clean_at_first k lt = omega (arith, none_at_first x k (h.periods k (below k lt)))

    -- behind each cycle another one ends in time
    next_clean : (a : ℕ) → (t : ℕ) × (a < t) × (t ≤ a + length) × IsClean t
    next_clean zero = ends 0 clean_at_first
    next_clean (suc a) =
        let f : (t : ℕ) × (a < t) × (t ≤ a + length) × IsClean t = next_clean a in
        ⊎_elim (λ (lt : suc a < f.0). (f.0, lt, omega (arith, f.2), f.3))
        (λ (le : f.0 ≤ suc a). let e : f.0 ≡ suc a = omega (arith, le, f.1) in ends (suc a) (subst IsClean e f.3))
        (cases_lt (suc a) f.0)

    still_ended : (k a n : ℕ) → k < x.count → s.ended k a ≤ s.ended k (a + n)
    still_ended k a zero lt = let e : a + 0 ≡ a = omega arith in subst (λ t. s.ended k a ≤ s.ended k t) (sym e) (omega arith)
    still_ended k a (suc n) lt =
        let e : a + suc n ≡ suc (a + n) = omega arith in
        let was : s.ended k a ≤ s.ended k (a + n) = still_ended k a n lt in
        let more : s.ended k (a + n) ≤ s.ended k (suc (a + n)) = h.grows k (a + n) lt in
        subst (λ t. s.ended k a ≤ s.ended k t) (sym e) (omega (arith, was, more))

    pub in_time : (job t : ℕ) → job < x.jobs i → job * x.period i + length ≤ t → job < s.ended i t
    in_time job t lt le =
        let at : ℕ = job * x.period i in
        let f : (u : ℕ) × (at < u) × (u ≤ at + length) × IsClean u = next_clean at in
        let there : job < released_before x i f.0 = job_released x i job f.0 (h.periods i p.there) lt f.1 in
        let clean : released_before x i f.0 ≤ s.ended i f.0 = f.3 i (omega arith) in
        let e : f.0 + (t - f.0) ≡ t = omega (arith, f.2, le) in
        let still : s.ended i f.0 ≤ s.ended i (f.0 + (t - f.0)) = still_ended i f.0 (t - f.0) p.there in
        let same : s.ended i (f.0 + (t - f.0)) ≡ s.ended i t = ap (s.ended i) e in
        omega (arith, there, clean, still, same)

pub jobs_end_in_time : JobsEndInTime
jobs_end_in_time x s i cycles h p = in_time x s h i cycles p
