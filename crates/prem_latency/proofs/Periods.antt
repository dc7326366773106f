-- A busy period of the bus ends in time: some cycle later no request of its level that has come before is left.
use Rattle.std.proofs.Common.{◌≡◌, ℕ, zero, suc, ◌+◌, ◌-◌, ◌*◌, ◌<◌, ◌≤◌, min, refl, ap, ◌∙◌, sym, subst, arith, ◌⊎◌, inl, inr, ⊎_elim}
use Rattle.std.proofs.lemmas.Bool.{cases_lt, eq-eqb}
use Rattle.std.proofs.lemmas.Nat.{mul-le}
use Rattle.std.proofs.Math.Nat.{mul-add, mul-one, mul_comm}
use Rattle.prem_sound.specs.Script.Scripts.{sum_below}
use Rattle.prem_latency.specs.Wait.{requests_in, jobs_in}
use Rattle.prem_latency.specs.Timeline.{Level, IsLevel, Deed, Carries, Behind, Shut, Free, Timeline, is_carried, carried, shut, GoesOn, IsFor, IsTimeline, IsEnough, RequestsEndInTime, QueuesHaveRoom}
use Rattle.prem_resp.specs.Busy.Schedule.{one_if}
use Rattle.prem_sound.proofs.Sums.{sum_le, sum_less, all_or_one}
use Rattle.prem_latency.proofs.Divides.{requests_grow}
use Rattle.prem_latency.proofs.Shuts.{is_of, shut_in, closes_in, shut_most, closes_most}

module _ (x : Level) (s : Timeline) (cycles : ℕ) (l : IsLevel x) (h : IsTimeline x s cycles) where
  -- ---- what a device gets in some cycles

  -- of the cycles from one on so many are for transfers of a device
  abbrev got : (device from cycles : ℕ) → ℕ
  got j a zero = 0
  got j a (suc n) = got j a n + one_if (is_carried j (s.does (a + n)))

  got_is : (j a n : ℕ) → carried s j a + got j a n ≡ carried s j (a + n)
  got_is j a zero = let e : a ≡ a + 0 = omega arith in omega arith ∙ ap (carried s j) e
  got_is j a (suc n) =
      let was : carried s j a + got j a n ≡ carried s j (a + n) = got_is j a n in
      let e : suc (a + n) ≡ a + suc n = omega arith in
      let step : carried s j (suc (a + n)) ≡ carried s j (a + suc n) = ap (carried s j) e in
      omega (arith, was, step)

  -- no request of the level that has come before is left
  abbrev IsClean : ℕ → Type 0
  IsClean t = (j : ℕ) → j < x.devices → s.asked j t ≤ s.served j t

  abbrev IsLate : ℕ → Type 0
  IsLate t = (j : ℕ) × (j < x.devices) × (s.served j t < s.asked j t)

  clean_or_late : (t : ℕ) → IsClean t ⊎ IsLate t
  clean_or_late t = all_or_one x.devices (λ j. s.asked j t) (λ j. s.served j t)

  asked_more : (j a n : ℕ) → j < x.devices → a + n ≤ cycles → s.asked j (a + n) ≤ s.asked j a + requests_in (x.every j) n
  asked_more j a n lt le = let p : s.came j (a + n) ≤ s.came j a + requests_in (x.every j) n = h.apart j a n lt le in
      let q : s.asked j (a + n) + s.came j a ≤ s.asked j a + s.came j (a + n) = h.some j a n lt le in omega (arith, p, q)

  -- from where none of its requests is left, a device gets no more than it asks for from there on, and less where one is left
  got_less : (j a n : ℕ) → j < x.devices → a + n ≤ cycles → s.asked j a ≤ s.served j a → s.served j (a + n) < s.asked j (a + n) → got j a n + 1 ≤ x.cost j * requests_in (x.every j) n
  got_less j a n lt le clean late =
      let c : ℕ = x.cost j in
      let part : carried s j (a + n) < c * s.served j (a + n) + c = h.part j (a + n) lt le late in
      let whole : c * s.served j a ≤ carried s j a = h.whole j a lt (omega (arith, le)) in
      let m : s.asked j (a + n) ≤ s.asked j a + requests_in (x.every j) n = asked_more j a n lt le in
      let up : c * (s.served j (a + n) + 1) ≤ c * (s.served j a + requests_in (x.every j) n) =
      mul-le c (s.served j (a + n) + 1) c (s.served j a + requests_in (x.every j) n) (omega arith) (omega (arith, late, m, clean)) in
      let d : c * (s.served j (a + n) + 1) ≡ c * s.served j (a + n) + c * 1 = mul-add c (s.served j (a + n)) 1 in
      let e : c * (s.served j a + requests_in (x.every j) n) ≡ c * s.served j a + c * requests_in (x.every j) n = mul-add c (s.served j a) (requests_in (x.every j) n) in
      let unit : c * 1 ≡ c = mul-one c in
      sum (got j a n) (carried s j a) (carried s j (a + n)) (c * s.served j (a + n)) c (c * s.served j a) (c * (s.served j (a + n) + 1))
      (c * (s.served j a + requests_in (x.every j) n)) (c * 1) (c * requests_in (x.every j) n) (got_is j a n) part whole up d e unit where
        sum : (g ca cb sb c sa u v w r : ℕ) → ca + g ≡ cb → cb < sb + c → sa ≤ ca → u ≤ v → u ≡ sb + w → v ≡ sa + r → w ≡ c → g + 1 ≤ r
        sum g ca cb sb c sa u v w r h1 h2 h3 h4 h5 h6 h7 = omega (arith, h1, h2, h3, h4, h5, h6, h7)

  got_most : (j a n : ℕ) → j < x.devices → a + n ≤ cycles → s.asked j a ≤ s.served j a → got j a n ≤ x.cost j * requests_in (x.every j) n
  got_most j a n lt le clean =
      ⊎_elim (λ (late : s.served j (a + n) < s.asked j (a + n)). let y : got j a n + 1 ≤ x.cost j * requests_in (x.every j) n = got_less j a n lt le clean late in omega (arith, y))
      (λ (done : s.asked j (a + n) ≤ s.served j (a + n)).
      let c : ℕ = x.cost j in
      let idle : carried s j (a + n) ≤ c * s.asked j (a + n) = h.idle j (a + n) lt le done in
      let whole : c * s.served j a ≤ carried s j a = h.whole j a lt (omega (arith, le)) in
      let m : s.asked j (a + n) ≤ s.asked j a + requests_in (x.every j) n = asked_more j a n lt le in
      let up : c * s.asked j (a + n) ≤ c * (s.served j a + requests_in (x.every j) n) =
      mul-le c (s.asked j (a + n)) c (s.served j a + requests_in (x.every j) n) (omega arith) (omega (arith, m, clean)) in
      let e : c * (s.served j a + requests_in (x.every j) n) ≡ c * s.served j a + c * requests_in (x.every j) n = mul-add c (s.served j a) (requests_in (x.every j) n) in
      sum (got j a n) (carried s j a) (carried s j (a + n)) (c * s.asked j (a + n)) (c * s.served j a)
      (c * (s.served j a + requests_in (x.every j) n)) (c * requests_in (x.every j) n) (got_is j a n) idle whole up e)
      (cases_lt (s.served j (a + n)) (s.asked j (a + n))) where
        sum : (g ca cb ab sa v r : ℕ) → ca + g ≡ cb → cb ≤ ab → sa ≤ ca → ab ≤ v → v ≡ sa + r → g ≤ r
        sum g ca cb ab sa v r h1 h2 h3 h4 h5 = omega (arith, h1, h2, h3, h4, h5)

  -- ---- a busy period

  abbrev got_all : (from cycles : ℕ) → ℕ
  got_all a n = sum_below x.devices (λ j. got j a n)

  abbrev shut_all : (from cycles : ℕ) → ℕ
  shut_all a n = sum_below x.tasks (λ k. closes_in s k a n)

  is_for : (t : ℕ) → t < cycles → IsLate (suc t) → IsFor x s t (s.does t)
  is_for t lt late = h.busy late.0 t late.1 lt late.2

  -- a transfer behind the level lasts so many cycles of it at most
  behind_few : (a n : ℕ) → ((v : ℕ) → v < suc n → IsLate (suc (a + v))) → GoesOn x s (a + n) → n < x.behind
  behind_few a n late g =
      ⊎_elim (λ (lt : g.begun < a). omega (arith, lt, g.lasts))
      (λ (le : a ≤ g.begun).
      let v : ℕ = g.begun - a in
      let e : a + v ≡ g.begun = omega (arith, le) in
      let m : IsLate (suc (a + v)) = late v (omega (arith, e, g.before)) in
      let f : s.asked m.0 (suc (a + v)) ≤ s.served m.0 (suc (a + v)) = subst (λ t. s.asked m.0 (suc t) ≤ s.served m.0 (suc t)) (sym e) (g.free m.0 m.1) in
      absurd (omega (arith, f, m.2)))
      (cases_lt g.begun a)

  -- each cycle of it is for a transfer of the level, closed, or one of those
  module _ (a n : ℕ) (late : (v : ℕ) → v < suc n → IsLate (suc (a + v))) (was : n ≤ min n x.behind + got_all a n + shut_all a n) where
    got_grows : got_all a n ≤ got_all a (suc n)
    got_grows = sum_le x.devices (λ j. got j a n) (λ j. got j a (suc n)) (λ j lt. omega arith)

    shut_grows : shut_all a n ≤ shut_all a (suc n)
    shut_grows = sum_le x.tasks (λ k. closes_in s k a n) (λ k. closes_in s k a (suc n)) (λ k lt. omega arith)

    used_by : (d : Deed) → s.does (a + n) ≡ d → IsFor x s (a + n) d → suc n ≤ min (suc n) x.behind + got_all a (suc n) + shut_all a (suc n)
    used_by (Carries i) e lt =
        let here : one_if (is_carried i (s.does (a + n))) ≡ 1 = ap (λ d. one_if (is_carried i d)) e ∙ ap one_if (eq-eqb i i refl) in
        let more : got_all a n + 1 ≤ got_all a (suc n) = sum_less x.devices i 1 (λ j. got j a n) (λ j. got j a (suc n)) lt (omega (arith, here)) (λ j lj. omega arith) in
        omega (arith, was, more, shut_grows)
    used_by Behind e g =
        let less : n < x.behind = behind_few a n late g in
        omega (arith, was, less, got_grows, shut_grows)
    used_by (Shut k m) e g =
        let here : one_if (is_of k (s.does (a + n))) ≡ 1 = ap (λ d. one_if (is_of k d)) e ∙ ap one_if (eq-eqb k k refl) in
        let more : shut_all a n + 1 ≤ shut_all a (suc n) = sum_less x.tasks k 1 (λ k. closes_in s k a n) (λ k. closes_in s k a (suc n)) g.there (omega (arith, here)) (λ j lj. omega arith) in
        omega (arith, was, more, got_grows)
    used_by Free e g = absurd g

  used : (a n : ℕ) → a + n ≤ cycles → ((v : ℕ) → v < n → IsLate (suc (a + v))) → n ≤ min n x.behind + got_all a n + shut_all a n
  used a zero le late = omega arith
  used a (suc n) le late =
      used_by a n late (used a n (omega (arith, le)) (λ v lt. late v (omega (arith, lt)))) (s.does (a + n)) refl (is_for (a + n) (omega (arith, le)) (late n (omega arith)))

  -- ---- it ends

  -- the least cycle is found by looking
  search : (a n : ℕ) → ((t : ℕ) × (a < t) × (t ≤ a + n) × IsClean t) ⊎ ((v : ℕ) → v < n → IsLate (suc (a + v)))
  search a zero = inr (λ v lt. absurd (omega (arith, lt)))
  search a (suc n) =
      ⊎_elim (λ (f : (t : ℕ) × (a < t) × (t ≤ a + n) × IsClean t). inl (f.0, f.1, omega (arith, f.2), f.3))
      (λ (late : (v : ℕ) → v < n → IsLate (suc (a + v))).
      ⊎_elim (λ (clean : IsClean (suc (a + n))). inl (suc (a + n), omega arith, omega arith, clean))
      (λ (d : IsLate (suc (a + n))). inr (λ v lt.
      ⊎_elim (λ (less : v < n). late v less) (λ (ge : n ≤ v). let e : n ≡ v = omega (arith, ge, lt) in subst (λ u. IsLate (suc (a + u))) e d) (cases_lt v n)))
      (clean_or_late (suc (a + n))))
      (search a n)

  module _ (wait : ℕ) (p : IsEnough x wait) where
    abbrev asks : ℕ → ℕ
    asks j = requests_in (x.every j) wait * x.cost j

    abbrev closes : ℕ → ℕ
    closes k = jobs_in (x.period k) (x.length k) wait * x.closed k

    shut_most_of : (a k : ℕ) → a + wait ≤ cycles → k < x.tasks → ((v : ℕ) → v < wait → IsLate (suc (a + v))) → closes_in s k a wait ≤ closes k
    shut_most_of a k le lt late =
        closes_most x s k a wait (l.periods k lt) (l.idle k lt) p.some
        (λ v m lv e. subst (IsFor x s (a + v)) e (is_for (a + v) (omega (arith, lv, le)) (late v lv)))
        (λ m. let y : shut s k m a + shut_in s k a m wait ≡ shut s k m (a + wait) = shut_most s k a m wait in
        let z : shut s k m (a + wait) ≤ x.closed k = few_shut k m (a + wait) lt le in omega (arith, y, z)) where
          grows : (k m a n : ℕ) → shut s k m a ≤ shut s k m (a + n)
          grows k m a n = let y : shut s k m a + shut_in s k a m n ≡ shut s k m (a + n) = shut_most s k a m n in omega (arith, y)

          few_shut : (k m t : ℕ) → k < x.tasks → t ≤ cycles → shut s k m t ≤ x.closed k
          few_shut k m t lt le =
              let e : t + (cycles - t) ≡ cycles = omega (arith, le) in
              let y : shut s k m t ≤ shut s k m (t + (cycles - t)) = grows k m t (cycles - t) in
              let z : shut s k m (t + (cycles - t)) ≡ shut s k m cycles = ap (shut s k m) e in
              let w : shut s k m cycles ≤ x.closed k = h.shuts k m lt in
              omega (arith, y, z, w)

    never : (a : ℕ) → a + wait ≤ cycles → IsClean a → ((v : ℕ) → v < wait → IsLate (suc (a + v))) → ⊥
    never a le clean late =
        let last : wait - 1 < wait = omega (arith, p.some) in
        let e : suc (a + (wait - 1)) ≡ a + wait = omega (arith, p.some) in
        let d : IsLate (a + wait) = subst IsLate e (late (wait - 1) last) in
        let all : wait ≤ min wait x.behind + got_all a wait + shut_all a wait = used a wait le late in
        let less : got_all a wait + 1 ≤ sum_below x.devices asks =
        sum_less x.devices d.0 1 (λ j. got j a wait) asks d.1
        (let y : got d.0 a wait + 1 ≤ x.cost d.0 * requests_in (x.every d.0) wait = got_less d.0 a wait d.1 le (clean d.0 d.1) d.2 in omega (arith, y, swapped d.0))
        (λ j lj. let y : got j a wait ≤ x.cost j * requests_in (x.every j) wait = got_most j a wait lj le (clean j lj) in omega (arith, y, swapped j)) in
        let shuts : shut_all a wait ≤ sum_below x.tasks closes = sum_le x.tasks (λ k. closes_in s k a wait) closes (λ k lk. shut_most_of a k le lk late) in
        sum wait x.behind (min wait x.behind) (got_all a wait) (shut_all a wait) (sum_below x.devices asks) (sum_below x.tasks closes) all less shuts p.most (omega arith) where
          swapped : (j : ℕ) → x.cost j * requests_in (x.every j) wait ≡ asks j
          swapped j = mul_comm (x.cost j) (requests_in (x.every j) wait)

          sum : (w b m g c d k : ℕ) → w ≤ m + g + c → g + 1 ≤ d → c ≤ k → b + d + k ≤ w → m ≤ b → ⊥
          sum w b m g c d k h1 h2 h3 h4 h5 = omega (arith, h1, h2, h3, h4, h5)

    ends : (a : ℕ) → a + wait ≤ cycles → IsClean a → (t : ℕ) × (a < t) × (t ≤ a + wait) × IsClean t
    ends a le clean =
        ⊎_elim (λ (f : (t : ℕ) × (a < t) × (t ≤ a + wait) × IsClean t). f)
        (λ (late : (v : ℕ) → v < wait → IsLate (suc (a + v))). absurd (never a le clean late))
        (search a wait)

    clean_at_first : IsClean 0
    clean_at_first j lt = let e : s.asked j 0 ≡ 0 = h.none j lt in omega (arith, e)

    -- behind each cycle another one ends in time
    next_clean : (a : ℕ) → a + wait ≤ cycles → (t : ℕ) × (a < t) × (t ≤ a + wait) × IsClean t
    next_clean zero le = ends 0 le clean_at_first
    next_clean (suc a) le =
        let f : (t : ℕ) × (a < t) × (t ≤ a + wait) × IsClean t = next_clean a (omega (arith, le)) in
        ⊎_elim (λ (lt : suc a < f.0). (f.0, lt, omega (arith, f.2), f.3))
        (λ (ge : f.0 ≤ suc a). let e : f.0 ≡ suc a = omega (arith, ge, f.1) in ends (suc a) le (subst IsClean e f.3))
        (cases_lt (suc a) f.0)

    still_served : (j a n : ℕ) → j < x.devices → s.served j a ≤ s.served j (a + n)
    still_served j a zero lt = let e : a + 0 ≡ a = omega arith in subst (λ t. s.served j a ≤ s.served j t) (sym e) (omega arith)
    still_served j a (suc n) lt =
        let e : a + suc n ≡ suc (a + n) = omega arith in
        let was : s.served j a ≤ s.served j (a + n) = still_served j a n lt in
        let more : s.served j (a + n) ≤ s.served j (suc (a + n)) = h.grows j (a + n) lt in
        subst (λ t. s.served j a ≤ s.served j t) (sym e) (omega (arith, was, more))

    still_asked : (j a n : ℕ) → j < x.devices → s.asked j a ≤ s.asked j (a + n)
    still_asked j a zero lt = let e : a + 0 ≡ a = omega arith in subst (λ t. s.asked j a ≤ s.asked j t) (sym e) (omega arith)
    still_asked j a (suc n) lt =
        let e : a + suc n ≡ suc (a + n) = omega arith in
        let was : s.asked j a ≤ s.asked j (a + n) = still_asked j a n lt in
        let more : s.asked j (a + n) ≤ s.asked j (suc (a + n)) = h.keeps j (a + n) lt in
        subst (λ t. s.asked j a ≤ s.asked j t) (sym e) (omega (arith, was, more))

    pub in_time : (j t : ℕ) → j < x.devices → t + wait ≤ cycles → s.asked j (suc t) ≤ s.served j (t + wait)
    in_time j t lt le =
        let f : (u : ℕ) × (t < u) × (u ≤ t + wait) × IsClean u = next_clean t le in
        let e : suc t + (f.0 - suc t) ≡ f.0 = omega (arith, f.1) in
        let g : f.0 + (t + wait - f.0) ≡ t + wait = omega (arith, f.2) in
        let y : s.asked j (suc t) ≤ s.asked j f.0 = subst (λ u. s.asked j (suc t) ≤ s.asked j u) e (still_asked j (suc t) (f.0 - suc t) lt) in
        let z : s.served j f.0 ≤ s.served j (t + wait) = subst (λ u. s.served j f.0 ≤ s.served j u) g (still_served j f.0 (t + wait - f.0) lt) in
        let c : s.asked j f.0 ≤ s.served j f.0 = f.3 j lt in
        omega (arith, y, z, c)

    -- ---- the queue

    -- of those that have come since a cycle, some are left, and one more comes
    few_left : (j u n t : ℕ) → j < x.devices → u + n ≡ t → suc n ≤ wait → t < cycles → s.asked j u ≤ s.served j t → s.came j t < s.came j (suc t) →
        s.asked j t < s.served j t + requests_in (x.every j) wait
    few_left j u n t lt e le within done comes =
        let f : u + suc n ≡ suc t = omega (arith, e) in
        let a : s.came j (suc t) ≤ s.came j u + requests_in (x.every j) (suc n) =
        subst (λ v. s.came j v ≤ s.came j u + requests_in (x.every j) (suc n)) f (h.apart j u (suc n) lt (omega (arith, f, within))) in
        let b : s.asked j t + s.came j u ≤ s.asked j u + s.came j t = subst (λ v. s.asked j v + s.came j u ≤ s.asked j u + s.came j v) e (h.some j u n lt (omega (arith, e, within))) in
        let c : requests_in (x.every j) (suc n) ≤ requests_in (x.every j) wait = requests_grow (x.every j) (suc n) wait (l.distances j lt) le in
        sum (s.asked j t) (s.asked j u) (s.came j u) (s.came j t) (s.came j (suc t)) (s.served j t) (requests_in (x.every j) (suc n)) (requests_in (x.every j) wait) a b c done comes where
          sum : (at au cu ct cs sv r w : ℕ) → cs ≤ cu + r → at + cu ≤ au + ct → r ≤ w → au ≤ sv → ct < cs → at < sv + w
          sum at au cu ct cs sv r w h1 h2 h3 h4 h5 = omega (arith, h1, h2, h3, h4, h5)

    pub has_room : (j t : ℕ) → j < x.devices → t < cycles → s.came j t < s.came j (suc t) → s.asked j t < s.served j t + requests_in (x.every j) wait
    has_room j t lt within comes =
        ⊎_elim (λ (early : t < wait). few_left j 0 t t lt (omega arith) (omega (arith, early)) within (let e : s.asked j 0 ≡ 0 = h.none j lt in omega (arith, e)) comes)
        (λ (late : wait ≤ t).
        let u : ℕ = t - wait in
        let e : u + wait ≡ t = omega (arith, late) in
        let done : s.asked j (suc u) ≤ s.served j t = subst (λ v. s.asked j (suc u) ≤ s.served j v) e (in_time j u lt (omega (arith, e, within))) in
        few_left j (suc u) (wait - 1) t lt (omega (arith, e, p.some)) (omega (arith, p.some)) within done comes)
        (cases_lt t wait)

pub requests_end_in_time : RequestsEndInTime
requests_end_in_time x s cycles wait l h p = in_time x s cycles l h wait p

pub queues_have_room : QueuesHaveRoom
queues_have_room x s cycles wait l h p = has_room x s cycles l h wait p
