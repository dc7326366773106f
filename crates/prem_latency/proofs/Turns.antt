-- Each turn of the search but the first counts a request or a job more than the one before, so there are no more turns than these.
use Rattle.std.specs.Prelude.{All}
use Rattle.std.proofs.Common.{◌≡◌, ℕ, suc, ◌+◌, ◌-◌, ◌*◌, ◌<◌, ◌≤◌, ◌∙◌, refl, ap, sym, subst, arith, List, [], ◌∷◌, take, Some, None, ⊎_elim}
use Rattle.std.proofs.lemmas.Bool.{cases_lt}
use Rattle.std.proofs.lemmas.Nat.{mul-le}
use Rattle.std.proofs.lemmas.List.Elements.{All-take}
use Rattle.prem_latency.specs.Wait.{Asking, Closing, IsAsking, IsClosing, requests_in, jobs_in, transfers_in, closed_in, rest_behind, demand}
use Rattle.prem_latency.specs.Turns.{requests_all, jobs_all, counted, first_cycles, cycles_behind, EndsWith}
use Rattle.prem_latency.specs.Timeline.{no_asking, no_closing}
use Rattle.prem_latency.proofs.Divides.{requests_grow}
use Rattle.prem_latency.proofs.Found.{jobs_grow}

requests_all_grow : (xs : List Asking) (a b : ℕ) → All IsAsking xs → a ≤ b → requests_all a xs ≤ requests_all b xs
requests_all_grow [] a b all le = omega arith
requests_all_grow (x ∷ xs) a b all le =
    let here : requests_in x.every a ≤ requests_in x.every b = requests_grow x.every a b (all 0 no_asking (omega arith)).every le in
    let more : requests_all a xs ≤ requests_all b xs = requests_all_grow xs a b (λ k d lt. all (suc k) d (omega (arith, lt))) le in
    omega (arith, here, more)

jobs_all_grow : (xs : List Closing) (a b : ℕ) → All IsClosing xs → a ≤ b → jobs_all a xs ≤ jobs_all b xs
jobs_all_grow [] a b all le = omega arith
jobs_all_grow (x ∷ xs) a b all le =
    let here : jobs_in x.period x.length a ≤ jobs_in x.period x.length b = jobs_grow x.period x.length a b (all 0 no_closing (omega arith)).period le in
    let more : jobs_all a xs ≤ jobs_all b xs = jobs_all_grow xs a b (λ k d lt. all (suc k) d (omega (arith, lt))) le in
    omega (arith, here, more)

-- where no more requests come, they ask for no more
same_requests : (xs : List Asking) (a b : ℕ) → All IsAsking xs → a ≤ b → requests_all b xs ≤ requests_all a xs → transfers_in b xs ≤ transfers_in a xs
same_requests [] a b all le h = omega arith
same_requests (x ∷ xs) a b all le h =
    let rest : All IsAsking xs = λ k d lt. all (suc k) d (omega (arith, lt)) in
    let one : requests_in x.every a ≤ requests_in x.every b = requests_grow x.every a b (all 0 no_asking (omega arith)).every le in
    let others : requests_all a xs ≤ requests_all b xs = requests_all_grow xs a b rest le in
    let here : requests_in x.every b * x.cost ≤ requests_in x.every a * x.cost = mul-le (requests_in x.every b) x.cost (requests_in x.every a) x.cost (omega (arith, h, others)) (omega arith) in
    let more : transfers_in b xs ≤ transfers_in a xs = same_requests xs a b rest le (omega (arith, h, one)) in
    omega (arith, here, more)

same_jobs : (xs : List Closing) (a b : ℕ) → All IsClosing xs → a ≤ b → jobs_all b xs ≤ jobs_all a xs → closed_in b xs ≤ closed_in a xs
same_jobs [] a b all le h = omega arith
same_jobs (x ∷ xs) a b all le h =
    let rest : All IsClosing xs = λ k d lt. all (suc k) d (omega (arith, lt)) in
    let one : jobs_in x.period x.length a ≤ jobs_in x.period x.length b = jobs_grow x.period x.length a b (all 0 no_closing (omega arith)).period le in
    let others : jobs_all a xs ≤ jobs_all b xs = jobs_all_grow xs a b rest le in
    let here : jobs_in x.period x.length b * x.closed ≤ jobs_in x.period x.length a * x.closed =
    mul-le (jobs_in x.period x.length b) x.closed (jobs_in x.period x.length a) x.closed (omega (arith, h, others)) (omega arith) in
    let more : closed_in b xs ≤ closed_in a xs = same_jobs xs a b rest le (omega (arith, h, one)) in
    omega (arith, here, more)

module _ (devices : List Asking) (tasks : List Closing) (d : ℕ) where
  -- behind so many turns from the first cycles on, all cycles from these on in which the bus has more to do count so many more
  pub record Turned (first cycles turns : ℕ) : Type 0 where
    pub few : turns + counted devices tasks d first ≤ 1 + counted devices tasks d cycles
    pub further : (other : ℕ) → cycles ≤ other → cycles < demand devices tasks d other → turns + counted devices tasks d first ≤ counted devices tasks d other

module _ (devices : List Asking) (tasks : List Closing) (d : ℕ) (asks : All IsAsking devices) (closes : All IsClosing tasks) where
  abbrev ours : List Asking
  ours = take (d + 1) devices

  all_ask : All IsAsking ours
  all_ask = All-take IsAsking (d + 1) devices asks

  pub counted_grows : (a b : ℕ) → a ≤ b → counted devices tasks d a ≤ counted devices tasks d b
  counted_grows a b le =
      let x : requests_all a ours ≤ requests_all b ours = requests_all_grow ours a b all_ask le in
      let y : jobs_all a tasks ≤ jobs_all b tasks = jobs_all_grow tasks a b closes le in
      omega (arith, x, y)

  -- where the bus has more to do, more requests or jobs are counted
  pub counted_more : (a b : ℕ) → a ≤ b → demand devices tasks d a < demand devices tasks d b → counted devices tasks d a < counted devices tasks d b
  counted_more a b le lt = ⊎_elim (λ (h : counted devices tasks d a < counted devices tasks d b). h)
      (λ (h : counted devices tasks d b ≤ counted devices tasks d a). absurd (same h)) (cases_lt (counted devices tasks d a) (counted devices tasks d b)) where
        same : counted devices tasks d b ≤ counted devices tasks d a → ⊥
        same h =
            let x : requests_all a ours ≤ requests_all b ours = requests_all_grow ours a b all_ask le in
            let y : jobs_all a tasks ≤ jobs_all b tasks = jobs_all_grow tasks a b closes le in
            let u : transfers_in b ours ≤ transfers_in a ours = same_requests ours a b all_ask le (omega (arith, h, y)) in
            let v : closed_in b tasks ≤ closed_in a tasks = same_jobs tasks a b closes le (omega (arith, h, x)) in
            more (rest_behind devices d) (transfers_in a ours) (transfers_in b ours) (closed_in a tasks) (closed_in b tasks) lt u v where
              more : (r a b c d : ℕ) → r + a + c < r + b + d → b ≤ a → d ≤ c → ⊥
              more r a b c d x y z = omega (arith, x, y, z)

  pub turned_first : (first cycles : ℕ) → cycles ≡ first → Turned devices tasks d first cycles 0
  turned_first first cycles e = record {
    few = let x : counted devices tasks d first ≤ counted devices tasks d cycles = counted_grows first cycles (omega (arith, e)) in omega (arith, x);
    further = λ other le lt. let x : counted devices tasks d first ≤ counted devices tasks d other = counted_grows first other (omega (arith, e, le)) in omega (arith, x);
  }

  pub turned_next : (first cycles turns next : ℕ) → next ≡ demand devices tasks d cycles → cycles < next → Turned devices tasks d first cycles turns → Turned devices tasks d first next (turns + 1)
  turned_next first cycles turns next e lt x = record {
    few = let a : counted devices tasks d cycles ≤ counted devices tasks d next = counted_grows cycles next (omega (arith, lt)) in omega (arith, a, so_many);
    further = λ other le more. let b : counted devices tasks d cycles < counted devices tasks d other =
        counted_more cycles other (omega (arith, lt, le)) (omega (arith, e, more)) in omega (arith, b, so_many);
  } where
    so_many : turns + counted devices tasks d first ≤ counted devices tasks d cycles
    so_many = x.further cycles (omega arith) (omega (arith, e, lt))

  -- and no more turns than are counted up to the most
  pub turned_within : (first cycles turns most : ℕ) → cycles ≤ most → Turned devices tasks d first cycles turns → turns + 1 ≤ 2 + counted devices tasks d most - counted devices tasks d first
  turned_within first cycles turns most le x =
      let a : counted devices tasks d cycles ≤ counted devices tasks d most = counted_grows cycles most le in
      let b : turns + counted devices tasks d first ≤ 1 + counted devices tasks d cycles = x.few in
      omega (arith, a, b)

-- ---- which turns it takes

module _ (devices : List Asking) (tasks : List Closing) (d : ℕ) where
  pub before_all : (cycles : ℕ) → cycles ≡ first_cycles devices tasks d → cycles ≡ cycles_behind devices tasks d 0
  unfolding cycles_behind
  before_all cycles e = e

  pub behind_next : (cycles turns next : ℕ) → next ≡ demand devices tasks d cycles → cycles ≡ cycles_behind devices tasks d turns →
      next ≡ cycles_behind devices tasks d (turns + 1)
  unfolding cycles_behind
  behind_next cycles turns next e at =
      let one : suc turns ≡ turns + 1 = omega arith in
      e ∙ ap (demand devices tasks d) at ∙ ap (cycles_behind devices tasks d) one

  -- each turn so far began with fewer cycles than those behind them, and with no more than the most
  pub record Begun (most cycles turns : ℕ) : Type 0 where
    pub fewer : (m : ℕ) → m < turns → cycles_behind devices tasks d m < cycles
    pub within : (m : ℕ) → m < turns → cycles_behind devices tasks d m ≤ most

  pub begun_none : (most cycles : ℕ) → Begun most cycles 0
  begun_none most cycles = record { fewer = λ m lt. absurd (omega (arith, lt)); within = λ m lt. absurd (omega (arith, lt)) }

  pub begun_next : (most cycles turns next : ℕ) → cycles ≡ cycles_behind devices tasks d turns → cycles ≤ most → cycles < next → Begun most cycles turns → Begun most next (turns + 1)
  begun_next most cycles turns next at le lt h =
      record {
        fewer = λ m before.
            ⊎_elim (λ (less : m < turns). let x : cycles_behind devices tasks d m < cycles = h.fewer m less in omega (arith, x, lt))
            (λ (last : turns ≤ m). let e : m ≡ turns = omega (arith, last, before) in subst (λ n. n < next) (at ∙ ap (cycles_behind devices tasks d) (sym e)) lt)
            (cases_lt m turns);
        within = λ m before.
            ⊎_elim (λ (less : m < turns). h.within m less)
            (λ (last : turns ≤ m). let e : m ≡ turns = omega (arith, last, before) in subst (λ n. n ≤ most) (at ∙ ap (cycles_behind devices tasks d) (sym e)) le)
            (cases_lt m turns);
      }

  pub ends_found : (cycles turns most : ℕ) → cycles ≡ cycles_behind devices tasks d turns → Begun most cycles turns → EndsWith devices tasks d most (turns + 1) (Some cycles)
  ends_found cycles turns most at h =
      let one : turns ≡ turns + 1 - 1 = omega arith in
      record { some = omega arith; last = at ∙ ap (cycles_behind devices tasks d) one; fewer = λ m lt. h.fewer m (omega (arith, lt)) }

  pub ends_past : (cycles turns most : ℕ) → most < cycles → cycles ≡ cycles_behind devices tasks d turns → Begun most cycles turns → EndsWith devices tasks d most turns None
  ends_past cycles turns most past at h = record { more = subst (λ n. most < n) at past; within = h.within }
