-- No busy period is shorter than what the tasks before leave time for.
use Rattle.std.specs.Prelude.{All}
use Rattle.std.proofs.Common.{◌≡◌, ℕ, suc, ◌+◌, ◌-◌, ◌*◌, ◌/◌, ◌^◌, ◌≤◌, ◌<◌, nat_lt, Bool, true, false, Option, Some, None, refl, ap, ◌∙◌, sym, subst, arith, List, [], ◌∷◌, take}
use Rattle.std.proofs.Common.{length, if◌then◌else◌}
use Rattle.std.proofs.Math.Nat.{mul-add, mul_comm, div-mul-le_self, div-le_of_le-mul}
use Rattle.std.proofs.lemmas.Nat.{mul-le}
use Rattle.std.proofs.lemmas.Bool.{ltb-true, ltb-false}
use Rattle.std.proofs.lemmas.List.Elements.{All-take}
use Rattle.prem_resp.specs.declared.busy.load.Load.{Load}
use Rattle.prem_resp.specs.declared.busy.length.Busy.TheVariants.{Past}
use Rattle.prem_resp.specs.Busy.Busy.{IsLoad, no_load, load_at, releases_in, interference, blocking, demand, utilisation, earliest, IsBalanced}
use Rattle.prem_resp.specs.Busy.Found.{IsEarly, IsFound}
use Rattle.prem_resp.proofs.BusyLemmas.Releases.{in_periods}

-- a task's jobs have at least its part of the cycles
part : (x : Load) (cycles : ℕ) → IsLoad x → cycles * (x.cost * 2 ^ 64 / x.period) ≤ releases_in x.period cycles * x.cost * 2 ^ 64
part x cycles good =
    let u : ℕ = x.cost * 2 ^ 64 / x.period in
    let r : ℕ = releases_in x.period cycles in
    let a : cycles * u ≤ r * x.period * u = mul-le cycles u (r * x.period) u (in_periods x.period cycles good.period) (omega arith) in
    let b : r * (u * x.period) ≤ r * (x.cost * 2 ^ 64) = mul-le r (u * x.period) r (x.cost * 2 ^ 64) (omega arith) (div-mul-le_self (x.cost * 2 ^ 64) x.period) in
    let e : r * x.period * u ≡ r * (u * x.period) = turned r x.period u in
    let f : r * (x.cost * 2 ^ 64) ≡ r * x.cost * 2 ^ 64 = grouped r x.cost in
    omega (arith, a, b, e, f) where
      turned : (r p u : ℕ) → r * p * u ≡ r * (u * p)
      turned r p u = grind arith

      grouped : (r c : ℕ) → r * (c * 2 ^ 64) ≡ r * c * 2 ^ 64
      grouped r c = grind arith

pub covered : (xs : List Load) (cycles : ℕ) → All IsLoad xs → cycles * utilisation xs ≤ interference cycles xs * 2 ^ 64
covered [] cycles all = omega arith
covered (x ∷ xs) cycles all =
    let here : cycles * (x.cost * 2 ^ 64 / x.period) ≤ releases_in x.period cycles * x.cost * 2 ^ 64 = part x cycles (all 0 no_load (omega arith)) in
    let more : cycles * utilisation xs ≤ interference cycles xs * 2 ^ 64 = covered xs cycles (λ k d lt. all (suc k) d (omega (arith, lt))) in
    let e : cycles * (x.cost * 2 ^ 64 / x.period + utilisation xs) ≡ cycles * (x.cost * 2 ^ 64 / x.period) + cycles * utilisation xs = mul-add cycles (x.cost * 2 ^ 64 / x.period) (utilisation xs) in
    omega (arith, here, more, e)

-- ---- at one task, with the work that it and an interval behind it have

-- what is known of it
abbrev IsEarliest : List Load → ℕ → Option ℕ → Type 0
IsEarliest loads i None = (other : ℕ) → IsBalanced loads i other → ⊥
IsEarliest loads i (Some first) = (first ≤ demand loads i first) × IsEarly loads i first

module _ (loads : List Load) (i : ℕ) (all : All IsLoad loads) (there : i < length loads) where
  one_of : 1 ≤ (load_at loads i).cost
  one_of = (all i no_load there).cost

  abbrev used : ℕ
  used = utilisation (take i loads)

  abbrev work : ℕ
  work = blocking loads i + (load_at loads i).cost

  before : (cycles : ℕ) → cycles * used ≤ interference cycles (take i loads) * 2 ^ 64
  before cycles = covered (take i loads) cycles (All-take IsLoad i loads all)

  shared : (cycles : ℕ) → used ≤ 2 ^ 64 → cycles * (2 ^ 64 - used) + cycles * used ≡ cycles * 2 ^ 64
  shared cycles le =
      let e : 2 ^ 64 - used + used ≡ 2 ^ 64 = omega (arith, le) in
      sym (mul-add cycles (2 ^ 64 - used) used) ∙ ap (λ n. cycles * n) e

  -- what a busy period leaves has room for the work
  roomy : (other : ℕ) → used ≤ 2 ^ 64 → IsBalanced loads i other → work * 2 ^ 64 ≤ (2 ^ 64 - used) * other
  roomy other le balanced = sum (other * (2 ^ 64 - used)) ((2 ^ 64 - used) * other) (other * used) (interference other (take i loads)) other work
      (shared other le) (before other) balanced.1 (mul_comm other (2 ^ 64 - used)) where
        sum : (a b c i o w : ℕ) → a + c ≡ o * 2 ^ 64 → c ≤ i * 2 ^ 64 → o ≡ w + i → a ≡ b → w * 2 ^ 64 ≤ b
        sum a b c i o w h1 h2 h3 h4 = omega (arith, h1, h2, h3, h4)

  -- where the tasks before leave nothing, no busy period ends
  endless : (other : ℕ) → 2 ^ 64 ≤ used → IsBalanced loads i other → ⊥
  endless other le balanced =
      let some : 1 ≤ (load_at loads i).cost = one_of in
      let more : other * 2 ^ 64 ≤ other * used = mul-le other (2 ^ 64) other used (omega arith) le in
      sum (other * used) (interference other (take i loads)) other (blocking loads i) (load_at loads i).cost more (before other) balanced.1 some where
        sum : (c i o b w : ℕ) → o * 2 ^ 64 ≤ c → c ≤ i * 2 ^ 64 → o ≡ b + w + i → 1 ≤ w → ⊥
        sum c i o b w h1 h2 h3 h4 = omega (arith, h1, h2, h3, h4)

  least : (other : ℕ) → used < 2 ^ 64 → IsBalanced loads i other → work * 2 ^ 64 / (2 ^ 64 - used) ≤ other
  least other lt balanced = div-le_of_le-mul (2 ^ 64 - used) (roomy other (omega (arith, lt)) balanced)

  grows : used < 2 ^ 64 → work * 2 ^ 64 / (2 ^ 64 - used) ≤ demand loads i (work * 2 ^ 64 / (2 ^ 64 - used))
  grows lt =
      let first : ℕ = work * 2 ^ 64 / (2 ^ 64 - used) in
      sum (first * (2 ^ 64 - used)) (first * used) (interference first (take i loads)) first work (demand loads i first)
      (shared first (omega (arith, lt))) (before first) (div-mul-le_self (work * 2 ^ 64) (2 ^ 64 - used)) refl where
        sum : (a c i o w d : ℕ) → a + c ≡ o * 2 ^ 64 → c ≤ i * 2 ^ 64 → a ≤ w * 2 ^ 64 → d ≡ w + i → o ≤ d
        sum a c i o w d h1 h2 h3 h4 = omega (arith, h1, h2, h3, h4)

  pub found : IsEarliest loads i (earliest loads i)
  found = by (nat_lt used (2 ^ 64)) refl where
    by : (b : Bool) → nat_lt used (2 ^ 64) ≡ b → IsEarliest loads i (if b then Some (work * 2 ^ 64 / (2 ^ 64 - used)) else None)
    by true e = (grows (ltb-true used (2 ^ 64) e), λ other balanced. least other (ltb-true used (2 ^ 64) e) balanced)
    by false e = λ other balanced. endless other (ltb-false used (2 ^ 64) e) balanced

-- ---- the same of what is found

pub never : (loads : List Load) (i : ℕ) → All IsLoad loads → i < length loads → None ≡ earliest loads i → IsFound loads i Past
never loads i all lt is other balanced le = subst (IsEarliest loads i) (sym is) (found loads i all lt) other balanced

pub late : (loads : List Load) (i first : ℕ) → All IsLoad loads → i < length loads → Some first ≡ earliest loads i → (load_at loads i).period < first → IsFound loads i Past
late loads i first all lt is past other balanced le =
    let early : first ≤ other = (subst (IsEarliest loads i) (sym is) (found loads i all lt)).1 other balanced in
    omega (arith, early, le, past)

pub grows_there : (loads : List Load) (i first : ℕ) → All IsLoad loads → i < length loads → Some first ≡ earliest loads i → first ≤ demand loads i first
grows_there loads i first all lt is = (subst (IsEarliest loads i) (sym is) (found loads i all lt)).0

pub early_there : (loads : List Load) (i first : ℕ) → All IsLoad loads → i < length loads → Some first ≡ earliest loads i → IsEarly loads i first
early_there loads i first all lt is = (subst (IsEarliest loads i) (sym is) (found loads i all lt)).1
