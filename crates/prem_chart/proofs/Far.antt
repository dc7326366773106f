-- Requests that don't stray keep the distances that words tell.
use Rattle.std.specs.Prelude.{◌&&◌}
use Rattle.std.specs.List.{AllByRecursion}
use Rattle.std.proofs.Common.{◌≡◌, ◌==◌, ℕ, zero, suc, ◌+◌, ◌<◌, ◌≤◌, refl, sym, subst, arith, cond, leb, Bool, true, false, List, [], ◌∷◌, length, Option, None, Some, slice_get}
use Rattle.std.proofs.lemmas.Bool.{leb-true}
use Rattle.std.proofs.lemmas.Bool.Decides.{nat_tests}
use Rattle.std.proofs.lemmas.List.Elements.{All-from_recursion}
use Rattle.prem_plant.specs.declared.plant.Device.{Device}
use Rattle.prem_gate.specs.declared.request.Request.{Request}
use Rattle.prem_sound.specs.Serve.Requests.{asked_of}
use Rattle.prem_latency.specs.Requests.{AreDistant}
use Rattle.prem_latency.specs.Sets.{KeepsDistance, distance_at}
use Rattle.prem_time.specs.Words.{Distance}
use Rattle.prem_time.specs.Devices.{distances_of, every_of}
use Rattle.prem_time.proofs.NamedDevices.{mapped_there}
use Rattle.prem_chart.specs.Keeping.{are_far, stray_from}

both_true : (a b : Bool) → (a && b) ≡ true → (a ≡ true) × (b ≡ true)
both_true true b e = (refl, e)
both_true false b e = absurd cc

-- ---- those of one device

-- behind a request in the cycle `last`, and behind each other
record AreBehind (every last : ℕ) (rs : List Request) : Type 0 where
  later : AllByRecursion (λ (q : Request). last + every ≤ q.cycle) rs
  distant : AreDistant every rs

further : (every last next : ℕ) (rs : List Request) → AllByRecursion (λ (q : Request). next + every ≤ q.cycle) rs → last + every ≤ next → AllByRecursion (λ (q : Request). last + every ≤ q.cycle) rs
further every last next [] h le = tt
further every last next (q ∷ qs) h le = ((let x : next + every ≤ q.cycle = h.0 in omega (arith, x, le)), further every last next qs h.1 le)

one_behind : (every last : ℕ) (r : Request) (rs : List Request) → last + every ≤ r.cycle → AreBehind every r.cycle rs → AreBehind every last (r ∷ rs)
one_behind every last r rs far h = record {
  later = (far, further every last r.cycle rs h.later (omega (arith, far)));
  distant = (All-from_recursion (λ (q : Request). r.cycle + every ≤ q.cycle) rs h.later, h.distant);
}

are_behind : (every j last : ℕ) (rs : List Request) → are_far (Some every) j (Some last) rs ≡ true → AreBehind every last (asked_of j rs)
are_behind every j last [] e = record { later = tt; distant = tt }
are_behind every j last (r ∷ rs) e = by (r.device == j) (are_behind every j r.cycle rs) (are_behind every j last rs) e where
  by : (b : Bool) → (are_far (Some every) j (Some r.cycle) rs ≡ true → AreBehind every r.cycle (asked_of j rs)) →
      (are_far (Some every) j (Some last) rs ≡ true → AreBehind every last (asked_of j rs)) →
      cond b (leb (last + every) r.cycle && are_far (Some every) j (Some r.cycle) rs) (are_far (Some every) j (Some last) rs) ≡ true → AreBehind every last (cond b (r ∷ asked_of j rs) (asked_of j rs))
  by true here skip h =
      let two = both_true (leb (last + every) r.cycle) (are_far (Some every) j (Some r.cycle) rs) h in
      one_behind every last r (asked_of j rs) (leb-true (last + every) r.cycle two.0) (here two.1)
  by false here skip h = skip h

are_distant : (every j : ℕ) (rs : List Request) → are_far (Some every) j None rs ≡ true → AreDistant every (asked_of j rs)
are_distant every j [] e = tt
are_distant every j (r ∷ rs) e = by (r.device == j) (are_distant every j rs) e where
  by : (b : Bool) → (are_far (Some every) j None rs ≡ true → AreDistant every (asked_of j rs)) → cond b (true && are_far (Some every) j (Some r.cycle) rs) (are_far (Some every) j None rs) ≡ true →
      AreDistant every (cond b (r ∷ asked_of j rs) (asked_of j rs))
  by true skip h =
      let rest = are_behind every j r.cycle rs h in
      (All-from_recursion (λ (q : Request). r.cycle + every ≤ q.cycle) (asked_of j rs) rest.later, rest.distant)
  by false skip h = skip h

none_asked : (j : ℕ) (last : Option ℕ) (rs : List Request) → are_far None j last rs ≡ true → asked_of j rs ≡ []
none_asked j last [] e = refl
none_asked j last (r ∷ rs) e = by (r.device == j) (none_asked j last rs) e where
  by : (b : Bool) → (are_far None j last rs ≡ true → asked_of j rs ≡ []) →
      cond b (false && are_far None j (Some r.cycle) rs) (are_far None j last rs) ≡ true → cond b (r ∷ asked_of j rs) (asked_of j rs) ≡ []
  by true skip h = absurd cc
  by false skip h = skip h

keeps_distance : (every : Option ℕ) (j : ℕ) (rs : List Request) → are_far every j None rs ≡ true → KeepsDistance every (asked_of j rs)
keeps_distance None j rs e = none_asked j None rs e
keeps_distance (Some every) j rs e = are_distant every j rs e

-- ---- those of all devices of a set

none_strays : (ds : List Distance) (k : ℕ) (devices : List Device) (rs : List Request) → stray_from ds k devices rs ≡ None → (i : ℕ) (x : Device) → slice_get devices i ≡ Some x →
    are_far (every_of ds x.name) (k + i) None rs ≡ true
none_strays ds k [] rs e i x at = absurd cc
none_strays ds k (y ∷ ys) rs e i x at = by (are_far (every_of ds y.name) k None rs) refl (none_strays ds (k + 1) ys rs) e i at where
  by : (b : Bool) → are_far (every_of ds y.name) k None rs ≡ b →
      (stray_from ds (k + 1) ys rs ≡ None → (i : ℕ) (x : Device) → slice_get ys i ≡ Some x → are_far (every_of ds x.name) (k + 1 + i) None rs ≡ true) →
      cond b (stray_from ds (k + 1) ys rs) (Some y.name) ≡ None → (i : ℕ) → slice_get (y ∷ ys) i ≡ Some x → are_far (every_of ds x.name) (k + i) None rs ≡ true
  by true far more h zero there =
      let same : y ≡ x = cc in
      let here : k ≡ k + 0 = omega arith in
      subst (λ n. are_far (every_of ds x.name) n None rs ≡ true) here (subst (λ (z : Device). are_far (every_of ds z.name) k None rs ≡ true) same far)
  by true far more h (suc i) there =
      let here : k + 1 + i ≡ k + suc i = omega arith in
      subst (λ n. are_far (every_of ds x.name) n None rs ≡ true) here (more h i x there)
  by false far more h i there = absurd cc

-- a device that a set hasn't got
none_there : (ds : List Distance) (devices : List Device) (j : ℕ) → slice_get devices j ≡ None → distance_at (distances_of ds devices) j ≡ None
none_there ds [] j e = refl
none_there ds (x ∷ xs) zero e = absurd cc
none_there ds (x ∷ xs) (suc j) e = none_there ds xs j e

past_all : (devices : List Device) (j : ℕ) → slice_get devices j ≡ None → length devices ≤ j
past_all [] j e = omega arith
past_all (x ∷ xs) zero e = absurd cc
past_all (x ∷ xs) (suc j) e = let h : length xs ≤ j = past_all xs j e in omega (arith, h)

none_behind : (n j : ℕ) (rs : List Request) → AllByRecursion (λ (r : Request). r.device < n) rs → n ≤ j → asked_of j rs ≡ []
none_behind n j [] h le = refl
none_behind n j (r ∷ rs) h le = by (r.device == j) refl (none_behind n j rs h.1 le) where
  by : (b : Bool) → (r.device == j) ≡ b → asked_of j rs ≡ [] → cond b (r ∷ asked_of j rs) (asked_of j rs) ≡ []
  by true e rest = let less : r.device < n = h.0 in absurd (grind (arith, nat_tests))
  by false e rest = rest

pub each_keeps : (ds : List Distance) (devices : List Device) (n : ℕ) (rs : List Request) → stray_from ds 0 devices rs ≡ None →
    AllByRecursion (λ (r : Request). r.device < n) rs → n ≤ length devices → (j : ℕ) →
    KeepsDistance (distance_at (distances_of ds devices) j) (asked_of j rs)
each_keeps ds devices n rs e within le j = by (slice_get devices j) refl where
  by : (o : Option Device) → slice_get devices j ≡ o → KeepsDistance (distance_at (distances_of ds devices) j) (asked_of j rs)
  by None at =
      let past : length devices ≤ j = past_all devices j at in
      subst (λ o. KeepsDistance o (asked_of j rs)) (sym (none_there ds devices j at)) (none_behind n j rs within (omega (arith, le, past)))
  by (Some x) at =
      subst (λ o. KeepsDistance o (asked_of j rs)) (sym (mapped_there (λ (y : Device). every_of ds y.name) devices j x None at))
      (
      let here : 0 + j ≡ j = omega arith in
      keeps_distance (every_of ds x.name) j rs (subst (λ n. are_far (every_of ds x.name) n None rs ≡ true) here (none_strays ds 0 devices rs e j x at))
      )
