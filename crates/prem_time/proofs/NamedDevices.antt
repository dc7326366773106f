-- The devices that words name are those of the set, with the distances that the words tell.
use Rattle.std.specs.Prelude.{slice_index_or}
use Rattle.std.specs.Str.{bytes_eq}
use Rattle.std.proofs.Common.{◌≡◌, ℕ, zero, suc, ◌+◌, ◌≤◌, ◌^◌, refl, ap, ◌∙◌, subst, arith, cond, Bool, true, false, List, [], ◌∷◌, map, Option, None, Some, slice_get}
use Rattle.prem_plant.specs.declared.plant.Device.{Device}
use Rattle.prem_latency.specs.Sets.{distance_at}
use Rattle.prem_latency.specs.Sets as waits
use Rattle.prem_time.specs.declared.devices.Named.{Named}
use Rattle.prem_time.specs.Words.{AreDistances, Distance}
use Rattle.prem_time.specs.Devices.{device_at, distances_of, every_of, named_before, named_from, named_in, no_device}

-- ---- what is told of a name

pub every_is : (ds : List Distance) (name : List ℕ) (every : ℕ) → AreDistances ds → every_of ds name ≡ Some every → (1 ≤ every) × (every ≤ 2 ^ 40)
every_is [] name every are e = absurd cc
every_is (d ∷ ds) name every are e = by (bytes_eq d.device name) (λ h. every_is ds name every are.1 h) e where
  by : (b : Bool) → (every_of ds name ≡ Some every → (1 ≤ every) × (every ≤ 2 ^ 40)) → cond b (Some d.every) (every_of ds name) ≡ Some every → (1 ≤ every) × (every ≤ 2 ^ 40)
  by true more h = let same : d.every ≡ every = cc in let x : 1 ≤ d.every = are.0.some in let y : d.every ≤ 2 ^ 40 = are.0.most in (omega (arith, x, same), omega (arith, y, same))
  by false more h = more h

-- ---- a device that is named

-- a device of a set, and what is told of it
pub record IsDeviceOf (ds : List Distance) (devices : List Device) (number every : ℕ) : Type 0 where
  pub device : Device
  pub there : slice_get devices number ≡ Some device
  pub told : every_of ds device.name ≡ Some every

-- number i of those that are named, from number d on
record IsDeviceFrom (ds : List Distance) (devices : List Device) (d : ℕ) (n : Named) : Type 0 where
  at : ℕ
  number_is : n.number ≡ d + at
  is : IsDeviceOf ds devices at n.every

abbrev one_named : (number every : ℕ) → Named
one_named number every = record { number = number; every = every }

behind_one : (ds : List Distance) (x : Device) (xs : List Device) (d : ℕ) (n : Named) → IsDeviceFrom ds xs (d + 1) n → IsDeviceFrom ds (x ∷ xs) d n
behind_one ds x xs d n h = record {
  at = suc h.at;
  number_is = (let e : n.number ≡ d + 1 + h.at = h.number_is in omega (arith, e));
  is = record { device = h.is.device; there = h.is.there; told = h.is.told };
}

device_from : (ds : List Distance) (xs : List Device) (d i : ℕ) (n : Named) → slice_get (named_from ds d xs) i ≡ Some n → IsDeviceFrom ds xs d n
device_from ds [] d i n e = absurd cc
device_from ds (x ∷ xs) d i n e = by (every_of ds x.name) refl (λ j h. behind_one ds x xs d n (device_from ds xs (d + 1) j n h)) i e where
  by : (o : Option ℕ) → every_of ds x.name ≡ o → ((j : ℕ) → slice_get (named_from ds (d + 1) xs) j ≡ Some n → IsDeviceFrom ds (x ∷ xs) d n) →
      (i : ℕ) → slice_get (named_before d o (named_from ds (d + 1) xs)) i ≡ Some n →
      IsDeviceFrom ds (x ∷ xs) d n
  by None is more i h = more i h
  by (Some every) is more zero h =
      let first : one_named d every ≡ n = cc in
      subst (λ (m : Named). IsDeviceFrom ds (x ∷ xs) d m) first (record { at = 0; number_is = omega arith; is = record { device = x; there = refl; told = is } })
  by (Some every) is more (suc i) h = more i h

pub device_of_named : (ds : List Distance) (devices : List Device) (i : ℕ) (n : Named) → slice_get (named_in ds devices) i ≡ Some n → IsDeviceOf ds devices n.number n.every
device_of_named ds devices i n e =
    let h = device_from ds devices 0 i n e in
    let same : h.at ≡ n.number = (let x : n.number ≡ 0 + h.at = h.number_is in omega (arith, x)) in
    subst (λ j. IsDeviceOf ds devices j n.every) same h.is

-- ---- by its number

pub mapped_there : {A B : Type 0} (f : A → B) (xs : List A) (j : ℕ) (x : A) (z : B) → slice_get xs j ≡ Some x → slice_index_or (map f xs) j z ≡ f x
mapped_there f [] j x z e = absurd cc
mapped_there f (y ∷ ys) zero x z e = let same : y ≡ x = cc in ap f same
mapped_there f (y ∷ ys) (suc j) x z e = mapped_there f ys j x z e

pub item_there : {A : Type 0} (xs : List A) (j : ℕ) (x z : A) → slice_get xs j ≡ Some x → slice_index_or xs j z ≡ x
item_there [] j x z e = absurd cc
item_there (y ∷ ys) zero x z e = cc
item_there (y ∷ ys) (suc j) x z e = item_there ys j x z e

pub distance_is : (ds : List Distance) (devices : List Device) (number every : ℕ) → IsDeviceOf ds devices number every → distance_at (distances_of ds devices) number ≡ Some every
distance_is ds devices number every h = mapped_there (λ (x : Device). every_of ds x.name) devices number h.device None h.there ∙ h.told

pub device_is : (ds : List Distance) (devices : List Device) (number every : ℕ) (h : IsDeviceOf ds devices number every) → device_at devices number ≡ h.device
device_is ds devices number every h = item_there devices number h.device no_device h.there

-- ---- all distances

pub are_distances : (ds : List Distance) (devices : List Device) → AreDistances ds → waits.AreDistances (distances_of ds devices)
are_distances ds [] are j every e = absurd cc
are_distances ds (x ∷ xs) are zero every e = (every_is ds x.name every are e).0
are_distances ds (x ∷ xs) are (suc j) every e = are_distances ds xs are j every e
