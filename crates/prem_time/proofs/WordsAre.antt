-- What words tell is in its range.
use Rattle.std.specs.Prelude.{option_map}
use Rattle.std.proofs.Common.{◌≡◌, ℕ, zero, suc, ◌≤◌, ◌^◌, refl, subst, arith, cond, leb, Bool, true, false, List, [], ◌∷◌, ◌++◌, Option, None, Some}
use Rattle.std.proofs.lemmas.Bool.{leb-true}
use Rattle.prem_line.specs.Numbers.{number_of, up_to}
use Rattle.prem_plant.specs.Label.{is_name}
use Rattle.prem_answer.specs.Tool.{is_file}
use Rattle.prem_time.specs.Words.{AreDistances, Asked, Distance, IsDistance, asked_of, back_of, distance_in, distances_behind, every_in, front_of, is_named, most_cycles, next}
use Rattle.prem_time.specs.Words.{unless_zero, with_distance}

-- ---- a number of cycles

up_to_is : (most : ℕ) (o : Option ℕ) (n : ℕ) → up_to most o ≡ Some n → n ≤ most
up_to_is most None n e = absurd cc
up_to_is most (Some m) n e = by (leb m most) refl e where
  by : (b : Bool) → leb m most ≡ b → cond b (Some m) None ≡ Some n → n ≤ most
  by true le h = let same : m ≡ n = cc in let x : m ≤ most = leb-true m most le in omega (arith, x, same)
  by false le h = absurd cc

unless_is : (o : Option ℕ) (n : ℕ) → unless_zero o ≡ Some n → (1 ≤ n) × (o ≡ Some n)
unless_is None n e = absurd cc
unless_is (Some zero) n e = absurd cc
unless_is (Some (suc m)) n e = let same : suc m ≡ n = cc in (omega (arith, same), e)

every_fits : (word : List ℕ) (n : ℕ) → every_in word ≡ Some n → (1 ≤ n) × (n ≤ 2 ^ 40)
every_fits word n e = let h = unless_is (up_to most_cycles (number_of (back_of word))) n e in (h.0, up_to_is most_cycles (number_of (back_of word)) n h.1)

-- ---- a distance

abbrev told_of : (word : List ℕ) → Option ℕ → Option Distance
told_of word o = option_map (λ n. record { device = front_of word; every = n }) o

told_fits : (word : List ℕ) (o : Option ℕ) (d : Distance) → every_in word ≡ o → told_of word o ≡ Some d → IsDistance d
told_fits word None d is e = absurd cc
told_fits word (Some n) d is e =
    let same : n ≡ d.every = cc in
    let x = every_fits word n is in
    record { some = (let y : 1 ≤ n = x.0 in omega (arith, y, same)); most = (let z : n ≤ 2 ^ 40 = x.1 in omega (arith, z, same)) }

distance_fits : (word : List ℕ) (d : Distance) → distance_in word ≡ Some d → IsDistance d
distance_fits word d e = by (is_name (front_of word)) e where
  by : (b : Bool) → cond b (told_of word (every_in word)) None ≡ Some d → IsDistance d
  by true h = told_fits word (every_in word) d refl h
  by false h = absurd cc

-- ---- all words

one_more : (ds : List Distance) (d : Distance) → AreDistances ds → IsDistance d → AreDistances (ds ++ d ∷ [])
one_more [] d are is = (is, tt)
one_more (x ∷ xs) d are is = (are.0, one_more xs d are.1 is)

with_one : (ds : List Distance) (o : Option Distance) (all : List Distance) → AreDistances ds → ((d : Distance) → o ≡ Some d → IsDistance d) → with_distance ds o ≡ Some all → AreDistances all
with_one ds None all are is e = absurd cc
with_one ds (Some d) all are is e = by (is_named d.device ds) e where
  by : (b : Bool) → cond b None (Some (ds ++ d ∷ [])) ≡ Some all → AreDistances all
  by true h = absurd cc
  by false h = let same : ds ++ d ∷ [] ≡ all = cc in subst (λ (xs : List Distance). AreDistances xs) same (one_more ds d are (is d refl))

pub behind_are : (words : List (List ℕ)) (ds all : List Distance) → AreDistances ds → distances_behind words ds ≡ Some all → AreDistances all
behind_are [] ds all are e = let same : ds ≡ all = cc in subst (λ (xs : List Distance). AreDistances xs) same are
behind_are (word ∷ words) ds all are e = by (with_distance ds (distance_in word)) refl (λ more some h. behind_are words more all some h) e where
  by : (o : Option (List Distance)) → with_distance ds (distance_in word) ≡ o → ((more : List Distance) → AreDistances more → distances_behind words more ≡ Some all → AreDistances all) →
      next o (λ more. distances_behind words more) ≡ Some all → AreDistances all
  by None is rest h = absurd cc
  by (Some more) is rest h = rest more (with_one ds (distance_in word) more are (λ d. distance_fits word d) is) h

abbrev asked_with : (word : List ℕ) → Option (List Distance) → Option Asked
asked_with word o = option_map (λ ds. record { set = word; distances = ds }) o

all_are : (word : List ℕ) (words : List (List ℕ)) (o : Option (List Distance)) (asked : Asked) → distances_behind words [] ≡ o → asked_with word o ≡ Some asked → AreDistances asked.distances
all_are word words None asked is e = absurd cc
all_are word words (Some ds) asked is e = let same : ds ≡ asked.distances = cc in subst (λ (xs : List Distance). AreDistances xs) same (behind_are words [] ds tt is)

pub asked_are : (words : List (List ℕ)) (asked : Asked) → asked_of words ≡ Some asked → AreDistances asked.distances
asked_are [] asked e = absurd cc
asked_are (word ∷ words) asked e = by (is_file word) e where
  by : (b : Bool) → cond b (asked_with word (distances_behind words [])) None ≡ Some asked → AreDistances asked.distances
  by true h = all_are word words (distances_behind words []) asked refl h
  by false h = absurd cc
