-- A reader finds in the text of a dump the values that it was made of.
use Rattle.std.specs.Prelude.{◌*◌, ◌^◌, ◌&&◌, nat_le, codes, decimal, option_map, slice_get}
use Rattle.std.specs.List.{AllByRecursion}
use Rattle.std.specs.Str.{bytes_eq}
use Rattle.std.specs.Str.Parse.{AllDigits, IsNumeral, digits_value}
use Rattle.std.specs.Fmt.{digits}
use Rattle.std.specs.Cmp.Lexicographic.{bytes_decides}
use Rattle.std.proofs.Common.{◌≡◌, ◌≤◌, ◌<◌, ◌+◌, ◌==◌, ℕ, zero, suc, List, [], ◌∷◌, ◌++◌, Bool, true, false, cond, Option, Some, None, length, refl, ap, ap₂, sym, ◌∙◌, subst, arith, append_assoc, append-nil}
use Rattle.std.proofs.lemmas.Bool.Decides.{nat_tests}
use Rattle.std.proofs.lemmas.Grind.{flat_map-append}
use Rattle.std.proofs.lemmas.Option.{slice_get_within}
use Rattle.std.proofs.lemmas.Fmt.{decimal_injective, decimal_is_IsNumeral, digits_is_IsNumeral}
use Rattle.prem_lru.specs.Entries.{ReplacementRule}
use Rattle.prem_gate.specs.declared.request.Request.{Request}
use Rattle.prem_cycle.specs.State.{Setup, MachineState}
use Rattle.prem_cycle.specs.declared.state.Trap.{Trap}
use Rattle.prem_cycle.specs.Run.{cycles_of}
use Rattle.prem_cycle.proofs.Prelude.{Arrivals, Turned, arrivals_at, bus_at, core_at, is_over, is_some, step_of}
use Rattle.prem_cycle.proofs.CycleParts.{cycle_goes, cycle_traps}
use Rattle.prem_cycle.proofs.RunLaws.{step_of-goes, step_of-stays}
use Rattle.prem_wave.specs.Dump.{Change, Moment, changes_from, is_known, last_of, moment_at, moments_of, value_text}
use Rattle.prem_wave.specs.Names.{device_names, task_names}
use Rattle.prem_wave.specs.Reading.{code_in, codes_in, value_at, value_in, value_of_code}
use Rattle.prem_wave.specs.ReadBack.{ValuesAreReadBack, WavesAreReadBack}
use Rattle.prem_wave.specs.Signals.{before_of, bus_after, device_values, each, task_values, values_after, values_of}
use Rattle.prem_wave.specs.Waves.{dump_text, run_values}
use Rattle.prem_wave.proofs.LinesOfWords.{Words, bus_lines, changes_lines, core_lines, device_lines, devices_lines, dump_lines, dump_read, header_lines, last_lines, moments_lines, preamble_lines, task_lines, tasks_lines, time_words}
use Rattle.prem_wave.proofs.ReadBack.{read_back, told_at, told_by}
use Rattle.prem_wave.proofs.Simulated.{each_length, length_append, names_devices, names_tasks, times_three}

-- ---- codes

-- the codes of so many signals from k on
abbrev numbers : ℕ → ℕ → List (List ℕ)
numbers k zero = []
numbers k (suc n) = decimal k ∷ numbers (k + 1) n

numbers_append : (k m n : ℕ) → numbers k (m + n) ≡ numbers k m ++ numbers (k + m) n
numbers_append k zero n = let e : k ≡ k + 0 = omega arith in let f : 0 + n ≡ n = omega arith in ap₂ numbers e f
numbers_append k (suc m) n =
    let e : suc m + n ≡ suc (m + n) = omega arith in
    let f : (k + 1) + m ≡ k + suc m = omega arith in
    ap (numbers k) e ∙ ap (λ l. decimal k ∷ l) (numbers_append (k + 1) m n ∙ ap (λ j. numbers (k + 1) m ++ numbers j n) f)

number_there : (k n i : ℕ) → i < n → slice_get (numbers k n) i ≡ Some (decimal (k + i))
number_there k zero i lt = absurd (omega (arith, lt))
number_there k (suc n) zero lt = let e : k ≡ k + 0 = omega arith in ap (λ j. Some (decimal j)) e
number_there k (suc n) (suc i) lt = let e : (k + 1) + i ≡ k + suc i = omega arith in number_there (k + 1) n i (omega (arith, lt)) ∙ ap (λ j. Some (decimal j)) e

three_numbers : (k : ℕ) → decimal k ∷ decimal (k + 1) ∷ decimal (k + 2) ∷ [] ≡ numbers k 3
three_numbers k = let e : k + 2 ≡ (k + 1) + 1 = omega arith in ap (λ j. decimal k ∷ decimal (k + 1) ∷ decimal j ∷ []) e

task_codes : (k : ℕ) (name : List ℕ) → codes_in (task_lines k name) ≡ numbers k 3
task_codes k name = three_numbers k

device_codes : (k : ℕ) (name : List ℕ) → codes_in (device_lines k name) ≡ numbers k 3
device_codes k name = three_numbers k

bus_codes : (k : ℕ) → codes_in (bus_lines k) ≡ numbers k 3
bus_codes k = three_numbers k

tasks_codes : (k : ℕ) (names : List (List ℕ)) → codes_in (tasks_lines k names) ≡ numbers k (3 * length names)
tasks_codes k [] = refl
tasks_codes k (name ∷ names) =
    let e : 3 + 3 * length names ≡ 3 * length (name ∷ names) = omega arith in
    flat_map-append code_in (task_lines k name) (tasks_lines (k + 3) names) ∙ ap₂ (λ a b. a ++ b) (task_codes k name) (tasks_codes (k + 3) names)
    ∙ sym (numbers_append k 3 (3 * length names)) ∙ ap (numbers k) e

devices_codes : (k : ℕ) (names : List (List ℕ)) → codes_in (devices_lines k names) ≡ numbers k (3 * length names)
devices_codes k [] = refl
devices_codes k (name ∷ names) =
    let e : 3 + 3 * length names ≡ 3 * length (name ∷ names) = omega arith in
    flat_map-append code_in (device_lines k name) (devices_lines (k + 3) names) ∙ ap₂ (λ a b. a ++ b) (device_codes k name) (devices_codes (k + 3) names)
    ∙ sym (numbers_append k 3 (3 * length names)) ∙ ap (numbers k) e

-- how many signals there are
abbrev count : (tasks devices : List (List ℕ)) → ℕ
count tasks devices = 2 + (3 * length tasks + (3 + 3 * length devices))

header_codes : (tasks devices : List (List ℕ)) → codes_in (header_lines tasks devices) ≡ numbers 0 (count tasks devices)
header_codes tasks devices =
    let k = 2 + 3 * length tasks in
    let rest : codes_in (devices_lines (k + 3) devices ++ last_lines) ≡ numbers (k + 3) (3 * length devices) =
    flat_map-append code_in (devices_lines (k + 3) devices) last_lines ∙ append-nil (codes_in (devices_lines (k + 3) devices)) ∙ devices_codes (k + 3) devices in
    let behind : codes_in (bus_lines k ++ (devices_lines (k + 3) devices ++ last_lines)) ≡ numbers k (3 + 3 * length devices) =
    flat_map-append code_in (bus_lines k) (devices_lines (k + 3) devices ++ last_lines) ∙ ap₂ (λ a b. a ++ b) (bus_codes k) rest ∙ sym (numbers_append k 3 (3 * length devices)) in
    let all : codes_in (tasks_lines 2 tasks ++ (bus_lines k ++ (devices_lines (k + 3) devices ++ last_lines))) ≡ numbers 2 (3 * length tasks + (3 + 3 * length devices)) =
    flat_map-append code_in (tasks_lines 2 tasks) (bus_lines k ++ (devices_lines (k + 3) devices ++ last_lines)) ∙ ap₂ (λ a b. a ++ b) (tasks_codes 2 tasks) behind
    ∙ sym (numbers_append 2 (3 * length tasks) (3 + 3 * length devices)) in
    ap (λ l. decimal 0 ∷ decimal 1 ∷ l) all ∙ sym (numbers_append 0 2 (3 * length tasks + (3 + 3 * length devices)))

changes_codes : (changes : List Change) → codes_in (changes_lines changes) ≡ []
changes_codes [] = refl
changes_codes (c ∷ changes) = changes_codes changes

moments_codes : (moments : List Moment) → codes_in (moments_lines moments) ≡ []
moments_codes [] = refl
moments_codes (m ∷ moments) = flat_map-append code_in (changes_lines m.changes) (moments_lines moments) ∙ ap₂ (λ a b. a ++ b) (changes_codes m.changes) (moments_codes moments)

dump_codes : (tasks devices : List (List ℕ)) (moments : List Moment) (to : ℕ) → codes_in (dump_lines tasks devices moments to) ≡ numbers 0 (count tasks devices)
dump_codes tasks devices moments to =
    flat_map-append code_in (header_lines tasks devices) (moments_lines moments ++ (time_words to ∷ []))
    ∙ ap₂ (λ a b. a ++ b) (header_codes tasks devices) (flat_map-append code_in (moments_lines moments) (time_words to ∷ []) ∙ ap (λ l. l ++ []) (moments_codes moments))
    ∙ append-nil (numbers 0 (count tasks devices))

-- ---- declarations give no value

-- lines that leave time and value as they are
record Silent (lines : List Words) : Type 0 where
  is : (code : List ℕ) (n at : ℕ) (before : Option (List ℕ)) (rest : List Words) → value_at code n at before (lines ++ rest) ≡ value_at code n at before rest

silent_append : (xs ys : List Words) → Silent xs → Silent ys → Silent (xs ++ ys)
silent_append xs ys h k =
    record {
      is = λ code n at before rest.
          ap (value_at code n at before) (append_assoc xs ys rest) ∙ h.is code n at before (ys ++ rest) ∙ k.is code n at before rest;
    }

silent_tasks : (k : ℕ) (names : List (List ℕ)) → Silent (tasks_lines k names)
silent_tasks k [] = record { is = λ code n at before rest. refl }
silent_tasks k (name ∷ names) = silent_append (task_lines k name) (tasks_lines (k + 3) names) (record { is = λ code n at before rest. refl }) (silent_tasks (k + 3) names)

silent_devices : (k : ℕ) (names : List (List ℕ)) → Silent (devices_lines k names)
silent_devices k [] = record { is = λ code n at before rest. refl }
silent_devices k (name ∷ names) = silent_append (device_lines k name) (devices_lines (k + 3) names) (record { is = λ code n at before rest. refl }) (silent_devices (k + 3) names)

silent_header : (tasks devices : List (List ℕ)) → Silent (header_lines tasks devices)
silent_header tasks devices =
    let k = 2 + 3 * length tasks in
    silent_append preamble_lines _ (record { is = λ code n at before rest. refl }) (silent_append core_lines _ (record { is = λ code n at before rest. refl })
    (silent_append (tasks_lines 2 tasks) _ (silent_tasks 2 tasks) (silent_append (bus_lines k) _ (record { is = λ code n at before rest. refl })
    (silent_append (devices_lines (k + 3) devices) last_lines (silent_devices (k + 3) devices) (record { is = λ code n at before rest. refl })))))

-- ---- changes

same_code : (j k : ℕ) → j < 2 ^ 64 → k < 2 ^ 64 → bytes_eq (decimal j) (decimal k) ≡ (j == k)
same_code j k p q = by (j == k) (bytes_eq (decimal j) (decimal k)) refl refl
  where
    by : (x y : Bool) → (j == k) ≡ x → bytes_eq (decimal j) (decimal k) ≡ y → y ≡ x
    by true true e f = refl
    by false false e f = refl
    by true false e f =
        let is : j ≡ k = grind (arith, nat_tests, e) in
        let yes = (bytes_decides (decimal j) (decimal k)).1 (ap decimal is) in
        absurd (cc)
    by false true e f =
        let is = decimal_injective j k p q ((bytes_decides (decimal j) (decimal k)).0 f) in
        let yes : (j == k) ≡ true = grind (arith, nat_tests, is) in
        absurd (cc)

abbrev SmallChanges : List Change → Type 0
SmallChanges changes = AllByRecursion (λ c. c.signal < 2 ^ 64) changes

abbrev SmallMoment : Moment → Type 0
SmallMoment m = (m.at < 2 ^ 64) × SmallChanges m.changes

abbrev texts : Option (Option ℕ) → Option (List ℕ)
texts o = option_map value_text o

module _ (k n : ℕ) (small : k < 2 ^ 64) where
  step : (at : ℕ) (b : Bool) → nat_le at n ≡ b → (signal : ℕ) (value : Option ℕ) (o : Option (Option ℕ)) → signal < 2 ^ 64 →
      cond (bytes_eq (decimal signal) (decimal k) && nat_le at n) (Some (value_text value)) (texts o) ≡ texts (cond b (cond (signal == k) (Some value) o) o)
  step at b e signal value o lt = ap₂ (λ x y. cond (x && y) (Some (value_text value)) (texts o)) (same_code signal k lt small) e ∙ by (signal == k) b
    where
      by : (x y : Bool) → cond (x && y) (Some (value_text value)) (texts o) ≡ texts (cond y (cond x (Some value) o) o)
      by true true = refl
      by true false = refl
      by false true = refl
      by false false = refl

  changes_told : (at : ℕ) (b : Bool) → nat_le at n ≡ b → (changes : List Change) (o : Option (Option ℕ)) (rest : List Words) → SmallChanges changes →
      value_at (decimal k) n at (texts o) (changes_lines changes ++ rest) ≡ value_at (decimal k) n at (texts (cond b (told_by k changes o) o)) rest
  changes_told at true e [] o rest h = refl
  changes_told at false e [] o rest h = refl
  changes_told at true e (c ∷ changes) o rest h =
      ap (λ v. value_at (decimal k) n at v (changes_lines changes ++ rest)) (step at true e c.signal c.value o h.0)
      ∙ changes_told at true e changes (cond (c.signal == k) (Some c.value) o) rest h.1
  changes_told at false e (c ∷ changes) o rest h =
      ap (λ v. value_at (decimal k) n at v (changes_lines changes ++ rest)) (step at false e c.signal c.value o h.0) ∙ changes_told at false e changes o rest h.1

  -- behind all moments comes the time at which the dump ends
  moments_told : (moments : List Moment) (at to : ℕ) (o : Option (Option ℕ)) → AllByRecursion SmallMoment moments →
      value_at (decimal k) n at (texts o) (moments_lines moments ++ (time_words to ∷ [])) ≡ texts (told_at k n moments o)
  moments_told [] at to o h = refl
  moments_told (m ∷ moments) at to o h =
      let time : digits_value 10 (decimal m.at) ≡ m.at = (decimal_is_IsNumeral m.at h.0.0).1 in
      let rest = moments_lines moments ++ (time_words to ∷ []) in
      ap (λ t. value_at (decimal k) n t (texts o) ((changes_lines m.changes ++ moments_lines moments) ++ (time_words to ∷ []))) time
      ∙ ap (value_at (decimal k) n m.at (texts o)) (append_assoc (changes_lines m.changes) (moments_lines moments) (time_words to ∷ []))
      ∙ changes_told m.at (nat_le m.at n) refl m.changes o rest h.0.1
      ∙ moments_told moments m.at to (cond (nat_le m.at n) (told_by k m.changes o) o) h.1

-- ---- what moments are made of is small

small_changes : (before : List (Option ℕ)) (j : ℕ) (values : List (Option ℕ)) → j + length values ≤ 2 ^ 64 → SmallChanges (changes_from before j values)
small_changes before j [] le = tt
small_changes before j (v ∷ values) le = by (is_known (slice_get before j) v) (small_changes before (suc j) values (omega (arith, le)))
  where
    by : (b : Bool) → SmallChanges (changes_from before (suc j) values) →
        SmallChanges (cond b (changes_from before (suc j) values) (record { signal = j; value = v } ∷ changes_from before (suc j) values))
    by true h = h
    by false h = (omega (arith, le), h)

moments_append : (xs ys : List Moment) → AllByRecursion SmallMoment xs → AllByRecursion SmallMoment ys → AllByRecursion SmallMoment (xs ++ ys)
moments_append [] ys h k = k
moments_append (x ∷ xs) ys h k = (h.0, moments_append xs ys h.1 k)

small_moment : (at : ℕ) (changes : List Change) → at < 2 ^ 64 → SmallChanges changes → AllByRecursion SmallMoment (moment_at at changes)
small_moment at [] lt h = tt
small_moment at (c ∷ changes) lt h = ((lt, h), tt)

module _ (all : ℕ → List (Option ℕ)) (from size : ℕ) (each : (n : ℕ) → length (all n) ≡ size) (few : size ≤ 2 ^ 64) where
  small_moments : (n : ℕ) → n ≤ 2 ^ 64 → AllByRecursion SmallMoment (moments_of all from n)
  unfolding moments_of
  small_moments zero le = tt
  small_moments (suc n) le = moments_append (moments_of all from n) _ (small_moments n (omega (arith, le))) (by (nat_le from n))
    where
      changes : List Change
      changes = changes_from (last_of all from n) 0 (all n)

      by : (b : Bool) → AllByRecursion SmallMoment (cond b (moment_at n changes) [])
      by true = small_moment n changes (omega (arith, le)) (small_changes (last_of all from n) 0 (all n) (omega (arith, each n, few)))
      by false = tt

-- ---- dumps

dump_back : (tasks devices : List (List ℕ)) (all : ℕ → List (Option ℕ)) (from to : ℕ) → ((n : ℕ) → length (all n) ≡ count tasks devices) →
    3 * length tasks + 3 * length devices < 2 ^ 63 → to < 2 ^ 64 → (k n : ℕ) (value : Option ℕ) → from ≤ n → n < to → slice_get (all n) k ≡ Some value →
    value_in k n (dump_text tasks devices all from to) ≡ Some (value_text value)
dump_back tasks devices all from to each few short k n value low high is =
    let lines = dump_lines tasks devices (moments_of all from to) to in
    let size = each n in
    let below : k < length (all n) = slice_get_within (all n) k value is in
    let small : k < 2 ^ 64 = omega (arith, size, below, few) in
    let code : slice_get (codes_in lines) k ≡ Some (decimal k) =
    ap (λ l. slice_get l k) (dump_codes tasks devices (moments_of all from to) to) ∙ number_there 0 (count tasks devices) k (omega (arith, size, below))
    ∙ (let e : 0 + k ≡ k = omega arith in ap (λ j. Some (decimal j)) e) in
    ap (λ l. value_of_code (slice_get (codes_in l) k) n l) (dump_read tasks devices (moments_of all from to) to)
    ∙ ap (λ c. value_of_code c n lines) code
    ∙ (silent_header tasks devices).is (decimal k) n 0 None (moments_lines (moments_of all from to) ++ (time_words to ∷ []))
    ∙ moments_told k n small (moments_of all from to) 0 to None (small_moments all from (count tasks devices) each (omega (arith, few)) to (omega (arith, short)))
    ∙ ap texts (read_back all from (count tasks devices) each k n to low high ∙ is)

values_count : (p : Setup) (s t : MachineState) → length (values_of p s t) ≡ count (task_names p.tasks) (device_names p.devices)
values_count p s t =
    let ts = each (task_values p.plant.switch s) (length p.tasks) in
    let ds = each (device_values (bus_after (before_of s) t) t) (length p.devices) in
    let of_tasks : length ts ≡ 3 * length p.tasks = each_length (task_values p.plant.switch s) 3 (length p.tasks) (λ k. refl) ∙ times_three (length p.tasks) in
    let of_devices : length ds ≡ 3 * length p.devices =
    each_length (device_values (bus_after (before_of s) t) t) 3 (length p.devices) (λ k. refl) ∙ times_three (length p.devices) in
    let whole = length_append ts (values_after (length p.devices) (before_of s) t) in
    let tasks = names_tasks p in
    let devices = names_devices p in
    omega (arith, of_tasks, of_devices, whole, tasks, devices)

-- in so many cycles no more pass
step_passed : (rule : ReplacementRule) (p : Setup) (requests : List Request) (s : MachineState) → (step_of rule p requests s).now ≤ s.now + 1
step_passed rule p requests s = by (is_over s) (is_some (core_at rule p b s).trapped) refl refl
  where
    a : Arrivals
    a = arrivals_at requests s

    b : Turned
    b = bus_at a.gates s

    trapped_none : (t : Option Trap) → is_some t ≡ false → t ≡ None
    trapped_none None h = refl
    trapped_none (Some t) h = absurd (cc)

    by : (over trapped : Bool) → is_over s ≡ over → is_some (core_at rule p b s).trapped ≡ trapped → (step_of rule p requests s).now ≤ s.now + 1
    by true trapped e f = let stays = ap (λ t. t.now) (step_of-stays rule p requests s e) in omega (arith, stays)
    by false true e f = let now = ap (λ t. t.now) (step_of-goes rule p requests s e) ∙ cycle_traps rule p a b s f in omega (arith, now)
    by false false e f =
        let now = ap (λ t. t.now) (step_of-goes rule p requests s e) ∙ cycle_goes rule p a b s (trapped_none (core_at rule p b s).trapped f) in
        omega (arith, now)

passed : (rule : ReplacementRule) (p : Setup) (requests : List Request) (n : ℕ) (s : MachineState) → (cycles_of rule p requests n s).now ≤ s.now + n
unfolding cycles_of
passed rule p requests zero s = omega arith
passed rule p requests (suc n) s =
    let before = passed rule p requests n s in
    let here = step_passed rule p requests (cycles_of rule p requests n s) in
    omega (arith, before, here)

pub waves_are_read_back : WavesAreReadBack
waves_are_read_back rule p requests s from limit few short k n value low high is =
    let tasks = names_tasks p in
    let devices = names_devices p in
    let ends = passed rule p requests limit s in
    dump_back (task_names p.tasks) (device_names p.devices) (run_values rule p requests s) from (cycles_of rule p requests limit s).now
    (λ m. values_count p (cycles_of rule p requests m s) (cycles_of rule p requests (suc m) s)) (omega (arith, few, tasks, devices)) (omega (arith, short, ends)) k n value low high is

-- ---- values

pub values_are_read_back : ValuesAreReadBack
values_are_read_back None h = refl
values_are_read_back (Some m) h = by (bytes_eq (digits 2 false m) (codes "z")) refl
  where
    numeral : IsNumeral 2 (digits 2 false m) × (digits_value 2 (digits 2 false m) ≡ m)
    numeral = digits_is_IsNumeral 2 false (omega arith) (omega arith) m h

    by : (b : Bool) → bytes_eq (digits 2 false m) (codes "z") ≡ b → cond b None (Some (digits_value 2 (digits 2 false m))) ≡ Some m
    by true e = let is = (bytes_decides (digits 2 false m) (codes "z")).0 e in absurd (omega (arith, (subst (AllDigits 2) is numeral.0.1).0))
    by false e = ap (λ v. Some v) numeral.1
