-- The value changes of a dump keep to the grammar.
use Rattle.std.specs.Prelude.{◌*◌, nat_lt, nat_le, codes, decimal, slice_get}
use Rattle.std.specs.Fmt.{digits}
use Rattle.std.proofs.Common.{◌≡◌, ◌+◌, ℕ, zero, suc, List, [], ◌∷◌, ◌++◌, Bool, true, false, cond, Option, Some, None, length, refl, ap, sym, ◌∙◌, subst, arith, append_assoc, append-nil}
use Rattle.prem_image.specs.declared.image.TaskRecord.{TaskRecord}
use Rattle.prem_image.specs.declared.image.DeviceRecord.{DeviceRecord}
use Rattle.prem_cycle.specs.State.{Setup, MachineState}
use Rattle.prem_cycle.specs.Run.{cycles_of}
use Rattle.prem_wave.specs.Dump.{Change, Moment, change_line, changes_from, changes_text, is_known, last_of, moment_at, moment_text, moments_of, moments_text, time_text, value_text}
use Rattle.prem_wave.specs.Grammar.{IsDump, IsLater, IsValue, Simulates, Variable, nothing, time, change}
use Rattle.prem_wave.specs.Header.{devices_bits, signal_bits, tasks_bits}
use Rattle.prem_wave.specs.Names.{device_names, task_names}
use Rattle.prem_wave.specs.Signals.{before_of, bit, bus_after, bus_word, core_task, device_values, doing_of, is_open, each, task_values, values_after, values_of, values_with}
use Rattle.prem_wave.specs.Waves.{dump_text, run_values}
use Rattle.prem_wave.specs.Laws.{WavesAreDumps}
use Rattle.prem_wave.proofs.Declared.{declares, header_is, variables_from}
use Rattle.prem_wave.proofs.Digits.{wide_value}

-- ---- values that fit their variables

-- one for each variable, of no more bits than that has
abbrev Fit : List ℕ → List (Option ℕ) → Type 0
Fit [] [] = Unit {0}
Fit [] (v ∷ values) = ⊥
Fit (b ∷ bits) [] = ⊥
Fit (b ∷ bits) (v ∷ values) = IsValue b (value_text v) × Fit bits values

fit_append : (bits more : List ℕ) (values others : List (Option ℕ)) → Fit bits values → Fit more others → Fit (bits ++ more) (values ++ others)
fit_append [] more [] others h k = k
fit_append [] more (v ∷ values) others h k = absurd h
fit_append (b ∷ bits) more [] others h k = absurd h
fit_append (b ∷ bits) more (v ∷ values) others h k = (h.0, fit_append bits more values others h.1 k)

bit_value : (b : Bool) → IsValue 1 (value_text (Some (bit b)))
unfolding digits
bit_value true = (refl, omega arith)
bit_value false = (refl, omega arith)

abbrev wide : ℕ → List ℕ
wide zero = []
wide (suc n) = 64 ∷ wide n

fit_wide : (values : List (Option ℕ)) → Fit (wide (length values)) values
fit_wide [] = tt
fit_wide (v ∷ values) = (wide_value v, fit_wide values)

tasks_wide : (names : List (List ℕ)) → tasks_bits names ≡ wide (3 * length names)
tasks_wide [] = refl
tasks_wide (name ∷ names) =
    let e : suc (suc (suc (3 * length names))) ≡ 3 * length (name ∷ names) = omega arith in
    ap (λ bits. 64 ∷ 64 ∷ 64 ∷ bits) (tasks_wide names) ∙ ap wide e

devices_wide : (names : List (List ℕ)) → devices_bits names ≡ wide (3 * length names)
devices_wide [] = refl
devices_wide (name ∷ names) =
    let e : suc (suc (suc (3 * length names))) ≡ 3 * length (name ∷ names) = omega arith in
    ap (λ bits. 64 ∷ 64 ∷ 64 ∷ bits) (devices_wide names) ∙ ap wide e

pub length_append : (xs ys : List (Option ℕ)) → length (xs ++ ys) ≡ length xs + length ys
length_append [] ys = omega arith
length_append (x ∷ xs) ys = let h = length_append xs ys in omega (arith, h)

-- so many of a size
abbrev pub times : ℕ → ℕ → ℕ
times size zero = 0
times size (suc n) = times size n + size

pub times_three : (n : ℕ) → times 3 n ≡ 3 * n
times_three zero = omega arith
times_three (suc n) = let h = times_three n in omega (arith, h)

pub each_length : (f : ℕ → List (Option ℕ)) (size n : ℕ) → ((k : ℕ) → length (f k) ≡ size) → length (each f n) ≡ times size n
each_length f size zero h = refl
each_length f size (suc n) h =
    let before = each_length f size n h in
    let here = h n in
    let both = length_append (each f n) (f n) in
    omega (arith, before, here, both)

fit_each : (bits : List ℕ) (values : List (Option ℕ)) → bits ≡ wide (length values) → Fit bits values
fit_each bits values e = subst (λ b. Fit b values) (sym e) (fit_wide values)

pub values_fit : (switch : ℕ) (tasks devices : List (List ℕ)) (s t : MachineState) → Fit (signal_bits tasks devices) (values_with switch (length tasks) (length devices) s t)
values_fit switch tasks devices s t =
    let b = before_of s in
    let ts = each (task_values switch s) (length tasks) in
    let ds = each (device_values (bus_after b t) t) (length devices) in
    let tasks_fit : Fit (tasks_bits tasks) ts =
    fit_each (tasks_bits tasks) ts
    (tasks_wide tasks ∙ ap wide (sym (each_length (task_values switch s) 3 (length tasks) (λ k. refl) ∙ times_three (length tasks)))) in
    let devices_fit : Fit (devices_bits devices) ds =
    fit_each (devices_bits devices) ds (devices_wide devices ∙ ap wide (sym (each_length (device_values (bus_after b t) t) 3 (length devices) (λ k. refl) ∙ times_three (length devices)))) in
    let bus_fit : Fit (64 ∷ 1 ∷ 1 ∷ devices_bits devices) (values_after (length devices) b t) =
    (wide_value (Some (bus_word (bus_after b t) b.wants)), (bit_value (nat_lt b.misses t.log.counts.misses), (bit_value (nat_lt b.backs t.log.counts.writebacks), devices_fit))) in (
      wide_value (core_task (doing_of switch s)),
      (
        bit_value (is_open s.now s.core.window),
        fit_append (tasks_bits tasks) (64 ∷ 1 ∷ 1 ∷ devices_bits devices) ts (values_after (length devices) b t) tasks_fit bus_fit,
      ),
    )

-- ---- a variable for each value

record Has (variables : List Variable) (k : ℕ) (v : Option ℕ) : Type 0 where
  of : Variable
  is : slice_get variables k ≡ Some of
  code : of.code ≡ decimal k
  value : IsValue of.bits (value_text v)

fit_has : (j : ℕ) (bits : List ℕ) (values : List (Option ℕ)) → Fit bits values → (all : List Variable) →
    ((i : ℕ) → slice_get all (j + i) ≡ slice_get (variables_from j bits) i) → (i : ℕ) (v : Option ℕ) → slice_get values i ≡ Some v → Has all (j + i) v
fit_has j [] [] h all at zero v e = absurd (cc)
fit_has j [] [] h all at (suc i) v e = absurd (cc)
fit_has j [] (x ∷ values) h all at i v e = absurd h
fit_has j (b ∷ bits) [] h all at i v e = absurd h
fit_has j (b ∷ bits) (x ∷ values) h all at zero v e =
    let here : j + 0 ≡ j = omega arith in
    let same : x ≡ v = cc in
    record { of = record { code = decimal j; bits = b }; is = at 0; code = ap decimal (sym here); value = subst (λ y. IsValue b (value_text y)) same h.0 }
fit_has j (b ∷ bits) (x ∷ values) h all at (suc i) v e =
    let on : (j + 1) + i ≡ j + suc i = omega arith in
    subst (λ n. Has all n v) on
    (fit_has (j + 1) bits values h.1 all (λ n. let e' : (j + 1) + n ≡ j + suc n = omega arith in ap (slice_get all) e' ∙ at (suc n)) i v e)

-- ---- changes

simulates_changes : (variables : List Variable) (t : ℕ) (before : List (Option ℕ)) (j : ℕ) (values : List (Option ℕ)) (text : List ℕ) →
    ((i : ℕ) (v : Option ℕ) → slice_get values i ≡ Some v → Has variables (j + i) v) → Simulates variables (Some t) text →
    Simulates variables (Some t) (text ++ changes_text (changes_from before j values))
simulates_changes variables t before j [] text has h = subst (Simulates variables (Some t)) (sym (append-nil text)) h
simulates_changes variables t before j (v ∷ values) text has h =
    by (is_known (slice_get before j) v) (has 0 v refl) (λ other h'. simulates_changes variables t before (suc j) values other rest h')
  where
    rest : (i : ℕ) (w : Option ℕ) → slice_get values i ≡ Some w → Has variables (suc j + i) w
    rest i w e = let on : j + suc i ≡ suc j + i = omega arith in subst (λ n. Has variables n w) on (has (suc i) w e)

    by : (b : Bool) → Has variables (j + 0) v →
        ((other : List ℕ) → Simulates variables (Some t) other → Simulates variables (Some t) (other ++ changes_text (changes_from before (suc j) values))) →
        Simulates variables (Some t) (text ++ changes_text (cond b (changes_from before (suc j) values) (record { signal = j; value = v } ∷ changes_from before (suc j) values)))
    by true here go = go text h
    by false here go =
        let e : j + 0 ≡ j = omega arith in
        let code : here.of.code ≡ decimal j = here.code ∙ ap decimal e in
        let line = subst (λ c. Simulates variables (Some t) (text ++ (codes "b" ++ (value_text v ++ (codes " " ++ (c ++ codes "\n")))))) code
        (change (j + 0) here.of (value_text v) here.is here.value h) in
        subst (Simulates variables (Some t)) (append_assoc text (change_line j v) (changes_text (changes_from before (suc j) values))) (go (text ++ change_line j v) line)

-- ---- moments

record Below (variables : List Variable) (n : ℕ) (text : List ℕ) : Type 0 where
  last : Option ℕ
  below : IsLater last n
  simulates : Simulates variables last text

later : (last : Option ℕ) (n : ℕ) → IsLater last n → IsLater last (suc n)
later None n h = tt
later (Some t) n h = omega (arith, h)

pub flat_append : (xs ys : List Moment) → moments_text (xs ++ ys) ≡ moments_text xs ++ moments_text ys
flat_append [] ys = refl
flat_append (m ∷ xs) ys = ap (λ t. moment_text m ++ t) (flat_append xs ys) ∙ sym (append_assoc (moment_text m) (moments_text xs) (moments_text ys))

below_moment : (variables : List Variable) (n : ℕ) (text : List ℕ) (changes : List Change) → Below variables n text →
    ((other : List ℕ) → Simulates variables (Some n) other → Simulates variables (Some n) (other ++ changes_text changes)) →
    Below variables (suc n) (text ++ moments_text (moment_at n changes))
below_moment variables n text [] h go =
    record { last = h.last; below = later h.last n h.below; simulates = subst (Simulates variables h.last) (sym (append-nil text)) h.simulates }
below_moment variables n text (c ∷ changes) h go =
    let line = go (text ++ time_text n) (time n h.below h.simulates) in
    record {
      last = Some n;
      below = omega arith;
      simulates = subst (Simulates variables (Some n)) (append_assoc text (time_text n) (changes_text (c ∷ changes))
          ∙ ap (λ t. text ++ t) (sym (append-nil (time_text n ++ changes_text (c ∷ changes))))) line;
    }

module _ (variables : List Variable) (all : ℕ → List (Option ℕ)) (from : ℕ) (has : (n i : ℕ) (v : Option ℕ) → slice_get (all n) i ≡ Some v → Has variables i v) where
  below_by : (n : ℕ) (b : Bool) → Below variables n (moments_text (moments_of all from n)) →
      Below variables (suc n) (moments_text (moments_of all from n ++ cond b (moment_at n (changes_from (last_of all from n) 0 (all n))) []))
  below_by n true h =
      subst (Below variables (suc n)) (sym (flat_append (moments_of all from n) (moment_at n (changes_from (last_of all from n) 0 (all n)))))
      (below_moment variables n (moments_text (moments_of all from n)) (changes_from (last_of all from n) 0 (all n)) h
      (λ other h'. simulates_changes variables n (last_of all from n) 0 (all n) other
      (λ i v e. let z : i ≡ 0 + i = omega arith in subst (λ k. Has variables k v) z (has n i v e)) h'))
  below_by n false h =
      record {
        last = h.last;
        below = later h.last n h.below;
        simulates = subst (λ xs. Simulates variables h.last (moments_text xs)) (sym (append-nil (moments_of all from n))) h.simulates;
      }

  below : (n : ℕ) → Below variables n (moments_text (moments_of all from n))
  unfolding moments_of
  below zero = record { last = None; below = tt; simulates = nothing }
  below (suc n) = below_by n (nat_le from n) (below n)

-- ---- the whole

dump_is : (tasks devices : List (List ℕ)) (all : ℕ → List (Option ℕ)) (from to : ℕ) → ((n : ℕ) → Fit (signal_bits tasks devices) (all n)) → IsDump (dump_text tasks devices all from to)
dump_is tasks devices all from to fits =
    let variables = variables_from 0 (signal_bits tasks devices) in
    let has : (n i : ℕ) (v : Option ℕ) → slice_get (all n) i ≡ Some v → Has variables i v =
    λ n i v e. let z : 0 + i ≡ i = omega arith in
    subst (λ k. Has variables k v) z (fit_has 0 (signal_bits tasks devices) (all n) (fits n) variables (λ k. let y : 0 + k ≡ k = omega arith in ap (slice_get variables) y) i v e) in
    let b = below variables all from has to in
    record {
      variables = variables;
      last = Some to;
      header = _;
      body = moments_text (moments_of all from to) ++ time_text to;
      declares = declares tasks devices;
      simulates = time to b.below b.simulates;
      is = ap (λ h. h ++ (moments_text (moments_of all from to) ++ time_text to)) (header_is tasks devices)
          ∙ append_assoc _ (codes "$enddefinitions $end\n") (moments_text (moments_of all from to) ++ time_text to);
    }

pub names_tasks : (p : Setup) → length (task_names p.tasks) ≡ length p.tasks
names_tasks p = go p.tasks
  where
    go : (xs : List TaskRecord) → length (task_names xs) ≡ length xs
    go [] = refl
    go (x ∷ xs) = ap suc (go xs)

pub names_devices : (p : Setup) → length (device_names p.devices) ≡ length p.devices
names_devices p = go p.devices
  where
    go : (xs : List DeviceRecord) → length (device_names xs) ≡ length xs
    go [] = refl
    go (x ∷ xs) = ap suc (go xs)

run_fits : (p : Setup) (s t : MachineState) → Fit (signal_bits (task_names p.tasks) (device_names p.devices)) (values_of p s t)
run_fits p s t =
    subst (λ n. Fit (signal_bits (task_names p.tasks) (device_names p.devices)) (values_with p.plant.switch n (length p.devices) s t)) (names_tasks p)
    (subst (λ n. Fit (signal_bits (task_names p.tasks) (device_names p.devices)) (values_with p.plant.switch (length (task_names p.tasks)) n s t)) (names_devices p)
    (values_fit p.plant.switch (task_names p.tasks) (device_names p.devices) s t))

pub waves_are_dumps : WavesAreDumps
waves_are_dumps rule p requests s from limit =
    dump_is (task_names p.tasks) (device_names p.devices) (run_values rule p requests s) from (cycles_of rule p requests limit s).now
    (λ n. run_fits p (cycles_of rule p requests n s) (cycles_of rule p requests (suc n) s))
