-- The set of two tasks, computed: where its device asks each 5000 cycles it is promised a wait of 1198 cycles, and two requests that are so far apart keep
-- to that: the first one has been transferred by cycle 1198.
use Rattle.std.specs.Prelude.{All, map, slice_get, slice_index, slice_index_or}
use Rattle.std.specs.List.{AllByRecursion}
use Rattle.std.proofs.Common.{◌≡◌, ℕ, zero, suc, ◌*◌, ◌^◌, ◌<◌, ◌≤◌, refl, ap, sym, ◌∙◌, arith, false, List, [], ◌∷◌, length, None, Some, Option}
use Rattle.std.proofs.lemmas.List.Elements.{All-nil, All-cons}
use Rattle.prem_lru.specs.Rules.{rule_of}
use Rattle.prem_image.specs.declared.image.TaskRecord.{TaskRecord}
use Rattle.prem_cycle.specs.State.{MachineState, no_record}
use Rattle.prem_cycle.specs.Cycle.{is_finished}
use Rattle.prem_cycle.proofs.Images.{put}
use Rattle.prem_sound.specs.Serve.Requests.{transferred_of}
use Rattle.prem_sound.specs.Sound.{AreInputs}
use Rattle.prem_syntax.specs.ProgramRules.{first_breach}
use Rattle.prem_text.specs.Lexing.Tokens.{tokens_of, lex, step, start, first_token}
use Rattle.prem_text.specs.Lexing.Spelling.{reserved_word, used_word, is_unused, longest_mark}
use Rattle.prem_text.specs.Lexing.Literal.{literal_word}
use Rattle.prem_ranges.specs.RangesKept.{first_range_breach, turn_bounds}
use Rattle.prem_tasks.specs.Compiled.{compiled}
use Rattle.prem_sets_sound.specs.ImagePremises.Accepted.{setup_in}
use Rattle.prem_sets_sound.specs.Meant.{promises_in}
use Rattle.prem_sets_sound.specs.Sound.{IsSoundSet}
use Rattle.prem_sets_sound.proofs.ImagePremisesLemmas.Sample.{sample, sample_values, sample_breaks_nothing}
use Rattle.prem_sets_sound.proofs.Sound.{sets_are_sound}
use Rattle.prem_latency.proofs.WcetLemmas.Sample.{sample_periods}
use Rattle.prem_latency.specs.Images.{ServesDevice}
use Rattle.prem_latency.specs.Requests.{AreTransferred, states_of}
use Rattle.prem_latency.proofs.GoesOn.{goes_on}
use Rattle.prem_latency.proofs.SetSample.{asked, sample_asks, two_tasks}
use Rattle.prem_running.specs.RunSound.Runs.{HasRoom}
use Rattle.prem_running.proofs.RunSoundLemmas.Reports.{sound_runs_never_fill}
use Rattle.prem_time.specs.declared.promises.Promise.{Promise}
use Rattle.prem_time.specs.Promises.{wait_held}
use Rattle.prem_time.proofs.WaitSample.{distances, sample_wait}
use Rattle.prem_chart.specs.Keeping.{stray_in}
use Rattle.prem_chart.specs.Answer.{promised}
use Rattle.prem_chart.proofs.Kept.{promises_are_kept}

-- ---- what is promised

abbrev promise_with : Option ℕ → Promise
promise_with wait = record { device = 0; every = 5000; wait = wait }

abbrev promise : Promise
promise = promise_with (Some 1198)

-- the queue of 8 holds the one request that comes in 1198 cycles
sample_promised : slice_get (promised sample distances) 0 ≡ Some promise
sample_promised = ap (λ (o : Option ℕ). Some (promise_with (wait_held 5000 8 o))) sample_wait

-- ---- a run

-- the first task's jobs take 1, 2 and 3
abbrev words : List (List ℕ)
words = (1 ∷ 2 ∷ 3 ∷ []) ∷ [] ∷ []

abbrev IsWord : ℕ → Type 0
IsWord word = word < 2 ^ 32

abbrev AreWords : List ℕ → Type 0
AreWords xs = All IsWord xs

words_are : AreInputs (setup_in sample) words
words_are = record {
  count = sym two_tasks;
  words = All-cons AreWords (1 ∷ 2 ∷ 3 ∷ []) ([] ∷ []) three (All-cons AreWords [] [] (All-nil IsWord) (All-nil AreWords));
} where
  three : AreWords (1 ∷ 2 ∷ 3 ∷ [])
  three = All-cons IsWord 1 (2 ∷ 3 ∷ []) (omega arith) (All-cons IsWord 2 (3 ∷ []) (omega arith) (All-cons IsWord 3 [] (omega arith) (All-nil IsWord)))

-- the requests of cycles 0 and 5000 are far enough apart
none_strays : stray_in distances sample.devices asked ≡ None
none_strays = refl

sample_is_kept : ServesDevice (rule_of sample.plant.policy) (setup_in sample) (compiled sample).image.content words asked 0 1198
sample_is_kept =
    promises_are_kept sample distances sample_values sample_breaks_nothing (record { some = omega arith; most = omega arith }, tt) 0 promise sample_promised 1198 refl words asked words_are
    sample_asks.trace sample_asks.words none_strays

none_dropped : (n : ℕ) → slice_index (states_of (rule_of sample.plant.policy) (setup_in sample) (compiled sample).image.content words asked n).log.dropped 0 ≡ 0
none_dropped n = sample_is_kept.kept n

-- ---- by cycle 1198 it has not finished: the first task's last job is released at cycle 40000

abbrev run_at : ℕ → MachineState
run_at n = states_of (rule_of sample.plant.policy) (setup_in sample) (compiled sample).image.content words asked n

sample_jobs : map (λ (t : TaskRecord). t.jobs) (setup_in sample).tasks ≡ 3 ∷ 1 ∷ []
unfolding tokens_of lex step start first_token reserved_word used_word is_unused longest_mark literal_word first_breach first_range_breach turn_bounds
sample_jobs = refl

number_at : (f : TaskRecord → ℕ) (ts : List TaskRecord) (ns : List ℕ) (k : ℕ) → map f ts ≡ ns → k < length ts → f (slice_index_or ts k no_record) ≡ slice_index_or ns k 0
number_at f ts ns k is lt = by ts k lt ∙ ap (λ (xs : List ℕ). slice_index_or xs k 0) is where
  by : (xs : List TaskRecord) (j : ℕ) → j < length xs → f (slice_index_or xs j no_record) ≡ slice_index_or (map f xs) j 0
  by [] j less = absurd (omega (arith, less))
  by (x ∷ xs) zero less = refl
  by (x ∷ xs) (suc j) less = by xs j (omega (arith, less))

some_periods : (ts : List TaskRecord) (ns : List ℕ) → map (λ (t : TaskRecord). t.period) ts ≡ ns → AllByRecursion (λ n. 1 ≤ n) ns → All (λ (t : TaskRecord). 1 ≤ t.period) ts
some_periods [] ns is some = All-nil (λ (t : TaskRecord). 1 ≤ t.period)
some_periods (t ∷ ts) [] is some = absurd cc
some_periods (t ∷ ts) (n ∷ ns) is some =
    let here : t.period ≡ n = cc in
    let rest : map (λ (t : TaskRecord). t.period) ts ≡ ns = cc in
    let one : 1 ≤ n = some.0 in
    All-cons (λ (t : TaskRecord). 1 ≤ t.period) t ts (omega (arith, here, one)) (some_periods ts ns rest some.1)

some_task : 0 < length (setup_in sample).tasks
some_task = let two = two_tasks in omega (arith, two)

has_room : (n : ℕ) → HasRoom (run_at n)
has_room n =
    let sound : IsSoundSet sample = sets_are_sound sample sample_values sample_breaks_nothing in
    sound_runs_never_fill (rule_of sample.plant.policy) (setup_in sample) (compiled sample).image.content (promises_in sample) (compiled sample).limit words asked n sound
    (record { inputs_are = words_are; trace = sample_asks.trace; puts = sample_asks.words })

going : (n : ℕ) → n ≤ 40000 → is_finished (run_at n) ≡ false
going n le =
    goes_on (setup_in sample) (some_periods (setup_in sample).tasks (20000 ∷ 50000 ∷ []) sample_periods (omega arith, (omega arith, tt)))
    (rule_of sample.plant.policy) (compiled sample).image.content words asked
    (λ m. (has_room m).untrapped) (λ m. (has_room m).room) 0 2 40000 some_task (number_at (λ (t : TaskRecord). t.jobs) (setup_in sample).tasks (3 ∷ 1 ∷ []) 0 sample_jobs some_task)
    (ap (λ n. 2 * n) (number_at (λ (t : TaskRecord). t.period) (setup_in sample).tasks (20000 ∷ 50000 ∷ []) 0 sample_periods some_task)) n le

-- so the request of cycle 0 has been transferred by its last moment
first_transferred : AreTransferred (put 0 0 0 5 ∷ []) (transferred_of 0 (run_at 1198).log.transfers)
first_transferred = sample_is_kept.served 0 1198 (λ m lt. going m (omega (arith, lt))) (omega arith)
