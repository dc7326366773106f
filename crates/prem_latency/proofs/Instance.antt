-- A worked run that meets all that the laws ask for: two jobs of the worked image of a marked call, parted into scopes, and a device whose two
-- requests come 600 cycles apart.
use Rattle.std.specs.Prelude.{◌&&◌, ◌||◌, is_some, codes, slice_get, slice_index, All, IfSome, replicate}
use Rattle.std.proofs.Common.{◌≡◌, ℕ, zero, suc, ◌+◌, ◌-◌, ◌*◌, ◌/◌, ◌^◌, ◌<◌, ◌≤◌, leb, refl, ap, ◌∙◌, sym, subst, arith, true, false, Bool, Some, None, Option, List, [], ◌∷◌}
use Rattle.std.proofs.Common.{◌++◌, length, get_or, take, drop, append-nil, inl}
use Rattle.std.proofs.lemmas.Bool.{and_parts, leb-true, le-leb}
use Rattle.std.proofs.lemmas.Nat.{le-div}
use Rattle.std.proofs.Math.Nat.{div-lt_iff_lt-mul}
use Rattle.std.proofs.lemmas.List.Elements.{All-nil, All-cons}
use Rattle.std.proofs.lemmas.List.{get_or-replicate, take-append-drop}
use Rattle.std.proofs.Math.Seq.{get_or-append_right}
use Rattle.prem_plant.specs.Places.{Extent, AreApart}
use Rattle.prem_plant.specs.Order.Order.{AreOnce, HaveRoom, lru, one_pass}
use Rattle.prem_isa.specs.declared.effect.Access.{Access}
use Rattle.prem_isa.specs.Plain.{TaskRun, RunFits, Did, plain_start, plain_steps, plain_run, plain_trace}
use Rattle.prem_lru.specs.Entries.{to_front}
use Rattle.prem_gate.specs.declared.request.Request.{Request}
use Rattle.prem_image.specs.declared.image.TaskRecord.{TaskRecord}
use Rattle.prem_image.specs.declared.image.DeviceRecord.{DeviceRecord}
use Rattle.prem_image.specs.Records.{IsPlaced}
use Rattle.prem_cycle.specs.State.{Setup, MachineState}
use Rattle.prem_cycle.specs.Inputs.{IsRequest}
use Rattle.prem_cycle.specs.Cycle.{is_finished, is_full, is_over}
use Rattle.prem_cycle.specs.Run.{memory_of, cycles_of}
use Rattle.prem_cycle.proofs.Images.{bytes_in, marked, plant, task, put}
use Rattle.prem_cycle.specs.Runs.Position.Own.{AllOwn, IsFree, StaysOwn, device_of}
use Rattle.prem_cycle.specs.Runs.Position.Finish.{run_alone}
use Rattle.prem_cycle.specs.Runs.Position.Issued.{IsRunOf, AreOwn, IsRunnable}
use Rattle.prem_sound.specs.Script.Script.{Call, none_begun, Script, IsScript, cost_of_dids, Begun, begun_after, call_at, call_of}
use Rattle.prem_sound.specs.Script.Scripts.{AreScripts}
use Rattle.prem_sound.specs.Script.Conforms.{IsOwnDid, begun_behind, KeepsCalls, due_behind, Conforms}
use Rattle.prem_sound.specs.Serve.Requests.{AreasAreZero, transferred_of}
use Rattle.prem_sound.specs.Sound.{IsRun}
use Rattle.prem_sound.proofs.ScriptLemmas.Conforming.{conforming}
use Rattle.prem_sound.proofs.ScriptLemmas.Tests.{keeps_calls, keeps_by, below, is_below, data_below, are_below, no_conflict}
use Rattle.prem_sound.proofs.Examples.{members}
use Rattle.prem_sound.proofs.Worked.{lru_policy, runnable as worked_runnable}
use Rattle.prem_plant.specs.declared.plant.Plant.{Plant}
use Rattle.prem_isa.specs.declared.effect.Change.{Change}
use Rattle.prem_isa.specs.declared.effect.Change.TheVariants.{Stay, Memory, Execute, End, Job}
use Rattle.prem_sound.specs.Scopes.Charged.{IsScoped, charges_by, IsCharged}
use Rattle.prem_sound.specs.Scopes.Strands.{Strand, ends, runs, calls, dids_along, scoping_of, ChargedFrom}
use Rattle.prem_resp.specs.declared.busy.load.Load.{Load}
use Rattle.prem_resp.specs.Busy.Busy.{load_at}
use Rattle.prem_resp.specs.Deadline.Deadlines.{IsLoadOf, AreLoads}
use Rattle.prem_sound.proofs.ScopesLemmas.Tests.{strand_test, strand_by, charged_test, charged_by}
use Rattle.prem_sound.proofs.ScopesLemmas.StrandRuns.{strands_are_charged}
use Rattle.prem_latency.specs.declared.wait.Asking.{Asking}
use Rattle.prem_latency.specs.declared.wait.Closing.{Closing}
use Rattle.prem_latency.specs.Wait.{IsRoom}
use Rattle.prem_latency.specs.Closed.{IsOpened, short_of, IsClosedBy}
use Rattle.prem_latency.specs.Requests.{AreDistant, IsAskingOf, AreAskings, found_of, AreTransferred}
use Rattle.prem_latency.specs.Timeline.{asking_at, closing_at}
use Rattle.prem_latency.proofs.Steps.{state, on_before}
use Rattle.prem_latency.specs.Opened.{OpensAlong}
use Rattle.prem_latency.specs.Waits.{IsClosingBy, ServesBy}
use Rattle.prem_latency.proofs.Openings.{traces_open, strands_close}
use Rattle.prem_latency.proofs.Charged.{charges_serve_each, charges_serve_in_time, charges_drop_none}

-- ---- the machine

abbrev dev : DeviceRecord
dev = record { device = record { name = codes "d"; queue = 4; cost = 8; lines = 4 }; area = 1024 }

abbrev setup : Setup
setup = record { plant = plant 4096; tasks = task 10000 2 0 304 ∷ []; devices = dev ∷ [] }

abbrev asked : List Request
asked = put 0 0 0 5 ∷ put 600 0 1 6 ∷ []

abbrev run : TaskRun
run = run_alone (plant 4096) (task 10000 2 0 304) (bytes_in marked) []

abbrev dids : List Did
dids = plain_trace run 244 (plain_start run)

abbrev set_call : Call
set_call = record { members = members; stated = 491 }

abbrev script_of : ℕ → Script
script_of n = record { count = n; calls = set_call ∷ set_call ∷ []; due = 1950 }

count : length dids ≡ 244
unfolding plain_trace plain_steps
count = refl

ends_two : (plain_run run 244).ended ≡ 2
unfolding plain_steps
ends_two = refl

owned : are_below 304 dids ≡ true
unfolding plain_trace plain_steps
owned = refl

kept : keeps_calls (plant 4096) (script_of 244) none_begun dids ≡ true
unfolding plain_trace plain_steps
kept = refl

two_calls : (begun_behind dids none_begun).calls ≡ 2
unfolding plain_trace plain_steps
two_calls = refl

dues : due_behind (plant 4096) (script_of 244) none_begun dids ≡ 1950
unfolding plain_trace plain_steps
dues = refl

once : AreOnce members
once = (refl, (refl, (refl, (refl, (refl, (refl, (refl, (refl, (refl, (refl, (refl, (refl, (refl, (refl, (refl, (refl, tt))))))))))))))))

-- ---- the task's bytes lie before the device's lines

free_line : (a : ℕ) → a < 1024 → IsFree setup (a / 16)
free_line a lt d j ld lj e =
    let z : d ≡ 0 = omega (arith, ld) in
    let low : a / 16 < 64 = (div-lt_iff_lt-mul {k = 16} {x = a} {y = 64} (omega arith)).1 (omega (arith, lt)) in
    let high : 64 ≤ (1024 + j * 16) / 16 = le-div 64 (1024 + j * 16) 16 (omega arith) (omega arith) in
    let f : a / 16 ≡ (1024 + j * 16) / 16 = e ∙ ap (λ i. ((device_of setup i).area + j * 16) / 16) z in
    omega (arith, low, high, f)

own_of : (d : Did) → is_below 304 d ≡ true → IsOwnDid setup (below 304) d
own_of d h =
    let a : (leb (d.pc + 4) 304 ≡ true) × (data_below 304 d.access ≡ true) = and_parts (leb (d.pc + 4) 304) (data_below 304 d.access) h in
    let pc : d.pc + 4 ≤ 304 = leb-true (d.pc + 4) 304 a.0 in
    record {
      fetched = λ k lt. le-leb (d.pc + k + 1) 304 (omega (arith, pc, lt));
      accessed = λ _. data_own d.access a.1;
      fetch_line = free_line d.pc (omega (arith, pc));
      data_line = data_free d.access a.1;
    } where
      data_own : (o : Option Access) → data_below 304 o ≡ true → IfSome o (λ a. AllOwn (below 304) a.address a.size)
      data_own None e = tt
      data_own (Some x) e = λ k lt. let y : x.address + x.size ≤ 304 = leb-true (x.address + x.size) 304 e in le-leb (x.address + k + 1) 304 (omega (arith, y, lt))

      data_free : (o : Option Access) → data_below 304 o ≡ true → IfSome o (λ a. IsFree setup (a.address / 16))
      data_free None e = tt
      data_free (Some x) e = let y : x.address + x.size ≤ 304 = leb-true (x.address + x.size) 304 e in free_line x.address (omega (arith, y))

own_all : (ds : List Did) → are_below 304 ds ≡ true → All (IsOwnDid setup (below 304)) ds
own_all [] h = All-nil (IsOwnDid setup (below 304))
own_all (d ∷ ds) h =
    let a : (is_below 304 d ≡ true) × (are_below 304 ds ≡ true) = and_parts (is_below 304 d) (are_below 304 ds) h in
    All-cons (IsOwnDid setup (below 304)) d ds (own_of d a.0) (own_all ds a.1)

-- ---- the script

conforms : Conforms setup one_pass (below 304) run (set_call ∷ set_call ∷ []) 1950 dids
conforms = record {
  trace = ap (λ n. plain_trace run n (plain_start run)) count;
  ends = ap (λ n. (plain_run run n).ended) count ∙ ends_two;
  own_dids = own_all dids owned;
  room = All-cons (λ (c : Call). HaveRoom 64 4 c.members) set_call (set_call ∷ []) (no_conflict 64 4 members (omega arith) once refl)
      (All-cons (λ (c : Call). HaveRoom 64 4 c.members) set_call [] (no_conflict 64 4 members (omega arith) once refl) (All-nil (λ (c : Call). HaveRoom 64 4 c.members)));
  keeps = subst (λ n. KeepsCalls (plant 4096) one_pass (script_of n) none_begun dids) (sym count) (keeps_by (plant 4096) (script_of 244) none_begun dids kept);
  calls_are = two_calls;
  dues = subst (λ n. due_behind (plant 4096) (script_of n) none_begun dids ≤ 1950) (sym count) (omega (arith, dues));
}

abbrev all_bytes : List ℕ → Bool
all_bytes [] = true
all_bytes (b ∷ bs) = leb (b + 1) 256 && all_bytes bs

bytes_by : (bs : List ℕ) → all_bytes bs ≡ true → (a : ℕ) → slice_index bs a < 256
bytes_by [] h a = omega arith
bytes_by (b ∷ bs) h zero = let x : b + 1 ≤ 256 = leb-true (b + 1) 256 (and_parts (leb (b + 1) 256) (all_bytes bs) h).0 in omega arith
bytes_by (b ∷ bs) h (suc a) = bytes_by bs (and_parts (leb (b + 1) 256) (all_bytes bs) h).1 a

small : all_bytes (memory_of setup (bytes_in marked)) ≡ true
small = refl

run_fits : RunFits run
run_fits = record { size = omega arith; bytes = bytes_by (memory_of setup (bytes_in marked)) small; entry = refl; stack = omega arith; inputs = All-nil (λ word. word < 2 ^ 32) }

script : IsScript (plant 4096) one_pass run (script_of (length dids)) × StaysOwn setup (below 304) run
script = conforming setup one_pass (below 304) run (set_call ∷ set_call ∷ []) 1950 dids run_fits conforms

only : (k : ℕ) → k < 1 → k ≡ 0
only k lt = omega (arith, lt)

own_runs : AreOwn setup (bytes_in marked) [] (λ k. below 304) (λ k. run)
own_runs = record {
  runs_are = λ k lt.
      subst (λ j. IsRunOf setup (memory_of setup (bytes_in marked)) [] (below 304) j run) (sym (only k lt))
      (record { target = refl; size = refl; entry = refl; stack = refl; jobs = refl; words = refl; bytes = λ a h. refl; fits = run_fits });
  stay = λ k lt. script.1;
  apart = λ j k a lj lk h g. only j lj ∙ sym (only k lk);
  free = λ k a lt h. let y : a + 1 ≤ 304 = leb-true (a + 1) 304 h in free_line a (omega (arith, y));
}

put_out : length (plain_run run 244).task.outputs ≡ 2
unfolding plain_steps
put_out = refl

scripts : AreScripts setup one_pass (bytes_in marked) [] (λ k. below 304) (λ k. run) (λ k. script_of (length dids))
scripts = record {
  own_runs = own_runs;
  each = λ k lt. script.0;
  outputs = (let e : length (plain_run run (length dids)).task.outputs ≡ 2 = ap (λ n. length (plain_run run n).task.outputs) count ∙ put_out in omega (arith, e));
  intervals = omega arith;
}

-- ---- the run

one_request : (r : Request) → r.device ≡ 0 → r.line < 4 → IsRequest (dev ∷ []) r
one_request r e lt = record { device = omega (arith, e); line = subst (λ i. r.line < (device_of setup i).device.lines) (sym e) lt }

runnable : IsRunnable setup (bytes_in marked) asked
runnable = record {
  plant = worked_runnable.plant;
  room = worked_runnable.room;
  devices = All-cons (IsPlaced 16 4096) dev []
      (record {
        device = record {
          name = record { some = omega arith; short = omega arith; each = refl };
          queue = (omega arith, omega arith);
          cost =
              (omega arith, omega arith);
          lines = (omega arith, omega arith);
        };
        aligned = refl;
        within = omega arith;
      }) (All-nil (IsPlaced 16 4096));
  asked = All-cons (IsRequest (dev ∷ [])) (put 0 0 0 5) (put 600 0 1 6 ∷ []) (one_request (put 0 0 0 5) refl (omega arith))
      (All-cons (IsRequest (dev ∷ [])) (put 600 0 1 6) [] (one_request (put 600 0 1 6) refl (omega arith)) (All-nil (IsRequest (dev ∷ []))));
}

-- ---- its areas

only_place : (e : Extent) (i : ℕ) (q : Extent) → slice_get (e ∷ []) i ≡ Some q → (i ≡ 0) × (q ≡ e)
only_place e zero q h = let x : Some e ≡ Some q = h in (refl, cc)
only_place e (suc i) q h = absurd (let x : None ≡ Some q = h in cc)

apart : AreApart ((1024, 1088) ∷ [])
apart = record {
  forward = λ i q h. let x : (i ≡ 0) × (q ≡ (1024, 1088)) = only_place (1024, 1088) i q h in subst (λ (e : Extent). e.0 ≤ e.1) (sym x.1) (omega arith);
  disjoint = λ i j a q r h g b c. (only_place (1024, 1088) i q h).0 ∙ sym (only_place (1024, 1088) j r g).0;
}

content_length : length (bytes_in marked) ≡ 304
content_length = refl

behind_content : (a : ℕ) → 304 ≤ a → a < 4096 → slice_index (memory_of setup (bytes_in marked)) a ≡ 0
behind_content a low high = by (length (bytes_in marked)) content_length where
  by : (n : ℕ) → length (bytes_in marked) ≡ n → get_or (bytes_in marked ++ replicate (4096 - length (bytes_in marked)) 0) a 0 ≡ 0
  by n e =
      get_or-append_right (bytes_in marked) (replicate (4096 - length (bytes_in marked)) 0) a 0 (omega (arith, low, content_length))
      ∙ get_or-replicate (4096 - length (bytes_in marked)) (a - length (bytes_in marked)) 0 0 (omega (arith, low, high, content_length))

zero_areas : AreasAreZero setup (memory_of setup (bytes_in marked))
zero_areas d j i ld lj li =
    let z : d ≡ 0 = omega (arith, ld) in
    subst (λ k. slice_index (memory_of setup (bytes_in marked)) ((device_of setup k).area + j * 16 + i) ≡ 0) (sym z)
    (behind_content (1024 + j * 16 + i) (omega arith) (let y : j < 4 = subst (λ k. j < (device_of setup k).device.lines) z lj in omega (arith, y, li)))

is_run : IsRun setup (bytes_in marked) asked
is_run = record {
  runnable = runnable;
  periods = All-cons (λ (r : TaskRecord). 1 ≤ r.period) (task 10000 2 0 304) [] (omega arith) (All-nil (λ (r : TaskRecord). 1 ≤ r.period));
  apart = apart;
  zero = zero_areas;
  words = All-cons (λ (r : Request). IfSome r.put (λ value. value < 2 ^ 32)) (put 0 0 0 5) (put 600 0 1 6 ∷ []) (omega arith)
      (All-cons (λ (r : Request). IfSome r.put (λ value. value < 2 ^ 32)) (put 600 0 1 6) [] (omega arith)
      (All-nil (λ (r : Request). IfSome r.put (λ value. value < 2 ^ 32))));
}

-- ---- when calls open, as a test that is computed

abbrev opens_at : Change → Bool → Bool
opens_at Stay t = true
opens_at Memory t = true
opens_at (Execute stated) t = t
opens_at End t = true
opens_at Job t = true

opens_at_by : (c : Change) (t : Bool) (stated : ℕ) → opens_at c t ≡ true → c ≡ Execute stated → t ≡ true
opens_at_by c t stated h e = subst (λ v. opens_at v t ≡ true) e h

abbrev opens_test : Plant → Script → (opens : ℕ → ℕ) → Begun → List Did → Bool
opens_test p s opens b [] = true
opens_test p s opens b (d ∷ ds) =
    opens_at d.change (leb (cost_of_dids b.steps + length (call_of s b).members * (p.fill + p.back)) (opens (b.calls - 1))) && opens_test p s opens (begun_after d.change d b) ds

opens_by : (p : Plant) (s : Script) (opens : ℕ → ℕ) (b : Begun) (ds : List Did) → opens_test p s opens b ds ≡ true → OpensAlong p s opens b ds
opens_by p s opens b [] h = tt
opens_by p s opens b (d ∷ ds) h =
    let cost : ℕ = cost_of_dids b.steps + length (call_of s b).members * (p.fill + p.back) in
    let a : (opens_at d.change (leb cost (opens (b.calls - 1))) ≡ true) × (opens_test p s opens (begun_after d.change d b) ds ≡ true) =
    and_parts (opens_at d.change (leb cost (opens (b.calls - 1)))) (opens_test p s opens (begun_after d.change d b) ds) h in
    (λ stated c. leb-true cost (opens (b.calls - 1)) (opens_at_by d.change (leb cost (opens (b.calls - 1))) stated a.0 c), opens_by p s opens (begun_after d.change d b) ds a.1)

-- ---- the scopes

abbrev rest_one : List Did
rest_one = drop 7 dids

abbrev rest_two : List Did
rest_two = drop 106 rest_one

abbrev rest_three : List Did
rest_three = drop 9 rest_two

abbrev rest_four : List Did
rest_four = drop 7 rest_three

-- of each job the start, the job up to its call, and `pm.mem`; and the stub's return, the rest of the job, and `pm.done`
abbrev strand : Strand
strand =
    runs (record { lines = 0 ∷ 2 ∷ 3 ∷ 5 ∷ 17 ∷ 18 ∷ []; dids = take 7 dids }) (calls (take 106 rest_one)
    (runs (record { lines = 0 ∷ 4 ∷ 5 ∷ 16 ∷ 18 ∷ []; dids = take 9 rest_two })
    (runs (record { lines = 0 ∷ 2 ∷ 3 ∷ 5 ∷ 17 ∷ 18 ∷ []; dids = take 7 rest_three }) (calls (take 106 rest_four)
    (runs (record { lines = 0 ∷ 4 ∷ 5 ∷ 16 ∷ 18 ∷ []; dids = drop 106 rest_four }) ends)))))

all_dids : dids_along strand ≡ dids
all_dids =
    ap (λ xs. take 7 dids ++ (take 106 rest_one ++ (take 9 rest_two ++ (take 7 rest_three ++ (take 106 rest_four ++ xs))))) (append-nil (drop 106 rest_four))
    ∙ ap (λ xs. take 7 dids ++ (take 106 rest_one ++ (take 9 rest_two ++ (take 7 rest_three ++ xs)))) (take-append-drop 106 rest_four)
    ∙ ap (λ xs. take 7 dids ++ (take 106 rest_one ++ (take 9 rest_two ++ xs))) (take-append-drop 7 rest_three)
    ∙ ap (λ xs. take 7 dids ++ (take 106 rest_one ++ xs)) (take-append-drop 9 rest_two)
    ∙ ap (λ xs. take 7 dids ++ xs) (take-append-drop 106 rest_one)
    ∙ take-append-drop 7 dids

along : plain_trace run (length (dids_along strand)) (plain_start run) ≡ dids_along strand
along = subst (λ ds. plain_trace run (length ds) (plain_start run) ≡ ds) (sym all_dids) (ap (λ n. plain_trace run n (plain_start run)) count)

along_ends : (plain_run run (length (dids_along strand))).ended ≡ 2
along_ends = subst (λ ds. (plain_run run (length ds)).ended ≡ 2) (sym all_dids) (ap (λ n. (plain_run run n).ended) count ∙ ends_two)

worked_strand : strand_test (plant 4096) strand ≡ true
unfolding plain_trace plain_steps
worked_strand = refl

-- a call opens within 473 cycles: 153 for the instructions of its stub, and 20 for each of 16 lines; with a transfer of 8 cycles it keeps the bus
-- closed for 481 of its 491 cycles
opens_soon : opens_test (plant 4096) (script_of 244) (λ i. 473) none_begun dids ≡ true
unfolding plain_trace plain_steps
opens_soon = refl

abbrev closed_call : Call
closed_call = record { members = members; stated = 481 }

abbrev closed_script : Script
closed_script = record { count = 244; calls = closed_call ∷ closed_call ∷ []; due = 1950 }

-- a job takes 795 cycles: 131 and 113 for its scopes, the call of 491 with two switches, and a switch behind it
worked_from : charged_test (plant 4096) (script_of 244) 795 131 0 0 0 strand ≡ true
unfolding plain_trace plain_steps
worked_from = refl

-- and keeps 785 of them closed
closed_from : charged_test (plant 4096) closed_script 785 131 0 0 0 strand ≡ true
unfolding plain_trace plain_steps
closed_from = refl

abbrev the_script : Script
the_script = script_of (length dids)

stated_most : (i : ℕ) → (plant 4096).switch + (call_at the_script i).stated ≤ 511
stated_most zero = omega arith
stated_most (suc zero) = omega arith
stated_most (suc (suc i)) = omega arith

closed_most : (i : ℕ) → (plant 4096).switch + (call_at closed_script i).stated ≤ 511
closed_most zero = omega arith
closed_most (suc zero) = omega arith
closed_most (suc (suc i)) = omega arith

short_most : (i : ℕ) → short_of the_script (λ i. 473) 8 i ≤ (call_at closed_script i).stated
short_most zero = omega arith
short_most (suc zero) = omega arith
short_most (suc (suc i)) = omega arith

worked_charged : IsScoped (plant 4096) run (scoping_of strand) × IsCharged (plant 4096) run the_script (charges_by (plant 4096) run (scoping_of strand)) 795 511
worked_charged =
    strands_are_charged (plant 4096) run the_script strand 795 131 511 along along_ends (strand_by (plant 4096) strand worked_strand)
    (subst (λ n. ChargedFrom (plant 4096) (script_of n) 795 131 0 0 0 strand) (sym count) (charged_by (plant 4096) (script_of 244) 795 131 0 0 0 strand worked_from)) (omega arith) stated_most

worked_closed : IsScoped (plant 4096) run (scoping_of strand) × IsClosedBy (plant 4096) run (short_of the_script (λ i. 473) 8) (charges_by (plant 4096) run (scoping_of strand)) 785
worked_closed =
    strands_close (plant 4096) run closed_script (short_of the_script (λ i. 473) 8) strand 785 131 511 along along_ends (strand_by (plant 4096) strand worked_strand)
    (charged_by (plant 4096) closed_script 785 131 0 0 0 strand closed_from) (omega arith) closed_most short_most

worked_opened : IsOpened (plant 4096) run the_script (λ i. 473)
worked_opened =
    traces_open (plant 4096) run the_script (λ i. 473) dids (ap (λ n. plain_trace run n (plain_start run)) count) (ap (λ n. (plain_run run n).ended) count ∙ ends_two)
    (subst (λ n. OpensAlong (plant 4096) (script_of n) (λ i. 473) none_begun dids) (sym count) (opens_by (plant 4096) (script_of 244) (λ i. 473) none_begun dids opens_soon))

-- ---- devices, loads and tasks

abbrev devices : List Asking
devices = record { cost = 8; every = 600 } ∷ []

abbrev loads : List Load
loads = record { period = 10000; cost = 795; longest = 511 } ∷ []

abbrev tasks : List Closing
tasks = record { period = 10000; length = 795; closed = 793 } ∷ []

distant : AreDistant 600 asked
distant = (All-cons (λ (q : Request). 0 + 600 ≤ q.cycle) (put 600 0 1 6) [] (omega arith) (All-nil (λ (q : Request). 0 + 600 ≤ q.cycle)), (All-nil (λ (q : Request). 600 + 600 ≤ q.cycle), tt))

askings : AreAskings setup asked devices
askings = record {
  count = refl;
  each = λ j lt. subst (λ i. IsAskingOf setup asked i (asking_at devices i)) (sym (only j lt)) (record { cost = inl refl; every = omega arith; distant = distant });
}

abbrev run_at : ℕ → MachineState
run_at n = state to_front setup (bytes_in marked) [] asked n

still_going : is_over (run_at 1409) ≡ false
unfolding cycles_of
still_going = refl

worked_loads : AreLoads setup (λ k. run) (λ k. the_script) (λ k. scoping_of strand) loads
worked_loads = record {
  count = refl;
  each = λ k lt.
      subst (λ j. IsLoadOf setup (λ k. run) (λ k. the_script) (λ k. scoping_of strand) j (load_at loads j)) (sym (only k lt))
      (record { period = refl; scoped = worked_charged.0; charged = worked_charged.1 });
}

closing : IsClosingBy setup run the_script loads 8 0 (closing_at tasks 0)
closing = record {
  period = refl;
  balanced = (omega arith, refl);
  soon = omega arith;
  opens = λ i. 473;
  opened = worked_opened;
  parting = scoping_of strand;
  parted = worked_closed.0;
  most = 785;
  jobs = worked_closed.1;
  closed = omega arith;
}

serves : ServesBy to_front lru one_pass setup (bytes_in marked) [] asked (λ k. below 304) (λ k. run) (λ k. the_script) (λ k. scoping_of strand) loads devices tasks 0
serves = record {
  policy = lru_policy;
  run = is_run;
  are_scripts = scripts;
  are_loads = worked_loads;
  askings = askings;
  closings = record {
    count = refl;
    each = λ k lt. subst (λ i. IsClosingBy setup run the_script loads 8 i (closing_at tasks i)) (sym (only k lt)) closing;
  };
  there = omega arith;
  asks = omega arith;
}

-- ---- what the laws give

-- 809 cycles are enough
room : IsRoom devices tasks 0 809
room = (omega arith, leb-true _ 809 refl)

going : (m : ℕ) → m < 1409 → is_finished (run_at m) ≡ false
going m lt = first_false (is_finished (run_at m)) (is_some (run_at m).trapped) (is_full (run_at m)) (on_before to_front setup (bytes_in marked) [] asked m 1409 (omega (arith, lt)) still_going) where
  first_false : (a b c : Bool) → (a || b || c) ≡ false → a ≡ false
  first_false true b c h = absurd (let x : true ≡ false = h in cc)
  first_false false b c h = refl

-- both requests are transferred by cycle 1409
both_transferred : AreTransferred (found_of to_front setup (bytes_in marked) [] asked 0 601) (transferred_of 0 (run_at 1409).log.transfers)
both_transferred =
    charges_serve_in_time to_front lru one_pass setup (bytes_in marked) [] asked (λ k. below 304) (λ k. run) (λ k. the_script)
    (λ k. scoping_of strand) loads devices tasks 0 809 600 1409 serves room going (omega arith)

-- the same said of the requests themselves
each_transferred : AreTransferred (put 0 0 0 5 ∷ put 600 0 1 6 ∷ []) (transferred_of 0 (run_at 1409).log.transfers)
each_transferred =
    charges_serve_each to_front lru one_pass setup (bytes_in marked) [] asked (λ k. below 304) (λ k. run) (λ k. the_script) (λ k. scoping_of strand)
    loads devices tasks 0 809 600 1409 serves room (leb-true _ 4 refl) going (omega arith)

-- none is dropped
none_dropped : (n : ℕ) → slice_index (run_at n).log.dropped 0 ≡ 0
none_dropped n =
    charges_drop_none to_front lru one_pass setup (bytes_in marked) [] asked (λ k. below 304) (λ k. run) (λ k. the_script) (λ k. scoping_of strand)
    loads devices tasks 0 809 n serves room (leb-true _ 4 refl)
