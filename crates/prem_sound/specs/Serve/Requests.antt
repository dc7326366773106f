-- The requests of devices that find room in their queues, and the words that transfers put and get.
use Rattle.std.specs.Prelude.{◌≡◌, ℕ, zero, suc, ◌+◌, ◌*◌, ◌^◌, ◌<◌, ◌==◌, ◌&&◌, All, Bool, true, false, List, [], ◌∷◌, ◌++◌, Option, Some, None, IfSome, length, map, filter, if◌then◌else◌}
use Rattle.std.specs.Prelude.{slice_index, nat_lt}
use Rattle.prem_sound.specs.Prelude.{is_over, cycles_of, memory_of, run_of, AreOwn, IsRunnable, device_of, Setup, MachineState, start_of, Request, area_of, TaskRun, ReplacementRule, IsRule}
use Rattle.prem_sound.specs.Prelude.{AreApart}
use Rattle.prem_gate.specs.Gates.{GatesState, gate_at, is_full, after_arrival}
use Rattle.prem_gate.specs.declared.bus.Carried.{Carried}
use Rattle.prem_gate.specs.declared.bus.Transfer.{Transfer}
use Rattle.std.specs.List.Sorted.{IsNonDecreasingBy}

-- ---- the requests that find room

-- the requests of cycle `now` that find room in their queues, in order
abbrev pub found_room : ℕ → List Request → GatesState → List Request
found_room now [] s = []
found_room now (r ∷ requests) s =
    if r.cycle == now then (if is_full (gate_at s.gates r.device) then found_room now requests (after_arrival r s) else r ∷ found_room now requests (after_arrival r s))
    else found_room now requests s

-- those of the coming cycle
abbrev pub coming_requests : List Request → MachineState → List Request
coming_requests requests s = if is_over s then [] else found_room s.now requests s.gates

-- those of n cycles from a state, in order of time
unfoldable pub queued_of : ReplacementRule → Setup → List Request → ℕ → MachineState → List Request
queued_of rule p requests zero s = []
queued_of rule p requests (suc n) s = queued_of rule p requests n s ++ coming_requests requests (cycles_of rule p requests n s)

-- some of a list's requests, in their order, each once
pub data AreAmong : List Request → List Request → Type 0 where
  among_none : AreAmong [] []
  among_skip : (r : Request) (xs ys : List Request) → AreAmong xs ys → AreAmong xs (r ∷ ys)
  among_take : (r : Request) (xs ys : List Request) → AreAmong xs ys → AreAmong (r ∷ xs) (r ∷ ys)

-- the requests of cycles before n
abbrev pub asked_before : ℕ → List Request → List Request
asked_before n requests = filter (λ (r : Request). nat_lt r.cycle n) requests

-- where requests stand in order of cycle, those that have found room are among those of cycles that have passed
abbrev pub RoomIsFoundInOrder : Type 0
RoomIsFoundInOrder =
    (rule : ReplacementRule) (p : Setup) (content : List ℕ) (inputs : List (List ℕ)) (requests : List Request) (n : ℕ) →
    IsNonDecreasingBy (λ (r : Request). r.cycle) requests →
    AreAmong (queued_of rule p requests n (start_of p inputs (memory_of p content))) (asked_before n requests)

-- ---- where they are

abbrev pub asked_of : ℕ → List Request → List Request
asked_of d requests = filter (λ (r : Request). r.device == d) requests

abbrev pub transferred_of : ℕ → List Transfer → List Request
transferred_of d transfers = map (λ (t : Transfer). t.request) (filter (λ (t : Transfer). t.device == d) transfers)

abbrev pub carried_of : ℕ → Option Carried → List Request
carried_of d None = []
carried_of d (Some c) = if c.device == d then c.request ∷ [] else []

-- those of a device that were transferred, then the one that is carried, then those that wait
abbrev pub held_of : ℕ → MachineState → List Request
held_of d s = transferred_of d s.log.transfers ++ carried_of d s.gates.carried ++ (gate_at s.gates.gates d).queue

-- in every state of every run, whatever the image, its tasks and the requests are: each request that has found room was
-- transferred in order, once, or is carried, or still waits
abbrev pub RequestsAreHeld : Type 0
RequestsAreHeld =
    (rule : ReplacementRule) (p : Setup) (content : List ℕ) (inputs : List (List ℕ)) (requests : List Request) (n d : ℕ) →
    held_of d (run_of rule p content inputs requests n) ≡ asked_of d (queued_of rule p requests n (start_of p inputs (memory_of p content)))

-- ---- the words of transfers

abbrev pub word_by : Bool → Option ℕ → ℕ → ℕ
word_by true (Some value) word = value
word_by true None word = word
word_by false put word = word

-- the word at a line of a device behind these transfers, where it was this word before
abbrev pub word_after : ℕ → ℕ → List Transfer → ℕ → ℕ
word_after d j [] word = word
word_after d j (t ∷ ts) word = word_after d j ts (word_by (t.device == d && (t.request.line == j)) t.request.put word)

-- a get has the word of the last put before it to the same line of its device, or 0
abbrev pub GetsLastPuts : List Transfer → Type 0
GetsLastPuts transfers =
    (before after : List Transfer) (t : Transfer) → transfers ≡ before ++ t ∷ after → t.request.put ≡ None →
    t.value ≡ word_after t.device t.request.line before 0

-- the values of requests are words
abbrev pub PutWords : List Request → Type 0
PutWords requests = All (λ (r : Request). IfSome r.put (λ value. value < 2 ^ 32)) requests

-- the first word of each line of a device is 0
abbrev pub AreasAreZero : Setup → (memory : List ℕ) → Type 0
AreasAreZero p memory =
    (d j i : ℕ) → d < length p.devices → j < (device_of p d).device.lines → i < 4 → slice_index memory ((device_of p d).area + j * p.plant.line + i) ≡ 0

-- in every state of every run of tasks that stay with bytes of their own, to which no line of a device belongs, a get has the word
-- of the last put before it to its line, or 0
abbrev pub WordsAreLastPuts : Type 0
WordsAreLastPuts =
    (rule : ReplacementRule) (p : Setup) (content : List ℕ) (inputs : List (List ℕ)) (requests : List Request) (own : ℕ → ℕ → Bool) (runs : ℕ → TaskRun) (n : ℕ) →
    IsRule rule → IsRunnable p content requests → AreOwn p content inputs own runs → AreApart (map (area_of p.plant.line) p.devices) → AreasAreZero p (memory_of p content) → PutWords requests →
    GetsLastPuts (run_of rule p content inputs requests n).log.transfers
