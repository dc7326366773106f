-- The gates write to lines of their devices alone.
use Rattle.std.proofs.Common.{◌≡◌, ℕ, suc, ◌+◌, ◌*◌, ◌/◌, ◌%◌, ◌<◌, ◌≤◌, refl, ap, ◌∙◌, sym, subst, arith, eqb, leb, Some, None, Option, true, false, Bool, List, [], ◌∷◌, ◌++◌, length, drop}
use Rattle.std.proofs.Common.{IfSome, ⊎_elim}
use Rattle.prem_cycle.proofs.Prelude.{Arrivals, arrived, arrivals, no_device, IsRequest, device_of, IsFree, Setup, Work, GateState, GatesState, Turned, gate_at, no_gate, with_queue}
use Rattle.prem_cycle.proofs.Prelude.{with_gates, with_carried, queued, after_arrival, fits, first_of, startable_from, startable, taken, slot_of, memory_after, one_less, ends, goes_on}
use Rattle.prem_cycle.proofs.Prelude.{carries, wants, starts, bus_free, bus_with, bus_turn, Carried, CoreWant, No, New, Held, Window, Request, IsPlaced, DeviceRecord, length-bytes_of}
use Rattle.prem_cycle.proofs.Prelude.{apart_bytes, CacheState, is_resident, view_of, bytes_of, spliced, Plant, cases_eq, cases_Bool, cond_both, get_or-set_same, get_or-set_other, length-set}
use Rattle.prem_cycle.proofs.Prelude.{All-push, All-head, All-tail, mod-mul-add, div-add-mod', mul-le, slice_set, All}
use Rattle.prem_cycle.proofs.RunsLemmas.PositionLemmas.Turns.{BusKeeps}
use Rattle.prem_cycle.proofs.RunsLemmas.PositionLemmas.Works.{IsKept, kept_plant}
use Rattle.prem_gate.specs.Gates.{is_full, start_of}
use Rattle.prem_lru.proofs.Splices.{length-spliced}
use Rattle.prem_lru.proofs.Words.{word_view, word_clean}

-- ---- the gates of the devices

-- a line of a device
pub record IsLine (p : Setup) (device line : ℕ) : Type 0 where
  pub there : device < length p.devices
  pub within : line < (device_of p device).device.lines

pub record IsGateOf (p : Setup) (d : ℕ) (g : GateState) : Type 0 where
  pub area : g.area ≡ (device_of p d).area
  pub queue : All (λ (r : Request). r.line < (device_of p d).device.lines) g.queue

pub record AreGates (p : Setup) (s : GatesState) : Type 0 where
  pub line : s.line ≡ p.plant.line
  pub count : length s.gates ≡ length p.devices
  pub each : (d : ℕ) → d < length p.devices → IsGateOf p d (gate_at s.gates d)
  pub carried : IfSome s.carried (λ c. IsLine p c.device c.request.line)

-- another queue of one of them
set_queue : (p : Setup) (s : GatesState) (d : ℕ) (q : List Request) → AreGates p s → All (λ (r : Request). r.line < (device_of p d).device.lines) q →
    AreGates p (with_gates s (slice_set s.gates d (with_queue (gate_at s.gates d) q)))
set_queue p s d q h all =
    let g : GateState = with_queue (gate_at s.gates d) q in
    record {
      line = h.line;
      count = length-set s.gates d g ∙ h.count;
      each = λ j lt.
          ⊎_elim (λ (e : j ≡ d).
          let ld : d < length p.devices = omega (arith, lt, e) in
          subst (λ i. IsGateOf p i (gate_at (slice_set s.gates d g) i)) (sym e)
          (subst (IsGateOf p d) (sym (get_or-set_same s.gates d g no_gate (omega (arith, ld, h.count))))
          (record { area = (h.each d ld).area; queue = all })))
          (λ (ne : j ≡ d → ⊥). subst (IsGateOf p j) (sym (get_or-set_other s.gates d j g no_gate ne)) (h.each j lt))
          (cases_eq j d);
      carried = h.carried;
    }

-- ---- arrivals

arrival_gates : (p : Setup) (r : Request) (s : GatesState) → IsRequest p.devices r → AreGates p s → AreGates p (after_arrival r s)
arrival_gates p r s q h =
    cond_both (is_full (gate_at s.gates r.device)) s (with_gates s (slice_set s.gates r.device (queued r (gate_at s.gates r.device)))) (AreGates p)
    (λ _. h)
    (λ _. set_queue p s r.device ((gate_at s.gates r.device).queue ++ r ∷ []) h
    (All-push (λ (x : Request). x.line < (device_of p r.device).device.lines) (gate_at s.gates r.device).queue r (h.each r.device q.device).queue q.line))

pub arrivals_gates : (p : Setup) (now : ℕ) (requests : List Request) (a : Arrivals) → All (IsRequest p.devices) requests → AreGates p a.gates → AreGates p (arrivals now requests a).gates
arrivals_gates p now [] a all h = h
arrivals_gates p now (r ∷ requests) a all h =
    let rest : All (IsRequest p.devices) requests = All-tail (IsRequest p.devices) r requests all in
    cond_both (eqb r.cycle now) (arrivals now requests (arrived r a)) (arrivals now requests a) (λ (x : Arrivals). AreGates p x.gates)
    (λ _. arrivals_gates p now requests (arrived r a) rest (arrival_gates p r a.gates (All-head (IsRequest p.devices) r requests all) h))
    (λ _. arrivals_gates p now requests a rest h)

-- ---- the bus

-- memory with a word at one of the devices' lines, or as it was
pub data Written (p : Setup) (memory : List ℕ) : List ℕ → Type 0 where
  unwritten : Written p memory memory
  wrote : (device line value : ℕ) → IsLine p device line → Written p memory (spliced memory ((device_of p device).area + line * p.plant.line) (bytes_of 4 value))

pub record Turns (p : Setup) (memory : List ℕ) (t : Turned) : Type 0 where
  pub gates : AreGates p t.gates
  pub memory_is : Written p memory t.memory

with_carried_gates : (p : Setup) (s : GatesState) (c : Option Carried) → IfSome c (λ c. IsLine p c.device c.request.line) → AreGates p s → AreGates p (with_carried s c)
with_carried_gates p s c l h = record { line = h.line; count = h.count; each = h.each; carried = l }

written_by : (p : Setup) (s : GatesState) (c : Carried) (put : Option ℕ) (memory : List ℕ) → IsLine p c.device c.request.line → AreGates p s → Written p memory (memory_after (slot_of s c) put memory)
written_by p s c None memory l h = unwritten
written_by p s c (Some value) memory l h =
    let e : slot_of s c ≡ (device_of p c.device).area + c.request.line * p.plant.line =
    ap (λ a. a + c.request.line * s.line) (h.each c.device l.there).area ∙ ap (λ n. (device_of p c.device).area + c.request.line * n) h.line in
    subst (λ at. Written p memory (spliced memory at (bytes_of 4 value))) (sym e) (wrote c.device c.request.line value l)

carries_turns : (p : Setup) (clash : Bool) (c : Carried) (s : GatesState) (memory : List ℕ) → IsLine p c.device c.request.line → AreGates p s → Turns p memory (carries clash c s memory)
carries_turns p clash c s memory l h =
    cond_both (leb c.left 1) (ends clash c s memory) (goes_on clash c s memory) (Turns p memory)
    (λ _. record { gates = with_carried_gates p s None tt h; memory_is = written_by p s c c.request.put memory l h })
    (λ _. record { gates = with_carried_gates p s (Some (one_less c)) (record { there = l.there; within = l.within }) h; memory_is = unwritten })

-- what can start is a line that is there
start_line : (p : Setup) (now : ℕ) (w : Window) (d cost : ℕ) (q : List Request) → d < length p.devices →
    All (λ (r : Request). r.line < (device_of p d).device.lines) q → IfSome (start_of now w d cost q) (λ c. IsLine p c.device c.request.line)
start_line p now w d cost [] lt all = tt
start_line p now w d cost (r ∷ q) lt all =
    cond_both (fits now w cost) (Some (record { left = cost; device = d; first = now; request = r })) None (λ o. IfSome o (λ c. IsLine p c.device c.request.line))
    (λ _. record { there = lt; within = All-head (λ (r : Request). r.line < (device_of p d).device.lines) r q all }) (λ _. tt)

first_line : (p : Setup) (a b : Option Carried) → IfSome a (λ c. IsLine p c.device c.request.line) →
    IfSome b (λ c. IsLine p c.device c.request.line) → IfSome (first_of a b) (λ c. IsLine p c.device c.request.line)
first_line p None b x y = y
first_line p (Some c) b x y = x

startable_line : (p : Setup) (now : ℕ) (w : Window) (d : ℕ) (gates : List GateState) →
    ((i : ℕ) → i < length gates → (d + i < length p.devices) × IsGateOf p (d + i) (gate_at gates i)) →
    IfSome (startable_from now w d gates) (λ c. IsLine p c.device c.request.line)
startable_line p now w d [] h = tt
startable_line p now w d (g ∷ gates) h =
    let z : d + 0 ≡ d = omega arith in
    let first : (d + 0 < length p.devices) × IsGateOf p (d + 0) g = h 0 (omega arith) in
    let here : IsGateOf p d g = subst (λ n. IsGateOf p n g) z first.1 in
    first_line p (start_of now w d g.cost g.queue) (startable_from now w (d + 1) gates)
    (start_line p now w d g.cost g.queue (omega (arith, first.0)) here.queue)
    (startable_line p now w (d + 1) gates (λ i lt.
    let e : d + suc i ≡ d + 1 + i = omega arith in
    subst (λ n. (n < length p.devices) × IsGateOf p n (gate_at gates i)) e (h (suc i) (omega arith))))

drop_all : (P : Request → Type 0) (q : List Request) → All P q → All P (drop 1 q)
drop_all P [] all = all
drop_all P (r ∷ q) all = All-tail P r q all

starts_turns : (p : Setup) (core : Bool) (o : Option Carried) (s : GatesState) (memory : List ℕ) → IfSome o (λ c. IsLine p c.device c.request.line) →
    AreGates p s → Turns p memory (starts core o s memory)
starts_turns p core None s memory l h = record { gates = h; memory_is = unwritten }
starts_turns p core (Some c) s memory l h =
    carries_turns p core c (taken c.device s) memory l
    (set_queue p s c.device (drop 1 (gate_at s.gates c.device).queue) h
    (drop_all (λ (r : Request). r.line < (device_of p c.device).device.lines) (gate_at s.gates c.device).queue (h.each c.device l.there).queue))

free_turns : (p : Setup) (core : CoreWant) (o : Option Carried) (s : GatesState) (memory : List ℕ) →
    IfSome o (λ c. IsLine p c.device c.request.line) → AreGates p s → Turns p memory (bus_free core o s memory)
free_turns p No o s memory l h = starts_turns p false o s memory l h
free_turns p New o s memory l h = starts_turns p true o s memory l h
free_turns p Held o s memory l h = record { gates = h; memory_is = unwritten }

with_turns : (p : Setup) (core : CoreWant) (carried o : Option Carried) (s : GatesState) (memory : List ℕ) →
    IfSome carried (λ c. IsLine p c.device c.request.line) → IfSome o (λ c. IsLine p c.device c.request.line) → AreGates p s →
    Turns p memory (bus_with core carried o s memory)
with_turns p core (Some c) o s memory l m h = carries_turns p (wants core) c s memory l h
with_turns p core None o s memory l m h = free_turns p core o s memory m h

pub bus_turns : (p : Setup) (now : ℕ) (w : Window) (core : CoreWant) (s : GatesState) (memory : List ℕ) → AreGates p s → Turns p memory (bus_turn now w core s memory)
bus_turns p now w core s memory h =
    with_turns p core s.carried (startable now w s) s memory h.carried
    (startable_line p now w 0 s.gates (λ i lt.
    let e : i ≡ 0 + i = omega arith in
    subst (λ n. (n < length p.devices) × IsGateOf p n (gate_at s.gates i)) e (omega (arith, lt, h.count), h.each i (omega (arith, lt, h.count))))) h

-- ---- what it writes is no task's own

-- the word of a line of a device
word_keeps : (p : Setup) (own : ℕ → ℕ → Bool) (w : Work) (device line value : ℕ) → All (IsPlaced p.plant.line p.plant.memory) p.devices →
    ((k a : ℕ) → k < length p.tasks → own k a ≡ true → IsFree p (a / p.plant.line)) → IsKept p w.cache w.memory → IsLine p device line →
    BusKeeps p own w (spliced w.memory ((device_of p device).area + line * p.plant.line) (bytes_of 4 value))
word_keeps p own w device line value placed free h l =
    let size : ℕ = p.plant.line in
    let d : DeviceRecord = device_of p device in
    let at : ℕ = d.area + line * size in
    let c : CacheState = w.cache in
    let is : IsPlaced p.plant.line p.plant.memory d = placed device no_device l.there in
    let same : c.plant.line ≡ size = ap (λ (q : Plant). q.line) h.plant in
    let low : 16 ≤ size = (kept_plant p w.cache w.memory h).line.0 in
    let begins : at % size ≡ 0 = area_lines d.area line size (omega arith) is.aligned in
    let inside : at + size ≤ p.plant.memory = area_within d.area line d.device.lines size p.plant.memory l.within is.within in
    let out : is_resident c (at / c.plant.line) ≡ false =
    not_resident c (at / c.plant.line) (λ r. h.free (at / c.plant.line) r device line l.there l.within (ap (λ n. at / n) same)) in
    let fits : at % c.plant.line + 4 ≤ c.plant.line = subst (λ n. at % n + 4 ≤ n) (sym same) (omega arith) in
    let within : at + 4 ≤ length w.memory = omega (arith, h.size) in
    record {
      view = λ k a lt o.
          word_view c w.memory at 4 value a h.cache out fits within
          ∙ apart_bytes c.plant.line at 4 value a (view_of c w.memory) fits
          (λ e. free k a lt o device line l.there l.within (subst (λ n. a / n ≡ at / n) same e)) (omega (arith, same, low));
      kept = record {
        cache = h.cache;
        plant = h.plant;
        size = length-spliced w.memory at (bytes_of 4 value) (omega (arith, length-bytes_of 4 value)) ∙ h.size;
        clean = word_clean c w.memory at 4 value h.cache out fits within h.clean;
        free = h.free;
      };
    } where
      area_lines : (area line size : ℕ) → 0 < size → area % size ≡ 0 → (area + line * size) % size ≡ 0
      area_lines area line size pos e =
          let whole : area ≡ area / size * size = omega (arith, div-add-mod' area size) in
          let sum : area + line * size ≡ (area / size + line) * size + 0 = omega arith in
          ap (λ n. n % size) sum ∙ mod-mul-add (area / size + line) size 0 pos

      area_within : (area line lines size memory : ℕ) → line < lines → area + lines * size ≤ memory → area + line * size + size ≤ memory
      area_within area line lines size memory lt le =
          let m : (line + 1) * size ≤ lines * size = mul-le (line + 1) size lines size (omega arith) (omega arith) in
          omega arith

      not_resident : (c : CacheState) (q : ℕ) → (is_resident c q ≡ true → ⊥) → is_resident c q ≡ false
      not_resident c q no_way = ⊎_elim (λ (t : is_resident c q ≡ true). absurd (no_way t)) (λ (f : is_resident c q ≡ false). f) (cases_Bool (is_resident c q))

pub written_keeps : (p : Setup) (own : ℕ → ℕ → Bool) (w : Work) (memory : List ℕ) → All (IsPlaced p.plant.line p.plant.memory) p.devices →
    ((k a : ℕ) → k < length p.tasks → own k a ≡ true → IsFree p (a / p.plant.line)) → IsKept p w.cache w.memory → Written p w.memory memory →
    BusKeeps p own w memory
written_keeps p own w _ placed free h unwritten = record { view = λ k a lt o. refl; kept = h }
written_keeps p own w _ placed free h (wrote device line value l) = word_keeps p own w device line value placed free h l
