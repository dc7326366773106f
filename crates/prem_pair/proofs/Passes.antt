-- How far two cores rest, and what their parts keep where cycles are passed over.
use Rattle.std.proofs.Common.{◌≡◌, ℕ, ◌+◌, ◌-◌, ◌*◌, ◌≤◌, true, false, List, ap, sym, ◌∙◌, subst, arith, All, length}
use Rattle.prem_pair.proofs.Prelude.{NoneArrive, GateState, GatesState, HasLine, LiesIn, IsNextChange, Request, items_of, SameQueues, arrived_after, counts_more, mode_after, core_within}
use Rattle.prem_pair.proofs.Prelude.{less_arrive, behind_within, behind_from, CoreParts, counts_in, dropped_in, ModeReady, Stands, IsNextArrival, cycle_behind, Moment, Parts, Setting}
use Rattle.prem_pair.proofs.Prelude.{AreBoth, GoOn, pair_of, PairState, is_pair_over, IsSteadyPair, PairRests, rest_with, stays_with, wanted, empty_window, is_first, is_second, Arrives}
use Rattle.prem_pair.proofs.Prelude.{Goes, Both}
use Rattle.prem_cycle.specs.declared.state.Interval.{Interval}

-- ---- how far both rest

-- the cycle up to which both do, where the token stays
pub rests_until : (requests : List Request) (s : PairState) (limit arrival at : ℕ) → stays_with s.holder s ≡ true → IsNextArrival s.first.now limit requests arrival →
    IsNextChange s.first.now empty_window (wanted s) s.first.gates
    (cycle_behind s.first.now (cycle_behind s.first.now arrival (rest_with (is_first s.holder) s.first)) (rest_with (is_second s.holder) s.second)) at →
    PairRests (at - s.first.now) requests s × (at ≤ limit)
rests_until requests s limit arrival at stays a g =
    let now = s.first.now in
    let o = rest_with (is_first s.holder) s.first in
    let u = rest_with (is_second s.holder) s.second in
    let one = cycle_behind now arrival o in
    let from_now = behind_from now arrival o a.not_before in
    let most = behind_within now arrival o a.not_before in
    let both = behind_within now one u from_now in (
      record {
        arrivals = less_arrive (at - now) (arrival - now) now requests (omega (arith, g.within, both, most)) a.none;
        token = stays;
        gates = g.quiet;
        first = core_within now (at - now) arrival o a.not_before (omega (arith, g.within, both));
        second = core_within now (at - now) one u from_now (omega (arith, g.within));
      },
      omega (arith, g.within, both, most, a.within),
    )

-- ---- what both keep

pub steady_pair : {P Q : Type 0} (p q : Setting) (requests : List Request) (x : Both P Q) → AreBoth p q requests x → GoOn requests x → is_pair_over (pair_of x) ≡ false → IsSteadyPair (pair_of x)
steady_pair p q requests x stands on going =
    record { going = going; same_now = stands.same_now; free = on.free; periods = stands.first.periods; other_periods = stands.second.periods }

pub goes_at : {P : Type 0} (x : Parts P) (m : Moment) (core : CoreParts) (at : ℕ) → All (λ j. 1 ≤ j.period) x.sched → x.now ≤ at →
    Goes (4 * x.now + (at - x.now)) x → ModeReady x.now x.sched m.mode → m.interval ≡ x.moment.interval →
    Goes (4 * at) (record x { now = at; moment = m; core = core })
goes_at x m core at periods le r ready interval =
    let first = ap (λ (i : Interval). i.first) interval in
    record {
      ready = mode_after x.now at x.sched m.mode periods le ready;
      first = omega (arith, first, r.first, le);
      counts = counts_more (4 * x.now + (at - x.now)) (4 * at) (counts_in x.facts) r.counts (omega (arith, le));
    }

-- with gates that differ in what is left of their transfer, and so many clashes
abbrev with_gates : {P : Type 0} → Parts P → GatesState → ℕ → Parts P
with_gates x g clashes = record x { gates = g; facts = record x.facts { clashes = clashes } }

pub passed_stands : {P : Type 0} (p : Setting) (requests : List Request) (x : Parts P) (g : GatesState) (clashes : ℕ) → Stands p requests x →
    SameQueues x.gates g → Stands p requests (with_gates x g clashes)
passed_stands p requests x g clashes s same =
    let bytes = length x.work.memory in
    let L : List GateState → Type 0 = λ gs. All (λ r. HasLine gs r.device r.line) requests in
    let A : List GateState → Type 0 = λ gs. All (LiesIn x.gates.line bytes) gs in
    let B : ℕ → Type 0 = λ line. All (LiesIn line bytes) g.gates in
    record {
      memory = s.memory;
      cache = s.cache;
      cores = s.cores;
      target = s.target;
      tasks = s.tasks;
      told = s.told;
      jobs = s.jobs;
      periods = s.periods;
      lines = subst L (sym same.gates) s.lines;
      areas = subst B (sym same.line) (subst A (sym same.gates) s.areas);
      devices = s.devices ∙ ap length (sym same.gates);
      eight = omega (arith, s.eight, ap length same.gates);
      waiting = s.waiting ∙ sym (same.reported 0 (dropped_in (items_of x.facts.devices)));
      rooms = record { outputs = s.rooms.outputs; intervals = s.rooms.intervals; transfers = s.rooms.transfers };
    }

pub passed_arrives : {P : Type 0} (requests : List Request) (x : Parts P) (g : GatesState) (clashes at : ℕ) → Arrives x.now requests x →
    SameQueues x.gates g → x.now ≤ at → NoneArrive (at - x.now) x.now requests →
    Arrives at requests (with_gates x g clashes)
passed_arrives requests x g clashes at r same le none =
    record { arrived = arrived_after x.now at x.arrived requests r.arrived le none; few = r.few; pending = omega (arith, r.pending, same.pending_same) }

pub arrives_later : {P : Type 0} (requests : List Request) (x : Parts P) (at : ℕ) → Arrives x.now requests x → x.now ≤ at → NoneArrive (at - x.now) x.now requests → Arrives at requests x
arrives_later requests x at r le none = record { arrived = arrived_after x.now at x.arrived requests r.arrived le none; few = r.few; pending = r.pending }
