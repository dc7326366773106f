use Rattle.std.proofs.Common.{◌≡◌, ℕ, true, length, ap, sym, ◌∙◌, refl, subst, arith, List, All}
use Rattle.prem_pair.proofs.Prelude.{Arrivals, arrivals, arrivals_at, with_clash, devices_reported, one_if, Log, Work, DeviceFacts, turn_places, GatesState, Turned, bus_turn, LiesIn}
use Rattle.prem_pair.proofs.Prelude.{SamePlaces, BusTurn, with_last, items_of, few_kept, rooms_kept, same_log, same_state, told_again, told_still, counts_in, arrivals_in, dropped_in}
use Rattle.prem_pair.proofs.Prelude.{ended_in, work_in, bus_in, holder_in, pair_of, bus_first, asks, holder_with, some_wait, bus_done, with_items_is, is_some, IsSome}
use Rattle.prem_cycle.specs.declared.facts.TaskFacts.{TaskFacts}
use Rattle.prem_list.specs.declared.Sequence.{Sequence}
use Rattle.prem_machine.proofs.Busy.{length-bus_turn, length-with_last, turn_pending}
use Rattle.prem_machine.specs.Requests.{pending}
use Rattle.prem_pair.proofs.Meeting.{same_bus, same_clash, still_free}
use Rattle.prem_pair.proofs.both.Both.meet.Goals as goal

pub bus_cycle-turn-requires-clause-areas : goal.bus_cycle-turn-requires-clause-areas
bus_cycle-turn-requires-clause-areas g c = c.deliver-self.ensures.places.lie _ c.requires.stands.areas

pub log_turn-requires-clause-room : goal.log_turn-requires-clause-room
log_turn-requires-clause-room g c = λ (some : IsSome c.bus_cycle-turn.result.ended).
    let some : is_some c.bus_cycle-turn.result.ended ≡ true = some in
    let n = turn_pending c.args.self.now.first.now c.window_given.result c.want_with.result c.deliver-self.new.gates c.args.self.now.first.work.memory in
    let turn = ap (λ (b : BusTurn). one_if (is_some b.ended)) c.bus_cycle-turn.ensures.turn in
    let one = ap one_if some in
    omega (arith, n, turn, one, c.requires.arrives.pending, c.deliver-self.ensures.pending, c.deliver-self.ensures.after.within, c.requires.stands.rooms.transfers)

pub returns-clause-turn : goal.returns-clause-turn
returns-clause-turn g c =
    let old = c.args.self.now in
    let s = pair_of old in
    let arrive = c.deliver-self.ensures.arrived ∙ ap (λ (ds : List DeviceFacts). arrivals old.first.now c.args.requests.now (arrivals_in old.first.gates ds)) c.items_mut.ensures.value in
    let gates = ap (λ (a : Arrivals). a.gates) arrive in
    let holder : c.holder_now-holder.result ≡ holder_in c.args.requests.now s =
    c.holder_now-holder.ensures ∙ ap (λ (g : GatesState). holder_with old.holder (asks s.first) (asks s.second) (some_wait g.gates)) gates in
    c.bus_cycle-turn.ensures.turn
    ∙ ap (λ (t : Turned). t.turn) (same_bus old.first.now old.holder c.holder_now-holder.result (holder_in c.args.requests.now s)
    c.window_given.result c.want_with.result c.wants-first.result c.wants-second.result _ _ c.deliver-self.new.gates _ old.first.work.memory
    holder c.window_given.ensures c.want_with.ensures c.wants-first.ensures c.wants-second.ensures gates)

pub returns-clause-free : goal.returns-clause-free
returns-clause-free g c = λ ne.
    let old = c.args.self.now in
    let s = pair_of old in
    ap (λ (g : GatesState). g.carried) c.bus_cycle-turn.ensures.gates
    ∙ ap (λ w. (bus_turn old.first.now w c.want_with.result c.deliver-self.new.gates old.first.work.memory).gates.carried) c.window_given.ensures
    ∙ still_free old.first.now old.holder c.holder_now-holder.result (asks s.first) (asks s.second) (some_wait c.deliver-self.new.gates.gates)
    c.want_with.result c.deliver-self.new.gates old.first.work.memory c.holder_now-holder.ensures ne
    (λ nb. c.deliver-self.ensures.carried ∙ c.requires.free nb)

pub returns-clause-arrives : goal.returns-clause-arrives
returns-clause-arrives g c =
    let old = c.args.self.now.first in
    let served = c.log_turn.new in
    let first : length c.deliver-self.new.devices ≡ old.facts.devices.all.len =
    c.deliver-self.auto.devices ∙ ap length c.items_mut.ensures.value ∙ sym old.facts.devices.all.ok.0 in
    let again : length c.tell_waiting.new.devices ≡ served.facts.devices.all.len =
    c.tell_waiting.auto.devices ∙ ap length c.items_mut-2.ensures.value ∙ sym served.facts.devices.all.ok.0 in
    let final = with_items_is served.facts.devices.all c.tell_waiting.new.devices again in
    let told = final ∙ c.tell_waiting.ensures ∙ ap (λ (ds : List DeviceFacts). devices_reported c.bus_cycle-turn.new.self 0 (dropped_in ds)) c.items_mut-2.ensures.value in
    let delivered : items_of served.facts.devices ≡ c.deliver-self.new.devices = c.log_turn.ensures.devices ∙ with_items_is old.facts.devices.all c.deliver-self.new.devices first in
    let n = turn_pending old.now c.window_given.result c.want_with.result c.deliver-self.new.gates old.work.memory in
    let turn = ap (λ (b : BusTurn). one_if (is_some b.ended)) c.bus_cycle-turn.ensures.turn in
    let gates = ap pending c.bus_cycle-turn.ensures.gates in
    let log = ap (λ (l : Log). length l.transfers) c.log_turn.ensures.log in
    let more = length-with_last c.bus_cycle-turn.result.ended (items_of old.facts.transfers) in
    record {
      arrived = c.deliver-self.ensures.after;
      few = few_kept c.deliver-self.result c.deliver-self.new.devices _ (told_again c.bus_cycle-turn.new.self _ _ told ∙ ap dropped_in delivered) c.deliver-self.ensures.few;
      pending = omega (arith, n, turn, gates, log, more, c.requires.arrives.pending, c.deliver-self.ensures.pending);
    }

pub returns-clause-stands : goal.returns-clause-stands
returns-clause-stands g c =
    let old = c.args.self.now.first in
    let s = c.requires.stands in
    let served = c.log_turn.new in
    let first : length c.deliver-self.new.devices ≡ old.facts.devices.all.len =
    c.deliver-self.auto.devices ∙ ap length c.items_mut.ensures.value ∙ sym old.facts.devices.all.ok.0 in
    let again : length c.tell_waiting.new.devices ≡ served.facts.devices.all.len =
    c.tell_waiting.auto.devices ∙ ap length c.items_mut-2.ensures.value ∙ sym served.facts.devices.all.ok.0 in
    let final = with_items_is served.facts.devices.all c.tell_waiting.new.devices again in
    let told = final ∙ c.tell_waiting.ensures ∙ ap (λ (ds : List DeviceFacts). devices_reported c.bus_cycle-turn.new.self 0 (dropped_in ds)) c.items_mut-2.ensures.value in
    let delivered : items_of served.facts.devices ≡ c.deliver-self.new.devices = c.log_turn.ensures.devices ∙ with_items_is old.facts.devices.all c.deliver-self.new.devices first in
    let bytes = length old.work.memory in
    let places : SamePlaces c.deliver-self.new.gates c.bus_cycle-turn.new.self =
    (let P : GatesState → Type 0 = λ g. SamePlaces c.deliver-self.new.gates g in
    subst P (sym c.bus_cycle-turn.ensures.gates) (turn_places old.now c.window_given.result c.want_with.result c.deliver-self.new.gates old.work.memory)) in
    let gates : length c.bus_cycle-turn.new.self.gates ≡ length c.deliver-self.new.gates.gates =
    ap (λ (g : GatesState). length g.gates) c.bus_cycle-turn.ensures.gates ∙ length-bus_turn old.now c.window_given.result c.want_with.result c.deliver-self.new.gates old.work.memory in
    let Q : ℕ → Type 0 = λ n. All (LiesIn c.bus_cycle-turn.new.self.line n) c.bus_cycle-turn.new.self.gates in
    record {
      memory = c.bus_cycle-turn.ensures.len ∙ s.memory;
      cache = s.cache;
      cores = s.cores;
      target = s.target;
      tasks = s.tasks;
      told = ap (λ (t : Sequence TaskFacts). ended_in (items_of t)) c.log_turn.ensures.tasks ∙ s.told;
      jobs = s.jobs;
      periods = s.periods;
      lines = λ k d lt. places.has _ _ (c.deliver-self.ensures.places.has _ _ (s.lines k d lt));
      areas = subst Q (sym c.bus_cycle-turn.ensures.len) (places.lie bytes (c.deliver-self.ensures.places.lie bytes s.areas));
      devices = ap length final ∙ c.tell_waiting.auto.devices ∙ ap length c.items_mut-2.ensures.value ∙ ap length delivered
          ∙ c.deliver-self.auto.devices ∙ ap length c.items_mut.ensures.value ∙ s.devices ∙ sym (gates ∙ c.deliver-self.ensures.count);
      eight = omega (arith, gates, c.deliver-self.ensures.count, s.eight);
      waiting = told_still c.bus_cycle-turn.new.self _ _ told;
      rooms =
          (let r0 = rooms_kept c.args.requests.now _ c.log_turn.new.facts c.log_turn.ensures.room
          (record { outputs = s.rooms.outputs; intervals = s.rooms.intervals; transfers = s.rooms.transfers }) in
          record { outputs = r0.outputs; intervals = r0.intervals; transfers = r0.transfers });
    }

pub returns-clause-first : goal.returns-clause-first
returns-clause-first g c =
    let old = c.args.self.now in
    let s = pair_of old in
    let served = c.log_turn.new in
    let arrive = c.deliver-self.ensures.arrived ∙ ap (λ (ds : List DeviceFacts). arrivals old.first.now c.args.requests.now (arrivals_in old.first.gates ds)) c.items_mut.ensures.value in
    let gates = ap (λ (a : Arrivals). a.gates) arrive in
    let holder : c.holder_now-holder.result ≡ holder_in c.args.requests.now s =
    c.holder_now-holder.ensures ∙ ap (λ (g : GatesState). holder_with old.holder (asks s.first) (asks s.second) (some_wait g.gates)) gates in
    let bus = same_bus old.first.now old.holder c.holder_now-holder.result (holder_in c.args.requests.now s)
    c.window_given.result c.want_with.result c.wants-first.result c.wants-second.result _ _ c.deliver-self.new.gates _ old.first.work.memory
    holder c.window_given.ensures c.want_with.ensures c.wants-first.ensures c.wants-second.ensures gates in
    let clash = same_clash c.two_want-clash.result c.is_wanted.result c.is_wanted-2.result c.is_gates.result c.wants-first.result
    c.wants-second.result _ _ c.holder_now-holder.result (holder_in c.args.requests.now s)
    c.two_want-clash.ensures c.is_wanted.ensures c.is_wanted-2.ensures c.is_gates.ensures c.wants-first.ensures c.wants-second.ensures holder in
    let first : length c.deliver-self.new.devices ≡ old.first.facts.devices.all.len =
    c.deliver-self.auto.devices ∙ ap length c.items_mut.ensures.value ∙ sym old.first.facts.devices.all.ok.0 in
    let again : length c.tell_waiting.new.devices ≡ served.facts.devices.all.len =
    c.tell_waiting.auto.devices ∙ ap length c.items_mut-2.ensures.value ∙ sym served.facts.devices.all.ok.0 in
    let told = with_items_is served.facts.devices.all c.tell_waiting.new.devices again ∙ c.tell_waiting.ensures
    ∙ ap (λ (ds : List DeviceFacts). devices_reported c.bus_cycle-turn.new.self 0 (dropped_in ds)) c.items_mut-2.ensures.value in
    let delivered : items_of served.facts.devices ≡ c.deliver-self.new.devices = c.log_turn.ensures.devices ∙ with_items_is old.first.facts.devices.all c.deliver-self.new.devices first in
    let log = c.log_turn.ensures.log in
    let target = bus_done (arrivals_at c.args.requests.now s.first) (bus_first (holder_in c.args.requests.now s) (bus_in c.args.requests.now s) s) s.first in
    let work : List ℕ → Work = λ memory. work_in {P = ℕ} (record { cores = old.first.work.cores; cache = old.first.work.cache; memory = memory }) (items_of old.first.facts.tasks) in
    same_state _ target refl
    (ap (λ (ts : Sequence TaskFacts). work_in {P = ℕ} (record { cores = old.first.work.cores; cache = old.first.work.cache; memory = c.bus_cycle-turn.new.mem }) (items_of ts)) c.log_turn.ensures.tasks
    ∙ ap work (c.bus_cycle-turn.ensures.memory ∙ ap (λ (t : Turned). t.memory) bus))
    refl refl (c.bus_cycle-turn.ensures.gates ∙ ap (λ (t : Turned). t.gates) bus)
    (same_log _ target.log (ap (λ (l : Log). l.intervals) log)
    (ap (λ (l : Log). l.transfers) log ∙ ap (λ (b : BusTurn). with_last b.ended (items_of old.first.facts.transfers)) (c.bus_cycle-turn.ensures.turn ∙ ap (λ (t : Turned). t.turn) bus))
    (told_again c.bus_cycle-turn.new.self _ _ told ∙ ap dropped_in delivered ∙ ap (λ (a : Arrivals). a.dropped) arrive)
    (ap (λ (l : Log). l.counts) log ∙ ap (λ b. with_clash b (counts_in old.first.facts)) clash)) refl
