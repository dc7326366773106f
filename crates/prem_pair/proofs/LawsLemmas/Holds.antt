-- Over a run of two cores all that is known of each core holds, and time is spent by a core that works, by a transfer, or before the
-- last release.
use Rattle.std.proofs.Common.{◌≡◌, ℕ, ◌+◌, ◌<◌, ◌≤◌, refl, ap, ◌∙◌, sym, subst, arith, cond, Option, true, false, Bool, List, ◌⊎◌, inl, inr, ⊎_elim}
use Rattle.std.specs.Prelude.{is_some, ◌&&◌, not, max}
use Rattle.prem_pair.proofs.Prelude.{move_cases, settle_keeps, AreGates, turn_with, bump_move, want_of, CoreMove, Passes, Issues, phase_in, Arrivals, with_memory, move_at, joined, with_now}
use Rattle.prem_pair.proofs.Prelude.{next_cycle, ticked, is_finished, one_if, MachineState, Mode, Point, Switching, Running, Idle, GatesState, Turned, wants, Carried, Request, PairState}
use Rattle.prem_pair.proofs.Prelude.{move_under, no_arrivals, both_ticked, second_done, first_done, ended_in_place, pair_cycle, both_finished, asks, some_wait, holder_with, is_first}
use Rattle.prem_pair.proofs.Prelude.{is_second, is_gates, holder_after, window_given, want_with, Holder, Nobody, First, Second, Gates, Meets, off_after, off_behind, core_off, last_release}
use Rattle.prem_pair.proofs.Prelude.{cases_Bool, cond_both}
use Rattle.prem_pair.proofs.LawsLemmas.Facts.{not_true, both_true, quiet_now, finished_asks, finished_needs, HostsDevices, Tokened, arrived_now, holder_now, bus_now, gated_now}
use Rattle.prem_pair.proofs.LawsLemmas.Facts.{gates_transfer, turned_first, turned_second, move_first, move_second, gates_next, first_meets, second_meets}
use Rattle.prem_pair.proofs.LawsLemmas.Gating.{transfers, turn_one, Gated, load, asked_before, asked_next, arrivals_load, turn_load, turn_gated}
use Rattle.prem_pair.proofs.LawsLemmas.Hosted.{Hosted, CoreHolds, CoreSteps, core_steps}
use Rattle.prem_pair.proofs.LawsLemmas.Tokens.{core_needs, StillHolds, LetMove, let_moves, held_still, let_still, first_after, second_after, gates_after, first_had, second_had, first_keeps}
use Rattle.prem_pair.proofs.LawsLemmas.Tokens.{second_keeps}

-- ---- one core

-- what a core does in a cycle: it works, or the cycle comes before its last release, or it has finished, or it waits for the token
pub data Rests (works : Type 0) (before : Type 0) (holds : Bool) (s : MachineState) : Type 0 where
  it_works : works → Rests works before holds s
  it_idles : before → Rests works before holds s
  it_has_finished : is_finished s ≡ true → Rests works before holds s
  it_waits : holds ≡ false → asks s ≡ true → Rests works before holds s

and_parts_not : (a b : Bool) → (not a && b) ≡ true → (a ≡ false) × (b ≡ true)
and_parts_not true b h = absurd (let x : false ≡ true = h in cc)
and_parts_not false b h = (refl, h)

module _ (g : Hosted) where
  abbrev pub RestsIn : Bool → ℕ → CoreMove → MachineState → Type 0
  RestsIn holds off m s = Rests (off_behind m off ≡ off) (s.now < last_release g.setup.tasks) holds s

  core_rests : (holds : Bool) (off : ℕ) (at : ℕ → ℕ) (b : Turned) (s : MachineState) → CoreHolds g off at s →
      (wants (want_of s.core.debt) ≡ true → b.turn.core ≡ true) → RestsIn holds off (move_under holds g.setup b s) s
  core_rests holds off at b s h serves =
      cond_both (not holds && asks s) (Passes s.core) (move_at g.setup b s) (λ m. RestsIn holds off m s)
      (λ yes. it_waits (and_parts_not holds (asks s) yes).0 (and_parts_not holds (asks s) yes).1)
      (λ _.
      ⊎_elim (λ (f : is_finished s ≡ true). it_has_finished f)
      (λ (go : is_finished s ≡ false).
      ⊎_elim (λ (x : off_behind (move_at g.setup b s) off ≡ off). it_works x) (λ (x : s.now < last_release g.setup.tasks). it_idles x)
      (core_off g.rule g.order g.passes g.setup g.own g.runs g.scripts g.policy g.keep g.jobs_are g.periods g.charged.scopings g.charged.scoped
      g.charged.total g.charged.totals off at b (move_at g.setup b s) s h.known h.timed
      (move_cases g.setup s.now b.turn.core s.sched (with_memory b.memory s.work) s.core) serves go))
      (cases_Bool (is_finished s)))

  -- the token behind its part of a cycle
  core_token : (holds : Bool) (off : ℕ) (at : ℕ → ℕ) (a : Arrivals) (b : Turned) (s : MachineState) → CoreHolds g off at s →
      CoreSteps g off at a b (move_under holds g.setup b s) s → (holds ≡ true → (core_needs s ≡ true) ⊎ (asks s ≡ true)) →
      (holds ≡ false → core_needs s ≡ false) → StillHolds holds (ticked (joined a b (turn_with g.rule g.setup b (move_under holds g.setup b s) s) s))
  core_token true off at a b s h st has none =
      held_still g a b (move_at g.setup b s) s st.turned (move_cases g.setup s.now b.turn.core s.sched (with_memory b.memory s.work) s.core) h.known.closes.runs (has refl)
  core_token false off at a b s h st has none =
      let_still g a b (move_under false g.setup b s) s st.turned
      (cond_both (asks s) (Passes s.core) (move_at g.setup b s) (LetMove (phase_in s.work)) (λ _. none refl)
      (λ quiet. let_moves (phase_in s.work) g.setup s.now b.turn.core s.sched (with_memory b.memory s.work) s.core (move_at g.setup b s)
      (move_cases g.setup s.now b.turn.core s.sched (with_memory b.memory s.work) s.core) h.needs.executes (none refl) quiet))

  -- behind the end of the cycle
  core_next : (off : ℕ) (at : ℕ → ℕ) (a : Arrivals) (b : Turned) (m : CoreMove) (s : MachineState) → CoreSteps g off at a b m s →
      ticked (joined a b (turn_with g.rule g.setup b m s) s) ≡ next_cycle (joined a b (turn_with g.rule g.setup b m s) s)
  core_next off at a b m s st =
      let j : MachineState = joined a b (turn_with g.rule g.setup b m s) s in
      ap (λ o. cond (is_some o) j (next_cycle j)) st.came.position.untrapped

-- ---- time

mode_more : (m : Mode) (off : ℕ) → off_after m off ≤ off + 1
mode_more Point off = omega arith
mode_more (Switching k left) off = omega arith
mode_more (Running k) off = omega arith
mode_more (Idle until) off = omega arith

off_more : (m : CoreMove) (off : ℕ) → off_behind m off ≤ off + 1
off_more (Passes c) off = mode_more c.mode off
off_more (Issues k i) off = omega arith

-- so many cycles have passed in which neither core has worked and no transfer has had the bus
pub record Spans (now off off' gone last : ℕ) : Type 0 where
  pub idle : ℕ
  pub low : idle ≤ now
  pub high : idle ≤ last
  pub time : off + off' ≤ idle + now + gone

spans_work : (now off off' gone last more more' : ℕ) (t : Bool) → more ≡ off → more' ≤ off' + 1 → Spans now off off' gone last → Spans (now + 1) more more' (gone + one_if t) last
spans_work now off off' gone last more more' t e le h = record {
  idle = h.idle;
  low = (let l : h.idle ≤ now = h.low in omega arith);
  high = h.high;
  time = omega (arith, e, le, h.time);
}

spans_rest : (now off off' gone last more more' : ℕ) (t : Bool) → more ≤ off + 1 → more' ≡ off' → Spans now off off' gone last → Spans (now + 1) more more' (gone + one_if t) last
spans_rest now off off' gone last more more' t le e h = record {
  idle = h.idle;
  low = (let l : h.idle ≤ now = h.low in omega arith);
  high = h.high;
  time = omega (arith, e, le, h.time);
}

spans_transfer : (now off off' gone last more more' : ℕ) (t : Bool) → more ≤ off + 1 → more' ≤ off' + 1 → t ≡ true → Spans now off off' gone last → Spans (now + 1) more more' (gone + one_if t) last
spans_transfer now off off' gone last more more' t le le' e h = record {
  idle = h.idle;
  low = (let l : h.idle ≤ now = h.low in omega arith);
  high = h.high;
  time = (let one : one_if t ≡ 1 = ap one_if e in omega (arith, le, le', one, h.time));
}

spans_idle : (now off off' gone last more more' : ℕ) (t : Bool) → more ≤ off + 1 → more' ≤ off' + 1 → now < last → Spans now off off' gone last → Spans (now + 1) more more' (gone + one_if t) last
spans_idle now off off' gone last more more' t le le' lt h = record {
  idle = h.idle + 1;
  low = (let l : h.idle ≤ now = h.low in omega arith);
  high = (let l : h.idle ≤ now = h.low in omega (arith, l, lt));
  time = omega (arith, le, le', h.time);
}

left_max : (n a b : ℕ) → n < a → n < max a b
left_max n a b h = omega (arith, h)

right_max : (n a b : ℕ) → n < b → n < max a b
right_max n a b h = omega (arith, h)

-- who has the token where a core asks for it in vain
other_holds : (h : Holder) (a b w : Bool) → is_first (holder_with h a b w) ≡ false → a ≡ true → (is_second (holder_with h a b w) ≡ true) ⊎ (is_gates (holder_with h a b w) ≡ true)
other_holds First a b w e f = absurd (let x : true ≡ false = e in cc)
other_holds Second a b w e f = inl refl
other_holds Gates a b w e f = inr refl
other_holds Nobody true b w e f = absurd (let x : true ≡ false = e in cc)
other_holds Nobody false b w e f = absurd (let x : false ≡ true = f in cc)

first_holds : (h : Holder) (a b w : Bool) → is_second (holder_with h a b w) ≡ false → b ≡ true → (is_first (holder_with h a b w) ≡ true) ⊎ (is_gates (holder_with h a b w) ≡ true)
first_holds First a b w e f = inl refl
first_holds Second a b w e f = absurd (let x : true ≡ false = e in cc)
first_holds Gates a b w e f = inr refl
first_holds Nobody true b w e f = inl refl
first_holds Nobody false true w e f = absurd (let x : true ≡ false = e in cc)
first_holds Nobody false false w e f = absurd (let x : false ≡ true = f in cc)

-- ---- both

-- all that is known of a state, and what else is known of it where the tasks have issued so many instructions each
pub record PairHolds (g k : Hosted) (requests : List Request) (More : (ℕ → ℕ) → (ℕ → ℕ) → PairState → Type 0) (s : PairState) : Type 0 where
  pub off : ℕ
  pub off' : ℕ
  pub at : ℕ → ℕ
  pub at' : ℕ → ℕ
  pub first : CoreHolds g off at s.first
  pub second : CoreHolds k off' at' s.second
  pub same_now : s.second.now ≡ s.first.now
  pub gates : AreGates g.setup s.first.gates
  pub gated : Gated g.setup s.first.gates
  pub tokened : Tokened s
  pub gone : ℕ
  pub served : gone + load s.first.gates ≤ asked_before s.first.now g.setup requests
  pub spans : Spans s.first.now off off' gone (max (last_release g.setup.tasks) (last_release k.setup.tasks))
  pub more : More at at' s

-- what else is known may change
pub holds_more : (g k : Hosted) (requests : List Request) (More Other : (ℕ → ℕ) → (ℕ → ℕ) → PairState → Type 0) (s : PairState) →
    ((at at' : ℕ → ℕ) → More at at' s → Other at at' s) → PairHolds g k requests More s → PairHolds g k requests Other s
holds_more g k requests More Other s f x = record {
  off = x.off;
  off' = x.off';
  at = x.at;
  at' = x.at';
  first = x.first;
  second = x.second;
  same_now = x.same_now;
  gates = x.gates;
  gated = x.gated;
  tokened = x.tokened;
  gone = x.gone;
  served = x.served;
  spans = x.spans;
  more = f x.at x.at' x.more;
}

-- ---- a cycle

module _ (g k : Hosted) (requests : List Request) (d : HostsDevices g requests) (More : (ℕ → ℕ) → (ℕ → ℕ) → PairState → Type 0) (s : PairState) (x : PairHolds g k requests More s) where
  abbrev pub arriving : Arrivals
  arriving = arrived_now g k requests d s x.tokened x.gates x.gated

  abbrev pub holder : Holder
  holder = holder_now g k requests d s x.tokened x.gates x.gated

  abbrev pub bus : Turned
  bus = bus_now g k requests d s x.tokened x.gates x.gated

  abbrev pub bus0 : Turned
  bus0 = turned_first g k requests d s x.tokened x.gates x.gated x.off x.off' x.at x.at' x.first x.second

  abbrev pub bus1 : Turned
  bus1 = turned_second g k requests d s x.tokened x.gates x.gated x.off x.off' x.at x.at' x.first x.second

  abbrev pub move0 : CoreMove
  move0 = move_first g k requests d s x.tokened x.gates x.gated x.off x.off' x.at x.at' x.first x.second

  abbrev pub move1 : CoreMove
  move1 = move_second g k requests d s x.tokened x.gates x.gated x.off x.off' x.at x.at' x.first x.second

  abbrev pub acted0 : MachineState
  acted0 = joined arriving bus0 (turn_with g.rule g.setup bus0 move0 s.first) s.first

  abbrev pub acted1 : MachineState
  acted1 = joined (no_arrivals s.second) bus1 (turn_with k.rule k.setup bus1 move1 s.second) s.second

  pub meets0 : Meets g.setup g.own bus0 move0 s.first
  meets0 = first_meets g k requests d s x.tokened x.gates x.gated x.off x.off' x.at x.at' x.first x.second

  pub meets1 : Meets k.setup k.own bus1 move1 s.second
  meets1 = second_meets g k requests d s x.tokened x.gates x.gated x.off x.off' x.at x.at' x.first x.second

  pub steps0 : CoreSteps g x.off x.at arriving bus0 move0 s.first
  steps0 = core_steps g x.off x.at arriving bus0 move0 s.first x.first meets0

  pub steps1 : CoreSteps k x.off' x.at' (no_arrivals s.second) bus1 move1 s.second
  steps1 = core_steps k x.off' x.at' (no_arrivals s.second) bus1 move1 s.second x.second meets1

  -- ---- the state behind the cycle

  abbrev pub ended : PairState
  ended = record { first = ticked acted0; second = ticked acted1; holder = holder_after holder (ticked acted0).core (ticked acted1).core (is_some bus.turn.ended) }

  first_goes : first_done k.rule k.setup holder bus acted0 s ≡ second_done holder bus acted0 acted1
  first_goes = ap (λ o. cond (is_some o) (record { first = acted0; second = s.second; holder = holder }) (second_done holder bus acted0 acted1)) steps0.came.position.untrapped

  second_goes : second_done holder bus acted0 acted1 ≡ both_ticked holder bus acted0 acted1
  second_goes = ap (λ o. cond (is_some o) (record { first = ended_in_place acted0; second = acted1; holder = holder }) (both_ticked holder bus acted0 acted1)) steps1.came.position.untrapped

  ticks : both_ticked holder bus acted0 acted1 ≡ ended
  ticks =
      let e0 : ticked acted0 ≡ next_cycle acted0 = core_next g x.off x.at arriving bus0 move0 s.first steps0 in
      let e1 : ticked acted1 ≡ next_cycle acted1 = core_next k x.off' x.at' (no_arrivals s.second) bus1 move1 s.second steps1 in
      λ i. record { first = sym e0 i; second = sym e1 i; holder = holder_after holder (sym e0 i).core (sym e1 i).core (is_some bus.turn.ended) }

  pub next_is : pair_cycle g.rule k.rule g.setup k.setup requests s ≡ ended
  next_is = first_goes ∙ second_goes ∙ ticks

  -- ---- the token behind it

  has_first : is_first holder ≡ true → (core_needs s.first ≡ true) ⊎ (asks s.first ≡ true)
  has_first e =
      ⊎_elim (λ (y : is_first s.holder ≡ true). inl (sym x.tokened.first ∙ y)) (λ (y : asks s.first ≡ true). inr y)
      (first_had s.holder (asks s.first) (asks s.second) (some_wait arriving.gates.gates) e)

  has_second : is_second holder ≡ true → (core_needs s.second ≡ true) ⊎ (asks s.second ≡ true)
  has_second e =
      ⊎_elim (λ (y : is_second s.holder ≡ true). inl (sym x.tokened.second ∙ y)) (λ (y : asks s.second ≡ true). inr y)
      (second_had s.holder (asks s.first) (asks s.second) (some_wait arriving.gates.gates) e)

  lacks_first : is_first holder ≡ false → core_needs s.first ≡ false
  lacks_first e =
      not_true (core_needs s.first) (λ y. let z : true ≡ false = sym (first_keeps s.holder (asks s.first) (asks s.second) (some_wait arriving.gates.gates) (x.tokened.first ∙ y)) ∙ e in cc)

  lacks_second : is_second holder ≡ false → core_needs s.second ≡ false
  lacks_second e =
      not_true (core_needs s.second) (λ y. let z : true ≡ false = sym (second_keeps s.holder (asks s.first) (asks s.second) (some_wait arriving.gates.gates) (x.tokened.second ∙ y)) ∙ e in cc)

  still0 : StillHolds (is_first holder) (ticked acted0)
  still0 = core_token g (is_first holder) x.off x.at arriving bus0 s.first x.first steps0 has_first lacks_first

  still1 : StillHolds (is_second holder) (ticked acted1)
  still1 = core_token k (is_second holder) x.off' x.at' (no_arrivals s.second) bus1 s.second x.second steps1 has_second lacks_second

  pub same_gates : (ticked acted0).gates ≡ bus.gates
  same_gates = ap (λ (z : MachineState). z.gates) (core_next g x.off x.at arriving bus0 move0 s.first steps0) ∙ (settle_keeps acted0.core.mode (with_now acted0 (acted0.now + 1))).gates

  pub next_now0 : (ticked acted0).now ≡ s.first.now + 1
  next_now0 = ap (λ (z : MachineState). z.now) (core_next g x.off x.at arriving bus0 move0 s.first steps0) ∙ (settle_keeps acted0.core.mode (with_now acted0 (acted0.now + 1))).now

  next_now1 : (ticked acted1).now ≡ s.second.now + 1
  next_now1 = ap (λ (z : MachineState). z.now) (core_next k x.off' x.at' (no_arrivals s.second) bus1 move1 s.second steps1) ∙ (settle_keeps acted1.core.mode (with_now acted1 (acted1.now + 1))).now

  ends_or_goes : (y : Bool) → is_gates holder ≡ y → (y && not (is_some bus.turn.ended)) ≡ is_some bus.gates.carried
  ends_or_goes true e =
      turn_one s.first.now (window_given s.first.now s.holder holder) (want_with holder (want_of s.first.core.debt) (want_of s.second.core.debt)) arriving.gates s.first.work.memory
      (gates_transfer g k requests d s x.tokened x.gates x.gated e)
  ends_or_goes false e = sym (ap (λ (o : Option Carried). is_some o) (quiet_now g k requests d s x.tokened x.gates x.gated e).after)

  tokens_next : Tokened ended
  tokens_next = record {
    first = first_after holder (ticked acted0).core (ticked acted1).core (is_some bus.turn.ended) ∙ sym still0;
    second = second_after holder (ticked acted0).core (ticked acted1).core (is_some bus.turn.ended) ∙ sym still1;
    gates = gates_after holder (ticked acted0).core (ticked acted1).core (is_some bus.turn.ended) ∙ ends_or_goes (is_gates holder) refl ∙ sym (ap (λ (z : GatesState). is_some z.carried) same_gates);
  }

  -- ---- the time of it

  abbrev last : ℕ
  last = max (last_release g.setup.tasks) (last_release k.setup.tasks)

  abbrev SpansNext : Type 0
  SpansNext = Spans (s.first.now + 1) (off_behind move0 x.off) (off_behind move1 x.off') (x.gone + one_if (transfers bus)) last

  no_gates : transfers bus ≡ false → is_gates holder ≡ true → ⊥
  no_gates e f = let y : true ≡ false = sym (gates_transfer g k requests d s x.tokened x.gates x.gated f) ∙ e in cc

  first_goes_on : is_finished s.first ≡ true → is_first holder ≡ true → ⊥
  first_goes_on f e =
      ⊎_elim (λ (y : core_needs s.first ≡ true). finished_needs s.first f y) (λ (y : asks s.first ≡ true). finished_asks s.first.now s.first.sched s.first.core.mode f y) (has_first e)

  second_goes_on : is_finished s.second ≡ true → is_second holder ≡ true → ⊥
  second_goes_on f e =
      ⊎_elim (λ (y : core_needs s.second ≡ true). finished_needs s.second f y) (λ (y : asks s.second ≡ true). finished_asks s.second.now s.second.sched s.second.core.mode f y) (has_second e)

  by_rests : both_finished s ≡ false → transfers bus ≡ false → RestsIn g (is_first holder) x.off move0 s.first → RestsIn k (is_second holder) x.off' move1 s.second → SpansNext
  by_rests go quiet (it_works e) r = spans_work s.first.now x.off x.off' x.gone last (off_behind move0 x.off) (off_behind move1 x.off') (transfers bus) e (off_more move1 x.off') x.spans
  by_rests go quiet (it_idles lt) r =
      spans_idle s.first.now x.off x.off' x.gone last (off_behind move0 x.off) (off_behind move1 x.off') (transfers bus) (off_more move0 x.off)
      (off_more move1 x.off') (left_max s.first.now (last_release g.setup.tasks) (last_release k.setup.tasks) lt) x.spans
  by_rests go quiet (it_has_finished f) (it_works e) =
      spans_rest s.first.now x.off x.off' x.gone last (off_behind move0 x.off) (off_behind move1 x.off') (transfers bus) (off_more move0 x.off) e x.spans
  by_rests go quiet (it_waits n w) (it_works e) = spans_rest s.first.now x.off x.off' x.gone last (off_behind move0 x.off) (off_behind move1 x.off') (transfers bus) (off_more move0 x.off) e x.spans
  by_rests go quiet (it_has_finished f) (it_idles lt) =
      spans_idle s.first.now x.off x.off' x.gone last (off_behind move0 x.off) (off_behind move1 x.off') (transfers bus) (off_more move0 x.off) (off_more move1 x.off')
      (right_max s.first.now (last_release g.setup.tasks) (last_release k.setup.tasks) (omega (arith, lt, x.same_now))) x.spans
  by_rests go quiet (it_waits n w) (it_idles lt) =
      spans_idle s.first.now x.off x.off' x.gone last (off_behind move0 x.off) (off_behind move1 x.off') (transfers bus) (off_more move0 x.off) (off_more move1 x.off')
      (right_max s.first.now (last_release g.setup.tasks) (last_release k.setup.tasks) (omega (arith, lt, x.same_now))) x.spans
  by_rests go quiet (it_has_finished f) (it_has_finished f') = absurd (let y : true ≡ false = sym (both_true (is_finished s.first) (is_finished s.second) f f') ∙ go in cc)
  by_rests go quiet (it_has_finished f) (it_waits n' w') =
      ⊎_elim (λ (y : is_first holder ≡ true). absurd (first_goes_on f y)) (λ (y : is_gates holder ≡ true). absurd (no_gates quiet y))
      (first_holds s.holder (asks s.first) (asks s.second) (some_wait arriving.gates.gates) n' w')
  by_rests go quiet (it_waits n w) (it_has_finished f') =
      ⊎_elim (λ (y : is_second holder ≡ true). absurd (second_goes_on f' y)) (λ (y : is_gates holder ≡ true). absurd (no_gates quiet y))
      (other_holds s.holder (asks s.first) (asks s.second) (some_wait arriving.gates.gates) n w)
  by_rests go quiet (it_waits n w) (it_waits n' w') =
      ⊎_elim (λ (y : is_second holder ≡ true). absurd (let z : true ≡ false = sym y ∙ n' in cc)) (λ (y : is_gates holder ≡ true). absurd (no_gates quiet y))
      (other_holds s.holder (asks s.first) (asks s.second) (some_wait arriving.gates.gates) n w)

  spans_next : both_finished s ≡ false → SpansNext
  spans_next go =
      ⊎_elim (λ (y : transfers bus ≡ true). spans_transfer s.first.now x.off x.off' x.gone last (off_behind move0 x.off) (off_behind move1 x.off')
      (transfers bus) (off_more move0 x.off) (off_more move1 x.off') y x.spans)
      (λ (y : transfers bus ≡ false).
      by_rests go y (core_rests g (is_first holder) x.off x.at bus0 s.first x.first meets0.serves) (core_rests k (is_second holder) x.off' x.at' bus1 s.second x.second meets1.serves))
      (cases_Bool (transfers bus))

  served_next : x.gone + one_if (transfers bus) + load bus.gates ≤ asked_before (s.first.now + 1) g.setup requests
  served_next =
      omega (
        arith,
        x.served,
        arrivals_load g.setup s.first.now requests (record { gates = s.first.gates; dropped = s.first.log.dropped }) d.asked x.gated,
        turn_load g.setup s.first.now (window_given s.first.now s.holder holder)
            (want_with holder (want_of s.first.core.debt) (want_of s.second.core.debt)) arriving.gates s.first.work.memory d.costs
            (gated_now g k requests d s x.tokened x.gates x.gated),
        asked_next s.first.now g.setup requests,
      )

  -- all that is known holds again
  pub cycle_holds : (Next : (ℕ → ℕ) → (ℕ → ℕ) → PairState → Type 0) → both_finished s ≡ false →
      Next (bump_move move0 x.at) (bump_move move1 x.at') ended → PairHolds g k requests Next (pair_cycle g.rule k.rule g.setup k.setup requests s)
  cycle_holds Next go more = subst (PairHolds g k requests Next) (sym next_is) (record {
    off = off_behind move0 x.off;
    off' = off_behind move1 x.off';
    at = bump_move move0 x.at;
    at' = bump_move move1 x.at';
    first = steps0.holds;
    second = steps1.holds;
    same_now = next_now1 ∙ ap (λ n. n + 1) x.same_now ∙ sym next_now0;
    gates = subst (AreGates g.setup) (sym same_gates) (gates_next g k requests d s x.tokened x.gates x.gated x.off x.off' x.at x.at' x.first x.second);
    gated = subst (Gated g.setup) (sym same_gates)
        (turn_gated g.setup s.first.now (window_given s.first.now s.holder holder)
        (want_with holder (want_of s.first.core.debt) (want_of s.second.core.debt)) arriving.gates s.first.work.memory
        (gated_now g k requests d s x.tokened x.gates x.gated));
    tokened = tokens_next;
    gone = x.gone + one_if (transfers bus);
    served = subst (λ n. x.gone + one_if (transfers bus) + load (ticked acted0).gates ≤ asked_before n g.setup requests) (sym next_now0)
        (subst (λ (z : GatesState). x.gone + one_if (transfers bus) + load z ≤ asked_before (s.first.now + 1) g.setup requests) (sym same_gates) served_next);
    spans = subst (λ n. Spans n (off_behind move0 x.off) (off_behind move1 x.off') (x.gone + one_if (transfers bus)) last) (sym next_now0) (spans_next go);
    more = more;
  })
