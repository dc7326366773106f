-- A core's part of a cycle, whatever the bus does that serves it and leaves its tasks' bytes: its own move, or none at a
-- scheduling point.
use Rattle.std.proofs.Common.{◌≡◌, ℕ, ◌+◌, refl, ap, ◌∙◌, arith, true, false, Bool, List, length, inl}
use Rattle.prem_sound.proofs.Prelude.{MayMove, does, stands_still, MayMoveIn, turn_with, may_schedule, IsIssued, issued_move, Moves as Scheduled, Stands, Runs, bump_move, BusKeeps}
use Rattle.prem_sound.proofs.Prelude.{bus_stands, Position, moved_position, ticked_position, CoreCloses, ticked_closes, TurnCloses, turn_closes, want_of, CoreMove, Passes, Issues, phase_in}
use Rattle.prem_sound.proofs.Prelude.{Arrivals, with_memory, with_clash, joined, ticked, one_if, WindowCloses, Setup, Work, CoreState, Counts, MachineState, start_of, Point, Running, Turned}
use Rattle.prem_sound.proofs.Prelude.{wants, TaskRun, ReplacementRule, lines_in, OrderRule, TaskJobs, IsPolicy, begun_by, Script}
use Rattle.prem_cycle.proofs.RunsLemmas.WindowLemmas.Moves.{Moves as Windowed, moves as windowed}
use Rattle.prem_sound.proofs.ResidentLemmas.Counted.{NoFaults}
use Rattle.prem_sound.proofs.ResidentLemmas.Keeps.{IsCalm, CalmMove, calm_moves, same_phase, KeepScripts, TurnKeeps, turn_keeps, Keeps, ticked_keeps}
use Rattle.prem_sound.proofs.ResidentLemmas.Residents.{IsThere, Phases, Resides, Moves, moves}

-- ---- moves that may be none

no_clash : (clash : Bool) (n : Counts) → clash ≡ false → NoFaults n → NoFaults (with_clash clash n)
no_clash clash n e f = record {
  exec_misses = f.exec_misses;
  memory_stores = f.memory_stores;
  clashes = ap (λ b. n.clashes + one_if b) e ∙ (let z : n.clashes ≡ 0 = f.clashes in omega arith);
}

-- the task that issues is one of them
there_of : (order : OrderRule) (p : Setup) (runs : ℕ → TaskRun) (scripts : ℕ → Script) (at : ℕ → ℕ) (sched : List TaskJobs) (m : CoreMove) →
    Scheduled p runs at sched m → IsThere order p.plant (length p.tasks) runs scripts m
there_of order p runs scripts at sched (Passes c) h = tt
there_of order p runs scripts at sched (Issues k i) h = h.unfinished.bound

may_reside : (order : OrderRule) (p : Setup) (runs : ℕ → TaskRun) (scripts : ℕ → Script) (at : ℕ → ℕ) (orders : List (List ℕ)) (now : ℕ) (had : Bool)
    (sched : List TaskJobs) (w : Work) (c : CoreState) (m : CoreMove) → MayMove p now had sched w c m →
    IsThere order p.plant (length p.tasks) runs scripts m → Phases order p.plant (length p.tasks) runs scripts at orders w c.mode →
    Resides order p.plant (length p.tasks) runs scripts at orders c.mode c.interval c.mark → Moves order p.plant (length p.tasks) runs scripts at orders m
may_reside order p runs scripts at orders now had sched w c _ (does m x) l ph r = moves order p.plant (length p.tasks) runs scripts at orders p now had sched w c m x l ph r
may_reside order p runs scripts at orders now had sched w c _ (stands_still e) l ph r = r

may_calm : (p : Setup) (now : ℕ) (had : Bool) (sched : List TaskJobs) (w : Work) (c : CoreState) (m : CoreMove) → MayMove p now had sched w c m → IsCalm now c → CalmMove now m
may_calm p now had sched w c _ (does m x) calm = calm_moves p now had sched w c m x calm
may_calm p now had sched w c _ (stands_still e) calm = calm

may_close : (now : ℕ) (p : Setup) (had : Bool) (sched : List TaskJobs) (w : Work) (c : CoreState) (m : CoreMove) → MayMove p now had sched w c m →
    WindowCloses now (phase_in w) c.interval c.mark c.mode c.window → Windowed now (phase_in w) c.window m
may_close now p had sched w c _ (does m x) s = windowed now (phase_in w) p had sched w c m x s
may_close now p had sched w c _ (stands_still e) s = record { closes = s; stays = inl refl }

-- ---- a core in a cycle

-- what a cycle has for a core: the bus leaves its tasks' bytes, serves the core and counts no clash, and the core may do this
pub record Meets (p : Setup) (own : ℕ → ℕ → Bool) (b : Turned) (m : CoreMove) (s : MachineState) : Type 0 where
  pub leaves : BusKeeps p own s.work b.memory
  pub calm : b.turn.clash ≡ false
  pub serves : wants (want_of s.core.debt) ≡ true → b.turn.core ≡ true
  pub may : MayMoveIn p b s m

-- what is known of a core in a state: where its tasks stand, and by when its window is closed
pub record KnownCore (p : Setup) (own : ℕ → ℕ → Bool) (runs : ℕ → TaskRun) (at : ℕ → ℕ) (s : MachineState) : Type 0 where
  pub position : Position p own runs at s
  pub closes : CoreCloses s

module _ (rule : ReplacementRule) (order : OrderRule) (passes : ℕ → ℕ) (p : Setup) (own : ℕ → ℕ → Bool) (runs : ℕ → TaskRun) (scripts : ℕ → Script)
    (policy : IsPolicy rule order passes) (keep : KeepScripts p passes runs scripts) (rs : Runs p own runs) where
  abbrev KeepsAt : (ℕ → ℕ) → MachineState → Type 0
  KeepsAt at s = Keeps rule order passes p own runs scripts policy keep at s

  -- what is known of the move, behind what the bus does
  pub record Faces (at : ℕ → ℕ) (b : Turned) (m : CoreMove) (s : MachineState) : Type 0 where
    pub stands : Stands p own runs at (with_memory b.memory s.work)
    pub scheduled : Scheduled p runs at s.sched m
    pub phases : Phases order p.plant (length p.tasks) runs scripts at (lines_in s.work.cache) (with_memory b.memory s.work) s.core.mode
    pub moves_to : Moves order p.plant (length p.tasks) runs scripts at (lines_in s.work.cache) m

  pub faces : (at : ℕ → ℕ) (b : Turned) (m : CoreMove) (s : MachineState) → KnownCore p own runs at s → KeepsAt at s → Meets p own b m s → Faces at b m s
  faces at b m s kn h meets =
      let w : Work = with_memory b.memory s.work in
      let st : Stands p own runs at w = bus_stands p own runs at s.work b.memory meets.leaves kn.position.stands in
      let j : Scheduled p runs at s.sched m = may_schedule p runs at s.sched s.now b.turn.core w s.core m meets.may kn.position.schedules in
      let ph : Phases order p.plant (length p.tasks) runs scripts at (lines_in s.work.cache) w s.core.mode = record {
        same = λ i lt. same_phase rule order passes p own runs scripts policy keep at w i (st.each i lt);
        runs_alone = kn.closes.runs;
      } in
      record {
        stands = st;
        scheduled = j;
        phases = ph;
        moves_to = may_reside order p runs scripts at (lines_in s.work.cache) s.now b.turn.core s.sched w s.core m meets.may (there_of order p runs scripts at s.sched m j) ph h.resides;
      }

  -- what comes of it
  pub record Comes (at : ℕ → ℕ) (a : Arrivals) (b : Turned) (m : CoreMove) (s : MachineState) : Type 0 where
    pub turn : TurnKeeps rule order passes p own runs scripts policy keep s.now (bump_move m at) (turn_with rule p b m s)
    pub position : Position p own runs (bump_move m at) (joined a b (turn_with rule p b m s) s)
    pub closes : CoreCloses (joined a b (turn_with rule p b m s) s)
    pub issued : IsIssued p (with_memory b.memory s.work) m

  pub comes : (at : ℕ → ℕ) (a : Arrivals) (b : Turned) (m : CoreMove) (s : MachineState) → KnownCore p own runs at s → KeepsAt at s → Meets p own b m s → Comes at a b m s
  comes at a b m s kn h meets =
      let w : Work = with_memory b.memory s.work in
      let n : Counts = with_clash b.turn.clash s.log.counts in
      let f : Faces at b m s = faces at b m s kn h meets in
      let x : Windowed s.now (phase_in w) s.core.window m = may_close s.now p b.turn.core s.sched w s.core m meets.may kn.closes in
      let t : TurnCloses s.now s.core.window (turn_with rule p b m s) = turn_closes rule p s.now m w s.core n kn.closes x in
      record {
        turn = turn_keeps rule order passes p own runs scripts policy keep at s.now s.sched m w s.core n f.stands rs f.scheduled f.moves_to
            (may_calm p s.now b.turn.core s.sched w s.core m meets.may h.calm) x (no_clash b.turn.clash s.log.counts meets.calm h.counts);
        position = moved_position rule p own runs at a b m s policy.keeps rs meets.leaves f.scheduled kn.position;
        closes = t.closes;
        issued = issued_move p own runs at s.sched w m rs f.stands f.scheduled;
      }

  -- behind the end of the cycle
  pub core_keeps : (at : ℕ → ℕ) (a : Arrivals) (b : Turned) (m : CoreMove) (s : MachineState) → Comes at a b m s → KeepsAt (bump_move m at) (ticked (joined a b (turn_with rule p b m s) s))
  core_keeps at a b m s c =
      ticked_keeps rule order passes p own runs scripts policy keep (bump_move m at) (joined a b (turn_with rule p b m s) s) c.position.untrapped
      (record { resides = c.turn.resides; calm = c.turn.calm; counts = c.turn.counts })

  pub core_known : (at : ℕ → ℕ) (a : Arrivals) (b : Turned) (m : CoreMove) (s : MachineState) → Comes at a b m s →
      KnownCore p own runs (bump_move m at) (ticked (joined a b (turn_with rule p b m s) s))
  core_known at a b m s c = record {
    position = ticked_position p own runs (bump_move m at) (joined a b (turn_with rule p b m s) s) c.position;
    closes = ticked_closes (joined a b (turn_with rule p b m s) s) c.closes;
  }

-- ---- the start

pub start_faultless : (rule : ReplacementRule) (order : OrderRule) (passes : ℕ → ℕ) (p : Setup) (own : ℕ → ℕ → Bool) (runs : ℕ → TaskRun)
    (scripts : ℕ → Script) (policy : IsPolicy rule order passes) (keep : KeepScripts p passes runs scripts) (inputs : List (List ℕ))
    (memory : List ℕ) → Keeps rule order passes p own runs scripts policy keep (λ k. 0) (start_of p inputs memory)
unfolding begun_by
start_faultless rule order passes p own runs scripts policy keep inputs memory = record {
  resides = record { rests = λ j lt _ h. refl; runs_in = λ k e. absurd (let x : Point ≡ Running k = e in cc) };
  calm = λ y. absurd (let x : false ≡ true = y in cc);
  counts = record { exec_misses = refl; memory_stores = refl; clashes = refl };
}
