-- Over a run each word that a get has is that of the last put before it.
use Rattle.std.proofs.Common.{◌≡◌, ℕ, zero, suc, ◌+◌, ◌<◌, ◌∙◌, sym, subst, Bool, List, [], ◌∷◌, ◌++◌, length, map}
use Rattle.prem_sound.proofs.Prelude.{move_cases, cycle_work, arrivals_gates, run_stands, AllAt, runs_of, keeps_of, Moves as Scheduled, moves as scheduled, Stands, Issuing, issuing}
use Rattle.prem_sound.proofs.Prelude.{bus_stands, want_of, attempted, moved, CoreMove, Passes, Issues, Arrivals, arrivals_at, bus_at, with_memory, move_at, cycle_with, cycle_of, is_over}
use Rattle.prem_sound.proofs.Prelude.{step_of, task_after, issued_by, cycles_of, memory_of, run_of, issued_of, AreOwn, IsRunnable, Setup, record_of, Work, MachineState, task_in, start_of}
use Rattle.prem_sound.proofs.Prelude.{Turned, Transfer, Request, area_of, TaskRun, with_last, empty_cache, view_of, ReplacementRule, IsRule, AreApart, TaskJobs, GetsLastPuts, PutWords}
use Rattle.prem_sound.proofs.Prelude.{AreasAreZero, WordsAreLastPuts, number_at-agrees, number_at, cond_both, slice_index, slice_set}
use Rattle.prem_cycle.proofs.RunsLemmas.PositionLemmas.Starts.{empty_view}
use Rattle.prem_sound.proofs.ServeLemmas.Puts.{HoldAll, arrivals_all, cycles_all, start_all}
use Rattle.prem_sound.proofs.ServeLemmas.Queues.{cycle_transfers}
use Rattle.prem_sound.proofs.ServeLemmas.Slots.{slot}
use Rattle.prem_sound.proofs.ServeLemmas.Words.{AreWords, PutsWord, turn_words, issue_words}

module _ (rule : ReplacementRule) (p : Setup) (content : List ℕ) (inputs : List (List ℕ)) (requests : List Request) (own : ℕ → ℕ → Bool)
    (runs : ℕ → TaskRun) (r : IsRule rule) (q : IsRunnable p content requests) (o : AreOwn p content inputs own runs)
    (apart : AreApart (map (area_of p.plant.line) p.devices)) (puts : PutWords requests) where
  moved_words : (at : ℕ → ℕ) (sched : List TaskJobs) (w : Work) (m : CoreMove) (transfers : List Transfer) → Stands p own runs at w →
      Scheduled p runs at sched m → AreWords p w.cache w.memory transfers → AreWords p (moved rule p m w).cache (moved rule p m w).memory transfers
  moved_words at sched w (Passes c) transfers s m h = h
  moved_words at sched w (Issues k i) transfers s m h =
      let lt : k < length p.tasks = m.unfinished.bound in
      let x : Issuing p (own k) (runs k) (at k) k w = issuing p own runs at w k (runs_of rule p content inputs requests own runs r q o) s m.unfinished in
      subst (λ a. AreWords p (attempted rule p k a w).cache (attempted rule p k a w).memory transfers) (sym (x.behind rule r))
      (issue_words p q.devices apart (own k) (slice_set w.tasks k (task_after (record_of p k) x.effect (task_in w k))) x.effect.stored w (issued_by rule p k x.effect w).work transfers s.kept
      (λ a y. o.free k a lt y) x.stays.stores (x.work rule r) h)

  abbrev WordsIn : MachineState → Type 0
  WordsIn s = AreWords p s.work.cache s.work.memory s.log.transfers

  cycle_words : (at : ℕ → ℕ) (s : MachineState) → AllAt p own runs at s → HoldAll PutsWord s.gates → WordsIn s → WordsIn (cycle_of rule p requests s)
  cycle_words at s k all h =
      let a : Arrivals = arrivals_at requests s in
      let b : Turned = bus_at a.gates s in
      let w : Work = with_memory b.memory s.work in
      let st : Stands p own runs at w = bus_stands p own runs at s.work b.memory (keeps_of rule p content inputs requests own runs r q o at s k) k.position.stands in
      let m : Scheduled p runs at s.sched (move_at p b s) =
      scheduled p runs at s.sched s.now b.turn.core w s.core (move_at p b s) (move_cases p s.now b.turn.core s.sched w s.core) k.position.schedules in
      let t : AreWords p s.work.cache b.memory (with_last b.turn.ended s.log.transfers) =
      turn_words p q.devices apart s.now s.core.window s.work.cache s.work.memory s.log.transfers (want_of s.core.debt) a.gates k.position.stands.kept
      (arrivals_gates p s.now requests _ q.asked k.gates) (arrivals_all PutsWord s.now requests _ puts all) h in
      subst (λ (v : Work). AreWords p v.cache v.memory (cycle_with rule p a b s).log.transfers) (sym (cycle_work rule p a b s))
      (subst (AreWords p (moved rule p (move_at p b s) w).cache (moved rule p (move_at p b s) w).memory) (sym (cycle_transfers rule p a b s))
      (moved_words at s.sched w (move_at p b s) (with_last b.turn.ended s.log.transfers) st m t))

  step_words : (at : ℕ → ℕ) (s : MachineState) → AllAt p own runs at s → HoldAll PutsWord s.gates → WordsIn s → WordsIn (step_of rule p requests s)
  step_words at s k all h = cond_both (is_over s) s (cycle_of rule p requests s) WordsIn (λ _. h) (λ _. cycle_words at s k all h)

  abbrev start : MachineState
  start = start_of p inputs (memory_of p content)

  zero_word : (at : ℕ) → ((i : ℕ) → i < 4 → slice_index (memory_of p content) (at + i) ≡ 0) → number_at (view_of (empty_cache p.plant) (memory_of p content)) at 4 ≡ 0
  zero_word at h = number_at-agrees (view_of (empty_cache p.plant) (memory_of p content)) (λ n. 0) at 4 (λ i lt. empty_view p.plant (memory_of p content) (at + i) ∙ h i lt)

  pub no_gets : GetsLastPuts []
  no_gets [] after t e none = let x : [] ≡ t ∷ after = e in absurd cc
  no_gets (b ∷ before) after t e none = let x : [] ≡ b ∷ (before ++ t ∷ after) = e in absurd cc

  pub start_words : AreasAreZero p (memory_of p content) → WordsIn start
  start_words z = record {
    words = λ d j l. zero_word (slot p d j) (λ i lt. z d j i l.there l.within lt);
    gets = no_gets;
  }

  pub run_words : AreasAreZero p (memory_of p content) → (n : ℕ) → WordsIn (run_of rule p content inputs requests n)
  unfolding cycles_of
  run_words z zero = start_words z
  run_words z (suc n) =
      step_words (issued_of rule p requests n start) (cycles_of rule p requests n start) (run_stands rule p content inputs requests own runs n r q o)
      (cycles_all PutsWord rule p requests n start puts (start_all PutsWord p inputs (memory_of p content))) (run_words z n)

pub last_puts : WordsAreLastPuts
last_puts rule p content inputs requests own runs n r q o apart z puts = (run_words rule p content inputs requests own runs r q o apart puts z n).gets
