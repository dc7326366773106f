-- Every state of a run of two cores whose tasks keep to their scripts is good.
use Rattle.std.proofs.Common.{◌≡◌, ℕ, zero, suc, ◌+◌, ◌<◌, refl, ap, ◌∙◌, sym, subst, arith, cond, true, false, Bool, List, [], ◌++◌, length, map}
use Rattle.std.specs.Prelude.{is_some, ◌==◌, slice_set}
use Rattle.prem_pair.proofs.Prelude.{settle_keeps, arrivals_gates, bump_move, issuing, CoreMove, Passes, Issues, want_of, core_issue, core_turn, Arrivals, with_memory, with_clash, with_now}
use Rattle.prem_pair.proofs.Prelude.{next_cycle, ticked, issued_by, task_after, memory_of, Setup, record_of, Work, CoreState, Counts, MachineState, task_in, GatesState, Turned, Transfer}
use Rattle.prem_pair.proofs.Prelude.{Request, area_of, TaskRun, with_last, ReplacementRule, PairState, pair_cycle, both_finished, one_trapped, one_full, is_pair_over, pair_step, pair_cycles}
use Rattle.prem_pair.proofs.Prelude.{pair_start, pair_run, window_given, want_with, pair_queued, PairGood, HasTotals, PairsAreGood, OrderRule, TaskJobs, queue_at, held, turn_held}
use Rattle.prem_pair.proofs.Prelude.{arrivals_queue, arrivals_carried, start_held, first_no, IsPolicy, Script, Promise, AreScripts, AreKept, found_room, asked_of, transferred_of, carried_of}
use Rattle.prem_pair.proofs.Prelude.{held_of, GetsLastPuts, IsRun, cond_both, append-nil, append_assoc, filter-append}
use Rattle.prem_cycle.proofs.RunsLemmas.PositionLemmas.Schedules.{Moves as Scheduled}
use Rattle.prem_cycle.proofs.RunsLemmas.PositionLemmas.Stands.{Stands, Issuing}
use Rattle.prem_pair.proofs.CyclesLemmas.PairRuns.{pair_cycles-next, pair_step-goes}
use Rattle.prem_pair.proofs.CyclesLemmas.PairTime.{pair_run-now}
use Rattle.prem_pair.proofs.LawsLemmas.Facts.{HostsDevices}
use Rattle.prem_pair.proofs.LawsLemmas.Finishing.{due_totals, host, guest, devices, start_holds}
use Rattle.prem_pair.proofs.LawsLemmas.Holds.{PairHolds, holds_more, cycle_holds, next_is, ended, arriving, holder, bus, bus0, bus1, move0, move1, acted0, acted1, meets0, meets1, steps0}
use Rattle.prem_pair.proofs.LawsLemmas.Holds.{steps1, same_gates}
use Rattle.prem_pair.proofs.LawsLemmas.Hosted.{Hosted, CoreSteps}
use Rattle.prem_plant.specs.Places.{AreApart}
use Rattle.prem_sound.proofs.Marking.{MarksIn, core_marks, start_marks, core_gives}
use Rattle.prem_sound.proofs.ServeLemmas.Puts.{HoldAll, arrivals_all, turn_all, start_all as start_puts}
use Rattle.prem_sound.proofs.ServeLemmas.WordRuns.{start_words, no_gets}
use Rattle.prem_sound.proofs.ServeLemmas.Words.{AreWords, PutsWord, turn_words, issue_words}

-- ---- the words of the devices

turned_words : (g : Hosted) (apart : AreApart (map (area_of g.setup.plant.line) g.setup.devices)) (requests : List Request)
    (d : HostsDevices g requests) (at : ℕ → ℕ) (now : ℕ) (sched : List TaskJobs) (m : CoreMove) (w : Work) (c : CoreState) (n : Counts)
    (transfers : List Transfer) → Stands g.setup g.own g.runs at w → Scheduled g.setup g.runs at sched m →
    AreWords g.setup w.cache w.memory transfers →
    AreWords g.setup (core_turn g.rule g.setup now m w c n).work.cache (core_turn g.rule g.setup now m w c n).work.memory transfers
turned_words g apart requests d at now sched (Passes c') w c n transfers s m h = h
turned_words g apart requests d at now sched (Issues k i) w c n transfers s m h =
    let lt : k < length g.setup.tasks = m.unfinished.bound in
    let x : Issuing g.setup (g.own k) (g.runs k) (at k) k w = issuing g.setup g.own g.runs at w k g.are_runs s m.unfinished in
    subst (λ a. AreWords g.setup (core_issue g.rule g.setup now k i a w c n).work.cache (core_issue g.rule g.setup now k i a w c n).work.memory transfers) (sym (x.behind g.rule g.policy.keeps))
    (issue_words g.setup d.placed apart (g.own k) (slice_set w.tasks k (task_after (record_of g.setup k) x.effect (task_in w k))) x.effect.stored w
    (issued_by g.rule g.setup k x.effect w).work transfers s.kept
    (λ a y. d.free k a lt y) x.stays.stores (x.work g.rule g.policy.keeps) h)

-- what the end of a cycle leaves
ticked_transfers : (s : MachineState) → (ticked s).log.transfers ≡ s.log.transfers
ticked_transfers s = cond_both (is_some s.trapped) s (next_cycle s) (λ (t : MachineState). t.log.transfers ≡ s.log.transfers) (λ _. refl)
    (λ _. (settle_keeps s.core.mode (with_now s (s.now + 1))).transfers)

ticked_work : (s : MachineState) → (ticked s).work ≡ s.work
ticked_work s = cond_both (is_some s.trapped) s (next_cycle s) (λ (t : MachineState). t.work ≡ s.work) (λ _. refl) (λ _. (settle_keeps s.core.mode (with_now s (s.now + 1))).work)

-- ---- a run

module _ (rule other : ReplacementRule) (order order' : OrderRule) (passes passes' : ℕ → ℕ) (p q : Setup) (content behind : List ℕ)
    (inputs others : List (List ℕ)) (requests : List Request) (own own' : ℕ → ℕ → Bool) (runs runs' : ℕ → TaskRun) (scripts scripts' : ℕ → Script)
    (promises promises' : ℕ → Promise)
    (policy : IsPolicy rule order passes) (policy' : IsPolicy other order' passes') (run : IsRun p content requests) (run' : IsRun q behind [])
    (none : q.devices ≡ []) (are : AreScripts p passes content inputs own runs scripts)
    (are' : AreScripts q passes' behind others own' runs' scripts') (kept : AreKept p own runs scripts promises)
    (kept' : AreKept q own' runs' scripts' promises') where
  abbrev total : HasTotals p runs scripts
  total = due_totals passes p content inputs own runs scripts are

  abbrev total' : HasTotals q runs' scripts'
  total' = due_totals passes' q behind others own' runs' scripts' are'

  abbrev one : Hosted
  one = host rule other order order' passes passes' p q content behind inputs others requests own own' runs runs' scripts scripts' policy policy' run run' are are' total total'

  abbrev two : Hosted
  two = guest rule other order order' passes passes' p q content behind inputs others requests own own' runs runs' scripts scripts' policy policy' run run' are are' total total'

  abbrev dev : HostsDevices one requests
  dev = devices rule other order order' passes passes' p q content behind inputs others requests own own' runs runs' scripts scripts' policy policy' run run' are are' total total'

  abbrev then : ℕ → PairState
  then n = pair_run rule other p q content behind inputs others requests n

  abbrev begin : PairState
  begin = pair_start p q inputs others (memory_of p content) (memory_of q behind)

  abbrev queued : ℕ → List Request
  queued n = pair_queued rule other p q requests n begin

  abbrev works : ℕ → Work
  works m = (then m).first.work

  abbrev works' : ℕ → Work
  works' m = (then m).second.work

  abbrev MarksFirst : (ℕ → ℕ) → MachineState → Type 0
  MarksFirst at s = MarksIn rule order passes p own runs scripts policy are.each promises kept works at s

  abbrev MarksSecond : (ℕ → ℕ) → MachineState → Type 0
  MarksSecond at s = MarksIn other order' passes' q own' runs' scripts' policy' are'.each promises' kept' works' at s

  -- what else is known of the state after n cycles
  record Good (n : ℕ) (at at' : ℕ → ℕ) (s : PairState) : Type 0 where
    marks : MarksFirst at s.first
    marks' : MarksSecond at' s.second
    held : (d : ℕ) → held_of d s.first ≡ asked_of d (queued n)
    puts : HoldAll PutsWord s.first.gates
    words : AreWords p s.first.work.cache s.first.work.memory s.first.log.transfers
    none_there : s.second.log.transfers ≡ []

  -- ---- a cycle

  module _ (n : ℕ) (x : PairHolds one two requests (Good n) (then n)) (on : is_pair_over (then n) ≡ false) where
    abbrev s : PairState
    s = then n

    abbrev acted_first : MachineState
    acted_first = acted0 one two requests dev (Good n) s x

    abbrev acted_second : MachineState
    acted_second = acted1 one two requests dev (Good n) s x

    abbrev turned : Turned
    turned = bus one two requests dev (Good n) s x

    abbrev came : Arrivals
    came = arriving one two requests dev (Good n) s x

    abbrev ends : PairState
    ends = ended one two requests dev (Good n) s x

    here : s.first.now ≡ n
    here = pair_run-now rule other p q content behind inputs others requests n on

    next_state : then (n + 1) ≡ ends
    next_state = pair_cycles-next rule other p q requests n begin ∙ pair_step-goes rule other p q requests s on ∙ next_is one two requests dev (Good n) s x

    next_marks : MarksFirst (bump_move (move0 one two requests dev (Good n) s x) x.at) (ticked acted_first)
    next_marks =
        let st : CoreSteps one x.off x.at came (bus0 one two requests dev (Good n) s x) (move0 one two requests dev (Good n) s x) s.first = steps0 one two requests dev (Good n) s x in
        core_marks rule order passes p own runs scripts policy are.each promises kept works one.are_runs x.at came
        (bus0 one two requests dev (Good n) s x) (move0 one two requests dev (Good n) s x) s.first x.first.known x.first.keeps
        (ap works here) (ap (λ m. works (m + 1)) here ∙ ap (λ (z : PairState). z.first.work) next_state) x.more.marks (meets0 one two requests dev (Good n) s x) st.faced st.came

    next_marks' : MarksSecond (bump_move (move1 one two requests dev (Good n) s x) x.at') (ticked acted_second)
    next_marks' =
        let st : CoreSteps two x.off' x.at' (record { gates = s.second.gates; dropped = s.second.log.dropped })
        (bus1 one two requests dev (Good n) s x) (move1 one two requests dev (Good n) s x) s.second = steps1 one two requests dev (Good n) s x in
        core_marks other order' passes' q own' runs' scripts' policy' are'.each promises' kept' works' two.are_runs x.at'
        (record { gates = s.second.gates; dropped = s.second.log.dropped }) (bus1 one two requests dev (Good n) s x)
        (move1 one two requests dev (Good n) s x) s.second x.second.known x.second.keeps
        (ap works' (x.same_now ∙ here)) (ap (λ m. works' (m + 1)) (x.same_now ∙ here) ∙ ap (λ (z : PairState). z.second.work) next_state)
        x.more.marks' (meets1 one two requests dev (Good n) s x) st.faced st.came

    next_transfers : (ticked acted_first).log.transfers ≡ with_last turned.turn.ended s.first.log.transfers
    next_transfers = ticked_transfers acted_first

    next_held : (d : ℕ) → held_of d (ticked acted_first) ≡ asked_of d (queued n ++ found_room s.first.now requests s.first.gates)
    next_held d =
        let room : List Request = found_room s.first.now requests s.first.gates in
        let start : Arrivals = record { gates = s.first.gates; dropped = s.first.log.dropped } in
        ap (λ ts. held d ts (ticked acted_first).gates.carried (ticked acted_first).gates) next_transfers
        ∙ ap (λ (z : GatesState). held d (with_last turned.turn.ended s.first.log.transfers) z.carried z) (same_gates one two requests dev (Good n) s x)
        ∙ turn_held d s.first.now (window_given s.first.now s.holder (holder one two requests dev (Good n) s x))
        (want_with (holder one two requests dev (Good n) s x) (want_of s.first.core.debt) (want_of s.second.core.debt))
        came.gates s.first.work.memory s.first.log.transfers
        ∙ ap (λ o. held d s.first.log.transfers o came.gates) (arrivals_carried s.first.now requests start)
        ∙ ap (λ z. (transferred_of d s.first.log.transfers ++ carried_of d s.first.gates.carried) ++ z) (arrivals_queue s.first.now requests start d)
        ∙ sym (append_assoc (transferred_of d s.first.log.transfers ++ carried_of d s.first.gates.carried) (queue_at s.first.gates d) (asked_of d room))
        ∙ ap (λ z. z ++ asked_of d room) (x.more.held d)
        ∙ sym (filter-append (λ (r : Request). r.device == d) (queued n) room)

    next_puts : HoldAll PutsWord (ticked acted_first).gates
    next_puts =
        subst (HoldAll PutsWord) (sym (same_gates one two requests dev (Good n) s x))
        (turn_all PutsWord s.first.now (window_given s.first.now s.holder (holder one two requests dev (Good n) s x))
        (want_with (holder one two requests dev (Good n) s x) (want_of s.first.core.debt) (want_of s.second.core.debt)) came.gates s.first.work.memory
        (arrivals_all PutsWord s.first.now requests (record { gates = s.first.gates; dropped = s.first.log.dropped }) run.words x.more.puts))

    next_words : AreWords p (ticked acted_first).work.cache (ticked acted_first).work.memory (ticked acted_first).log.transfers
    next_words =
        let st : CoreSteps one x.off x.at came (bus0 one two requests dev (Good n) s x) (move0 one two requests dev (Good n) s x) s.first = steps0 one two requests dev (Good n) s x in
        let w : Work = with_memory turned.memory s.first.work in
        let t : AreWords p s.first.work.cache turned.memory (with_last turned.turn.ended s.first.log.transfers) =
        turn_words p run.runnable.devices run.apart s.first.now (window_given s.first.now s.holder (holder one two requests dev (Good n) s x))
        s.first.work.cache s.first.work.memory s.first.log.transfers
        (want_with (holder one two requests dev (Good n) s x) (want_of s.first.core.debt) (want_of s.second.core.debt))
        came.gates x.first.known.position.stands.kept
        (arrivals_gates p s.first.now requests (record { gates = s.first.gates; dropped = s.first.log.dropped }) run.runnable.asked x.gates)
        (arrivals_all PutsWord s.first.now requests (record { gates = s.first.gates; dropped = s.first.log.dropped }) run.words x.more.puts) x.more.words in
        subst (λ (v : Work). AreWords p v.cache v.memory (ticked acted_first).log.transfers) (sym (ticked_work acted_first))
        (subst (AreWords p acted_first.work.cache acted_first.work.memory) (sym next_transfers)
        (turned_words one run.apart requests dev x.at s.first.now s.first.sched (move0 one two requests dev (Good n) s x) w s.first.core
        (with_clash (bus0 one two requests dev (Good n) s x).turn.clash s.first.log.counts) (with_last turned.turn.ended s.first.log.transfers)
        st.faced.stands st.faced.scheduled t))

    more_next : Good (suc n) (bump_move (move0 one two requests dev (Good n) s x) x.at) (bump_move (move1 one two requests dev (Good n) s x) x.at') ends
    unfolding pair_queued
    more_next = record {
      marks = next_marks;
      marks' = next_marks';
      held = λ d. next_held d ∙ ap (λ z. asked_of d (queued n ++ z)) (sym (ap (λ c. cond c [] (found_room s.first.now requests s.first.gates)) on));
      puts = next_puts;
      words = next_words;
      none_there = ticked_transfers acted_second ∙ x.more.none_there;
    }

  -- ---- the run

  more_stays : (n : ℕ) → is_pair_over (then n) ≡ true → (at at' : ℕ → ℕ) → Good n at at' (then n) → Good (suc n) at at' (then n)
  unfolding pair_queued
  more_stays n over at at' h = record {
    marks = h.marks;
    marks' = h.marks';
    held = λ d. h.held d ∙ ap (asked_of d) (sym (append-nil (queued n)) ∙ ap (λ z. queued n ++ z) (sym (ap (λ c. cond c [] (found_room (then n).first.now requests (then n).first.gates)) over)));
    puts = h.puts;
    words = h.words;
    none_there = h.none_there;
  }

  step_good : (n : ℕ) → PairHolds one two requests (Good n) (then n) → PairHolds one two requests (Good (suc n)) (pair_step rule other p q requests (then n))
  step_good n x =
      cond_both (is_pair_over (then n)) (then n) (pair_cycle rule other p q requests (then n)) (PairHolds one two requests (Good (suc n)))
      (λ over. holds_more one two requests (Good n) (Good (suc n)) (then n) (more_stays n over) x)
      (λ on. cycle_holds one two requests dev (Good n) (then n) x (Good (suc n)) (first_no (both_finished (then n)) (one_trapped (then n)) (one_full (then n)) on) (more_next n x on))

  start_good : PairHolds one two requests (Good 0) begin
  unfolding pair_queued
  start_good = start_holds rule other order order' passes passes' p q content behind inputs others requests own own' runs runs' scripts scripts'
      policy policy' run run' are are' total total' (Good 0) (record {
        marks = start_marks rule order passes p own runs scripts policy are.each promises kept works inputs (memory_of p content);
        marks' = start_marks other order' passes' q own' runs' scripts' policy' are'.each promises' kept' works' others (memory_of q behind);
        held = λ d. start_held p inputs (memory_of p content) d;
        puts = start_puts PutsWord p inputs (memory_of p content);
        words = start_words rule p content inputs requests own runs policy.keeps run.runnable are.own_runs run.apart run.words run.zero;
        none_there = refl;
      })

  run_good : (n : ℕ) → PairHolds one two requests (Good n) (then n)
  unfolding pair_cycles
  run_good zero = start_good
  run_good (suc n) = step_good n (run_good n)

  no_devices : (d : ℕ) → d < length q.devices → ⊥
  no_devices d lt = let e : length q.devices ≡ 0 = ap length none in omega (arith, lt, e)

  pub good : (n : ℕ) → PairGood rule other p q content behind inputs others requests promises promises' n
  good n =
      let x : PairHolds one two requests (Good n) (then n) = run_good n in
      record {
        first = record {
          untrapped = x.first.known.position.untrapped;
          tasks = λ k lt. core_gives rule order passes p own runs scripts policy are.each promises kept works x.at (then n).first k lt x.first.known x.first.keeps x.more.marks;
          exec_misses = x.first.keeps.counts.exec_misses;
          memory_stores = x.first.keeps.counts.memory_stores;
          clashes = x.first.keeps.counts.clashes;
          lengths = x.first.lasts.lasts;
          requests = record { each = λ d lt. x.more.held d; words = x.more.words.gets };
        };
        second = record {
          untrapped = x.second.known.position.untrapped;
          tasks = λ k lt. core_gives other order' passes' q own' runs' scripts' policy' are'.each promises' kept' works' x.at' (then n).second k lt x.second.known x.second.keeps x.more.marks';
          exec_misses = x.second.keeps.counts.exec_misses;
          memory_stores = x.second.keeps.counts.memory_stores;
          clashes = x.second.keeps.counts.clashes;
          lengths = x.second.lasts.lasts;
          requests = record {
            each = λ d lt. absurd (no_devices d lt);
            words = subst GetsLastPuts (sym x.more.none_there) (no_gets rule p content inputs requests own runs policy.keeps run.runnable are.own_runs run.apart run.words);
          };
        };
      }

pub pairs_are_good : PairsAreGood
pairs_are_good rule other order order' passes passes' p q content behind inputs others requests own own' runs runs' scripts scripts' promises
    promises' n policy policy' run run' none are are' kept kept' =
    good rule other order order' passes passes' p q content behind inputs others requests own own' runs runs' scripts scripts' promises promises' policy policy' run run' none are are' kept kept' n
