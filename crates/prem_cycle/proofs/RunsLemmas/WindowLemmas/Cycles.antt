-- A cycle keeps that windows hold, and so does a run.
use Rattle.std.proofs.Common.{◌≡◌, ℕ, zero, suc, ◌+◌, ◌<◌, ◌≤◌, refl, ap, ◌∙◌, sym, subst, arith, cond, ltb, Some, None, Option, true, false, Bool, List, [], ◌∷◌, length, get_or, IfSome}
use Rattle.std.proofs.Common.{map, ◌⊎◌, ⊎_elim}
use Rattle.std.specs.Prelude.{All, slice_set, is_some, ◌&&◌}
use Rattle.prem_cycle.proofs.Prelude.{CoreMove, Issues, is_paid, phase_in, want_of, Arrivals, arrivals_at, bus_at, with_memory, with_clash, move_at, core_at, joined, ends_before, at_point}
use Rattle.prem_cycle.proofs.Prelude.{close_interval, settle, with_now, next_cycle, ticked, cycle_of, is_over, step_of, with_word, with_input, is_execution, memory_of, cycles_of, closing_in}
use Rattle.prem_cycle.proofs.Prelude.{closing_at, is_last, WindowCloses, LiesInside, CarriesInside, WindowsHold, IsQuiet, HaveCosts, RunsKeepWindows, CyclesKeepWindows, InputsKeepWindows}
use Rattle.prem_cycle.proofs.Prelude.{QuietOutsideExecution, Setup, Task, MachineState, no_record, first_task, first_tasks, start_of, Interval, Mode, Point, Switching, Running, Idle}
use Rattle.prem_cycle.proofs.Prelude.{GateState, GatesState, Turned, gates_of, Carried, Window, Request, DeviceRecord, TaskRecord, Change, Stay, Memory, Execute, End, Job, Phase, Compatible}
use Rattle.prem_cycle.proofs.Prelude.{Execution, ReplacementRule, Device, and_parts, cases_eq, cases_lt, cond_both, leb-true, ltb-false, get_or-set_same, get_or-set_other, set_past}
use Rattle.prem_cycle.proofs.CoreCases.{move_cases}
use Rattle.prem_cycle.proofs.RunsLemmas.WindowLemmas.Bus.{arrivals_inside, turn_inside, turn_quiet}
use Rattle.prem_cycle.proofs.RunsLemmas.WindowLemmas.Moves.{MayIssue, Moves, moves, TurnCloses, turn_closes}

-- ---- time passes

cond_later : (b : Bool) (end now : ℕ) → cond b end now ≤ cond b end (now + 1)
cond_later true end now = omega arith
cond_later false end now = omega arith

closing_later : (now : ℕ) (i : Interval) (mark : Change) (phase : Phase) → closing_in now i mark phase ≤ closing_in (now + 1) i mark phase
closing_later now i Stay phase = cond_later (is_execution phase) (i.first + i.stated) now
closing_later now i (Execute stated) phase = cond_later (is_execution phase) (i.first + i.stated) now
closing_later now i End phase = omega arith
closing_later now i Memory phase = omega arith
closing_later now i Job phase = omega arith

mode_later : (now : ℕ) (phases : ℕ → Phase) (i : Interval) (mark : Change) (mode : Mode) → closing_at now phases i mark mode ≤ closing_at (now + 1) phases i mark mode
mode_later now phases i mark Point = omega arith
mode_later now phases i mark (Switching k left) = omega arith
mode_later now phases i mark (Running k) = closing_later now i mark (phases k)
mode_later now phases i mark (Idle until) = omega arith

closes_later : (now : ℕ) (phases : ℕ → Phase) (i : Interval) (mark : Change) (mode : Mode) (w : Window) → WindowCloses now phases i mark mode w → WindowCloses (now + 1) phases i mark mode w
closes_later now phases i mark mode w h =
    let close : w.close ≤ closing_at now phases i mark mode = h.by_then in
    let later : closing_at now phases i mark mode ≤ closing_at (now + 1) phases i mark mode = mode_later now phases i mark mode in
    record { by_then = omega (close, later, arith); runs = h.runs; goes_on = h.goes_on }

sooner_carried : (now : ℕ) (w : Window) (o : Option Carried) → IfSome o (LiesInside (now + 1) w) → IfSome o (LiesInside now w)
sooner_carried now w None l = tt
sooner_carried now w (Some c) l =
    let close : now + 1 + c.left ≤ w.close = l.before_close in
    record { some = l.some; after_start = l.after_start; before_close = omega arith }

sooner : (now : ℕ) (w : Window) (s : GatesState) → CarriesInside (now + 1) w s → CarriesInside now w s
sooner now w s h = record { carried = sooner_carried now w s.carried h.carried; costs = h.costs }

-- ---- what is over

-- an interval that ends leaves the window closed
close_ended : (now close : ℕ) (i : Interval) (mark : Change) (phase : Phase) → ends_before now i mark ≡ true → close ≤ closing_in now i mark phase → close ≤ now
close_ended now close i Stay phase e h = absurd (let x : false ≡ true = e in cc)
close_ended now close i (Execute stated) phase e h = absurd (let x : false ≡ true = e in cc)
close_ended now close i Memory phase e h = h
close_ended now close i Job phase e h = h
close_ended now close i End phase e h = let le : i.first + i.stated ≤ now = leb-true (i.first + i.stated) now e in omega arith

last_ended : (now : ℕ) (i : Interval) (mark : Change) → ends_before now i mark ≡ true → is_last mark ≡ true
last_ended now i Stay e = absurd (let x : false ≡ true = e in cc)
last_ended now i (Execute stated) e = absurd (let x : false ≡ true = e in cc)
last_ended now i Memory e = refl
last_ended now i Job e = refl
last_ended now i End e = refl

-- no task is in its execution phase behind it
closes_ended : (now k : ℕ) (phases : ℕ → Phase) (i : Interval) (mark : Change) (w : Window) → ends_before now i mark ≡ true →
    WindowCloses now phases i mark (Running k) w → WindowCloses now phases i mark Point w
closes_ended now k phases i mark w e h =
    let none : (j : ℕ) → phases j ≡ Execution → ⊥ =
    λ j x. let y : false ≡ true = sym (h.goes_on j x) ∙ last_ended now i mark e in cc in
    record { by_then = close_ended now w.close i mark (phases k) e h.by_then; runs = λ j x. absurd (none j x); goes_on = λ j x. absurd (none j x) }

closes_idle : (now until : ℕ) (phases : ℕ → Phase) (i : Interval) (mark : Change) (w : Window) → until ≤ now → WindowCloses now phases i mark (Idle until) w → WindowCloses now phases i mark Point w
closes_idle now until phases i mark w le h =
    let close : w.close ≤ until = h.by_then in
    let none : (j : ℕ) → phases j ≡ Execution → ⊥ = λ j x. let y : Idle until ≡ Running j = h.runs j x in cc in
    record { by_then = omega arith; runs = λ j x. absurd (none j x); goes_on = λ j x. absurd (none j x) }

-- the window of the core's interval closes
abbrev pub CoreCloses : MachineState → Type 0
CoreCloses s = WindowCloses s.now (phase_in s.work) s.core.interval s.core.mark s.core.mode s.core.window

settle_closes : (m : Mode) (s : MachineState) → s.core.mode ≡ m → CoreCloses s → CoreCloses (settle m s)
settle_closes Point s e h = h
settle_closes (Switching k left) s e h = h
settle_closes (Running k) s e h =
    cond_both (is_paid s.core.debt && ends_before s.now s.core.interval s.core.mark) (close_interval k s) s CoreCloses
    (λ over. closes_ended s.now k (phase_in s.work) s.core.interval s.core.mark s.core.window
    (and_parts (is_paid s.core.debt) (ends_before s.now s.core.interval s.core.mark) over).1
    (subst (λ m. WindowCloses s.now (phase_in s.work) s.core.interval s.core.mark m s.core.window) e h))
    (λ _. h)
settle_closes (Idle until) s e h =
    cond_both (ltb s.now until) s (record s { core = at_point s.core }) CoreCloses (λ _. h)
    (λ over. closes_idle s.now until (phase_in s.work) s.core.interval s.core.mark s.core.window (ltb-false s.now until over)
    (subst (λ m. WindowCloses s.now (phase_in s.work) s.core.interval s.core.mark m s.core.window) e h))

-- the transfer lies inside it
abbrev GatesInside : MachineState → Type 0
GatesInside s = CarriesInside s.now s.core.window s.gates

settle_inside : (m : Mode) (s : MachineState) → GatesInside s → GatesInside (settle m s)
settle_inside Point s h = h
settle_inside (Switching k left) s h = h
settle_inside (Running k) s h =
    cond_both (is_paid s.core.debt && ends_before s.now s.core.interval s.core.mark) (close_interval k s) s GatesInside (λ _. h) (λ _. h)
settle_inside (Idle until) s h = cond_both (ltb s.now until) s (record s { core = at_point s.core }) GatesInside (λ _. h) (λ _. h)

-- the end of a cycle keeps that the core's window closes
pub ticked_closes : (s : MachineState) → CoreCloses s → CoreCloses (ticked s)
ticked_closes s h =
    cond_both (is_some s.trapped) s (next_cycle s) CoreCloses (λ _. h)
    (λ _. settle_closes s.core.mode (with_now s (s.now + 1)) refl
    (closes_later s.now (phase_in s.work) s.core.interval s.core.mark s.core.mode s.core.window h))

-- ---- a cycle

-- behind the core's move, where the transfer has gone on
record Ticking (s : MachineState) : Type 0 where
  core : WindowCloses s.now (phase_in s.work) s.core.interval s.core.mark s.core.mode s.core.window
  gates : CarriesInside (s.now + 1) s.core.window s.gates

ticked_holds : (s : MachineState) → Ticking s → WindowsHold (ticked s)
ticked_holds s h = record {
  core = ticked_closes s h.core;
  gates =
      cond_both (is_some s.trapped) s (next_cycle s) GatesInside (λ _. sooner s.now s.core.window s.gates h.gates)
      (λ _. settle_inside s.core.mode (with_now s (s.now + 1)) h.gates);
}

-- another window opens only where nothing is carried
gates_stay : (now : ℕ) (w w' : Window) (s : GatesState) (memory : List ℕ) (b : Turned) → (w.close ≤ now → IsQuiet s memory b) →
    CarriesInside (now + 1) w b.gates → (w' ≡ w) ⊎ (w.close ≤ now) → CarriesInside (now + 1) w' b.gates
gates_stay now w w' s memory b quiet h stays =
    ⊎_elim (λ (same : w' ≡ w). subst (λ x. CarriesInside (now + 1) x b.gates) (sym same) h)
    (λ (closed : w.close ≤ now).
    record { carried = subst (λ (o : Option Carried). IfSome o (LiesInside (now + 1) w')) (sym (quiet closed).after) tt; costs = h.costs })
    stays

arrived_inside : (requests : List Request) (s : MachineState) → WindowsHold s → CarriesInside s.now s.core.window (arrivals_at requests s).gates
arrived_inside requests s h = arrivals_inside s.now s.core.window s.now requests (record { gates = s.gates; dropped = s.log.dropped }) h.gates

move_is : (p : Setup) (b : Turned) (s : MachineState) → WindowsHold s → Moves s.now (phase_in s.work) s.core.window (move_at p b s)
move_is p b s h =
    moves s.now (phase_in s.work) p b.turn.core s.sched (with_memory b.memory s.work) s.core (move_at p b s)
    (move_cases p s.now b.turn.core s.sched (with_memory b.memory s.work) s.core) h.core

pub cycle_holds : CyclesKeepWindows
cycle_holds rule p requests s h =
    let a : Arrivals = arrivals_at requests s in
    let b : Turned = bus_at a.gates s in
    let inside : CarriesInside s.now s.core.window a.gates = arrived_inside requests s h in
    let t : TurnCloses s.now s.core.window (core_at rule p b s) =
    turn_closes rule p s.now (move_at p b s) (with_memory b.memory s.work) s.core (with_clash b.turn.clash s.log.counts) h.core (move_is p b s h) in
    ticked_holds (joined a b (core_at rule p b s) s)
    (record {
      core = t.closes;
      gates = gates_stay s.now s.core.window (core_at rule p b s).core.window a.gates s.work.memory b
          (λ closed. turn_quiet s.now s.core.window (want_of s.core.debt) a.gates s.work.memory closed inside)
          (turn_inside s.now s.core.window (want_of s.core.debt) a.gates s.work.memory inside) t.stays;
    })

-- ---- an instruction outside an execution phase

-- what holds of a move that issues
abbrev IssuesClosed : ℕ → (ℕ → Phase) → Window → CoreMove → Type 0
IssuesClosed now phases w m = (k : ℕ) (i : Interval) → m ≡ Issues k i → is_execution (phases k) ≡ false → w.close ≤ now

issues_closed : (now : ℕ) (phases : ℕ → Phase) (w : Window) (m : CoreMove) → Moves now phases w m → IssuesClosed now phases w m
issues_closed now phases w m h k i e out =
    let may : MayIssue now phases w k i = subst (Moves now phases w) e h in
    subst (λ b. w.close ≤ cond b (i.first + i.stated) now) out may.by_then

pub quiet_outside : QuietOutsideExecution
quiet_outside p requests s k i h e out =
    let a : Arrivals = arrivals_at requests s in
    let b : Turned = bus_at a.gates s in
    let closed : s.core.window.close ≤ s.now = issues_closed s.now (phase_in s.work) s.core.window (move_at p b s) (move_is p b s h) k i e out in
    let q : IsQuiet a.gates s.work.memory b = turn_quiet s.now s.core.window (want_of s.core.debt) a.gates s.work.memory closed (arrived_inside requests s h) in
    let first : IsQuiet s.gates s.work.memory (bus_at s.gates s) = turn_quiet s.now s.core.window (want_of s.core.debt) s.gates s.work.memory closed h.gates in
    record { before = first.before; after = q.after; ends_none = q.ends_none; same = q.same }

-- ---- an input word

input_phases : (tasks : List Task) (k word j : ℕ) (z : Task) → (get_or (slice_set tasks k (with_word word (get_or tasks k z))) j z).phase ≡ (get_or tasks j z).phase
input_phases tasks k word j z =
    let t : Task = with_word word (get_or tasks k z) in
    ⊎_elim (λ (same : j ≡ k).
    ⊎_elim (λ (lt : k < length tasks).
    ap (λ i. (get_or (slice_set tasks k t) i z).phase) same ∙ ap (λ (x : Task). x.phase) (get_or-set_same tasks k t z lt) ∙ ap (λ i. (get_or tasks i z).phase) (sym same))
    (λ (past : length tasks ≤ k). ap (λ ts. (get_or ts j z).phase) (set_past tasks k t past))
    (cases_lt k (length tasks)))
    (λ (ne : j ≡ k → ⊥). ap (λ (x : Task). x.phase) (get_or-set_other tasks k j t z ne))
    (cases_eq j k)

pub input_holds : InputsKeepWindows
input_holds k word s h =
    let same : (j : ℕ) → phase_in (with_input k word s).work j ≡ phase_in s.work j = λ j. input_phases s.work.tasks k word j (first_task no_record []) in
    record {
      core = subst (λ f. WindowCloses s.now f s.core.interval s.core.mark s.core.mode s.core.window) (λ x j. sym (same j) x) h.core;
      gates = h.gates;
    }

-- ---- the start, and runs

start_costs : (ds : List Device) (areas : List ℕ) → All (λ (d : Device). 1 ≤ d.cost) ds → All (λ (g : GateState). 1 ≤ g.cost) (gates_of ds areas)
start_costs [] areas all k d lt = absurd (omega (arith, lt))
start_costs (d ∷ ds) [] all k e lt = absurd (omega (arith, lt))
start_costs (d ∷ ds) (a ∷ areas) all zero e lt = all 0 d (omega arith)
start_costs (d ∷ ds) (a ∷ areas) all (suc k) e lt = start_costs ds areas (λ j x l. all (suc j) x (omega (arith, l))) k e (omega (arith, lt))

device_costs : (ds : List DeviceRecord) → HaveCosts ds → All (λ (d : Device). 1 ≤ d.cost) (map (λ (d : DeviceRecord). d.device) ds)
device_costs [] all k d lt = absurd (omega (arith, lt))
device_costs (d ∷ ds) all zero e lt = all 0 d (omega arith)
device_costs (d ∷ ds) all (suc k) e lt = device_costs ds (λ j x l. all (suc j) x (omega (arith, l))) k e (omega (arith, lt))

start_phases : (rs : List TaskRecord) (inputs : List (List ℕ)) (k : ℕ) → (get_or (first_tasks rs inputs) k (first_task no_record [])).phase ≡ Compatible
start_phases [] inputs k = refl
start_phases (r ∷ rs) [] zero = refl
start_phases (r ∷ rs) (words ∷ inputs) zero = refl
start_phases (r ∷ rs) [] (suc k) = start_phases rs [] k
start_phases (r ∷ rs) (words ∷ inputs) (suc k) = start_phases rs inputs k

pub start_closes : (p : Setup) (inputs : List (List ℕ)) (memory : List ℕ) → CoreCloses (start_of p inputs memory)
start_closes p inputs memory =
    let none : (k : ℕ) → phase_in (start_of p inputs memory).work k ≡ Execution → ⊥ =
    λ k e. let x : Compatible ≡ Execution = sym (start_phases p.tasks inputs k) ∙ e in cc in
    record { by_then = omega arith; runs = λ k e. absurd (none k e); goes_on = λ k e. absurd (none k e) }

pub start_holds : (p : Setup) (inputs : List (List ℕ)) (memory : List ℕ) → HaveCosts p.devices → WindowsHold (start_of p inputs memory)
start_holds p inputs memory costs = record {
  core = start_closes p inputs memory;
  gates = record {
    carried = tt;
    costs = start_costs (map (λ (d : DeviceRecord). d.device) p.devices) (map (λ (d : DeviceRecord). d.area) p.devices) (device_costs p.devices costs);
  };
}

step_holds : (rule : ReplacementRule) (p : Setup) (requests : List Request) (s : MachineState) → WindowsHold s → WindowsHold (step_of rule p requests s)
step_holds rule p requests s h =
    cond_both (is_over s) s (cycle_of rule p requests s) WindowsHold (λ _. h) (λ _. cycle_holds rule p requests s h)

cycles_hold : (rule : ReplacementRule) (p : Setup) (requests : List Request) (n : ℕ) (s : MachineState) → WindowsHold s → WindowsHold (cycles_of rule p requests n s)
unfolding cycles_of
cycles_hold rule p requests zero s h = h
cycles_hold rule p requests (suc n) s h = step_holds rule p requests (cycles_of rule p requests n s) (cycles_hold rule p requests n s h)

pub run_holds : RunsKeepWindows
run_holds rule p content inputs requests n costs =
    cycles_hold rule p requests n (start_of p inputs (memory_of p content)) (start_holds p inputs (memory_of p content) costs)
