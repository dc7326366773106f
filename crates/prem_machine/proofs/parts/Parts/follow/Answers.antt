use Rattle.std.proofs.Common.{◌≡◌, ◌+◌, ◌-◌, ◌<◌, ◌≤◌, ℕ, All, List, length, map, ap, sym, ◌∙◌, subst, arith}
use Rattle.prem_machine.proofs.Prelude.{cycles_of, MachineState, rule_in, TaskFacts, Mode, items_of, room_of, Sequence, LeadsTo, ended_in, ModeReady, state_of, AreSilent, setup_in, work_in}
use Rattle.prem_machine.proofs.Prelude.{with_items_is}
use Rattle.prem_machine.proofs.Onward.{Leaves, onward_lone, onward_put, onward_runs, onward_silent, onward_stands, onward_state, onward_told, room_for}
use Rattle.prem_machine.proofs.OneByOne.{tells_none}
use Rattle.prem_machine.proofs.Stretching.{silent_stays, stays}
use Rattle.prem_machine.specs.Execution.{LeadsToTold, ToldBehind}
use Rattle.std.specs.Vec.{with_items}
use Rattle.prem_machine.proofs.parts.Parts.follow.Goals as goal

pub returns-then-room-le21-clause-state : goal.returns-then-room-le21-clause-state
returns-then-room-le21-clause-state g c =
    let x = c.args.self.now in
    stays (rule_in (setup_in c.args.setting.now)) (setup_in c.args.setting.now) c.args.requests.now (state_of x) x.now

pub follow_in-followed-requires-clause-room : goal.follow_in-followed-requires-clause-room
follow_in-followed-requires-clause-room g c =
    let x = c.args.self.now in
    let A : List TaskFacts → Type 0 = All (λ t. length (items_of t.outputs) + (c.min-room.result - 21) < room_of t.outputs) in
    subst A (sym c.items_mut.ensures.value) (room_for c.args.requests.now x (c.min-room.result - 21) c.args.left c.requires.stands.rooms c.requires.room
    (omega (arith, c.min-room.ensures, c.if-room-le21.false)))

-- the list of the tasks behind them
abbrev tasks : (g : _) (c : goal.After-self-4-1 g) → Sequence TaskFacts
tasks g c = record { all = with_items c.args.self.now.facts.tasks.all c.follow_in-followed.new.tasks }

there : (g : _) (c : goal.After-self-4-1 g) → items_of (tasks g c) ≡ c.follow_in-followed.new.tasks
there g c =
    let all = c.args.self.now.facts.tasks in
    with_items_is all.all c.follow_in-followed.new.tasks (c.follow_in-followed.auto.tasks ∙ ap length c.items_mut.ensures.value ∙ sym all.all.ok.0)

leaves : (g : _) (c : goal.After-self-4-1 g) → Leaves c.args.setting.now c.args.lone.task c.args.self.now c.follow_in-followed.new.work (tasks g c)
    c.follow_in-followed.result.time c.follow_in-followed.result.hits c.follow_in-followed.result.stores
leaves g c =
    let x = c.args.self.now in
    let done = c.follow_in-followed in
    let e = done.ensures in
    let is = there g c in
    let value = c.items_mut.ensures.value in
    let p = c.args.setting.now in
    let rooms : List TaskFacts → List ℕ = map (λ t. room_of t.outputs) in
    let A : List TaskFacts → Type 0 = λ ts. LeadsTo p.plant c.from-k.result (work_in x.work ts) (work_in done.new.work done.new.tasks) done.result.time done.result.hits done.result.stores in
    let B : List TaskFacts → Type 0 = λ ts. LeadsTo p.plant c.from-k.result (work_in x.work (items_of x.facts.tasks)) (work_in done.new.work ts) done.result.time done.result.hits done.result.stores in
    let C : ℕ → Type 0 = λ k. LeadsTo p.plant k (work_in x.work (items_of x.facts.tasks)) (work_in done.new.work (items_of (tasks g c))) done.result.time done.result.hits done.result.stores in
    record {
      leads = subst C c.from-k.ensures (subst B (sym is) (subst A value e.leads));
      plant = e.plant;
      cores = e.cores;
      count = ap length is ∙ done.auto.tasks ∙ ap length value;
      ended = ap ended_in is ∙ e.ended ∙ ap ended_in value;
      rooms = ap rooms is ∙ e.rooms ∙ ap rooms value;
      found = e.few.0;
      stored = e.few.1;
    }

here : (g : _) (c : goal.After-self-4-1 g) → c.args.lone.task < length c.args.self.now.work.cores.items
here g c =
    let x = c.args.self.now in
    let M : Mode → Type 0 = λ d. ModeReady x.now x.sched d in
    let ready = (subst M c.requires.lone.mode c.requires.runs.ready).0 in
    omega (arith, ready, c.requires.stands.tasks, c.requires.stands.cores)

within : (g : _) (c : goal.After-self-4-1 g) → (c.args.self.now.now + c.follow_in-followed.result.time ≤ c.args.lone.until) × (c.follow_in-followed.result.time < c.args.left)
within g c =
    let e = c.follow_in-followed.ensures.time in
    (omega (arith, e, c.min-room.ensures, c.if-room-le21.false, c.requires.now), omega (arith, e, c.min-room.ensures, c.if-room-le21.false))

pub returns-clause-state : goal.returns-clause-state
returns-clause-state g c =
    let x = c.args.self.now in
    let p = c.args.setting.now in
    let done = c.follow_in-followed.result in
    let le = within g c in
    let cycles : ℕ → MachineState = λ n. cycles_of (rule_in (setup_in p)) (setup_in p) c.args.requests.now n (state_of x) in
    let t : done.time ≡ x.now + done.time - x.now = omega arith in
    onward_state p c.args.requests.now c.args.lone.task c.args.lone.until x c.follow_in-followed.new.work (tasks g c)
    done.time done.hits done.stores c.requires.lone c.requires.stands c.requires.trapped (here g c)
    (leaves g c) le.0 (omega (arith, le.1, c.requires.room)) c.requires.intervals ∙ ap cycles t

pub returns-clause-stands : goal.returns-clause-stands
returns-clause-stands g c =
    let done = c.follow_in-followed.result in
    onward_stands c.args.setting.now c.args.requests.now c.args.lone.task c.args.self.now c.follow_in-followed.new.work (tasks g c) done.time done.hits done.stores c.requires.stands (leaves g c)

pub returns-clause-runs : goal.returns-clause-runs
returns-clause-runs g c =
    let done = c.follow_in-followed.result in
    onward_runs c.args.setting.now c.args.requests.now c.args.lone.task c.args.lone.until c.args.self.now c.follow_in-followed.new.work (tasks g c) done.time done.hits done.stores
    c.requires.lone c.requires.stands c.requires.runs (leaves g c) ((within g c).0)

pub returns-clause-lone : goal.returns-clause-lone
returns-clause-lone g c =
    let done = c.follow_in-followed.result in
    onward_lone c.args.requests.now c.args.lone.task c.args.lone.until c.args.self.now c.follow_in-followed.new.work (tasks g c) done.time done.hits done.stores c.requires.lone

pub returns-clause-room : goal.returns-clause-room
returns-clause-room g c =
    let done = c.follow_in-followed.result in
    let put = onward_put c.args.setting.now c.args.requests.now c.args.lone.task c.args.self.now c.follow_in-followed.new.work (tasks g c)
    done.time done.hits done.stores c.requires.stands (here g c) (leaves g c) in
    omega (arith, put, (within g c).1, c.requires.room)

pub returns-then-room-le21-clause-silent : goal.returns-then-room-le21-clause-silent
returns-then-room-le21-clause-silent g c =
    let x = c.args.self.now in
    silent_stays (rule_in (setup_in c.args.setting.now)) (setup_in c.args.setting.now) c.args.requests.now (state_of x) x.now

pub returns-clause-silent : goal.returns-clause-silent
returns-clause-silent g c =
    let x = c.args.self.now in
    let p = c.args.setting.now in
    let done = c.follow_in-followed.result in
    let le = within g c in
    let S : ℕ → Type 0 = λ n. AreSilent (rule_in (setup_in p)) (setup_in p) c.args.requests.now n (state_of x) in
    let t : done.time ≡ x.now + done.time - x.now = omega arith in
    subst S t (onward_silent p c.args.requests.now c.args.lone.task c.args.lone.until x c.follow_in-followed.new.work (tasks g c)
    done.time done.hits done.stores c.requires.lone c.requires.stands c.requires.trapped
    (here g c) (leaves g c) le.0 (omega (arith, le.1, c.requires.room)) c.requires.intervals)

-- ---- what is told

pub returns-then-room-le21-clause-told : goal.returns-then-room-le21-clause-told
returns-then-room-le21-clause-told g c is_told =
    let x = c.args.self.now in
    tells_none (rule_in (setup_in c.args.setting.now)) (setup_in c.args.setting.now) c.args.requests.now (state_of x) x.now c.args.told.now.items

pub returns-clause-told : goal.returns-clause-told
returns-clause-told g c is_told =
    let x = c.args.self.now in
    let p = c.args.setting.now in
    let done = c.follow_in-followed in
    let time = done.result.time in
    let le = within g c in
    let before = c.args.told.now.items in
    let told = done.new.told.items in
    let W : List TaskFacts → List TaskFacts → ℕ → Type 0 = λ from to k.
    LeadsToTold p.plant k (work_in x.work from) (work_in done.new.work to) time done.result.hits done.result.stores before told in
    let r : W (items_of x.facts.tasks) (items_of (tasks g c)) c.args.lone.task =
    subst (λ k. W (items_of x.facts.tasks) (items_of (tasks g c)) k) c.from-k.ensures
    (subst (λ ts. W (items_of x.facts.tasks) ts c.from-k.result) (sym (there g c))
    (subst (λ ts. W ts done.new.tasks c.from-k.result) c.items_mut.ensures.value (done.ensures.told is_told))) in
    let T : ℕ → Type 0 = λ n. ToldBehind (rule_in (setup_in p)) (setup_in p) c.args.requests.now n (state_of x) before told in
    let t : time ≡ x.now + time - x.now = omega arith in
    subst T t (onward_told p c.args.requests.now c.args.lone.task c.args.lone.until x done.new.work (tasks g c) time done.result.hits done.result.stores before told
    c.requires.lone c.requires.stands c.requires.trapped (here g c) (leaves g c) r le.0 (omega (arith, le.1, c.requires.room)) c.requires.intervals)
