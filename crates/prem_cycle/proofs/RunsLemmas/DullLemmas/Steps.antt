-- A cycle of rest, and what so many of them come to.
use Rattle.std.proofs.Common.{◌≡◌, ℕ, zero, suc, ◌+◌, ◌-◌, ◌<◌, ◌≤◌, Bool, true, false, cond, List, [], ◌∷◌, Option, Some, None, refl, ap, sym, ◌∙◌, arith}
use Rattle.std.specs.Prelude.{nat_lt, nat_le, ◌&&◌, ◌==◌, if◌then◌else◌}
use Rattle.prem_cycle.proofs.Prelude.{is_empty, want_of, paid_on_bus, with_debt, with_cost, is_paid, core_pay, Passes, begin_switch, move_running, move_in, move_of, settle, ends_before}
use Rattle.prem_cycle.proofs.Prelude.{at_point, close_interval, bus_rest, idle_rest, running_rest, mode_rest, core_rest, Within, transactions_passed, debt_passed, mode_passed, core_passed}
use Rattle.prem_cycle.proofs.Prelude.{Setup, Transaction, shorter, Work, CoreState, MachineState, Interval, Mode, Point, Switching, Running, Idle, wants, is_held, lesser, CoreWant, No, New, Held, Change, Stay}
use Rattle.prem_cycle.proofs.Prelude.{Memory, Execute, End, Job, TaskJobs, nat_tests}

-- ---- numbers of cycles

pub within_less : (m n : ℕ) (o : Option ℕ) → m ≤ n → Within n o → Within m o
within_less m n None le h = tt
within_less m n (Some most) le h = omega (arith, le, h)

pub within_both : (n : ℕ) (a b : Option ℕ) → Within n (lesser a b) → Within n a × Within n b
within_both n None b h = (tt, h)
within_both n (Some x) None h = (h, tt)
within_both n (Some x) (Some y) h = (omega (arith, h), omega (arith, h))

pub both_within : (n : ℕ) (a b : Option ℕ) → Within n a → Within n b → Within n (lesser a b)
both_within n None b p q = q
both_within n (Some x) None p q = p
both_within n (Some x) (Some y) p q = omega (arith, p, q)

-- ---- what is owed

-- what it wants of the bus, by what decides it
abbrev pub want_by : Bool → List Transaction → CoreWant
want_by begun ns = if is_empty ns then No else (if begun then Held else New)

pub same_want : (n : ℕ) (begun : Bool) (ns : List Transaction) → want_by begun (transactions_passed n begun ns) ≡ want_by begun ns
same_want n begun [] = refl
same_want n false (m ∷ ns) = refl
same_want n true (m ∷ ns) = refl

-- the core's state behind so many cycles, by whether it wants the bus
abbrev pub passed_by : Bool → ℕ → CoreState → CoreState
passed_by true n c = with_debt c (debt_passed n c.debt)
passed_by false n c = mode_passed n c c.mode

pub passed_is : (b : Bool) (n : ℕ) (c : CoreState) → wants (want_of c.debt) ≡ b → core_passed n c ≡ passed_by b n c
passed_is true n c is = rw is refl
passed_is false n c is = rw is refl

pub mode_want : (n : ℕ) (c : CoreState) (mode : Mode) → want_of (mode_passed n c mode).debt ≡ want_of c.debt
mode_want n c Point = refl
mode_want n c (Switching k left) = refl
mode_want n c (Running k) = refl
mode_want n c (Idle until) = refl

want_passed_by : (b : Bool) (n : ℕ) (c : CoreState) → want_of (passed_by b n c).debt ≡ want_of c.debt
want_passed_by true n c = same_want n c.debt.begun c.debt.transactions
want_passed_by false n c = mode_want n c c.mode

pub want_passed : (n : ℕ) (c : CoreState) → want_of (core_passed n c).debt ≡ want_of c.debt
want_passed n c = let b = wants (want_of c.debt) in ap (λ (x : CoreState). want_of x.debt) (passed_is b n c refl) ∙ want_passed_by b n c

window_mode : (n : ℕ) (c : CoreState) (mode : Mode) → (mode_passed n c mode).window ≡ c.window
window_mode n c Point = refl
window_mode n c (Switching k left) = refl
window_mode n c (Running k) = refl
window_mode n c (Idle until) = refl

window_passed_by : (b : Bool) (n : ℕ) (c : CoreState) → (passed_by b n c).window ≡ c.window
window_passed_by true n c = refl
window_passed_by false n c = window_mode n c c.mode

pub window_passed : (n : ℕ) (c : CoreState) → (core_passed n c).window ≡ c.window
window_passed n c = let b = wants (want_of c.debt) in ap (λ (x : CoreState). x.window) (passed_is b n c refl) ∙ window_passed_by b n c

-- ---- the core's part of one more cycle, where it wants the bus

paid_next : (n : ℕ) (m : Transaction) (ns : List Transaction) (c : CoreState) (cost : ℕ) → suc n ≤ m.cycles - 1 →
    paid_on_bus (shorter n m ∷ ns) (record { transactions = shorter n m ∷ ns; begun = true; cost = cost }) ≡ record { transactions = shorter (suc n) m ∷ ns; begun = true; cost = cost }
paid_next n m ns c cost le =
    let more : nat_le (m.cycles - n) 1 ≡ false = grind (arith, nat_tests) in
    let e : m.cycles - n - 1 ≡ m.cycles - suc n = omega arith in
    rw more (ap (λ k. record { transactions = record m { cycles = k } ∷ ns; begun = true; cost = cost }) e)

-- the same of its parts
bus_next : (n : ℕ) (c : CoreState) (begun had : Bool) (ns : List Transaction) → had ≡ is_held (want_by begun ns) → Within (suc n) (bus_rest begun ns) →
    core_pay had (with_debt c (record { transactions = transactions_passed n begun ns; begun = begun; cost = c.debt.cost }))
    ≡ with_debt c (record { transactions = transactions_passed (suc n) begun ns; begun = begun; cost = c.debt.cost })
bus_next n c begun true [] e h = absurd (cc)
bus_next n c begun false [] e h = refl
bus_next n c false true (m ∷ ns) e h = absurd (cc)
bus_next n c false false (m ∷ ns) e h = refl
bus_next n c true true (m ∷ ns) e h = ap (with_debt c) (paid_next n m ns c c.debt.cost h)
bus_next n c true false (m ∷ ns) e h = absurd (cc)

pub move_wants : (p : Setup) (t : ℕ) (had : Bool) (sched : List TaskJobs) (w : Work) (c : CoreState) → wants (want_of c.debt) ≡ true → move_of p t had sched w c ≡ Passes (core_pay had c)
move_wants p t had sched w c is = rw is refl

pub move_free : (p : Setup) (t : ℕ) (had : Bool) (sched : List TaskJobs) (w : Work) (c : CoreState) → wants (want_of c.debt) ≡ false → move_of p t had sched w c ≡ move_in p t sched w c c.mode
move_free p t had sched w c is = rw is refl

-- ---- where it doesn't

switch_goes : (t : ℕ) (w : Work) (c : CoreState) (k l : ℕ) → 1 ≤ l → begin_switch t w c k l ≡ Passes (record c { mode = Switching k (l - 1) })
switch_goes t w c k zero h = absurd (omega (arith, h))
switch_goes t w c k (suc l) h = let e : l ≡ suc l - 1 = omega arith in ap (λ x. Passes (record c { mode = Switching k x })) e

cost_goes : (c : CoreState) (k l : ℕ) (mark : Change) → 1 ≤ l → move_running c k l mark ≡ Passes (with_cost c (l - 1))
cost_goes c k zero mark h = absurd (omega (arith, h))
cost_goes c k (suc l) mark h = let e : l ≡ suc l - 1 = omega arith in ap (λ x. Passes (with_cost c x)) e

running_next : (now n : ℕ) (c : CoreState) (k cost : ℕ) (mark : Change) → c.debt.cost ≡ cost → suc n ≤ running_rest now c.interval cost mark →
    move_running (with_cost c (c.debt.cost - n)) k (c.debt.cost - n) mark ≡ Passes (with_cost c (c.debt.cost - suc n))
running_next now n c k (suc cost) mark is h =
    let e : c.debt.cost - n - 1 ≡ c.debt.cost - suc n = omega arith in
    cost_goes (with_cost c (c.debt.cost - n)) k (c.debt.cost - n) mark (omega (arith, is, h)) ∙ ap (λ x. Passes (with_cost c x)) e
running_next now n c k zero End is h =
    let z : c.debt.cost - n ≡ 0 = omega (arith, is) in
    let e : 0 ≡ c.debt.cost - suc n = omega (arith, is) in
    ap (λ x. move_running (with_cost c x) k x End) z ∙ ap (λ x. Passes (with_cost c x)) e
running_next now n c k zero Stay is h = absurd (omega (arith, h))
running_next now n c k zero (Execute stated) is h = absurd (omega (arith, h))
running_next now n c k zero Memory is h = absurd (omega (arith, h))
running_next now n c k zero Job is h = absurd (omega (arith, h))

mode_next : (p : Setup) (now n : ℕ) (sched : List TaskJobs) (w : Work) (c : CoreState) (mode : Mode) → c.mode ≡ mode → Within (suc n) (mode_rest now c mode) →
    move_in p (now + n) sched w (mode_passed n c mode) (mode_passed n c mode).mode ≡ Passes (mode_passed (suc n) c mode)
mode_next p now n sched w c Point is h = absurd (omega (arith, h))
mode_next p now n sched w c (Switching k left) is h =
    let e : left - n - 1 ≡ left - suc n = omega arith in
    switch_goes (now + n) w (record c { mode = Switching k (left - n) }) k (left - n) (omega (arith, h)) ∙ ap (λ x. Passes (record c { mode = Switching k x })) e
mode_next p now n sched w c (Running k) is h =
    ap (move_in p (now + n) sched w (with_cost c (c.debt.cost - n))) is ∙ running_next now n c k c.debt.cost c.mark refl h
mode_next p now n sched w c (Idle until) is h = ap (move_in p (now + n) sched w c) is

move_by : (p : Setup) (now n : ℕ) (had : Bool) (sched : List TaskJobs) (w : Work) (c : CoreState) (b : Bool) → wants (want_of c.debt) ≡ b → had ≡ is_held (want_of c.debt) →
    Within (suc n) (core_rest now c) → move_of p (now + n) had sched w (passed_by b n c) ≡ Passes (passed_by b (suc n) c)
move_by p now n had sched w c true is e h =
    let both : Within (suc n) (lesser (bus_rest c.debt.begun c.debt.transactions) (idle_rest now c.mode)) = rw is at h in
    move_wants p (now + n) had sched w (passed_by true n c) (ap wants (want_passed_by true n c) ∙ is)
    ∙ ap Passes (bus_next n c c.debt.begun had c.debt.transactions e (within_both (suc n) (bus_rest c.debt.begun c.debt.transactions) (idle_rest now c.mode) both).0)
move_by p now n had sched w c false is e h =
    let alone : Within (suc n) (mode_rest now c c.mode) = rw is at h in
    move_free p (now + n) had sched w (passed_by false n c) (ap wants (want_passed_by false n c) ∙ is) ∙ mode_next p now n sched w c c.mode refl alone

pub move_next : (p : Setup) (now n : ℕ) (had : Bool) (sched : List TaskJobs) (w : Work) (c : CoreState) → had ≡ is_held (want_of c.debt) →
    Within (suc n) (core_rest now c) → move_of p (now + n) had sched w (core_passed n c) ≡ Passes (core_passed (suc n) c)
move_next p now n had sched w c e h =
    let b = wants (want_of c.debt) in
    ap (move_of p (now + n) had sched w) (passed_is b n c refl) ∙ move_by p now n had sched w c b refl e h ∙ ap Passes (sym (passed_is b (suc n) c refl))

-- ---- nothing is over with it

pub not_empty : (begun : Bool) (ns : List Transaction) → wants (want_by begun ns) ≡ true → is_empty ns ≡ false
not_empty begun [] e = absurd (cc)
not_empty begun (n ∷ ns) e = refl

pub unpaid : (a b d : Bool) → a ≡ false → ((a && b) && d) ≡ false
unpaid a b d e = rw e refl

cost_left : (a b d : Bool) → b ≡ false → ((a && b) && d) ≡ false
cost_left true b d e = rw e refl
cost_left false b d e = refl

pub not_ended : (a b : Bool) → b ≡ false → (a && b) ≡ false
not_ended true b e = e
not_ended false b e = refl

goes_on : (k : ℕ) (s : MachineState) → (is_paid s.core.debt && ends_before s.now s.core.interval s.core.mark) ≡ false → settle (Running k) s ≡ s
goes_on k s e = ap (λ b. cond b (close_interval k s) s) e

idles_on : (until : ℕ) (s : MachineState) → s.now < until → settle (Idle until) s ≡ s
idles_on until s lt = let e : nat_lt s.now until ≡ true = grind (arith, nat_tests) in ap (λ b. cond b s (record s { core = at_point s.core })) e

-- where it wants the bus
bus_stays : (now n : ℕ) (c : CoreState) (s : MachineState) (mode : Mode) → c.mode ≡ mode → wants (want_of s.core.debt) ≡ true → Within (suc n) (idle_rest now mode) → s.now ≡ now + suc n →
    settle mode s ≡ s
bus_stays now n c s Point is w h t = refl
bus_stays now n c s (Switching k left) is w h t = refl
bus_stays now n c s (Running k) is w h t =
    goes_on k s (unpaid (is_empty s.core.debt.transactions) (s.core.debt.cost == 0) (ends_before s.now s.core.interval s.core.mark) (not_empty s.core.debt.begun s.core.debt.transactions w))
bus_stays now n c s (Idle until) is w h t = idles_on until s (omega (arith, h, t))

running_stays : (now n : ℕ) (c : CoreState) (s : MachineState) (k cost : ℕ) (mark : Change) → c.debt.cost ≡ cost → c.mark ≡ mark → suc n ≤ running_rest now c.interval cost mark →
    s.core ≡ with_cost c (c.debt.cost - suc n) → s.now ≡ now + suc n → settle (Running k) s ≡ s
running_stays now n c s k (suc cost) mark is m h e t =
    let left : s.core.debt.cost ≡ c.debt.cost - suc n = ap (λ (x : CoreState). x.debt.cost) e in
    let some : (s.core.debt.cost == 0) ≡ false = grind (arith, nat_tests) in
    goes_on k s (cost_left (is_empty s.core.debt.transactions) (s.core.debt.cost == 0) (ends_before s.now s.core.interval s.core.mark) some)
running_stays now n c s k zero End is m h e t =
    let interval : s.core.interval ≡ c.interval = ap (λ (x : CoreState). x.interval) e in
    let mark : s.core.mark ≡ End = ap (λ (x : CoreState). x.mark) e ∙ m in
    let before : ends_before s.now c.interval End ≡ false = grind (arith, nat_tests) in
    let not : ends_before s.now s.core.interval s.core.mark ≡ false =
    ap (λ (i : Interval). ends_before s.now i s.core.mark) interval ∙ ap (ends_before s.now c.interval) mark ∙ before in
    goes_on k s (not_ended (is_paid s.core.debt) (ends_before s.now s.core.interval s.core.mark) not)
running_stays now n c s k zero Stay is m h e t = absurd (omega (arith, h))
running_stays now n c s k zero (Execute stated) is m h e t = absurd (omega (arith, h))
running_stays now n c s k zero Memory is m h e t = absurd (omega (arith, h))
running_stays now n c s k zero Job is m h e t = absurd (omega (arith, h))

mode_stays : (now n : ℕ) (c : CoreState) (s : MachineState) (mode : Mode) → c.mode ≡ mode → Within (suc n) (mode_rest now c mode) → s.core ≡ mode_passed (suc n) c mode →
    s.now ≡ now + suc n → settle s.core.mode s ≡ s
mode_stays now n c s Point is h e t = absurd (omega (arith, h))
mode_stays now n c s (Switching k left) is h e t = ap (λ (x : CoreState). settle x.mode s) e
mode_stays now n c s (Running k) is h e t =
    ap (λ m. settle m s) (ap (λ (x : CoreState). x.mode) e ∙ is) ∙ running_stays now n c s k c.debt.cost c.mark refl refl h e t
mode_stays now n c s (Idle until) is h e t =
    ap (λ m. settle m s) (ap (λ (x : CoreState). x.mode) e ∙ is) ∙ idles_on until s (omega (arith, h, t))

stays_by : (now n : ℕ) (c : CoreState) (s : MachineState) (b : Bool) → wants (want_of c.debt) ≡ b → Within (suc n) (core_rest now c) → s.core ≡ passed_by b (suc n) c →
    s.now ≡ now + suc n → settle s.core.mode s ≡ s
stays_by now n c s true is h e t =
    let both : Within (suc n) (lesser (bus_rest c.debt.begun c.debt.transactions) (idle_rest now c.mode)) = rw is at h in
    let want : wants (want_of s.core.debt) ≡ true = ap (λ (x : CoreState). wants (want_of x.debt)) e ∙ ap wants (want_passed_by true (suc n) c) ∙ is in
    ap (λ m. settle m s) (ap (λ (x : CoreState). x.mode) e)
    ∙ bus_stays now n c s c.mode refl want (within_both (suc n) (bus_rest c.debt.begun c.debt.transactions) (idle_rest now c.mode) both).1 t
stays_by now n c s false is h e t =
    let alone : Within (suc n) (mode_rest now c c.mode) = rw is at h in
    mode_stays now n c s c.mode refl alone e t

pub settle_stays : (now n : ℕ) (c : CoreState) (s : MachineState) → Within (suc n) (core_rest now c) → s.core ≡ core_passed (suc n) c → s.now ≡ now + suc n →
    settle s.core.mode s ≡ s
settle_stays now n c s h e t = let b = wants (want_of c.debt) in stays_by now n c s b refl h (e ∙ passed_is b (suc n) c refl) t
