-- Where the core wants the bus only while the window is closed, core and gate never want one cycle both.
use Rattle.std.proofs.Common.{◌≡◌, ℕ, ◌+◌, ◌<◌, ◌≤◌, refl, ap, ◌∙◌, arith, leb, Some, None, Option, true, false, Bool, List, length, ⊎_elim}
use Rattle.prem_sound.proofs.Prelude.{none_inside, CarriesInside, startable_is, GateState, GatesState, Turned, gate_at, no_gate, startable, taken, carries, wants, starts, bus_with, bus_turn}
use Rattle.prem_sound.proofs.Prelude.{IsStart, Carried, CoreWant, No, New, Held, Window, cases_lt, cond_both, get_or_past, All}
use Rattle.prem_gate.specs.Gates.{ends, goes_on}

-- ---- a closed window

cost_at : (gates : List GateState) (d : ℕ) → All (λ (g : GateState). 1 ≤ g.cost) gates → 1 ≤ (gate_at gates d).cost
cost_at gates d all =
    ⊎_elim (λ (lt : d < length gates). all d no_gate lt)
    (λ (past : length gates ≤ d).
    let e : (gate_at gates d).cost ≡ 1 = ap (λ (g : GateState). g.cost) (get_or_past gates d no_gate past) in
    omega (arith, e))
    (cases_lt d (length gates))

none_starts : (now : ℕ) (w : Window) (s : GatesState) (start : Option Carried) → w.close ≤ now → All (λ (g : GateState). 1 ≤ g.cost) s.gates → startable now w s ≡ start → start ≡ None
none_starts now w s None closed all is = refl
none_starts now w s (Some c) closed all is =
    let h : IsStart now w s.gates c = startable_is now w s c is in
    let cost : 1 ≤ (gate_at s.gates c.device).cost = cost_at s.gates c.device all in
    let left : c.left ≡ (gate_at s.gates c.device).cost = h.cost in
    let close : now + c.left ≤ w.close = h.before_close in
    absurd (omega arith)

-- ---- no clash

carries_clash : (clash : Bool) (c : Carried) (s : GatesState) (memory : List ℕ) → (carries clash c s memory).turn.clash ≡ clash
carries_clash clash c s memory =
    cond_both (leb c.left 1) (ends clash c s memory) (goes_on clash c s memory) (λ (t : Turned). t.turn.clash ≡ clash) (λ _. refl) (λ _. refl)

starts_clash : (start : Option Carried) (s : GatesState) (memory : List ℕ) → (starts false start s memory).turn.clash ≡ false
starts_clash None s memory = refl
starts_clash (Some c) s memory = carries_clash false c (taken c.device s) memory

-- the core wants nothing
idle_calm : (carried start : Option Carried) (s : GatesState) (memory : List ℕ) → (bus_with No carried start s memory).turn.clash ≡ false
idle_calm (Some c) start s memory = carries_clash false c s memory
idle_calm None start s memory = starts_clash start s memory

closed_calm : (core : CoreWant) (s : GatesState) (memory : List ℕ) → (bus_with core None None s memory).turn.clash ≡ false
closed_calm No s memory = refl
closed_calm New s memory = refl
closed_calm Held s memory = refl

shut_calm : (now : ℕ) (w : Window) (core : CoreWant) (s : GatesState) (memory : List ℕ) → CarriesInside now w s → w.close ≤ now → (bus_turn now w core s memory).turn.clash ≡ false
shut_calm now w core s memory h closed =
    let none : s.carried ≡ None = none_inside now w s.carried closed h.carried in
    let still : startable now w s ≡ None = none_starts now w s (startable now w s) closed h.costs refl in
    ap (λ o. (bus_with core o (startable now w s) s memory).turn.clash) none
    ∙ ap (λ o. (bus_with core None o s memory).turn.clash) still
    ∙ closed_calm core s memory

pub turn_calm : (now : ℕ) (w : Window) (core : CoreWant) (s : GatesState) (memory : List ℕ) → CarriesInside now w s →
    (wants core ≡ true → w.close ≤ now) → (bus_turn now w core s memory).turn.clash ≡ false
turn_calm now w No s memory h calm = idle_calm s.carried (startable now w s) s memory
turn_calm now w New s memory h calm = shut_calm now w New s memory h (calm refl)
turn_calm now w Held s memory h calm = shut_calm now w Held s memory h (calm refl)

-- ---- the core has the bus

closed_serves : (core : CoreWant) (s : GatesState) (memory : List ℕ) → wants core ≡ true → (bus_with core None None s memory).turn.core ≡ true
closed_serves No s memory h = absurd (let x : false ≡ true = h in cc)
closed_serves New s memory h = refl
closed_serves Held s memory h = refl

-- where it wants it only while the window is closed
pub turn_serves : (now : ℕ) (w : Window) (core : CoreWant) (s : GatesState) (memory : List ℕ) → CarriesInside now w s →
    (wants core ≡ true → w.close ≤ now) → wants core ≡ true → (bus_turn now w core s memory).turn.core ≡ true
turn_serves now w core s memory h calm want =
    let closed : w.close ≤ now = calm want in
    let none : s.carried ≡ None = none_inside now w s.carried closed h.carried in
    let still : startable now w s ≡ None = none_starts now w s (startable now w s) closed h.costs refl in
    ap (λ o. (bus_with core o (startable now w s) s memory).turn.core) none
    ∙ ap (λ o. (bus_with core None o s memory).turn.core) still
    ∙ closed_serves core s memory want
