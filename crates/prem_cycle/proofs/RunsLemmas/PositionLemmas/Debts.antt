-- What an instruction makes the core owe, and how it is paid.
use Rattle.std.proofs.Common.{◌≡◌, ℕ, ◌+◌, ◌*◌, ◌/◌, ◌<◌, ◌≤◌, refl, ap, ◌∙◌, sym, arith, cond, leb, Some, None, Option, true, false, Bool, List, [], ◌∷◌, ◌++◌}
use Rattle.std.specs.Prelude.{◌&&◌, ◌==◌}
use Rattle.prem_cycle.proofs.Prelude.{is_empty, want_of, paid_on_bus, is_paid, LineTouch, line_touch, issued_with, owed_for, owed_by, write_back, fill, Transaction, shorter, data_accesses, Task, Debt, wants, No, New, Held, Access}
use Rattle.prem_cycle.proofs.Prelude.{Stored, Touched, touch_of, ReplacementRule, IsPlant, Plant, cond_both, leb-true, leb-false, and_parts}

-- ---- lists of transactions

abbrev pub total : List Transaction → ℕ
total [] = 0
total (t ∷ ts) = t.cycles + total ts

pub total-append : (xs ys : List Transaction) → total (xs ++ ys) ≡ total xs + total ys
total-append [] ys = omega arith
total-append (x ∷ xs) ys = let e : total (xs ++ ys) ≡ total xs + total ys = total-append xs ys in omega arith

-- each takes some cycles
abbrev pub ArePositive : List Transaction → Type 0
ArePositive [] = Unit {0}
ArePositive (t ∷ ts) = (0 < t.cycles) × ArePositive ts

positive-append : (xs ys : List Transaction) → ArePositive xs → ArePositive ys → ArePositive (xs ++ ys)
positive-append [] ys p q = q
positive-append (x ∷ xs) ys p q = (p.0, positive-append xs ys p.1 q)

-- ---- what touches owe

touch_owes : (plant : Plant) (t : LineTouch) → total (owed_for plant t) ≤ plant.fill + plant.back
touch_owes plant t =
    cond_both t.hit [] (cond t.back (write_back plant ∷ fill plant ∷ []) (fill plant ∷ [])) (λ xs. total xs ≤ plant.fill + plant.back) (λ _. omega arith)
    (λ _. cond_both t.back (write_back plant ∷ fill plant ∷ []) (fill plant ∷ []) (λ xs. total xs ≤ plant.fill + plant.back) (λ _. omega arith) (λ _. omega arith))

touch_positive : (plant : Plant) (t : LineTouch) → IsPlant plant → ArePositive (owed_for plant t)
touch_positive plant t h =
    let f : 1 ≤ plant.fill = h.fill.0 in
    let b : 1 ≤ plant.back = h.back.0 in
    cond_both t.hit [] (cond t.back (write_back plant ∷ fill plant ∷ []) (fill plant ∷ [])) ArePositive (λ _. tt)
    (λ _. cond_both t.back (write_back plant ∷ fill plant ∷ []) (fill plant ∷ []) ArePositive (λ _. (omega arith, (omega arith, tt))) (λ _. (omega arith, tt)))

pub owed_positive : (plant : Plant) (touches : List LineTouch) → IsPlant plant → ArePositive (owed_by plant touches)
owed_positive plant [] h = tt
owed_positive plant (t ∷ touches) h = positive-append (owed_for plant t) (owed_by plant touches) (touch_positive plant t h) (owed_positive plant touches h)

-- each access at most a fill and a write back
pub owed_at_most : (rule : ReplacementRule) (plant : Plant) (size : ℕ) (tasks : List Task) (stored : Option Stored) (line : ℕ) (t : Touched)
    (access : Option Access) → total (owed_by plant (issued_with rule size tasks stored line t access).touches) ≤ (1 + data_accesses access) *
    (plant.fill + plant.back)
owed_at_most rule plant size tasks stored line t None =
    let a : total (owed_for plant (line_touch line t)) ≤ plant.fill + plant.back = touch_owes plant (line_touch line t) in
    let e : total (owed_for plant (line_touch line t) ++ []) ≡ total (owed_for plant (line_touch line t)) + 0 = total-append (owed_for plant (line_touch line t)) [] in
    omega arith
owed_at_most rule plant size tasks stored line t (Some x) =
    let u : LineTouch = line_touch (x.address / size) (touch_of rule t.cache (x.address / size) t.memory) in
    let a : total (owed_for plant (line_touch line t)) ≤ plant.fill + plant.back = touch_owes plant (line_touch line t) in
    let b : total (owed_for plant u) ≤ plant.fill + plant.back = touch_owes plant u in
    let e : total (owed_for plant (line_touch line t) ++ (owed_for plant u ++ []))
    ≡ total (owed_for plant (line_touch line t)) + total (owed_for plant u ++ []) =
    total-append (owed_for plant (line_touch line t)) (owed_for plant u ++ []) in
    let f : total (owed_for plant u ++ []) ≡ total (owed_for plant u) + 0 = total-append (owed_for plant u) [] in
    omega arith

-- ---- paying

-- without transactions the core wants no bus, and else it does
pub wants_none : (d : Debt) → d.transactions ≡ [] → wants (want_of d) ≡ false
wants_none d e = ap (λ ts. wants (cond (is_empty ts) No (cond d.begun Held New))) e

wants_by : (ts : List Transaction) (begun : Bool) → wants (cond (is_empty ts) No (cond begun Held New)) ≡ false → ts ≡ []
wants_by [] begun h = refl
wants_by (n ∷ ns) true h = absurd (let x : true ≡ false = h in cc)
wants_by (n ∷ ns) false h = absurd (let x : true ≡ false = h in cc)

pub none_wanted : (d : Debt) → wants (want_of d) ≡ false → d.transactions ≡ []
none_wanted d h = wants_by d.transactions d.begun h

-- a cycle of the first transaction
pub record PaysOne (d : Debt) (d' : Debt) : Type 0 where
  pub less : total d'.transactions + 1 ≡ total d.transactions
  pub positive : ArePositive d'.transactions
  pub cost : d'.cost ≡ d.cost

pays_by : (ts : List Transaction) (d : Debt) → d.transactions ≡ ts → ArePositive ts → wants (want_of d) ≡ true → PaysOne d (paid_on_bus ts d)
pays_by [] d e p h = absurd (let x : false ≡ true = sym (wants_none d e) ∙ h in cc)
pays_by (n ∷ ns) d e p h =
    let is : total d.transactions ≡ n.cycles + total ns = ap total e in
    cond_both (leb n.cycles 1) (record d { transactions = ns; begun = false }) (record d { transactions = shorter 1 n ∷ ns; begun = true }) (PaysOne d)
    (λ t. record { less = omega (arith, leb-true n.cycles 1 t, p.0, is); positive = p.1; cost = refl })
    (λ f. record { less = omega (arith, p.0, is); positive = (omega (arith, leb-false n.cycles 1 f), p.1); cost = refl })

pub pays_one : (d : Debt) → ArePositive d.transactions → wants (want_of d) ≡ true → PaysOne d (paid_on_bus d.transactions d)
pays_one d p h = pays_by d.transactions d refl p h

-- a paid debt has no transaction
pub paid_none : (d : Debt) → is_paid d ≡ true → d.transactions ≡ []
paid_none d h = none_of d.transactions (and_parts (is_empty d.transactions) (d.cost == 0) h).0 where
  none_of : (ts : List Transaction) → is_empty ts ≡ true → ts ≡ []
  none_of [] e = refl
  none_of (n ∷ ns) e = absurd (let x : false ≡ true = e in cc)

pub paid_is : (d : Debt) → d.transactions ≡ [] → d.cost ≡ 0 → is_paid d ≡ true
paid_is d e f = ap (λ ts. is_empty ts && (d.cost == 0)) e ∙ ap (λ n. n == 0) f
