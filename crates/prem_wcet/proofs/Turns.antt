-- One more item of a list that is made.
use Rattle.std.specs.Prelude.{min, slice_index}
use Rattle.std.proofs.Common.{◌≡◌, ℕ, zero, suc, ◌+◌, ◌<◌, List, [], ◌∷◌, ◌++◌, refl, ap, sym, ◌∙◌, subst, arith, append_assoc, length, map, take, drop, get_or}
use Rattle.std.specs.List.{AllByRecursion}
use Rattle.std.proofs.lemmas.List.{take_more, length-map}
use Rattle.prem_list.specs.declared.Sequence.{Sequence}
use Rattle.prem_list.specs.Sequence.{items_of}
use Rattle.prem_plant.specs.declared.plant.Plant.{Plant}
use Rattle.prem_asm.specs.declared.piece.Piece.{Piece}
use Rattle.prem_asm.specs.Pieces.{Pieces, no_pieces}
use Rattle.prem_asm.specs.PiecesOf.{pieces_of}
use Rattle.prem_layout.specs.Parts.{stub_passes}
use Rattle.prem_layout.specs.Stubs.{stub_of}
use Rattle.prem_layout.specs.Placed.{Placed, name_at}
use Rattle.prem_layout.specs.Plans.{Plan}
use Rattle.prem_syntax.specs.Name.{name_bytes}
use Rattle.prem_tree.specs.declared.resolve.resolved.Routine.{Routine}
use Rattle.prem_split.specs.declared.plan.IntervalPlan.{IntervalPlan}
use Rattle.prem_split.specs.PlanOf.{plan_of}
use Rattle.prem_foot.specs.PlacesOf.{IsPlanAt}
use Rattle.prem_bounds.specs.TableOf.{listed}
use Rattle.prem_bounds.proofs.Steps.{listed_item, listed_long}
use Rattle.prem_place.specs.Placed.PlacedOf.{IsPlacedTask, placed_of, plans_of, routines_of}
use Rattle.prem_place.specs.declared.placed.PlacedTask.{PlacedTask}
use Rattle.prem_place.proofs.VerdictLemmas.Names.{name_from}
use Rattle.prem_place.proofs.VerdictLemmas.Turns.{plans_within}
use Rattle.prem_wcet_laws.specs.Opens.{opens_of}
use Rattle.prem_wcet.specs.Lengths.{IsOpening, lengths_within, opens_in}
use Rattle.prem_wcet.specs.Times.{interval_text}
use Rattle.prem_wcet.specs.TimedOf.{interval_of}
use Rattle.prem_wcet.specs.declared.timed.IntervalTime.{IntervalTime}

pub turn : {A : Type 0} (xs front all : List A) (k : ℕ) (x : A) → k < length xs → front ≡ take k xs → all ≡ front ++ x ∷ [] → get_or xs k x ≡ x → all ≡ take (k + 1) xs
turn xs front all k x lt ef ea is =
    ea ∙ ap (λ ys. ys ++ x ∷ []) ef ∙ ap (λ y. take k xs ++ y ∷ []) (sym is) ∙ sym (take_more xs k x lt)

pub within_at : (top : ℕ) (opens stated : List ℕ) (k d : ℕ) → k < length stated → length opens ≡ length stated →
    get_or (lengths_within top opens stated) k d ≡ min (get_or stated k 0) (get_or opens k 0 + top)
within_at top [] [] k d lt long = absurd (omega (arith, lt))
within_at top [] (m ∷ ms) k d lt long = absurd (omega (arith, long))
within_at top (n ∷ ns) [] k d lt long = absurd (omega (arith, lt))
within_at top (n ∷ ns) (m ∷ ms) zero d lt long = refl
within_at top (n ∷ ns) (m ∷ ms) (suc k) d lt long = within_at top ns ms k d (omega (arith, lt)) (omega (arith, long))

drop_at : {A : Type 0} (d : A) (xs : List A) (k : ℕ) → k < length xs → drop k xs ≡ get_or xs k d ∷ drop (suc k) xs
drop_at d [] k lt = absurd (omega (arith, lt))
drop_at d (x ∷ xs) zero lt = refl
drop_at d (x ∷ xs) (suc k) lt = drop_at d xs k (omega (arith, lt))

pub drop_next : {A : Type 0} (d : A) (xs : List A) (k : ℕ) → k < length xs → drop k xs ≡ get_or xs k d ∷ drop (k + 1) xs
drop_next d xs k lt = let z : suc k ≡ k + 1 = omega arith in drop_at d xs k lt ∙ ap (λ n. get_or xs k d ∷ drop n xs) z

pub put_behind : {B : Type 0} (old new rest all : List B) (y : B) → new ≡ old ++ y ∷ [] → old ++ (y ∷ rest) ≡ all → new ++ rest ≡ all
put_behind old new rest all y en e = ap (λ xs. xs ++ rest) en ∙ append_assoc old (y ∷ []) rest ∙ e

pub map_end : {A B : Type 0} (f : A → B) (xs : List A) (x : A) → map f (xs ++ x ∷ []) ≡ map f xs ++ f x ∷ []
map_end f [] x = refl
map_end f (y ∷ ys) x = ap (λ zs. f y ∷ zs) (map_end f ys x)

pub all_end : {A : Type 0} (P : A → Type 0) (xs : List A) (x : A) → AllByRecursion P xs → P x → AllByRecursion P (xs ++ x ∷ [])
all_end P [] x h p = (p, tt)
all_end P (y ∷ ys) x h p = (h.0, all_end P ys x h.1 p)

-- ---- items of lists that are mapped

pub all_at : {A B : Type 0} (P : B → Type 0) (f : A → B) (xs : List A) (k : ℕ) (x : A) → AllByRecursion P (map f xs) → k < length xs → x ≡ get_or xs k x → P (f x)
all_at P f [] k x h lt is = absurd (omega (arith, lt))
all_at P f (y ∷ ys) zero x h lt is = subst (λ z. P (f z)) (sym is) h.0
all_at P f (y ∷ ys) (suc k) x h lt is = all_at P f ys k x h.1 (omega (arith, lt)) is

pub map_at : {A B : Type 0} (f : A → B) (xs : List A) (k : ℕ) (x : A) (d : B) → k < length xs → x ≡ get_or xs k x → get_or (map f xs) k d ≡ f x
map_at f [] k x d lt is = absurd (omega (arith, lt))
map_at f (y ∷ ys) zero x d lt is = ap f (sym is)
map_at f (y ∷ ys) (suc k) x d lt is = map_at f ys k x d (omega (arith, lt)) is

-- the stub of a plan
pub stub_at : (p : Plant) (t : PlacedTask) (k : ℕ) (plan : IntervalPlan) (stub : Sequence Piece) → IsPlacedTask p t → k < length (items_of t.plans) →
    plan ≡ get_or (items_of t.plans) k plan → k < length (items_of t.table.stubs) →
    stub ≡ get_or (items_of t.table.stubs) k stub → pieces_of (items_of stub) ≡ stub_of (stub_passes p) p.line t.places (plan_of plan)
stub_at p t k plan stub is lt ep there es =
    let stubs : listed (items_of t.table.stubs) ≡ map (stub_of (stub_passes p) p.line t.places) (plans_of t) =
    ap (λ (q : Placed). q.table.stubs) is.same ∙ ap (λ ps. map (stub_of (stub_passes p) p.line t.places) ps) (sym (ap (λ (q : Placed). q.plans) is.same)) in
    let long : length (plans_of t) ≡ length (items_of t.plans) = length-map (items_of t.plans) plan_of in
    let other : get_or (plans_of t) k (plan_of plan) ≡ plan_of plan = map_at plan_of (items_of t.plans) k plan (plan_of plan) lt ep in
    sym (listed_item (items_of t.table.stubs) k stub there es)
    ∙ ap (λ (pss : List Pieces). get_or pss k no_pieces) stubs
    ∙ map_at (stub_of (stub_passes p) p.line t.places) (plans_of t) k (plan_of plan) no_pieces (omega (arith, lt, long)) (sym other)

-- there are as many stubs as plans
pub stubs_long : (p : Plant) (t : PlacedTask) → IsPlacedTask p t → length (items_of t.table.stubs) ≡ length (items_of t.plans)
stubs_long p t is =
    sym (listed_long (items_of t.table.stubs))
    ∙ ap (λ (q : Placed). length q.table.stubs) is.same ∙ ap (λ ps. length (map (stub_of (stub_passes p) p.line t.places) ps)) (sym (ap (λ (q : Placed). q.plans) is.same))
    ∙ length-map (plans_of t) (stub_of (stub_passes p) p.line t.places) ∙ length-map (items_of t.plans) plan_of

-- ---- marked functions

-- a plan that is lent
pub plan_there : (t : PlacedTask) (k : ℕ) (plans : List IntervalPlan) (plan : IntervalPlan) → plans ≡ items_of t.plans → k < length plans →
    plan ≡ get_or plans k plan → plan_of plan ≡ get_or (plans_of t) k (plan_of plan)
plan_there t k plans plan lent lt at =
    sym (map_at plan_of (items_of t.plans) k plan (plan_of plan) (omega (arith, lt, ap length lent)) (at ∙ ap (λ ps. get_or ps k plan) lent))

pub plan_stands : (p : Plant) (t : PlacedTask) (k : ℕ) (plans : List IntervalPlan) (plan : IntervalPlan) → IsPlacedTask p t →
    plans ≡ items_of t.plans → k < length plans → plan ≡ get_or plans k plan → IsPlanAt t.places (plan_of plan)
plan_stands p t k plans plan is lent lt at =
    all_at (IsPlanAt t.places) plan_of (items_of t.plans) k plan is.plans (omega (arith, lt, ap length lent)) (at ∙ ap (λ ps. get_or ps k plan) lent)

pub plan_opens : (p : Plant) (t : PlacedTask) (k : ℕ) (plans : List IntervalPlan) (plan : IntervalPlan) → AllByRecursion IsOpening (opens_in p t) →
    plans ≡ items_of t.plans → k < length plans → plan ≡ get_or plans k plan → IsOpening (opens_of p t.places (plan_of plan))
plan_opens p t k plans plan small lent lt at =
    all_at IsOpening (opens_of p t.places) (plans_of t) k (plan_of plan) small (omega (arith, lt, ap length lent, length-map (items_of t.plans) plan_of)) (plan_there t k plans plan lent lt at)

pub opening_there : (p : Plant) (t : PlacedTask) (k n : ℕ) (plans : List IntervalPlan) (plan : IntervalPlan) → plans ≡ items_of t.plans →
    k < length plans → plan ≡ get_or plans k plan → n ≡ opens_of p t.places (plan_of plan) → get_or (opens_in p t) k n ≡ n
opening_there p t k n plans plan lent lt at en =
    map_at (opens_of p t.places) (plans_of t) k (plan_of plan) n (omega (arith, lt, ap length lent, length-map (items_of t.plans) plan_of)) (plan_there t k plans plan lent lt at) ∙ sym en

pub opens_long : (p : Plant) (t : PlacedTask) → length (opens_in p t) ≡ length (items_of t.plans)
opens_long p t = length-map (plans_of t) (opens_of p t.places) ∙ length-map (items_of t.plans) plan_of

pub plan_at : (p : Plant) (t : PlacedTask) (k : ℕ) (plans : List IntervalPlan) (plan : IntervalPlan) → IsPlacedTask p t → plans ≡ items_of t.plans →
    k < length plans → plan ≡ get_or plans k plan → plan.function < length (routines_of t)
plan_at p t k plans plan is lent lt at =
    all_at (λ (q : Plan). q.function < length (routines_of t)) plan_of plans k plan
    (subst (λ (ps : List IntervalPlan). AllByRecursion (λ (q : Plan). q.function < length (routines_of t)) (map plan_of ps)) (sym lent) (plans_within p t is)) lt at

pub interval_there : (p : Plant) (t : PlacedTask) (k f : ℕ) (opens : List ℕ) (plans : List IntervalPlan) (plan : IntervalPlan) (routines : List Routine) (routine : Routine) (i : IntervalTime) →
    IsPlacedTask p t → plans ≡ items_of t.plans → routines ≡ routines_of t → opens ≡ opens_in p t → k < length plans → plan ≡ get_or plans k plan →
    f ≡ plan.function → routine ≡ get_or routines f routine →
    name_bytes i.name ≡ name_bytes routine.text.now.name → i.stated ≡ plan.stated → i.opens ≡ get_or opens k 0 →
    get_or (map (interval_text p (placed_of t)) (plans_of t)) k (interval_of i) ≡ interval_of i
interval_there p t k f opens plans plan routines routine i is lent all eo lt at ef here en es ei =
    let x : Placed = placed_of t in
    let same : plan_of plan ≡ get_or (plans_of t) k (plan_of plan) = plan_there t k plans plan lent lt at in
    let inside : k < length (plans_of t) = omega (arith, lt, ap length lent, length-map (items_of t.plans) plan_of) in
    let function : plan.function < length (routines_of t) = plan_at p t k plans plan is lent lt at in
    let there : routine ≡ get_or (routines_of t) plan.function routine = here ∙ ap (λ rs. get_or rs f routine) all ∙ ap (λ n. get_or (routines_of t) n routine) ef in
    let name : name_bytes routine.text.now.name ≡ name_at x.task.program.routines plan.function = name_from (slice_index t.turns.items) 0 (routines_of t) plan.function routine function there in
    let opening : get_or opens k 0 ≡ opens_of p t.places (plan_of plan) = ap (λ ns. get_or ns k 0) eo ∙ map_at (opens_of p t.places) (plans_of t) k (plan_of plan) 0 inside same in
    let text : interval_of i ≡ interval_text p x (plan_of plan) = λ j. record { name = (en ∙ name) j; stated = es j; opens = (ei ∙ opening) j } in
    map_at (interval_text p x) (plans_of t) k (plan_of plan) (interval_of i) inside same ∙ sym text
