-- Stubs are in the order of their plans.
use Rattle.std.specs.Prelude.{◌==◌, slice_get}
use Rattle.std.proofs.Common.{◌≡◌, ◌≢◌, ℕ, zero, suc, ◌+◌, ◌≤◌, cond, List, [], ◌∷◌, Option, None, Some, refl, ap, ◌∙◌, arith, map}
use Rattle.std.proofs.lemmas.Bool.{eq-eqb, ne_eqb}
use Rattle.prem_plant.specs.Places.{Extent}
use Rattle.prem_syntax.specs.Syntax.{MarkText}
use Rattle.prem_syntax.specs.Resolved.{Routine, Resolved}
use Rattle.prem_asm.specs.Pieces.{Pieces, no_pieces, straight, address_of, either, repeat, call_to, followed}
use Rattle.prem_layout.specs.Plans.{Plan, plan_of, plan_before, plans_from}
use Rattle.prem_layout.specs.Parts.{Passes, once, times, stub_passes, code_part}
use Rattle.prem_layout.specs.Footprint.{TaskPlaces, ranges_of}
use Rattle.prem_layout.specs.Stubs.{ranges_code, passes_code, predictable_code, return_code, stub_of}
use Rattle.prem_layout.specs.Bounds.{first_call, is_part, stub_calling}
use Rattle.prem_bounds.specs.Laws.{StubsAreInOrder}

-- ---- what a stub calls

call_before : (p q : Pieces) (part : ℕ) → first_call p ≡ Some part → first_call (followed p q) ≡ Some part
call_before no_pieces q part e = cc
call_before (straight code rest) q part e = call_before rest q part e
call_before (address_of rd to more rest) q part e = call_before rest q part e
call_before (either test taken other rest) q part e = call_before rest q part e
call_before (repeat turns head test body rest) q part e = call_before rest q part e
call_before (call_to link to rest) q part e = e

ranges_call : (line : ℕ) (ranges : List Extent) (rest : Pieces) → first_call (ranges_code line ranges rest) ≡ first_call rest
ranges_call line [] rest = refl
ranges_call line (r ∷ rs) rest = ranges_call line rs rest

passes_call : (passes : Passes) (line : ℕ) (ranges : List Extent) (rest : Pieces) → first_call (passes_code passes line ranges rest) ≡ first_call rest
passes_call once line ranges rest = ranges_call line ranges rest
passes_call (times n) line ranges rest = refl

stub_calls : (passes : Passes) (line : ℕ) (t : TaskPlaces) (plan : Plan) → first_call (stub_of passes line t plan) ≡ Some (code_part plan.function)
stub_calls passes line t plan =
    call_before (predictable_code passes line (ranges_of t plan) plan.stated (code_part plan.function)) (straight return_code no_pieces) (code_part plan.function)
    (passes_call passes line (ranges_of t plan) _)

-- ---- plans rise

-- the number of the first plan of a function, or how many they are
plan_number : ℕ → List Plan → ℕ
plan_number f [] = 0
plan_number f (plan ∷ plans) = cond (code_part plan.function == code_part f) 0 (1 + plan_number f plans)

number_is : (passes : Passes) (line : ℕ) (t : TaskPlaces) (f : ℕ) (plans : List Plan) → stub_calling (code_part f) (map (stub_of passes line t) plans) ≡ plan_number f plans
unfolding plan_number
number_is passes line t f [] = refl
number_is passes line t f (plan ∷ plans) =
    ap (λ o. cond (is_part (code_part f) o) 0 (1 + stub_calling (code_part f) (map (stub_of passes line t) plans))) (stub_calls passes line t plan)
    ∙ ap (λ k. cond (code_part plan.function == code_part f) 0 (1 + k)) (number_is passes line t f plans)

plan_above : (p : Resolved) (n : ℕ) (fs : List Routine) (k : ℕ) (plan : Plan) → slice_get (plans_from p n fs) k ≡ Some plan → n ≤ plan.function
plan_above p n [] k plan e = absurd cc
plan_above p n (f ∷ fs) k plan e = by f.text.mark k e (λ j h. plan_above p (n + 1) fs j plan h)
  where
    by : (mark : Option MarkText) (k : ℕ) → slice_get (plan_before p n mark (plans_from p (n + 1) fs)) k ≡ Some plan →
        ((j : ℕ) → slice_get (plans_from p (n + 1) fs) j ≡ Some plan → n + 1 ≤ plan.function) → n ≤ plan.function
    by None k e more = let le = more k e in omega (arith, le)
    by (Some mark) zero e more = let same : plan_of p n mark ≡ plan = cc in let here : n ≡ plan.function = ap (λ (q : Plan). q.function) same in omega (arith, here)
    by (Some mark) (suc j) e more = let le = more j e in omega (arith, le)

in_order : (p : Resolved) (n : ℕ) (fs : List Routine) (k : ℕ) (plan : Plan) → slice_get (plans_from p n fs) k ≡ Some plan → plan_number plan.function (plans_from p n fs) ≡ k
unfolding plan_number
in_order p n [] k plan e = absurd cc
in_order p n (f ∷ fs) k plan e = by f.text.mark k e (λ j h. in_order p (n + 1) fs j plan h) (λ j h. plan_above p (n + 1) fs j plan h)
  where
    by : (mark : Option MarkText) (k : ℕ) → slice_get (plan_before p n mark (plans_from p (n + 1) fs)) k ≡ Some plan →
        ((j : ℕ) → slice_get (plans_from p (n + 1) fs) j ≡ Some plan → plan_number plan.function (plans_from p (n + 1) fs) ≡ j) →
        ((j : ℕ) → slice_get (plans_from p (n + 1) fs) j ≡ Some plan → n + 1 ≤ plan.function) →
        plan_number plan.function (plan_before p n mark (plans_from p (n + 1) fs)) ≡ k
    by None k e more above = more k e
    by (Some mark) zero e more above =
        let same : plan_of p n mark ≡ plan = cc in
        let here : n ≡ plan.function = ap (λ (q : Plan). q.function) same in
        ap (λ b. cond b 0 (1 + plan_number plan.function (plans_from p (n + 1) fs))) (eq-eqb (1 + n) (1 + plan.function) (ap (λ k. 1 + k) here))
    by (Some mark) (suc j) e more above =
        let le = above j e in
        let other : 1 + n ≢ 1 + plan.function = omega (arith, le) in
        ap (λ b. cond b 0 (1 + plan_number plan.function (plans_from p (n + 1) fs))) (ne_eqb (1 + n) (1 + plan.function) other)
        ∙ (let m = more j e in omega (arith, m))

pub stubs_are_in_order : StubsAreInOrder
stubs_are_in_order p c at k plan e =
    number_is (stub_passes p) p.line at plan.function (plans_from c.program 0 c.program.routines) ∙ in_order c.program 0 c.program.routines k plan e
