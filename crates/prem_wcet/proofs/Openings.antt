-- What the code of a stub costs before its `pm.exec`.
use Rattle.std.specs.Prelude.{◌-◌, nat_lt}
use Rattle.std.proofs.Common.{◌≡◌, ℕ, zero, suc, ◌+◌, ◌*◌, ◌≤◌, ◌^◌, Bool, true, false, cond, List, [], ◌∷◌, ◌++◌, refl, ap, sym, ◌∙◌, arith, length, replicate}
use Rattle.prem_plant.specs.declared.plant.Plant.{Plant}
use Rattle.prem_plant.specs.Places.{Extent}
use Rattle.prem_isa.specs.declared.instr.Instr.{Instr}
use Rattle.prem_isa.specs.declared.instr.Instr.TheVariants.{PmExec, PmEnd}
use Rattle.prem_isa.specs.Decode.{cost_of}
use Rattle.prem_asm.specs.Pieces.{Pieces, no_pieces, straight, address_of, either, repeat, call_to, followed, weighted, address_code}
use Rattle.prem_layout.specs.Plans.{Plan}
use Rattle.prem_layout.specs.Parts.{Passes, once, times, stub_passes, code_part}
use Rattle.prem_layout.specs.Footprint.{TaskPlaces, ranges_of, footprint_of}
use Rattle.prem_layout.specs.Stubs.{range_code, ranges_code, passes_code, return_code, predictable_code, stub_of}
use Rattle.prem_layout.specs.Bounds.{part_weight, weight_at, line_cost}
use Rattle.prem_bounds.specs.Scale.{clipped, with_misses}
use Rattle.prem_bounds.proofs.Calls.{Alike, weighted_alike, part_alike, costs_same, tells_alike, none_told}
use Rattle.prem_wcet_laws.specs.Opens.{opening_code, opens_of}

pub weighted-followed : (w : Instr → ℕ) (c : ℕ → ℕ) (p q : Pieces) → weighted w c (followed p q) ≡ weighted w c p + weighted w c q
weighted-followed w c no_pieces q = omega arith
weighted-followed w c (straight code rest) q = omega (arith, weighted-followed w c rest q)
weighted-followed w c (address_of rd part more rest) q = omega (arith, weighted-followed w c rest q)
weighted-followed w c (either test taken other rest) q = omega (arith, weighted-followed w c rest q)
weighted-followed w c (repeat turns head test body rest) q = omega (arith, weighted-followed w c rest q)
weighted-followed w c (call_to link part rest) q = omega (arith, weighted-followed w c rest q)

ranges_before : (line : ℕ) (ranges : List Extent) (rest : Pieces) → followed (ranges_code line ranges no_pieces) rest ≡ ranges_code line ranges rest
ranges_before line [] rest = refl
ranges_before line (r ∷ rs) rest = ap (range_code line r) (ranges_before line rs rest)

passes_before : (passes : Passes) (line : ℕ) (ranges : List Extent) (rest : Pieces) → followed (passes_code passes line ranges no_pieces) rest ≡ passes_code passes line ranges rest
passes_before once line ranges rest = ranges_before line ranges rest
passes_before (times n) line ranges rest = refl

none_called : (b : Bool) → ◌≡◌ {A = ℕ} (cond b 0 0) 0
none_called true = refl
none_called false = refl

calls_none : (p : ℕ) → part_weight 0 (λ k. 0) (λ k. 0) p ≡ 0
calls_none zero = refl
calls_none (suc n) = none_called (nat_lt n 0)

-- what isn't told of calls counts nothing
pub bare_weight : (ps : Pieces) → clipped (weighted (with_misses 0 0) (part_weight 0 (weight_at (replicate 256 0)) (weight_at (replicate 256 0))) ps) ≡ clipped (weighted cost_of (λ part. 0) ps)
bare_weight ps =
    let none : (k : ℕ) → Alike (weight_at (replicate 256 0) k) 0 = λ k. tells_alike 256 (replicate 256 0) (λ j. 0) (none_told 256) k in
    bare none
  where
    bare : ((k : ℕ) → Alike (weight_at (replicate 256 0) k) 0) →
        clipped (weighted (with_misses 0 0) (part_weight 0 (weight_at (replicate 256 0)) (weight_at (replicate 256 0))) ps)
        ≡ clipped (weighted cost_of (λ part. 0) ps)
    bare none =
        let calls : (p : ℕ) → Alike (part_weight 0 (weight_at (replicate 256 0)) (weight_at (replicate 256 0)) p) 0 =
        λ p. part_alike 0 (weight_at (replicate 256 0)) (λ k. 0) (weight_at (replicate 256 0)) (λ k. 0) none none p ∙ ap clipped (calls_none p) in
        ap (λ (w : Instr → ℕ). clipped (weighted w (part_weight 0 (weight_at (replicate 256 0)) (weight_at (replicate 256 0))) ps)) (λ i k. costs_same k i)
        ∙ weighted_alike cost_of (part_weight 0 (weight_at (replicate 256 0)) (weight_at (replicate 256 0))) (λ part. 0) calls ps

-- ---- a stub

abbrev pub C : Pieces → ℕ
C ps = weighted cost_of (λ part. 0) ps

stub_sum : (s o f w r : ℕ) → r ≡ w + 2 → w ≡ f + 6 → o ≡ f + 2 → s ≡ 1 + r → s ≡ o + 7
stub_sum s o f w r a b c d = omega (arith, a, b, c, d)

-- up to `pm.exec`, and around it
pub stub_cost : (p : Plant) (t : TaskPlaces) (plan : Plan) → C (stub_of (stub_passes p) p.line t plan) ≡ C (opening_code p t plan) + 7
stub_cost p t plan = by (stub_passes p)
  where
    by : (passes : Passes) → C (stub_of passes p.line t plan) ≡ C (passes_code passes p.line (ranges_of t plan) (straight (address_code 5 plan.stated) no_pieces)) + 7
    by passes =
        let prefetch : Pieces = passes_code passes p.line (ranges_of t plan) no_pieces in
        let tail : Pieces = straight (address_code 5 plan.stated ++ PmExec 5 ∷ []) (call_to 1 (code_part plan.function) (straight (PmEnd ∷ []) no_pieces)) in
        let opened : C (passes_code passes p.line (ranges_of t plan) (straight (address_code 5 plan.stated) no_pieces)) ≡ C prefetch + C (straight (address_code 5 plan.stated) no_pieces) =
        ap C (sym (passes_before passes p.line (ranges_of t plan) (straight (address_code 5 plan.stated) no_pieces)))
        ∙ weighted-followed cost_of (λ part. 0) prefetch (straight (address_code 5 plan.stated) no_pieces) in
        let whole : C (predictable_code passes p.line (ranges_of t plan) plan.stated (code_part plan.function)) ≡ C prefetch + C tail =
        ap C (sym (passes_before passes p.line (ranges_of t plan) tail)) ∙ weighted-followed cost_of (λ part. 0) prefetch tail in
        let around = weighted-followed cost_of (λ part. 0) (predictable_code passes p.line (ranges_of t plan) plan.stated (code_part plan.function)) (straight return_code no_pieces) in
        stub_sum (C (stub_of passes p.line t plan)) (C (passes_code passes p.line (ranges_of t plan) (straight (address_code 5 plan.stated) no_pieces))) (C prefetch)
        (C (predictable_code passes p.line (ranges_of t plan) plan.stated (code_part plan.function)))
        (C (followed (predictable_code passes p.line (ranges_of t plan) plan.stated (code_part plan.function)) (straight return_code no_pieces)))
        around whole opened refl

-- neither part passes what sums tell
pub opening_told : (p : Plant) (t : TaskPlaces) (plan : Plan) (stub : Pieces) (cost lines fills n : ℕ) → stub ≡ stub_of (stub_passes p) p.line t plan → opens_of p t plan ≤ 2 ^ 40 →
    cost ≡ clipped (C stub) - 7 → lines ≡ length (footprint_of p.line t plan) → fills ≡ clipped (lines * line_cost p) → n ≡ clipped (cost + fills) → n ≡ opens_of p t plan
opening_told p t plan stub cost lines fills n es small ec el ef en =
    let is : C stub ≡ C (opening_code p t plan) + 7 = ap C es ∙ stub_cost p t plan in
    let fill : lines * line_cost p ≡ length (footprint_of p.line t plan) * line_cost p = ap (λ k. k * line_cost p) el in
    sum (C stub) (C (opening_code p t plan)) (lines * line_cost p) (length (footprint_of p.line t plan) * line_cost p) is fill small ec ef en
  where
    sum : (s o l m : ℕ) → s ≡ o + 7 → l ≡ m → o + m ≤ 2 ^ 40 → cost ≡ clipped s - 7 → fills ≡ clipped l → n ≡ clipped (cost + fills) → n ≡ o + m
    sum s o l m a b h c d e = omega (arith, a, b, h, c, d, e)
