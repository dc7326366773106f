-- The cycles on bills of pieces are the greatest weights over their paths.
use Rattle.std.specs.Prelude.{nat_le, nat_lt}
use Rattle.std.proofs.Common.{◌≡◌, ℕ, zero, suc, pos, ◌+◌, ◌*◌, ◌<◌, ◌≤◌, min, max, Bool, true, false, cond, List, [], ◌∷◌, ◌++◌, length, refl, ap, sym, ◌∙◌, arith}
use Rattle.std.proofs.Math.Nat.{mul-add}
use Rattle.std.proofs.lemmas.Bool.Decides.{nat_tests}
use Rattle.prem_isa.specs.declared.instr.Instr.{Instr}
use Rattle.prem_isa.specs.declared.instr.Instr.TheVariants.{Lui, Jal, OpImm}
use Rattle.prem_isa.specs.declared.instr.AluOp.TheVariants.{Add}
use Rattle.prem_asm.specs.Pieces.{Pieces, no_pieces, straight, address_of, either, repeat, call_to, branch_of, skip_words, skip_at, other_at, either_end, test_at, back_at, repeat_end}
use Rattle.prem_layout.specs.Bounds.{part_weight, weight_at}
use Rattle.prem_bounds.specs.Scale.{clipped}
use Rattle.prem_layout.specs.Parts.{code_part}
use Rattle.prem_wcet_laws.specs.Scopes.{Fact, places_behind}
use Rattle.prem_wcet_laws.specs.Weights.{PlaceWeight, weight_from, jump_from, weighted_from}
use Rattle.prem_wcet.proofs.AlikeScopes.{alike_max, alike_min, alike_product, alike_sum}
use Rattle.prem_profile.specs.declared.bound.bill.Item.{Item}
use Rattle.prem_profile.specs.Bound.Bills.{Bill, bill_times, cheaper, cycles_on, dearer, gathered}
use Rattle.prem_profile.specs.Bound.Pieces.{PlaceCost, bill_at, bill_from, call_items, item, jump_item, part_bill, straight_bill}
use Rattle.prem_profile.specs.Bound.Scopes.{bills_behind, cycles_of}
use Rattle.prem_profile.proofs.BoundLemmas.Gathered.{totals_kept}
use Rattle.prem_profile.proofs.Numbers.{is_less, is_more}

-- ---- numbers

pub same_then : (a b c : ℕ) → a + (b + c) ≡ a + b + c
same_then a b c = omega arith

is_most : (m n : ℕ) → nat_le m n ≡ true → m ≤ n
is_most m n e = grind (arith, nat_tests)

is_above : (m n : ℕ) → nat_le m n ≡ false → n < m
is_above m n e = grind (arith, nat_tests)

-- ---- bills that come to so many cycles, as these are told

pub record Comes (bill : Bill) (n : ℕ) : Type 0 where
  pub is : clipped (cycles_on bill) ≡ clipped n

pub recount : {a : Bill} {m : ℕ} (n : ℕ) → Comes a m → m ≡ n → Comes a n
recount n c e = record { is = c.is ∙ ap clipped e }

pub none : Comes [] 0
none = record { is = refl }

pub led : {b : Bill} {n : ℕ} (x : Item) (m : ℕ) → x.cost.cycles ≡ m → Comes b n → Comes (x ∷ b) (m + n)
led {b} {n} x m e c = record { is = alike_sum x.cost.cycles m (cycles_on b) n (ap clipped e) c.is }

pub on_append : (a b : Bill) → cycles_on (a ++ b) ≡ cycles_on a + cycles_on b
on_append [] b = omega arith
on_append (x ∷ a) b = ap (λ n. x.cost.cycles + n) (on_append a b) ∙ same_then x.cost.cycles (cycles_on a) (cycles_on b)

pub both : {a b : Bill} {m n : ℕ} → Comes a m → Comes b n → Comes (a ++ b) (m + n)
both {a} {b} {m} {n} c d = record { is = ap clipped (on_append a b) ∙ alike_sum (cycles_on a) m (cycles_on b) n c.is d.is }

pub three : {a b c : Bill} {k m n : ℕ} → Comes a k → Comes b m → Comes c n → Comes (a ++ (b ++ c)) (k + m + n)
three {a} {b} {c} {k} {m} {n} x y z = recount (k + m + n) (both x (both y z)) (same_then k m n)

pub twice : (k : ℕ) → clipped (clipped k) ≡ clipped k
twice k = omega arith

on_times : (n : ℕ) (a : Bill) → clipped (cycles_on (bill_times n a)) ≡ clipped (n * cycles_on a)
on_times n [] = omega arith
on_times n (x ∷ a) =
    alike_sum (clipped (n * x.cost.cycles)) (n * x.cost.cycles) (cycles_on (bill_times n a)) (n * cycles_on a) (twice (n * x.cost.cycles)) (on_times n a)
    ∙ ap clipped (sym (mul-add n x.cost.cycles (cycles_on a)))

pub times : {a : Bill} {m : ℕ} (n : ℕ) → Comes a m → Comes (bill_times n a) (n * m)
times {a} {m} n c = record { is = on_times n a ∙ alike_product n (cycles_on a) m c.is }

on_dearer : (a b : Bill) → clipped (cycles_on (dearer a b)) ≡ clipped (max (cycles_on a) (cycles_on b))
on_dearer a b = by (nat_lt (clipped (cycles_on a)) (clipped (cycles_on b))) refl where
  second : (m n : ℕ) → clipped m < clipped n → clipped n ≡ clipped (max m n)
  second m n lt = omega (arith, lt)

  first : (m n : ℕ) → clipped n ≤ clipped m → clipped m ≡ clipped (max m n)
  first m n le = omega (arith, le)

  by : (t : Bool) → nat_lt (clipped (cycles_on a)) (clipped (cycles_on b)) ≡ t → clipped (cycles_on (cond t b a)) ≡ clipped (max (cycles_on a) (cycles_on b))
  by true e = second (cycles_on a) (cycles_on b) (is_less (clipped (cycles_on a)) (clipped (cycles_on b)) e)
  by false e = first (cycles_on a) (cycles_on b) (is_more (clipped (cycles_on a)) (clipped (cycles_on b)) e)

pub more : {a b : Bill} {m n : ℕ} → Comes a m → Comes b n → Comes (dearer a b) (max m n)
more {a} {b} {m} {n} c d = record { is = on_dearer a b ∙ alike_max (cycles_on a) m (cycles_on b) n c.is d.is }

on_cheaper : (a b : Bill) → clipped (cycles_on (cheaper a b)) ≡ clipped (min (cycles_on a) (cycles_on b))
on_cheaper a b = by (nat_le (clipped (cycles_on a)) (clipped (cycles_on b))) refl where
  first : (m n : ℕ) → clipped m ≤ clipped n → clipped m ≡ clipped (min m n)
  first m n le = omega (arith, le)

  second : (m n : ℕ) → clipped n < clipped m → clipped n ≡ clipped (min m n)
  second m n lt = omega (arith, lt)

  by : (t : Bool) → nat_le (clipped (cycles_on a)) (clipped (cycles_on b)) ≡ t → clipped (cycles_on (cond t a b)) ≡ clipped (min (cycles_on a) (cycles_on b))
  by true e = first (cycles_on a) (cycles_on b) (is_most (clipped (cycles_on a)) (clipped (cycles_on b)) e)
  by false e = second (cycles_on a) (cycles_on b) (is_above (clipped (cycles_on a)) (clipped (cycles_on b)) e)

pub less : {a b : Bill} {m n : ℕ} → Comes a m → Comes b n → Comes (cheaper a b) (min m n)
less {a} {b} {m} {n} c d = record { is = on_cheaper a b ∙ alike_min (cycles_on a) m (cycles_on b) n c.is d.is }

-- of a bill with one item for each spot
pub gather : {a : Bill} {m : ℕ} → Comes a m → Comes (gathered a) m
gather {a} {m} c = record { is = (let kept = totals_kept a in kept.cycles) ∙ c.is }

-- bills that come to these numbers, in the same order
abbrev pub AreComing : List Bill → List ℕ → Type 0
AreComing [] [] = Unit {0}
AreComing [] (n ∷ ns) = ⊥
AreComing (b ∷ bs) [] = ⊥
AreComing (b ∷ bs) (n ∷ ns) = Comes b n × AreComing bs ns

coming_at : (bs : List Bill) (ns : List ℕ) → AreComing bs ns → (k : ℕ) → Comes (bill_at bs k) (weight_at ns k)
coming_at [] [] h zero = none
coming_at [] [] h (suc k) = none
coming_at [] (n ∷ ns) h k = absurd h
coming_at (b ∷ bs) [] h k = absurd h
coming_at (b ∷ bs) (n ∷ ns) h zero = h.0
coming_at (b ∷ bs) (n ∷ ns) h (suc k) = coming_at bs ns h.1 k

coming_more : (bs : List Bill) (ns : List ℕ) (b : Bill) (n : ℕ) → AreComing bs ns → Comes b n → AreComing (bs ++ b ∷ []) (ns ++ n ∷ [])
coming_more [] [] b n h one = (one, tt)
coming_more [] (m ∷ ns) b n h one = absurd h
coming_more (c ∷ bs) [] b n h one = absurd h
coming_more (c ∷ bs) (m ∷ ns) b n h one = (h.0, coming_more bs ns b n h.1 one)

-- what each takes, as it is told
pub cycles_at : (bs : List Bill) (k : ℕ) → weight_at (cycles_of bs) k ≡ clipped (cycles_on (bill_at bs k))
cycles_at [] zero = refl
cycles_at [] (suc k) = refl
cycles_at (b ∷ bs) zero = refl
cycles_at (b ∷ bs) (suc k) = cycles_at bs k

as_long : (bs : List Bill) (ns : List ℕ) → AreComing bs ns → length bs ≡ length ns
as_long [] [] h = refl
as_long [] (n ∷ ns) h = absurd h
as_long (b ∷ bs) [] h = absurd h
as_long (b ∷ bs) (n ∷ ns) h = ap suc (as_long bs ns h.1)

-- ---- pieces

module _ (w : PlaceWeight) (c : PlaceCost) (same : (at : ℕ) (i : Instr) → (c at i).cycles ≡ w at i) where
  straight_comes : (at : ℕ) (code : List Instr) → Comes (straight_bill c at code) (weight_from w at code)
  straight_comes at [] = none
  straight_comes at (i ∷ is) = led (item c at i) (w at i) (same at i) (straight_comes (at + 4) is)

  jump_comes : {b : Bill} {n : ℕ} (at : ℕ) → Comes b n → Comes (jump_item c at ∷ b) (jump_from w at + n)
  jump_comes at d = led (jump_item c at) (jump_from w at) (same at (Jal 0 (pos 0))) d

  test_comes : {b : Bill} {n : ℕ} (at : ℕ) (i : Instr) → Comes b n → Comes (item c at i ∷ b) (w at i + n)
  test_comes at i d = led (item c at i) (w at i) (same at i) d

  last_jump : (at : ℕ) → Comes (jump_item c at ∷ []) (jump_from w at)
  last_jump at = recount (jump_from w at) (jump_comes at none) (nothing (jump_from w at)) where
    nothing : (n : ℕ) → n + 0 ≡ n
    nothing n = omega arith

  -- of a loop, with what its head and its body come to
  turn_comes : {head body : Bill} {h b : ℕ} (at back : ℕ) (i : Instr) → Comes head h → Comes body b →
      Comes (head ++ (item c at i ∷ (body ++ jump_item c back ∷ []))) (h + w at i + b + jump_from w back)
  turn_comes {head} {body} {h} {b} at back i x y =
      recount (h + w at i + b + jump_from w back) (both x (test_comes at i (both y (last_jump back)))) (sum h (w at i) b (jump_from w back)) where
        sum : (h t b j : ℕ) → h + (t + (b + j)) ≡ h + t + b + j
        sum h t b j = omega arith

  out_comes : {head : Bill} {h : ℕ} (at out : ℕ) (i : Instr) → Comes head h → Comes (head ++ item c at i ∷ jump_item c out ∷ []) (h + w at i + jump_from w out)
  out_comes {head} {h} at out i x = recount (h + w at i + jump_from w out) (both x (test_comes at i (last_jump out))) (same_then h (w at i) (jump_from w out))

  module _ (bills : ℕ → Bill) (calls : ℕ → ℕ) (called : (part : ℕ) → Comes (bills part) (calls part)) where
    pub pieces_come : (at : ℕ) (ps : Pieces) → Comes (bill_from c bills at ps) (weighted_from w calls at ps)
    pieces_come at no_pieces = none
    pieces_come at (straight code rest) = both (straight_comes at code) (pieces_come (at + 4 * length code) rest)
    pieces_come at (address_of rd part more rest) =
        recount (weighted_from w calls at (address_of rd part more rest))
        (test_comes at (Lui 0 0) (test_comes (at + 4) (OpImm Add 0 0 (pos 0)) (pieces_come (at + 8) rest)))
        (same_then (w at (Lui 0 0)) (w (at + 4) (OpImm Add 0 0 (pos 0))) (weighted_from w calls (at + 8) rest))
    pieces_come at (either test taken other rest) =
        let skips : ℕ = skip_words other in
        let first : ℕ = weighted_from w calls (at + 8) taken + skips * jump_from w (skip_at at taken) in
        let second : ℕ = jump_from w (at + 4) + weighted_from w calls (other_at at taken other) other in
        recount (weighted_from w calls at (either test taken other rest))
        (test_comes at (branch_of test)
        (both (more (both (pieces_come (at + 8) taken) (times skips (last_jump (skip_at at taken)))) (jump_comes (at + 4) (pieces_come (other_at at taken other) other)))
        (pieces_come (either_end at taken other) rest)))
        (same_then (w at (branch_of test)) (max first second) (weighted_from w calls (either_end at taken other) rest))
    pieces_come at (repeat turns head test body rest) =
        let there : ℕ = test_at at head in
        let back : ℕ = back_at at head body in
        let top = pieces_come at head in
        let turn = turn_comes there back (branch_of test) top (pieces_come (there + 8) body) in
        let out = out_comes there (there + 4) (branch_of test) top in
        three (times turns turn) out (pieces_come (repeat_end at head body) rest)
    pieces_come at (call_to link part rest) =
        recount (weighted_from w calls at (call_to link part rest)) (jump_comes at (both (called part) (pieces_come (at + 4) rest)))
        (same_then (jump_from w at) (calls part) (weighted_from w calls (at + 4) rest))

  -- ---- called parts

  -- a call takes as many cycles as it is told with
  call_comes : (f n m : ℕ) → clipped n ≡ clipped m → Comes (call_items f n) m
  call_comes f zero m e = record { is = e }
  call_comes f (suc n) m e = record { is = ap clipped (bare (suc n)) ∙ e } where
    bare : (k : ℕ) → k + 0 ≡ k
    bare k = omega arith

  pub part_comes : (functions : ℕ) (bills : List Bill) (known : List ℕ) → AreComing bills known → (part : ℕ) →
      Comes (part_bill functions (cycles_of bills) part) (part_weight functions (weight_at known) (λ k. 0) part)
  part_comes functions bills known h zero = none
  part_comes functions bills known h (suc n) = by (nat_lt n functions) where
    by : (t : Bool) → Comes (cond t (call_items n (weight_at (cycles_of bills) n)) []) (cond t (weight_at known n) 0)
    by true = call_comes n (weight_at (cycles_of bills) n) (weight_at known n) (ap clipped (cycles_at bills n) ∙ twice (cycles_on (bill_at bills n)) ∙ (coming_at bills known h n).is)
    by false = none

  pub known_come : (functions : ℕ) (places : ℕ → ℕ) (bills : List Bill) (known : List ℕ) (fs : List Fact) → AreComing bills known →
      AreComing (bills_behind c functions places bills fs) (places_behind w functions places known fs)
  known_come functions places bills known [] h = h
  known_come functions places bills known (f ∷ fs) h =
      let calls : ℕ → ℕ = part_weight functions (weight_at known) (λ k. 0) in
      let at : ℕ = places (code_part (length bills)) in
      let next : Bill = bill_from c (part_bill functions (cycles_of bills)) at f.pieces in
      let n : ℕ = weighted_from w calls (places (code_part (length known))) f.pieces in
      known_come functions places (bills ++ next ∷ []) (known ++ n ∷ []) fs
      (coming_more bills known next n h
      (recount n (pieces_come (part_bill functions (cycles_of bills)) calls (part_comes functions bills known h) at f.pieces)
      (ap (λ k. weighted_from w calls (places (code_part k)) f.pieces) (as_long bills known h))))

-- no function is called
none_at : (n : ℕ) → Comes (call_items n (weight_at [] n)) 0
none_at zero = none
none_at (suc n) = none

pub no_part : (part : ℕ) → Comes (part_bill 0 [] part) 0
no_part zero = none
no_part (suc n) = by (nat_lt n 0) where
  by : (t : Bool) → Comes (cond t (call_items n (weight_at [] n)) []) 0
  by true = none_at n
  by false = none
