-- A scope's credit: the lines of its roomy sets that haven't missed since it began are paid for.
use Rattle.std.proofs.Common.{◌≡◌, ℕ, ◌+◌, ◌-◌, ◌*◌, ◌<◌, ◌≤◌, refl, ap, ◌∙◌, sym, subst, arith, cond, true, false, Bool, Some, None, Option, List, [], ◌∷◌, ◌++◌, length}
use Rattle.prem_sound.proofs.Prelude.{total, LineTouch, owed_by, cost_bounds, cost_of, Did, all_append, length-caches_after, AllIn, OrderRule, caches_after, cache_misses, CacheMissesOnce}
use Rattle.prem_sound.proofs.Prelude.{Plant, lines_with, charge_with, MissesOweLittle, line_cost, roomy_of, crowded_of, lines_of_did, add-mul, length-append, filter-append, sum_by-cons}
use Rattle.prem_sound.proofs.Prelude.{mul-le, not, Transaction, sum_by, filter}
use Rattle.prem_sound.proofs.Paces.{owed_misses}
use Rattle.prem_sound.proofs.ResidentLemmas.Touches.{missed_lines}
use Rattle.prem_sound.proofs.ScopesLemmas.Misses.{few_roomy, few_crowded, both_parts}
use Rattle.prem_sound.proofs.ScriptLemmas.Residency.{caches_after-append, cache_misses-append}

-- ---- credits

module _ (order : OrderRule) (plant : Plant) where
  -- the lines stand as touches of the collection leave them, of whose lines in roomy sets so many haven't missed; a fill and a write
  -- back is paid for each of these
  pub record Backed (orders : List (List ℕ)) (lines : List ℕ) (credit : ℕ) : Type 0 where
    pub first : List (List ℕ)
    pub touches : List ℕ
    pub orders_are : orders ≡ caches_after order plant.ways first touches
    pub within : AllIn lines touches
    pub left : ℕ
    pub left_is : left + length (roomy_of plant lines (cache_misses order plant.ways first touches)) ≡ length (roomy_of plant lines lines)
    pub credit_is : credit ≡ left * line_cost plant

  -- a scope begins, and all of its lines are paid for
  pub backed_first : (orders : List (List ℕ)) (lines : List ℕ) → Backed orders lines (length (roomy_of plant lines lines) * line_cost plant)
  backed_first orders lines = record { first = orders; touches = []; orders_are = refl; within = tt; left = length (roomy_of plant lines lines); left_is = omega arith; credit_is = refl }

  -- outside of scopes nothing is
  pub backed_none : (orders : List (List ℕ)) → Backed orders [] 0
  backed_none orders = record { first = orders; touches = []; orders_are = refl; within = tt; left = 0; left_is = refl; credit_is = omega arith }

  -- an instruction of these touches, which owe so much and cost so much, behind what the scope's beginning is charged
  pub record Pays (orders : List (List ℕ)) (lines : List ℕ) (owed credit charge : ℕ) : Type 0 where
    pub spare : ℕ
    pub backed : Backed orders lines spare
    pub pays : owed + 1 + spare ≤ credit + charge

  -- each touch of a scope that goes on is paid for by its credit, or is one of a crowded set
  pub backed_more : (orders : List (List ℕ)) (lines ys : List ℕ) (credit owed cost : ℕ) (ts : List LineTouch) → CacheMissesOnce order →
      0 < plant.sets → length orders ≡ plant.sets → AllIn lines ys → missed_lines ts ≡ cache_misses order plant.ways orders ys →
      owed ≡ total (owed_by plant ts) + (cost - 1) → 1 ≤ cost → Backed orders lines credit →
      Pays (caches_after order plant.ways orders ys) lines owed credit (cost + length (crowded_of plant lines ys) * line_cost plant)
  backed_more orders lines ys credit owed cost ts once pos count within missed owed_is some h =
      let xs : List ℕ = h.touches in
      let m : List ℕ = cache_misses order plant.ways h.first xs in
      let k : List ℕ = cache_misses order plant.ways orders ys in
      let zs : List ℕ = cache_misses order plant.ways h.first (xs ++ ys) in
      let f : ℕ = line_cost plant in
      let all : AllIn lines (xs ++ ys) = all_append lines xs ys h.within within in
      let firsts : length h.first ≡ plant.sets = sym (length-caches_after order plant.ways xs h.first) ∙ sym (ap length h.orders_are) ∙ count in
      let joined : zs ≡ m ++ k = cache_misses-append order plant.ways h.first xs ys ∙ ap (λ o. m ++ cache_misses order plant.ways o ys) (sym h.orders_are) in
      let roomy : length (roomy_of plant lines zs) ≡ length (roomy_of plant lines m) + length (roomy_of plant lines k) =
      ap (λ l. length (roomy_of plant lines l)) joined ∙ ap length (filter-append _ m k) ∙ length-append (roomy_of plant lines m) (roomy_of plant lines k) in
      let few : length (roomy_of plant lines zs) ≤ length (roomy_of plant lines lines) = few_roomy order plant h.first lines (xs ++ ys) once pos firsts all in
      let r : ℕ = length (roomy_of plant lines k) in
      let c : ℕ = length (crowded_of plant lines ys) in
      let parts : length (roomy_of plant lines k) + length (crowded_of plant lines k) ≡ length k = both_parts plant lines k in
      let crowd : length (crowded_of plant lines k) ≤ c = few_crowded order plant orders lines ys in
      let left' : ℕ = h.left - r in
      let some_left : r ≤ h.left = omega (arith, h.left_is, roomy, few) in
      let owes : total (owed_by plant ts) ≤ length k * f = subst (λ l. total (owed_by plant ts) ≤ length l * f) missed (owed_misses plant ts) in
      record {
        spare = left' * f;
        backed = record {
          first = h.first;
          touches = xs ++ ys;
          orders_are = ap (λ o. caches_after order plant.ways o ys) h.orders_are ∙ sym (caches_after-append order plant.ways h.first xs ys);
          within = all;
          left = left';
          left_is = omega (arith, h.left_is, roomy, some_left);
          credit_is = refl;
        };
        pays = sum owed (total (owed_by plant ts)) cost credit (length k) left' h.left c f owed_is some h.credit_is owes (omega (arith, parts, crowd, some_left));
      } where
        sum : (owed t cost credit k left' left c f : ℕ) → owed ≡ t + (cost - 1) → 1 ≤ cost → credit ≡ left * f → t ≤ k * f → k + left' ≤ left + c → owed + 1 + left' * f ≤ credit + (cost + c * f)
        sum owed t cost credit k left' left c f e s ce le most =
            let a : (k + left') * f ≤ (left + c) * f = mul-le (k + left') f (left + c) f most (omega arith) in
            let b : (k + left') * f ≡ k * f + left' * f = add-mul k left' f in
            let d : (left + c) * f ≡ left * f + c * f = add-mul left c f in
            omega (arith, e, s, ce, le, a, b, d)

  -- and so is each of one that begins, of which its lines are charged
  pub backed_with : (orders : List (List ℕ)) (o : Option (List ℕ)) (lines : List ℕ) (d : Did) (credit owed : ℕ) (ts : List LineTouch) →
      CacheMissesOnce order → 0 < plant.sets → length orders ≡ plant.sets → AllIn (lines_with o lines) (lines_of_did plant.line d) →
      missed_lines ts ≡ cache_misses order plant.ways orders (lines_of_did plant.line d) → owed ≡ total (owed_by plant ts) + (cost_of d.instr - 1) →
      Backed orders lines credit →
      Pays (caches_after order plant.ways orders (lines_of_did plant.line d)) (lines_with o lines) owed credit (charge_with plant o (lines_with o lines) d)
  backed_with orders None lines d credit owed ts once pos count within missed owed_is h =
      let y : Pays (caches_after order plant.ways orders (lines_of_did plant.line d)) lines owed credit
      (cost_of d.instr + length (crowded_of plant lines (lines_of_did plant.line d)) * line_cost plant) =
      backed_more orders lines (lines_of_did plant.line d) credit owed (cost_of d.instr) ts once pos count within missed owed_is (cost_bounds d.instr).0 h in
      record {
        spare = y.spare;
        backed = y.backed;
        pays =
            sum (owed + 1 + y.spare) (length (crowded_of plant lines (lines_of_did plant.line d))) (line_cost plant) (cost_of d.instr) credit y.pays;
      } where
        sum : (x c f cost credit : ℕ) → x ≤ credit + (cost + c * f) → x ≤ credit + (cost + (0 + c) * f)
        sum x c f cost credit le = let a : 0 + c ≡ c = omega arith in subst (λ m. x ≤ credit + (cost + m * f)) (sym a) le
  backed_with orders (Some others) lines d credit owed ts once pos count within missed owed_is h =
      let n : ℕ = length (roomy_of plant others others) in
      let c : ℕ = length (crowded_of plant others (lines_of_did plant.line d)) in
      let f : ℕ = line_cost plant in
      let y : Pays (caches_after order plant.ways orders (lines_of_did plant.line d)) others owed (n * f) (cost_of d.instr + c * f) =
      backed_more orders others (lines_of_did plant.line d) (n * f) owed (cost_of d.instr) ts once pos count within missed owed_is (cost_bounds d.instr).0 (backed_first orders others) in
      record { spare = y.spare; backed = y.backed; pays = sum (owed + 1 + y.spare) n c f (cost_of d.instr) credit y.pays } where
        sum : (x n c f cost credit : ℕ) → x ≤ n * f + (cost + c * f) → x ≤ credit + (cost + (n + c) * f)
        sum x n c f cost credit le = let a : (n + c) * f ≡ n * f + c * f = add-mul n c f in omega (arith, a, le)

-- ---- the same for each list of touches

owed_sum : (xs : List Transaction) → sum_by (λ (t : Transaction). t.cycles) xs ≡ total xs
owed_sum [] = refl
owed_sum (x ∷ xs) =
    let e : sum_by (λ (t : Transaction). t.cycles) xs ≡ total xs = owed_sum xs in
    sum_by-cons (λ (t : Transaction). t.cycles) x xs ∙ omega (arith, e)

missed_count : (ts : List LineTouch) → length (missed_lines ts) ≡ length (filter (λ (t : LineTouch). not t.hit) ts)
missed_count [] = refl
missed_count (t ∷ ts) = by t.hit (missed_count ts) where
  by : (b : Bool) → length (missed_lines ts) ≡ length (filter (λ (t : LineTouch). not t.hit) ts) →
      length (cond b (missed_lines ts) (t.line ∷ missed_lines ts))
      ≡ length (cond (not b) (t ∷ filter (λ (t : LineTouch). not t.hit) ts) (filter (λ (t : LineTouch). not t.hit) ts))
  by true e = e
  by false e = omega (arith, e)

pub misses_owe_little : MissesOweLittle
misses_owe_little plant ts =
    subst (λ n. n ≤ length (filter (λ (t : LineTouch). not t.hit) ts) * line_cost plant) (sym (owed_sum (owed_by plant ts)))
    (subst (λ n. total (owed_by plant ts) ≤ n * line_cost plant) (missed_count ts) (owed_misses plant ts))
