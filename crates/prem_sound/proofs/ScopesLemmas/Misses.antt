-- In the roomy sets of a collection each of its lines misses once at most, and in the crowded ones each touch.
use Rattle.std.proofs.Common.{◌≡◌, ℕ, ◌+◌, ◌%◌, ◌<◌, ◌≤◌, refl, ap, ◌∙◌, sym, subst, arith, cond, eqb, true, false, Bool, List, [], ◌∷◌, length, get_or, ⊎_elim}
use Rattle.prem_sound.proofs.Prelude.{few_misses, in_other, in_head, in_tail, kind_cache_once, is_in, AllIn, OrderRule, order_after, order_of, cache_after, cache_misses, of_set, HaveRoom}
use Rattle.prem_sound.proofs.Prelude.{CacheMissesOnce, order_rule_of, Plant, ScopesMissLittle, KindsMissLittle, is_roomy, roomy_of, crowded_of, lines_of_dids, cases_eq, cases_Bool}
use Rattle.prem_sound.proofs.Prelude.{cond_both, ne_eqb, leb-true, length-set, get_or-set_same, get_or-set_other, mod_below, not, slice_set, filter}

-- ---- lists that are filtered

module _ (f : ℕ → Bool) where
  pub keeps : (x : ℕ) (xs : List ℕ) → f x ≡ true → filter f (x ∷ xs) ≡ x ∷ filter f xs
  keeps x xs e = ap (λ b. cond b (x ∷ filter f xs) (filter f xs)) e

  pub drops : (x : ℕ) (xs : List ℕ) → f x ≡ false → filter f (x ∷ xs) ≡ filter f xs
  drops x xs e = ap (λ b. cond b (x ∷ filter f xs) (filter f xs)) e

  filter_in : (x : ℕ) (xs : List ℕ) → f x ≡ true → is_in x xs ≡ true → is_in x (filter f xs) ≡ true
  filter_in x [] e h = h
  filter_in x (y ∷ ys) e h =
      ⊎_elim (λ (same : y ≡ x). subst (λ zs. is_in x zs ≡ true) (sym (keeps y ys (ap f same ∙ e))) (in_head x y (filter f ys) same))
      (λ (ne : y ≡ x → ⊥).
      let r : is_in x (filter f ys) ≡ true = filter_in x ys e (sym (in_other x y ys ne) ∙ h) in
      cond_both (f y) (y ∷ filter f ys) (filter f ys) (λ zs. is_in x zs ≡ true) (λ _. in_tail x y (filter f ys) r) (λ _. r))
      (cases_eq y x)

  pub filter_all_in : (c xs : List ℕ) → AllIn c xs → AllIn (filter f c) (filter f xs)
  filter_all_in c [] h = tt
  filter_all_in c (x ∷ xs) h =
      let r : AllIn (filter f c) (filter f xs) = filter_all_in c xs h.1 in
      cond_both (f x) (x ∷ filter f xs) (filter f xs) (AllIn (filter f c)) (λ e. (filter_in x c e h.0, r)) (λ _. r)

  -- those that pass and those that don't are all
  pub split_length : (xs : List ℕ) → length (filter f xs) + length (filter (λ x. not (f x)) xs) ≡ length xs
  split_length [] = refl
  split_length (x ∷ xs) =
      let r : length (filter f xs) + length (filter (λ x. not (f x)) xs) ≡ length xs = split_length xs in
      by (f x) r where
        by : (b : Bool) → length (filter f xs) + length (filter (λ x. not (f x)) xs) ≡ length xs →
            length (cond b (x ∷ filter f xs) (filter f xs)) + length (cond (not b) (x ∷ filter (λ x. not (f x)) xs) (filter (λ x. not (f x)) xs))
            ≡ length (x ∷ xs)
        by true r = omega (arith, r)
        by false r = omega (arith, r)

  -- no more of them miss than are touched
  pub few_pass : (order : OrderRule) (room : ℕ) (orders : List (List ℕ)) (xs : List ℕ) → length (filter f (cache_misses order room orders xs)) ≤ length (filter f xs)
  few_pass order room orders [] = omega arith
  few_pass order room orders (x ∷ xs) =
      let rest : List ℕ = cache_misses order room (cache_after order room orders x) xs in
      let r : length (filter f rest) ≤ length (filter f xs) = few_pass order room (cache_after order room orders x) xs in
      cond_both (is_in x (order_of orders x)) rest (x ∷ rest) (λ zs. length (filter f zs) ≤ length (filter f (x ∷ xs)))
      (λ _. cond_both (f x) (x ∷ filter f xs) (filter f xs) (λ zs. length (filter f rest) ≤ length zs) (λ _. omega (arith, r)) (λ _. r))
      (λ _. by (f x) r) where
        by : (b : Bool) → length (filter f (cache_misses order room (cache_after order room orders x) xs)) ≤ length (filter f xs) →
            length (cond b (x ∷ filter f (cache_misses order room (cache_after order room orders x) xs))
            (filter f (cache_misses order room (cache_after order room orders x) xs))) ≤ length (cond b (x ∷ filter f xs) (filter f xs))
        by true r = omega (arith, r)
        by false r = r

-- ---- sets by themselves

module _ (g : ℕ → Bool) (order : OrderRule) (room n : ℕ) (pos : 0 < n) where
  -- so a line's set is one of them
  abbrev passes : ℕ → Bool
  passes x = g (x % n)

  -- alike in these sets
  record Alike (orders others : List (List ℕ)) : Type 0 where
    count : length orders ≡ n
    count' : length others ≡ n
    same : (i : ℕ) → g i ≡ true → get_or orders i [] ≡ get_or others i []

  after_same : (orders others : List (List ℕ)) (x : ℕ) → Alike orders others → g (x % n) ≡ true → Alike (cache_after order room orders x) (cache_after order room others x)
  after_same orders others x h e =
      let at : order_of orders x ≡ order_of others x =
      ap (λ m. get_or orders (x % m) []) h.count ∙ h.same (x % n) e ∙ ap (λ m. get_or others (x % m) []) (sym h.count') in
      record {
        count = length-set orders (x % length orders) (order_after order room (order_of orders x) x) ∙ h.count;
        count' = length-set others (x % length others) (order_after order room (order_of others x) x) ∙ h.count';
        same = λ i gi.
            ⊎_elim (λ (here : x % n ≡ i).
            let a : x % length orders ≡ i = ap (λ m. x % m) h.count ∙ here in
            let b : x % length others ≡ i = ap (λ m. x % m) h.count' ∙ here in
            let lt : x % n < n = mod_below x n pos in
            ap (λ j. get_or (slice_set orders j (order_after order room (order_of orders x) x)) i []) a
            ∙ get_or-set_same orders i (order_after order room (order_of orders x) x) [] (omega (arith, lt, here, h.count))
            ∙ ap (λ o. order_after order room o x) at
            ∙ sym (get_or-set_same others i (order_after order room (order_of others x) x) [] (omega (arith, lt, here, h.count')))
            ∙ sym (ap (λ j. get_or (slice_set others j (order_after order room (order_of others x) x)) i []) b))
            (λ (ne : x % n ≡ i → ⊥).
            get_or-set_other orders (x % length orders) i (order_after order room (order_of orders x) x) [] (λ s. ne (ap (λ m. x % m) (sym h.count) ∙ sym s))
            ∙ h.same i gi
            ∙ sym (get_or-set_other others (x % length others) i (order_after order room (order_of others x) x) [] (λ s. ne (ap (λ m. x % m) (sym h.count') ∙ sym s))))
            (cases_eq (x % n) i);
      }

  after_left : (orders others : List (List ℕ)) (x : ℕ) → Alike orders others → g (x % n) ≡ false → Alike (cache_after order room orders x) others
  after_left orders others x h e = record {
    count = length-set orders (x % length orders) (order_after order room (order_of orders x) x) ∙ h.count;
    count' = h.count';
    same = λ i gi.
        get_or-set_other orders (x % length orders) i (order_after order room (order_of orders x) x) []
        (λ s. let here : x % n ≡ i = ap (λ m. x % m) (sym h.count) ∙ sym s in
        let z : false ≡ true = sym e ∙ ap g here ∙ gi in cc)
        ∙ h.same i gi;
  }

  -- what misses in them doesn't depend on the other sets
  misses_pass : (orders others : List (List ℕ)) (xs : List ℕ) → Alike orders others → filter passes (cache_misses order room orders xs) ≡ cache_misses order room others (filter passes xs)
  misses_pass orders others [] h = refl
  misses_pass orders others (x ∷ xs) h =
      ⊎_elim (λ (e : g (x % n) ≡ true).
      let at : order_of orders x ≡ order_of others x =
      ap (λ m. get_or orders (x % m) []) h.count ∙ h.same (x % n) e ∙ ap (λ m. get_or others (x % m) []) (sym h.count') in
      let m : List ℕ = cache_misses order room (cache_after order room orders x) xs in
      let m' : List ℕ = cache_misses order room (cache_after order room others x) (filter passes xs) in
      let r : filter passes m ≡ m' = misses_pass (cache_after order room orders x) (cache_after order room others x) xs (after_same orders others x h e) in
      ap (λ o. filter passes (cond (is_in x o) m (x ∷ m))) at
      ∙ cond_both (is_in x (order_of others x)) m (x ∷ m) (λ zs. filter passes zs ≡ cond (is_in x (order_of others x)) m' (x ∷ m'))
      (λ t. r ∙ sym (ap (λ b. cond b m' (x ∷ m')) t))
      (λ f. keeps passes x m e ∙ ap (λ zs. x ∷ zs) r ∙ sym (ap (λ b. cond b m' (x ∷ m')) f))
      ∙ sym (ap (cache_misses order room others) (keeps passes x xs e)))
      (λ (e : g (x % n) ≡ false).
      let m : List ℕ = cache_misses order room (cache_after order room orders x) xs in
      let r : filter passes m ≡ cache_misses order room others (filter passes xs) = misses_pass (cache_after order room orders x) others xs (after_left orders others x h e) in
      cond_both (is_in x (order_of orders x)) m (x ∷ m) (λ zs. filter passes zs ≡ filter passes m) (λ _. refl) (λ _. drops passes x m e)
      ∙ r ∙ sym (ap (cache_misses order room others) (drops passes x xs e)))
      (cases_Bool (g (x % n)))

-- ---- the part of a filtered list that belongs to a set

module _ (g : ℕ → Bool) (n i : ℕ) where
  abbrev pass : ℕ → Bool
  pass x = g (x % n)

  of_there : (x : ℕ) (xs : List ℕ) → (x % n ≡ i → ⊥) → of_set n i (x ∷ xs) ≡ of_set n i xs
  of_there x xs ne = ap (λ b. cond b (x ∷ of_set n i xs) (of_set n i xs)) (ne_eqb (x % n) i ne)

  -- no longer than that of the whole list
  of_set_less : (xs : List ℕ) → length (of_set n i (filter pass xs)) ≤ length (of_set n i xs)
  of_set_less [] = omega arith
  of_set_less (x ∷ xs) =
      let r : length (of_set n i (filter pass xs)) ≤ length (of_set n i xs) = of_set_less xs in
      cond_both (pass x) (x ∷ filter pass xs) (filter pass xs) (λ zs. length (of_set n i zs) ≤ length (of_set n i (x ∷ xs)))
      (λ _. by (eqb (x % n) i) r)
      (λ _. cond_both (eqb (x % n) i) (x ∷ of_set n i xs) (of_set n i xs) (λ zs. length (of_set n i (filter pass xs)) ≤ length zs) (λ _. omega (arith, r)) (λ _. r)) where
        by : (b : Bool) → length (of_set n i (filter pass xs)) ≤ length (of_set n i xs) →
            length (cond b (x ∷ of_set n i (filter pass xs)) (of_set n i (filter pass xs))) ≤ length (cond b (x ∷ of_set n i xs) (of_set n i xs))
        by true r = omega (arith, r)
        by false r = r

  -- none of it, where the set doesn't pass
  of_set_none : (xs : List ℕ) → g i ≡ false → of_set n i (filter pass xs) ≡ []
  of_set_none [] e = refl
  of_set_none (x ∷ xs) e =
      let r : of_set n i (filter pass xs) ≡ [] = of_set_none xs e in
      cond_both (pass x) (x ∷ filter pass xs) (filter pass xs) (λ zs. of_set n i zs ≡ [])
      (λ t. of_there x (filter pass xs) (λ here. let z : true ≡ false = sym t ∙ ap g here ∙ e in cc) ∙ r)
      (λ _. r)

-- ---- the law

roomy_fits : (plant : Plant) (lines : List ℕ) → HaveRoom plant.sets plant.ways (roomy_of plant lines lines)
roomy_fits plant lines i =
    ⊎_elim (λ (e : is_roomy plant lines i ≡ true).
    let a : length (of_set plant.sets i lines) ≤ plant.ways = leb-true (length (of_set plant.sets i lines)) plant.ways e in
    let b : length (of_set plant.sets i (roomy_of plant lines lines)) ≤ length (of_set plant.sets i lines) = of_set_less (is_roomy plant lines) plant.sets i lines in
    omega (arith, a, b))
    (λ (e : is_roomy plant lines i ≡ false).
    let z : length (of_set plant.sets i (roomy_of plant lines lines)) ≡ 0 = ap length (of_set_none (is_roomy plant lines) plant.sets i lines e) in
    omega (arith, z))
    (cases_Bool (is_roomy plant lines i))

-- each line of a roomy set misses once at most
pub few_roomy : (order : OrderRule) (plant : Plant) (orders : List (List ℕ)) (lines touches : List ℕ) → CacheMissesOnce order → 0 < plant.sets →
    length orders ≡ plant.sets → AllIn lines touches →
    length (roomy_of plant lines (cache_misses order plant.ways orders touches)) ≤ length (roomy_of plant lines lines)
few_roomy order plant orders lines touches once pos count within =
    let g : ℕ → Bool = is_roomy plant lines in
    let f : ℕ → Bool = λ x. is_roomy plant lines (x % plant.sets) in
    let same : roomy_of plant lines (cache_misses order plant.ways orders touches) ≡ cache_misses order plant.ways orders (roomy_of plant lines touches) =
    misses_pass g order plant.ways plant.sets pos orders orders touches (record { count = count; count' = count; same = λ i _. refl }) in
    let few : length (cache_misses order plant.ways orders (roomy_of plant lines touches)) ≤ length (roomy_of plant lines lines) =
    few_misses order once plant.ways orders (roomy_of plant lines lines) (roomy_of plant lines touches) (omega (arith, pos, count))
    (subst (λ m. HaveRoom m plant.ways (roomy_of plant lines lines)) (sym count) (roomy_fits plant lines)) (filter_all_in f lines touches within) in
    omega (arith, ap length same, few)

-- and each touch of a line of a crowded one
pub few_crowded : (order : OrderRule) (plant : Plant) (orders : List (List ℕ)) (lines touches : List ℕ) →
    length (crowded_of plant lines (cache_misses order plant.ways orders touches)) ≤ length (crowded_of plant lines touches)
few_crowded order plant orders lines touches = few_pass (λ x. not (is_roomy plant lines (x % plant.sets))) order plant.ways orders touches

pub both_parts : (plant : Plant) (lines xs : List ℕ) → length (roomy_of plant lines xs) + length (crowded_of plant lines xs) ≡ length xs
both_parts plant lines xs = split_length (λ x. is_roomy plant lines (x % plant.sets)) xs

pub scopes_miss_little : ScopesMissLittle
scopes_miss_little order plant orders lines touches once pos count within =
    let m : List ℕ = cache_misses order plant.ways orders touches in
    omega (arith, both_parts plant lines m, few_roomy order plant orders lines touches once pos count within, few_crowded order plant orders lines touches)

pub kinds_miss_little : KindsMissLittle
kinds_miss_little kind plant orders s pos count within = scopes_miss_little (order_rule_of kind) plant orders s.lines (lines_of_dids plant.line s.dids) (kind_cache_once kind) pos count within
