-- From one set to the whole cache: the touches of a set's lines do to it what they would do alone.
use Rattle.std.specs.Prelude.{slice_set}
use Rattle.std.specs.List.{concat}
use Rattle.std.proofs.Common.{◌≡◌, ◌≢◌, ℕ, ◌%◌, ◌<◌, ◌≤◌, refl, ap, ◌∙◌, sym, subst, arith, cond, eqb, true, List, [], ◌∷◌, ◌++◌, length, get_or, map, ⊎_elim}
use Rattle.std.proofs.lemmas.Bool.{cases_eq, cond_both, eq-eqb, ne_eqb}
use Rattle.std.proofs.lemmas.List.{length-set, get_or-set_same, get_or-set_other, length-map}
use Rattle.std.proofs.lemmas.List.Elements.{filter-append}
use Rattle.std.proofs.lemmas.Nat.{mod_below}
use Rattle.prem_plant.specs.Order.Order.{is_in, AllIn, AreOnce, OrderRule, order_after, orders_after, misses_of, ArePasses, MissesOnce, IsFullAfter, order_of, cache_after}
use Rattle.prem_plant.specs.Order.Order.{caches_after, cache_misses, of_set, HaveRoom, CacheMissesOnce, AreThere, IsCacheFullAfter}
use Rattle.prem_plant.proofs.OrderLemmas.Members.{no_more, in_head, in_tail, in_other, in_all}

-- ---- the part of a list that belongs to a set

of_here : (n i x : ℕ) (xs : List ℕ) → x % n ≡ i → of_set n i (x ∷ xs) ≡ x ∷ of_set n i xs
of_here n i x xs e = ap (λ b. cond b (x ∷ of_set n i xs) (of_set n i xs)) (eq-eqb (x % n) i e)

of_there : (n i x : ℕ) (xs : List ℕ) → x % n ≢ i → of_set n i (x ∷ xs) ≡ of_set n i xs
of_there n i x xs ne = ap (λ b. cond b (x ∷ of_set n i xs) (of_set n i xs)) (ne_eqb (x % n) i ne)

in_of_set : (n i x : ℕ) (xs : List ℕ) → x % n ≡ i → is_in x (of_set n i xs) ≡ is_in x xs
in_of_set n i x [] e = refl
in_of_set n i x (y ∷ ys) e =
    ⊎_elim (λ (s : y % n ≡ i).
    ap (is_in x) (of_here n i y ys s) ∙ ap (cond (eqb y x) true) (in_of_set n i x ys e))
    (λ (ne : y % n ≡ i → ⊥).
    ap (is_in x) (of_there n i y ys ne) ∙ in_of_set n i x ys e ∙ sym (in_other x y ys (λ s. ne (ap (λ z. z % n) s ∙ e))))
    (cases_eq (y % n) i)

all_of_set : (n i : ℕ) (c xs : List ℕ) → AllIn c xs → AllIn (of_set n i c) (of_set n i xs)
all_of_set n i c [] h = tt
all_of_set n i c (x ∷ xs) h =
    ⊎_elim (λ (s : x % n ≡ i).
    subst (AllIn (of_set n i c)) (sym (of_here n i x xs s)) (in_of_set n i x c s ∙ h.0, all_of_set n i c xs h.1))
    (λ (ne : x % n ≡ i → ⊥). subst (AllIn (of_set n i c)) (sym (of_there n i x xs ne)) (all_of_set n i c xs h.1))
    (cases_eq (x % n) i)

passes_of_set : (n i : ℕ) (members : List ℕ) (parts : List (List ℕ)) → ArePasses members parts → ArePasses (of_set n i members) (map (of_set n i) parts)
passes_of_set n i members [] h = tt
passes_of_set n i members (part ∷ parts) h =
    (all_of_set n i members part h.0, all_of_set n i part members h.1, passes_of_set n i members parts h.2)

of_set-concat : (n i : ℕ) (parts : List (List ℕ)) → of_set n i (concat parts) ≡ concat (map (of_set n i) parts)
of_set-concat n i [] = refl
of_set-concat n i (part ∷ parts) =
    filter-append (λ x. eqb (x % n) i) part (concat parts) ∙ ap (λ ys. of_set n i part ++ ys) (of_set-concat n i parts)

-- a line comes once where it does in its set
once_by_sets : (n : ℕ) (xs : List ℕ) → 0 < n → ((i : ℕ) → i < n → AreOnce (of_set n i xs)) → AreOnce xs
once_by_sets n [] pos f = tt
once_by_sets n (x ∷ xs) pos f =
    let here : AreOnce (x ∷ of_set n (x % n) xs) = subst AreOnce (of_here n (x % n) x xs refl) (f (x % n) (mod_below x n pos)) in (
      sym (in_of_set n (x % n) x xs refl) ∙ here.0,
      once_by_sets n xs pos (λ i lt.
          ⊎_elim (λ (s : x % n ≡ i). (subst AreOnce (of_here n i x xs s) (f i lt)).1)
          (λ (ne : x % n ≡ i → ⊥). subst AreOnce (of_there n i x xs ne) (f i lt)) (cases_eq (x % n) i)),
    )

none_by_sets : (n : ℕ) (xs : List ℕ) → 0 < n → ((i : ℕ) → i < n → of_set n i xs ≡ []) → xs ≡ []
none_by_sets n [] pos f = refl
none_by_sets n (x ∷ xs) pos f =
    let e : x ∷ of_set n (x % n) xs ≡ [] = sym (of_here n (x % n) x xs refl) ∙ f (x % n) (mod_below x n pos) in cc

-- ---- the sets after touches

length-cache_after : (rule : OrderRule) (room : ℕ) (orders : List (List ℕ)) (x : ℕ) → length (cache_after rule room orders x) ≡ length orders
length-cache_after rule room orders x = length-set orders (x % length orders) (order_after rule room (order_of orders x) x)

pub length-caches_after : (rule : OrderRule) (room : ℕ) (xs : List ℕ) (orders : List (List ℕ)) → length (caches_after rule room orders xs) ≡ length orders
length-caches_after rule room [] orders = refl
length-caches_after rule room (x ∷ xs) orders = length-caches_after rule room xs (cache_after rule room orders x) ∙ length-cache_after rule room orders x

after_here : (rule : OrderRule) (room n i x : ℕ) (orders : List (List ℕ)) → length orders ≡ n → i < n → x % n ≡ i →
    get_or (cache_after rule room orders x) i [] ≡ order_after rule room (get_or orders i []) x
after_here rule room n i x orders l lt e =
    let at : x % length orders ≡ i = ap (λ m. x % m) l ∙ e in
    ap (λ j. get_or (slice_set orders j (order_after rule room (get_or orders j []) x)) i []) at
    ∙ get_or-set_same orders i (order_after rule room (get_or orders i []) x) [] (omega arith)

after_there : (rule : OrderRule) (room n i x : ℕ) (orders : List (List ℕ)) → length orders ≡ n → x % n ≢ i → get_or (cache_after rule room orders x) i [] ≡ get_or orders i []
after_there rule room n i x orders l ne =
    get_or-set_other orders (x % length orders) i (order_after rule room (order_of orders x) x) [] (λ s. ne (ap (λ m. x % m) (sym l) ∙ sym s))

order_by_set : (rule : OrderRule) (room n i : ℕ) (xs : List ℕ) (orders : List (List ℕ)) → length orders ≡ n → i < n →
    get_or (caches_after rule room orders xs) i [] ≡ orders_after rule room (get_or orders i []) (of_set n i xs)
order_by_set rule room n i [] orders l lt = refl
order_by_set rule room n i (x ∷ xs) orders l lt =
    let r : get_or (caches_after rule room (cache_after rule room orders x) xs) i [] ≡ orders_after rule room (get_or (cache_after rule room orders x) i []) (of_set n i xs) =
    order_by_set rule room n i xs (cache_after rule room orders x) (length-cache_after rule room orders x ∙ l) lt in
    ⊎_elim (λ (s : x % n ≡ i).
    r ∙ ap (λ o. orders_after rule room o (of_set n i xs)) (after_here rule room n i x orders l lt s)
    ∙ ap (orders_after rule room (get_or orders i [])) (sym (of_here n i x xs s)))
    (λ (ne : x % n ≡ i → ⊥).
    r ∙ ap (λ o. orders_after rule room o (of_set n i xs)) (after_there rule room n i x orders l ne)
    ∙ ap (orders_after rule room (get_or orders i [])) (sym (of_there n i x xs ne)))
    (cases_eq (x % n) i)

misses_by_set : (rule : OrderRule) (room n i : ℕ) (xs : List ℕ) (orders : List (List ℕ)) → length orders ≡ n → i < n →
    of_set n i (cache_misses rule room orders xs) ≡ misses_of rule room (get_or orders i []) (of_set n i xs)
misses_by_set rule room n i [] orders l lt = refl
misses_by_set rule room n i (x ∷ xs) orders l lt =
    let orders' : List (List ℕ) = cache_after rule room orders x in
    let m : List ℕ = cache_misses rule room orders' xs in
    let r : of_set n i m ≡ misses_of rule room (get_or orders' i []) (of_set n i xs) =
    misses_by_set rule room n i xs orders' (length-cache_after rule room orders x ∙ l) lt in
    ⊎_elim (λ (s : x % n ≡ i).
    let o : List ℕ = get_or orders i [] in
    let at : order_of orders x ≡ o = ap (λ j. get_or orders j []) (ap (λ k. x % k) l ∙ s) in
    let rest : of_set n i m ≡ misses_of rule room (order_after rule room o x) (of_set n i xs) =
    r ∙ ap (λ q. misses_of rule room q (of_set n i xs)) (after_here rule room n i x orders l lt s) in
    ap (λ q. of_set n i (cond (is_in x q) m (x ∷ m))) at
    ∙ cond_both (is_in x o) m (x ∷ m)
    (λ ys. of_set n i ys ≡ cond (is_in x o) (misses_of rule room (order_after rule room o x) (of_set n i xs))
    (x ∷ misses_of rule room (order_after rule room o x) (of_set n i xs)))
    (λ t. rest ∙ ap (λ b. cond b (misses_of rule room (order_after rule room o x) (of_set n i xs)) (x ∷ misses_of rule room (order_after rule room o x) (of_set n i xs))) (sym t))
    (λ f. of_here n i x m s ∙ ap (λ zs. x ∷ zs) rest
    ∙ ap (λ b. cond b (misses_of rule room (order_after rule room o x) (of_set n i xs))
    (x ∷ misses_of rule room (order_after rule room o x) (of_set n i xs))) (sym f))
    ∙ ap (misses_of rule room o) (sym (of_here n i x xs s)))
    (λ (ne : x % n ≡ i → ⊥).
    cond_both (is_in x (order_of orders x)) m (x ∷ m) (λ ys. of_set n i ys ≡ of_set n i m) (λ _. refl) (λ _. of_there n i x m ne)
    ∙ r ∙ ap (λ q. misses_of rule room q (of_set n i xs)) (after_there rule room n i x orders l ne)
    ∙ ap (misses_of rule room (get_or orders i [])) (sym (of_there n i x xs ne)))
    (cases_eq (x % n) i)

-- ---- the two laws

-- what misses was touched
misses_in : (rule : OrderRule) (room : ℕ) (c xs : List ℕ) (orders : List (List ℕ)) → AllIn c xs → AllIn c (cache_misses rule room orders xs)
misses_in rule room c [] orders h = tt
misses_in rule room c (x ∷ xs) orders h =
    let m : List ℕ = cache_misses rule room (cache_after rule room orders x) xs in
    let r : AllIn c m = misses_in rule room c xs (cache_after rule room orders x) h.1 in
    cond_both (is_in x (order_of orders x)) m (x ∷ m) (AllIn c) (λ _. r) (λ _. (h.0, r))

-- so there are no more misses than members
pub few_misses : (rule : OrderRule) → CacheMissesOnce rule → (room : ℕ) (orders : List (List ℕ)) (members touches : List ℕ) → 0 < length orders →
    HaveRoom (length orders) room members → AllIn members touches → length (cache_misses rule room orders touches) ≤ length members
few_misses rule once room orders members touches pos fits a =
    no_more (cache_misses rule room orders touches) members (once room orders members touches pos fits a) (misses_in rule room members touches orders a)

pub once_lifts : (rule : OrderRule) → MissesOnce rule → CacheMissesOnce rule
once_lifts rule once room orders members touches pos fits a =
    let n : ℕ = length orders in
    once_by_sets n (cache_misses rule room orders touches) pos (λ i lt.
    subst AreOnce (sym (misses_by_set rule room n i touches orders refl lt))
    (once room (get_or orders i []) (of_set n i members) (of_set n i touches) (fits i) (all_of_set n i members touches a)))

there_by : (orders : List (List ℕ)) (xs : List ℕ) → ((x : ℕ) → is_in x xs ≡ true → is_in x (order_of orders x) ≡ true) → AreThere orders xs
there_by orders [] f = tt
there_by orders (x ∷ xs) f = (f x (in_head x x xs refl), there_by orders xs (λ y h. f y (in_tail y x xs h)))

pub full_lifts : (passes : ℕ → ℕ) (rule : OrderRule) → IsFullAfter passes rule → IsCacheFullAfter passes rule
full_lifts passes rule full room orders members parts later pos fits many a l =
    let n : ℕ = length orders in
    let after : List (List ℕ) = caches_after rule room orders (concat parts) in
    let same : length after ≡ n = length-caches_after rule room (concat parts) orders in
    let set : (i : ℕ) → i < n → get_or after i [] ≡ orders_after rule room (get_or orders i []) (concat (map (of_set n i) parts)) = λ i lt.
    order_by_set rule room n i (concat parts) orders refl lt ∙ ap (orders_after rule room (get_or orders i [])) (of_set-concat n i parts) in
    let one : (i : ℕ) → i < n → AllIn (get_or after i []) (of_set n i members) × (misses_of rule room (get_or after i []) (of_set n i later) ≡ []) = λ i lt.
    subst (λ o. AllIn o (of_set n i members) × (misses_of rule room o (of_set n i later) ≡ [])) (sym (set i lt))
    (full room (get_or orders i []) (of_set n i members) (map (of_set n i) parts) (of_set n i later) (fits i)
    (length-map parts (of_set n i) ∙ many) (passes_of_set n i members parts a) (all_of_set n i members later l)) in (
      there_by after members (λ x h.
          ap (λ k. is_in x (get_or after (x % k) [])) same
          ∙ in_all (get_or after (x % n) []) (of_set n (x % n) members) x (one (x % n) (mod_below x n pos)).0 (in_of_set n (x % n) x members refl ∙ h)),
      none_by_sets n (cache_misses rule room after later) pos (λ i lt. misses_by_set rule room n i later after same lt ∙ (one i lt).1),
    )
