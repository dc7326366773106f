-- Lines that were touched one after another since some moment, whatever the cache held before it.
use Rattle.std.proofs.Common.{◌≡◌, ℕ, ◌<◌, refl, ap, ◌∙◌, sym, subst, cond, true, false, Bool, List, [], ◌∷◌, ◌++◌, append_assoc, append-nil, length}
use Rattle.prem_sound.proofs.Prelude.{Did, all_append, length-caches_after, is_in, AllIn, OrderRule, order_of, cache_after, caches_after, cache_misses, HaveRoom, IsCacheFullAfter}
use Rattle.prem_sound.proofs.Prelude.{lines_of_did, lines_of_dids, IsCovered}
use Rattle.std.specs.List.{concat}

-- ---- lists of touches

pub caches_after-append : (order : OrderRule) (room : ℕ) (orders : List (List ℕ)) (xs ys : List ℕ) →
    caches_after order room orders (xs ++ ys) ≡ caches_after order room (caches_after order room orders xs) ys
caches_after-append order room orders [] ys = refl
caches_after-append order room orders (x ∷ xs) ys = caches_after-append order room (cache_after order room orders x) xs ys

miss_append : (b : Bool) (x : ℕ) (m m1 m2 : List ℕ) → m ≡ m1 ++ m2 → cond b m (x ∷ m) ≡ cond b m1 (x ∷ m1) ++ m2
miss_append true x m m1 m2 e = e
miss_append false x m m1 m2 e = ap (λ zs. x ∷ zs) e

pub cache_misses-append : (order : OrderRule) (room : ℕ) (orders : List (List ℕ)) (xs ys : List ℕ) →
    cache_misses order room orders (xs ++ ys) ≡ cache_misses order room orders xs ++ cache_misses order room (caches_after order room orders xs) ys
cache_misses-append order room orders [] ys = refl
cache_misses-append order room orders (x ∷ xs) ys =
    let orders' : List (List ℕ) = cache_after order room orders x in
    miss_append (is_in x (order_of orders x)) x (cache_misses order room orders' (xs ++ ys)) (cache_misses order room orders' xs) (cache_misses order room (caches_after order room orders' xs) ys)
    (cache_misses-append order room orders' xs ys)

none_right : (xs ys : List ℕ) → xs ++ ys ≡ [] → ys ≡ []
none_right [] ys e = e
none_right (x ∷ xs) ys e = absurd (let z : x ∷ (xs ++ ys) ≡ [] = e in cc)

pub lines_of_dids-append : (size : ℕ) (xs ys : List Did) → lines_of_dids size (xs ++ ys) ≡ lines_of_dids size xs ++ lines_of_dids size ys
lines_of_dids-append size [] ys = refl
lines_of_dids-append size (d ∷ ds) ys =
    ap (λ zs. lines_of_did size d ++ zs) (lines_of_dids-append size ds ys) ∙ sym (append_assoc (lines_of_did size d) (lines_of_dids size ds) (lines_of_dids size ys))

-- one more instruction
pub lines_of_dids-last : (size : ℕ) (ds : List Did) (d : Did) → lines_of_dids size (ds ++ d ∷ []) ≡ lines_of_dids size ds ++ lines_of_did size d
lines_of_dids-last size ds d =
    lines_of_dids-append size ds (d ∷ []) ∙ ap (λ zs. lines_of_dids size ds ++ zs) (append-nil (lines_of_did size d))

-- ---- since some moment

-- the lines stand as these touches leave them, behind some cache
pub record Since (order : OrderRule) (room : ℕ) (orders : List (List ℕ)) (touches : List ℕ) : Type 0 where
  pub first : List (List ℕ)
  pub orders_are : orders ≡ caches_after order room first touches

pub since_none : (order : OrderRule) (room : ℕ) (orders : List (List ℕ)) → Since order room orders []
since_none order room orders = record { first = orders; orders_are = refl }

pub since_more : (order : OrderRule) (room : ℕ) (orders : List (List ℕ)) (touches more : List ℕ) → Since order room orders touches →
    Since order room (caches_after order room orders more) (touches ++ more)
since_more order room orders touches more s = record {
  first = s.first;
  orders_are = ap (λ o. caches_after order room o more) s.orders_are ∙ sym (caches_after-append order room s.first touches more);
}

-- when all members have been brought in, none misses
pub covered_hits : (order : OrderRule) (passes : ℕ → ℕ) (room : ℕ) (orders : List (List ℕ)) (members touches more : List ℕ) →
    IsCacheFullAfter passes order → 0 < length orders → HaveRoom (length orders) room members → IsCovered (passes room) members touches →
    Since order room orders touches → AllIn members more → cache_misses order room orders more ≡ []
covered_hits order passes room orders members touches more full pos fits c s all =
    let before : List (List ℕ) = caches_after order room s.first (concat c.parts) in
    let same : length s.first ≡ length orders = sym (length-caches_after order room touches s.first) ∙ ap length (sym s.orders_are) in
    let none : cache_misses order room before (c.later ++ more) ≡ [] =
    (full room s.first members c.parts (c.later ++ more) (subst (λ n. 0 < n) (sym same) pos) (subst (λ n. HaveRoom n room members) (sym same) fits)
    c.count_is c.passes (all_append members c.later more c.within all)).1 in
    let now : orders ≡ caches_after order room before c.later =
    s.orders_are ∙ ap (caches_after order room s.first) c.touches_are ∙ caches_after-append order room s.first (concat c.parts) c.later in
    ap (λ o. cache_misses order room o more) now
    ∙ none_right (cache_misses order room before c.later) (cache_misses order room (caches_after order room before c.later) more) (sym (cache_misses-append order room before c.later more) ∙ none)

-- later touches of members
pub covered_more : (count : ℕ) (members touches more : List ℕ) → IsCovered count members touches → AllIn members more → IsCovered count members (touches ++ more)
covered_more count members touches more c all = record {
  parts = c.parts;
  later = c.later ++ more;
  touches_are = ap (λ zs. zs ++ more) c.touches_are ∙ append_assoc (concat c.parts) c.later more;
  count_is = c.count_is;
  passes = c.passes;
  within = all_append members c.later more c.within all;
}
