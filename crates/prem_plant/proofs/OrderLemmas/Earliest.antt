-- One set under FIFO: lines that have come stand in front, while only members of a collection that has room are touched.
use Rattle.std.specs.List.{concat}
use Rattle.std.proofs.Common.{◌≡◌, ℕ, ◌+◌, ◌-◌, ◌<◌, ◌≤◌, ◌⊎◌, inl, inr, refl, ap, ◌∙◌, sym, subst, arith, cond, true, false, List, [], ◌∷◌, ◌++◌, length, take, ⊎_elim}
use Rattle.std.proofs.lemmas.Bool.{cases_Bool}
use Rattle.prem_plant.specs.Order.Order.{is_in, AllIn, AreOnce, OrderRule, fifo, order_after, orders_after, misses_of, ArePasses, MissesOnce, IsFullAfter, each_pass}
use Rattle.prem_plant.proofs.OrderLemmas.Members.{in_head, in_tail, in_other, apart_by, no_more, in_all, all_by, all_in_through, take_past}
use Rattle.prem_plant.proofs.OrderLemmas.Residency.{Front, front_none, front_in}

-- ---- one touch

hit_after : (room x : ℕ) (order : List ℕ) → is_in x order ≡ true → order_after fifo room order x ≡ order
hit_after room x order t = ap (λ b. cond b order (x ∷ take (room - 1) order)) t

miss_after : (room x : ℕ) (order : List ℕ) → is_in x order ≡ false → order_after fifo room order x ≡ x ∷ take (room - 1) order
miss_after room x order n = ap (λ b. cond b order (x ∷ take (room - 1) order)) n

hit_misses : (room x : ℕ) (order xs : List ℕ) → is_in x order ≡ true → misses_of fifo room order (x ∷ xs) ≡ misses_of fifo room order xs
hit_misses room x order xs t =
    ap (λ b. cond b (misses_of fifo room (order_after fifo room order x) xs) (x ∷ misses_of fifo room (order_after fifo room order x) xs)) t
    ∙ ap (λ o. misses_of fifo room o xs) (hit_after room x order t)

miss_misses : (room x : ℕ) (order xs : List ℕ) → is_in x order ≡ false → misses_of fifo room order (x ∷ xs) ≡ x ∷ misses_of fifo room (x ∷ take (room - 1) order) xs
miss_misses room x order xs n =
    ap (λ b. cond b (misses_of fifo room (order_after fifo room order x) xs) (x ∷ misses_of fifo room (order_after fifo room order x) xs)) n
    ∙ ap (λ o. x ∷ misses_of fifo room o xs) (miss_after room x order n)

-- a member that isn't there comes in front of those that have come
come_front : (room x : ℕ) (members seen order : List ℕ) → length members ≤ room → is_in x members ≡ true → is_in x order ≡ false →
    Front members seen order → Front members (x ∷ seen) (x ∷ take (room - 1) order)
come_front room x members seen order le h out f =
    let o : is_in x seen ≡ false =
    ⊎_elim (λ (t : is_in x seen ≡ true). let z : true ≡ false = sym (front_in x members seen order f t) ∙ out in cc) (λ (n : is_in x seen ≡ false). n) (cases_Bool (is_in x seen)) in
    let fits : length (x ∷ seen) ≤ length members = no_more (x ∷ seen) members (o, f.once) (h, f.within) in
    record {
      rest = take (room - 1 - length seen) f.rest;
      order_is = ap (λ xs. x ∷ take (room - 1) xs) f.order_is ∙ ap (λ zs. x ∷ zs) (take_past (room - 1) seen f.rest (omega arith));
      once = (o, f.once);
      within = (h, f.within);
    }

-- ---- Once

-- the misses to come are of lines that have not come yet, each once
record FreshOnce (seen misses : List ℕ) : Type 0 where
  once : AreOnce misses
  fresh : (x : ℕ) → is_in x seen ≡ true → is_in x misses ≡ false

fresh_misses : (room : ℕ) (members touches seen order : List ℕ) → length members ≤ room → AllIn members touches → Front members seen order → FreshOnce seen (misses_of fifo room order touches)
fresh_misses room members [] seen order le a f = record { once = tt; fresh = λ x h. refl }
fresh_misses room members (x ∷ xs) seen order le a f =
    ⊎_elim (λ (t : is_in x order ≡ true).
    subst (FreshOnce seen) (sym (hit_misses room x order xs t)) (fresh_misses room members xs seen order le a.1 f))
    (λ (n : is_in x order ≡ false).
    let r : FreshOnce (x ∷ seen) (misses_of fifo room (x ∷ take (room - 1) order) xs) =
    fresh_misses room members xs (x ∷ seen) (x ∷ take (room - 1) order) le a.1 (come_front room x members seen order le a.0 n f) in
    subst (FreshOnce seen) (sym (miss_misses room x order xs n)) (record {
      once = (r.fresh x (in_head x x seen refl), r.once);
      fresh = λ y h.
          in_other y x (misses_of fifo room (x ∷ take (room - 1) order) xs) (λ e. apart_by y x order (front_in y members seen order f h) n (sym e))
          ∙ r.fresh y (in_tail y x seen h);
    }))
    (cases_Bool (is_in x order))

pub fifo_misses_once : MissesOnce fifo
fifo_misses_once room order members touches le a = (fresh_misses room members touches [] order le a (front_none members order)).once

-- ---- Full

-- while only lines are touched that are there, nothing changes
all_there : (room : ℕ) (touches order : List ℕ) → AllIn order touches → (orders_after fifo room order touches ≡ order) × (misses_of fifo room order touches ≡ [])
all_there room [] order h = (refl, refl)
all_there room (x ∷ xs) order h =
    let r : (orders_after fifo room order xs ≡ order) × (misses_of fifo room order xs ≡ []) = all_there room xs order h.1 in
    (ap (λ o. orders_after fifo room o xs) (hit_after room x order h.0) ∙ r.0, hit_misses room x order xs h.0 ∙ r.1)

-- touches of members, one of which comes in
record Brings (members seen order after : List ℕ) : Type 0 where
  seen' : List ℕ
  front : Front members seen' after
  more : length seen < length seen'

-- all of them hit, or else one comes in
hits_or_brings : (room : ℕ) (members touches seen order : List ℕ) → length members ≤ room → AllIn members touches → Front members seen order →
    AllIn order touches ⊎ Brings members seen order (orders_after fifo room order touches)
hits_or_brings room members [] seen order le a f = inl tt
hits_or_brings room members (x ∷ xs) seen order le a f =
    ⊎_elim (λ (t : is_in x order ≡ true).
    ⊎_elim (λ (all : AllIn order xs). inl (t, all))
    (λ (b : Brings members seen order (orders_after fifo room order xs)).
    inr (subst (λ o. Brings members seen order (orders_after fifo room o xs)) (sym (hit_after room x order t)) b))
    (hits_or_brings room members xs seen order le a.1 f))
    (λ (n : is_in x order ≡ false).
    let order' : List ℕ = x ∷ take (room - 1) order in
    let f' : Front members (x ∷ seen) order' = come_front room x members seen order le a.0 n f in
    inr (subst (λ o. Brings members seen order (orders_after fifo room o xs)) (sym (miss_after room x order n))
    (⊎_elim (λ (all : AllIn order' xs).
    record { seen' = x ∷ seen; front = subst (Front members (x ∷ seen)) (sym (all_there room xs order' all).0) f'; more = omega arith })
    (λ (b : Brings members (x ∷ seen) order' (orders_after fifo room order' xs)).
    let m : length (x ∷ seen) < length b.seen' = b.more in
    record { seen' = b.seen'; front = b.front; more = omega arith })
    (hits_or_brings room members xs (x ∷ seen) order' le a.1 f'))))
    (cases_Bool (is_in x order))

orders_after-append : (rule : OrderRule) (room : ℕ) (xs ys order : List ℕ) → orders_after rule room order (xs ++ ys) ≡ orders_after rule room (orders_after rule room order xs) ys
orders_after-append rule room [] ys order = refl
orders_after-append rule room (x ∷ xs) ys order = orders_after-append rule room xs ys (order_after rule room order x)

pub all_append : (c xs ys : List ℕ) → AllIn c xs → AllIn c ys → AllIn c (xs ++ ys)
all_append c [] ys h k = k
all_append c (x ∷ xs) ys h k = (h.0, all_append c xs ys h.1 k)

all_of_passes : (members : List ℕ) (parts : List (List ℕ)) → ArePasses members parts → AllIn members (concat parts)
all_of_passes members [] p = tt
all_of_passes members (part ∷ parts) p = all_append members part (concat parts) p.0 (all_of_passes members parts p.2)

-- as many of them as there are members are all members
all_seen : (members seen : List ℕ) → AreOnce seen → AllIn members seen → length members ≤ length seen → AllIn seen members
all_seen members seen once within le =
    all_by seen members (λ x h.
    ⊎_elim (λ (t : is_in x seen ≡ true). t)
    (λ (n : is_in x seen ≡ false). let fits : length (x ∷ seen) ≤ length members = no_more (x ∷ seen) members (n, once) (h, within) in absurd (omega arith))
    (cases_Bool (is_in x seen)))

-- a pass for each member that has not come yet brings all in
enough : (room : ℕ) (members : List ℕ) (parts : List (List ℕ)) (seen order : List ℕ) → length members ≤ room → ArePasses members parts →
    Front members seen order → length members ≤ length seen + length parts → AllIn (orders_after fifo room order (concat parts)) members
enough room members [] seen order le p f many =
    let s : AllIn seen members = all_seen members seen f.once f.within (omega arith) in
    all_by order members (λ x h. front_in x members seen order f (in_all seen members x s h))
enough room members (part ∷ parts) seen order le p f many =
    let order' : List ℕ = orders_after fifo room order part in
    ⊎_elim (λ (all : AllIn order part).
    let here : AllIn order members = all_in_through order part members all p.1 in
    subst (λ o. AllIn o members)
    (sym (all_there room (part ++ concat parts) order (all_in_through order members (part ++ concat parts) here (all_of_passes members (part ∷ parts) p))).0) here)
    (λ (b : Brings members seen order order').
    let m : length seen < length b.seen' = b.more in
    subst (λ o. AllIn o members) (sym (orders_after-append fifo room part (concat parts) order))
    (enough room members parts b.seen' order' le p.2 b.front (omega arith)))
    (hits_or_brings room members part seen order le p.0 f)

pub fifo_full : IsFullAfter each_pass fifo
fifo_full room order members parts later le n a l =
    let after : List ℕ = orders_after fifo room order (concat parts) in
    let e : AllIn after members = enough room members parts [] order le a (front_none members order) (omega arith) in
    (e, (all_there room later after (all_in_through after members later e l)).1)
