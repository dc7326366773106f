-- One set under LRU: a line that was touched stays, while only members of a collection that has room are touched.
use Rattle.std.proofs.Common.{◌≡◌, ℕ, ◌-◌, ◌≤◌, refl, ap, ◌∙◌, sym, subst, arith, cond, eqb, true, false, List, [], ◌∷◌, ◌++◌, length, take, ⊎_elim}
use Rattle.std.proofs.lemmas.Bool.{cases_Bool, cases_eq, cond_both}
use Rattle.std.proofs.lemmas.List.{append-nil}
use Rattle.prem_plant.specs.Order.Order.{is_in, without, AllIn, AreOnce, lru, order_after, orders_after, misses_of, MissesOnce, IsFullAfter, one_pass}
use Rattle.prem_plant.proofs.OrderLemmas.Members.{in_head, in_tail, in_other, apart_by, in_without, without-absent, once_without, all_in_without, no_more, in_all, all_by}
use Rattle.prem_plant.proofs.OrderLemmas.Members.{all_in_through, in_append_left, without-append_in, without-append_out, take_past}

-- the lines that were touched stand in front
pub record Front (members seen order : List ℕ) : Type 0 where
  pub rest : List ℕ
  pub order_is : order ≡ seen ++ rest
  pub once : AreOnce seen
  pub within : AllIn members seen

-- whatever the order is, nothing was touched yet
pub front_none : (members order : List ℕ) → Front members [] order
front_none members order = record { rest = order; order_is = refl; once = tt; within = tt }

-- a touch of a member moves it to the front of those that were touched
touched_front : (room x : ℕ) (members seen order : List ℕ) → length members ≤ room → is_in x members ≡ true → Front members seen order →
    (rest : List ℕ) × (order_after lru room order x ≡ (x ∷ without x seen) ++ rest)
touched_front room x members seen order le h f =
    let goes : List ℕ → List ℕ = λ xs. order_after lru room xs x in
    ⊎_elim (λ (t : is_in x seen ≡ true). (
      f.rest,
      ap goes f.order_is
          ∙ ap (λ b. cond b (x ∷ without x (seen ++ f.rest)) (x ∷ take (room - 1) (seen ++ f.rest))) (in_append_left x seen f.rest t)
          ∙ ap (λ zs. x ∷ zs) (without-append_in x seen f.rest t),
    ))
    (λ (o : is_in x seen ≡ false).
    let fits : length (x ∷ seen) ≤ length members = no_more (x ∷ seen) members (o, f.once) (h, f.within) in
    ⊎_elim (λ (t : is_in x (seen ++ f.rest) ≡ true). (
      without x f.rest,
      ap goes f.order_is
          ∙ ap (λ b. cond b (x ∷ without x (seen ++ f.rest)) (x ∷ take (room - 1) (seen ++ f.rest))) t
          ∙ ap (λ zs. x ∷ zs) (without-append_out x seen f.rest o ∙ ap (λ zs. zs ++ without x f.rest) (sym (without-absent x seen o))),
    ))
    (λ (n : is_in x (seen ++ f.rest) ≡ false). (
      take (room - 1 - length seen) f.rest,
      ap goes f.order_is
          ∙ ap (λ b. cond b (x ∷ without x (seen ++ f.rest)) (x ∷ take (room - 1) (seen ++ f.rest))) n
          ∙ ap (λ zs. x ∷ zs) (take_past (room - 1) seen f.rest (omega arith) ∙ ap (λ zs. zs ++ take (room - 1 - length seen) f.rest) (sym (without-absent x seen o))),
    ))
    (cases_Bool (is_in x (seen ++ f.rest))))
    (cases_Bool (is_in x seen))

front_touch : (room x : ℕ) (members seen order : List ℕ) → length members ≤ room → is_in x members ≡ true → Front members seen order → Front members (x ∷ without x seen) (order_after lru room order x)
front_touch room x members seen order le h f =
    let t : (rest : List ℕ) × (order_after lru room order x ≡ (x ∷ without x seen) ++ rest) = touched_front room x members seen order le h f in
    record { rest = t.0; order_is = t.1; once = once_without x seen f.once; within = (h, all_in_without x members seen f.within) }

-- what was touched is there
pub front_in : (x : ℕ) (members seen order : List ℕ) → Front members seen order → is_in x seen ≡ true → is_in x order ≡ true
front_in x members seen order f h = ap (is_in x) f.order_is ∙ in_append_left x seen f.rest h

-- what was touched stays among what was touched
still_seen : (x y : ℕ) (seen : List ℕ) → is_in y seen ≡ true → is_in y (x ∷ without x seen) ≡ true
still_seen x y seen h =
    ⊎_elim (λ (e : x ≡ y). in_head y x (without x seen) e)
    (λ (ne : x ≡ y → ⊥). in_tail y x (without x seen) (in_without x y seen (λ e. ne (sym e)) ∙ h)) (cases_eq x y)

-- ---- Once

-- the misses to come are of lines that were not touched yet, each once
record NewOnce (seen misses : List ℕ) : Type 0 where
  once : AreOnce misses
  fresh : (x : ℕ) → is_in x seen ≡ true → is_in x misses ≡ false

new_misses : (room : ℕ) (members touches seen order : List ℕ) → length members ≤ room → AllIn members touches → Front members seen order → NewOnce seen (misses_of lru room order touches)
new_misses room members [] seen order le a f = record { once = tt; fresh = λ x h. refl }
new_misses room members (x ∷ xs) seen order le a f =
    let order' : List ℕ = order_after lru room order x in
    let later : List ℕ = misses_of lru room order' xs in
    let f' : Front members (x ∷ without x seen) order' = front_touch room x members seen order le a.0 f in
    let r : NewOnce (x ∷ without x seen) later = new_misses room members xs (x ∷ without x seen) order' le a.1 f' in
    cond_both (is_in x order) later (x ∷ later) (NewOnce seen)
    (λ _. record { once = r.once; fresh = λ y h. r.fresh y (still_seen x y seen h) })
    (λ miss. record {
      once = (r.fresh x (in_head x x (without x seen) refl), r.once);
      fresh = λ y h. in_other y x later (λ e. apart_by y x order (front_in y members seen order f h) miss (sym e)) ∙ r.fresh y (still_seen x y seen h);
    })

pub lru_misses_once : MissesOnce lru
lru_misses_once room order members touches le a = (new_misses room members touches [] order le a (front_none members order)).once

-- ---- Full

-- the lines touched in the end, the last one first
abbrev seen_after : List ℕ → List ℕ → List ℕ
seen_after [] seen = seen
seen_after (x ∷ xs) seen = seen_after xs (x ∷ without x seen)

front_after : (room : ℕ) (members touches seen order : List ℕ) → length members ≤ room → AllIn members touches → Front members seen order →
    Front members (seen_after touches seen) (orders_after lru room order touches)
front_after room members [] seen order le a f = f
front_after room members (x ∷ xs) seen order le a f =
    front_after room members xs (x ∷ without x seen) (order_after lru room order x) le a.1 (front_touch room x members seen order le a.0 f)

seen_before : (y : ℕ) (touches seen : List ℕ) → is_in y seen ≡ true → is_in y (seen_after touches seen) ≡ true
seen_before y [] seen h = h
seen_before y (x ∷ xs) seen h = seen_before y xs (x ∷ without x seen) (still_seen x y seen h)

seen_touched : (y : ℕ) (touches seen : List ℕ) → is_in y touches ≡ true → is_in y (seen_after touches seen) ≡ true
seen_touched y [] seen h = cc
seen_touched y (x ∷ xs) seen h0 =
    cond_both (eqb x y) true (is_in y xs) (λ b. b ≡ true → is_in y (seen_after xs (x ∷ without x seen)) ≡ true)
    (λ t _. seen_before y xs (x ∷ without x seen) (ap (λ b. cond b true (is_in y (without x seen))) t))
    (λ _ h. seen_touched y xs (x ∷ without x seen) h) h0

-- while only lines are touched that were touched before, none misses
no_miss : (room : ℕ) (members touches seen order : List ℕ) → length members ≤ room → AllIn seen touches → Front members seen order → misses_of lru room order touches ≡ []
no_miss room members [] seen order le a f = refl
no_miss room members (x ∷ xs) seen order le a f =
    let order' : List ℕ = order_after lru room order x in
    let m : is_in x members ≡ true = in_all members seen x f.within a.0 in
    ap (λ b. cond b (misses_of lru room order' xs) (x ∷ misses_of lru room order' xs)) (front_in x members seen order f a.0)
    ∙ no_miss room members xs (x ∷ without x seen) order' le
    (all_by (x ∷ without x seen) xs (λ y h. still_seen x y seen (in_all seen xs y a.1 h))) (front_touch room x members seen order le m f)

pub lru_full : IsFullAfter one_pass lru
lru_full room order members [] later le n a l = absurd (omega arith)
lru_full room order members (part ∷ q ∷ parts) later le n a l = absurd (omega arith)
lru_full room order members (part ∷ []) later le n a l =
    let seen : List ℕ = seen_after part [] in
    let after : List ℕ = orders_after lru room order part in
    let f : Front members seen after = front_after room members part [] order le a.0 (front_none members order) in
    let s : AllIn seen members = all_by seen members (λ x h. seen_touched x part [] (in_all part members x a.1 h)) in
    let P : List ℕ → Type 0 = λ xs. AllIn (orders_after lru room order xs) members × (misses_of lru room (orders_after lru room order xs) later ≡ []) in
    subst P (sym (append-nil part)) (
      all_by after members (λ x h. front_in x members seen after f (in_all seen members x s h)),
      no_miss room members later seen after le (all_in_through seen members later s l) f,
    )
