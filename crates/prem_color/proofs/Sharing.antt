-- The wants with ranges in a part have room exactly where all wants have, and the others keep theirs.
use Rattle.std.specs.Prelude.{⊤, ◌==◌, slice_index_or, slice_set}
use Rattle.std.specs.List.{AllByRecursion}
use Rattle.std.proofs.Common.{◌≡◌, ℕ, suc, ◌+◌, ◌*◌, ◌<◌, ◌≤◌, Bool, true, false, cond, ◌&&◌, List, [], ◌∷◌, ◌++◌, ◌-◌, refl, ap, ap₂, sym, ◌∙◌, subst, arith, append_assoc, length}
use Rattle.std.proofs.Common.{length-append, map, drop}
use Rattle.std.proofs.lemmas.Bool.{eq-eqb, ne_eqb, eqb-true}
use Rattle.std.proofs.lemmas.List.{at_drop_more, drop-drop, get_or-map, length-drop, map-set}
use Rattle.std.proofs.lemmas.List.Elements.{filter-append}
use Rattle.prem_color.specs.declared.claims.Claim.{Claim}
use Rattle.prem_color.specs.declared.claims.Share.{Share as ShareInMemory}
use Rattle.prem_color.specs.declared.room.Room.{Room as RoomInMemory}
use Rattle.prem_color.specs.Offsets.{PartRange, least_from}
use Rattle.prem_color.specs.Rooms.{Room, no_lines, ranges_of_part, fits_one, all_fit, room_after, rooms_after}
use Rattle.prem_color.specs.RoomOf.{room_of}
use Rattle.prem_color.specs.Claims.{Share, share_of, claim, claims_from, claims_in, share, share_before, shares_from, joined, grouped, leading}
use Rattle.prem_color.specs.Shares.{IsOf, room_at, shares_fit, with_shares}
use Rattle.prem_color.proofs.Taking.{fits_nothing, takes_nothing}

-- ---- claims together

head_joins : (c d : Claim) (ds : List Claim) (b : Bool) → (d.want == c.want) ≡ b → grouped (d ∷ ds) ≡ share d.want (d.range ∷ leading d.want ds) ∷ grouped (drop (length (leading d.want ds)) ds) →
    joined c (grouped (d ∷ ds)) ≡ share c.want (c.range ∷ leading c.want (d ∷ ds)) ∷ grouped (drop (length (leading c.want (d ∷ ds))) (d ∷ ds))
head_joins c d ds true e h =
    let same : d.want ≡ c.want = eqb-true d.want c.want e in
    let rest : List Share = grouped (drop (length (leading d.want ds)) ds) in
    ap (joined c) h
    ∙ ap (λ b. cond b (share c.want (c.range ∷ d.range ∷ leading d.want ds) ∷ rest) (share c.want (c.range ∷ []) ∷ share d.want (d.range ∷ leading d.want ds) ∷ rest)) e
    ∙ ap (λ k. share c.want (c.range ∷ d.range ∷ leading k ds) ∷ grouped (drop (length (leading k ds)) ds)) same
    ∙ sym (ap (λ b. share c.want (c.range ∷ cond b (d.range ∷ leading c.want ds) []) ∷ grouped (drop (length (cond b (d.range ∷ leading c.want ds) [])) (d ∷ ds))) e)
head_joins c d ds false e h =
    let rest : List Share = grouped (drop (length (leading d.want ds)) ds) in
    ap (joined c) h
    ∙ ap (λ b. cond b (share c.want (c.range ∷ d.range ∷ leading d.want ds) ∷ rest) (share c.want (c.range ∷ []) ∷ share d.want (d.range ∷ leading d.want ds) ∷ rest)) e
    ∙ ap (λ (ss : List Share). share c.want (c.range ∷ []) ∷ ss) (sym h)
    ∙ sym (ap (λ b. share c.want (c.range ∷ cond b (d.range ∷ leading c.want ds) []) ∷ grouped (drop (length (cond b (d.range ∷ leading c.want ds) [])) (d ∷ ds))) e)

head_grouped : (c : Claim) (cs : List Claim) → grouped (c ∷ cs) ≡ share c.want (c.range ∷ leading c.want cs) ∷ grouped (drop (length (leading c.want cs)) cs)
head_grouped c [] = refl
head_grouped c (d ∷ ds) = head_joins c d ds (d.want == c.want) refl (head_grouped d ds)

leading_cons : (c : Claim) (cs : List Claim) → leading c.want (c ∷ cs) ≡ c.range ∷ leading c.want cs
leading_cons c cs = ap (λ b. cond b (c.range ∷ leading c.want cs) []) (eq-eqb c.want c.want refl)

short_cons : (b : Bool) (r : PartRange) (own : List PartRange) (n : ℕ) → length own ≤ n → length (cond b (r ∷ own) []) ≤ suc n
short_cons true r own n le = omega (arith, le)
short_cons false r own n le = omega arith

leading_short : (k : ℕ) (cs : List Claim) → length (leading k cs) ≤ length cs
leading_short k [] = omega arith
leading_short k (c ∷ cs) = short_cons (c.want == k) c.range (leading k cs) (length cs) (leading_short k cs)

-- the claims behind those of one want
pub record IsShared (claims : List Claim) (at : ℕ) (want : ℕ) (own : List PartRange) : Type 0 where
  pub joins : grouped (drop at claims) ≡ share want own ∷ grouped (drop (at + length own) claims)
  pub within : at + length own ≤ length claims

pub shared : (claims : List Claim) (at : ℕ) (own : List PartRange) (none : Claim) → at < length claims →
    own ≡ leading (slice_index_or claims at none).want (drop at claims) → IsShared claims at (slice_index_or claims at none).want own
shared claims at own none lt e =
    let c : Claim = slice_index_or claims at none in
    let cs : List Claim = drop (at + 1) claims in
    let head : drop at claims ≡ c ∷ cs = at_drop_more (λ (ds : List Claim). ds) claims at none lt in
    let own_is : own ≡ c.range ∷ leading c.want cs = e ∙ ap (leading c.want) head ∙ leading_cons c cs in
    let m : ℕ = length (leading c.want cs) in
    let long : length own ≡ suc m = ap length own_is in
    let z : at + 1 + m ≡ at + length own = omega (arith, long) in
    let left : length cs ≡ length claims - (at + 1) = length-drop (at + 1) claims in
    let short : m ≤ length cs = leading_short c.want cs in
    record {
      joins = ap grouped head ∙ head_grouped c cs ∙ ap (λ (rs : List PartRange). share c.want rs ∷ grouped (drop m cs)) (sym own_is)
          ∙ ap (λ (ds : List Claim). share c.want own ∷ grouped ds) (drop-drop m (at + 1) claims ∙ ap (λ k. drop k claims) z);
      within = omega (arith, long, short, left, lt);
    }

-- ---- the shares of a part

abbrev IsLater : ℕ → List Share → Type 0
IsLater k [] = ⊤
IsLater k (s ∷ ss) = k < s.want

later_before : (k m : ℕ) (own : List PartRange) (rest : List Share) → k < m → IsLater k rest → IsLater k (share_before m own rest)
later_before k m [] rest lt h = h
later_before k m (r ∷ rs) rest lt h = lt

later : (n k m : ℕ) (ws : List (List PartRange)) → k < m → IsLater k (shares_from n m ws)
later n k m [] lt = tt
later n k m (w ∷ ws) lt = later_before k m (ranges_of_part n w) (shares_from n (m + 1) ws) lt (later n k (m + 1) ws (omega (arith, lt)))

begins : (k : ℕ) (r : PartRange) (ss : List Share) → IsLater k ss → joined (claim k r) ss ≡ share k (r ∷ []) ∷ ss
begins k r [] h = refl
begins k r (s ∷ ss) h = ap (λ b. cond b (share k (r ∷ s.own) ∷ ss) (share k (r ∷ []) ∷ s ∷ ss)) (ne_eqb s.want k (λ e. omega (arith, e, h)))

run : (k : ℕ) (r : PartRange) (rs : List PartRange) (cs : List Claim) (ss : List Share) → grouped cs ≡ ss → IsLater k ss → grouped (map (claim k) (r ∷ rs) ++ cs) ≡ share k (r ∷ rs) ∷ ss
run k r [] cs ss e h = ap (joined (claim k r)) e ∙ begins k r ss h
run k r (q ∷ rs) cs ss e h =
    ap (joined (claim k r)) (run k q rs cs ss e h)
    ∙ ap (λ b. cond b (share k (r ∷ q ∷ rs) ∷ ss) (share k (r ∷ []) ∷ share k (q ∷ rs) ∷ ss)) (eq-eqb k k refl)

run_before : (k : ℕ) (own : List PartRange) (cs : List Claim) (ss : List Share) → grouped cs ≡ ss → IsLater k ss → grouped (map (claim k) own ++ cs) ≡ share_before k own ss
run_before k [] cs ss e h = e
run_before k (r ∷ rs) cs ss e h = run k r rs cs ss e h

put_own : (k : ℕ) (b : Bool) (r : PartRange) (cs : List Claim) (own : List PartRange) → cs ≡ map (claim k) own → cond b (claim k r ∷ cs) cs ≡ map (claim k) (cond b (r ∷ own) own)
put_own k true r cs own e = ap (λ (rest : List Claim). claim k r ∷ rest) e
put_own k false r cs own e = e

own_claims : (n k : ℕ) (w : List PartRange) → claims_in n (map (claim k) w) ≡ map (claim k) (ranges_of_part n w)
own_claims n k [] = refl
own_claims n k (r ∷ w) = put_own k (r.0 == n) r (claims_in n (map (claim k) w)) (ranges_of_part n w) (own_claims n k w)

pub shares_are : (n k : ℕ) (ws : List (List PartRange)) → grouped (claims_in n (claims_from k ws)) ≡ shares_from n k ws
shares_are n k [] = refl
shares_are n k (w ∷ ws) =
    let rest : List Claim = claims_in n (claims_from (k + 1) ws) in
    ap grouped (filter-append (λ (c : Claim). c.range.0 == n) (map (claim k) w) (claims_from (k + 1) ws) ∙ ap (λ (cs : List Claim). cs ++ rest) (own_claims n k w))
    ∙ run_before k (ranges_of_part n w) rest (shares_from n (k + 1) ws) (shares_are n (k + 1) ws) (later n k (k + 1) ws (omega arith))

there_before : (count k : ℕ) (own : List PartRange) (rest : List Share) → k < count → AllByRecursion (IsOf count) rest → AllByRecursion (IsOf count) (share_before k own rest)
there_before count k [] rest lt h = h
there_before count k (r ∷ rs) rest lt h = (lt, h)

shares_there : (count n k : ℕ) (ws : List (List PartRange)) → k + length ws ≤ count → AllByRecursion (IsOf count) (shares_from n k ws)
shares_there count n k [] le = tt
shares_there count n k (w ∷ ws) le = there_before count k (ranges_of_part n w) (shares_from n (k + 1) ws) (omega (arith, le)) (shares_there count n (k + 1) ws (omega (arith, le)))

pub given : (count n : ℕ) (shares : List ShareInMemory) (ws : List (List PartRange)) → count ≡ length ws → map share_of shares ≡ shares_from n 0 ws → AllByRecursion (IsOf count) (map share_of shares)
given count n shares ws long e = subst (λ (ss : List Share). AllByRecursion (IsOf count) ss) (sym e) (shares_there count n 0 ws (omega (arith, long)))

-- ---- rooms

at_behind : (before : List Room) (r : Room) (rs : List Room) → room_at (before ++ r ∷ rs) (length before) ≡ r
at_behind [] r rs = refl
at_behind (q ∷ qs) r rs = at_behind qs r rs

set_behind : (before : List Room) (r next : Room) (rs : List Room) → slice_set (before ++ r ∷ rs) (length before) next ≡ before ++ next ∷ rs
set_behind [] r next rs = refl
set_behind (q ∷ qs) r next rs = ap (λ (rest : List Room). q ∷ rest) (set_behind qs r next rs)

module _ (line sets «ways» address n : ℕ) where
  abbrev fit : List Room → List Share → Bool
  fit rooms shares = shares_fit line sets «ways» address rooms shares

  abbrev fit_all : List Room → List (List PartRange) → Bool
  fit_all rooms ws = all_fit line sets «ways» address rooms (map (ranges_of_part n) ws)

  abbrev taken : List Room → List Share → List Room
  taken rooms shares = with_shares line sets «ways» address rooms shares

  abbrev taken_all : List Room → List (List PartRange) → List Room
  taken_all rooms ws = rooms_after line sets «ways» address rooms (map (ranges_of_part n) ws)

  fit_before : (before : List Room) (r : Room) (rs : List Room) (own : List PartRange) (ss : List Share) (rest : Bool) → fit (before ++ r ∷ rs) ss ≡ rest →
      fit (before ++ r ∷ rs) (share_before (length before) own ss) ≡ (fits_one line sets «ways» address r own && rest)
  fit_before before r rs [] ss rest e = e ∙ ap (λ b. b && rest) (fits_nothing line sets «ways» address r [] refl)
  fit_before before r rs (x ∷ xs) ss rest e = ap₂ (λ (q : Room) (b : Bool). fits_one line sets «ways» address q (x ∷ xs) && b) (at_behind before r rs) e

  fit_behind : (before rooms : List Room) (ws : List (List PartRange)) → length rooms ≡ length ws → fit (before ++ rooms) (shares_from n (length before) ws) ≡ fit_all rooms ws
  fit_behind before [] [] long = refl
  fit_behind before [] (w ∷ ws) long = absurd (omega (arith, long))
  fit_behind before (r ∷ rs) [] long = absurd (omega (arith, long))
  fit_behind before (r ∷ rs) (w ∷ ws) long =
      let next : List Room = before ++ r ∷ [] in
      let more : length before + 1 ≡ length next = sym (length-append before (r ∷ [])) in
      fit_before before r rs (ranges_of_part n w) (shares_from n (length before + 1) ws) (fit_all rs ws)
      (ap (fit (before ++ r ∷ rs)) (ap (λ k. shares_from n k ws) more)
      ∙ ap (λ (rooms : List Room). fit rooms (shares_from n (length next) ws)) (sym (append_assoc before (r ∷ []) rs))
      ∙ fit_behind next rs ws (omega (arith, long)))

  take_before : (before : List Room) (r : Room) (rs : List Room) (own : List PartRange) (ss : List Share) (rest : List Room) → ((q : Room) → taken (before ++ q ∷ rs) ss ≡ before ++ q ∷ rest) →
      taken (before ++ r ∷ rs) (share_before (length before) own ss) ≡ before ++ room_after line sets «ways» address r own ∷ rest
  take_before before r rs [] ss rest e = e r ∙ ap (λ (q : Room). before ++ q ∷ rest) (takes_nothing line sets «ways» address r [] refl)
  take_before before r rs (x ∷ xs) ss rest e =
      ap (λ (rooms : List Room). taken rooms ss)
      (ap (λ (q : Room). slice_set (before ++ r ∷ rs) (length before) (room_after line sets «ways» address q (x ∷ xs))) (at_behind before r rs)
      ∙ set_behind before r (room_after line sets «ways» address r (x ∷ xs)) rs)
      ∙ e (room_after line sets «ways» address r (x ∷ xs))

  take_behind : (before rooms : List Room) (ws : List (List PartRange)) → length rooms ≡ length ws → taken (before ++ rooms) (shares_from n (length before) ws) ≡ before ++ taken_all rooms ws
  take_behind before [] [] long = refl
  take_behind before [] (w ∷ ws) long = absurd (omega (arith, long))
  take_behind before (r ∷ rs) [] long = absurd (omega (arith, long))
  take_behind before (r ∷ rs) (w ∷ ws) long =
      take_before before r rs (ranges_of_part n w) (shares_from n (length before + 1) ws) (taken_all rs ws)
      (λ q.
      let next : List Room = before ++ q ∷ [] in
      let more : length before + 1 ≡ length next = sym (length-append before (q ∷ [])) in
      ap (taken (before ++ q ∷ rs)) (ap (λ k. shares_from n k ws) more) ∙ ap (λ (rooms : List Room). taken rooms (shares_from n (length next) ws)) (sym (append_assoc before (q ∷ []) rs))
      ∙ take_behind next rs ws (omega (arith, long)) ∙ append_assoc before (q ∷ []) (taken_all rs ws))

  pub fit_same : (rooms : List Room) (ws : List (List PartRange)) → length rooms ≡ length ws →
      shares_fit line sets «ways» address rooms (shares_from n 0 ws) ≡ all_fit line sets «ways» address rooms (map (ranges_of_part n) ws)
  fit_same rooms ws long = fit_behind [] rooms ws long

  pub take_same : (rooms : List Room) (ws : List (List PartRange)) → length rooms ≡ length ws →
      with_shares line sets «ways» address rooms (shares_from n 0 ws) ≡ rooms_after line sets «ways» address rooms (map (ranges_of_part n) ws)
  take_same rooms ws long = take_behind [] rooms ws long

-- one share is taken, and others are left
pub took_one : (line sets «ways» address : ℕ) (rooms : List RoomInMemory) (s : ShareInMemory) (ss : List ShareInMemory) (next none : RoomInMemory) → s.want < length rooms →
    room_of next ≡ room_after line sets «ways» address (room_of (slice_index_or rooms s.want none)) s.own.items →
    with_shares line sets «ways» address (map room_of (slice_set rooms s.want next)) (map share_of ss) ≡ with_shares line sets «ways» address (map room_of rooms) (map share_of (s ∷ ss))
took_one line sets «ways» address rooms s ss next none lt e =
    let now : room_at (map room_of rooms) s.want ≡ room_of (slice_index_or rooms s.want none) = get_or-map room_of rooms s.want none no_lines lt in
    ap (λ (rs : List Room). with_shares line sets «ways» address rs (map share_of ss))
    (map-set room_of rooms s.want next ∙ ap (slice_set (map room_of rooms) s.want) (e ∙ ap (λ (r : Room). room_after line sets «ways» address r s.own.items) (sym now)))

-- the least offset for the wants with ranges in a part is that for all
pub offset_for_all : (line sets «ways» base n : ℕ) (rooms : List Room) (ws : List (List PartRange)) → length rooms ≡ length ws →
    least_from (λ o. shares_fit line sets «ways» (base + o * line) rooms (shares_from n 0 ws)) 0 sets
    ≡ least_from (λ o. all_fit line sets «ways» (base + o * line) rooms (map (ranges_of_part n) ws)) 0 sets
offset_for_all line sets «ways» base n rooms ws long =
    ap (λ (test : ℕ → Bool). least_from test 0 sets) (λ i o. (fit_same line sets «ways» (base + o * line) n rooms ws long) i)
