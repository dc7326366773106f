-- One part more gets its place.
use Rattle.std.specs.Prelude.{is_some, unwrap_or, IfSome, slice_index_or}
use Rattle.std.specs.Int.{next_multiple_of}
use Rattle.std.specs.List.{AllByRecursion}
use Rattle.std.proofs.Common.{◌≡◌, ℕ, zero, suc, ◌+◌, ◌*◌, ◌<◌, ◌≤◌, Bool, true, false, cond, ◌&&◌, List, [], ◌∷◌, ◌++◌, Option, None, Some, Err, Result, refl, ap, ap₂, sym, ◌∙◌}
use Rattle.std.proofs.Common.{subst, arith, ⊎_elim, length, map, drop, replicate, slice_get}
use Rattle.std.proofs.lemmas.Bool.{and_parts, and_from, le-leb, cases_eq, cases_lt}
use Rattle.std.proofs.lemmas.List.{at_drop_more, get_or-replicate, length-replicate}
use Rattle.prem_plant.specs.declared.plant.Plant.{Plant}
use Rattle.prem_plant.specs.declared.layout.PartSize.{PartSize}
use Rattle.prem_plant.specs.Places.{Extent, end_behind}
use Rattle.prem_plant.specs.Apart.{rise_from}
use Rattle.prem_color.specs.Offsets.{PartRange, range_before, placed_ranges, all_have_room, moved_place, fits_behind, least_from, offset_of, moved_by, moved_from}
use Rattle.prem_color.specs.Rooms.{Room, no_lines, with_ranges, ranges_of_part, ranges_at, all_fit, rooms_after, IsRoom, AreRooms, LiesIn, no_part}
use Rattle.prem_color.specs.Placing.{EndsBy, AllEndBy}
use Rattle.prem_color.proofs.Bridge.{StartsFrom, part_splits, Bridged, bridge, get_beyond, get_left, get_last}

-- ---- ranges of a part start behind the places so far

own_starts : (at address : ℕ) (own : List PartRange) → at ≤ address → AllByRecursion (StartsFrom at) (ranges_at address own)
own_starts at address [] le = tt
own_starts at address (r ∷ rs) le = (omega (arith, le), own_starts at address rs le)

-- ---- all wants

module _ (p : Plant) (some : 1 ≤ p.sets) (most : p.sets ≤ 1024) (pos : 0 < p.line) (places : List Extent) (at : ℕ) (pl : Extent) (behind : at ≤ pl.0) where
  abbrev wide : List Extent
  wide = places ++ pl ∷ []

  abbrev owns : List (List PartRange) → List (List PartRange)
  owns ws = map (ranges_of_part (length places)) ws

  one : (w : List PartRange) (r : Room) → AllByRecursion (EndsBy at) (placed_ranges places w) → IsRoom p.line p.sets p.«ways» (placed_ranges places w) r →
      Bridged p.line p.sets p.«ways» (placed_ranges wide w) (with_ranges p.line p.sets p.«ways» (ranges_at pl.0 (ranges_of_part (length places) w)) r)
  one w r ends room =
      bridge p.line at p.sets p.«ways» (placed_ranges wide w) (placed_ranges places w) (ranges_at pl.0 (ranges_of_part (length places) w)) r pos some most (part_splits p.line places pl w) ends
      (own_starts at pl.0 (ranges_of_part (length places) w) behind) room

  fit_same : (rooms : List Room) (ws : List (List PartRange)) → AreRooms p.line p.sets p.«ways» places rooms ws → AllEndBy at places ws →
      all_fit p.line p.sets p.«ways» pl.0 rooms (owns ws) ≡ all_have_room p ws wide
  fit_same [] [] rooms ends = refl
  fit_same [] (w ∷ ws) rooms ends = absurd rooms
  fit_same (r ∷ rs) [] rooms ends = absurd rooms
  fit_same (r ∷ rs) (w ∷ ws) rooms ends = ap₂ (λ a b. a && b) (one w r ends.0 rooms.0).fits (fit_same rs ws rooms.1 ends.1)

  after : (o : Option Room) (r : Room) (all : List Extent) → is_some o ≡ true → IfSome o (IsRoom p.line p.sets p.«ways» all) → IsRoom p.line p.sets p.«ways» all (unwrap_or o r)
  after None r all e h = absurd (let z : false ≡ true = e in cc)
  after (Some x) r all e h = h

  pub rooms_next : (rooms : List Room) (ws : List (List PartRange)) → AreRooms p.line p.sets p.«ways» places rooms ws → AllEndBy at places ws → all_have_room p ws wide ≡ true →
      AreRooms p.line p.sets p.«ways» wide (rooms_after p.line p.sets p.«ways» pl.0 rooms (owns ws)) ws
  rooms_next [] [] rooms ends fits = tt
  rooms_next [] (w ∷ ws) rooms ends fits = absurd rooms
  rooms_next (r ∷ rs) [] rooms ends fits = absurd rooms
  rooms_next (r ∷ rs) (w ∷ ws) rooms ends fits =
      let both = and_parts _ _ fits in
      let b = one w r ends.0 rooms.0 in
      (after (with_ranges p.line p.sets p.«ways» (ranges_at pl.0 (ranges_of_part (length places) w)) r) r (placed_ranges wide w) (b.fits ∙ both.0) b.room, rooms_next rs ws rooms.1 ends.1 both.1)

-- ---- the ends of ranges

ends_more : (a b : ℕ) (ranges : List Extent) → a ≤ b → AllByRecursion (EndsBy a) ranges → AllByRecursion (EndsBy b) ranges
ends_more a b [] le h = tt
ends_more a b (r ∷ rs) le h = let e = h.0 in ((e.0, (let x = e.1 in omega (arith, x, le))), ends_more a b rs le h.1)

before_head : (b : ℕ) (o : Option Extent) (r : PartRange) (rest : List Extent) → AllByRecursion (EndsBy b) (range_before o r rest) → AllByRecursion (EndsBy b) rest
before_head b None r rest h = h
before_head b (Some q) r rest h = h.1

before_with : (b : ℕ) (o : Option Extent) (r : PartRange) (old rest : List Extent) → AllByRecursion (EndsBy b) (range_before o r old) →
    AllByRecursion (EndsBy b) rest → AllByRecursion (EndsBy b) (range_before o r rest)
before_with b None r old rest h k = k
before_with b (Some q) r old rest h k = (h.0, k)

wide_ends : (sizes : List PartSize) (places : List Extent) (pl : Extent) (at : ℕ) (w : List PartRange) → at ≤ pl.1 →
    pl.1 ≡ pl.0 + (slice_index_or sizes (length places) no_part).size → AllByRecursion (LiesIn sizes) w →
    AllByRecursion (EndsBy at) (placed_ranges places w) → AllByRecursion (EndsBy pl.1) (placed_ranges (places ++ pl ∷ []) w)
wide_ends sizes places pl at [] le end lies ends = tt
wide_ends sizes places pl at (r ∷ w) le end lies ends =
    let n : ℕ = length places in
    let rest : AllByRecursion (EndsBy pl.1) (placed_ranges (places ++ pl ∷ []) w) =
    wide_ends sizes places pl at w le end lies.1 (before_head at (slice_get places r.0) r (placed_ranges places w) ends) in
    ⊎_elim
    (λ (same : r.0 ≡ n).
    let size : (slice_index_or sizes r.0 no_part).size ≡ (slice_index_or sizes n no_part).size = ap (λ k. (slice_index_or sizes k no_part).size) same in
    let low : r.1 ≤ r.2 = lies.0.0 in
    let high : r.2 ≤ (slice_index_or sizes r.0 no_part).size = lies.0.1 in
    subst (λ o. AllByRecursion (EndsBy pl.1) (range_before o r (placed_ranges (places ++ pl ∷ []) w))) (sym (ap (λ k. slice_get (places ++ pl ∷ []) k) same ∙ get_last places pl))
    ((omega (arith, low), omega (arith, high, size, end)), rest))
    (λ (other : r.0 ≡ n → ⊥).
    ⊎_elim
    (λ (lt : r.0 < n). subst (λ o. AllByRecursion (EndsBy pl.1) (range_before o r (placed_ranges (places ++ pl ∷ []) w))) (sym (get_left places pl r.0 lt))
    (before_with pl.1 (slice_get places r.0) r (placed_ranges places w) (placed_ranges (places ++ pl ∷ []) w)
    (ends_more at pl.1 (range_before (slice_get places r.0) r (placed_ranges places w)) le ends) rest))
    (λ (ge : n ≤ r.0). subst (λ o. AllByRecursion (EndsBy pl.1) (range_before o r (placed_ranges (places ++ pl ∷ []) w))) (sym (get_beyond places pl r.0 (omega (arith, ge, other)))) rest)
    (cases_lt r.0 n))
    (cases_eq r.0 n)

pub all_wide_end : (sizes : List PartSize) (places : List Extent) (pl : Extent) (at : ℕ) (ws : List (List PartRange)) → at ≤ pl.1 →
    pl.1 ≡ pl.0 + (slice_index_or sizes (length places) no_part).size → AllByRecursion (AllByRecursion (LiesIn sizes)) ws →
    AllEndBy at places ws → AllEndBy pl.1 (places ++ pl ∷ []) ws
all_wide_end sizes places pl at [] le end lies ends = tt
all_wide_end sizes places pl at (w ∷ ws) le end lies ends = (wide_ends sizes places pl at w le end lies.0 ends.0, all_wide_end sizes places pl at ws le end lies.1 ends.1)

-- ---- the places themselves

pub end_last : (at : ℕ) (places : List Extent) (pl : Extent) → end_behind at (places ++ pl ∷ []) ≡ pl.1
end_last at [] pl = refl
end_last at (q ∷ qs) pl = end_last q.1 qs pl

pub rise_last : (at : ℕ) (places : List Extent) (pl : Extent) → rise_from at places ≡ true → end_behind at places ≤ pl.0 → pl.0 ≤ pl.1 → rise_from at (places ++ pl ∷ []) ≡ true
rise_last at [] pl rise le forward = and_from _ _ (and_from _ _ (le-leb _ _ le) (le-leb _ _ forward)) refl
rise_last at (q ∷ qs) pl rise le forward = let a = and_parts _ _ rise in and_from _ _ a.0 (rise_last q.1 qs pl a.1 le forward)

pub each_last : (a : ℕ) (places : List Extent) (pl : Extent) → AllByRecursion (EndsBy a) places → a ≤ pl.1 → pl.0 ≤ pl.1 → AllByRecursion (EndsBy pl.1) (places ++ pl ∷ [])
each_last a [] pl h le forward = ((forward, omega arith), tt)
each_last a (q ∷ qs) pl h le forward = let e = h.0 in ((e.0, (let x = e.1 in omega (arith, x, le))), each_last a qs pl h.1 le forward)

-- ---- what is left

least_passes : (test : ℕ → Bool) (n left o : ℕ) → least_from test n left ≡ Some o → (test o ≡ true) × (o < n + left)
least_passes test n zero o e = cc
least_passes test n (suc left) o e = by (test n) refl e (λ h. least_passes test (n + 1) left o h)
  where
    by : (b : Bool) → test n ≡ b → cond b (Some n) (least_from test (n + 1) left) ≡ Some o →
        (least_from test (n + 1) left ≡ Some o → (test o ≡ true) × (o < n + 1 + left)) → (test o ≡ true) × (o < n + suc left)
    by true t h more = let same : n ≡ o = cc in (ap test (sym same) ∙ t, omega (arith, same))
    by false t h more = let m = more h in (m.0, (let x = m.1 in omega (arith, x)))

pub offset_passes : (p : Plant) (ws : List (List PartRange)) (places : List Extent) (at : ℕ) (part : PartSize) (o : ℕ) →
    offset_of p ws places at part ≡ Some o → all_have_room p ws (places ++ moved_place p.line at part o ∷ []) ≡ true
offset_passes p ws places at part o e = (least_passes (fits_behind p ws places at part) 0 p.sets o e).0

pub next_is : (at align : ℕ) → at ≤ next_multiple_of at align
next_is at align = omega arith

-- the least offset by the rooms is the least one by the definition
pub offset_same : (p : Plant) (ws : List (List PartRange)) (places : List Extent) (at : ℕ) (part : PartSize) (rooms : List Room) → 1 ≤ p.sets →
    p.sets ≤ 1024 → 0 < p.line → AreRooms p.line p.sets p.«ways» places rooms ws → AllEndBy at places ws →
    least_from (λ o. all_fit p.line p.sets p.«ways» (next_multiple_of at part.align + o * p.line) rooms (map (ranges_of_part (length places)) ws)) 0 p.sets ≡ offset_of p ws places at part
offset_same p ws places at part rooms some most pos are ends =
    ap (λ (test : ℕ → Bool). least_from test 0 p.sets) (λ i o. (agree o) i)
  where
    agree : (o : ℕ) → all_fit p.line p.sets p.«ways» (next_multiple_of at part.align + o * p.line) rooms (map (ranges_of_part (length places)) ws) ≡ fits_behind p ws places at part o
    agree o = fit_same p some most pos places at (moved_place p.line at part o) (omega (arith, next_is at part.align)) rooms ws are ends

pub moved_more : (p : Plant) (ws : List (List PartRange)) (sizes : List PartSize) (places : List Extent) (at n : ℕ) (part : PartSize) → n < length sizes → part ≡ slice_index_or sizes n no_part →
    moved_from p ws places at (drop n sizes)
    ≡ moved_by (offset_of p ws places at part) (length places)
    (λ o. moved_from p ws (places ++ moved_place p.line at part o ∷ []) (moved_place p.line at part o).1 (drop (n + 1) sizes))
moved_more p ws sizes places at n part lt is =
    at_drop_more (λ (ps : List PartSize). moved_from p ws places at ps) sizes n no_part lt
    ∙ ap (λ (q : PartSize). moved_from p ws places at (q ∷ drop (n + 1) sizes)) (sym is)

pub moved_some : {A : Type 0} (found : Option ℕ) (n o : ℕ) (go : ℕ → Result A ℕ) → found ≡ Some o → moved_by found n go ≡ go o
moved_some found n o go e = ap (λ f. moved_by f n go) e

pub moved_none : {A : Type 0} (found : Option ℕ) (n : ℕ) (go : ℕ → Result A ℕ) → found ≡ None → moved_by found n go ≡ Err n
moved_none found n go e = ap (λ f. moved_by f n go) e

-- ---- no part has a place

nothing_ranges : (w : List PartRange) → placed_ranges [] w ≡ []
nothing_ranges [] = refl
nothing_ranges (r ∷ w) = nothing_ranges w

no_room : (p : Plant) (w : List PartRange) → p.sets ≤ 1024 → IsRoom p.line p.sets p.«ways» (placed_ranges [] w) no_lines
no_room p w most =
    subst (λ ranges. IsRoom p.line p.sets p.«ways» ranges no_lines) (sym (nothing_ranges w))
    (record { at_is = refl; long = length-replicate {A = ℕ} 1024 0; each = λ s lt. get_or-replicate 1024 s 0 0 (omega (arith, lt, most)); few = λ s lt. omega arith })

pub no_rooms : (p : Plant) (ws : List (List PartRange)) (n : ℕ) → p.sets ≤ 1024 → n ≡ length ws → AreRooms p.line p.sets p.«ways» [] (replicate n no_lines) ws
no_rooms p [] zero most e = tt
no_rooms p [] (suc n) most e = absurd (omega (arith, e))
no_rooms p (w ∷ ws) zero most e = absurd (omega (arith, e))
no_rooms p (w ∷ ws) (suc n) most e = (no_room p w most, no_rooms p ws n most (omega (arith, e)))

pub nothing_ends : (ws : List (List PartRange)) → AllEndBy 0 [] ws
nothing_ends [] = tt
nothing_ends (w ∷ ws) = (subst (λ ranges. AllByRecursion (EndsBy 0) ranges) (sym (nothing_ranges w)) tt, nothing_ends ws)
