-- Places with offsets are lawful, and all wants have room at them.
use Rattle.std.specs.Prelude.{◌&&◌, nat_le}
use Rattle.std.specs.Int.{next_multiple_of}
use Rattle.std.specs.List.{AllByRecursion}
use Rattle.std.proofs.Common.{◌≡◌, ℕ, zero, suc, ◌+◌, ◌-◌, ◌*◌, ◌/◌, ◌%◌, ◌<◌, ◌≤◌, true, List, [], ◌∷◌, ◌++◌, Option, None, Some, Ok, Err, Result, refl, ap, sym, ◌∙◌, subst}
use Rattle.std.proofs.Common.{arith, ⊎_elim, append_assoc, append-nil, length, slice_get, add-zero, All}
use Rattle.std.proofs.lemmas.Bool.{and_from, le-leb, cases_lt}
use Rattle.std.proofs.lemmas.List.Elements.{recursion_from_All}
use Rattle.std.proofs.lemmas.Nat.{div-add-mod', mod_below, le-div, mul-le}
use Rattle.std.proofs.Math.Nat.{add-mod-mod, mul-mod_left, mul_assoc}
use Rattle.prem_plant.specs.declared.plant.Plant.{Plant}
use Rattle.prem_plant.specs.declared.layout.PartSize.{PartSize}
use Rattle.prem_plant.specs.Places.{Extent, ArePlaces, end_behind, last_end}
use Rattle.prem_plant.specs.Apart.{rise_from}
use Rattle.prem_plant.proofs.Apartness.{exact, risen_apart}
use Rattle.prem_color.specs.Offsets.{PartRange, all_have_room, moved_place, offset_of, moved_by, moved_from}
use Rattle.prem_color.specs.Laws.{AlignLines, PlacedAreasAreLawful, MovedPlacesAreLawful, MovedPlacesHaveRoom}
use Rattle.prem_color.proofs.Steps.{offset_passes}

-- ---- areas of whole lines

line_side : (line n a b : ℕ) → 0 < line → n % line ≡ 0 → n ≤ a → a / line ≡ b / line → n ≤ b
line_side line n a b pos whole le same =
    let e : n / line * line + n % line ≡ n = div-add-mod' n line in
    let up : n / line * line ≤ a = omega (arith, e, le) in
    let q : n / line ≤ b / line = subst (λ k. n / line ≤ k) same (le-div (n / line) a line pos up) in
    let m : n / line * line ≤ b / line * line = mul-le (n / line) line (b / line) line q (omega arith) in
    let f = div-add-mod' b line in
    omega (arith, e, whole, m, f)

pub placed_areas_are_lawful : PlacedAreasAreLawful
placed_areas_are_lawful line memory parts places pos placed whole =
    record {
      placed = placed;
      areas = λ i j x y part p q h area k l in_p in_q same.
          let w : (part.align ≡ line) × (part.size % line ≡ 0) = whole i part h area in
          let start : p.0 % line ≡ 0 = subst (λ n. p.0 % n ≡ 0) w.0 (placed.aligned i part p h k) in
          let end : p.1 % line ≡ 0 = ap (λ n. n % line) (placed.ends i part p h k) ∙ sym (add-mod-mod p.0 part.size line)
          ∙ ap (λ n. (p.0 + n) % line) w.1 ∙ ap (λ n. n % line) (add-zero p.0) ∙ start in
          let low : p.0 ≤ y = line_side line p.0 x y pos start in_p.0 same in
          let high : y < p.1 = ⊎_elim (λ (lt : y < p.1). lt)
          (λ (ge : p.1 ≤ y). absurd (let b : p.1 ≤ x = line_side line p.1 y x pos end ge (sym same) in let c : x < p.1 = in_p.1 in
          omega (arith, b, c))) (cases_lt y p.1) in
          placed.disjoint i j y p q k l (low, high) in_q;
    }

-- ---- each place is moved from the end of the one before it

pub record IsMoved (line at : ℕ) (part : PartSize) (q : Extent) : Type 0 where
  pub offset : ℕ
  pub is : q ≡ moved_place line at part offset

abbrev pub Moves : ℕ → ℕ → List PartSize → List Extent → Type 0
Moves line at [] [] = Unit {0}
Moves line at [] (q ∷ qs) = ⊥
Moves line at (part ∷ parts) [] = ⊥
Moves line at (part ∷ parts) (q ∷ qs) = IsMoved line at part q × Moves line q.1 parts qs

record MovedOn (line at : ℕ) (parts : List PartSize) (places all : List Extent) : Type 0 where
  rest : List Extent
  all_is : all ≡ places ++ rest
  moves : Moves line at parts rest

err_ok : {P : Type 0} (e : ℕ) (a : List Extent) → ◌≡◌ {A = Result (List Extent) ℕ} (Err e) (Ok a) → P
err_ok e a h = absurd cc

moved_on : (p : Plant) (ws : List (List PartRange)) (parts : List PartSize) (places : List Extent) (at : ℕ) (all : List Extent) →
    moved_from p ws places at parts ≡ Ok all → MovedOn p.line at parts places all
moved_on p ws [] places at all e =
    let same : places ≡ all = cc in
    record { rest = []; all_is = sym same ∙ sym (append-nil places); moves = tt }
moved_on p ws (part ∷ parts) places at all e = by (offset_of p ws places at part) e (λ o. moved_on p ws parts (places ++ moved_place p.line at part o ∷ []) (moved_place p.line at part o).1 all)
  where
    by : (found : Option ℕ) → moved_by found (length places) (λ o. moved_from p ws (places ++ moved_place p.line at part o ∷ []) (moved_place p.line at part o).1 parts) ≡ Ok all →
        ((o : ℕ) → moved_from p ws (places ++ moved_place p.line at part o ∷ []) (moved_place p.line at part o).1 parts ≡ Ok all →
        MovedOn p.line (moved_place p.line at part o).1 parts (places ++ moved_place p.line at part o ∷ []) all) →
        MovedOn p.line at (part ∷ parts) places all
    by None h go = err_ok (length places) all h
    by (Some o) h go =
        let m = go o h in
        let pl : Extent = moved_place p.line at part o in
        record { rest = pl ∷ m.rest; all_is = m.all_is ∙ append_assoc places (pl ∷ []) m.rest; moves = (record { offset = o; is = refl }, m.moves) }

-- ---- what that says of them

moves_long : (line at : ℕ) (parts : List PartSize) (places : List Extent) → Moves line at parts places → length places ≡ length parts
moves_long line at [] [] m = refl
moves_long line at [] (q ∷ qs) m = absurd m
moves_long line at (part ∷ parts) [] m = absurd m
moves_long line at (part ∷ parts) (q ∷ qs) m = ap suc (moves_long line q.1 parts qs m.1)

moves_end : (line at : ℕ) (parts : List PartSize) (places : List Extent) → Moves line at parts places → (i : ℕ) (part : PartSize) (q : Extent) →
    slice_get parts i ≡ Some part → slice_get places i ≡ Some q → q.1 ≡ q.0 + part.size
moves_end line at [] places m i part q h k = cc
moves_end line at (x ∷ xs) [] m i part q h k = absurd m
moves_end line at (x ∷ xs) (y ∷ ys) m zero part q h k =
    let same : x ≡ part = cc in
    let here : y ≡ q = cc in
    let e : y.1 ≡ y.0 + x.size = ap (λ (z : Extent). z.1) m.0.is ∙ ap (λ (z : Extent). z.0 + x.size) (sym m.0.is) in
    subst (λ (z : Extent). z.1 ≡ z.0 + part.size) here (e ∙ ap (λ (z : PartSize). y.0 + z.size) same)
moves_end line at (x ∷ xs) (y ∷ ys) m (suc i) part q h k = moves_end line y.1 xs ys m.1 i part q h k

next_multiple-mod : (x y : ℕ) → 0 < y → next_multiple_of x y % y ≡ 0
next_multiple-mod x y pos =
    let lt : x % y < y = mod_below x y pos in
    let d = div-add-mod' x y in
    let e : x + (y - x % y) ≡ (x / y + 1) * y = omega (arith, d, lt) in
    add-mod-mod x (y - x % y) y ∙ ap (λ n. n % y) e ∙ mul-mod_left (x / y + 1) y

-- a multiple of a number of which the line is one
lines_mod : (line align o : ℕ) → 0 < align → line % align ≡ 0 → o * line % align ≡ 0
lines_mod line align o pos whole =
    let e : line / align * align + line % align ≡ line = div-add-mod' line align in
    let f : line ≡ line / align * align = omega (arith, e, whole) in
    ap (λ l. o * l % align) f ∙ ap (λ n. n % align) (sym (mul_assoc o (line / align) align)) ∙ mul-mod_left (o * (line / align)) align

sum_mod : (a b y : ℕ) → a % y ≡ 0 → b % y ≡ 0 → (a + b) % y ≡ 0
sum_mod a b y ea eb = sym (add-mod-mod a b y) ∙ ap (λ n. (a + n) % y) eb ∙ ap (λ n. n % y) (add-zero a) ∙ ea

moves_aligned : (line at : ℕ) (parts : List PartSize) (places : List Extent) → Moves line at parts places →
    AllByRecursion (λ part. 1 ≤ part.align) parts → AllByRecursion (λ part. line % part.align ≡ 0) parts →
    (i : ℕ) (part : PartSize) (q : Extent) → slice_get parts i ≡ Some part → slice_get places i ≡ Some q → q.0 % part.align ≡ 0
moves_aligned line at [] places m a w i part q h k = cc
moves_aligned line at (x ∷ xs) [] m a w i part q h k = absurd m
moves_aligned line at (x ∷ xs) (y ∷ ys) m a w zero part q h k =
    let same : x ≡ part = cc in
    let here : y ≡ q = cc in
    let one : 1 ≤ x.align = a.0 in
    let pos : 0 < x.align = omega (arith, one) in
    let e : y.0 % x.align ≡ 0 = ap (λ (z : Extent). z.0 % x.align) m.0.is
    ∙ sum_mod (next_multiple_of at x.align) (m.0.offset * line) x.align (next_multiple-mod at x.align pos) (lines_mod line x.align m.0.offset pos w.0) in
    subst (λ (z : Extent). z.0 % part.align ≡ 0) here (subst (λ (z : PartSize). y.0 % z.align ≡ 0) same e)
moves_aligned line at (x ∷ xs) (y ∷ ys) m a w (suc i) part q h k = moves_aligned line y.1 xs ys m.1 a.1 w.1 i part q h k

rise_step : (at : ℕ) (q : Extent) (qs : List Extent) → at ≤ q.0 → q.0 ≤ q.1 → rise_from q.1 qs ≡ true → rise_from at (q ∷ qs) ≡ true
rise_step at q qs low forward rest =
    and_from (nat_le at q.0 && nat_le q.0 q.1) (rise_from q.1 qs) (and_from (nat_le at q.0) (nat_le q.0 q.1) (le-leb at q.0 low) (le-leb q.0 q.1 forward)) rest

moves_rise : (line at : ℕ) (parts : List PartSize) (places : List Extent) → Moves line at parts places → rise_from at places ≡ true
moves_rise line at [] [] m = refl
moves_rise line at [] (q ∷ qs) m = absurd m
moves_rise line at (part ∷ parts) [] m = absurd m
moves_rise line at (part ∷ parts) (q ∷ qs) m =
    let low : q.0 ≡ next_multiple_of at part.align + m.0.offset * line = ap (λ (z : Extent). z.0) m.0.is in
    let high : q.1 ≡ next_multiple_of at part.align + m.0.offset * line + part.size = ap (λ (z : Extent). z.1) m.0.is in
    let next : at ≤ next_multiple_of at part.align = omega arith in
    rise_step at q qs (omega (arith, low, next)) (omega (arith, low, high)) (moves_rise line q.1 parts qs m.1)

end_high : (line at : ℕ) (parts : List PartSize) (places : List Extent) → Moves line at parts places → at ≤ end_behind at places
end_high line at [] [] m = omega arith
end_high line at [] (q ∷ qs) m = absurd m
end_high line at (part ∷ parts) [] m = absurd m
end_high line at (part ∷ parts) (q ∷ qs) m =
    let high : q.1 ≡ next_multiple_of at part.align + m.0.offset * line + part.size = ap (λ (z : Extent). z.1) m.0.is in
    let next : at ≤ next_multiple_of at part.align = omega arith in
    let rest : q.1 ≤ end_behind q.1 qs = end_high line q.1 parts qs m.1 in
    omega (arith, high, next, rest)

moves_within : (line at : ℕ) (parts : List PartSize) (places : List Extent) → Moves line at parts places → (i : ℕ) (q : Extent) → slice_get places i ≡ Some q → q.1 ≤ end_behind at places
moves_within line at parts [] m i q k = cc
moves_within line at [] (y ∷ ys) m i q k = absurd m
moves_within line at (x ∷ xs) (y ∷ ys) m zero q k =
    let here : y ≡ q = cc in
    subst (λ (z : Extent). z.1 ≤ end_behind y.1 ys) here (end_high line y.1 xs ys m.1)
moves_within line at (x ∷ xs) (y ∷ ys) m (suc i) q k = moves_within line y.1 xs ys m.1 i q k

moved_are_places : (line memory : ℕ) (parts : List PartSize) (places : List Extent) → Moves line 0 parts places → All (λ part. 1 ≤ part.align) parts →
    AlignLines line parts → last_end places ≤ memory → ArePlaces memory parts places
moved_are_places line memory parts places m aligned lines le =
    record {
      count = moves_long line 0 parts places m;
      ends = moves_end line 0 parts places m;
      aligned = moves_aligned line 0 parts places m (recursion_from_All (λ (part : PartSize). 1 ≤ part.align) parts aligned)
          (recursion_from_All (λ (part : PartSize). line % part.align ≡ 0) parts lines);
      within = λ i q k. (let x = moves_within line 0 parts places m i q k in omega (arith, x, le));
      disjoint = ((exact places _ refl).0 (risen_apart 0 places (moves_rise line 0 parts places m))).disjoint;
    }

pub moved_places_are_lawful : MovedPlacesAreLawful
moved_places_are_lawful p ws parts places pos aligned lines whole e le =
    let m = moved_on p ws parts [] 0 places e in
    let moves : Moves p.line 0 parts places = subst (λ (ps : List Extent). Moves p.line 0 parts ps) (sym m.all_is) m.moves in
    placed_areas_are_lawful p.line p.memory parts places pos (moved_are_places p.line p.memory parts places moves aligned lines le) whole

-- ---- room

room_last : (p : Plant) (ws : List (List PartRange)) (part : PartSize) (places : List Extent) (at : ℕ) (all : List Extent) (found : Option ℕ) → offset_of p ws places at part ≡ found →
    moved_by found (length places) (λ o. moved_from p ws (places ++ moved_place p.line at part o ∷ []) (moved_place p.line at part o).1 []) ≡ Ok all → all_have_room p ws all ≡ true
room_last p ws part places at all None is h = err_ok (length places) all h
room_last p ws part places at all (Some o) is h =
    let last : places ++ moved_place p.line at part o ∷ [] ≡ all = cc in
    subst (λ (ps : List Extent). all_have_room p ws ps ≡ true) last (offset_passes p ws places at part o is)

room_more : (p : Plant) (ws : List (List PartRange)) (part : PartSize) (parts : List PartSize) (places : List Extent) (at : ℕ) (all : List Extent) (found : Option ℕ) →
    moved_by found (length places) (λ o. moved_from p ws (places ++ moved_place p.line at part o ∷ []) (moved_place p.line at part o).1 parts) ≡ Ok all →
    ((o : ℕ) → moved_from p ws (places ++ moved_place p.line at part o ∷ []) (moved_place p.line at part o).1 parts ≡ Ok all → all_have_room p ws all ≡ true) → all_have_room p ws all ≡ true
room_more p ws part parts places at all None h go = err_ok (length places) all h
room_more p ws part parts places at all (Some o) h go = go o h

room_at : (p : Plant) (ws : List (List PartRange)) (part : PartSize) (parts : List PartSize) (places : List Extent) (at : ℕ) (all : List Extent) →
    moved_from p ws places at (part ∷ parts) ≡ Ok all → all_have_room p ws all ≡ true
room_at p ws part [] places at all e = room_last p ws part places at all (offset_of p ws places at part) refl e
room_at p ws part (next ∷ more) places at all e =
    room_more p ws part (next ∷ more) places at all (offset_of p ws places at part) e
    (λ o h. room_at p ws next more (places ++ moved_place p.line at part o ∷ []) (moved_place p.line at part o).1 all h)

pub moved_places_have_room : MovedPlacesHaveRoom
moved_places_have_room p ws [] places some e = absurd (omega (arith, some))
moved_places_have_room p ws (part ∷ parts) places some e = room_at p ws part parts [] 0 places e
