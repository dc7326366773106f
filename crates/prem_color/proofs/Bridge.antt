-- The lines of a part's ranges behind those of the parts before it.
use Rattle.std.specs.Prelude.{filter, is_none, is_some, option_map, IfSome}
use Rattle.std.specs.List.{AllByRecursion}
use Rattle.std.proofs.Common.{◌≡◌, ℕ, zero, suc, ◌+◌, ◌-◌, ◌/◌, ◌<◌, ◌≤◌, max, Bool, true, false, cond, ◌||◌, List, [], ◌∷◌, ◌++◌, Option, None, Some, refl, ap, ap₂, sym, ◌∙◌}
use Rattle.std.proofs.Common.{subst, arith, ⊎_elim, length, slice_get}
use Rattle.std.proofs.lemmas.Bool.{eq-eqb, ne_eqb, leb-true, and_parts, cases_eq, cases_lt, or_cases}
use Rattle.std.proofs.lemmas.List.Elements.{filter-append}
use Rattle.prem_plant.specs.Places.{Extent}
use Rattle.prem_layout.specs.Footprint.{first_line, line_end, touches, is_touched, last_line_end, numbers_from, lines_of, conflict_of}
use Rattle.prem_layout.proofs.Lines.{div_rises, touched, touched_below_end, numbers_split, or_left, or_right}
use Rattle.prem_color.specs.Placing.{EndsBy}
use Rattle.prem_color.specs.Offsets.{PartRange, range_in, range_before, placed_ranges}
use Rattle.prem_color.specs.Rooms.{Room, room_behind, with_lines, lines_behind, with_ranges, ranges_of_part, ranges_at, IsRoom}
use Rattle.prem_color.proofs.Counting.{Counted, Ends, lines_go, has_room_where, no_room_where}

-- ---- ranges, of which some are old and others new

or_swap : (x y z : Bool) → (x || (y || z)) ≡ (y || (x || z))
or_swap true true z = refl
or_swap true false z = refl
or_swap false y z = refl

or_join : (x y z : Bool) → (x || (y || z)) ≡ ((x || y) || z)
or_join true y z = refl
or_join false y z = refl

pub record Splits (line : ℕ) (all old new : List Extent) : Type 0 where
  touched_is : (n : ℕ) → is_touched line all n ≡ (is_touched line old n || is_touched line new n)
  pub end_is : last_line_end line all ≡ max (last_line_end line old) (last_line_end line new)

splits_none : (line : ℕ) → Splits line [] [] []
splits_none line = record { touched_is = λ n. refl; end_is = refl }

splits_old : (line : ℕ) (all old new : List Extent) (p : Extent) → Splits line all old new → Splits line (p ∷ all) (p ∷ old) new
splits_old line all old new p s =
    record {
      touched_is = λ n. ap (λ b. touches line n p || b) (s.touched_is n) ∙ or_join (touches line n p) (is_touched line old n) (is_touched line new n);
      end_is = let e = s.end_is in omega (arith, e);
    }

splits_new : (line : ℕ) (all old new : List Extent) (p : Extent) → Splits line all old new → Splits line (p ∷ all) old (p ∷ new)
splits_new line all old new p s =
    record {
      touched_is = λ n. ap (λ b. touches line n p || b) (s.touched_is n) ∙ or_swap (touches line n p) (is_touched line old n) (is_touched line new n);
      end_is = let e = s.end_is in omega (arith, e);
    }

splits_before : (line : ℕ) (all old new : List Extent) (o : Option Extent) (r : PartRange) → Splits line all old new → Splits line (range_before o r all) (range_before o r old) new
splits_before line all old new None r s = s
splits_before line all old new (Some p) r s = splits_old line all old new (range_in p r) s

-- ---- one part more

pub get_left : (places : List Extent) (pl : Extent) (k : ℕ) → k < length places → slice_get (places ++ pl ∷ []) k ≡ slice_get places k
get_left [] pl k lt = absurd (omega (arith, lt))
get_left (q ∷ qs) pl zero lt = refl
get_left (q ∷ qs) pl (suc k) lt = get_left qs pl k (omega (arith, lt))

pub get_last : (places : List Extent) (pl : Extent) → slice_get (places ++ pl ∷ []) (length places) ≡ Some pl
get_last [] pl = refl
get_last (q ∷ qs) pl = get_last qs pl

get_past : (places : List Extent) (k : ℕ) → length places ≤ k → slice_get places k ≡ None
get_past [] k le = refl
get_past (q ∷ qs) zero le = absurd (omega (arith, le))
get_past (q ∷ qs) (suc k) le = get_past qs k (omega (arith, le))

pub get_beyond : (places : List Extent) (pl : Extent) (k : ℕ) → length places < k → slice_get (places ++ pl ∷ []) k ≡ None
get_beyond [] pl zero lt = absurd (omega (arith, lt))
get_beyond [] pl (suc k) lt = refl
get_beyond (q ∷ qs) pl zero lt = absurd (omega (arith, lt))
get_beyond (q ∷ qs) pl (suc k) lt = get_beyond qs pl k (omega (arith, lt))

abbrev own : ℕ → Extent → List PartRange → List Extent
own n pl w = ranges_at pl.0 (ranges_of_part n w)

own_not : (n : ℕ) (pl : Extent) (r : PartRange) (w : List PartRange) → (r.0 ≡ n → ⊥) → own n pl (r ∷ w) ≡ own n pl w
own_not n pl r w ne = ap (λ b. ranges_at pl.0 (cond b (r ∷ ranges_of_part n w) (ranges_of_part n w))) (ne_eqb r.0 n ne)

own_is : (n : ℕ) (pl : Extent) (r : PartRange) (w : List PartRange) → r.0 ≡ n → own n pl (r ∷ w) ≡ range_in pl r ∷ own n pl w
own_is n pl r w e = ap (λ b. ranges_at pl.0 (cond b (r ∷ ranges_of_part n w) (ranges_of_part n w))) (eq-eqb r.0 n e)

pub part_splits : (line : ℕ) (places : List Extent) (pl : Extent) (w : List PartRange) →
    Splits line (placed_ranges (places ++ pl ∷ []) w) (placed_ranges places w) (ranges_at pl.0 (ranges_of_part (length places) w))
part_splits line places pl [] = splits_none line
part_splits line places pl (r ∷ w) =
    let all : List Extent = placed_ranges (places ++ pl ∷ []) w in
    let old : List Extent = placed_ranges places w in
    let n : ℕ = length places in
    let rest : Splits line all old (own n pl w) = part_splits line places pl w in
    ⊎_elim
    (λ (same : r.0 ≡ n).
    let a : slice_get places r.0 ≡ None = get_past places r.0 (omega (arith, same)) in
    let b : slice_get (places ++ pl ∷ []) r.0 ≡ Some pl = ap (λ k. slice_get (places ++ pl ∷ []) k) same ∙ get_last places pl in
    subst (λ o. Splits line (range_before o r all) (range_before (slice_get places r.0) r old) (own n pl (r ∷ w))) (sym b)
    (subst (λ o. Splits line (range_in pl r ∷ all) (range_before o r old) (own n pl (r ∷ w))) (sym a)
    (subst (λ ns. Splits line (range_in pl r ∷ all) old ns) (sym (own_is n pl r w same)) (splits_new line all old (own n pl w) (range_in pl r) rest))))
    (λ (other : r.0 ≡ n → ⊥).
    let e : slice_get (places ++ pl ∷ []) r.0 ≡ slice_get places r.0 =
    ⊎_elim (λ (lt : r.0 < n). get_left places pl r.0 lt) (λ (ge : n ≤ r.0). get_beyond places pl r.0 (omega (arith, ge, other)) ∙ sym (get_past places r.0 ge)) (cases_lt r.0 n) in
    subst (λ o. Splits line (range_before o r all) (range_before (slice_get places r.0) r old) (own n pl (r ∷ w))) (sym e)
    (subst (λ ns. Splits line (range_before (slice_get places r.0) r all) (range_before (slice_get places r.0) r old) ns)
    (sym (own_not n pl r w other)) (splits_before line all old (own n pl w) (slice_get places r.0) r rest)))
    (cases_eq r.0 n)

-- ---- old ranges end where new ones begin, or before

abbrev pub StartsFrom : ℕ → Extent → Type 0
StartsFrom a r = a ≤ r.0

starts_late : (line a : ℕ) (new : List Extent) (k : ℕ) → 0 < line → AllByRecursion (StartsFrom a) new → is_touched line new k ≡ true → a / line ≤ k
starts_late line a [] k pos h e = cc
starts_late line a (r ∷ rs) k pos h e =
    ⊎_elim (λ (t : touches line k r ≡ true). let low : first_line line r ≤ k = leb-true _ _ (and_parts _ _ t).0 in
    omega (arith, low, div_rises a r.0 line pos h.0)) (λ (t : is_touched line rs k ≡ true). starts_late line a rs k pos h.1 t)
    (or_cases _ _ e)

old_touched : (line a : ℕ) (old : List Extent) (k : ℕ) → 0 < line → AllByRecursion (EndsBy a) old → a / line ≤ k → k < last_line_end line old → is_touched line old k ≡ true
old_touched line a [] k pos h low lt = absurd (omega (arith, lt))
old_touched line a (r ∷ rs) k pos h low lt =
    ⊎_elim (λ (here : k < line_end line r).
    let first : r.0 / line ≤ a / line = div_rises r.0 a line pos (let le = h.0 in omega (arith, le.0, le.1)) in
    or_left _ _ (touched line k r (omega (arith, first, low)) here))
    (λ (past : line_end line r ≤ k). or_right _ _ (old_touched line a rs k pos h.1 low (omega (arith, lt, past))))
    (cases_lt k (line_end line r))

filter_same : (p q : ℕ → Bool) (n count : ℕ) → ((k : ℕ) → n ≤ k → k < n + count → p k ≡ q k) → filter p (numbers_from n count) ≡ filter q (numbers_from n count)
filter_same p q n zero h = refl
filter_same p q n (suc count) h =
    ap₂ (λ b ns. cond b (n ∷ ns) ns) (h n (omega arith) (omega arith)) (filter_same p q (n + 1) count (λ k low high. h k (omega (arith, low)) (omega (arith, high))))

or_same : (x y : Bool) → (y ≡ true → x ≡ true) → (x || y) ≡ x
or_same true y h = refl
or_same false true h = absurd (let z : false ≡ true = h refl in cc)
or_same false false h = refl

or_right_alone : (x y : Bool) → (x ≡ true → ⊥) → (x || y) ≡ y
or_right_alone true y h = absurd (h refl)
or_right_alone false y h = refl

-- the lines of all are those of the old ones, and behind them those of the new ones
lines_split : (line a : ℕ) (all old new : List Extent) → 0 < line → Splits line all old new → AllByRecursion (EndsBy a) old → AllByRecursion (StartsFrom a) new →
    lines_of line all ≡ lines_of line old ++ lines_behind line new (last_line_end line old)
lines_split line a all old new pos s ends starts =
    let at : ℕ = last_line_end line old in
    let e : ℕ = last_line_end line new in
    let whole : last_line_end line all ≡ at + (e - at) = (let x = s.end_is in omega (arith, x)) in
    let z : 0 + at ≡ at = omega arith in
    let split : numbers_from 0 (last_line_end line all) ≡ numbers_from 0 at ++ numbers_from at (e - at) =
    ap (numbers_from 0) whole ∙ numbers_split 0 at (e - at) ∙ ap (λ k. numbers_from 0 at ++ numbers_from k (e - at)) z in
    let low : filter (is_touched line all) (numbers_from 0 at) ≡ lines_of line old =
    filter_same (is_touched line all) (is_touched line old) 0 at (λ k from below.
    s.touched_is k ∙ or_same (is_touched line old k) (is_touched line new k) (λ t. old_touched line a old k pos ends (starts_late line a new k pos starts t) (omega (arith, below)))) in
    let high : filter (is_touched line all) (numbers_from at (e - at)) ≡ lines_behind line new at =
    filter_same (is_touched line all) (is_touched line new) at (e - at) (λ k from below.
    s.touched_is k ∙ or_right_alone (is_touched line old k) (is_touched line new k) (λ t. let x = touched_below_end line k old t in omega (arith, from, x))) in
    ap (filter (is_touched line all)) split ∙ filter-append (is_touched line all) (numbers_from 0 at) (numbers_from at (e - at)) ∙ ap₂ (λ x y. x ++ y) low high

-- ---- room for one part more

pub record Bridged (line sets «ways» : ℕ) (all : List Extent) (next : Option Room) : Type 0 where
  pub fits : is_some next ≡ is_none (conflict_of sets «ways» (lines_of line all))
  pub room : IfSome next (IsRoom line sets «ways» all)

pub bridge : (line a sets «ways» : ℕ) (all old new : List Extent) (r : Room) → 0 < line → 1 ≤ sets → sets ≤ 1024 → Splits line all old new →
    AllByRecursion (EndsBy a) old → AllByRecursion (StartsFrom a) new → IsRoom line sets «ways» old r →
    Bridged line sets «ways» all (with_ranges line sets «ways» new r)
bridge line a sets «ways» all old new r pos some most s ends starts room =
    let lines : lines_of line all ≡ lines_of line old ++ lines_behind line new (last_line_end line old) = lines_split line a all old new pos s ends starts in
    let counted : Counted sets «ways» (lines_of line old) r.counts = record { long = room.long; each = room.each; few = room.few } in
    let go : Ends sets «ways» (lines_of line old ++ lines_behind line new (last_line_end line old)) (with_lines sets «ways» (lines_behind line new (last_line_end line old)) r.counts) =
    lines_go sets «ways» (lines_behind line new (last_line_end line old)) (lines_of line old) r.counts some most counted in
    let here : Ends sets «ways» (lines_of line all) (with_lines sets «ways» (lines_behind line new r.at) r.counts) =
    subst (λ k. Ends sets «ways» (lines_of line all) (with_lines sets «ways» (lines_behind line new k) r.counts)) (sym room.at_is)
    (subst (λ ls. Ends sets «ways» ls (with_lines sets «ways» (lines_behind line new (last_line_end line old)) r.counts)) (sym lines) go) in
    let end : max r.at (last_line_end line new) ≡ last_line_end line all = ap (λ k. max k (last_line_end line new)) room.at_is ∙ sym s.end_is in
    by (with_lines sets «ways» (lines_behind line new r.at) r.counts) here end
  where
    by : (o : Option (List ℕ)) → Ends sets «ways» (lines_of line all) o → max r.at (last_line_end line new) ≡ last_line_end line all →
        Bridged line sets «ways» all (option_map (room_behind (max r.at (last_line_end line new))) o)
    by None over end = record { fits = sym (no_room_where sets «ways» (lines_of line all) over); room = tt }
    by (Some counts) counted end = record {
      fits = sym (has_room_where sets «ways» (lines_of line all) counted.few);
      room = record { at_is = end; long = counted.long; each = counted.each; few = counted.few };
    }
