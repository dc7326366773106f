-- The functions of a program and of the one with tiles, by name and with what stands at their numbers.
use Rattle.std.proofs.Common.{◌≡◌, ℕ, zero, suc, ◌+◌, ◌-◌, ◌<◌, ◌≤◌, Bool, true, false, cond, List, [], ◌∷◌, ◌++◌, length, map, refl, ap, sym, ◌∙◌, arith, Option, None, Some, option_map}
use Rattle.std.proofs.Common.{◌⊎◌, inl, inr}
use Rattle.prem_tiling.proofs.Prelude.{is_marked_text, find_named, find_function, number_named, Text, FunctionText, renumbered, Cut, tile_name, tile_of, function_with_tiles, cases_lt}
use Rattle.prem_tiling.proofs.Prelude.{length-map, length-append, slice_get, bytes_eq}
use Rattle.prem_tiling.proofs.LawsLemmas.Alike.{Renamed}
use Rattle.prem_tiling.proofs.LawsLemmas.Calls.{slice_get_there, renumbered_below, renumbered_above, above_first}
use Rattle.prem_tiling.proofs.LawsLemmas.Placed.{tile_functions, tiles_count}
use Rattle.prem_tiling.proofs.LawsLemmas.Rules.{Kept}
use Rattle.prem_tiling.proofs.LawsLemmas.Whole.{get_right, get_left, get_more}

-- ---- by number

-- what has a name stands at its number
record At (fs : List FunctionText) (n : ℕ) (g : ℕ × FunctionText) : Type 0 where
  k : ℕ
  number : g.0 ≡ n + k
  stands : slice_get fs k ≡ Some g.1

found_at : (w : Text) (fs : List FunctionText) (n : ℕ) (g : ℕ × FunctionText) → find_named (λ (f : FunctionText). f.name) w n fs ≡ Some g → At fs n g
found_at w [] n g e = cc
found_at w (f ∷ fs) n g e = by (bytes_eq f.name w) e (λ h. found_at w fs (n + 1) g h)
  where
    by : (b : Bool) → cond b (Some (n, f)) (find_named (λ (f : FunctionText). f.name) w (n + 1) fs) ≡ Some g →
        (find_named (λ (f : FunctionText). f.name) w (n + 1) fs ≡ Some g → At fs (n + 1) g) → At (f ∷ fs) n g
    by true h next = let same : (n, f) ≡ g = cc in
        record {
          k = 0;
          number = sym (ap (λ (x : ℕ × FunctionText). x.0) same) ∙ (let z : n ≡ n + 0 = omega arith in z);
          stands =
              ap (λ (x : ℕ × FunctionText). Some x.1) same;
        }
    by false h next = let a = next h in record { k = suc a.k; number = a.number ∙ (let z : n + 1 + a.k ≡ n + suc a.k = omega arith in z); stands = a.stands }

pub stands_at : (fs : List FunctionText) (w : Text) (g : ℕ × FunctionText) → find_function fs w ≡ Some g → slice_get fs g.0 ≡ Some g.1
stands_at fs w g e = let a = found_at w fs 0 g e in let z : g.0 ≡ a.k = (let n = a.number in omega arith) in ap (slice_get fs) z ∙ a.stands

pub found_there : (fs : List FunctionText) (w : Text) (n : ℕ) (h : FunctionText) → number_named fs w ≡ Some n → slice_get fs n ≡ Some h → find_function fs w ≡ Some (n, h)
found_there fs w n h number stands = by (find_function fs w) refl
  where
    by : (o : Option (ℕ × FunctionText)) → find_function fs w ≡ o → find_function fs w ≡ Some (n, h)
    by None e = (let x : None ≡ Some n = sym (ap (option_map (λ (f : ℕ × FunctionText). f.0)) e) ∙ number in cc)
    by (Some g) e =
        let there : Some g.0 ≡ Some n = sym (ap (option_map (λ (f : ℕ × FunctionText). f.0)) e) ∙ number in
        let number_is : g.0 ≡ n = cc in
        let same : Some g.1 ≡ Some h = sym (stands_at fs w g e) ∙ ap (slice_get fs) number_is ∙ stands in
        let text_is : g.1 ≡ h = cc in
        e ∙ (λ i. Some (number_is i, text_is i))

slice_map : (T : FunctionText → FunctionText) (xs : List FunctionText) (i : ℕ) (x : FunctionText) → slice_get xs i ≡ Some x → slice_get (map T xs) i ≡ Some (T x)
slice_map T [] i x e = cc
slice_map T (y ∷ ys) zero x e = let same : y ≡ x = cc in ap (λ z. Some (T z)) same
slice_map T (y ∷ ys) (suc i) x e = slice_map T ys i x e

pub inside : {A : Type 0} (xs : List A) (i : ℕ) (x : A) → slice_get xs i ≡ Some x → i < length xs
inside [] i x e = cc
inside (y ∷ ys) zero x e = omega arith
inside (y ∷ ys) (suc i) x e = let lt = inside ys i x e in omega arith

tile_at : (c : Cut) (n s k : ℕ) → k < n → slice_get (tile_functions c s n) k ≡ Some (tile_of c (s + k))
tile_at c zero s k lt = absurd (omega arith)
tile_at c (suc n) s zero lt = let z : s ≡ s + 0 = omega arith in ap (λ j. Some (tile_of c j)) z
tile_at c (suc n) s (suc k) lt = tile_at c n (s + 1) k (omega arith) ∙ (let z : s + 1 + k ≡ s + suc k = omega arith in ap (λ j. Some (tile_of c j)) z)

-- ---- with tiles

module _ (c : Cut) (before after fs fs' : List FunctionText) (are : fs ≡ before ++ c.function ∷ after)
    (tiled_are : fs' ≡ map (function_with_tiles c) before ++ (tile_functions c 0 c.tiles ++ map (function_with_tiles c) after)) where
  abbrev first : ℕ
  first = length before

  abbrev T : FunctionText → FunctionText
  T = function_with_tiles c

  new_front : length (map T before) ≡ first
  new_front = length-map before T

  tile_stands : (t : ℕ) → t < c.tiles → slice_get fs' (first + t) ≡ Some (tile_of c t)
  tile_stands t lt =
      ap (λ xs. slice_get xs (first + t)) tiled_are
      ∙ (let z : first + t ≡ length (map T before) + t = (let k = new_front in omega arith) in
      ap (slice_get (map T before ++ (tile_functions c 0 c.tiles ++ map T after))) z)
      ∙ get_right (map T before) (tile_functions c 0 c.tiles ++ map T after) t ∙ get_left (tile_functions c 0 c.tiles) (map T after) t (let k = tiles_count c 0 c.tiles in omega arith)
      ∙ tile_at c c.tiles 0 t lt ∙ (let z : 0 + t ≡ t = omega arith in ap (λ j. Some (tile_of c j)) z)

  -- where one before it stands, and one behind it
  front_stands : (g : ℕ) (x : FunctionText) → g < first → slice_get fs g ≡ Some x → slice_get fs' g ≡ Some (T x)
  front_stands g x lt e =
      ap (λ xs. slice_get xs g) tiled_are
      ∙ get_more (map T before) (tile_functions c 0 c.tiles ++ map T after) g (T x) (slice_map T before g x (sym (get_left before (c.function ∷ after) g lt) ∙ ap (λ xs. slice_get xs g) (sym are) ∙ e))

  back_stands : (j : ℕ) (x : FunctionText) → slice_get fs (first + suc j) ≡ Some x → slice_get fs' (first + (c.tiles + j)) ≡ Some (T x)
  back_stands j x e =
      let old : slice_get after j ≡ Some x = sym (get_right before (c.function ∷ after) (suc j)) ∙ ap (λ xs. slice_get xs (first + suc j)) (sym are) ∙ e in
      let z : first + (c.tiles + j) ≡ length (map T before) + (length (tile_functions c 0 c.tiles) + j) = (let k = new_front in let l = tiles_count c 0 c.tiles in omega arith) in
      ap (λ xs. slice_get xs (first + (c.tiles + j))) tiled_are ∙ ap (slice_get (map T before ++ (tile_functions c 0 c.tiles ++ map T after))) z
      ∙ get_right (map T before) (tile_functions c 0 c.tiles ++ map T after) (length (tile_functions c 0 c.tiles) + j)
      ∙ get_right (tile_functions c 0 c.tiles) (map T after) j ∙ slice_map T after j x old

  others_stand : (g : ℕ) (x : FunctionText) → (g ≡ first → ⊥) → slice_get fs g ≡ Some x → slice_get fs' (renumbered first c.tiles g) ≡ Some (T x)
  others_stand g x other e = by (cases_lt g first)
    where
      by : (g < first) ⊎ (first ≤ g) → slice_get fs' (renumbered first c.tiles g) ≡ Some (T x)
      by (inl lt) = ap (slice_get fs') (renumbered_below first c.tiles g (omega arith)) ∙ front_stands g x lt e
      by (inr le) =
          let above = above_first first g other le in
          let j = g - 1 - first in
          let place : g ≡ first + suc j = omega arith in
          let number : renumbered first c.tiles g ≡ first + (c.tiles + j) = renumbered_above first c.tiles g above ∙ (let z : g - 1 + c.tiles ≡ first + (c.tiles + j) = omega arith in z) in
          ap (slice_get fs') number ∙ back_stands j x (ap (slice_get fs) (sym place) ∙ e)

  -- ---- where a function with tiles comes from

  pub record FromTile (j : ℕ) (h : FunctionText) : Type 0 where
    pub t : ℕ
    pub within : t < c.tiles
    pub place : j ≡ first + t
    pub same : h ≡ tile_of c t

  pub record FromOther (j : ℕ) (h : FunctionText) : Type 0 where
    pub number : ℕ
    pub other : number ≡ first → ⊥
    pub place : j ≡ renumbered first c.tiles number
    pub text : FunctionText
    pub stands : slice_get fs number ≡ Some text
    pub same : h ≡ T text

  pub origin : (j : ℕ) (h : FunctionText) → slice_get fs' j ≡ Some h → FromTile j h ⊎ FromOther j h
  origin j h e = by (cases_lt j first) (cases_lt j (first + c.tiles))
    where
      few : j < first + (c.tiles + length after)
      few = let n = inside fs' j h e in let l = ap length tiled_are ∙ length-append (map T before) (tile_functions c 0 c.tiles ++ map T after) in
          let m = length-append (tile_functions c 0 c.tiles) (map T after) in let k = new_front in let i = tiles_count c 0 c.tiles in let o =
          length-map after T in omega arith

      all : length fs ≡ first + suc (length after)
      all = ap length are ∙ length-append before (c.function ∷ after)

      from : (number : ℕ) → (number ≡ first → ⊥) → j ≡ renumbered first c.tiles number → number < length fs → FromOther j h
      from number other place lt =
          let there = slice_get_there fs number lt in
          let same : Some h ≡ Some (T there.0) = sym e ∙ ap (slice_get fs') place ∙ others_stand number there.0 other there.1 in
          record { number = number; other = other; place = place; text = there.0; stands = there.1; same = (let s : h ≡ T there.0 = cc in s) }

      by : (j < first) ⊎ (first ≤ j) → (j < first + c.tiles) ⊎ (first + c.tiles ≤ j) → FromTile j h ⊎ FromOther j h
      by (inl lt) b = inr (from j (λ s. omega arith) (sym (renumbered_below first c.tiles j (omega arith))) (let l = all in omega arith))
      by (inr le) (inl lt) =
          let t = j - first in
          let place : j ≡ first + t = omega arith in
          let small : t < c.tiles = omega arith in
          let same : Some h ≡ Some (tile_of c t) = sym e ∙ ap (slice_get fs') place ∙ tile_stands t small in
          inl (record { t = t; within = small; place = place; same = (let s : h ≡ tile_of c t = cc in s) })
      by (inr le) (inr ge) =
          let n = j - c.tiles + 1 in
          let f = few in
          inr (from n (λ s. omega arith) ((let z : j ≡ n - 1 + c.tiles = omega arith in z) ∙ sym (renumbered_above first c.tiles n (omega arith))) (let l = all in omega arith))

  -- ---- by name

  pub kept : Renamed c.function c.tiles first fs fs' → is_marked_text c.function ≡ true → Kept c first fs fs'
  kept names marked = record {
    no_parameters = names.no_parameters;
    void = names.void;
    marked = marked;
    here = names.here;
    others = λ callee g other found. let o = names.others callee g other found in
        (o.0, found_there fs' callee (renumbered first c.tiles g.0) (T g.1) o.1 (others_stand g.0 g.1 o.0 (stands_at fs callee g found)));
    tiles_are = λ t lt. found_there fs' (tile_name c.function.name t) (first + t) (tile_of c t) (names.tiles_are t lt) (tile_stands t lt);
  }
