-- A program with tiles does what the program did.
use Rattle.std.proofs.Common.{◌≡◌, ℕ, zero, suc, ◌+◌, ◌-◌, ◌<◌, ◌≤◌, Bool, true, false, cond, ◌||◌, List, [], ◌∷◌, ◌++◌, length, map, refl, ap, sym, ◌∙◌, subst, arith, Option, None, Some}
use Rattle.std.proofs.Common.{option_map, IfSome, ◌⊎◌, inl, inr, ⊎_elim, true≢false}
use Rattle.prem_tiling.proofs.Prelude.{within_names, number_of, is_void, in_function, in_items, in_global, item_names, has_name, is_in_set, find_named, find_function, number_named}
use Rattle.prem_tiling.proofs.Prelude.{resolve_function, resolve_items, loops_within, globals_of, functions_of, Routine, Text, GlobalVariable, FunctionText, global_item, function_item}
use Rattle.prem_tiling.proofs.Prelude.{ProgramText, renumbered, Cut, tile_name, tile_of, tiles_from, function_with_tiles, tiled, used_names, taken_from, cases_lt, append-nil, length-map}
use Rattle.prem_tiling.proofs.Prelude.{bytes_eq-Decides, slice_get, bytes_eq}
use Rattle.prem_tiling.proofs.LawsLemmas.Alike.{Renamed}
use Rattle.prem_tiling.proofs.LawsLemmas.Calls.{renumbered_below, renumbered_above, above_first}
use Rattle.prem_tiling.proofs.LawsLemmas.Formed.{none_left, none_right}
use Rattle.prem_tiling.proofs.LawsLemmas.Lists.{names_of_functions, or_behind, number_append, number_is, number_none, loops_of, functions_append, items_append, routines_count, function_any}
use Rattle.prem_tiling.proofs.LawsLemmas.Lists.{in_items_append}
use Rattle.prem_tiling.proofs.LawsLemmas.Placed.{has_not_left, flipped, same_name, used_not, item_of, tiled_append, plain_part, tiles_there, plain_functions, plain_globals, plain_names}
use Rattle.prem_tiling.proofs.LawsLemmas.Placed.{tile_functions, functions_of_tiles, globals_of_tiles, tiles_count, tile_number, no_tile}

-- ---- finding and slicing

find_skip : (n : ℕ) (xs ys : List FunctionText) (w : Text) → has_name (names_of_functions xs) w ≡ false →
    find_named (λ (f : FunctionText). f.name) w n (xs ++ ys) ≡ find_named (λ (f : FunctionText). f.name) w (n + length xs) ys
find_skip n [] ys w e = let z : n ≡ n + 0 = omega arith in ap (λ k. find_named (λ (f : FunctionText). f.name) w k ys) z
find_skip n (x ∷ xs) ys w e = by (bytes_eq x.name w) e (find_skip (n + 1) xs ys w)
  where
    by : (b : Bool) → (b || has_name (names_of_functions xs) w) ≡ false →
        (has_name (names_of_functions xs) w ≡ false →
        find_named (λ (f : FunctionText). f.name) w (n + 1) (xs ++ ys) ≡ find_named (λ (f : FunctionText). f.name) w (n + 1 + length xs) ys) →
        cond b (Some (n, x)) (find_named (λ (f : FunctionText). f.name) w (n + 1) (xs ++ ys)) ≡ find_named (λ (f : FunctionText). f.name) w (n + suc (length xs)) ys
    by true h next = absurd (true≢false h)
    by false h next = next h ∙ (let z : n + 1 + length xs ≡ n + suc (length xs) = omega arith in ap (λ k. find_named (λ (f : FunctionText). f.name) w k ys) z)

pub get_right : {A : Type 0} (xs ys : List A) (i : ℕ) → slice_get (xs ++ ys) (length xs + i) ≡ slice_get ys i
get_right [] ys i = let z : 0 + i ≡ i = omega arith in ap (slice_get ys) z
get_right (x ∷ xs) ys i = let z : suc (length xs) + i ≡ suc (length xs + i) = omega arith in ap (slice_get (x ∷ (xs ++ ys))) z ∙ get_right xs ys i

pub get_left : {A : Type 0} (xs ys : List A) (i : ℕ) → i < length xs → slice_get (xs ++ ys) i ≡ slice_get xs i
get_left [] ys i lt = absurd (omega arith)
get_left (x ∷ xs) ys zero lt = refl
get_left (x ∷ xs) ys (suc i) lt = get_left xs ys i (omega arith)

pub get_more : {A : Type 0} (xs ys : List A) (i : ℕ) (x : A) → slice_get xs i ≡ Some x → slice_get (xs ++ ys) i ≡ Some x
get_more [] ys i x e = cc
get_more (z ∷ zs) ys zero x e = e
get_more (z ∷ zs) ys (suc i) x e = get_more zs ys i x e

pub free_of : (names : List Text) (name : Text) (n s : ℕ) → taken_from names name s n ≡ None → (t : ℕ) → s ≤ t → t < s + n → has_name names (tile_name name t) ≡ false
free_of names name zero s e t low high = absurd (omega arith)
free_of names name (suc n) s e t low high = by (has_name names (tile_name name s)) refl e (λ e. free_of names name n (s + 1) e)
  where
    by : (b : Bool) → has_name names (tile_name name s) ≡ b → cond b (Some (tile_name name s)) (taken_from names name (s + 1) n) ≡ None →
        (taken_from names name (s + 1) n ≡ None → (t : ℕ) → s + 1 ≤ t → t < s + 1 + n → has_name names (tile_name name t) ≡ false) → has_name names (tile_name name t) ≡ false
    by true is h next = cc
    by false is h next = ⊎_elim (λ (lt : s < t). next h t (omega arith) (omega arith))
        (λ (le : t ≤ s). let same : s ≡ t = omega arith in ap (λ k. has_name names (tile_name name k)) (sym same) ∙ is) (cases_lt s t)

-- ---- the functions by name

module _ (c : Cut) (front back : ProgramText) (several : 2 ≤ c.tiles) (few : c.tiles ≤ 64)
    (front_apart : has_name (names_of_functions (functions_of front)) c.function.name ≡ false) (back_apart : has_name (names_of_functions (functions_of back)) c.function.name ≡ false)
    (free : (t : ℕ) → t < c.tiles → has_name (used_names (front ++ function_item c.function ∷ back)) (tile_name c.function.name t) ≡ false)
    (bare : c.function.params ≡ []) (void : is_void c.function.ty ≡ true) where
  abbrev p : ProgramText
  p = front ++ function_item c.function ∷ back

  abbrev q : ProgramText
  q = tiled c p

  abbrev first : ℕ
  first = length (functions_of front)

  abbrev before : List FunctionText
  before = functions_of front

  abbrev after : List FunctionText
  after = functions_of back

  pub functions_are : functions_of p ≡ before ++ c.function ∷ after
  functions_are = functions_append front (function_item c.function ∷ back)

  pub tiled_are : q ≡ map (item_of c) front ++ (tiles_from c 0 c.tiles ++ map (item_of c) back)
  tiled_are = tiled_append c front (function_item c.function ∷ back) ∙ (λ i. plain_part c front front_apart i ++ (tiles_there c i ++ plain_part c back back_apart i))

  pub functions_tiled : functions_of q ≡ map (function_with_tiles c) before ++ (tile_functions c 0 c.tiles ++ map (function_with_tiles c) after)
  functions_tiled =
      ap functions_of tiled_are ∙ functions_append (map (item_of c) front) (tiles_from c 0 c.tiles ++ map (item_of c) back)
      ∙ (λ i. plain_functions c front i ++ functions_append (tiles_from c 0 c.tiles) (map (item_of c) back) i)
      ∙ (λ i. map (function_with_tiles c) before ++ (functions_of_tiles c 0 c.tiles i ++ plain_functions c back i))

  abbrev old_names : List Text
  old_names = names_of_functions before ++ c.function.name ∷ names_of_functions after

  abbrev new_names : List Text
  new_names = names_of_functions before ++ (names_of_functions (tile_functions c 0 c.tiles) ++ names_of_functions after)

  names_append : (xs ys : List FunctionText) → names_of_functions (xs ++ ys) ≡ names_of_functions xs ++ names_of_functions ys
  names_append [] ys = refl
  names_append (x ∷ xs) ys = ap (λ ns. x.name ∷ ns) (names_append xs ys)

  names_are : names_of_functions (functions_of p) ≡ old_names
  names_are = ap names_of_functions functions_are ∙ names_append before (c.function ∷ after)

  names_tiled : names_of_functions (functions_of q) ≡ new_names
  names_tiled =
      ap names_of_functions functions_tiled ∙ names_append (map (function_with_tiles c) before) (tile_functions c 0 c.tiles ++ map (function_with_tiles c) after)
      ∙ (λ i. plain_names c before i ++ names_append (tile_functions c 0 c.tiles) (map (function_with_tiles c) after) i)
      ∙ (λ i. names_of_functions before ++ (names_of_functions (tile_functions c 0 c.tiles) ++ plain_names c after i))

  count_before : length (names_of_functions before) ≡ first
  count_before = length-map before (λ (f : FunctionText). f.name)

  count_tiles : length (names_of_functions (tile_functions c 0 c.tiles)) ≡ c.tiles
  count_tiles = length-map (tile_functions c 0 c.tiles) (λ (f : FunctionText). f.name) ∙ tiles_count c 0 c.tiles

  tile_unused : (t : ℕ) → t < c.tiles → has_name old_names (tile_name c.function.name t) ≡ false
  tile_unused t lt = ap (λ ns. has_name ns (tile_name c.function.name t)) (sym names_are) ∙ used_not p (tile_name c.function.name t) (free t lt)

  new_number : (w : Text) (a b o : Option ℕ) → number_of (names_of_functions before) w ≡ a →
      number_of (names_of_functions (tile_functions c 0 c.tiles)) w ≡ b → number_of (names_of_functions after) w ≡ o →
      number_named (functions_of q) w ≡ or_behind a first (or_behind b c.tiles o)
  new_number w a b o e f g =
      number_is (functions_of q) w ∙ ap (λ ns. number_of ns w) names_tiled ∙ number_append (names_of_functions before) (names_of_functions (tile_functions c 0 c.tiles) ++ names_of_functions after) w
      ∙ (λ i. or_behind (e i) (count_before i) (number_append (names_of_functions (tile_functions c 0 c.tiles)) (names_of_functions after) w i))
      ∙ (λ i. or_behind a first (or_behind (f i) (count_tiles i) (g i)))

  tiles_named : (t : ℕ) → t < c.tiles → number_named (functions_of q) (tile_name c.function.name t) ≡ Some (first + t)
  tiles_named t lt =
      let w = tile_name c.function.name t in
      new_number w None (Some t) (number_of (names_of_functions after) w)
      (number_none (names_of_functions before) w
      (has_not_left (names_of_functions before) (c.function.name ∷ names_of_functions after) w (tile_unused t lt)))
      (let z : 0 + t ≡ t = omega arith in ap (λ k. number_of (names_of_functions (tile_functions c 0 c.tiles)) (tile_name c.function.name k)) (sym z) ∙ tile_number c c.tiles 0 t (omega arith) lt) refl

  found_here : (callee : Text) → bytes_eq callee c.function.name ≡ true → find_function (functions_of p) callee ≡ Some (first, c.function)
  found_here callee e =
      let same = (bytes_eq-Decides callee c.function.name).0 e in
      ap (λ fs. find_function fs callee) functions_are
      ∙ find_skip 0 before (c.function ∷ after) callee (ap (has_name (names_of_functions before)) same ∙ front_apart)
      ∙ ap (λ b. cond b (Some (0 + first, c.function)) (find_named (λ (f : FunctionText). f.name) callee (0 + first + 1) after)) (ap (bytes_eq c.function.name) same ∙ same_name c.function.name)
      ∙ (let z : 0 + first ≡ first = omega arith in ap (λ k. Some (k, c.function)) z)

  others_named : (callee : Text) (g : ℕ × FunctionText) → bytes_eq callee c.function.name ≡ false → find_function (functions_of p) callee ≡ Some g →
      (g.0 ≡ first → ⊥) × (number_named (functions_of q) callee ≡ Some (renumbered first c.tiles g.0))
  others_named callee g other found = by (number_of (names_of_functions before) callee) refl (number_of (names_of_functions after) callee) refl
    where
      old : number_of old_names callee ≡ Some g.0
      old = ap (λ ns. number_of ns callee) (sym names_are) ∙ sym (number_is (functions_of p) callee) ∙ ap (option_map (λ (f : ℕ × FunctionText). f.0)) found

      parts : (a o : Option ℕ) → number_of (names_of_functions before) callee ≡ a → number_of (names_of_functions after) callee ≡ o → or_behind a first (option_map suc o) ≡ Some g.0
      parts a o e f =
          (λ i. or_behind (sym e i) (sym count_before i) (cond (sym (flipped callee c.function.name other) i) (Some 0) (option_map suc (sym f i))))
          ∙ sym (number_append (names_of_functions before) (c.function.name ∷ names_of_functions after) callee) ∙ old

      small : (k : ℕ) → number_of (names_of_functions before) callee ≡ Some k → k < first
      small k e = subst (λ n. k < n) count_before (subst (λ o. IfSome o (λ n. n < length (names_of_functions before))) e (within_names (names_of_functions before) callee))

      no_tile_here : number_of (names_of_functions (tile_functions c 0 c.tiles)) callee ≡ None
      no_tile_here = no_tile c c.tiles 0 callee (λ t low high. apart t (omega arith) (bytes_eq (tile_name c.function.name t) callee) refl)
        where
          apart : (t : ℕ) → t < c.tiles → (b : Bool) → bytes_eq (tile_name c.function.name t) callee ≡ b → b ≡ false
          apart t lt false is = refl
          apart t lt true is =
              let same = (bytes_eq-Decides (tile_name c.function.name t) callee).0 is in
              let none : number_of old_names callee ≡ None = number_none old_names callee (ap (has_name old_names) (sym same) ∙ tile_unused t lt) in
              let h : None ≡ Some g.0 = sym none ∙ old in
              cc

      by : (a : Option ℕ) → number_of (names_of_functions before) callee ≡ a → (o : Option ℕ) → number_of (names_of_functions after) callee ≡ o →
          (g.0 ≡ first → ⊥) × (number_named (functions_of q) callee ≡ Some (renumbered first c.tiles g.0))
      by (Some k) e o f =
          let same : k ≡ g.0 = (let h = parts (Some k) o e f in cc) in
          let lt = small k e in
          ((λ at. omega arith), new_number callee (Some k) None o e no_tile_here f ∙ ap Some (same ∙ sym (renumbered_below first c.tiles g.0 (omega arith))))
      by None e (Some j) f =
          let same : first + suc j ≡ g.0 = (let h = parts None (Some j) e f in cc) in (
            (λ at. omega arith),
            new_number callee None None (Some j) e no_tile_here f
                ∙ ap Some ((let z : first + (c.tiles + j) ≡ g.0 - 1 + c.tiles = omega arith in z) ∙ sym (renumbered_above first c.tiles g.0 (omega arith))),
          )
      by None e None f = (let h = parts None None e f in cc)

  pub renamed : Renamed c.function c.tiles first (functions_of p) (functions_of q)
  renamed = record { no_parameters = bare; void = void; here = found_here; others = others_named; tiles_are = tiles_named }

  -- ---- the routines by number

  module _ (turns : ℕ) (within : List Bool) (taken : List Text) where
    abbrev all : ℕ → ℕ
    all k = turns

    abbrev fs : List FunctionText
    fs = functions_of p

    abbrev fs' : List FunctionText
    fs' = functions_of q

    -- a routine of a part without the function, and the one in its place
    pub record Seg (r : Routine) (o : Option Routine) : Type 0 where
      pub globals : List GlobalVariable
      pub text : FunctionText
      pub earlier : List Text
      pub number : ℕ
      pub is : r ≡ resolve_function fs all 0 globals text
      pub there : o ≡ Some (resolve_function fs' all 0 globals (function_with_tiles c text))
      pub formed : in_function fs taken number (is_in_set within number) globals earlier text ≡ []

    segment : (xs : ProgramText) (n m k : ℕ) (gs : List GlobalVariable) (earlier : List Text) → in_items fs taken within k gs earlier xs ≡ [] →
        (i : ℕ) (r : Routine) → slice_get (resolve_items fs all n gs xs) i ≡ Some r →
        Seg r (slice_get (resolve_items fs' all m gs (map (item_of c) xs)) i)
    segment [] n m k gs earlier e i r h = cc
    segment (global_item g ∷ xs) n m k gs earlier e i r h =
        segment xs n m k (gs ++ g ∷ []) (earlier ++ g.name ∷ [])
        (none_right (in_global earlier g) (in_items fs taken within k (gs ++ g ∷ []) (earlier ++ g.name ∷ []) xs) e) i r h
    segment (function_item f ∷ xs) n m k gs earlier e zero r h = record {
      globals = gs;
      text = f;
      earlier = earlier;
      number = k;
      is = (let same : resolve_function fs all n gs f ≡ r = cc in sym same ∙ function_any fs turns n 0 gs f);
      there = ap Some (function_any fs' turns m 0 gs (function_with_tiles c f));
      formed = none_left (in_function fs taken k (is_in_set within k) gs earlier f) (in_items fs taken within (k + 1) gs (earlier ++ f.name ∷ []) xs) e;
    }
    segment (function_item f ∷ xs) n m k gs earlier e (suc i) r h =
        segment xs (n + loops_within f.body) (m + loops_within (function_with_tiles c f).body) (k + 1) gs (earlier ++ f.name ∷ [])
        (none_right (in_function fs taken k (is_in_set within k) gs earlier f) (in_items fs taken within (k + 1) gs (earlier ++ f.name ∷ []) xs) e) i r h

    abbrev gs : List GlobalVariable
    gs = [] ++ globals_of front

    abbrev ps : List Routine
    ps = resolve_items fs all 0 [] p

    abbrev qs : List Routine
    qs = resolve_items fs' all 0 [] q

    abbrev old_front : List Routine
    old_front = resolve_items fs all 0 [] front

    abbrev new_front : List Routine
    new_front = resolve_items fs' all 0 [] (map (item_of c) front)

    abbrev after_front : ℕ
    after_front = 0 + loops_of (map (item_of c) front)

    abbrev new_tiles : List Routine
    new_tiles = resolve_items fs' all after_front gs (tiles_from c 0 c.tiles)

    abbrev behind : ℕ
    behind = after_front + loops_of (tiles_from c 0 c.tiles)

    abbrev new_back : List Routine
    new_back = resolve_items fs' all behind gs (map (item_of c) back)

    ps_are : ps ≡ old_front ++ resolve_function fs all (0 + loops_of front) gs c.function ∷ resolve_items fs all (0 + loops_of front + loops_within c.function.body) gs back
    ps_are = items_append fs all 0 [] front (function_item c.function ∷ back)

    qs_are : qs ≡ new_front ++ (new_tiles ++ new_back)
    qs_are =
        ap (resolve_items fs' all 0 []) tiled_are ∙ items_append fs' all 0 [] (map (item_of c) front) (tiles_from c 0 c.tiles ++ map (item_of c) back)
        ∙ (λ i. new_front ++ resolve_items fs' all after_front ([] ++ plain_globals c front i) (tiles_from c 0 c.tiles ++ map (item_of c) back))
        ∙ (λ i. new_front ++ items_append fs' all after_front gs (tiles_from c 0 c.tiles) (map (item_of c) back) i)
        ∙ (λ i. new_front ++ (new_tiles ++ resolve_items fs' all behind (gs ++ globals_of_tiles c 0 c.tiles i) (map (item_of c) back)))
        ∙ (λ i. new_front ++ (new_tiles ++ resolve_items fs' all behind (append-nil gs i) (map (item_of c) back)))

    count_old : length old_front ≡ first
    count_old = routines_count fs all 0 [] front

    count_new : length new_front ≡ first
    count_new = routines_count fs' all 0 [] (map (item_of c) front) ∙ ap length (plain_functions c front) ∙ length-map before (function_with_tiles c)

    count_new_tiles : length new_tiles ≡ c.tiles
    count_new_tiles = routines_count fs' all after_front gs (tiles_from c 0 c.tiles) ∙ ap length (functions_of_tiles c 0 c.tiles) ∙ tiles_count c 0 c.tiles

    pub function_there : slice_get ps first ≡ Some (resolve_function fs all 0 gs c.function)
    function_there =
        ap (λ rs. slice_get rs first) ps_are
        ∙ (let z : first ≡ length old_front + 0 = (let k = count_old in omega arith) in
        ap (slice_get (old_front ++ resolve_function fs all (0 + loops_of front) gs c.function ∷ resolve_items fs all
        (0 + loops_of front + loops_within c.function.body) gs back)) z)
        ∙ get_right old_front (resolve_function fs all (0 + loops_of front) gs c.function ∷ resolve_items fs all (0 + loops_of front + loops_within c.function.body) gs back) 0
        ∙ ap Some (function_any fs turns (0 + loops_of front) 0 gs c.function)

    tile_slice : (n s k m : ℕ) → k < n → slice_get (resolve_items fs' all m gs (tiles_from c s n)) k ≡ Some (resolve_function fs' all 0 gs (tile_of c (s + k)))
    tile_slice zero s k m lt = absurd (omega arith)
    tile_slice (suc n) s zero m lt = ap Some (function_any fs' turns m 0 gs (tile_of c s)) ∙ (let z : s ≡ s + 0 = omega arith in ap (λ t. Some (resolve_function fs' all 0 gs (tile_of c t))) z)
    tile_slice (suc n) s (suc k) m lt = tile_slice n (s + 1) k (m + loops_within (tile_of c s).body) (omega arith)
        ∙ (let z : s + 1 + k ≡ s + suc k = omega arith in ap (λ t. Some (resolve_function fs' all 0 gs (tile_of c t))) z)

    pub tile_there : (t : ℕ) → t < c.tiles → slice_get qs (first + t) ≡ Some (resolve_function fs' all 0 gs (tile_of c t))
    tile_there t lt =
        ap (λ rs. slice_get rs (first + t)) qs_are ∙ (let z : first + t ≡ length new_front + t = (let k = count_new in omega arith) in ap (slice_get (new_front ++ (new_tiles ++ new_back))) z)
        ∙ get_right new_front (new_tiles ++ new_back) t ∙ get_left new_tiles new_back t (let k = count_new_tiles in omega arith) ∙ tile_slice c.tiles 0 t after_front lt
        ∙ (let z : 0 + t ≡ t = omega arith in ap (λ j. Some (resolve_function fs' all 0 gs (tile_of c j))) z)

    pub other_there : in_items fs taken within 0 [] [] p ≡ [] → (g : ℕ) (r : Routine) → (g ≡ first → ⊥) → slice_get ps g ≡ Some r → Seg r (slice_get qs (renumbered first c.tiles g))
    other_there e g r other is = by (cases_lt g first)
      where
        split : in_items fs taken within 0 [] [] front ++ in_items fs taken within (0 + first) gs ([] ++ item_names front) (function_item c.function ∷ back) ≡ []
        split = sym (in_items_append fs taken within 0 [] [] front (function_item c.function ∷ back)) ∙ e

        rest : in_items fs taken within (0 + first) gs ([] ++ item_names front) (function_item c.function ∷ back) ≡ []
        rest = none_right (in_items fs taken within 0 [] [] front) (in_items fs taken within (0 + first) gs ([] ++ item_names front) (function_item c.function ∷ back)) split

        old : slice_get (old_front ++ resolve_function fs all (0 + loops_of front) gs c.function ∷ resolve_items fs all (0 + loops_of front + loops_within c.function.body) gs back) g ≡ Some r
        old = ap (λ rs. slice_get rs g) (sym ps_are) ∙ is

        by : (g < first) ⊎ (first ≤ g) → Seg r (slice_get qs (renumbered first c.tiles g))
        by (inl lt) =
            let in_front : slice_get old_front g ≡ Some r =
            sym (get_left old_front (resolve_function fs all (0 + loops_of front) gs c.function ∷ resolve_items fs all
            (0 + loops_of front + loops_within c.function.body) gs back) g (let k = count_old in omega arith)) ∙ old in
            let s = segment front 0 0 0 [] []
            (none_left (in_items fs taken within 0 [] [] front)
            (in_items fs taken within (0 + first) gs ([] ++ item_names front) (function_item c.function ∷ back)) split) g r in_front in
            record {
              globals = s.globals;
              text = s.text;
              earlier = s.earlier;
              number = s.number;
              is = s.is;
              there = (λ i. slice_get (qs_are i) (renumbered_below first c.tiles g (omega arith) i))
                  ∙ get_more new_front (new_tiles ++ new_back) g (resolve_function fs' all 0 s.globals (function_with_tiles c s.text)) s.there;
              formed = s.formed;
            }
        by (inr le) =
            let above = above_first first g other le in
            let j = g - 1 - first in
            let place : g ≡ length old_front + suc j = (let k = count_old in omega arith) in
            let in_back : slice_get (resolve_items fs all (0 + loops_of front + loops_within c.function.body) gs back) j ≡ Some r =
            sym (get_right old_front (resolve_function fs all (0 + loops_of front) gs c.function ∷ resolve_items fs all (0 + loops_of front + loops_within c.function.body) gs back) (suc j))
            ∙ ap (slice_get (old_front ++ resolve_function fs all (0 + loops_of front) gs c.function ∷ resolve_items fs all
            (0 + loops_of front + loops_within c.function.body) gs back)) (sym place) ∙ old in
            let s = segment back (0 + loops_of front + loops_within c.function.body) behind (0 + first + 1) gs ([] ++ item_names front ++ c.function.name ∷ [])
            (none_right (in_function fs taken (0 + first) (is_in_set within (0 + first)) gs ([] ++ item_names front) c.function)
            (in_items fs taken within (0 + first + 1) gs ([] ++ item_names front ++ c.function.name ∷ []) back) rest) j r in_back in
            let number : renumbered first c.tiles g ≡ length new_front + (length new_tiles + j) = renumbered_above first c.tiles g above
            ∙ (let k = count_new in let l = count_new_tiles in omega arith) in
            record {
              globals = s.globals;
              text = s.text;
              earlier = s.earlier;
              number = s.number;
              is = s.is;
              there = (λ i. slice_get (qs_are i) (number i)) ∙ get_right new_front (new_tiles ++ new_back) (length new_tiles + j) ∙ get_right new_tiles new_back j ∙ s.there;
              formed = s.formed;
            }
