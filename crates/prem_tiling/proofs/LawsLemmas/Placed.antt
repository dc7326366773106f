-- The functions of a program and of the one with tiles, by name and by number.
use Rattle.std.proofs.Common.{◌≡◌, ℕ, zero, suc, ◌+◌, ◌^◌, ◌<◌, ◌≤◌, Bool, true, false, cond, ◌||◌, List, [], ◌∷◌, ◌++◌, length, map, refl, ap, sym, ◌∙◌, arith, None, Some, option_map}
use Rattle.std.proofs.Common.{true≢false, append_assoc}
use Rattle.prem_tiling.proofs.Prelude.{number_of, has_name, in_global, in_regions, regions_of, in_heading, in_function, in_items, item_names, parameter_texts, is_in_set, globals_of}
use Rattle.prem_tiling.proofs.Prelude.{functions_of, scope_at, Twice, Text, GlobalVariable, FunctionText, ItemText, global_item, function_item, ProgramText, names_of, Cut, tile_name}
use Rattle.prem_tiling.proofs.Prelude.{tile_of, tiles_from, function_with_tiles, item_with_tiles, tiled, used_names, bytes_eq-Decides, codes, decimal, bytes_eq}
use Rattle.prem_tiling.proofs.LawsLemmas.Formed.{none_left, none_right, kept_rule}
use Rattle.prem_tiling.proofs.LawsLemmas.Lists.{names_of_functions}
use Rattle.prem_tiling.proofs.LawsLemmas.Tied.{neither_left, neither_right}
use Rattle.std.proofs.lemmas.Fmt.{decimal_injective}

-- ---- names

pub has_append : (xs ys : List Text) (w : Text) → has_name (xs ++ ys) w ≡ (has_name xs w || has_name ys w)
has_append [] ys w = refl
has_append (x ∷ xs) ys w = ap (λ b. bytes_eq x w || b) (has_append xs ys w) ∙ by (bytes_eq x w)
  where
    by : (b : Bool) → (b || (has_name xs w || has_name ys w)) ≡ ((b || has_name xs w) || has_name ys w)
    by true = refl
    by false = refl

pub has_not_left : (xs ys : List Text) (w : Text) → has_name (xs ++ ys) w ≡ false → has_name xs w ≡ false
has_not_left xs ys w e = neither_left (has_name xs w) (has_name ys w) (sym (has_append xs ys w) ∙ e)

pub has_not_right : (xs ys : List Text) (w : Text) → has_name (xs ++ ys) w ≡ false → has_name ys w ≡ false
has_not_right xs ys w e = neither_right (has_name xs w) (has_name ys w) (sym (has_append xs ys w) ∙ e)

none_either : {a b : Bool} → a ≡ false → b ≡ false → (a || b) ≡ false
none_either {a = a} {b = b} e f = ap (λ x. x || b) e ∙ f

pub flipped : (a b : Text) → bytes_eq a b ≡ false → bytes_eq b a ≡ false
flipped a b e = by (bytes_eq b a) refl
  where
    by : (t : Bool) → bytes_eq b a ≡ t → t ≡ false
    by true is = absurd (true≢false (sym ((bytes_eq-Decides a b).1 (sym ((bytes_eq-Decides b a).0 is))) ∙ e))
    by false is = refl

pub same_name : (a : Text) → bytes_eq a a ≡ true
same_name a = (bytes_eq-Decides a a).1 refl

-- names of functions are names of items
pub functions_unnamed : (xs : ProgramText) (w : Text) → has_name (item_names xs) w ≡ false → has_name (names_of_functions (functions_of xs)) w ≡ false
functions_unnamed [] w e = refl
functions_unnamed (global_item g ∷ xs) w e = functions_unnamed xs w (neither_right (bytes_eq g.name w) (has_name (item_names xs) w) e)
functions_unnamed (function_item f ∷ xs) w e =
    none_either (neither_left (bytes_eq f.name w) (has_name (item_names xs) w) e)
    (functions_unnamed xs w (neither_right (bytes_eq f.name w) (has_name (item_names xs) w) e))

pub used_not : (xs : ProgramText) (w : Text) → has_name (used_names xs) w ≡ false → has_name (names_of_functions (functions_of xs)) w ≡ false
used_not [] w e = refl
used_not (global_item g ∷ xs) w e = used_not xs w (neither_right (bytes_eq g.name w) (has_name (used_names xs) w) e)
used_not (function_item f ∷ xs) w e =
    let rest = neither_right (bytes_eq f.name w) (has_name (parameter_texts f.params ++ (names_of f.locals ++ used_names xs)) w) e in
    none_either (neither_left (bytes_eq f.name w) (has_name (parameter_texts f.params ++ (names_of f.locals ++ used_names xs)) w) e)
    (used_not xs w (has_not_right (names_of f.locals) (used_names xs) w (has_not_right (parameter_texts f.params) (names_of f.locals ++ used_names xs) w rest)))

-- ---- names that come once

pub heading_of : (fs : List FunctionText) (taken : List Text) (n : ℕ) (within : Bool) (gs : List GlobalVariable) (earlier : List Text)
    (f : FunctionText) → in_function fs taken n within gs earlier f ≡ [] → in_heading earlier f ≡ []
heading_of fs taken n within gs earlier f e =
    none_right (in_regions (scope_at fs gs f) (regions_of f.mark)) (in_heading earlier f) (none_left _ _ (none_left _ _ (none_left _ _ (none_left _ _ e))))

pub not_earlier : (earlier : List Text) (f : FunctionText) → in_heading earlier f ≡ [] → has_name earlier f.name ≡ false
not_earlier earlier f e = kept_rule (has_name earlier f.name) f.at (Twice f.name) (none_left _ _ (none_left _ _ (none_left _ _ (none_left _ _ e))))

pub later_apart : (fs : List FunctionText) (taken : List Text) (within : List Bool) (n : ℕ) (gs : List GlobalVariable) (earlier : List Text)
    (xs : ProgramText) (w : Text) → in_items fs taken within n gs earlier xs ≡ [] → has_name earlier w ≡ true →
    has_name (names_of_functions (functions_of xs)) w ≡ false
later_apart fs taken within n gs earlier [] w e has = refl
later_apart fs taken within n gs earlier (global_item g ∷ xs) w e has =
    later_apart fs taken within n (gs ++ g ∷ []) (earlier ++ g.name ∷ []) xs w
    (none_right (in_global earlier g) (in_items fs taken within n (gs ++ g ∷ []) (earlier ++ g.name ∷ []) xs) e)
    (has_append earlier (g.name ∷ []) w ∙ ap (λ b. b || has_name (g.name ∷ []) w) has)
later_apart fs taken within n gs earlier (function_item f ∷ xs) w e has =
    let here = none_left (in_function fs taken n (is_in_set within n) gs earlier f) (in_items fs taken within (n + 1) gs (earlier ++ f.name ∷ []) xs) e in
    none_either (by (bytes_eq f.name w) refl (not_earlier earlier f (heading_of fs taken n (is_in_set within n) gs earlier f here)))
    (later_apart fs taken within (n + 1) gs (earlier ++ f.name ∷ []) xs w
    (none_right (in_function fs taken n (is_in_set within n) gs earlier f) (in_items fs taken within (n + 1) gs (earlier ++ f.name ∷ []) xs) e)
    (has_append earlier (f.name ∷ []) w ∙ ap (λ b. b || has_name (f.name ∷ []) w) has))
  where
    by : (t : Bool) → bytes_eq f.name w ≡ t → has_name earlier f.name ≡ false → t ≡ false
    by true is no_ = absurd (true≢false (sym has ∙ ap (has_name earlier) (sym ((bytes_eq-Decides f.name w).0 is)) ∙ no_))
    by false is no_ = refl

-- ---- parts with tiles

abbrev pub item_of : Cut → ItemText → ItemText
item_of c (global_item g) = global_item g
item_of c (function_item f) = function_item (function_with_tiles c f)

pub tiled_append : (c : Cut) (xs ys : ProgramText) → tiled c (xs ++ ys) ≡ tiled c xs ++ tiled c ys
tiled_append c [] ys = refl
tiled_append c (x ∷ xs) ys = ap (λ zs. item_with_tiles c x ++ zs) (tiled_append c xs ys) ∙ sym (append_assoc (item_with_tiles c x) (tiled c xs) (tiled c ys))

-- a part without the function
pub plain_part : (c : Cut) (xs : ProgramText) → has_name (names_of_functions (functions_of xs)) c.function.name ≡ false → tiled c xs ≡ map (item_of c) xs
plain_part c [] e = refl
plain_part c (global_item g ∷ xs) e = ap (λ ys. global_item g ∷ ys) (plain_part c xs e)
plain_part c (function_item f ∷ xs) e =
    let other = neither_left (bytes_eq f.name c.function.name) (has_name (names_of_functions (functions_of xs)) c.function.name) e in
    ap (λ b. cond b (tiles_from c 0 c.tiles) (function_item (function_with_tiles c f) ∷ []) ++ tiled c xs) other
    ∙ ap (λ ys. function_item (function_with_tiles c f) ∷ ys) (plain_part c xs (neither_right (bytes_eq f.name c.function.name) (has_name (names_of_functions (functions_of xs)) c.function.name) e))

pub tiles_there : (c : Cut) → item_with_tiles c (function_item c.function) ≡ tiles_from c 0 c.tiles
tiles_there c = ap (λ b. cond b (tiles_from c 0 c.tiles) (function_item (function_with_tiles c c.function) ∷ [])) (same_name c.function.name)

pub plain_functions : (c : Cut) (xs : ProgramText) → functions_of (map (item_of c) xs) ≡ map (function_with_tiles c) (functions_of xs)
plain_functions c [] = refl
plain_functions c (global_item g ∷ xs) = plain_functions c xs
plain_functions c (function_item f ∷ xs) = ap (λ fs. function_with_tiles c f ∷ fs) (plain_functions c xs)

pub plain_globals : (c : Cut) (xs : ProgramText) → globals_of (map (item_of c) xs) ≡ globals_of xs
plain_globals c [] = refl
plain_globals c (global_item g ∷ xs) = ap (λ gs. g ∷ gs) (plain_globals c xs)
plain_globals c (function_item f ∷ xs) = plain_globals c xs

pub plain_names : (c : Cut) (fs : List FunctionText) → names_of_functions (map (function_with_tiles c) fs) ≡ names_of_functions fs
plain_names c [] = refl
plain_names c (f ∷ fs) = ap (λ ns. f.name ∷ ns) (plain_names c fs)

-- ---- the tiles

abbrev pub tile_functions : Cut → ℕ → ℕ → List FunctionText
tile_functions c t zero = []
tile_functions c t (suc n) = tile_of c t ∷ tile_functions c (t + 1) n

pub functions_of_tiles : (c : Cut) (t n : ℕ) → functions_of (tiles_from c t n) ≡ tile_functions c t n
functions_of_tiles c t zero = refl
functions_of_tiles c t (suc n) = ap (λ fs. tile_of c t ∷ fs) (functions_of_tiles c (t + 1) n)

pub globals_of_tiles : (c : Cut) (t n : ℕ) → globals_of (tiles_from c t n) ≡ []
globals_of_tiles c t zero = refl
globals_of_tiles c t (suc n) = globals_of_tiles c (t + 1) n

pub tiles_count : (c : Cut) (t n : ℕ) → length (tile_functions c t n) ≡ n
tiles_count c t zero = refl
tiles_count c t (suc n) = ap suc (tiles_count c (t + 1) n)

tail_of : (x : ℕ) (xs ys : List ℕ) → x ∷ xs ≡ x ∷ ys → xs ≡ ys
tail_of x xs ys e = cc

cancelled : (xs ys zs : List ℕ) → xs ++ ys ≡ xs ++ zs → ys ≡ zs
cancelled [] ys zs e = e
cancelled (x ∷ xs) ys zs e = cancelled xs ys zs (tail_of x (xs ++ ys) (xs ++ zs) e)

pub tile_names_apart : (name : Text) (s t : ℕ) → s < 2 ^ 64 → t < 2 ^ 64 → (s ≡ t → ⊥) → bytes_eq (tile_name name s) (tile_name name t) ≡ false
tile_names_apart name s t low high apart = by (bytes_eq (tile_name name s) (tile_name name t)) refl
  where
    by : (b : Bool) → bytes_eq (tile_name name s) (tile_name name t) ≡ b → b ≡ false
    by true is =
        let same = (bytes_eq-Decides (tile_name name s) (tile_name name t)).0 is in
        absurd (apart (decimal_injective s t low high (cancelled (codes "_t") (decimal s) (decimal t) (cancelled name (codes "_t" ++ decimal s) (codes "_t" ++ decimal t) same))))
    by false is = refl

-- the number of a tile among tiles from s on
pub tile_number : (c : Cut) (n s k : ℕ) → s + n < 2 ^ 64 → k < n → number_of (names_of_functions (tile_functions c s n)) (tile_name c.function.name (s + k)) ≡ Some k
tile_number c zero s k small lt = absurd (omega arith)
tile_number c (suc n) s zero small lt =
    let e : s + 0 ≡ s = omega arith in
    ap (λ b. cond b (Some 0) (option_map suc (number_of (names_of_functions (tile_functions c (s + 1) n)) (tile_name c.function.name (s + 0)))))
    (ap (λ j. bytes_eq (tile_name c.function.name s) (tile_name c.function.name j)) e ∙ same_name (tile_name c.function.name s))
tile_number c (suc n) s (suc k) small lt =
    let e : s + suc k ≡ s + 1 + k = omega arith in
    ap (λ b. cond b (Some 0) (option_map suc (number_of (names_of_functions (tile_functions c (s + 1) n)) (tile_name c.function.name (s + suc k)))))
    (tile_names_apart c.function.name s (s + suc k) (omega arith) (omega arith) (λ same. omega arith))
    ∙ ap (option_map suc) (ap (λ j. number_of (names_of_functions (tile_functions c (s + 1) n)) (tile_name c.function.name j)) e ∙ tile_number c n (s + 1) k (omega arith) (omega arith))

-- a name that no tile has
pub no_tile : (c : Cut) (n s : ℕ) (w : Text) → ((t : ℕ) → s ≤ t → t < s + n → bytes_eq (tile_name c.function.name t) w ≡ false) → number_of (names_of_functions (tile_functions c s n)) w ≡ None
no_tile c zero s w apart = refl
no_tile c (suc n) s w apart =
    ap (λ b. cond b (Some 0) (option_map suc (number_of (names_of_functions (tile_functions c (s + 1) n)) w))) (apart s (omega arith) (omega arith))
    ∙ ap (option_map suc) (no_tile c n (s + 1) w (λ t low high. apart t (omega arith) (omega arith)))
