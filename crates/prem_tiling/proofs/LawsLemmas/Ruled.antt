-- A program with tiles breaks no rule.
use Rattle.std.proofs.Common.{◌≡◌, ℕ, zero, suc, ◌+◌, ◌-◌, ◌<◌, ◌≤◌, Bool, true, false, not, ◌&&◌, ◌||◌, List, [], ◌∷◌, ◌++◌, length, map, refl, ap, sym, ◌∙◌, subst, arith, Option, None}
use Rattle.std.proofs.Common.{Some, option_map, eqb, is_some, is_none, ◌⊎◌, inl, inr, ⊎_elim, true≢false, append_assoc, slice_index_or, IsTrue}
use Rattle.prem_tiling.proofs.Prelude.{Around, around, if_at, if_broken, is_job_name, is_marked_text, is_narrow, is_void, is_loop, in_names, in_expression, in_regions, regions_of}
use Rattle.prem_tiling.proofs.Prelude.{in_heading, in_parameters, in_locals, in_statement, in_statements, in_option, parameter_texts, callees, callees_within, in_function, in_items}
use Rattle.prem_tiling.proofs.Prelude.{item_name, item_names, in_limits, has_name, breaches, reached, table_of, first_breach, IsWellFormed, has_number, is_in_set, reached_by, Scope}
use Rattle.prem_tiling.proofs.Prelude.{scope_at, scope_in, globals_of, functions_of, Breach, NoJob, Twice, OfTypes, LoopForm, first_of, Text, MarkText, GlobalVariable, FunctionText}
use Rattle.prem_tiling.proofs.Prelude.{global_item, function_item, ProgramText, CanCut, renumbered, names_of, Loop, Cut, tile_name, tile_names, tile_mark, tile_of, tiles_from}
use Rattle.prem_tiling.proofs.Prelude.{function_with_tiles, tiled, used_names, cases_eq, append-nil, length-map, bytes_eq-Decides, list_any, codes, slice_get, bytes_eq}
use Rattle.prem_tiling.proofs.LawsLemmas.Callees.{row_of, of_row, mark_of, of_mark, Placed, placed, body_formed, all_callees_before, all_callees_moved, calls_nothing}
use Rattle.prem_tiling.proofs.LawsLemmas.Calls.{renumbered_below, renumbered_above, renumbered_apart, renumbered_no_tile}
use Rattle.prem_tiling.proofs.LawsLemmas.Formed.{none_left, none_right, none_both, kept_rule, IsLoop}
use Rattle.prem_tiling.proofs.LawsLemmas.Found.{FromTile, FromOther, origin, kept as functions_kept}
use Rattle.prem_tiling.proofs.LawsLemmas.Limits.{none_either}
use Rattle.prem_tiling.proofs.LawsLemmas.Lists.{names_of_functions, in_items_append, split_at}
use Rattle.prem_tiling.proofs.LawsLemmas.Moved.{Fresh, fresh_all, NoTiles, locals_moved, items_moved}
use Rattle.prem_tiling.proofs.LawsLemmas.Placed.{has_append, has_not_left, has_not_right, flipped, used_not, item_of, plain_functions, plain_globals, tile_functions, functions_of_tiles}
use Rattle.prem_tiling.proofs.LawsLemmas.Placed.{globals_of_tiles, tiles_count, tile_names_apart}
use Rattle.prem_tiling.proofs.LawsLemmas.Quiet.{quiet, regions_quiet}
use Rattle.prem_tiling.proofs.LawsLemmas.Reached.{Old, IsTile, reached_before, later_to}
use Rattle.prem_tiling.proofs.LawsLemmas.Rules.{Kept, unbroken, names_formed, form_kept, same_of_parts}
use Rattle.prem_tiling.proofs.LawsLemmas.Shapes.{IsShape, low_end, high_end}
use Rattle.prem_tiling.proofs.LawsLemmas.Standing.{item_breaches, IsMarkedOne}
use Rattle.prem_tiling.proofs.LawsLemmas.Tied.{neither_left, neither_right, either_right}
use Rattle.prem_tiling.proofs.LawsLemmas.Whole.{functions_are, tiled_are, functions_tiled}
use Rattle.prem_syntax.specs.declared.rules.TypeRule.TheVariants as rule
use Rattle.prem_tiling.proofs.LawsLemmas.Law as law
use Rattle.prem_tiling.proofs.LawsLemmas.Standing as standing

-- ---- names of items

names_append : (xs ys : ProgramText) → item_names (xs ++ ys) ≡ item_names xs ++ item_names ys
names_append [] ys = refl
names_append (x ∷ xs) ys = ap (λ ns. item_name x ∷ ns) (names_append xs ys)

names_kept : (c : Cut) (xs : ProgramText) → item_names (map (item_of c) xs) ≡ item_names xs
names_kept c [] = refl
names_kept c (global_item g ∷ xs) = ap (λ ns. g.name ∷ ns) (names_kept c xs)
names_kept c (function_item f ∷ xs) = ap (λ ns. f.name ∷ ns) (names_kept c xs)

names_of_tiles : (c : Cut) (t n : ℕ) → item_names (tiles_from c t n) ≡ tile_names c.function.name t n
names_of_tiles c t zero = refl
names_of_tiles c t (suc n) = ap (λ ns. tile_name c.function.name t ∷ ns) (names_of_tiles c (t + 1) n)

used_append : (xs ys : ProgramText) → used_names (xs ++ ys) ≡ used_names xs ++ used_names ys
used_append [] ys = refl
used_append (global_item g ∷ xs) ys = ap (λ ns. g.name ∷ ns) (used_append xs ys)
used_append (function_item f ∷ xs) ys =
    ap (λ ns. f.name ∷ (parameter_texts f.params ++ (names_of f.locals ++ ns))) (used_append xs ys)
    ∙ ap (λ ns. f.name ∷ ns) (ap (λ ns. parameter_texts f.params ++ ns) (sym (append_assoc (names_of f.locals) (used_names xs) (used_names ys)))
    ∙ sym (append_assoc (parameter_texts f.params) (names_of f.locals ++ used_names xs) (used_names ys)))

-- a name that no tile has isn't among the names of tiles
not_tiles : (name : Text) (x : Text) (n t : ℕ) → ((k : ℕ) → t ≤ k → k < t + n → bytes_eq x (tile_name name k) ≡ false) → has_name (tile_names name t n) x ≡ false
not_tiles name x zero t apart = refl
not_tiles name x (suc n) t apart = none_either (flipped x (tile_name name t) (apart t (omega arith) (omega arith))) (not_tiles name x n (t + 1) (λ k low high. apart k (omega arith) (omega arith)))

-- ---- a set of functions

members : (fs : List FunctionText) (n : ℕ) → is_in_set (map is_marked_text fs) n ≡ true → is_in_set (reached fs) n ≡ true
members fs n e = later_to (table_of fs) (map is_marked_text fs) 0 (length fs) n (omega arith) e

module _ (c : Cut) (front back : ProgramText) (can : CanCut (front ++ function_item c.function ∷ back) c) (formed : IsWellFormed (front ++ function_item c.function ∷ back)) where
  abbrev f : FunctionText
  f = c.function

  abbrev l : Loop
  l = c.loop

  abbrev p : ProgramText
  p = front ++ function_item f ∷ back

  abbrev q : ProgramText
  q = tiled c p

  abbrev first : ℕ
  first = length (functions_of front)

  abbrev fs : List FunctionText
  fs = functions_of p

  abbrev fs' : List FunctionText
  fs' = functions_of q

  abbrev taken : List Text
  taken = item_names p

  abbrev taken' : List Text
  taken' = item_names q

  abbrev within : List Bool
  within = reached fs

  abbrev within' : List Bool
  within' = reached fs'

  abbrev gs : List GlobalVariable
  gs = [] ++ globals_of front

  abbrev earlier : List Text
  earlier = [] ++ item_names front

  some : 0 < c.tiles
  some = let s = can.several in omega arith

  shape : IsShape f l
  shape = standing.shape c front back can.shape formed

  one : IsMarkedOne f
  one = standing.one c front back can.shape formed

  free : (t : ℕ) → t < c.tiles → has_name (used_names p) (tile_name f.name t) ≡ false
  free = law.free c front back can formed

  marked : is_marked_text f ≡ true
  marked = shape.marked

  old_are : fs ≡ functions_of front ++ f ∷ functions_of back
  old_are = functions_are c front back can.several can.few (standing.front_apart c front back can.shape formed) (standing.back_apart c front back can.shape formed) free shape.no_parameters one.void

  new_are : fs' ≡ map (function_with_tiles c) (functions_of front) ++ (tile_functions c 0 c.tiles ++ map (function_with_tiles c) (functions_of back))
  new_are = functions_tiled c front back can.several can.few (standing.front_apart c front back can.shape formed) (standing.back_apart c front back can.shape formed) free shape.no_parameters one.void

  items_are : q ≡ map (item_of c) front ++ (tiles_from c 0 c.tiles ++ map (item_of c) back)
  items_are = tiled_are c front back can.several can.few (standing.front_apart c front back can.shape formed) (standing.back_apart c front back can.shape formed) free shape.no_parameters one.void

  kept : Kept c first fs fs'
  kept = functions_kept c (functions_of front) (functions_of back) fs fs' old_are new_are (law.names c front back can formed) marked

  -- ---- what marked functions reach

  at_number : (n : ℕ) (h : FunctionText) → slice_get fs n ≡ Some h → Placed fs taken within n h
  at_number n h is = let z : 0 + n ≡ n = omega arith in subst (λ k. Placed fs taken within k h) z (placed fs taken within 0 [] [] p (item_breaches p formed) n h is)

  before : (m n : ℕ) → has_number (slice_index_or (table_of fs) m []) n ≡ true → n < m
  before m n e =
      let r = row_of fs fs m n e in
      let s = at_number m r.text r.stands in
      all_callees_before (around (scope_in fs s.globals r.text) m (is_in_set within m) r.text) r.text.body (body_formed fs taken m (is_in_set within m) s.globals s.earlier r.text s.formed) n r.calls

  from_where : (j : ℕ) (h : FunctionText) → slice_get fs' j ≡ Some h →
      FromTile c (functions_of front) (functions_of back) fs fs' old_are new_are j h
      ⊎ FromOther c (functions_of front) (functions_of back) fs fs' old_are new_are j h
  from_where = origin c (functions_of front) (functions_of back) fs fs' old_are new_are

  starts : (j : ℕ) → is_in_set (map is_marked_text fs') j ≡ true → IsTile first c.tiles j ⊎ Old first c.tiles (λ n. is_in_set (map is_marked_text fs) n ≡ true) j
  starts j e = let m = mark_of fs' j e in by m.0 m.1 m.2 (from_where j m.0 m.1)
    where
      by : (h : FunctionText) → slice_get fs' j ≡ Some h → is_marked_text h ≡ true →
          FromTile c (functions_of front) (functions_of back) fs fs' old_are new_are j h
          ⊎ FromOther c (functions_of front) (functions_of back) fs fs' old_are new_are j h →
          IsTile first c.tiles j ⊎ Old first c.tiles (λ n. is_in_set (map is_marked_text fs) n ≡ true) j
      by h is mark (inl t) = let p = t.place in let w = t.within in inl ((let x : first ≤ j = omega arith in x), (let y : j < first + c.tiles = omega arith in y))
      by h is mark (inr o) = inr (record { number = o.number; other = o.other; is = o.place; fact = of_mark fs o.number o.text o.stands (ap is_marked_text (sym o.same) ∙ mark) })

  calls : (m' n' : ℕ) → has_number (slice_index_or (table_of fs') m' []) n' ≡ true →
      Old first c.tiles (λ m. IsTile first c.tiles n' ⊎ Old first c.tiles (λ n. has_number (slice_index_or (table_of fs) m []) n ≡ true) n') m'
  calls m' n' e = let r = row_of fs' fs' m' n' e in by r.text r.stands r.calls (from_where m' r.text r.stands)
    where
      with_row : (m : ℕ) (h : FunctionText) → slice_get fs m ≡ Some h →
          IsTile first c.tiles n' ⊎ Old first c.tiles (λ n. has_number (callees_within fs h.body) n ≡ true) n' →
          IsTile first c.tiles n' ⊎ Old first c.tiles (λ n. has_number (slice_index_or (table_of fs) m []) n ≡ true) n'
      with_row m h is (inl t) = inl t
      with_row m h is (inr o) = inr (record { number = o.number; other = o.other; is = o.is; fact = of_row fs fs m o.number h is o.fact })

      quiet_tile : (t : ℕ) → has_number (callees_within fs' (tile_of c t).body) n' ≡ true → ⊥
      quiet_tile t h = calls_nothing fs' l.body shape.uncalled n' (ap (λ ks. has_number ks n') (sym (append-nil (callees fs' l.body))) ∙ h)

      by : (h : FunctionText) → slice_get fs' m' ≡ Some h → has_number (callees_within fs' h.body) n' ≡ true →
          FromTile c (functions_of front) (functions_of back) fs fs' old_are new_are m' h
          ⊎ FromOther c (functions_of front) (functions_of back) fs fs' old_are new_are m' h →
          Old first c.tiles (λ m. IsTile first c.tiles n' ⊎ Old first c.tiles (λ n. has_number (slice_index_or (table_of fs) m []) n ≡ true) n') m'
      by h is has (inl t) = absurd (quiet_tile t.t (ap (λ (x : FunctionText). has_number (callees_within fs' x.body) n') (sym t.same) ∙ has))
      by h is has (inr o) =
          let s = at_number o.number o.text o.stands in
          let place = around (scope_in fs s.globals o.text) o.number (is_in_set within o.number) o.text in
          let moved = all_callees_moved c first place fs' kept o.text.body
          (body_formed fs taken o.number (is_in_set within o.number) s.globals s.earlier o.text s.formed) n'
          (ap (λ (x : FunctionText). has_number (callees_within fs' x.body) n') (sym o.same) ∙ has) in
          record { number = o.number; other = o.other; is = o.place; fact = with_row o.number o.text o.stands moved }

  no_tile : (m : ℕ) → (m ≡ first → ⊥) → IsTile first c.tiles (renumbered first c.tiles m) → ⊥
  no_tile m other t = let a = t.0 in let b = t.1 in
      ⊎_elim (λ (lt : renumbered first c.tiles m < first). omega arith) (λ (le : first + c.tiles ≤ renumbered first c.tiles m). omega arith)
      (renumbered_no_tile first c.tiles m other)

  alone : (m n : ℕ) → (m ≡ first → ⊥) → (n ≡ first → ⊥) → renumbered first c.tiles m ≡ renumbered first c.tiles n → m ≡ n
  alone m n other other_n same = ⊎_elim (λ (is : m ≡ n). is) (λ (apart : m ≡ n → ⊥). absurd (renumbered_apart first c.tiles m n some other other_n apart same)) (cases_eq m n)

  lighter : (n : ℕ) → (n ≡ first → ⊥) → is_in_set within' (renumbered first c.tiles n) ≡ true → is_in_set within n ≡ true
  lighter n other e = by (reached_before first c.tiles (table_of fs) (table_of fs') (map is_marked_text fs) (map is_marked_text fs')
      before starts calls no_tile alone (length fs') (renumbered first c.tiles n) e)
    where
      by : IsTile first c.tiles (renumbered first c.tiles n)
          ⊎ Old first c.tiles (λ m. is_in_set (reached_by (table_of fs) (map is_marked_text fs) (length (map is_marked_text fs))) m ≡ true)
          (renumbered first c.tiles n) → is_in_set within n ≡ true
      by (inl t) = absurd (no_tile n other t)
      by (inr o) =
          let same : n ≡ o.number = alone n o.number other o.other o.is in
          ap (λ k. is_in_set (reached_by (table_of fs) (map is_marked_text fs) k) n) (sym (length-map fs is_marked_text))
          ∙ ap (is_in_set (reached_by (table_of fs) (map is_marked_text fs) (length (map is_marked_text fs)))) same ∙ o.fact

  -- ---- names

  new_names : taken' ≡ item_names front ++ (tile_names f.name 0 c.tiles ++ item_names back)
  new_names =
      ap item_names items_are ∙ names_append (map (item_of c) front) (tiles_from c 0 c.tiles ++ map (item_of c) back)
      ∙ (λ i. names_kept c front i ++ names_append (tiles_from c 0 c.tiles) (map (item_of c) back) i)
      ∙ (λ i. item_names front ++ (names_of_tiles c 0 c.tiles i ++ names_kept c back i))

  fresh : Fresh c taken taken'
  fresh x e apart =
      let old = ap (λ ns. has_name ns x) (sym (names_append front (function_item f ∷ back))) ∙ e in
      let behind = has_not_right (item_names front) (f.name ∷ item_names back) x old in
      ap (λ ns. has_name ns x) new_names ∙ has_append (item_names front) (tile_names f.name 0 c.tiles ++ item_names back) x
      ∙ none_either (has_not_left (item_names front) (f.name ∷ item_names back) x old)
      (has_append (tile_names f.name 0 c.tiles) (item_names back) x
      ∙ none_either (not_tiles f.name x c.tiles 0 (λ k low high. apart k (omega arith)))
      (neither_right (bytes_eq f.name x) (has_name (item_names back) x) behind))

  used_parts : (t : ℕ) → t < c.tiles → has_name (used_names front ++ used_names (function_item f ∷ back)) (tile_name f.name t) ≡ false
  used_parts t lt = ap (λ ns. has_name ns (tile_name f.name t)) (sym (used_append front (function_item f ∷ back))) ∙ free t lt

  front_free : NoTiles c (used_names front)
  front_free t lt = has_not_left (used_names front) (used_names (function_item f ∷ back)) (tile_name f.name t) (used_parts t lt)

  own_free : (t : ℕ) → t < c.tiles → has_name (parameter_texts f.params ++ (names_of f.locals ++ used_names back)) (tile_name f.name t) ≡ false
  own_free t lt = neither_right (bytes_eq f.name (tile_name f.name t))
      (has_name (parameter_texts f.params ++ (names_of f.locals ++ used_names back)) (tile_name f.name t))
      (has_not_right (used_names front) (used_names (function_item f ∷ back)) (tile_name f.name t) (used_parts t lt))

  behind_free : (t : ℕ) → t < c.tiles → has_name (names_of f.locals ++ used_names back) (tile_name f.name t) ≡ false
  behind_free t lt = has_not_right (parameter_texts f.params) (names_of f.locals ++ used_names back) (tile_name f.name t) (own_free t lt)

  locals_free : NoTiles c (names_of f.locals)
  locals_free t lt = has_not_left (names_of f.locals) (used_names back) (tile_name f.name t) (behind_free t lt)

  back_free : NoTiles c (used_names back)
  back_free t lt = has_not_right (names_of f.locals) (used_names back) (tile_name f.name t) (behind_free t lt)

  items_free : (t : ℕ) → t < c.tiles → has_name (item_names front) (tile_name f.name t) ≡ false
  items_free t lt = by front (front_free t lt)
    where
      by : (xs : ProgramText) → has_name (used_names xs) (tile_name f.name t) ≡ false → has_name (item_names xs) (tile_name f.name t) ≡ false
      by [] e = refl
      by (global_item g ∷ xs) e = none_either (neither_left (bytes_eq g.name (tile_name f.name t)) (has_name (used_names xs) (tile_name f.name t)) e)
          (by xs (neither_right (bytes_eq g.name (tile_name f.name t)) (has_name (used_names xs) (tile_name f.name t)) e))
      by (function_item h ∷ xs) e =
          let later = has_name (parameter_texts h.params ++ (names_of h.locals ++ used_names xs)) (tile_name f.name t) in
          none_either (neither_left (bytes_eq h.name (tile_name f.name t)) later e)
          (by xs (has_not_right (names_of h.locals) (used_names xs) (tile_name f.name t)
          (has_not_right (parameter_texts h.params) (names_of h.locals ++ used_names xs) (tile_name f.name t)
          (neither_right (bytes_eq h.name (tile_name f.name t)) later e))))

  -- ---- items before and behind

  old_front : in_items fs taken within 0 [] [] front ≡ []
  old_front = none_left (in_items fs taken within 0 [] [] front) (in_items fs taken within (0 + first) gs earlier (function_item f ∷ back))
      (sym (in_items_append fs taken within 0 [] [] front (function_item f ∷ back)) ∙ item_breaches p formed)

  new_front : in_items fs' taken' within' 0 [] [] (map (item_of c) front) ≡ []
  new_front = subst (λ n. in_items fs' taken' within' n [] [] (map (item_of c) front) ≡ []) (renumbered_below first c.tiles 0 (omega arith))
      (items_moved c first fs fs' taken taken' within within' some kept fresh front 0 [] [] [] (inl (omega arith)) lighter (λ x e apart. e)
      front_free old_front)

  old_back : in_items fs taken within (0 + first + 1) gs (earlier ++ f.name ∷ []) back ≡ []
  old_back = none_right (in_function fs taken (0 + first) (is_in_set within (0 + first)) gs earlier f)
      (in_items fs taken within (0 + first + 1) gs (earlier ++ f.name ∷ []) back) (standing.rest c front back can.shape formed)

  later_fresh : Fresh c (earlier ++ f.name ∷ []) (earlier ++ tile_names f.name 0 c.tiles)
  later_fresh x e apart =
      has_append earlier (tile_names f.name 0 c.tiles) x ∙ none_either (has_not_left earlier (f.name ∷ []) x e) (not_tiles f.name x c.tiles 0 (λ k low high. apart k (omega arith)))

  new_back : in_items fs' taken' within' (0 + first + c.tiles) gs (earlier ++ tile_names f.name 0 c.tiles) (map (item_of c) back) ≡ []
  new_back =
      subst (λ n. in_items fs' taken' within' n gs (earlier ++ tile_names f.name 0 c.tiles) (map (item_of c) back) ≡ [])
      (renumbered_above first c.tiles (0 + first + 1) (omega arith) ∙ (let z : 0 + first + 1 - 1 + c.tiles ≡ 0 + first + c.tiles = omega arith in z))
      (items_moved c first fs fs' taken taken' within within' some kept fresh back (0 + first + 1) gs (earlier ++ f.name ∷ [])
      (earlier ++ tile_names f.name 0 c.tiles) (inr (omega arith)) lighter later_fresh back_free old_back)

  -- ---- the tiles

  abbrev place : Around
  place = around (scope_in fs gs f) (0 + first) (is_in_set within (0 + first)) f

  within_marked : is_in_set within (0 + first) ≡ true
  within_marked = let z : first ≡ 0 + first = omega arith in ap (is_in_set within) (sym z)
      ∙ members fs first (of_mark fs first f (ap (λ xs. slice_get xs first) old_are ∙ there (functions_of front)) marked)
    where
      there : (xs : List FunctionText) → slice_get (xs ++ f ∷ functions_of back) (length xs) ≡ Some f
      there [] = refl
      there (x ∷ xs) = there xs

  abbrev scope : Scope
  scope = scope_in fs gs f

  body_is_formed : in_statement place l.body ≡ []
  body_is_formed =
      none_right (in_names l.at scope l.names ++ if_at (not (is_loop scope l.names (low_end l) (high_end l) l.step l.body)) l.at LoopForm
      ++ in_expression scope (low_end l) ++ in_expression scope (high_end l)) (in_statement place l.body)
      (standing.loop_formed c front back can.shape formed)

  is_a_loop : IsLoop scope l.names (low_end l) (high_end l) l.step l.body
  is_a_loop = standing.is_a_loop c front back can.shape formed

  loop_is : is_loop scope l.names (low_end l) (high_end l) l.step l.body ≡ true
  loop_is = standing.loop_is c front back can.shape formed

  module _ (t : ℕ) (lt : t < c.tiles) (number : ℕ) (earlier' : List Text) (new : has_name earlier' (tile_name f.name t) ≡ false) where
    abbrev there : Around
    there = around (scope_in fs' gs (tile_of c t)) number (is_in_set within' number) (tile_of c t)

    tile_statements : in_statements there (tile_of c t).body ≡ []
    tile_statements =
        none_both (none_both (none_both (none_both (none_both (names_formed fs' scope l.at l.names (same_of_parts scope l.names (low_end l) (high_end l) l.step l.body loop_is) is_a_loop.variable)
        (unbroken (not (is_loop there.scope l.names (low_end l) (high_end l) l.step l.body)) l.at LoopForm
        (ap not (form_kept fs' scope l.names (low_end l) (high_end l) l.step l.body l.body refl loop_is)))) refl) refl)
        (quiet place there fs' refl (λ e. within_marked) l.body shape.uncalled body_is_formed)) refl

    named_job : is_job_name (tile_name f.name t) ≡ false
    named_job = by (is_job_name (tile_name f.name t)) refl
      where
        by : (b : Bool) → is_job_name (tile_name f.name t) ≡ b → b ≡ false
        by false is = refl
        by true is =
            let same = (bytes_eq-Decides (tile_name f.name t) (codes "job")).0 is in
            let no_ : has_name (names_of_functions fs) (codes "job") ≡ false = ap (has_name (names_of_functions fs)) (sym same) ∙ used_not p (tile_name f.name t) (free t lt) in
            absurd (true≢false (sym (listed fs (law.job_listed c front back can formed)) ∙ no_))
          where
            listed : (hs : List FunctionText) → list_any (λ (h : FunctionText). is_job_name h.name) hs ≡ true → has_name (names_of_functions hs) (codes "job") ≡ true
            listed [] e = e
            listed (h ∷ hs) e = on (is_job_name h.name) e (listed hs)
              where
                on : (b : Bool) → (b || list_any (λ (h : FunctionText). is_job_name h.name) hs) ≡ true →
                    (list_any (λ (h : FunctionText). is_job_name h.name) hs ≡ true → has_name (names_of_functions hs) (codes "job") ≡ true) →
                    (b || has_name (names_of_functions hs) (codes "job")) ≡ true
                on true k next = refl
                on false k next = next k

    tile_heading : in_heading earlier' (tile_of c t) ≡ []
    tile_heading =
        let h = tile_of c t in
        none_both (none_both (none_both (none_both (unbroken (has_name earlier' h.name) h.at (Twice h.name) new)
        (unbroken (is_narrow h.ty) h.at (OfTypes rule.Narrow) (kept_rule (is_narrow f.ty) f.at (OfTypes rule.Narrow) narrow)))
        (unbroken ((is_void h.ty && is_some h.result) || (not (is_void h.ty) && is_none h.result)) h.at (OfTypes rule.Return)
        (λ i. (one.void i && is_some (one.no_result i)) || (not (one.void i) && is_none (one.no_result i)))))
        (unbroken (is_marked_text h && (not (is_void h.ty) || is_job_name h.name)) h.at (OfTypes rule.Marked)
        ((λ i. is_marked_text h && (not (one.void i) || named_job i)) ∙ and_false (is_marked_text h))))
        (unbroken (is_job_name h.name && not (is_void h.ty && eqb (length h.params) 0)) h.at (OfTypes rule.Job) (ap (λ b. b && not (is_void h.ty && eqb (length h.params) 0)) named_job))
      where
        and_false : (b : Bool) → (b && false) ≡ false
        and_false true = refl
        and_false false = refl

        twice : List Breach
        twice = if_at (has_name earlier f.name) f.at (Twice f.name)

        narrow : if_at (is_narrow f.ty) f.at (OfTypes rule.Narrow) ≡ []
        narrow = none_right twice (if_at (is_narrow f.ty) f.at (OfTypes rule.Narrow)) (none_left _ _ (none_left _ _ (none_left _ _ (standing.heading c front back can.shape formed))))

    own_parts : in_regions (scope_at fs gs f) (regions_of f.mark) ++ in_heading earlier f ++ in_parameters taken f.params
        ++ in_locals (taken ++ parameter_texts f.params) (scope_at fs gs f) f.locals ≡ []
    own_parts = none_left _ _ (none_left _ _ (standing.function_formed c front back can.shape formed))

    tile_regions : in_regions (scope_at fs' gs (tile_of c t)) (regions_of (tile_of c t).mark) ≡ []
    tile_regions = by f.mark (none_left (in_regions (scope_at fs gs f) (regions_of f.mark)) (in_heading earlier f) (none_left _ _ (none_left _ _ own_parts)))
      where
        by : (m : Option MarkText) → in_regions (scope_at fs gs f) (regions_of m) ≡ [] → in_regions (scope_at fs' gs (tile_of c t)) (regions_of (option_map (tile_mark c t) m)) ≡ []
        by None e = refl
        by (Some m) e = regions_quiet c t (scope_at fs gs f) (scope_at fs' gs (tile_of c t)) (λ name. refl) m.regions e

    tile_locals : in_locals (taken' ++ parameter_texts f.params) (scope_at fs' gs (tile_of c t)) f.locals ≡ []
    tile_locals = locals_moved c fs' (taken ++ parameter_texts f.params) (taken' ++ parameter_texts f.params) (scope_at fs gs f) f.locals
        (fresh_all c taken taken' (parameter_texts f.params) fresh) locals_free
        (none_right (in_regions (scope_at fs gs f) (regions_of f.mark) ++ in_heading earlier f ++ in_parameters taken f.params)
        (in_locals (taken ++ parameter_texts f.params) (scope_at fs gs f) f.locals) own_parts)

    tile_formed : in_function fs' taken' number (is_in_set within' number) gs earlier' (tile_of c t) ≡ []
    tile_formed = none_both (none_both
        (none_both (none_both (none_both tile_regions tile_heading) (ap (in_parameters taken') shape.no_parameters)) tile_locals) tile_statements)
        (ap (in_option (scope_in fs' gs (tile_of c t))) one.no_result)

  -- tiles from one on, behind those before it
  tiles_formed : (n t number : ℕ) (earlier' : List Text) → t + n ≡ c.tiles →
      ((k : ℕ) → t ≤ k → k < c.tiles → has_name earlier' (tile_name f.name k) ≡ false) → in_items fs' taken' within' number gs earlier' (tiles_from c t n) ≡ []
  tiles_formed zero t number earlier' ends new = refl
  tiles_formed (suc n) t number earlier' ends new =
      none_both (tile_formed t (omega arith) number earlier' (new t (omega arith) (omega arith)))
      (tiles_formed n (t + 1) (number + 1) (earlier' ++ tile_name f.name t ∷ []) (omega arith)
      (λ k low high. has_append earlier' (tile_name f.name t ∷ []) (tile_name f.name k)
      ∙ none_either (new k (omega arith) high)
      (none_either (tile_names_apart f.name t k (omega arith) (let s = can.few in omega arith) (λ s. omega arith)) refl)))

  new_tiles : in_items fs' taken' within' (0 + first) gs earlier (tiles_from c 0 c.tiles) ≡ []
  new_tiles = tiles_formed c.tiles 0 (0 + first) earlier (omega arith) (λ k low high. items_free k high)

  -- ---- all items

  new_items : in_items fs' taken' within' 0 [] [] q ≡ []
  new_items =
      ap (in_items fs' taken' within' 0 [] []) items_are ∙ in_items_append fs' taken' within' 0 [] [] (map (item_of c) front) (tiles_from c 0 c.tiles ++ map (item_of c) back)
      ∙ none_both new_front (the_rest)
    where
      count : length (functions_of (map (item_of c) front)) ≡ first
      count = ap length (plain_functions c front) ∙ length-map (functions_of front) (function_with_tiles c)

      the_rest : in_items fs' taken' within' (0 + length (functions_of (map (item_of c) front))) ([] ++ globals_of (map (item_of c) front))
          ([] ++ item_names (map (item_of c) front)) (tiles_from c 0 c.tiles ++ map (item_of c) back) ≡ []
      the_rest = (λ i. in_items fs' taken' within' (0 + count i) ([] ++ plain_globals c front i) ([] ++ names_kept c front i) (tiles_from c 0 c.tiles ++ map (item_of c) back))
          ∙ in_items_append fs' taken' within' (0 + first) gs earlier (tiles_from c 0 c.tiles) (map (item_of c) back)
          ∙ none_both new_tiles ((λ i. in_items fs' taken' within'
          (0 + first + (ap length (functions_of_tiles c 0 c.tiles) ∙ tiles_count c 0 c.tiles) i)
          ((ap (λ xs. gs ++ xs) (globals_of_tiles c 0 c.tiles) ∙ append-nil gs) i) (earlier ++ names_of_tiles c 0 c.tiles i)
          (map (item_of c) back)) ∙ new_back)

  -- ---- `job`

  job_stays : list_any (λ (h : FunctionText). is_job_name h.name) fs' ≡ true
  job_stays =
      ap (list_any (λ (h : FunctionText). is_job_name h.name)) new_are
      ∙ by (functions_of front) (ap (list_any (λ (h : FunctionText). is_job_name h.name)) (sym old_are) ∙ law.job_listed c front back can formed)
    where
      plain : (hs : List FunctionText) → list_any (λ (h : FunctionText). is_job_name h.name) hs ≡ true → list_any (λ (h : FunctionText). is_job_name h.name) (map (function_with_tiles c) hs) ≡ true
      plain [] e = e
      plain (h ∷ hs) e = on (is_job_name h.name) e (plain hs)
        where
          on : (b : Bool) → (b || list_any (λ (h : FunctionText). is_job_name h.name) hs) ≡ true →
              (list_any (λ (h : FunctionText). is_job_name h.name) hs ≡ true →
              list_any (λ (h : FunctionText). is_job_name h.name) (map (function_with_tiles c) hs) ≡ true) →
              (b || list_any (λ (h : FunctionText). is_job_name h.name) (map (function_with_tiles c) hs)) ≡ true
          on true k next = refl
          on false k next = next k

      behind : (ts hs : List FunctionText) → list_any (λ (h : FunctionText). is_job_name h.name) hs ≡ true → list_any (λ (h : FunctionText). is_job_name h.name) (ts ++ hs) ≡ true
      behind [] hs e = e
      behind (x ∷ ts) hs e = either_right (is_job_name x.name) (list_any (λ (h : FunctionText). is_job_name h.name) (ts ++ hs)) (behind ts hs e)

      by : (hs : List FunctionText) → list_any (λ (h : FunctionText). is_job_name h.name) (hs ++ f ∷ functions_of back) ≡ true →
          list_any (λ (h : FunctionText). is_job_name h.name)
          (map (function_with_tiles c) hs ++ (tile_functions c 0 c.tiles ++ map (function_with_tiles c) (functions_of back))) ≡ true
      by [] e = behind (tile_functions c 0 c.tiles) (map (function_with_tiles c) (functions_of back))
          (plain (functions_of back) (ap (λ b. b || list_any (λ (h : FunctionText). is_job_name h.name) (functions_of back)) (sym one.other) ∙ e))
      by (h ∷ hs) e = on (is_job_name h.name) e (by hs)
        where
          rest : List FunctionText
          rest = map (function_with_tiles c) hs ++ (tile_functions c 0 c.tiles ++ map (function_with_tiles c) (functions_of back))

          on : (b : Bool) → (b || list_any (λ (h : FunctionText). is_job_name h.name) (hs ++ f ∷ functions_of back)) ≡ true →
              (list_any (λ (h : FunctionText). is_job_name h.name) (hs ++ f ∷ functions_of back) ≡ true →
              list_any (λ (h : FunctionText). is_job_name h.name) rest ≡ true) →
              (b || list_any (λ (h : FunctionText). is_job_name h.name) rest) ≡ true
          on true k next = refl
          on false k next = next k

  unbroken_rules : in_limits (globals_of q) fs' ≡ [] → breaches q ≡ []
  unbroken_rules limits = none_both (none_both limits (ap (λ b. if_broken (not b) None NoJob) job_stays)) new_items

-- ---- wherever the function stands

pub well_formed : (p : ProgramText) (c : Cut) → IsWellFormed p → CanCut p c → in_limits (globals_of (tiled c p)) (functions_of (tiled c p)) ≡ [] → IsWellFormed (tiled c p)
unfolding first_breach
well_formed p c formed can limits =
    let s = split_at p c.function.name c.function can.named in
    let whole = s.front ++ function_item c.function ∷ s.back in
    let can_cut : CanCut whole c = subst (λ x. CanCut x c) s.is can in
    let well : IsWellFormed whole = subst (λ x. IsWellFormed x) s.is formed in
    let none : breaches (tiled c whole) ≡ [] = unbroken_rules c s.front s.back can_cut well (subst (λ x. in_limits (globals_of (tiled c x)) (functions_of (tiled c x)) ≡ []) s.is limits) in
    subst (λ x. IsTrue (is_none (first_of (breaches (tiled c x))))) (sym s.is) (subst (λ bs. IsTrue (is_none (first_of bs))) (sym none) refl)
