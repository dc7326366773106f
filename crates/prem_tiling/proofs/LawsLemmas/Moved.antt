-- Functions and items that break no rule break none in the program with tiles.
use Rattle.std.proofs.Common.{◌≡◌, ℕ, suc, ◌+◌, ◌<◌, ◌≤◌, Bool, true, false, not, ◌&&◌, ◌||◌, List, [], ◌∷◌, ◌++◌, length, map, refl, ap, ◌∙◌, subst, arith, is_some, is_none, eqb, ⊎_elim}
use Rattle.std.proofs.Common.{◌⊎◌, inl, inr}
use Rattle.prem_tiling.proofs.Prelude.{around, if_at, has_name, is_void, is_narrow, is_range, is_job_name, is_marked_text, is_initial, in_declared, in_parameters, in_locals, in_expression}
use Rattle.prem_tiling.proofs.Prelude.{in_regions, regions_of, in_heading, in_statements, in_option, parameter_texts, in_function, in_global, in_items, is_in_set, Scope, declared, scope_at}
use Rattle.prem_tiling.proofs.Prelude.{scope_in, functions_of, Twice, OfTypes, Text, Parameter, LocalVariable, GlobalVariable, FunctionText, global_item, function_item, ProgramText, Place}
use Rattle.prem_tiling.proofs.Prelude.{Ty, renumbered, names_of, Cut, tile_name, function_with_tiles, used_names, bytes_eq}
use Rattle.prem_tiling.proofs.LawsLemmas.Calls.{renumbered_suc}
use Rattle.prem_tiling.proofs.LawsLemmas.Formed.{none_left, none_right, none_both, kept_rule}
use Rattle.prem_tiling.proofs.LawsLemmas.Limits.{none_either}
use Rattle.prem_tiling.proofs.LawsLemmas.Placed.{has_append, has_not_left, has_not_right, not_earlier, item_of}
use Rattle.prem_tiling.proofs.LawsLemmas.Rules.{Kept, unbroken, expression_formed, option_formed, statements_formed}
use Rattle.prem_tiling.proofs.LawsLemmas.Terms.{with_functions}
use Rattle.prem_tiling.proofs.LawsLemmas.Tied.{neither_left, neither_right}
use Rattle.prem_syntax.specs.declared.rules.TypeRule.TheVariants as rule

-- a name is no tile's
abbrev pub NoTile : Cut → Text → Type 0
NoTile c x = (t : ℕ) → t < c.tiles → bytes_eq x (tile_name c.function.name t) ≡ false

-- names that aren't there, and no tile's, aren't there with tiles
abbrev pub Fresh : Cut → List Text → List Text → Type 0
Fresh c taken taken' = (x : Text) → has_name taken x ≡ false → NoTile c x → has_name taken' x ≡ false

fresh_more : (c : Cut) (taken taken' : List Text) (y : Text) → Fresh c taken taken' → Fresh c (taken ++ y ∷ []) (taken' ++ y ∷ [])
fresh_more c taken taken' y fresh x e apart = has_append taken' (y ∷ []) x ∙ none_either (fresh x (has_not_left taken (y ∷ []) x e) apart) (has_not_right taken (y ∷ []) x e)

pub fresh_all : (c : Cut) (taken taken' ys : List Text) → Fresh c taken taken' → Fresh c (taken ++ ys) (taken' ++ ys)
fresh_all c taken taken' ys fresh x e apart = has_append taken' ys x ∙ none_either (fresh x (has_not_left taken ys x e) apart) (has_not_right taken ys x e)

-- a name without tiles' names
abbrev pub NoTiles : Cut → List Text → Type 0
NoTiles c xs = (t : ℕ) → t < c.tiles → has_name xs (tile_name c.function.name t) ≡ false

declared_moved : (c : Cut) (taken taken' : List Text) (at : Place) (ty : Ty) (name : Text) → Fresh c taken taken' → NoTile c name →
    in_declared taken at ty name ≡ [] → in_declared taken' at ty name ≡ []
declared_moved c taken taken' at ty name fresh apart e =
    let twice = if_at (has_name taken name) at (Twice name) in
    let void = if_at (is_void ty) at (OfTypes rule.Void) in
    let narrow = if_at (is_narrow ty) at (OfTypes rule.Narrow) in
    let two = none_left (twice ++ void) narrow e in
    none_both (none_both (unbroken (has_name taken' name) at (Twice name)
    (fresh name (kept_rule (has_name taken name) at (Twice name) (none_left twice void two)) apart)) (none_right twice void two))
    (none_right (twice ++ void) narrow e)

parameters_moved : (c : Cut) (taken taken' : List Text) (ps : List Parameter) → Fresh c taken taken' → NoTiles c (parameter_texts ps) → in_parameters taken ps ≡ [] → in_parameters taken' ps ≡ []
parameters_moved c taken taken' [] fresh apart e = refl
parameters_moved c taken taken' (p ∷ ps) fresh apart e =
    let here = in_declared taken p.at p.ty p.name in
    let range = if_at (not (is_range p.ty p.range)) p.at (OfTypes rule.Range) in
    let rest = in_parameters (taken ++ p.name ∷ []) ps in
    let front = none_left (here ++ range) rest e in
    none_both (none_both (declared_moved c taken taken' p.at p.ty p.name fresh
    (λ t lt. neither_left (bytes_eq p.name (tile_name c.function.name t)) (has_name (parameter_texts ps) (tile_name c.function.name t))
    (apart t lt)) (none_left here range front)) (none_right here range front))
    (parameters_moved c (taken ++ p.name ∷ []) (taken' ++ p.name ∷ []) ps (fresh_more c taken taken' p.name fresh)
    (λ t lt. neither_right (bytes_eq p.name (tile_name c.function.name t)) (has_name (parameter_texts ps) (tile_name c.function.name t))
    (apart t lt)) (none_right (here ++ range) rest e))

pub locals_moved : (c : Cut) (fs : List FunctionText) (taken taken' : List Text) (scope : Scope) (ls : List LocalVariable) → Fresh c taken taken' →
    NoTiles c (names_of ls) → in_locals taken scope ls ≡ [] → in_locals taken' (with_functions fs scope) ls ≡ []
locals_moved c fs taken taken' scope [] fresh apart e = refl
locals_moved c fs taken taken' scope (l ∷ ls) fresh apart e =
    let here = in_declared taken l.at l.ty l.name in
    let value = in_expression scope l.value in
    let rest = in_locals (taken ++ l.name ∷ []) (declared scope l) ls in
    let front = none_left (here ++ value) rest e in
    none_both (none_both (declared_moved c taken taken' l.at l.ty l.name fresh
    (λ t lt. neither_left (bytes_eq l.name (tile_name c.function.name t)) (has_name (names_of ls) (tile_name c.function.name t)) (apart t lt))
    (none_left here value front)) (expression_formed fs scope l.value (none_right here value front)))
    (locals_moved c fs (taken ++ l.name ∷ []) (taken' ++ l.name ∷ []) (declared scope l) ls (fresh_more c taken taken' l.name fresh)
    (λ t lt. neither_right (bytes_eq l.name (tile_name c.function.name t)) (has_name (names_of ls) (tile_name c.function.name t)) (apart t lt))
    (none_right (here ++ value) rest e))

-- what is said at the name of a function, where it is new
heading_moved : (earlier earlier' : List Text) (f : FunctionText) → has_name earlier' f.name ≡ false → in_heading earlier f ≡ [] → in_heading earlier' f ≡ []
heading_moved earlier earlier' f new e =
    let twice = if_at (has_name earlier f.name) f.at (Twice f.name) in
    let narrow = if_at (is_narrow f.ty) f.at (OfTypes rule.Narrow) in
    let result = if_at ((is_void f.ty && is_some f.result) || (not (is_void f.ty) && is_none f.result)) f.at (OfTypes rule.Return) in
    let mark = if_at (is_marked_text f && (not (is_void f.ty) || is_job_name f.name)) f.at (OfTypes rule.Marked) in
    let job = if_at (is_job_name f.name && not (is_void f.ty && eqb (length f.params) 0)) f.at (OfTypes rule.Job) in
    let four = none_left (twice ++ narrow ++ result ++ mark) job e in
    let three = none_left (twice ++ narrow ++ result) mark four in
    let two = none_left (twice ++ narrow) result three in
    none_both (none_both (none_both (none_both (unbroken (has_name earlier' f.name) f.at (Twice f.name) new) (none_right twice narrow two))
    (none_right (twice ++ narrow) result three)) (none_right (twice ++ narrow ++ result) mark four)) (none_right (twice ++ narrow ++ result ++ mark) job e)

module _ (c : Cut) (first : ℕ) (fs fs' : List FunctionText) (taken taken' : List Text) (within within' : List Bool) (some : 0 < c.tiles)
    (kept : Kept c first fs fs') (fresh : Fresh c taken taken') where
  -- a function that isn't cut
  function_moved : (n : ℕ) (gs : List GlobalVariable) (earlier earlier' : List Text) (f : FunctionText) → (n ≡ first → ⊥) →
      (is_in_set within' (renumbered first c.tiles n) ≡ true → is_in_set within n ≡ true) →
      Fresh c earlier earlier' → NoTiles c (f.name ∷ (parameter_texts f.params ++ names_of f.locals)) → in_function fs taken n (is_in_set within n) gs earlier f ≡ [] →
      in_function fs' taken' (renumbered first c.tiles n) (is_in_set within' (renumbered first c.tiles n)) gs earlier' (function_with_tiles c f) ≡ []
  function_moved n gs earlier earlier' f elsewhere lighter new apart e =
      let scope = scope_in fs gs f in
      let place = around scope n (is_in_set within n) f in
      let r = in_regions (scope_at fs gs f) (regions_of f.mark) in
      let h = in_heading earlier f in
      let ps = in_parameters taken f.params in
      let ls = in_locals (taken ++ parameter_texts f.params) (scope_at fs gs f) f.locals in
      let ss = in_statements place f.body in
      let o = in_option scope f.result in
      let five = none_left (r ++ h ++ ps ++ ls ++ ss) o e in
      let four = none_left (r ++ h ++ ps ++ ls) ss five in
      let three = none_left (r ++ h ++ ps) ls four in
      let two = none_left (r ++ h) ps three in
      let inner : (t : ℕ) → t < c.tiles → has_name (parameter_texts f.params ++ names_of f.locals) (tile_name c.function.name t) ≡ false =
      λ t lt. neither_right (bytes_eq f.name (tile_name c.function.name t)) (has_name (parameter_texts f.params ++ names_of f.locals) (tile_name c.function.name t)) (apart t lt) in
      let own = not_earlier earlier f (none_right r h two) in
      none_both (none_both (none_both (none_both (none_both (none_left r h two)
      (heading_moved earlier earlier' f
      (new f.name own (λ t lt. neither_left (bytes_eq f.name (tile_name c.function.name t))
      (has_name (parameter_texts f.params ++ names_of f.locals) (tile_name c.function.name t)) (apart t lt))) (none_right r h two)))
      (parameters_moved c taken taken' f.params fresh (λ t lt. has_not_left (parameter_texts f.params) (names_of f.locals) (tile_name c.function.name t) (inner t lt)) (none_right (r ++ h) ps three)))
      (locals_moved c fs' (taken ++ parameter_texts f.params) (taken' ++ parameter_texts f.params) (scope_at fs gs f) f.locals
      (fresh_all c taken taken' (parameter_texts f.params) fresh)
      (λ t lt. has_not_right (parameter_texts f.params) (names_of f.locals) (tile_name c.function.name t) (inner t lt))
      (none_right (r ++ h ++ ps) ls four)))
      (statements_formed c first place fs' kept some elsewhere (is_in_set within' (renumbered first c.tiles n)) lighter f.body (none_right (r ++ h ++ ps ++ ls) ss five)))
      (option_formed fs' scope f.result (none_right (r ++ h ++ ps ++ ls ++ ss) o e))

  global_moved : (earlier earlier' : List Text) (g : GlobalVariable) → Fresh c earlier earlier' → NoTile c g.name → in_global earlier g ≡ [] → in_global earlier' g ≡ []
  global_moved earlier earlier' g new apart e =
      let twice = if_at (has_name earlier g.name) g.at (Twice g.name) in
      let void = if_at (is_void g.ty) g.at (OfTypes rule.Void) in
      let initial = if_at (not (is_initial g.len g.initial)) g.at (OfTypes rule.Initial) in
      let two = none_left (twice ++ void) initial e in
      none_both (none_both (unbroken (has_name earlier' g.name) g.at (Twice g.name)
      (new g.name (kept_rule (has_name earlier g.name) g.at (Twice g.name) (none_left twice void two)) apart)) (none_right twice void two))
      (none_right (twice ++ void) initial e)

  -- items among which the function isn't
  pub items_moved : (xs : ProgramText) (k : ℕ) (gs : List GlobalVariable) (earlier earlier' : List Text) → (k + length (functions_of xs) ≤ first) ⊎ (first < k) →
      ((n : ℕ) → (n ≡ first → ⊥) → is_in_set within' (renumbered first c.tiles n) ≡ true → is_in_set within n ≡ true) → Fresh c earlier earlier' →
      NoTiles c (used_names xs) → in_items fs taken within k gs earlier xs ≡ [] →
      in_items fs' taken' within' (renumbered first c.tiles k) gs earlier' (map (item_of c) xs) ≡ []
  items_moved [] k gs earlier earlier' place lighter new apart e = refl
  items_moved (global_item g ∷ xs) k gs earlier earlier' place lighter new apart e =
      none_both (global_moved earlier earlier' g new
      (λ t lt. neither_left (bytes_eq g.name (tile_name c.function.name t)) (has_name (used_names xs) (tile_name c.function.name t)) (apart t lt))
      (none_left (in_global earlier g) (in_items fs taken within k (gs ++ g ∷ []) (earlier ++ g.name ∷ []) xs) e))
      (items_moved xs k (gs ++ g ∷ []) (earlier ++ g.name ∷ []) (earlier' ++ g.name ∷ []) place lighter (fresh_more c earlier earlier' g.name new)
      (λ t lt. neither_right (bytes_eq g.name (tile_name c.function.name t)) (has_name (used_names xs) (tile_name c.function.name t)) (apart t lt))
      (none_right (in_global earlier g) (in_items fs taken within k (gs ++ g ∷ []) (earlier ++ g.name ∷ []) xs) e))
  items_moved (function_item f ∷ xs) k gs earlier earlier' place lighter new apart e =
      let here = in_function fs taken k (is_in_set within k) gs earlier f in
      let rest = in_items fs taken within (k + 1) gs (earlier ++ f.name ∷ []) xs in
      let elsewhere : k ≡ first → ⊥ = λ same. ⊎_elim (λ (before : k + suc (length (functions_of xs)) ≤ first). omega arith) (λ (behind : first < k). omega arith) place in
      let one : k + 1 ≡ suc k = omega arith in
      let next : renumbered first c.tiles (k + 1) ≡ renumbered first c.tiles k + 1 = ap (renumbered first c.tiles) one
      ∙ renumbered_suc first c.tiles k some elsewhere ∙ (let z : suc (renumbered first c.tiles k) ≡ renumbered first c.tiles k + 1 = omega arith in z) in
      let inner : (t : ℕ) → t < c.tiles → has_name (parameter_texts f.params ++ (names_of f.locals ++ used_names xs)) (tile_name c.function.name t) ≡ false =
      λ t lt. neither_right (bytes_eq f.name (tile_name c.function.name t)) (has_name (parameter_texts f.params ++ (names_of f.locals ++ used_names xs)) (tile_name c.function.name t)) (apart t lt) in
      let behind : (t : ℕ) → t < c.tiles →
      has_name (names_of f.locals ++ used_names xs) (tile_name c.function.name t)
      ≡ false = λ t lt. has_not_right (parameter_texts f.params) (names_of f.locals ++ used_names xs) (tile_name c.function.name t) (inner t lt) in
      none_both (function_moved k gs earlier earlier' f elsewhere (lighter k elsewhere) new
      (λ t lt. none_either (neither_left (bytes_eq f.name (tile_name c.function.name t))
      (has_name (parameter_texts f.params ++ (names_of f.locals ++ used_names xs)) (tile_name c.function.name t)) (apart t lt))
      (has_append (parameter_texts f.params) (names_of f.locals) (tile_name c.function.name t)
      ∙ none_either (has_not_left (parameter_texts f.params) (names_of f.locals ++ used_names xs) (tile_name c.function.name t) (inner t lt))
      (has_not_left (names_of f.locals) (used_names xs) (tile_name c.function.name t) (behind t lt))))
      (none_left here rest e))
      (subst (λ m. in_items fs' taken' within' m gs (earlier' ++ f.name ∷ []) (map (item_of c) xs) ≡ []) next
      (items_moved xs (k + 1) gs (earlier ++ f.name ∷ []) (earlier' ++ f.name ∷ [])
      (⊎_elim (λ (before : k + suc (length (functions_of xs)) ≤ first). inl (omega arith)) (λ (b : first < k). inr (omega arith)) place) lighter
      (fresh_more c earlier earlier' f.name new)
      (λ t lt. has_not_right (names_of f.locals) (used_names xs) (tile_name c.function.name t) (behind t lt)) (none_right here rest e)))
