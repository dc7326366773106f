-- Of the limits of programs, one with tiles can only be past that on functions.
use Rattle.std.proofs.Common.{◌≡◌, ℕ, zero, suc, ◌+◌, ◌≤◌, Bool, true, false, not, ◌||◌, List, [], ◌∷◌, ◌++◌, length, map, refl, ap, sym, ◌∙◌, subst, Option, None, Some, option_map}
use Rattle.std.proofs.Common.{true≢false, is_some}
use Rattle.prem_tiling.proofs.Prelude.{if_broken, is_job_name, regions_of, is_stated, is_length, in_limits, in_items, item_names, reached, IsWellFormed, globals_of, functions_of, Rule}
use Rattle.prem_tiling.proofs.Prelude.{Limit, NoJob, Breach, MarkText, GlobalVariable, FunctionText, function_item, ProgramText, CanCut, has_breach, Cut, tile_region, tile_mark, tile_of}
use Rattle.prem_tiling.proofs.Prelude.{function_with_tiles, tiled, and_from, le-leb, length-map, list_any, nat_lt, nat_le}
use Rattle.prem_syntax.specs.declared.rules.Count.TheVariants.{Functions, Globals, Parameters, Regions, Length, Stated}
use Rattle.prem_tiling.proofs.LawsLemmas.Formed.{none_left, none_right}
use Rattle.prem_tiling.proofs.LawsLemmas.Lists.{split_at}
use Rattle.prem_tiling.proofs.LawsLemmas.Placed.{tile_functions}
use Rattle.prem_tiling.proofs.LawsLemmas.Shapes.{IsShape}
use Rattle.prem_tiling.proofs.LawsLemmas.Standing.{all_breaches, IsMarkedOne}
use Rattle.prem_tiling.proofs.LawsLemmas.Tied.{neither_left, neither_right}
use Rattle.prem_tiling.proofs.LawsLemmas.Whole.{functions_are, functions_tiled}
use Rattle.prem_tiling.proofs.LawsLemmas.Law as law
use Rattle.prem_tiling.proofs.LawsLemmas.Standing as standing

unbroken : (b : Bool) (r : Rule) → if_broken b None r ≡ [] → b ≡ false
unbroken true r e = cc
unbroken false r e = refl

broken_none : (b : Bool) (r : Rule) → b ≡ false → if_broken b None r ≡ []
broken_none b r e = ap (λ x. if_broken x None r) e

pub none_either : {a b : Bool} → a ≡ false → b ≡ false → (a || b) ≡ false
none_either {a = a} {b = b} e f = ap (λ x. x || b) e ∙ f

any_append : (P : FunctionText → Bool) (xs ys : List FunctionText) → list_any P xs ≡ false → list_any P ys ≡ false → list_any P (xs ++ ys) ≡ false
any_append P [] ys e f = f
any_append P (x ∷ xs) ys e f = none_either (neither_left (P x) (list_any P xs) e) (any_append P xs ys (neither_right (P x) (list_any P xs) e) f)

any_left : (P : FunctionText → Bool) (xs ys : List FunctionText) → list_any P (xs ++ ys) ≡ false → list_any P xs ≡ false
any_left P [] ys e = refl
any_left P (x ∷ xs) ys e = none_either (neither_left (P x) (list_any P (xs ++ ys)) e) (any_left P xs ys (neither_right (P x) (list_any P (xs ++ ys)) e))

any_right : (P : FunctionText → Bool) (xs ys : List FunctionText) → list_any P (xs ++ ys) ≡ false → list_any P ys ≡ false
any_right P [] ys e = e
any_right P (x ∷ xs) ys e = any_right P xs ys (neither_right (P x) (list_any P (xs ++ ys)) e)

-- what no function is, and no tile, no function with tiles is
module _ (c : Cut) (P : FunctionText → Bool) (same : (f : FunctionText) → P (function_with_tiles c f) ≡ P f) (tiles : P c.function ≡ false → (t : ℕ) → P (tile_of c t) ≡ false) where
  any_mapped : (xs : List FunctionText) → list_any P xs ≡ false → list_any P (map (function_with_tiles c) xs) ≡ false
  any_mapped [] e = refl
  any_mapped (x ∷ xs) e = none_either (same x ∙ neither_left (P x) (list_any P xs) e) (any_mapped xs (neither_right (P x) (list_any P xs) e))

  any_tiles : P c.function ≡ false → (t n : ℕ) → list_any P (tile_functions c t n) ≡ false
  any_tiles e t zero = refl
  any_tiles e t (suc n) = none_either (tiles e t) (any_tiles e (t + 1) n)

  none_with_tiles : (before after : List FunctionText) → list_any P (before ++ c.function ∷ after) ≡ false →
      list_any P (map (function_with_tiles c) before ++ (tile_functions c 0 c.tiles ++ map (function_with_tiles c) after)) ≡ false
  none_with_tiles before after e =
      let rest = any_right P before (c.function ∷ after) e in
      any_append P (map (function_with_tiles c) before) (tile_functions c 0 c.tiles ++ map (function_with_tiles c) after) (any_mapped before (any_left P before (c.function ∷ after) e))
      (any_append P (tile_functions c 0 c.tiles) (map (function_with_tiles c) after)
      (any_tiles (neither_left (P c.function) (list_any P after) rest) 0 c.tiles) (any_mapped after (neither_right (P c.function) (list_any P after) rest)))

one_breach : (b : Bool) (r : Rule) (a d e f g : List Breach) → a ≡ [] → d ≡ [] → e ≡ [] → f ≡ [] → g ≡ [] → has_breach (if_broken b None r ++ a ++ d ++ e ++ f ++ g) ≡ b
one_breach true r a d e f g p q s t u = (λ i. has_breach (if_broken true None r ++ p i ++ q i ++ s i ++ t i ++ u i))
one_breach false r a d e f g p q s t u = (λ i. has_breach (if_broken false None r ++ p i ++ q i ++ s i ++ t i ++ u i))

module _ (c : Cut) (front back : ProgramText) (can : CanCut (front ++ function_item c.function ∷ back) c)
    (formed : IsWellFormed (front ++ function_item c.function ∷ back)) (some : 1 ≤ c.stated) (small : c.stated ≤ 2147483647) where
  abbrev p : ProgramText
  p = front ++ function_item c.function ∷ back

  abbrev q : ProgramText
  q = tiled c p

  abbrev fs : List FunctionText
  fs = functions_of p

  abbrev fs' : List FunctionText
  fs' = functions_of q

  abbrev gs : List GlobalVariable
  gs = globals_of p

  shape : IsShape c.function c.loop
  shape = standing.shape c front back can.shape formed

  one : IsMarkedOne c.function
  one = standing.one c front back can.shape formed

  old_are : fs ≡ functions_of front ++ c.function ∷ functions_of back
  old_are = functions_are c front back can.several can.few (standing.front_apart c front back can.shape formed)
      (standing.back_apart c front back can.shape formed) (law.free c front back can formed) shape.no_parameters one.void

  new_are : fs' ≡ map (function_with_tiles c) (functions_of front) ++ (tile_functions c 0 c.tiles ++ map (function_with_tiles c) (functions_of back))
  new_are = functions_tiled c front back can.several can.few (standing.front_apart c front back can.shape formed)
      (standing.back_apart c front back can.shape formed) (law.free c front back can formed) shape.no_parameters one.void

  globals_are : globals_of q ≡ gs
  globals_are = law.globals_tiled c front back can formed

  old_limits : in_limits gs fs ≡ []
  old_limits =
      let job = if_broken (not (list_any (λ (f : FunctionText). is_job_name f.name) fs)) None NoJob in
      none_left (in_limits gs fs) job (none_left (in_limits gs fs ++ job) (in_items fs (item_names p) (reached fs) 0 [] [] p) (all_breaches p formed))

  abbrev many_functions : List FunctionText → List Breach
  many_functions hs = if_broken (nat_lt 256 (length hs)) None (Limit Functions)

  abbrev many_globals : List GlobalVariable → List Breach
  many_globals ys = if_broken (nat_lt 256 (length ys)) None (Limit Globals)

  abbrev Parametric : FunctionText → Bool
  Parametric f = nat_lt 8 (length f.params)

  abbrev Regional : FunctionText → Bool
  Regional f = nat_lt 32 (length (regions_of f.mark))

  abbrev Unstated : FunctionText → Bool
  Unstated f = not (is_stated f.mark)

  abbrev parameters : List FunctionText → List Breach
  parameters hs = if_broken (list_any Parametric hs) None (Limit Parameters)

  abbrev regions : List FunctionText → List Breach
  regions hs = if_broken (list_any Regional hs) None (Limit Regions)

  abbrev lengths : List GlobalVariable → List Breach
  lengths ys = if_broken (list_any (λ (g : GlobalVariable). not (is_length g.len)) ys) None (Limit Length)

  abbrev stated : List FunctionText → List Breach
  stated hs = if_broken (list_any Unstated hs) None (Limit Stated)

  five : many_functions fs ++ many_globals gs ++ parameters fs ++ regions fs ++ lengths gs ≡ []
  five = none_left (many_functions fs ++ many_globals gs ++ parameters fs ++ regions fs ++ lengths gs) (stated fs) old_limits

  four : many_functions fs ++ many_globals gs ++ parameters fs ++ regions fs ≡ []
  four = none_left (many_functions fs ++ many_globals gs ++ parameters fs ++ regions fs) (lengths gs) five

  three : many_functions fs ++ many_globals gs ++ parameters fs ≡ []
  three = none_left (many_functions fs ++ many_globals gs ++ parameters fs) (regions fs) four

  two : many_functions fs ++ many_globals gs ≡ []
  two = none_left (many_functions fs ++ many_globals gs) (parameters fs) three

  none_new : (P : FunctionText → Bool) (r : Rule) → ((f : FunctionText) → P (function_with_tiles c f) ≡ P f) →
      (P c.function ≡ false → (t : ℕ) → P (tile_of c t) ≡ false) → if_broken (list_any P fs) None r ≡ [] → if_broken (list_any P fs') None r ≡ []
  none_new P r same tiles e =
      broken_none (list_any P fs') r (ap (list_any P) new_are ∙ none_with_tiles c P same tiles (functions_of front) (functions_of back) (ap (list_any P) (sym old_are) ∙ unbroken (list_any P fs) r e))

  new_regions : (t : ℕ) → Regional c.function ≡ false → Regional (tile_of c t) ≡ false
  new_regions t e = by c.function.mark e
    where
      by : (m : Option MarkText) → nat_lt 32 (length (regions_of m)) ≡ false → nat_lt 32 (length (regions_of (option_map (tile_mark c t) m))) ≡ false
      by None h = h
      by (Some m) h = ap (nat_lt 32) (length-map m.regions (tile_region c t)) ∙ h

  new_stated : (t : ℕ) → Unstated (tile_of c t) ≡ false
  new_stated t = by c.function.mark shape.marked
    where
      by : (m : Option MarkText) → is_some m ≡ true → not (is_stated (option_map (tile_mark c t) m)) ≡ false
      by None h = absurd (true≢false (sym h))
      by (Some m) h = ap not (and_from (nat_le 1 c.stated) (nat_le c.stated 2147483647) (le-leb 1 c.stated some) (le-leb c.stated 2147483647 small))

  functions_alone : has_breach (in_limits (globals_of q) fs') ≡ nat_lt 256 (length fs')
  functions_alone =
      one_breach (nat_lt 256 (length fs')) (Limit Functions) (many_globals (globals_of q)) (parameters fs') (regions fs') (lengths (globals_of q)) (stated fs')
      (ap many_globals globals_are ∙ none_right (many_functions fs) (many_globals gs) two)
      (none_new Parametric (Limit Parameters) (λ f. refl) (λ e t. e) (none_right (many_functions fs ++ many_globals gs) (parameters fs) three))
      (none_new Regional (Limit Regions) (λ f. refl) (λ e t. new_regions t e) (none_right (many_functions fs ++ many_globals gs ++ parameters fs) (regions fs) four))
      (ap lengths globals_are ∙ none_right (many_functions fs ++ many_globals gs ++ parameters fs ++ regions fs) (lengths gs) five)
      (none_new Unstated (Limit Stated) (λ f. refl) (λ e t. new_stated t) (none_right (many_functions fs ++ many_globals gs ++ parameters fs ++ regions fs ++ lengths gs) (stated fs) old_limits))

pub only_functions : (p : ProgramText) (c : Cut) → IsWellFormed p → CanCut p c → 1 ≤ c.stated → c.stated ≤ 2147483647 →
    has_breach (in_limits (globals_of (tiled c p)) (functions_of (tiled c p))) ≡ nat_lt 256 (length (functions_of (tiled c p)))
only_functions p c formed can some small =
    let s = split_at p c.function.name c.function can.named in
    let whole = s.front ++ function_item c.function ∷ s.back in
    let can_cut : CanCut whole c = subst (λ x. CanCut x c) s.is can in
    let well : IsWellFormed whole = subst (λ x. IsWellFormed x) s.is formed in
    subst (λ x. has_breach (in_limits (globals_of (tiled c x)) (functions_of (tiled c x))) ≡ nat_lt 256 (length (functions_of (tiled c x))))
    (sym s.is) (functions_alone c s.front s.back can_cut well some small)
