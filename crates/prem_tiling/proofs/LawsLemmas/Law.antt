-- A program with tiles does what the program did.
use Rattle.std.proofs.Common.{◌≡◌, ℕ, zero, suc, ◌+◌, ◌-◌, ◌*◌, ◌/◌, ◌^◌, ◌<◌, ◌≤◌, Bool, true, false, cond, not, ◌||◌, List, [], ◌∷◌, ◌++◌, length, map, refl, ap, sym, ◌∙◌, subst, arith}
use Rattle.std.proofs.Common.{Option, None, Some, option_map, unwrap_or, ltb, is_some, ⊎_elim, true≢false, IfSome}
use Rattle.prem_tiling.proofs.Prelude.{within_names, number_of, Around, around, if_at, if_broken, is_job_name, is_loop, in_names, in_expression, in_regions, regions_of, in_heading}
use Rattle.prem_tiling.proofs.Prelude.{in_parameters, in_locals, in_statement, in_statements, in_option, parameter_texts, in_function, in_items, item_names, in_limits, has_name, reached}
use Rattle.prem_tiling.proofs.Prelude.{Outcome, IsWellFormed, is_in_set, Scope, find_named, find_function, number_named, meaning_of, loop_local, resolve_term, resolve_statement}
use Rattle.prem_tiling.proofs.Prelude.{resolve_statements, parameter_names, local_names, scope_at, scope_in, resolve_function, resolve_items, resolve, globals_of, functions_of, Constant}
use Rattle.prem_tiling.proofs.Prelude.{Steps, Done, For, Routine, Resolved, NoJob, LoopForm, calls_below, everywhere, unlimited, start, do_jobs, source, initial_words, ProgramState, Calls}
use Rattle.prem_tiling.proofs.Prelude.{enter, Text, MarkText, LocalVariable, GlobalVariable, FunctionText, function_item, ProgramText, CanCut, renumbered, no_marks, AreSame, names_of, Loop}
use Rattle.prem_tiling.proofs.Prelude.{bound_of, turns_of, Cut, tile_name, first_turn, is_last, low_of, closed_of, high_of, tile_mark, tile_of, tiles_from, function_with_tiles, tiled}
use Rattle.prem_tiling.proofs.Prelude.{used_names, mul-lt-mul_of_pos_right, mul_comm, div-lt_iff_lt-mul, cases_lt, lt-ltb, ltb-true, eqb-true, eq-eqb, length-map, length-append, list_any}
use Rattle.prem_tiling.proofs.Prelude.{slice_get, codes}
use Rattle.prem_tiling.proofs.LawsLemmas.Alike.{Alike, Renamed, CallsAlike, statements_alike}
use Rattle.prem_tiling.proofs.LawsLemmas.Calls.{AreCut, all_calls, renumbered_above}
use Rattle.prem_tiling.proofs.LawsLemmas.Cutting.{IsLoopRoutine, IsCut, function_alike}
use Rattle.prem_tiling.proofs.LawsLemmas.Enter.{enter_alike}
use Rattle.prem_tiling.proofs.LawsLemmas.Formed.{none_left, none_right, int_local_numbered, IsLoop}
use Rattle.prem_tiling.proofs.LawsLemmas.Joint.{Joint, fine, wrong, joint_then}
use Rattle.prem_tiling.proofs.LawsLemmas.Laps.{Cuttable}
use Rattle.prem_tiling.proofs.LawsLemmas.Lists.{names_of_functions, routines_count, globals_append, split_at}
use Rattle.prem_tiling.proofs.LawsLemmas.Numbers.{turn_there, few_turns, firsts_rise, first_is_none, last_is_all, turn_before, bound_with}
use Rattle.prem_tiling.proofs.LawsLemmas.Placed.{same_name, flipped, item_of, plain_globals, globals_of_tiles, tiles_count, tile_functions}
use Rattle.prem_tiling.proofs.LawsLemmas.Shapes.{IsShape, low_end, high_end, statement_of, are_numbered, left_alone, constant_word, constant_words, constants_declared}
use Rattle.prem_tiling.proofs.LawsLemmas.Standing.{all_breaches, item_breaches, IsMarkedOne}
use Rattle.prem_tiling.proofs.LawsLemmas.Terms.{with_functions, same_option, same_locals, same_variable, same_statement}
use Rattle.prem_tiling.proofs.LawsLemmas.Tied.{Numbered}
use Rattle.prem_tiling.proofs.LawsLemmas.Whole.{free_of, functions_are, tiled_are, functions_tiled, renamed, Seg, function_there, tile_there, other_there}
use Rattle.prem_tiling.proofs.LawsLemmas.Standing as standing

-- ---- numbers of the cut

pub is_cut : (c : Cut) (most : ℕ) → 0 < c.loop.step → c.loop.low.value ≤ 2147483647 → c.loop.high.value ≤ 2147483647 → 2 ≤ c.tiles → c.tiles ≤ turns_of c.loop → 2147483648 ≤ most →
    IsCut c.loop.step c.loop.low.value c.loop.high.value c.loop.closed c.tiles (turns_of c.loop) most (first_turn c) (closed_of c) (high_of c)
is_cut c most some low_small high_small several enough room = record {
  begins = first_is_none n c.tiles (omega arith);
  ends = last_is_all n c.tiles (omega arith);
  rises = λ t. firsts_rise n c.tiles t (omega arith);
  enough = (let few = few_turns l.low.value (bound_of l) l.step some in let b = bound_small l.closed in omega arith);
  high_small = high_small;
  lows_small = lows;
  highs_small = highs;
  tests = λ j. turn_there l.low.value (bound_of l) l.step j some;
  tile_tests = λ t j lt. tests t j (is_last c t) refl;
}
  where
    l : Loop
    l = c.loop

    n : ℕ
    n = turns_of c.loop

    bound_small : (b : Bool) → bound_with b l.high.value ≤ 2147483648
    bound_small true = omega arith
    bound_small false = omega arith

    before_end : (t : ℕ) → t < c.tiles → first_turn c t < n
    before_end t lt = let m : t * n < c.tiles * n = mul-lt-mul_of_pos_right lt (omega arith) in let e = mul_comm c.tiles n in
        (div-lt_iff_lt-mul (let s : 0 < c.tiles = omega arith in s)).1 (omega arith)

    lows : (t : ℕ) → t < c.tiles → l.low.value + l.step * first_turn c t ≤ 2147483647
    lows t lt =
        let in_bound = ltb-true (l.low.value + l.step * first_turn c t) (bound_of l) (turn_there l.low.value (bound_of l) l.step (first_turn c t) some ∙ lt-ltb (first_turn c t) n (before_end t lt)) in
        let b = bound_small l.closed in
        omega arith

    highs : (t : ℕ) → t < c.tiles → high_of c t ≤ 2147483647
    highs t lt = by (is_last c t) refl
      where
        by : (b : Bool) → is_last c t ≡ b → cond b l.high.value (l.low.value + l.step * first_turn c (t + 1)) ≤ 2147483647
        by true is = high_small
        by false is = ⊎_elim (λ (before : t + 1 < c.tiles). lows (t + 1) before)
            (λ (at : c.tiles ≤ t + 1). absurd (let same : t + 1 ≡ c.tiles = omega arith in true≢false (sym (last same) ∙ is))) (cases_lt (t + 1) c.tiles)
          where
            last : t + 1 ≡ c.tiles → is_last c t ≡ true
            last e = eq-eqb (t + 1) c.tiles e

    tests : (t j : ℕ) (b : Bool) → is_last c t ≡ b →
        ltb (l.low.value + l.step * j) (bound_with (cond b l.closed false) (cond b l.high.value (l.low.value + l.step * first_turn c (t + 1))))
        ≡ ltb j (first_turn c (t + 1))
    tests t j true is = turn_there l.low.value (bound_of l) l.step j some ∙ ap (ltb j) (sym (ap (λ k. k * n / c.tiles) (eqb-true (t + 1) c.tiles is) ∙ last_is_all n c.tiles (omega arith)))
    tests t j false is = turn_before l.low.value l.step j (first_turn c (t + 1)) some

-- ---- the whole program

module _ (c : Cut) (front back : ProgramText) (can : CanCut (front ++ function_item c.function ∷ back) c) (formed : IsWellFormed (front ++ function_item c.function ∷ back)) where
  abbrev f : FunctionText
  f = c.function

  abbrev l : Loop
  l = c.loop

  abbrev p : ProgramText
  p = front ++ function_item f ∷ back

  abbrev q : ProgramText
  q = tiled c p

  abbrev first : ℕ
  first = length (functions_of front)

  abbrev fs : List FunctionText
  fs = functions_of p

  abbrev fs' : List FunctionText
  fs' = functions_of q

  abbrev taken : List Text
  taken = item_names p

  abbrev within : List Bool
  within = reached fs

  abbrev gs : List GlobalVariable
  gs = [] ++ globals_of front

  abbrev earlier : List Text
  earlier = [] ++ item_names front

  rest : in_items fs taken within (0 + first) gs earlier (function_item f ∷ back) ≡ []
  rest = standing.rest c front back can.shape formed

  function_formed : in_function fs taken (0 + first) (is_in_set within (0 + first)) gs earlier f ≡ []
  function_formed = standing.function_formed c front back can.shape formed

  heading : in_heading earlier f ≡ []
  heading = standing.heading c front back can.shape formed

  front_apart : has_name (names_of_functions (functions_of front)) f.name ≡ false
  front_apart = standing.front_apart c front back can.shape formed

  back_apart : has_name (names_of_functions (functions_of back)) f.name ≡ false
  back_apart = standing.back_apart c front back can.shape formed

  shape : IsShape f l
  shape = standing.shape c front back can.shape formed

  one : IsMarkedOne f
  one = standing.one c front back can.shape formed

  pub free : (t : ℕ) → t < c.tiles → has_name (used_names p) (tile_name f.name t) ≡ false
  free t lt = free_of (used_names p) f.name c.tiles 0 can.untaken t (omega arith) (omega arith)

  pub names : Renamed f c.tiles first fs fs'
  names = renamed c front back can.several can.few front_apart back_apart free shape.no_parameters one.void

  -- ---- the loop
  abbrev scope : Scope
  scope = scope_in fs gs f

  abbrev place : Around
  place = around scope (0 + first) (is_in_set within (0 + first)) f

  loop_formed : in_statement place (statement_of l) ≡ []
  loop_formed = standing.loop_formed c front back can.shape formed

  is_a_loop : IsLoop scope l.names (low_end l) (high_end l) l.step l.body
  is_a_loop = standing.is_a_loop c front back can.shape formed

  step_there : 0 < l.step
  step_there = standing.step_there c front back can.shape formed

  abbrev k : ℕ
  k = loop_local (meaning_of scope l.names.first)

  abbrev locals : List Text
  locals = names_of f.locals

  abbrev base : List ℕ
  base = constant_words f.locals

  numbered : Numbered scope locals
  numbered = are_numbered scope f.locals (ap (λ ps. parameter_names ps ++ local_names f.locals) shape.no_parameters)

  k_there : number_of locals l.names.first ≡ Some k
  k_there = sym (numbered.number l.names.first) ∙ int_local_numbered (meaning_of scope l.names.first) is_a_loop.variable

  cuttable : Cuttable place locals l.body k l.step base
  cuttable = record {
    numbered = numbered;
    uncalled = shape.uncalled;
    formed = none_right (in_names l.at scope l.names ++ if_at (not (is_loop scope l.names (low_end l) (high_end l) l.step l.body)) l.at LoopForm
        ++ in_expression scope (low_end l) ++ in_expression scope (high_end l)) (in_statement place l.body) loop_formed;
    uncarried = can.uncarried;
    alone = left_alone locals l.names.first k k_there l.body is_a_loop.alone;
    there = subst (λ n. k < n) (length-map f.locals (λ (v : LocalVariable). v.name)
        ∙ sym (length-map f.locals (λ (v : LocalVariable). constant_word v.value)))
        (subst (λ o. IfSome o (λ n. n < length locals)) k_there (within_names locals l.names.first));
  }

  -- ---- the routines

  mark_kept : (t : ℕ) → is_some (option_map (tile_mark c t) f.mark) ≡ true
  mark_kept t = by f.mark shape.marked
    where
      by : (m : Option MarkText) → is_some m ≡ true → is_some (option_map (tile_mark c t) m) ≡ true
      by (Some m) e = refl
      by None e = absurd (true≢false (sym e))

  module _ (turns : ℕ) (room : 2147483648 ≤ turns) where
    abbrev all : ℕ → ℕ
    all n = turns

    abbrev ps : List Routine
    ps = resolve_items fs all 0 [] p

    abbrev qs : List Routine
    qs = resolve_items fs' all 0 [] q

    abbrev body_of : Steps
    body_of = resolve_statement scope all 1 l.body Done

    function_is_loop : IsLoopRoutine (resolve_function fs all 0 gs f) base l.at k l.low.value l.high.value l.closed l.step turns body_of
    function_is_loop = record {
      low_at = l.low.at;
      low_kind = l.low.kind;
      high_at = l.high.at;
      high_kind = l.high.kind;
      locals_are = λ s. constants_declared (scope_at fs gs f) everywhere f.locals (record s { locals = [] }) shape.constants;
      body_is = ap (λ b. resolve_statements scope all 0 b Done) shape.body;
      result_is = ap (option_map (resolve_term scope)) one.no_result;
    }

    tile_is_loop : (t : ℕ) → IsLoopRoutine (resolve_function fs' all 0 gs (tile_of c t)) base l.at k (l.low.value + l.step * first_turn c t) (high_of c t) (closed_of c t) l.step turns body_of
    tile_is_loop t = record {
      low_at = l.low.at;
      low_kind = l.low.kind;
      high_at = l.high.at;
      high_kind = l.high.kind;
      locals_are = λ s. constants_declared (scope_at fs' gs f) everywhere f.locals (record s { locals = [] }) shape.constants;
      body_is = λ i. For l.at (same_variable fs' scope l.names.first i) (Constant l.low.at (low_of c t) l.low.kind) (closed_of c t)
          (Constant l.high.at (high_of c t) l.high.kind) l.step turns (same_statement fs' scope turns l.body 1 1 Done Done shape.uncalled refl i) Done;
      result_is = ap (option_map (resolve_term (with_functions fs' scope))) one.no_result;
    }

    seg_of : (g : ℕ) (r : Routine) → (g ≡ first → ⊥) → slice_get ps g ≡ Some r →
        Seg c front back can.several can.few front_apart back_apart free shape.no_parameters one.void turns within taken r
        (slice_get qs (renumbered first c.tiles g))
    seg_of = other_there c front back can.several can.few front_apart back_apart free shape.no_parameters one.void turns within taken (item_breaches p formed)

    other_of : ℕ → Routine → Routine
    other_of g r = unwrap_or (slice_get qs (renumbered first c.tiles g)) r

    others : (g : ℕ) (r : Routine) (calls calls' : Calls) (ws : List ℕ) (u v : ProgramState) → (g ≡ first → ⊥) → slice_get ps g ≡ Some r →
        CallsAlike first c.tiles calls calls' → Alike first c.tiles u v →
        Joint (λ (a b : ℕ × ProgramState). (a.0 ≡ b.0) × Alike first c.tiles a.1 b.1) (enter calls everywhere r g ws u) (enter calls' everywhere (other_of g r) (renumbered first c.tiles g) ws v)
    unfolding other_of
    others g r calls calls' ws u v other is alike a =
        let s = seg_of g r other is in
        let h = s.text in
        let hs = scope_in fs s.globals h in
        let new = resolve_function fs' all 0 s.globals (function_with_tiles c h) in
        let around_it = around hs s.number (is_in_set within s.number) h in
        let rs = in_regions (scope_at fs s.globals h) (regions_of h.mark) in
        let hd = in_heading s.earlier h in
        let pr = in_parameters taken h.params in
        let lo = in_locals (taken ++ parameter_texts h.params) (scope_at fs s.globals h) h.locals in
        let st = in_statements around_it h.body in
        let body_formed : in_statements around_it h.body ≡ [] = none_right (rs ++ hd ++ pr ++ lo) st (none_left (rs ++ hd ++ pr ++ lo ++ st) (in_option hs h.result) s.formed) in
        subst (λ x. Joint (λ (a b : ℕ × ProgramState). (a.0 ≡ b.0) × Alike first c.tiles a.1 b.1) (enter calls everywhere x g ws u)
        (enter calls' everywhere (other_of g r) (renumbered first c.tiles g) ws v)) (sym s.is)
        (subst (λ x. Joint (λ (a b : ℕ × ProgramState). (a.0 ≡ b.0) × Alike first c.tiles a.1 b.1)
        (enter calls everywhere (resolve_function fs all 0 s.globals h) g ws u) (enter calls' everywhere x (renumbered first c.tiles g) ws v))
        (sym (ap (λ o. unwrap_or o r) s.there))
        (enter_alike calls calls' (resolve_function fs all 0 s.globals h) new g ws u v other refl (sym (same_locals fs' (scope_at fs s.globals h) h.locals)) (sym (same_option fs' hs h.result))
        (statements_alike around_it f c.tiles first fs' names turns calls calls' alike (Alike first c.tiles) h.body 0 0 Done Done body_formed (λ x y b. fine b)) a))

    are_cut : AreCut first c.tiles ps qs
    unfolding other_of
    are_cut = record {
      some = (let s = can.several in omega arith);
      function = resolve_function fs all 0 gs f;
      function_is = function_there c front back can.several can.few front_apart back_apart free shape.no_parameters one.void turns within taken;
      tile = λ t. resolve_function fs' all 0 gs (tile_of c t);
      tile_is = tile_there c front back can.several can.few front_apart back_apart free shape.no_parameters one.void turns within taken;
      other = other_of;
      other_is = λ g r no_ is. let s = seg_of g r no_ is in s.there ∙ ap Some (sym (ap (λ o. unwrap_or o r) s.there));
      others_enter = others;
      function_enters = λ calls callees calls' enters u v a.
          function_alike place locals l.body k l.step l.low.value l.high.value l.closed base cuttable all 1 l.at c.tiles (turns_of l) turns first
          (first_turn c) (closed_of c) (high_of c) (let s = can.several in omega arith)
          (is_cut c turns step_there shape.low_small shape.high_small can.several can.enough room) calls callees (resolve_function fs all 0 gs f)
          (λ t. resolve_function fs' all 0 gs (tile_of c t)) shape.marked mark_kept
          function_is_loop (λ t lt. tile_is_loop t) calls' enters u v a;
    }

  -- ---- jobs

  pub globals_tiled : globals_of q ≡ globals_of p
  globals_tiled =
      ap globals_of (tiled_are c front back can.several can.few front_apart back_apart free shape.no_parameters one.void)
      ∙ globals_append (map (item_of c) front) (tiles_from c 0 c.tiles ++ map (item_of c) back)
      ∙ (λ i. plain_globals c front i ++ globals_append (tiles_from c 0 c.tiles) (map (item_of c) back) i)
      ∙ (λ i. globals_of front ++ (globals_of_tiles c 0 c.tiles i ++ plain_globals c back i))
      ∙ sym (globals_append front (function_item f ∷ back))

  counted : (turns : ℕ) → length (resolve_items fs' (λ n. turns) 0 [] q) ≡ renumbered first c.tiles (length (resolve_items fs (λ n. turns) 0 [] p))
  counted turns =
      let after = functions_of back in
      let old : length (resolve_items fs (λ n. turns) 0 [] p) ≡ first + suc (length after) = routines_count fs (λ n. turns) 0 [] p
      ∙ ap length (functions_are c front back can.several can.few front_apart back_apart free shape.no_parameters one.void)
      ∙ length-append (functions_of front) (f ∷ after) in
      let new : length (resolve_items fs' (λ n. turns) 0 [] q) ≡ first + (c.tiles + length after) =
      routines_count fs' (λ n. turns) 0 [] q ∙ ap length (functions_tiled c front back can.several can.few front_apart back_apart free shape.no_parameters one.void)
      ∙ length-append (map (function_with_tiles c) (functions_of front)) (tile_functions c 0 c.tiles ++ map (function_with_tiles c) after)
      ∙ (λ i. length-map (functions_of front) (function_with_tiles c) i + length-append (tile_functions c 0 c.tiles) (map (function_with_tiles c) after) i)
      ∙ (λ i. first + (tiles_count c 0 c.tiles i + length-map after (function_with_tiles c) i)) in
      new ∙ (let z : first + (c.tiles + length after) ≡ first + suc (length after) - 1 + c.tiles = omega arith in z)
      ∙ sym (renumbered_above first c.tiles (first + suc (length after)) (omega arith)) ∙ ap (renumbered first c.tiles) (sym old)

  pub job_listed : list_any (λ (h : FunctionText). is_job_name h.name) fs ≡ true
  job_listed =
      let any = list_any (λ (h : FunctionText). is_job_name h.name) fs in
      named_rule any (none_right (in_limits (globals_of p) fs) (if_broken (not any) None NoJob)
      (none_left (in_limits (globals_of p) fs ++ if_broken (not any) None NoJob) (in_items fs taken within 0 [] [] p) (all_breaches p formed)))
    where
      named_rule : (b : Bool) → if_broken (not b) None NoJob ≡ [] → b ≡ true
      named_rule true e = refl
      named_rule false e = cc

  -- where `job` stands
  abbrev Job : Type 0
  Job = (g : ℕ × FunctionText) × (find_function fs (codes "job") ≡ Some g)

  job : Job
  job = by fs 0 job_listed
    where
      by : (hs : List FunctionText) (n : ℕ) → list_any (λ (h : FunctionText). is_job_name h.name) hs ≡ true →
          (g : ℕ × FunctionText) × (find_named (λ (h : FunctionText). h.name) (codes "job") n hs ≡ Some g)
      by [] n e = absurd (true≢false (sym e))
      by (h ∷ hs) n e = on (is_job_name h.name) e (by hs (n + 1))
        where
          on : (b : Bool) → (b || list_any (λ (h : FunctionText). is_job_name h.name) hs) ≡ true →
              (list_any (λ (h : FunctionText). is_job_name h.name) hs ≡ true →
              (g : ℕ × FunctionText) × (find_named (λ (h : FunctionText). h.name) (codes "job") (n + 1) hs ≡ Some g)) →
              (g : ℕ × FunctionText) × (cond b (Some (n, h)) (find_named (λ (h : FunctionText). h.name) (codes "job") (n + 1) hs) ≡ Some g)
          on true k next = ((n, h), refl)
          on false k next = next k

  abbrev P : Resolved
  P = resolve unlimited.turns p

  abbrev Q : Resolved
  Q = resolve unlimited.turns q

  jobs_alike : (jobs : ℕ) (u v : ProgramState) → Alike first c.tiles u v → Joint (Alike first c.tiles) (do_jobs unlimited P jobs u) (do_jobs unlimited Q jobs v)
  jobs_alike zero u v a = fine a
  jobs_alike (suc jobs) u v a =
      let g = job.0 in
      let other = names.others (codes "job") g (flipped f.name (codes "job") one.other) job.1 in
      let here : P.job ≡ g.0 = ap (λ o. unwrap_or (option_map (λ (x : ℕ × FunctionText). x.0) o) (length fs)) job.1 in
      let there : Q.job ≡ renumbered first c.tiles g.0 = ap (λ o. unwrap_or o (length fs')) other.1 in
      let calls = all_calls first c.tiles P.routines Q.routines (are_cut (2 ^ 32) (omega arith)) (length P.routines) (omega arith) in
      joint_then (λ (r : ℕ × ProgramState). do_jobs unlimited P jobs r.1) (λ (r : ℕ × ProgramState). do_jobs unlimited Q jobs r.1)
      (subst (λ n. Joint (λ (x y : ℕ × ProgramState). (x.0 ≡ y.0) × Alike first c.tiles x.1 y.1)
      (calls_below unlimited P.routines (length P.routines) everywhere P.job [] u) (calls_below unlimited Q.routines n everywhere Q.job [] v))
      (sym (counted (2 ^ 32)))
      (subst (λ j. Joint (λ (x y : ℕ × ProgramState). (x.0 ≡ y.0) × Alike first c.tiles x.1 y.1)
      (calls_below unlimited P.routines (length P.routines) everywhere P.job [] u)
      (calls_below unlimited Q.routines (renumbered first c.tiles (length P.routines)) everywhere j [] v)) (sym there)
      (subst (λ j. Joint (λ (x y : ℕ × ProgramState). (x.0 ≡ y.0) × Alike first c.tiles x.1 y.1)
      (calls_below unlimited P.routines (length P.routines) everywhere j [] u)
      (calls_below unlimited Q.routines (renumbered first c.tiles (length P.routines)) everywhere (renumbered first c.tiles g.0) [] v)) (sym here)
      (calls.other g.0 [] u v other.0 a))))
      (λ x y b. jobs_alike jobs x.1 y.1 b.1)

  start_alike : (inputs : List ℕ) → Alike first c.tiles (start P inputs) (start Q inputs)
  start_alike inputs = record { same = λ i. record (start P inputs) { globals = map initial_words (sym globals_tiled i) }; marks = no_marks }

  pub same_runs : (inputs : List ℕ) (jobs : ℕ) → AreSame first c.tiles (source p inputs jobs) (source q inputs jobs)
  same_runs inputs jobs = ends (jobs_alike jobs (start P inputs) (start Q inputs) (start_alike inputs))
    where
      ends : {o o' : Outcome ProgramState} → Joint (Alike first c.tiles) o o' → AreSame first c.tiles o o'
      ends (fine a) = record {
        outputs = ap (λ (s : ProgramState). s.outputs) a.same;
        globals = ap (λ (s : ProgramState). s.globals) a.same;
        used = ap (λ (s : ProgramState). s.used) a.same;
        marks = a.marks;
      }
      ends (wrong line) = refl

  number_there : number_named fs f.name ≡ Some first
  number_there = ap (option_map (λ (x : ℕ × FunctionText). x.0)) (names.here f.name (same_name f.name))

-- ---- wherever the function stands

pub tiles_same : (p : ProgramText) (c : Cut) → IsWellFormed p → CanCut p c → (n : ℕ) → number_named (functions_of p) c.function.name ≡ Some n →
    (inputs : List ℕ) (jobs : ℕ) → AreSame n c.tiles (source p inputs jobs) (source (tiled c p) inputs jobs)
tiles_same p c formed can n is inputs jobs =
    let s = split_at p c.function.name c.function can.named in
    let whole = s.front ++ function_item c.function ∷ s.back in
    let can_cut : CanCut whole c = subst (λ x. CanCut x c) s.is can in
    let well : IsWellFormed whole = subst (λ x. IsWellFormed x) s.is formed in
    let number : Some (length (functions_of s.front)) ≡ Some n = sym (number_there c s.front s.back can_cut well) ∙ ap (λ x. number_named (functions_of x) c.function.name) (sym s.is) ∙ is in
    let same : length (functions_of s.front) ≡ n = cc in
    subst (λ x. AreSame n c.tiles (source x inputs jobs) (source (tiled c x) inputs jobs)) (sym s.is)
    (subst (λ k. AreSame k c.tiles (source whole inputs jobs) (source (tiled c whole) inputs jobs)) same (same_runs c s.front s.back can_cut well inputs jobs))
