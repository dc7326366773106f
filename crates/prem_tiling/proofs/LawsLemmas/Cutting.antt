-- A call of a function does what calls of its tiles do, one behind the other.
use Rattle.std.proofs.Common.{◌≡◌, ℕ, zero, suc, ◌+◌, ◌-◌, ◌*◌, ◌<◌, ◌≤◌, Bool, true, false, List, [], ◌∷◌, ◌++◌, refl, ap, sym, ◌∙◌, subst, arith, None, Ok, Err, eqb, ltb, true≢false}
use Rattle.prem_tiling.proofs.Prelude.{Around, Outcome, and_then, resolve_statement, Constant, Steps, Done, For, Routine, everywhere, ProgramState, MarkedCall, Calls, with_local, in_bound}
use Rattle.prem_tiling.proofs.Prelude.{loop_test, loop_step, counting, run, declare, result_of, with_mark, is_marked, leave, enter, Text, Statement, Place, AreTiles, MarksTiled, no_marks}
use Rattle.prem_tiling.proofs.Prelude.{tile_marks, stale_first, value_in, Kind, Int, mul-zero, append-nil, length-set, get_or-set_same}
use Rattle.prem_tiling.proofs.LawsLemmas.Alike.{Alike, calls_all}
use Rattle.prem_tiling.proofs.LawsLemmas.Chain.{joint_here, fresh, Mid, tile_call, tiles_run, Ended, all_tiles}
use Rattle.prem_tiling.proofs.LawsLemmas.Enter.{marks_append}
use Rattle.prem_tiling.proofs.LawsLemmas.Joint.{Joint, fine, wrong}
use Rattle.prem_tiling.proofs.LawsLemmas.Laps.{laps, counting_laps, Cuttable, turn_by, Lap, turn_lap}
use Rattle.prem_tiling.proofs.LawsLemmas.Numbers.{bound_with, in_bound_is, small_is_itself}
use Rattle.prem_tiling.proofs.LawsLemmas.Tied.{neither_left, index-set_other}

-- a call that gives no result, and one that leaves a routine
abbrev pub paired : ProgramState → Outcome (ℕ × ProgramState)
paired x = Ok (0, x)

abbrev pub leaving : Routine → ℕ → ProgramState → ProgramState → Outcome (ℕ × ProgramState)
leaving r g s x = Ok (0, leave r g s x)

-- ---- a routine that is one loop between constants

-- its locals begin with the given words
pub record IsLoopRoutine (r : Routine) (base : List ℕ) (at : Place) (k low high : ℕ) (closed : Bool) (step most : ℕ) (body : Steps) : Type 0 where
  pub low_at : Place
  pub low_kind : Kind
  pub high_at : Place
  pub high_kind : Kind
  pub locals_are : (s : ProgramState) → declare everywhere r.locals (record s { locals = [] }) ≡ Ok (record s { locals = base })
  pub body_is : r.body ≡ For at k (Constant low_at low low_kind) closed (Constant high_at high high_kind) step most body Done
  pub result_is : r.result ≡ None

then_done : {A : Type 0} (calls : Calls) (o : Outcome ProgramState) (g : ProgramState → Outcome A) → and_then (and_then o (run everywhere calls Done)) g ≡ and_then o g
then_done calls (Ok s) g = refl
then_done calls (Err line) g = refl

-- the turns of such a routine
abbrev pub loop_run : (at : Place) (k low high : ℕ) (closed : Bool) (step most : ℕ) (body : Steps) (base : List ℕ) (high_at : Place) (high_kind : Kind) → Calls → ProgramState → Outcome ProgramState
loop_run at k low high closed step most body base high_at high_kind calls s =
    counting at.line most (loop_test everywhere k closed (Constant high_at high high_kind))
    (λ t. and_then (run everywhere calls body t) (loop_step at.line k step)) (with_local k low (record s { locals = base }))

loop_entered : (r : Routine) (base : List ℕ) (at : Place) (k low high : ℕ) (closed : Bool) (step most : ℕ) (body : Steps)
    (is : IsLoopRoutine r base at k low high closed step most body) (calls : Calls) (g : ℕ) (s : ProgramState) →
    enter calls everywhere r g [] s ≡ and_then (loop_run at k low high closed step most body base is.high_at is.high_kind calls s) (leaving r g s)
loop_entered r base at k low high closed step most body is calls g s =
    ap (λ o. and_then o (λ t. and_then (run everywhere calls r.body t) (λ x. and_then (result_of everywhere r.result x) (λ w. Ok (w, leave r g s x))))) (is.locals_are s)
    ∙ (λ i. and_then (run everywhere calls (is.body_is i) (record s { locals = base })) (λ x. and_then (result_of everywhere (is.result_is i) x) (λ w. Ok (w, leave r g s x))))
    ∙ then_done calls (loop_run at k low high closed step most body base is.high_at is.high_kind calls s) (leaving r g s)

-- ---- its turns, counted

module _ (around : Around) (locals : List Text) (body : Statement) (k step low : ℕ) (base : List ℕ)
    (cuttable : Cuttable around locals body k step base) (turns : ℕ → ℕ) (n line : ℕ) (calls : Calls) where
  abbrev turn : ProgramState → Outcome ProgramState
  turn u = turn_by around locals body k step low base cuttable turns n line everywhere calls calls calls u

  abbrev I : List MarkedCall → ℕ → ProgramState → Type 0
  I ms j u = Lap around locals body k step low base cuttable turns n line everywhere calls calls ms ms j u u

  first_lap : (j : ℕ) (s : ProgramState) → low + step * j ≤ 2147483647 → I s.marks j (with_local k (low + step * j) (record s { locals = base }))
  first_lap j s small =
      let there = cuttable.there in
      record {
        same = refl;
        left = refl;
        right = refl;
        long = refl;
        size = length-set base k (low + step * j);
        alike = λ i e. refl;
        kept = λ i e. index-set_other base k i (low + step * j) (neither_left (eqb k i) (stale_first locals body i) e);
        at = get_or-set_same base k (low + step * j) 0 there;
        small = small;
      }

  piece_is_laps : (closed : Bool) (high : ℕ) (high_at : Place) (high_kind : Kind) (end : ℕ) → high ≤ 2147483647 → ((j : ℕ) → ltb (low + step * j) (bound_with closed high) ≡ ltb j end) →
      (first m most : ℕ) → first + m ≡ end → m ≤ most → low + step * first ≤ 2147483647 → (s : ProgramState) →
      counting line most (loop_test everywhere k closed (Constant high_at high high_kind)) turn
      (with_local k (low + step * first) (record s { locals = base })) ≡ laps m turn (with_local k (low + step * first) (record s { locals = base }))
  piece_is_laps closed high high_at high_kind end high_small tests first m most ends enough small s =
      counting_laps (I s.marks) (loop_test everywhere k closed (Constant high_at high high_kind)) turn end tested turned line most m first
      (with_local k (low + step * first) (record s { locals = base })) enough ends (first_lap first s small)
    where
      tested : (j : ℕ) (u : ProgramState) → I s.marks j u → loop_test everywhere k closed (Constant high_at high high_kind) u ≡ Ok (ltb j end)
      tested j u i =
          (λ p. Ok (in_bound closed ((ap (value_in Int) i.at ∙ small_is_itself (low + step * j) i.small) p) (small_is_itself high high_small p)))
          ∙ ap Ok (in_bound_is closed (low + step * j) high ∙ tests j)

      turned : (j : ℕ) (u v : ProgramState) → I s.marks j u → turn u ≡ Ok v → I s.marks (j + 1) v
      turned j u v i e = joint_here (subst
          (λ o. Joint (Lap around locals body k step low base cuttable turns n line everywhere calls calls s.marks s.marks (j + 1)) o o) e
          (turn_lap around locals body k step low base cuttable turns n line everywhere calls calls s.marks s.marks j u u i))

-- ---- the function and its tiles

-- the tiles of a loop: where each begins, and what tells its end
pub record IsCut (step low high : ℕ) (closed : Bool) (tiles turns most : ℕ) (firsts : ℕ → ℕ) (closes : ℕ → Bool) (highs : ℕ → ℕ) : Type 0 where
  pub begins : firsts 0 ≡ 0
  pub ends : firsts tiles ≡ turns
  pub rises : (t : ℕ) → firsts t ≤ firsts (t + 1)
  pub enough : turns ≤ most
  pub high_small : high ≤ 2147483647
  pub lows_small : (t : ℕ) → t < tiles → low + step * firsts t ≤ 2147483647
  pub highs_small : (t : ℕ) → t < tiles → highs t ≤ 2147483647
  pub tests : (j : ℕ) → ltb (low + step * j) (bound_with closed high) ≡ ltb j turns
  pub tile_tests : (t j : ℕ) → t < tiles → ltb (low + step * j) (bound_with (closes t) (highs t)) ≡ ltb j (firsts (t + 1))

module _ (around : Around) (locals : List Text) (body : Statement) (k step low high : ℕ) (closed : Bool) (base : List ℕ)
    (cuttable : Cuttable around locals body k step base) (turns : ℕ → ℕ) (n : ℕ) (at : Place) (tiles count most first : ℕ) (firsts : ℕ → ℕ)
    (closes : ℕ → Bool) (highs : ℕ → ℕ)
    (some : 0 < tiles) (cut : IsCut step low high closed tiles count most firsts closes highs) (calls : Calls) (callees : ℕ → Calls) (r : Routine)
    (routines : ℕ → Routine) (marked : is_marked r ≡ true) (all_marked : (t : ℕ) → is_marked (routines t) ≡ true) where
  abbrev steps : Steps
  steps = resolve_statement around.scope turns n body Done

  abbrev one_turn : Calls → ProgramState → Outcome ProgramState
  one_turn c u = and_then (run everywhere c steps u) (loop_step at.line k step)

  abbrev tile_at : ℕ → ProgramState → Outcome ProgramState
  tile_at t s = tile_call around locals body k step low base cuttable turns n at.line everywhere calls callees first firsts cut.rises routines all_marked t s

  abbrev tiles_at : ℕ → ℕ → ProgramState → Outcome ProgramState
  tiles_at m t s = tiles_run around locals body k step low base cuttable turns n at.line everywhere calls callees first firsts cut.rises routines all_marked m t s

  tile_entered : (t : ℕ) → t < tiles → IsLoopRoutine (routines t) base at k (low + step * firsts t) (highs t) (closes t) step most steps → (s : ProgramState) →
      enter (callees t) everywhere (routines t) (first + t) [] s ≡ and_then (tile_at t s) paired
  tile_entered t lt is s =
      let m = firsts (t + 1) - firsts t in
      let more = cut.rises t in
      let begin = fresh around locals body k step low base cuttable turns n at.line everywhere calls callees s (low + step * firsts t) in
      let all = below_all t lt in
      loop_entered (routines t) base at k (low + step * firsts t) (highs t) (closes t) step most steps is (callees t) (first + t) s
      ∙ ap (λ o. and_then o (leaving (routines t) (first + t) s))
      (piece_is_laps around locals body k step low base cuttable turns n at.line (callees t) (closes t) (highs t) is.high_at is.high_kind
      (firsts (t + 1)) (cut.highs_small t lt) (λ j. cut.tile_tests t j lt) (firsts t) m most (omega arith) (omega arith) (cut.lows_small t lt) s)
      ∙ split (laps m (one_turn (callees t)) begin) (routines t) (first + t)
    where
      rise_to : (t r : ℕ) → firsts t ≤ firsts (t + r)
      rise_to t zero = let e : firsts (t + 0) ≡ firsts t = ap firsts (omega arith) in omega arith
      rise_to t (suc r) = let e : firsts (t + suc r) ≡ firsts (t + 1 + r) = ap firsts (omega arith) in let one = cut.rises t in let rest = rise_to (t + 1) r in omega arith

      below_all : (t : ℕ) → t < tiles → firsts (t + 1) ≤ most
      below_all t lt = let e : firsts (t + 1 + (tiles - (t + 1))) ≡ firsts tiles = ap firsts (omega arith) in let up =
          rise_to (t + 1) (tiles - (t + 1)) in let last = cut.ends in let room = cut.enough in omega arith

      split : (o : Outcome ProgramState) (q : Routine) (g : ℕ) → and_then o (leaving q g s) ≡ and_then (and_then o (λ v. Ok (leave q g s v))) paired
      split (Ok x) q g = refl
      split (Err line) q g = refl

  entered_next : {A : Type 0} (o : Outcome ProgramState) (g : ProgramState → Outcome A) → and_then (and_then o paired) (λ (x : ℕ × ProgramState). g x.1) ≡ and_then o g
  entered_next (Ok x) g = refl
  entered_next (Err line) g = refl

  calls_are_tiles : (calls' : Calls) → ((t : ℕ) → t < tiles → (s : ProgramState) → calls' everywhere (first + t) [] s ≡ and_then (tile_at t s) paired) →
      (m t : ℕ) → t + m ≡ tiles → (s : ProgramState) → calls_all calls' first m t s ≡ tiles_at m t s
  calls_are_tiles calls' one zero t ends s = refl
  calls_are_tiles calls' one (suc m) t ends s =
      ap (λ o. and_then o (λ (x : ℕ × ProgramState). calls_all calls' first m (t + 1) x.1)) (one t (omega arith) s) ∙ entered_next (tile_at t s) (calls_all calls' first m (t + 1))
      ∙ ap (and_then (tile_at t s)) (λ i x. calls_are_tiles calls' one m (t + 1) (omega arith) x i)

  -- what a call of the function leaves, and what the calls of its tiles leave
  ended_alike : (u v x y : ProgramState) → Alike first tiles u v →
      Ended around locals body k step low base cuttable turns n at.line everywhere calls callees first firsts cut.rises routines all_marked u.marks
      v.locals tiles 0 v x y → Alike first tiles (leave r first u x) y
  ended_alike u v x y a end = record {
    same = (let mid = end.mid in let caller : u.locals ≡ y.locals = ap (λ (b : ProgramState). b.locals) a.same ∙ sym mid.locals_are in λ i. record (mid.same i) { locals = caller i });
    marks = subst (λ ms. MarksTiled first tiles ms y.marks) (sym noted)
        (subst (λ ns. MarksTiled first tiles (u.marks ++ mark ∷ []) ns) (sym (end.marks_are ∙ ap (λ ts. v.marks ++ ts) (sym (append-nil end.tiles))))
        (marks_append a.marks (tile_marks mark end.tiles refl are no_marks)));
  }
    where
      mark : MarkedCall
      mark = record { function = first; before = u.globals; after = x.globals }

      with_it : (b : Bool) (ms : List MarkedCall) → b ≡ true → with_mark b mark ms ≡ ms ++ mark ∷ []
      with_it true ms e = refl
      with_it false ms e = absurd (true≢false (sym e))

      noted : (leave r first u x).marks ≡ u.marks ++ mark ∷ []
      noted = let mid = end.mid in with_it (is_marked r) x.marks marked ∙ ap (λ ms. ms ++ mark ∷ []) mid.marks

      are : AreTiles first tiles u.globals x.globals end.tiles
      are = let here : first + 0 ≡ first = omega arith in
          subst (λ g. AreTiles first tiles g x.globals end.tiles) (λ i. (sym a.same i).globals) (subst (λ k. AreTiles k tiles v.globals x.globals end.tiles) here end.are)

  pub function_alike : IsLoopRoutine r base at k low high closed step most steps →
      ((t : ℕ) → t < tiles → IsLoopRoutine (routines t) base at k (low + step * firsts t) (highs t) (closes t) step most steps) →
      (calls' : Calls) → ((t : ℕ) → t < tiles → (s : ProgramState) → calls' everywhere (first + t) [] s ≡ enter (callees t) everywhere (routines t) (first + t) [] s) →
      (u v : ProgramState) → Alike first tiles u v →
      Joint (λ (a : ℕ × ProgramState) (b : ProgramState). Alike first tiles a.1 b) (enter calls everywhere r first [] u) (calls_all calls' first tiles 0 v)
  function_alike is are calls' enters u v a =
      let none : low + step * firsts 0 ≡ low = ap (λ j. low + step * j) cut.begins ∙ (let z = mul-zero step in omega arith) in
      let begin = with_local k low (record u { locals = base }) in
      let whole : loop_run at k low high closed step most steps base is.high_at is.high_kind calls u ≡ laps count (one_turn calls) begin =
      subst (λ w. counting at.line most (loop_test everywhere k closed (Constant is.high_at high is.high_kind)) (one_turn calls)
      (with_local k w (record u { locals = base })) ≡ laps count (one_turn calls) (with_local k w (record u { locals = base }))) none
      (subst (λ j. counting at.line most (loop_test everywhere k closed (Constant is.high_at high is.high_kind)) (one_turn calls)
      (with_local k (low + step * j) (record u { locals = base }))
      ≡ laps count (one_turn calls) (with_local k (low + step * j) (record u { locals = base }))) (sym cut.begins)
      (piece_is_laps around locals body k step low base cuttable turns n at.line calls closed high is.high_at is.high_kind count cut.high_small
      cut.tests 0 count most (omega arith) cut.enough
      (let small = cut.lows_small 0 some in let e : low + step * 0 ≡ low + step * firsts 0 = ap (λ j. low + step * j) (sym cut.begins) in
      omega arith) u)) in
      let all : 0 + tiles ≡ tiles = omega arith in
      let number : firsts (0 + tiles) - firsts 0 ≡ count = let e : firsts (0 + tiles) ≡ firsts tiles = ap firsts all in let ends = cut.ends in let begins = cut.begins in omega arith in
      subst (λ o. Joint (λ (a : ℕ × ProgramState) (b : ProgramState). Alike first tiles a.1 b) o (calls_all calls' first tiles 0 v))
      (sym (loop_entered r base at k low high closed step most steps is calls first u ∙ ap (λ o. and_then o (leaving r first u)) whole))
      (subst (λ o. Joint (λ (a : ℕ × ProgramState) (b : ProgramState). Alike first tiles a.1 b)
      (and_then (laps count (one_turn calls) begin) (leaving r first u)) o)
      (sym (calls_are_tiles calls' (λ t lt s. enters t lt s ∙ tile_entered t lt (are t lt) s) tiles 0 all v))
      (joint_left (leaving_state u) (subst
      (λ m. Joint (Ended around locals body k step low base cuttable turns n at.line everywhere calls callees first firsts cut.rises routines
      all_marked u.marks v.locals tiles 0 v) (laps m (one_turn calls) begin) (tiles_at tiles 0 v)) number
      (all_tiles around locals body k step low base cuttable turns n at.line everywhere calls callees first firsts cut.rises routines all_marked u.marks v.locals tiles 0 begin v (mid_first none)))
      (λ x y end. ended_alike u v x y a end)))
    where
      leaving_state : ProgramState → ProgramState → ℕ × ProgramState
      leaving_state s x = (0, leave r first s x)

      joint_left : {P : ProgramState → ProgramState → Type 0} {o o' : Outcome ProgramState} (g : ProgramState → ℕ × ProgramState) → Joint P o o' →
          ((x y : ProgramState) → P x y → Alike first tiles (g x).1 y) →
          Joint (λ (a : ℕ × ProgramState) (b : ProgramState). Alike first tiles a.1 b) (and_then o (λ x. Ok (g x))) o'
      joint_left g (fine p) more = fine (more _ _ p)
      joint_left g (wrong line) more = wrong line

      mid_first : low + step * firsts 0 ≡ low →
          Mid around locals body k step low base cuttable turns n at.line everywhere calls callees u.marks v.locals (firsts 0)
          (with_local k low (record u { locals = base })) v
      mid_first none =
          let there = cuttable.there in
          record {
            same = λ i. record (a.same i) { locals = [] };
            marks = refl;
            locals_are = refl;
            size = length-set base k low;
            kept = λ i e. index-set_other base k i low (neither_left (eqb k i) (stale_first locals body i) e);
            at = get_or-set_same base k low 0 there ∙ sym none;
            small = cut.lows_small 0 some;
          }
