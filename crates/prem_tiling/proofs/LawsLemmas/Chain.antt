-- The turns of a loop are those of its tiles: one tile begins where the one before it ended.
use Rattle.std.proofs.Common.{◌≡◌, ℕ, zero, suc, ◌+◌, ◌-◌, ◌*◌, ◌≤◌, Bool, true, false, ◌||◌, List, [], ◌∷◌, ◌++◌, length, set, refl, ap, sym, ◌∙◌, subst, arith, Ok, eqb, true≢false}
use Rattle.std.proofs.Common.{append_assoc}
use Rattle.prem_tiling.proofs.Prelude.{Around, Outcome, and_then, Access, Routine, ProgramState, MarkedCall, Calls, with_local, is_marked, leave, with_mark, Text, Statement, AreTiles}
use Rattle.prem_tiling.proofs.Prelude.{stale_first, eqb-true, length-set, get_or-set_same, append-nil, slice_index}
use Rattle.prem_tiling.proofs.LawsLemmas.Joint.{Joint, fine, wrong, joint_then, joint_mapped}
use Rattle.prem_tiling.proofs.LawsLemmas.Laps.{laps, laps_add, laps_joint, Cuttable, turn_by, Lap, turn_lap}
use Rattle.prem_tiling.proofs.LawsLemmas.Tied.{index-set_other, bare}

pub joint_here : {A B : Type 0} {P : A → B → Type 0} {x : A} {y : B} → Joint P (Ok x) (Ok y) → P x y
joint_here (fine p) = p

joint_right : {A B C : Type 0} {P : A → B → Type 0} {Q : A → C → Type 0} {o : Outcome A} {o' : Outcome B} (g : B → C) → Joint P o o' →
    ((x : A) (y : B) → P x y → Q x (g y)) → Joint Q o (and_then o' (λ y. Ok (g y)))
joint_right g (fine p) more = fine (more _ _ p)
joint_right g (wrong line) more = wrong line

module _ (around : Around) (locals : List Text) (body : Statement) (k step low : ℕ) (base : List ℕ)
    (cuttable : Cuttable around locals body k step base) (turns : ℕ → ℕ) (n line : ℕ) (may : Access) (calls : Calls) (callees : ℕ → Calls) where
  -- a caller's state with new locals, the variable among them
  abbrev pub fresh : ProgramState → ℕ → ProgramState
  fresh s w = with_local k w (record s { locals = base })

  abbrev One : ℕ → (ms ns : List MarkedCall) → ℕ → ProgramState → ProgramState → Type 0
  One t ms ns j u v = Lap around locals body k step low base cuttable turns n line may calls (callees t) ms ns j u v

  -- a state before turn j, whose locals are those of the first state of the function but for what turns assign, and a state of the caller
  pub record Mid (ms : List MarkedCall) (caller : List ℕ) (j : ℕ) (u s : ProgramState) : Type 0 where
    pub same : bare u ≡ bare s
    pub marks : u.marks ≡ ms
    pub locals_are : s.locals ≡ caller
    pub size : length u.locals ≡ length base
    pub kept : (i : ℕ) → (eqb k i || stale_first locals body i) ≡ false → slice_index u.locals i ≡ slice_index base i
    pub at : slice_index u.locals k ≡ low + step * j
    pub small : low + step * j ≤ 2147483647

  begins : (t : ℕ) (ms : List MarkedCall) (caller : List ℕ) (j : ℕ) (u s : ProgramState) → Mid ms caller j u s → One t ms s.marks j u (fresh s (low + step * j))
  begins t ms caller j u s mid =
      let w = low + step * j in
      let there = cuttable.there in
      record {
        same = mid.same;
        left = mid.marks;
        right = refl;
        long = mid.size ∙ sym (length-set base k w);
        size = mid.size;
        alike = λ i e. by i (eqb k i) refl e;
        kept = mid.kept;
        at = mid.at;
        small = mid.small;
      }
    where
      by : (i : ℕ) (b : Bool) → eqb k i ≡ b → stale_first locals body i ≡ false → slice_index u.locals i ≡ slice_index (set base k (low + step * j)) i
      by i true is e = let same : k ≡ i = eqb-true k i is in let there = cuttable.there in
          subst (λ x. slice_index u.locals x ≡ slice_index (set base k (low + step * j)) x) same
          (mid.at ∙ sym (get_or-set_same base k (low + step * j) 0 there))
      by i false is e = mid.kept i (ap (λ b. b || stale_first locals body i) is ∙ e) ∙ sym (index-set_other base k i (low + step * j) is)

  -- behind so many turns of both
  turns_done : (t : ℕ) (ms : List MarkedCall) (caller : List ℕ) (j m : ℕ) (u s : ProgramState) → Mid ms caller j u s →
      Joint (One t ms s.marks (j + m)) (laps m (turn_by around locals body k step low base cuttable turns n line may calls (callees t) calls) u)
      (laps m (turn_by around locals body k step low base cuttable turns n line may calls (callees t) (callees t)) (fresh s (low + step * j)))
  turns_done t ms caller j m u s mid =
      laps_joint (One t ms s.marks) _ _ (turn_lap around locals body k step low base cuttable turns n line may calls (callees t) ms s.marks) m j u
      (fresh s (low + step * j)) (begins t ms caller j u s mid)

  -- ---- a call of one tile

  module _ (first_number : ℕ) (firsts : ℕ → ℕ) (rises : (t : ℕ) → firsts t ≤ firsts (t + 1)) (routines : ℕ → Routine) (marked : (t : ℕ) → is_marked (routines t) ≡ true) where
    abbrev turn : ProgramState → Outcome ProgramState
    turn u = turn_by around locals body k step low base cuttable turns n line may calls calls calls u

    abbrev turn' : ℕ → ProgramState → Outcome ProgramState
    turn' t u = turn_by around locals body k step low base cuttable turns n line may calls (callees t) (callees t) u

    abbrev pub tile_call : ℕ → ProgramState → Outcome ProgramState
    tile_call t s = and_then (laps (firsts (t + 1) - firsts t) (turn' t) (fresh s (low + step * firsts t))) (λ v. Ok (leave (routines t) (first_number + t) s v))

    abbrev mark_of : ℕ → List (List ℕ) → List (List ℕ) → MarkedCall
    mark_of t before after = record { function = first_number + t; before = before; after = after }

    record Next (ms : List MarkedCall) (caller : List ℕ) (t : ℕ) (s u v : ProgramState) : Type 0 where
      mid : Mid ms caller (firsts (t + 1)) u v
      marks_are : v.marks ≡ s.marks ++ mark_of t s.globals u.globals ∷ []

    noted : (b : Bool) (m : MarkedCall) (xs : List MarkedCall) → b ≡ true → with_mark b m xs ≡ xs ++ m ∷ []
    noted true m xs e = refl
    noted false m xs e = absurd (true≢false (sym e))

    one_tile : (ms : List MarkedCall) (caller : List ℕ) (t : ℕ) (u s : ProgramState) → Mid ms caller (firsts t) u s →
        Joint (Next ms caller t s) (laps (firsts (t + 1) - firsts t) turn u) (tile_call t s)
    one_tile ms caller t u s mid =
        let m = firsts (t + 1) - firsts t in
        let more = rises t in
        let is : firsts t + m ≡ firsts (t + 1) = omega arith in
        joint_right (λ v. leave (routines t) (first_number + t) s v) (turns_done t ms caller (firsts t) m u s mid) (λ x y lap. by x y (subst (λ j. One t ms s.marks j x y) is lap))
      where
        by : (x y : ProgramState) → One t ms s.marks (firsts (t + 1)) x y → Next ms caller t s x (leave (routines t) (first_number + t) s y)
        by x y lap = record {
          mid = record { same = lap.same; marks = lap.left; locals_are = mid.locals_are; size = lap.size; kept = lap.kept; at = lap.at; small = lap.small };
          marks_are = noted (is_marked (routines t)) (mark_of t s.globals y.globals) y.marks (marked t) ∙ (λ i. lap.right i ++ mark_of t s.globals (sym lap.same i).globals ∷ []);
        }

    -- ---- calls of all tiles

    abbrev pub tiles_run : ℕ → ℕ → ProgramState → Outcome ProgramState
    tiles_run zero t s = Ok s
    tiles_run (suc r) t s = and_then (tile_call t s) (tiles_run r (t + 1))

    pub record Ended (ms : List MarkedCall) (caller : List ℕ) (r t : ℕ) (s u v : ProgramState) : Type 0 where
      pub mid : Mid ms caller (firsts (t + r)) u v
      pub tiles : List MarkedCall
      pub marks_are : v.marks ≡ s.marks ++ tiles
      pub are : AreTiles (first_number + t) r s.globals u.globals tiles

    rise_all : (t r : ℕ) → firsts t ≤ firsts (t + r)
    rise_all t zero = let e : firsts (t + 0) ≡ firsts t = ap firsts (omega arith) in omega arith
    rise_all t (suc r) = let e : firsts (t + suc r) ≡ firsts (t + 1 + r) = ap firsts (omega arith) in let one = rises t in let rest = rise_all (t + 1) r in omega arith

    pub all_tiles : (ms : List MarkedCall) (caller : List ℕ) (r t : ℕ) (u s : ProgramState) → Mid ms caller (firsts t) u s →
        Joint (Ended ms caller r t s) (laps (firsts (t + r) - firsts t) turn u) (tiles_run r t s)
    all_tiles ms caller zero t u s mid =
        let here : t + 0 ≡ t = omega arith in
        let none : firsts (t + 0) - firsts t ≡ 0 = let e : firsts (t + 0) ≡ firsts t = ap firsts here in omega arith in
        subst (λ m. Joint (Ended ms caller 0 t s) (laps m turn u) (Ok s)) (sym none) (fine (record {
          mid = subst (λ j. Mid ms caller (firsts j) u s) (sym here) mid;
          tiles = [];
          marks_are = sym (append-nil s.marks);
          are = (refl, λ i. (sym mid.same i).globals);
        }))
    all_tiles ms caller (suc r) t u s mid =
        let further : t + suc r ≡ t + 1 + r = omega arith in
        let count : firsts (t + suc r) - firsts t ≡ (firsts (t + 1) - firsts t) + (firsts (t + 1 + r) - firsts (t + 1)) =
        let e : firsts (t + suc r) ≡ firsts (t + 1 + r) = ap firsts further in let one = rises t in let rest = rise_all (t + 1) r in omega arith in
        subst (λ o. Joint (Ended ms caller (suc r) t s) o (tiles_run (suc r) t s))
        (sym (ap (λ m. laps m turn u) count ∙ laps_add (firsts (t + 1) - firsts t) (firsts (t + 1 + r) - firsts (t + 1)) turn u))
        (joint_then (laps (firsts (t + 1 + r) - firsts (t + 1)) turn) (tiles_run r (t + 1)) (one_tile ms caller t u s mid)
        (λ x y next. joint_mapped (all_tiles ms caller r (t + 1) x y next.mid) (λ a b end. with_first x y next a b end)))
      where
        with_first : (x y : ProgramState) → Next ms caller t s x y → (a b : ProgramState) → Ended ms caller r (t + 1) y a b → Ended ms caller (suc r) t s a b
        with_first x y next a b end =
            let first = mark_of t s.globals x.globals in
            let further : t + 1 + r ≡ t + suc r = omega arith in
            let number : first_number + (t + 1) ≡ first_number + t + 1 = omega arith in
            record {
              mid = subst (λ j. Mid ms caller (firsts j) a b) further end.mid;
              tiles = first ∷ end.tiles;
              marks_are = end.marks_are ∙ ap (λ ms. ms ++ end.tiles) next.marks_are ∙ append_assoc s.marks (first ∷ []) end.tiles;
              are = (
                refl,
                refl,
                (let mid_same = next.mid.same in
                    subst (λ g. AreTiles (first_number + t + 1) r g a.globals end.tiles) (λ i. (sym mid_same i).globals)
                    (subst (λ f. AreTiles f r y.globals a.globals end.tiles) number end.are)),
              );
            }
