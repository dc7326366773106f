-- The next function of a task: its code fits where it stands, and its fact is the definitions'.
use Rattle.std.specs.Prelude.{slice_index, slice_index_or, slice_get, slice_set, take}
use Rattle.std.proofs.Common.{◌≡◌, ℕ, zero, suc, ◌+◌, ◌<◌, ◌≤◌, ◌^◌, ◌==◌, Bool, true, false, List, [], ◌∷◌, ◌++◌, length, length-append, replicate, get_or, refl, ap, sym, subst, ◌∙◌, arith, Some}
use Rattle.std.proofs.lemmas.Bool.{le-leb}
use Rattle.prem_list.specs.declared.Sequence.{Sequence}
use Rattle.prem_list.specs.Sequence.{items_of}
use Rattle.prem_plant.specs.declared.plant.Plant.{Plant}
use Rattle.prem_plant.specs.Places.{Extent}
use Rattle.prem_plant.specs.Ranges.{IsPlant}
use Rattle.prem_isa.specs.Decode.{cost_of}
use Rattle.prem_syntax.specs.Resolved.{Routine, Resolved}
use Rattle.prem_tree.specs.declared.resolve.resolved.Routine.{Routine as RoutineTree}
use Rattle.prem_tree.specs.Resolve.ResolvedOf.{routine_of}
use Rattle.prem_asm.specs.declared.piece.Piece.{Piece}
use Rattle.prem_asm.specs.Pieces.{Pieces, no_pieces, size_of}
use Rattle.prem_asm.specs.PiecesOf.{pieces_of}
use Rattle.prem_layout.specs.Template.Steps.{function_code}
use Rattle.prem_layout.specs.Template.Parts.{parts_of}
use Rattle.prem_layout.specs.Plans.{Plan}
use Rattle.prem_layout.specs.Parts.{code_part}
use Rattle.prem_layout.specs.Footprint.{place_at}
use Rattle.prem_layout.specs.Bounds.{part_weight, weight_at}
use Rattle.prem_bounds.specs.Scale.{clipped}
use Rattle.prem_bounds.specs.TableOf.{listed}
use Rattle.prem_bounds.proofs.Calls.{none_told}
use Rattle.prem_bounds.proofs.Steps.{listed_long, listed_item}
use Rattle.prem_place.specs.Placed.PlacedOf.{coded_of, plans_of, routines_of}
use Rattle.prem_place.specs.declared.placed.PlacedTask.{PlacedTask}
use Rattle.prem_wcet_laws.specs.Scopes.{Fact, no_fact, Scene}
use Rattle.prem_wcet_laws.specs.Parted.{bottom_of}
use Rattle.prem_wcet_laws.specs.Wcet.{scene_of, stack_of, fact_at, at_function, facts_behind}
use Rattle.prem_wcet_laws.specs.Scenes.{facts_in as task_facts, scene_in as task_scene}
use Rattle.prem_wcet_laws.specs.Weights.{weighted_from}
use Rattle.prem_wcet_laws.proofs.Scenes.{each_fact, IsFact as IsFactAt}
use Rattle.prem_wcet.specs.declared.outline.Outline.{Outline as OutlineTree}
use Rattle.prem_wcet.specs.declared.crowd.Crowd.{Crowd}
use Rattle.prem_wcet.specs.declared.scene.Face.{Face}
use Rattle.prem_wcet.specs.declared.scene.Fact.{Fact as FactTree}
use Rattle.prem_wcet.specs.Alike.{FactsAlike}
use Rattle.prem_wcet.specs.Crowds.{IsCrowd, place_weight}
use Rattle.prem_wcet.specs.Cut.{IsFunction}
use Rattle.prem_wcet.specs.EdgesOf.{BelowFits}
use Rattle.prem_wcet.specs.Fitting.{FitsAt}
use Rattle.prem_wcet.specs.Known.{TellsKnown}
use Rattle.prem_wcet.specs.KnownOf.{AlikeRows, AreKnown, AreKnownTo, IsFact, IsNextFact, StandsWhole, faces_in, memory_scene, next_cost_of, stack_by}
use Rattle.prem_wcet.specs.Lengths.{with_lengths}
use Rattle.prem_wcet.specs.Outlines.{code_of}
use Rattle.prem_wcet.specs.PartsOf.{IsOutline, parts_of as outline_in}
use Rattle.prem_wcet.specs.SceneOf.{face_at, fact_in, facts_in}
use Rattle.prem_wcet.proofs.FunctionCuts.{functions_are_cut}
use Rattle.prem_wcet.proofs.FunctionFits.{function_below, function_fits, function_size}
use Rattle.prem_wcet.proofs.KnownRows.{facts_more, rows_each, rows_more, rows_pieces, take_whole}
use Rattle.prem_wcet.proofs.PlaceWeights.{function_more}
use Rattle.prem_wcet.proofs.Rooms.{free_is}
use Rattle.prem_wcet.proofs.SceneFits.{code_count, code_there, routine_there, routines_long, stands_at}
use Rattle.prem_wcet.proofs.ScenesAlike.{StandsFor, fact_alike}

-- ---- lists

pub item_there : {A : Type 0} (xs : List A) (n : ℕ) (x : A) → n < length xs → x ≡ get_or xs n x → slice_get xs n ≡ Some x
item_there [] n x lt is = absurd (omega (arith, lt))
item_there (y ∷ ys) zero x lt is = ap Some (sym is)
item_there (y ∷ ys) (suc n) x lt is = item_there ys n x (omega (arith, lt)) is

there_item : {A : Type 0} (xs : List A) (n : ℕ) (x : A) → slice_get xs n ≡ Some x → x ≡ get_or xs n x
there_item [] n x is = refl
there_item (y ∷ ys) zero x is = let same : y ≡ x = cc in sym same
there_item (y ∷ ys) (suc n) x is = there_item ys n x is

behind_long : (e : Scene) (stack : ℕ → List Extent) (known : List Fact) (fs : List Routine) → length (facts_behind e stack known fs) ≡ length known + length fs
behind_long e stack known [] = omega arith
behind_long e stack known (f ∷ fs) =
    let x : Fact = fact_at (at_function e stack known) f (e.places (code_part (length known))) in
    longer (length known) (length (known ++ x ∷ [])) (length fs) _ (length-append known (x ∷ [])) (behind_long e stack (known ++ x ∷ []) fs)
  where
    longer : (a b n all : ℕ) → b ≡ a + 1 → all ≡ b + n → all ≡ a + suc n
    longer a b n all e more = omega (arith, e, more)

-- ---- a function of a placed task

module _ (p : Plant) (t : PlacedTask) (whole : StandsWhole p t) where
  abbrev program : Resolved
  program = (coded_of t).program

  abbrev code : List (Sequence Piece)
  code = items_of t.table.code

  abbrev turns : ℕ → ℕ
  turns = slice_index t.turns.items

  -- what stands in memory at a number
  pub record IsThere (n : ℕ) (r : RoutineTree) : Type 0 where
    pub loops : ℕ
    pub routine : slice_get program.routines n ≡ Some (routine_of turns loops r)
    pub code_is : get_or (listed code) n no_pieces ≡ function_code (parts_of p.target program.routines) (routine_of turns loops r)

  pub routines_count : length code ≡ length (routines_of t)
  routines_count = code_count p t whole ∙ routines_long turns 0 (routines_of t)

  pub there : (n : ℕ) (r : RoutineTree) → n < length code → r ≡ get_or (routines_of t) n r → IsThere n r
  there n r lt is =
      let one = routine_there turns 0 (routines_of t) n r (omega (arith, lt, routines_count)) is in
      record {
        loops = one.0;
        routine = one.1;
        code_is = ap (λ pss. get_or pss n no_pieces) whole.code ∙ code_there (parts_of p.target program.routines) program.routines n (routine_of turns one.0 r) one.1;
      }

  -- where its outline is cut out, all fits
  module _ (n : ℕ) (r : RoutineTree) (o : OutlineTree) (ps : Pieces) (at : ℕ) (lt : n < length code) (is : r ≡ get_or (routines_of t) n r)
      (code_is : ps ≡ get_or (listed code) n no_pieces) (at_is : at ≡ (place_at t.places (1 + n)).0) (cut : IsOutline p.target r ps o) where
    abbrev v : Scene
    v = scene_of p (plans_of t) program t.places

    abbrev f : Routine
    f = routine_of turns (there n r lt is).loops r

    is_code : ps ≡ function_code v.parts f
    is_code = code_is ∙ (there n r lt is).code_is

    is_function : IsFunction v f o
    is_function = functions_are_cut v turns (there n r lt is).loops r ps o is_code cut

    near : at + size_of ps ≤ 2 ^ 24
    near = subst (λ k. k ≤ 2 ^ 24) (λ i. sym at_is i + size_of (sym code_is i)) (whole.ends n lt)

    pub code_ends : at + size_of ps < 2 ^ 32
    code_ends = omega (arith, near)

    function_ends : at + size_of (function_code v.parts f) < 2 ^ 32
    function_ends = subst (λ qs. at + size_of qs < 2 ^ 32) is_code code_ends

    pub all_ends : at + size_of (pieces_of o.entry.now) + size_of (code_of (outline_in (items_of o.body))) + size_of (pieces_of o.leaving.now) < 2 ^ 32
    all_ends = sum (size_of (pieces_of o.entry.now)) (size_of (code_of (outline_in (items_of o.body)))) (size_of (pieces_of o.leaving.now)) _ (function_size v f o is_function) function_ends where
      sum : (a b c k : ℕ) → a + b + c ≡ k → at + k < 2 ^ 32 → at + a + b + c < 2 ^ 32
      sum a b c k e le = omega (arith, e, le)

    pub body_fits : FitsAt (at + size_of (pieces_of o.entry.now)) (outline_in (items_of o.body))
    body_fits = function_fits v f o at is_function function_ends

    pub body_below : (s : Scene) (base : ℕ) (b : Bool) → s.stack ≡ stack_by t.places base b ∷ [] → BelowFits s (outline_in (items_of o.body))
    body_below s base b stack = function_below v f s o is_function
        (room (bottom_of s.stack) (size_of (function_code v.parts f)) (subst (λ rs. bottom_of rs ≤ 2 ^ 24) (sym stack) (low b)) (ap size_of is_code)) where
          low : (b : Bool) → (stack_by t.places base b).0 ≤ 2 ^ 24
          low true = let h = whole.stack in omega (arith, h)
          low false = whole.low

          room : (x k : ℕ) → x ≤ 2 ^ 24 → size_of ps ≡ k → x + 4 + k < 2 ^ 32
          room x k le e = omega (arith, le, e, near)

-- the code of a number
pub pieces_there : (t : PlacedTask) (n : ℕ) (codes : List (Sequence Piece)) (x : Sequence Piece) (pieces : List Piece) →
    n < length (items_of t.table.code) → codes ≡ items_of t.table.code → x ≡ get_or codes n x → pieces ≡ items_of x →
    pieces_of pieces ≡ get_or (listed (items_of t.table.code)) n no_pieces
pieces_there t n codes x pieces lt are is items = ap pieces_of items ∙ sym (listed_item (items_of t.table.code) n x lt (is ∙ ap (λ xs. get_or xs n x) are))

-- what is told of the next function, in the scene that memory has
pub next_told : (p : Plant) (t : PlacedTask) (faces faces2 : List Face) (facts facts2 : List FactTree) (codes : List (Sequence Piece))
    (stack : Extent) (n at : ℕ) (r : RoutineTree) (ps : Pieces) (o : OutlineTree) (fact : FactTree) →
    n ≡ length facts → slice_get (routines_of t) n ≡ Some r → codes ≡ items_of t.table.code → faces2 ≡ faces → facts2 ≡ facts →
    stack ≡ stack_by t.places (face_at faces t.program.job).frame (length facts == t.program.job) →
    at ≡ (place_at t.places (1 + n)).0 → ps ≡ get_or (listed (items_of t.table.code)) n no_pieces → IsOutline p.target r ps o →
    IsFact (memory_scene p t.places codes faces2 stack facts2) at ps o fact → IsNextFact p t faces facts fact
next_told p t faces faces2 facts facts2 codes stack n at r ps o fact count there code_is faces_are facts_are stack_is at_is ps_is cut told =
    let ps_same : ps ≡ get_or (listed (items_of t.table.code)) (length facts) no_pieces = ps_is ∙ ap (λ k. get_or (listed (items_of t.table.code)) k no_pieces) count in
    let at_same : at ≡ (place_at t.places (1 + length facts)).0 = at_is ∙ ap (λ k. (place_at t.places (1 + k)).0) count in
    let scene_same : memory_scene p t.places codes faces2 stack facts2
    ≡ memory_scene p t.places (items_of t.table.code) faces
    (stack_by t.places (face_at faces t.program.job).frame (length facts == t.program.job)) facts =
    λ i. memory_scene p t.places (code_is i) (faces_are i) (stack_is i) (facts_are i) in
    record {
      routine = r;
      there = ap (slice_get (routines_of t)) (sym count) ∙ there;
      told = record {
        outline = o;
        cut = subst (λ qs. IsOutline p.target r qs o) ps_same cut;
        told = subst (λ (e : Scene). IsFact e (place_at t.places (1 + length facts)).0 (get_or (listed (items_of t.table.code)) (length facts) no_pieces) o fact) scene_same
            (subst (λ k. IsFact (memory_scene p t.places codes faces2 stack facts2) k (get_or (listed (items_of t.table.code)) (length facts) no_pieces) o fact) at_same
            (subst (λ qs. IsFact (memory_scene p t.places codes faces2 stack facts2) at qs o fact) ps_same told));
      };
    }

-- ---- its fact

module _ (p : Plant) (t : PlacedTask) (lengths : List ℕ) (whole : StandsWhole p t) (long : length lengths ≡ length (plans_of t)) where
  abbrev task_program : Resolved
  task_program = (coded_of t).program

  abbrev task_code : List (Sequence Piece)
  task_code = items_of t.table.code

  abbrev task_plans : List Plan
  task_plans = with_lengths lengths (plans_of t)

  abbrev all : List Fact
  all = task_facts p task_plans task_program t.places

  all_long : length all ≡ length task_code
  all_long = behind_long (scene_of p task_plans task_program t.places) (stack_of task_program t.places) [] task_program.routines
      ∙ none (length task_program.routines) ∙ sym (code_count p t whole) where
        none : (n : ℕ) → 0 + n ≡ n
        none n = omega arith

  fact_there : (n : ℕ) (f : Routine) → slice_get task_program.routines n ≡ Some f →
      slice_index_or all n no_fact ≡ fact_at (task_scene p task_plans task_program t.places n) f (place_at t.places (1 + n)).0
  fact_there n f is =
      let base : Scene = scene_of p task_plans task_program t.places in
      let none : 0 + n ≡ n = omega arith in
      subst (λ k. IsFactAt base (stack_of task_program t.places) all k f) none (each_fact base (stack_of task_program t.places) task_program.routines [] n f is)

  pub next_alike : (facts : List FactTree) (fact : FactTree) → AlikeRows (facts_in facts task_code) (take (length facts) all) →
      length facts < length task_code → IsNextFact p t (faces_in (routines_of t) lengths) facts fact →
      FactsAlike (fact_in fact (get_or (listed task_code) (length facts) no_pieces)) (slice_index_or all (length facts) no_fact)
  next_alike facts fact rows lt next =
      let n : ℕ = length facts in
      let r : RoutineTree = next.routine in
      let one = there p t whole n r lt (there_item (routines_of t) n r next.there) in
      let f : Routine = routine_of (slice_index t.turns.items) one.loops r in
      let v : Scene = task_scene p task_plans task_program t.places n in
      let ps : Pieces = get_or (listed task_code) n no_pieces in
      let at : ℕ = (place_at t.places (1 + n)).0 in
      let e : Scene = memory_scene p t.places task_code (faces_in (routines_of t) lengths)
      (stack_by t.places (face_at (faces_in (routines_of t) lengths) task_program.job).frame (n == task_program.job)) facts in
      let stands : StandsFor e v = stands_at p t lengths whole long n (n == task_program.job) facts refl (less n (length task_code) (length task_program.routines) lt (code_count p t whole)) rows in
      let function : IsFunction v f next.told.outline = functions_are_cut v (slice_index t.turns.items) one.loops r ps next.told.outline one.code_is next.told.cut in
      subst (FactsAlike (fact_in fact ps)) (sym (fact_there n f one.routine)) (fact_alike e v stands f at ps next.told.outline one.code_is function fact next.told.told)
    where
      less : (n c k : ℕ) → n < c → c ≡ k → n ≤ k
      less n c k lt e = omega (arith, lt, e)

  -- one more is known
  pub known_more : (n : ℕ) (facts more : List FactTree) (fact : FactTree) (costs after : List ℕ) (cost : ℕ) → n < length task_code →
      AreKnownTo p task_plans task_program t.places task_code n facts costs → IsNextFact p t (faces_in (routines_of t) lengths) facts fact →
      cost ≡ next_cost_of t costs (length facts) → more ≡ facts ++ fact ∷ [] → after ≡ slice_set costs (length facts) cost → AreKnownTo p task_plans task_program t.places task_code (n + 1) more after
  known_more n facts more fact costs after cost lt known next is put set =
      let same : length facts ≡ n = known.long in
      let inside : length facts < length task_code = omega (arith, lt, same) in
      let few : length task_code ≤ 256 = whole.task.table.code in
      let rows : AlikeRows (facts_in facts task_code) (take (length facts) all) = subst (λ k. AlikeRows (facts_in facts task_code) (take k all)) (sym same) known.rows in
      let next_rows = rows_more (facts_in facts task_code) all (length facts) (fact_in fact (get_or (listed task_code) (length facts) no_pieces)) rows
      (omega (arith, inside, all_long)) (next_alike facts fact rows inside next) in
      let count : length (listed task_code) ≡ length task_code = listed_long task_code in
      record {
        long = ap length put ∙ length-append facts (fact ∷ []) ∙ ap (λ k. k + 1) same;
        rows = subst (λ xs. AlikeRows xs (take (n + 1) all)) (sym (ap (λ fs. facts_in fs task_code) put ∙ facts_more facts fact task_code inside))
            (subst (λ k. AlikeRows (facts_in facts task_code ++ fact_in fact (get_or (listed task_code) (length facts) no_pieces) ∷ []) (take (k + 1) all)) same next_rows);
        told = subst (λ array. TellsKnown array (λ at. cost_of) t.places (listed task_code) (n + 1)) (sym set)
            (subst (λ k. TellsKnown (slice_set costs (length facts) cost) (λ at. cost_of) t.places (listed task_code) (k + 1)) same
            (function_more (λ at. cost_of) (length (listed task_code)) (λ part. (place_at t.places part).0) (listed task_code)
            (get_or (listed task_code) (length facts) no_pieces) (length facts) cost costs
            (omega (arith, inside, count)) (omega (arith, inside, few)) refl (subst (TellsKnown costs (λ at. cost_of) t.places (listed task_code)) (sym same) known.told)
            (is ∙ (λ i. clipped (weighted_from (λ at. cost_of) (part_weight (sym count i) (weight_at costs) (λ k. 0))
            (place_at t.places (1 + length facts)).0 (get_or (listed task_code) (length facts) no_pieces))))));
      }

  -- none are
  pub known_none : (facts : List FactTree) → facts ≡ [] → AreKnownTo p task_plans task_program t.places task_code 0 facts (replicate 256 0)
  known_none facts is = record { long = ap length is; rows = subst (λ xs. AlikeRows (facts_in xs task_code) (take 0 all)) (sym is) tt; told = none_told 256 }

  -- all are known
  pub all_known : (n : ℕ) (facts : List FactTree) (costs : List ℕ) → n ≡ length task_code →
      AreKnownTo p task_plans task_program t.places task_code n facts costs → AreKnown p task_plans task_program t.places task_code facts costs
  all_known n facts costs is known =
      let rows : AlikeRows (facts_in facts task_code) all = subst (AlikeRows (facts_in facts task_code)) (take_whole all n (omega (arith, all_long, is))) known.rows in
      record {
        long = known.long ∙ is;
        each = rows_each (facts_in facts task_code) all rows;
        pieces = rows_pieces (facts_in facts task_code) all rows;
        told = subst (TellsKnown costs (λ at. cost_of) t.places (listed task_code)) (sym known.long) known.told;
      }

-- ---- where all lines are found

pub free_none : (p : Plant) (c : Crowd) → IsPlant p → IsCrowd p [] [] c → place_weight c ≡ (λ at i. cost_of i)
free_none p c plant is =
    let free : Crowd = record c { alone = true } in
    free_is p [] [] free plant
    (record {
      line = is.line;
      sets = is.sets;
      room = is.room;
      miss = is.miss;
      counts = is.counts;
      roomy = is.roomy;
      held = is.held;
      small = is.small;
      alone = λ e n. le-leb 0 p.«ways» (omega arith);
    }) refl
