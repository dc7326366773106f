-- What is known of the functions of a placed task, and what the task has to be.
use Rattle.std.specs.Prelude.{◌≡◌, ◌≤◌, ◌<◌, ℕ, ◌+◌, ◌-◌, ◌*◌, ◌^◌, ◌==◌, Bool, true, false, if◌then◌else◌, List, [], ◌∷◌, length, map, drop, get_or, slice_index_or, take}
use Rattle.std.specs.Prelude.{slice_get, None, Some, is_some}
use Rattle.std.specs.List.{AllByRecursion}
use Rattle.prem_list.specs.declared.Sequence.{Sequence}
use Rattle.prem_list.specs.Sequence.{items_of}
use Rattle.prem_plant.specs.declared.plant.Plant.{Plant}
use Rattle.prem_plant.specs.Places.{Extent}
use Rattle.prem_isa.specs.Decode.{cost_of}
use Rattle.prem_syntax.specs.SyntaxOf.{function_of}
use Rattle.prem_syntax.specs.Resolved.{Routine, Resolved}
use Rattle.prem_tree.specs.declared.resolve.resolved.Routine.{Routine as RoutineTree}
use Rattle.prem_asm.specs.declared.piece.Piece.{Piece}
use Rattle.prem_asm.specs.Pieces.{Pieces, no_pieces, size_of}
use Rattle.prem_layout.specs.Template.Frames.{frame_at}
use Rattle.prem_layout.specs.Template.Parts.{parts_of, codes_of, is_marked_at, marked_before}
use Rattle.prem_layout.specs.Plans.{Plan}
use Rattle.prem_layout.specs.Footprint.{TaskPlaces, place_at, stack_place, global_range}
use Rattle.prem_layout.specs.Bounds.{line_cost, part_weight, weight_at}
use Rattle.prem_split.specs.Walk.{HasFrame, frame_of}
use Rattle.prem_bounds.specs.declared.scale.Scale.{Scale}
use Rattle.prem_bounds.specs.Scale.{clipped, calls_by}
use Rattle.prem_bounds.specs.TableOf.{listed}
use Rattle.prem_place.specs.Placed.PlacedOf.{IsPlacedTask, coded_of, plans_of, routines_of}
use Rattle.prem_place.specs.declared.placed.PlacedTask.{PlacedTask}
use Rattle.prem_wcet_laws.specs.Counts.{marked_count}
use Rattle.prem_wcet_laws.specs.Scopes.{Fact, no_fact, Scene}
use Rattle.prem_wcet_laws.specs.Scenes.{facts_in as task_facts}
use Rattle.prem_wcet_laws.specs.Weights.{weighted_from}
use Rattle.prem_wcet.specs.Alike.{AreAlike, FactsAlike}
use Rattle.prem_wcet.specs.CountOf.{count_in}
use Rattle.prem_wcet.specs.EdgesOf.{function_parted}
use Rattle.prem_wcet.specs.Functions.{function_least}
use Rattle.prem_wcet.specs.Known.{TellsKnown}
use Rattle.prem_wcet.specs.Once.{with_code, with_names, with_touched}
use Rattle.prem_wcet.specs.Outlines.{cut_in}
use Rattle.prem_wcet.specs.PartsOf.{IsOutline, parts_of as outline_in}
use Rattle.prem_wcet.specs.SceneOf.{face_at, facts_in, plan_stating}
use Rattle.prem_wcet.specs.declared.outline.Outline.{Outline as OutlineTree}
use Rattle.prem_wcet.specs.declared.scene.Face.{Face}
use Rattle.prem_wcet.specs.declared.scene.Fact.{Fact as FactTree}

-- a placed task whose code is its program's, and stands with its stack below 2 ^ 24
pub record StandsWhole (p : Plant) (t : PlacedTask) : Type 0 where
  pub task : IsPlacedTask p t
  pub code : listed (items_of t.table.code) ≡ codes_of (parts_of p.target (coded_of t).program.routines) (coded_of t).program.routines
  pub functions : t.places.functions ≡ length (routines_of t)
  pub marked : length t.places.marked ≡ length (plans_of t)
  pub frames : AllByRecursion HasFrame (routines_of t)
  pub few : length t.places.places < 2 ^ 32
  pub ends : (n : ℕ) → n < length (items_of t.table.code) → (place_at t.places (1 + n)).0 + size_of (get_or (listed (items_of t.table.code)) n no_pieces) ≤ 2 ^ 24
  pub start : (place_at t.places 0).0 + 8 ≤ 2 ^ 24
  pub stack : (stack_place t.places).1 ≤ 2 ^ 24
  pub low : (stack_place t.places).0 ≤ 2 ^ 24

-- what instructions weigh by the rule, where nothing is called
pub record IsRule (p : Plant) (rule : Scale) : Type 0 where
  pub access : rule.access ≡ 2 * line_cost p
  pub other : rule.other ≡ line_cost p
  pub bare : (part : ℕ) → calls_by rule part ≡ 0

-- ---- functions as their callers see them

abbrev pub first_length : List ℕ → ℕ
first_length lengths = slice_index_or lengths 0 0

-- a marked one has the first of these lengths
abbrev pub face_if : Bool → (frame : ℕ) → List ℕ → Face
face_if true frame lengths = record { frame = frame; stated = Some (first_length lengths) }
face_if false frame lengths = record { frame = frame; stated = None }

-- which leaves the others
abbrev pub lengths_behind : Bool → List ℕ → List ℕ
lengths_behind true lengths = drop 1 lengths
lengths_behind false lengths = lengths

abbrev pub has_mark : RoutineTree → Bool
has_mark r = is_some (function_of r.text.now).mark

abbrev pub faces_in : List RoutineTree → (lengths : List ℕ) → List Face
faces_in [] lengths = []
faces_in (r ∷ rs) lengths = face_if (has_mark r) (frame_of r) lengths ∷ faces_in rs (lengths_behind (has_mark r) lengths)

-- they tell the frames of functions, which are marked, and what a marked call counts by these plans
pub record TellFaces (p : Plant) (plans : List Plan) (routines : List Routine) (faces : List Face) : Type 0 where
  pub frame : (f : ℕ) → (face_at faces f).frame ≡ frame_at routines f
  pub marked : (f : ℕ) → is_some (face_at faces f).stated ≡ is_marked_at routines f
  pub marks : (f : ℕ) → is_some (face_at faces f).stated ≡ true → marked_count p (map plan_stating faces) f ≡ marked_count p plans (marked_before f routines)

-- ---- facts

-- the bytes of the stack that a function's own code may touch, where the frame of `job` has so many
abbrev pub stack_by : TaskPlaces → (base : ℕ) → (is_job : Bool) → Extent
stack_by t base is_job = if is_job then ((stack_place t).1 - base, (stack_place t).1) else ((stack_place t).0, (stack_place t).1 - base)

-- the scene of a task in memory at a function
abbrev pub memory_scene : Plant → TaskPlaces → List (Sequence Piece) → List Face → Extent → List FactTree → Scene
memory_scene p t code faces stack facts = record {
  plant = p;
  plans = map plan_stating faces;
  parts = record { target = p.target; global = λ g. 0; frame = λ f. (face_at faces f).frame; link = λ f. 1; callee = λ f. 0 };
  marked = λ f. is_some (face_at faces f).stated;
  stub = λ f. f;
  functions = length code;
  places = λ part. (place_at t part).0;
  global = global_range t;
  stack = stack ∷ [];
  facts = facts_in facts code;
}

-- what a function's code at a place touches and counts, by its outline
pub record IsFact (e : Scene) (at : ℕ) (ps : Pieces) (o : OutlineTree) (fact : FactTree) : Type 0 where
  pub code : fact.code.items ≡ with_code e ((at, at + size_of ps) ∷ []) (outline_in (items_of o.body))
  pub touched : fact.touched.items ≡ with_names e (with_names e (with_touched e e.stack (outline_in (items_of o.body))) (items_of o.entry_names)) (items_of o.leaving_names)
  pub cuts : fact.cuts ≡ cut_in e (outline_in (items_of o.body))
  pub least : fact.least ≡ clipped (function_least e at ps o)
  pub parted : AreAlike (count_in fact.parted) (function_parted e at o)

-- by the outline that is cut out of it
pub record IsFactOf (e : Scene) (r : RoutineTree) (at : ℕ) (ps : Pieces) (fact : FactTree) : Type 0 where
  pub outline : OutlineTree
  pub cut : IsOutline e.parts.target r ps outline
  pub told : IsFact e at ps outline fact

-- the fact of the function behind those that have these
pub record IsNextFact (p : Plant) (t : PlacedTask) (faces : List Face) (facts : List FactTree) (fact : FactTree) : Type 0 where
  pub routine : RoutineTree
  pub there : slice_get (routines_of t) (length facts) ≡ Some routine
  pub told :
      IsFactOf (memory_scene p t.places (items_of t.table.code) faces (stack_by t.places (face_at faces t.program.job).frame (length facts == t.program.job)) facts) routine
      (place_at t.places (1 + length facts)).0 (get_or (listed (items_of t.table.code)) (length facts) no_pieces) fact

-- and what it costs where all lines are found
abbrev pub next_cost_of : PlacedTask → (costs : List ℕ) → (n : ℕ) → ℕ
next_cost_of t costs n =
    clipped (weighted_from (λ at. cost_of) (part_weight (length (items_of t.table.code)) (weight_at costs) (λ k. 0)) (place_at t.places (1 + n)).0
    (get_or (listed (items_of t.table.code)) n no_pieces))

-- the facts of a task's functions, and what they cost where all lines are found
pub record AreKnown (p : Plant) (plans : List Plan) (program : Resolved) (t : TaskPlaces) (code : List (Sequence Piece)) (facts : List FactTree) (costs : List ℕ) : Type 0 where
  pub long : length facts ≡ length code
  pub each : (f : ℕ) → FactsAlike (slice_index_or (facts_in facts code) f no_fact) (slice_index_or (task_facts p plans program t) f no_fact)
  pub pieces : map (λ (f : Fact). f.pieces) (facts_in facts code) ≡ map (λ (f : Fact). f.pieces) (task_facts p plans program t)
  pub told : TellsKnown costs (λ at. cost_of) t (listed code) (length facts)

-- ---- those of the first functions

-- facts in their order, of which the same is known
abbrev pub AlikeRows : List Fact → List Fact → Type 0
AlikeRows [] [] = Unit {0}
AlikeRows [] (y ∷ ys) = ⊥
AlikeRows (x ∷ xs) [] = ⊥
AlikeRows (x ∷ xs) (y ∷ ys) = FactsAlike x y × AlikeRows xs ys

pub record AreKnownTo (p : Plant) (plans : List Plan) (program : Resolved) (t : TaskPlaces) (code : List (Sequence Piece)) (n : ℕ) (facts : List FactTree) (costs : List ℕ) : Type 0 where
  pub long : length facts ≡ n
  pub rows : AlikeRows (facts_in facts code) (take n (task_facts p plans program t))
  pub told : TellsKnown costs (λ at. cost_of) t (listed code) n
