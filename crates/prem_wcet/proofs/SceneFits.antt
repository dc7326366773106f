-- Scenes of a placed task in memory have its numbers, and stand for the definitions'.
use Rattle.std.specs.Prelude.{slice_index, slice_index_or, slice_get, take}
use Rattle.std.proofs.Common.{◌≡◌, ℕ, zero, suc, ◌+◌, ◌<◌, ◌≤◌, ◌==◌, Bool, List, [], ◌∷◌, length, map, get_or, refl, ap, sym, subst, ◌∙◌, arith, Some}
use Rattle.prem_list.specs.declared.Sequence.{Sequence}
use Rattle.prem_list.specs.Sequence.{items_of}
use Rattle.prem_plant.specs.declared.plant.Plant.{Plant}
use Rattle.prem_plant.specs.Places.{Extent}
use Rattle.prem_syntax.specs.Resolved.{Routine, Resolved}
use Rattle.prem_tree.specs.declared.resolve.resolved.Routine.{Routine as RoutineTree}
use Rattle.prem_tree.specs.Resolve.ResolvedOf.{loops_of, routine_of, routines_of as resolved_routines}
use Rattle.prem_asm.specs.declared.piece.Piece.{Piece}
use Rattle.prem_asm.specs.Pieces.{no_pieces}
use Rattle.prem_layout.specs.Template.Frames.{frame_at}
use Rattle.prem_layout.specs.Template.Steps.{Parts, function_code}
use Rattle.prem_layout.specs.Template.Parts.{parts_of, codes_of}
use Rattle.prem_layout.specs.Plans.{Plan, plans_of as program_plans}
use Rattle.prem_layout.specs.Placed.{Placed}
use Rattle.prem_layout.proofs.TaskParts.{plans_counted}
use Rattle.prem_bounds.proofs.Steps.{listed_long}
use Rattle.prem_place.specs.Placed.PlacedOf.{coded_of, plans_of, routines_of}
use Rattle.prem_place.specs.declared.placed.PlacedTask.{PlacedTask}
use Rattle.prem_wcet_laws.specs.Scopes.{Fact, no_fact, Scene}
use Rattle.prem_wcet_laws.specs.Wcet.{scene_of, stack_of}
use Rattle.prem_wcet_laws.specs.Scenes.{facts_in as task_facts, scene_in as task_scene}
use Rattle.prem_wcet_laws.proofs.Facts.{codes_length}
use Rattle.prem_wcet_laws.proofs.Scenes.{taken_length}
use Rattle.prem_wcet.specs.Alike.{FactsAlike}
use Rattle.prem_wcet.specs.KnownOf.{AlikeRows, StandsWhole, TellFaces, faces_in, memory_scene, stack_by}
use Rattle.prem_wcet.specs.Lengths.{with_lengths}
use Rattle.prem_wcet.specs.SceneOf.{face_at, facts_in}
use Rattle.prem_wcet.specs.declared.scene.Face.{Face}
use Rattle.prem_wcet.specs.declared.scene.Fact.{Fact as FactTree}
use Rattle.prem_wcet.proofs.FacesTell.{faces_tell}
use Rattle.prem_wcet.proofs.KnownRows.{rows_each, rows_pieces}
use Rattle.prem_wcet.proofs.ScenesAlike.{StandsFor}

-- there is code for each function
pub code_count : (p : Plant) (t : PlacedTask) → StandsWhole p t → length (items_of t.table.code) ≡ length (coded_of t).program.routines
code_count p t whole =
    sym (listed_long (items_of t.table.code)) ∙ ap length whole.code ∙ codes_length (parts_of p.target (coded_of t).program.routines) (coded_of t).program.routines

-- ---- what it stands for

module _ (p : Plant) (t : PlacedTask) (lengths : List ℕ) (whole : StandsWhole p t) (long : length lengths ≡ length (plans_of t)) where
  abbrev program : Resolved
  program = (coded_of t).program

  abbrev plans : List Plan
  plans = with_lengths lengths (plans_of t)

  abbrev code : List (Sequence Piece)
  code = items_of t.table.code

  abbrev faces : List Face
  faces = faces_in (routines_of t) lengths

  pub tell : TellFaces p plans program.routines faces
  tell =
      let plans_are : plans_of t ≡ program_plans program = ap (λ (q : Placed). q.plans) whole.task.same in
      faces_tell p (slice_index t.turns.items) (routines_of t) lengths (plans_of t) long (ap length plans_are ∙ plans_counted program 0 program.routines)

  -- with such facts, of which these are known
  pub stands_with : (facts : List FactTree) (stack : Extent) (known : List Fact) → ((f : ℕ) → FactsAlike (slice_index_or (facts_in facts code) f no_fact) (slice_index_or known f no_fact)) →
      map (λ (f : Fact). f.pieces) (facts_in facts code) ≡ map (λ (f : Fact). f.pieces) known →
      StandsFor (memory_scene p t.places code faces stack facts) (record (scene_of p plans program t.places) { stack = stack ∷ []; facts = known })
  stands_with facts stack known each pieces =
      let e : Scene = memory_scene p t.places code faces stack facts in
      let base : Scene = scene_of p plans program t.places in
      record {
        same = λ i. record {
          plant = p;
          plans = plans;
          parts = parts_of p.target program.routines;
          marked = λ f. tell.marked f i;
          stub = base.stub;
          functions = code_count p t whole i;
          places = base.places;
          global = base.global;
          stack = stack ∷ [];
          facts = known;
        };
        each = each;
        pieces = pieces;
        frame = tell.frame;
        marks = tell.marks;
      }

  base_is : (face_at faces program.job).frame ≡ frame_at program.routines program.job
  base_is = tell.frame program.job

  stack_is : (n : ℕ) (b : Bool) → b ≡ (n == program.job) → n ≤ length program.routines →
      stack_by t.places (face_at faces program.job).frame b ∷ [] ≡ stack_of program t.places (length (take n (task_facts p plans program t.places)))
  stack_is n b is le =
      (λ i. stack_by t.places (base_is i) (is i) ∷ [])
      ∙ ap (λ k. stack_of program t.places k) (sym (taken_length p plans program t.places n le))

  -- at function n
  pub stands_at : (n : ℕ) (b : Bool) (facts : List FactTree) → b ≡ (n == program.job) → n ≤ length program.routines → AlikeRows (facts_in facts code) (take n (task_facts p plans program t.places)) →
      StandsFor (memory_scene p t.places code faces (stack_by t.places (face_at faces program.job).frame b) facts) (task_scene p plans program t.places n)
  stands_at n b facts is le rows =
      let known : List Fact = take n (task_facts p plans program t.places) in
      let stack : Extent = stack_by t.places (face_at faces program.job).frame b in
      subst (λ ranges. StandsFor (memory_scene p t.places code faces stack facts) (record (scene_of p plans program t.places) { stack = ranges; facts = known })) (stack_is n b is le)
      (stands_with facts stack known (rows_each (facts_in facts code) known rows) (rows_pieces (facts_in facts code) known rows))

-- ---- the functions of a program in memory

-- the one of this number stands behind so many loops
pub routine_there : (turns : ℕ → ℕ) (loops : ℕ) (rs : List RoutineTree) (k : ℕ) (r : RoutineTree) → k < length rs → r ≡ get_or rs k r →
    (m : ℕ) × (slice_get (resolved_routines turns loops rs) k ≡ Some (routine_of turns m r))
routine_there turns loops [] k r lt is = absurd (omega (arith, lt))
routine_there turns loops (x ∷ xs) zero r lt is = (loops, ap (λ y. Some (routine_of turns loops y)) (sym is))
routine_there turns loops (x ∷ xs) (suc k) r lt is = routine_there turns (loops + loops_of x.body) xs k r (omega (arith, lt)) is

pub routines_long : (turns : ℕ → ℕ) (loops : ℕ) (rs : List RoutineTree) → length (resolved_routines turns loops rs) ≡ length rs
routines_long turns loops [] = refl
routines_long turns loops (r ∷ rs) = ap suc (routines_long turns (loops + loops_of r.body) rs)

-- the code of the function of this number
pub code_there : (parts : Parts) (fs : List Routine) (k : ℕ) (f : Routine) → slice_get fs k ≡ Some f → get_or (codes_of parts fs) k no_pieces ≡ function_code parts f
code_there parts [] k f is = absurd cc
code_there parts (g ∷ fs) zero f is = let same : g ≡ f = cc in ap (function_code parts) same
code_there parts (g ∷ fs) (suc k) f is = code_there parts fs k f is
