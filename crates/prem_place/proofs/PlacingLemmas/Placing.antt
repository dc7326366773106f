-- What a task with code becomes at its places.
use Rattle.std.specs.Borrow.{Bor}
use Rattle.std.specs.List.{AllByRecursion}
use Rattle.std.proofs.Common.{◌≡◌, ℕ, suc, ◌+◌, ◌<◌, ◌≤◌, List, [], ◌∷◌, refl, ap, sym, ◌∙◌, subst, arith, length, map, slice_index}
use Rattle.std.proofs.lemmas.List.{length-map}
use Rattle.prem_list.specs.declared.Sequence.{Sequence}
use Rattle.prem_list.specs.Sequence.{items_of}
use Rattle.prem_plant.specs.declared.plant.Plant.{Plant}
use Rattle.prem_plant.specs.Ranges.{IsPlant}
use Rattle.prem_plant.specs.Places.{Extent}
use Rattle.prem_syntax.specs.declared.tree.Global.{Global as GlobalTree}
use Rattle.prem_syntax.specs.SyntaxOf.{global_of}
use Rattle.prem_syntax.specs.Resolve.{resolve}
use Rattle.prem_syntax.specs.Resolved.{Resolved}
use Rattle.prem_tree.specs.declared.resolve.resolved.Routine.{Routine as RoutineTree}
use Rattle.prem_tree.specs.declared.resolve.resolved.Resolved.{Resolved as ResolvedTree}
use Rattle.prem_tree.specs.Resolve.ResolvedOf.{loops_of, routines_of as plain_routines}
use Rattle.prem_asm.specs.declared.piece.Piece.{Piece}
use Rattle.prem_asm.specs.PiecesOf.{pieces_of}
use Rattle.prem_layout.specs.Template.Parts.{parts_of}
use Rattle.prem_layout.specs.Plans as layout
use Rattle.prem_layout.specs.Parts.{stub_passes, part_count}
use Rattle.prem_layout.specs.Footprint.{TaskPlaces}
use Rattle.prem_layout.specs.Stubs.{stub_of}
use Rattle.prem_layout.specs.Placed.{Coded, placed_at, task_places}
use Rattle.prem_split.specs.declared.plan.IntervalPlan.{IntervalPlan}
use Rattle.prem_split.specs.PlanOf.{plan_of}
use Rattle.prem_foot.specs.PlacesOf.{IsPlanAt}
use Rattle.prem_foot.specs.PlacesFrom.{places_in}
use Rattle.prem_foot.proofs.PlacesAre.{places_are}
use Rattle.prem_prefetch.proofs.SizesLemmas.Programs.{as_many_codes as codes_counted}
use Rattle.prem_bounds.specs.TableOf.{listed}
use Rattle.prem_place.specs.Placed.PlacedOf.{placed_of, routines_of, IsPlacedTask}
use Rattle.prem_place.specs.declared.placed.PlacedTask.{PlacedTask}
use Rattle.prem_prefetch.specs.declared.sizes.coded.CodedTask.{CodedTask}
use Rattle.prem_prefetch.specs.Sizes.CodedOf.{coded_in, IsCodedTask}
use Rattle.prem_place.specs.Placing.Standing.{TaskLies, stands_in, IsStanding}
use Rattle.prem_place.proofs.PlacingLemmas.Formed.{has_its_job}
use Rattle.prem_place.proofs.PlacingLemmas.Stood.{are_counted, Stood, stood}

pub routines_long : (turns : ℕ → ℕ) (m : ℕ) (rs : List RoutineTree) → length (plain_routines turns m rs) ≡ length rs
routines_long turns m [] = refl
routines_long turns m (r ∷ rs) = ap suc (routines_long turns (m + loops_of r.body) rs)

pub record HasFew (r : ResolvedTree) : Type 0 where
  pub functions : length (items_of r.routines) ≤ 256
  pub globals : length r.globals.items ≤ 256
  pub job : r.job < length (items_of r.routines)

pub tree_few : (task : CodedTask) → IsCodedTask task → HasFew task.program
tree_few task h =
    let r : ResolvedTree = task.program in
    let counted = are_counted h.text h.bounds h.formed in
    let job = has_its_job h.text h.bounds h.formed in
    let long : length (coded_in task).program.routines ≡ length (items_of r.routines) = routines_long (slice_index task.turns.items) 0 (items_of r.routines) in
    let functions = ap (λ (q : Resolved). length q.routines) h.same in
    let globals = ap (λ (q : Resolved). length q.globals) h.same in
    let number : r.job ≡ (resolve h.bounds h.text).job = ap (λ (q : Resolved). q.job) h.same in
    record {
      functions = omega (arith, counted.functions, long, functions);
      globals = omega (arith, counted.globals, globals, length-map r.globals.items (λ (g : Bor GlobalTree). global_of g.now));
      job = omega (arith, number, long, functions, job.there);
    }

pub code_long : (task : CodedTask) → IsCodedTask task → length (coded_in task).code ≡ length (coded_in task).program.routines
code_long task h = ap length h.code ∙ codes_counted (parts_of h.target (coded_in task).program.routines) (coded_in task).program.routines

module _ (p : Plant) (task : CodedTask) (places : List Extent) (plant : IsPlant p) (h : IsCodedTask task) (lies : TaskLies p (coded_in task) places) where
  abbrev c : Coded
  c = coded_in task

  abbrev at : TaskPlaces
  at = task_places c.program places

  standing : Stood p c places
  standing = stood h.target p c h.text h.bounds places plant h.same h.formed h.fits h.code lies

  at_is : (t : TaskPlaces) → t ≡ places_in task.program places → t ≡ at
  at_is t e = e ∙ places_are (slice_index task.turns.items) task.program places

  -- its plans may be looked at with its places
  pub plans_may : (t : TaskPlaces) (plans : List IntervalPlan) → t ≡ places_in task.program places → plans ≡ items_of task.plans → AllByRecursion (IsPlanAt t) (map plan_of plans)
  plans_may t plans et ep =
      let all : map plan_of plans ≡ layout.plans_of c.program = ap (map plan_of) ep ∙ h.plans in
      subst (λ (q : TaskPlaces). AllByRecursion (IsPlanAt q) (map plan_of plans)) (sym (at_is t et)) (subst (AllByRecursion (IsPlanAt at)) (sym all) standing.plans)

  -- the task at these places, with these stubs
  module _ (t : TaskPlaces) (plans : List IntervalPlan) (stubs : Sequence (Sequence Piece)) (et : t ≡ places_in task.program places) (ep : plans ≡ items_of task.plans)
      (es : listed (items_of stubs) ≡ map (stub_of (stub_passes p) p.line t) (map plan_of plans)) where
    abbrev placed : PlacedTask
    placed = record {
      name = task.name;
      period = task.period;
      jobs = task.jobs;
      program = task.program;
      turns = task.turns;
      places = t;
      plans = task.plans;
      table = record { code = task.code; stubs = stubs; job = task.program.job };
    }

    stubs_are : listed (items_of stubs) ≡ map (stub_of (stub_passes p) p.line at) (layout.plans_of c.program)
    stubs_are =
        es ∙ ap (λ (q : TaskPlaces). map (stub_of (stub_passes p) p.line q) (map plan_of plans)) (at_is t et)
        ∙ ap (λ (is : List IntervalPlan). map (stub_of (stub_passes p) p.line at) (map plan_of is)) ep ∙ ap (map (stub_of (stub_passes p) p.line at)) h.plans

    pub placed_is : placed_of placed ≡ placed_at p c at
    placed_is = λ i. record { task = c; at = at_is t et i; plans = h.plans i; table = record { code = c.code; stubs = stubs_are i; job = c.program.job } }

    pub stands_is : stands_in placed
    stands_is = subst IsStanding (sym placed_is) standing.standing

    pub placed_task : IsPlacedTask p placed
    placed_task =
        let e : t ≡ at = at_is t et in
        let few = tree_few task h in
        let counted = are_counted h.text h.bounds h.formed in
        let code : length (items_of task.code) ≡ length (items_of task.program.routines) =
        sym (length-map (items_of task.code) (λ (s : Sequence Piece). pieces_of (items_of s))) ∙ code_long task h ∙ routines_long (slice_index task.turns.items) 0 (items_of task.program.routines) in
        let stubs_long : length (items_of stubs) ≡ length (layout.plans_of c.program) =
        sym (length-map (items_of stubs) (λ (s : Sequence Piece). pieces_of (items_of s))) ∙ ap length stubs_are ∙ length-map (layout.plans_of c.program) (stub_of (stub_passes p) p.line at) in
        let count = ap (λ (q : Resolved). length (layout.plans_of q)) h.same in
        record {
          same = placed_is ∙ ap (placed_at p c) (sym e);
          table = record { code = omega (arith, code, few.functions); stubs = omega (arith, stubs_long, count, counted.plans) };
          plans = subst (λ (q : TaskPlaces). AllByRecursion (IsPlanAt q) (map plan_of (items_of task.plans))) (sym e) (subst (AllByRecursion (IsPlanAt at)) (sym h.plans) standing.plans);
          functions = few.functions;
          job = few.job;
        }

-- how many parts it has
pub parts_counted : (t : PlacedTask) (functions plans globals : ℕ) → stands_in t → functions ≡ length (routines_of t) →
    plans ≡ length (items_of t.plans) → globals ≡ length t.program.globals.items →
    2 + functions + plans + globals ≡ part_count (placed_of t).task.program
parts_counted t functions plans globals s ef ep eg =
    let a = routines_long (slice_index t.turns.items) 0 (routines_of t) in
    let b : length (items_of t.plans) ≡ length (layout.plans_of (placed_of t).task.program) = sym (length-map (items_of t.plans) plan_of) ∙ ap length s.plans in
    let d = length-map t.program.globals.items (λ (g : Bor GlobalTree). global_of g.now) in
    omega (arith, ef, ep, eg, a, b, d)
