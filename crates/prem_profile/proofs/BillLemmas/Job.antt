-- The bill of a job by what is known in memory.
use Rattle.std.specs.Prelude.{slice_index_or}
use Rattle.std.proofs.Common.{◌≡◌, ℕ, Bool, true, false, cond, List, [], ◌++◌, length, map, refl, ap, sym, subst, ◌∙◌}
use Rattle.prem_list.specs.declared.Sequence.{Sequence}
use Rattle.prem_list.specs.Sequence.{items_of}
use Rattle.prem_plant.specs.declared.plant.Plant.{Plant}
use Rattle.prem_asm.specs.declared.piece.Piece.{Piece}
use Rattle.prem_syntax.specs.Resolved.{Resolved}
use Rattle.prem_layout.specs.Plans.{Plan}
use Rattle.prem_layout.specs.Parts.{start_part}
use Rattle.prem_layout.specs.Placed.{Placed}
use Rattle.prem_layout.specs.Footprint.{TaskPlaces}
use Rattle.prem_place.specs.Placed.PlacedOf.{coded_of, plans_of}
use Rattle.prem_place.specs.declared.placed.PlacedTask.{PlacedTask}
use Rattle.prem_wcet_laws.specs.Scopes.{Fact, Scene, Span, fact_of, no_fact}
use Rattle.prem_wcet_laws.specs.Wcet.{known_scene, start_span}
use Rattle.prem_wcet.specs.Alike.{FactsAlike}
use Rattle.prem_wcet.specs.JobTimes.{at_start, job_span}
use Rattle.prem_wcet.specs.KnownOf.{AreKnown, StandsWhole, memory_scene}
use Rattle.prem_wcet.specs.SceneOf.{facts_in}
use Rattle.prem_wcet.specs.declared.scene.Face.{Face}
use Rattle.prem_wcet.specs.declared.scene.Fact.{Fact as FactTree}
use Rattle.prem_wcet.proofs.SceneFits.{code_count}
use Rattle.prem_profile.specs.Bound.Bills.{cheaper}
use Rattle.prem_profile.specs.Bound.Scopes.{scope_bill}
use Rattle.prem_profile.specs.Bound.Statements.{CallBill, call_at}
use Rattle.prem_profile.specs.Bound.Tasks.{job_bill, start_bill}
use Rattle.prem_profile.specs.Bound.Memory.{job_items, known_items}
use Rattle.prem_profile.proofs.BillLemmas.Alike.{scope_same}

module _ (p : Plant) (plans : List Plan) (program : Resolved) (t : TaskPlaces) (e : Scene) (each : (f : ℕ) → FactsAlike (fact_of e f) (fact_of (known_scene p plans program t) f))
    (pieces : map (λ (f : Fact). f.pieces) e.facts ≡ map (λ (f : Fact). f.pieces) (known_scene p plans program t).facts) (functions : e.functions ≡ (known_scene p plans program t).functions)
    (plant : e.plant ≡ p) (places : e.places ≡ (known_scene p plans program t).places) (global : e.global ≡ (known_scene p plans program t).global) (stack : e.stack ≡ [])
    (known : List CallBill) where
  abbrev v : Scene
  v = known_scene p plans program t

  -- the task's scene with the facts in memory
  abbrev u : Scene
  u = record v { facts = e.facts }

  scope_is : (at : ℕ) (s : Span) → scope_bill e at s ≡ scope_bill v at s
  scope_is at s =
      (λ i. scope_bill (record v { plant = plant i; functions = functions i; places = places i; global = global i; stack = stack i; facts = e.facts }) at s)
      ∙ scope_same u v.parts v.plans v.stub v.facts each pieces (λ f. refl) at s

  start_is : start_bill e ≡ start_bill v
  start_is = λ i. start_bill (record v { plant = plant i; places = places i })

  pub job_same : job_items e known program.job ≡ job_bill v known program
  job_same = by (fact_of e program.job).cuts (fact_of v program.job).cuts (each program.job).cuts where
    by : (a b : Bool) → a ≡ b →
        cond a (start_bill e ++ known_items known program.job a) (cheaper (scope_bill e (e.places start_part) (job_span program.job)) (start_bill e ++ known_items known program.job a))
        ≡ cond b (start_bill v ++ (call_at known program.job).parted)
        (cheaper (scope_bill v (v.places start_part) (start_span program)) (start_bill v ++ (call_at known program.job).least))
    by true true same = ap (λ x. x ++ (call_at known program.job).parted) start_is
    by false false same =
        let whole : scope_bill e (e.places start_part) (job_span program.job) ≡ scope_bill v (v.places start_part) (start_span program) =
        ap (λ (w : ℕ → ℕ). scope_bill e (w start_part) (job_span program.job)) places ∙ scope_is (v.places start_part) (start_span program) in
        λ i. cheaper (whole i) (start_is i ++ (call_at known program.job).least)
    by true false same = absurd cc
    by false true same = absurd cc

-- the scene that memory has with the facts of all functions
module _ (p : Plant) (t : PlacedTask) (whole : StandsWhole p t) (codes : List (Sequence Piece)) (faces : List Face) (facts known : List FactTree) (costs : List ℕ)
    (code_is : codes ≡ items_of t.table.code) (facts_are : facts ≡ known) (told : AreKnown p (plans_of t) (coded_of t).program t.places (items_of t.table.code) known costs) (calls : List CallBill) where
  abbrev program : Resolved
  program = (coded_of t).program

  abbrev e : Scene
  e = at_start (memory_scene p t.places codes faces (0, 0) facts)

  abbrev w : Scene
  w = known_scene p (plans_of t) program t.places

  rows : facts_in known (items_of t.table.code) ≡ facts_in facts codes
  rows = λ i. facts_in (sym facts_are i) (sym code_is i)

  each_fact : (f : ℕ) → FactsAlike (fact_of e f) (fact_of w f)
  each_fact f = subst (λ (xs : List Fact). FactsAlike (slice_index_or xs f no_fact) (fact_of w f)) rows (told.each f)

  all_pieces : map (λ (f : Fact). f.pieces) e.facts ≡ map (λ (f : Fact). f.pieces) w.facts
  all_pieces = ap (map (λ (f : Fact). f.pieces)) (sym rows) ∙ told.pieces

  pub job_told : job_items e calls t.table.job ≡ job_bill w calls program
  job_told =
      ap (job_items e calls) (ap (λ (x : Placed). x.table.job) whole.task.same)
      ∙ job_same p (plans_of t) program t.places e each_fact all_pieces (ap length code_is ∙ code_count p t whole) refl refl refl refl calls
