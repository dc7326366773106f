-- What is told of a job is what it takes.
use Rattle.std.proofs.Common.{◌≡◌, ℕ, ◌+◌, ◌<◌, ◌≤◌, ◌^◌, max, List, length, map, slice_index_or, refl, ap, sym, ◌∙◌, subst, arith, ⊎_elim}
use Rattle.std.proofs.lemmas.Bool.{cases_lt}
use Rattle.prem_list.specs.declared.Sequence.{Sequence}
use Rattle.prem_list.specs.Sequence.{items_of}
use Rattle.prem_asm.specs.declared.piece.Piece.{Piece}
use Rattle.prem_plant.specs.declared.plant.Plant.{Plant}
use Rattle.prem_plant.specs.Ranges.{IsPlant}
use Rattle.prem_asm.specs.Pieces.{Pieces}
use Rattle.prem_syntax.specs.Resolved.{Resolved}
use Rattle.prem_layout.specs.Plans.{Plan}
use Rattle.prem_layout.specs.Bounds.{CodeTable, job_bound_of}
use Rattle.prem_layout.specs.Placed.{Placed}
use Rattle.prem_layout.specs.Stretch.Paths.{greatest_stated, longest_of}
use Rattle.prem_bounds.specs.Scale.{clipped}
use Rattle.prem_bounds.specs.TableOf.{listed, table_of}
use Rattle.prem_bounds.proofs.Under.{longest_less}
use Rattle.prem_place.specs.Placed.PlacedOf.{coded_of, plans_of}
use Rattle.prem_place.specs.declared.placed.PlacedTask.{PlacedTask}
use Rattle.prem_wcet_laws.specs.Scopes.{Fact, no_fact, Scene, fact_of}
use Rattle.prem_wcet_laws.specs.Laws.{table_of as code_table}
use Rattle.prem_wcet_laws.specs.Wcet.{known_scene, job_of, wcet_of, stretch_within, longest_wcet_of}
use Rattle.prem_wcet_laws.proofs.Facts.{wcet_is_within}
use Rattle.prem_wcet_laws.proofs.Longest.{longest_is_within}
use Rattle.prem_wcet.specs.Alike.{FactsAlike}
use Rattle.prem_wcet.specs.JobTimes.{at_start, job_by, stretch_by, greatest_length}
use Rattle.prem_wcet.specs.KnownOf.{AreKnown, StandsWhole, memory_scene}
use Rattle.prem_wcet.specs.SceneOf.{facts_in}
use Rattle.prem_wcet.specs.declared.scene.Face.{Face}
use Rattle.prem_wcet.specs.declared.scene.Fact.{Fact as FactTree}
use Rattle.prem_wcet.specs.Lengths.{with_lengths}
use Rattle.prem_wcet.proofs.AlikeScopes.{Alike}
use Rattle.prem_wcet.proofs.JobSums.{job_alike, stretch_alike, stated_are}
use Rattle.prem_wcet.proofs.SceneFits.{code_count}

-- what instructions weigh is at most what is told of it
exact : (switch told job n : ℕ) → Alike told job → n ≡ clipped (switch + told) → switch + job ≤ 2 ^ 40 → n ≡ switch + job
exact switch told job n alike is small = omega (arith, alike, is, small)

exact_most : (switch told long stated n : ℕ) → Alike told long → n ≡ clipped (switch + max told stated) → switch + max long stated ≤ 2 ^ 40 → n ≡ switch + max long stated
exact_most switch told long stated n alike is small = omega (arith, alike, is, small)

-- a longest stretch is small where the bound of the job is
longest_small : (p : Plant) (plans : List Plan) (t : CodeTable) → p.switch ≤ 10000 → greatest_stated plans < 2 ^ 32 → job_bound_of p plans t ≤ 2 ^ 40 → longest_of p plans t ≤ 2 ^ 40
longest_small p plans t switch stated bound =
    ⊎_elim (λ (lt : 2 ^ 40 < longest_of p plans t). (let large = longest_less p plans t switch stated lt in absurd (omega (arith, large, bound))))
    (λ (le : longest_of p plans t ≤ 2 ^ 40). le) (cases_lt (2 ^ 40) (longest_of p plans t))

module _ (p : Plant) (t : PlacedTask) (lengths : List ℕ) (whole : StandsWhole p t) (plant : IsPlant p) (count : length lengths ≡ length (plans_of t))
    (bound : job_bound_of p (with_lengths lengths (plans_of t)) (table_of t.table) ≤ 2 ^ 40) (short : greatest_length lengths < 2 ^ 32) where
  abbrev plans : List Plan
  plans = with_lengths lengths (plans_of t)

  abbrev program : Resolved
  program = (coded_of t).program

  job_is : t.table.job ≡ program.job
  job_is = ap (λ (x : Placed). x.table.job) whole.task.same

  abbrev stubs : List Pieces
  stubs = listed (items_of t.table.stubs)

  table_is : table_of t.table ≡ code_table p program stubs
  table_is = λ i. record { code = whole.code i; stubs = stubs; job = job_is i }

  bounded : job_bound_of p plans (code_table p program stubs) ≤ 2 ^ 40
  bounded = subst (λ (x : CodeTable). job_bound_of p plans x ≤ 2 ^ 40) table_is bound

  stated : greatest_stated plans ≡ greatest_length lengths
  stated = stated_are lengths (plans_of t) count

  pub wcet_small : wcet_of p plans program t.places ≤ 2 ^ 40
  wcet_small = let le = wcet_is_within p plans program t.places stubs in omega (arith, le, bounded)

  pub longest_few : longest_wcet_of p plans program t.places ≤ 2 ^ 40
  longest_few =
      let le = longest_is_within p plans program t.places stubs in
      let small = longest_small p plans (code_table p program stubs) plant.switch (omega (arith, stated, short)) bounded in
      omega (arith, le, small)

  pub wcet_told : (told n : ℕ) → Alike told (job_of (known_scene p plans program t.places) program) → n ≡ clipped (p.switch + told) → n ≡ wcet_of p plans program t.places
  wcet_told told n alike is = exact p.switch told (job_of (known_scene p plans program t.places) program) n alike is wcet_small

  pub longest_told : (told n : ℕ) → Alike told (stretch_within (known_scene p plans program t.places) program) →
      n ≡ clipped (p.switch + max told (greatest_length lengths)) → n ≡ longest_wcet_of p plans program t.places
  longest_told told n alike is =
      let v = known_scene p plans program t.places in
      let small = longest_few in
      exact_most p.switch told (stretch_within v program) (greatest_length lengths) n alike is (subst (λ k. p.switch + max (stretch_within v program) k ≤ 2 ^ 40) stated small)
      ∙ ap (λ k. p.switch + max (stretch_within v program) k) (sym stated)

  -- the scene that memory has with the facts of all functions
  module _ (codes : List (Sequence Piece)) (faces : List Face) (facts known : List FactTree) (costs : List ℕ) (code_is : codes ≡ items_of t.table.code) (facts_are : facts ≡ known)
      (told : AreKnown p plans program t.places (items_of t.table.code) known costs) where
    abbrev e : Scene
    e = at_start (memory_scene p t.places codes faces (0, 0) facts)

    abbrev v : Scene
    v = known_scene p plans program t.places

    rows : facts_in known (items_of t.table.code) ≡ facts_in facts codes
    rows = λ i. facts_in (sym facts_are i) (sym code_is i)

    each : (f : ℕ) → FactsAlike (fact_of e f) (fact_of v f)
    each f = subst (λ (xs : List Fact). FactsAlike (slice_index_or xs f no_fact) (fact_of v f)) rows (told.each f)

    pieces : map (λ (f : Fact). f.pieces) e.facts ≡ map (λ (f : Fact). f.pieces) v.facts
    pieces = ap (map (λ (f : Fact). f.pieces)) (sym rows) ∙ told.pieces

    functions : e.functions ≡ v.functions
    functions = ap length code_is ∙ code_count p t whole

    pub wcet_is : (n : ℕ) → n ≡ clipped (p.switch + job_by e t.table.job) → n ≡ wcet_of p plans program t.places
    wcet_is n is = wcet_told (job_by e program.job) n (job_alike p plans program t.places e each pieces functions refl refl refl refl) (is ∙ ap (λ j. clipped (p.switch + job_by e j)) job_is)

    pub longest_is : (n : ℕ) → n ≡ clipped (p.switch + max (stretch_by e t.table.job) (greatest_length lengths)) → n ≡ longest_wcet_of p plans program t.places
    longest_is n is =
        longest_told (stretch_by e program.job) n (stretch_alike p plans program t.places e each pieces functions refl refl refl refl)
        (is ∙ ap (λ j. clipped (p.switch + max (stretch_by e j) (greatest_length lengths))) job_is)
