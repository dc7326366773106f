-- Charges of the start and `job` by what is known in memory.
use Rattle.std.specs.List.{list_any}
use Rattle.std.proofs.Common.{◌≡◌, ℕ, ◌+◌, min, max, Bool, ◌||◌, true, false, cond, List, [], ◌∷◌, ◌++◌, length, map, refl, ap, sym, ◌∙◌, arith, append-nil}
use Rattle.std.proofs.lemmas.List.Folds.{list_any-append}
use Rattle.prem_plant.specs.declared.plant.Plant.{Plant}
use Rattle.prem_plant.specs.Places.{Extent}
use Rattle.prem_isa.specs.declared.instr.Instr.TheVariants.{PmDone}
use Rattle.prem_asm.specs.Pieces.{Pieces}
use Rattle.prem_syntax.specs.Resolved.{Resolved}
use Rattle.prem_layout.specs.Plans.{Plan}
use Rattle.prem_layout.specs.Parts.{start_part}
use Rattle.prem_layout.specs.Footprint.{TaskPlaces, lines_of}
use Rattle.prem_layout.specs.Bounds.{start_code, job_weight}
use Rattle.prem_layout.specs.Stretch.Paths.{greatest_stated}
use Rattle.prem_layout.specs.Stretch.Sums.{taking, chained, greatest}
use Rattle.prem_bounds.specs.Scale.{clipped}
use Rattle.prem_bounds.specs.ToldSums.{clipped_sums, sums_of, AreTold}
use Rattle.prem_bounds.specs.declared.stretches.Sums.{Sums as SumsTree}
use Rattle.prem_bounds.proofs.AlikeSums.{chained_alike, greatest_alike}
use Rattle.prem_wcet_laws.specs.Scopes.{Fact, Scene, Span, fact_of, extent_of, code_ranges, data_ranges, charge, charge_with}
use Rattle.prem_wcet_laws.specs.Least.{own_jump}
use Rattle.prem_wcet_laws.specs.Wcet.{own_start, known_scene, start_span, job_of, stretch_within}
use Rattle.prem_wcet.specs.Same.{AreSame}
use Rattle.prem_wcet.specs.Alike.{FactsAlike}
use Rattle.prem_wcet.specs.Known.{bare_span}
use Rattle.prem_wcet.specs.Once.{with_ranges}
use Rattle.prem_wcet.specs.Lengths.{with_lengths}
use Rattle.prem_wcet.specs.JobTimes.{job_span, at_start, job_by, cut_stretch, stretch_by, greatest_length}
use Rattle.prem_wcet.proofs.AlikeScopes.{Alike, alike_sum, alike_min, charge_same}
use Rattle.prem_wcet.proofs.OnceSame.{ranges_same}
use Rattle.prem_wcet.proofs.SameRanges.{same_append, same_lines}

-- ---- the start as one scope

-- the ranges of the start, each once, with those of `job`
pub start_told : (e : Scene) (at job : ℕ) (code touched : List Extent) (ps : Pieces) →
    code ≡ with_ranges (extent_of at (start_code job) ∷ []) (fact_of e job).code → touched ≡ with_ranges [] (fact_of e job).touched → ps ≡ start_code job →
    charge_with e at (bare_span ps) (lines_of e.plant.line (code ++ touched)) (lines_of e.plant.line touched) ≡ charge (at_start e) at (job_span job)
start_told e at job code touched ps run touch is =
    let v : Scene = at_start e in
    let s : Span = job_span job in
    let own : List Extent = extent_of at (start_code job) ∷ [] in
    let f : Fact = fact_of e job in
    let codes : AreSame (with_ranges own f.code) (code_ranges v at s) =
    λ p. ranges_same own f.code p ∙ ap (λ xs. list_any p own || list_any p xs) (sym (append-nil f.code)) ∙ sym (list_any-append p own (f.code ++ [])) in
    let held : AreSame (with_ranges [] f.touched) (data_ranges v s) = λ p. ranges_same [] f.touched p ∙ ap (list_any p) (sym (append-nil f.touched)) in
    let all = same_append (with_ranges own f.code) (code_ranges v at s) (with_ranges [] f.touched) (data_ranges v s) codes held in
    (λ i. charge_with e at (bare_span (is i)) (lines_of e.plant.line (run i ++ touch i)) (lines_of e.plant.line (touch i)))
    ∙ (λ i. charge_with v at s
    (same_lines e.plant.line (with_ranges own f.code ++ with_ranges [] f.touched) (code_ranges v at s ++ data_ranges v s) all i)
    (same_lines e.plant.line (with_ranges [] f.touched) (data_ranges v s) held i))

pub cut_told : (e : Scene) (job jump done n : ℕ) (first parted last inside whole : SumsTree) → jump ≡ own_jump e → done ≡ job_weight e.plant PmDone →
    sums_of first ≡ taking jump → sums_of last ≡ taking done → sums_of parted ≡ (fact_of e job).parted.sums →
    AreTold inside (chained (sums_of parted) (sums_of last)) → AreTold whole (chained (sums_of first) (sums_of inside)) → n ≡ greatest (sums_of whole) → clipped n ≡ clipped (cut_stretch e job)
cut_told e job jump done n first parted last inside whole ej ed ef el ep ei ew en =
    let behind = ei ∙ (λ i. clipped_sums (chained (ep i) (el i))) ∙ ap (λ k. clipped_sums (chained (fact_of e job).parted.sums (taking k))) ed in
    let all = ew ∙ chained_alike (sums_of first) (sums_of inside) (taking (own_jump e))
    (chained (fact_of e job).parted.sums (taking (job_weight e.plant PmDone))) (ap clipped_sums ef ∙ ap (λ k. clipped_sums (taking k)) ej) behind in
    ap clipped en ∙ greatest_alike (sums_of whole) (chained (taking (own_jump e)) (chained (fact_of e job).parted.sums (taking (job_weight e.plant PmDone)))) all

-- ---- where the facts in memory are told

module _ (p : Plant) (plans : List Plan) (program : Resolved) (t : TaskPlaces) (e : Scene) (each : (f : ℕ) → FactsAlike (fact_of e f) (fact_of (known_scene p plans program t) f))
    (pieces : map (λ (f : Fact). f.pieces) e.facts ≡ map (λ (f : Fact). f.pieces) (known_scene p plans program t).facts) (functions : e.functions ≡ (known_scene p plans program t).functions)
    (plant : e.plant ≡ p) (places : e.places ≡ (known_scene p plans program t).places) (global : e.global ≡ (known_scene p plans program t).global) (stack : e.stack ≡ []) where
  abbrev v : Scene
  v = known_scene p plans program t

  -- the task's scene with the facts in memory
  abbrev u : Scene
  u = record v { facts = e.facts }

  charge_is : (at : ℕ) (s : Span) → charge e at s ≡ charge v at s
  charge_is at s =
      (λ i. charge (record v { plant = plant i; functions = functions i; places = places i; global = global i; stack = stack i; facts = e.facts }) at s)
      ∙ charge_same u v.parts v.plans v.stub v.facts each pieces at s

  start_is : own_start e ≡ own_start v
  start_is = ap (λ (q : Plant). own_start (record v { plant = q })) plant

  pub job_alike : Alike (job_by e program.job) (job_of v program)
  job_alike = by (fact_of e program.job).cuts (fact_of v program.job).cuts (each program.job).cuts where
    by : (a b : Bool) → a ≡ b → Alike
        (cond a (own_start e + (fact_of e program.job).parted.total)
        (min (charge e (e.places start_part) (job_span program.job)) (own_start e + (fact_of e program.job).least)))
        (cond b (own_start v + (fact_of v program.job).parted.total) (min (charge v (v.places start_part) (start_span program)) (own_start v + (fact_of v program.job).least)))
    by true true same = alike_sum _ _ _ _ (ap clipped start_is) (each program.job).parted.total
    by false false same =
        alike_min _ _ _ _ (ap clipped (ap (λ (w : ℕ → ℕ). charge e (w start_part) (job_span program.job)) places ∙ charge_is (v.places start_part) (start_span program)))
        (alike_sum _ _ _ _ (ap clipped start_is) (each program.job).least)
    by true false same = absurd cc
    by false true same = absurd cc

  pub stretch_alike : Alike (stretch_by e program.job) (stretch_within v program)
  stretch_alike = by (fact_of e program.job).cuts (fact_of v program.job).cuts (each program.job).cuts where
    sums_alike : clipped_sums (chained (taking (own_jump e)) (chained (fact_of e program.job).parted.sums (taking (job_weight e.plant PmDone))))
        ≡ clipped_sums (chained (taking (own_jump v)) (chained (fact_of v program.job).parted.sums (taking (job_weight p PmDone))))
    sums_alike =
        chained_alike (taking (own_jump e)) _ (taking (own_jump v)) _ (ap (λ (q : Plant). clipped_sums (taking (own_jump (record v { plant = q })))) plant)
        (chained_alike (fact_of e program.job).parted.sums (taking (job_weight e.plant PmDone)) (fact_of v program.job).parted.sums
        (taking (job_weight p PmDone)) (each program.job).parted.sums (ap (λ (q : Plant). clipped_sums (taking (job_weight q PmDone))) plant))

    by : (a b : Bool) → a ≡ b → Alike (cond a (cut_stretch e program.job) (job_by e program.job)) (cond b (cut_stretch v program.job) (job_of v program))
    by true true same = greatest_alike _ _ sums_alike
    by false false same = job_alike
    by true false same = absurd cc
    by false true same = absurd cc

pub stated_are : (ns : List ℕ) (plans : List Plan) → length ns ≡ length plans → greatest_stated (with_lengths ns plans) ≡ greatest_length ns
stated_are [] [] e = refl
stated_are [] (plan ∷ plans) e = refl
stated_are (n ∷ ns) [] e = absurd (omega (arith, e))
stated_are (n ∷ ns) (plan ∷ plans) e = ap (max n) (stated_are ns plans (omega (arith, e)))
