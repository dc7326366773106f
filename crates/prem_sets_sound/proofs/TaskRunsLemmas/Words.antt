-- All code of a placed task that keeps the rules has words, which stand at their places.
use Rattle.std.proofs.Common.{◌≡◌, ℕ, zero, suc, ◌+◌, ◌*◌, ◌%◌, ◌^◌, ◌<◌, ◌≤◌, refl, ap, ◌∙◌, sym, subst, arith, List, [], ◌∷◌, length, map, Some, slice_get, ⊎_elim}
use Rattle.prem_sets_sound.proofs.Prelude.{Pieces, programs_have_words, rounded, PartStands, StartStands, run_in, passes_are_few, start_code, place_at, no_place, stack_place, stub_passes}
use Rattle.prem_sets_sound.proofs.Prelude.{part_count, pass_count, Coded, Placed, Plan, plans_of, stub_of, frame_of, slots_of, parts_of, codes_of, function_code, Extent, Device, Plant}
use Rattle.prem_sets_sound.proofs.Prelude.{limits_of, content_of, setting_of, setup_of, JobFits, IsPlacedTask, HasParts, task_guard, KeepsTaskRules, Routine, Resolved, ProgramText, cases_lt}
use Rattle.prem_sets_sound.proofs.Prelude.{length-map, length-take, get_or_past, slice_get_within, slice_get-map, get_or_from_slice_get, All, slice_index, slice_index_or}
use Rattle.prem_asm.specs.Fit.{PiecesFit}
use Rattle.prem_code_laws.specs.FitLaws.Whole.{HasAddresses, ProgramHasWords}
use Rattle.prem_layout.specs.Parts.{code_part}
use Rattle.prem_sets_sound.proofs.TaskRunsLemmas.Filled.{program_keeps, code_are, table_code, stub_there, part_listed, stub_listed}
use Rattle.prem_sets_sound.proofs.TaskLawsLemmas.ProgramFitsLemmas.Functions.{jobs_fit}
use Rattle.prem_sets_sound.proofs.TaskLawsLemmas.TaskBytesLemmas.Parts.{parts_of_task, at_parts, plans_are}
use Rattle.prem_sets_sound.proofs.TaskLawsLemmas.TaskBytesLemmas.Start.{parts_stand_all, start_stands_first}
use Rattle.prem_sets_sound.proofs.TaskLawsLemmas.TaskGroundLemmas.Depths.{stack_holds_job}
use Rattle.std.specs.Prelude.{take, option_map}

firsts : (qs : List Extent) (n : ℕ) → slice_index (map (λ (q : Extent). q.0) qs) n ≡ (slice_index_or qs n no_place).0
firsts [] n = refl
firsts (q ∷ qs) zero = refl
firsts (q ∷ qs) (suc n) = firsts qs n

pub all_there : {A : Type 0} (P : A → Type 0) (xs : List A) (i : ℕ) (x : A) → All P xs → slice_get xs i ≡ Some x → P x
all_there P xs i x h e = subst P (get_or_from_slice_get xs i x x e) (h i x (slice_get_within xs i x e))

at_most : (n : ℕ) (qs : List Extent) → length (take n qs) ≤ n
at_most n qs = let e = length-take n qs in omega (arith, e)

module _ (p : Plant) (devices : List Device) (tasks : List Coded) (places : List Extent) (k : ℕ) (t : Placed)
    (placed : IsPlacedTask p devices tasks places k t) (x : ProgramText) (keeps : KeepsTaskRules p x t) where
  parts : HasParts p tasks places k t
  parts = parts_of_task p devices tasks places k t placed

  pub job_fits : JobFits p.target t.task.program
  job_fits = jobs_fit p.target x t.task.program (program_keeps p devices tasks places k t placed x keeps)

  pub counted : 1 + t.at.functions + length t.at.marked + length t.at.elements + 1 ≡ part_count t.task.program
  counted =
      let c = parts.counts in
      let a = c.functions in
      let b = c.stubs in
      let d = c.globals in
      let e : length t.plans ≡ length (plans_of t.task.program) = ap (λ (ps : List Plan). length ps) (plans_are p places _ t (at_parts p devices tasks places k t placed)) in
      omega (arith, a, b, d, e)

  -- all parts have places: the last, the stack, has bytes
  many : part_count t.task.program ≤ length t.at.places
  many =
      ⊎_elim
      (λ (lt : length t.at.places < part_count t.task.program).
      let le : length t.at.places ≤ 1 + t.at.functions + length t.at.marked + length t.at.elements = let c = counted in omega (arith, lt, c) in
      let none : stack_place t.at ≡ no_place = get_or_past t.at.places (1 + t.at.functions + length t.at.marked + length t.at.elements) no_place le in
      let low : (stack_place t.at).0 ≡ 0 = ap (λ (q : Extent). q.0) none in
      let high : (stack_place t.at).1 ≡ 0 = ap (λ (q : Extent). q.1) none in
      let size = parts.sizes.stack in
      let holds = stack_holds_job t.task.program job_fits.routine job_fits.there in
      let frame : 0 < frame_of job_fits.routine = (rounded (4 + 4 * slots_of job_fits.routine)).1.1 (omega arith) in
      absurd (omega (arith, low, high, size, holds, frame)))
      (λ (le : part_count t.task.program ≤ length t.at.places). le)
      (cases_lt (length t.at.places) (part_count t.task.program))

  few : length t.at.places ≤ part_count t.task.program
  few =
      let f = at_parts p devices tasks places k t placed in
      let same : t.at.places ≡ take (part_count t.task.program) f.own = ap (λ (u : Placed). u.at.places) f.is in
      subst (λ (qs : List Extent). length qs ≤ part_count t.task.program) (sym same) (at_most (part_count t.task.program) f.own)

  starts_are : (n : ℕ) → slice_index (map (λ (q : Extent). q.0) t.at.places) n ≡ (place_at t.at n).0
  starts_are n = firsts t.at.places n

  addresses : HasAddresses t.task.program (map (λ (q : Extent). q.0) t.at.places)
  addresses = record {
    count = let a = many in let b = few in let c : length (map (λ (q : Extent). q.0) t.at.places) ≡ length t.at.places = length-map t.at.places _ in omega (arith, a, b, c);
    aligned = λ n. ap (λ a. a % 4) (starts_are n) ∙ parts.aligned n;
    small = λ n.
        let e = starts_are n in
        let a = parts.forward n in
        let b = parts.within n in
        let c = placed.plant_is.memory.1 in
        omega (arith, e, a, b, c);
  }

  words : ProgramHasWords p.target t.task.program (stub_passes p) p.line t.at (map (λ (q : Extent). q.0) t.at.places)
  words =
      let small : p.line < 2 ^ 11 = let le = placed.plant_is.line.1 in omega (arith, le) in
      let few_passes : pass_count (stub_passes p) < 2 ^ 11 = let le = (passes_are_few p placed.plant_is).1 in omega (arith, le) in
      let rules = program_keeps p devices tasks places k t placed x keeps in
      subst (λ (q : Resolved). ProgramHasWords p.target q (stub_passes p) p.line t.at (map (λ (r : Extent). r.0) t.at.places)) (sym keeps.program)
      (programs_have_words p.target x (limits_of x).turns (stub_passes p) p.line t.at (map (λ (q : Extent). q.0) t.at.places) keeps.well_formed
      (subst (λ (q : Resolved). Rattle.prem_layout.specs.Template.Limits.excess q ≡ Rattle.std.specs.Prelude.None) keeps.program rules.small)
      few_passes small
      (subst (λ (q : Resolved). HasAddresses q (map (λ (r : Extent). r.0) t.at.places)) keeps.program addresses))

  -- in the words of placed parts
  fits : (ps : Pieces) → PiecesFit (length (map (λ (q : Extent). q.0) t.at.places)) (slice_index (map (λ (q : Extent). q.0) t.at.places)) ps →
      PiecesFit (length (map (λ (q : Extent). q.0) t.at.places)) (λ n. (place_at t.at n).0) ps
  fits ps h =
      let same : slice_index (map (λ (q : Extent). q.0) t.at.places) ≡ (λ n. (place_at t.at n).0) = λ i n. starts_are n i in
      subst (λ (g : ℕ → ℕ). PiecesFit (length (map (λ (q : Extent). q.0) t.at.places)) g ps) same h

  pub code_stands : (n : ℕ) (f : Routine) → slice_get t.task.program.routines n ≡ Some f →
      PartStands (setting_of p (task_guard t) t) (slice_index (content_of p places tasks)) (length (map (λ (q : Extent). q.0) t.at.places)) (1 + n)
      (function_code (parts_of p.target t.task.program.routines) f)
  code_stands n f there =
      let ps = function_code (parts_of p.target t.task.program.routines) f in
      let e = table_code p devices tasks places k t placed x keeps n f there in
      let listed = part_listed p devices tasks places k t placed x keeps n (function_code (parts_of p.target t.task.program.routines) f) e in
      let coded : slice_get (codes_of (parts_of p.target t.task.program.routines) t.task.program.routines) n ≡ Some (function_code (parts_of p.target t.task.program.routines) f) =
      ap (λ (pss : List Pieces). slice_get pss n) (sym (code_are p devices tasks places k t placed x keeps)) ∙ e in
      parts_stand_all p devices tasks places k t placed keeps.six (1 + n) ps listed (length (map (λ (q : Extent). q.0) t.at.places))
      (fits ps (all_there (PiecesFit (length (map (λ (q : Extent). q.0) t.at.places)) (slice_index (map (λ (q : Extent). q.0) t.at.places)))
      (codes_of (parts_of p.target t.task.program.routines) t.task.program.routines) n ps words.code coded))

  pub stub_stands : (j : ℕ) (plan : Plan) → slice_get t.plans j ≡ Some plan →
      PartStands (setting_of p (task_guard t) t) (slice_index (content_of p places tasks)) (length (map (λ (q : Extent). q.0) t.at.places))
      (1 + length t.task.program.routines + j) (stub_of (stub_passes p) p.line t.at plan)
  stub_stands j plan planned =
      let ps = stub_of (stub_passes p) p.line t.at plan in
      let e = stub_there p devices tasks places k t placed x keeps j plan planned in
      let listed = stub_listed p devices tasks places k t placed x keeps j (stub_of (stub_passes p) p.line t.at plan) e in
      let planned' : slice_get (plans_of t.task.program) j ≡ Some plan =
      ap (λ (ps : List Plan). slice_get ps j) (sym (plans_are p places _ t (at_parts p devices tasks places k t placed))) ∙ planned in
      let coded : slice_get (map (stub_of (stub_passes p) p.line t.at) (plans_of t.task.program)) j ≡ Some (stub_of (stub_passes p) p.line t.at plan) =
      slice_get-map (stub_of (stub_passes p) p.line t.at) (plans_of t.task.program) j ∙ ap (option_map (stub_of (stub_passes p) p.line t.at)) planned' in
      parts_stand_all p devices tasks places k t placed keeps.six (1 + length t.task.program.routines + j) ps listed (length (map (λ (q : Extent). q.0) t.at.places))
      (fits ps (all_there (PiecesFit (length (map (λ (q : Extent). q.0) t.at.places)) (slice_index (map (λ (q : Extent). q.0) t.at.places)))
      (map (stub_of (stub_passes p) p.line t.at) (plans_of t.task.program)) j ps words.stubs coded))

  pub job_is : t.table.job ≡ t.task.program.job
  job_is = ap (λ (u : Placed). u.table.job) (at_parts p devices tasks places k t placed).is

  pub start_stands : (inputs : List (List ℕ)) →
      StartStands (setting_of p (task_guard t) t) (run_in (setup_of p devices places tasks) (content_of p places tasks) inputs k)
      (slice_index (content_of p places tasks)) (length (map (λ (q : Extent). q.0) t.at.places)) 0 (code_part t.table.job)
  start_stands inputs =
      start_stands_first p devices tasks places k t placed keeps.six (length (map (λ (q : Extent). q.0) t.at.places))
      (subst (λ j. PiecesFit (length (map (λ (q : Extent). q.0) t.at.places)) (λ n. (place_at t.at n).0) (start_code j)) (sym job_is) (fits (start_code t.task.program.job) words.start)) inputs
