-- The stub of a marked function stands under its guard, and does what its function means.
use Rattle.std.proofs.Common.{◌≡◌, ◌⊎◌, inl, inr, ℕ, zero, suc, ◌+◌, ◌^◌, ◌<◌, ◌≤◌, refl, ap, ◌∙◌, sym, subst, arith, cond, true, false, Bool, List, [], ◌∷◌, length, map, Option, None, Some}
use Rattle.std.proofs.Common.{slice_get}
use Rattle.prem_sets_sound.proofs.Prelude.{Pieces, no_pieces, size_of, IsQuiet, EachPiece, Guard, Setting, quiet_function, IsRunning, PartStands, with_guard, MarkedStands, TaskRun}
use Rattle.prem_sets_sound.proofs.Prelude.{passes_are_few, place_at, ranges_of, footprint_of, conflict_of, pass_count, stub_passes, Coded, Placed, name_at, Plan, plans_of, LateRule, or_else}
use Rattle.prem_sets_sound.proofs.Prelude.{of_conflict, conflict_in, first_conflict, stub_of, parts_of, marked_before, stub_part, function_code, is_in, HaveRoom, Extent, Device, Plant}
use Rattle.prem_sets_sound.proofs.Prelude.{limits_of, confined_by, plan_at, stub_at, content_of, setting_of, globals_in, ConfinedStands, own_of, setup_of, AreOwnAt, CodeIsOwn, IsOf}
use Rattle.prem_sets_sound.proofs.Prelude.{pieces_or, codes_in, reached_in, guard_of, StubStands, ReachFits, IsPlacedTask, HasParts, HasGuard, HasRanges, callees_in, reach_callable}
use Rattle.prem_sets_sound.proofs.Prelude.{HasCodes, task_guard, job_frame, plan_frame, KeepsTaskRules, IsLegalPlan, PlanStands, StubIsWithin, Routine, ProgramText, slice_index}
use Rattle.prem_sets_sound.proofs.TaskRunsLemmas.Filled.{program_keeps, table_code, code_is, stub_there, legal, code_within, small_memory, code_listed, part_listed, stub_listed}
use Rattle.prem_sets_sound.proofs.TaskRunsLemmas.Means.{StubMeans}
use Rattle.prem_sets_sound.proofs.TaskRunsLemmas.Words.{job_fits, code_stands, stub_stands}
use Rattle.prem_sets_sound.proofs.StubLawsLemmas.CoverageLemmas.Room.{no_conflict_is_room}
use Rattle.prem_sets_sound.proofs.StubLawsLemmas.OwnStepsLemmas.Takes.{functions_take}
use Rattle.prem_sets_sound.proofs.StubLawsLemmas.StubFitsLemmas.Costs.{stubs_fit_their_length}
use Rattle.prem_sets_sound.proofs.StubLawsLemmas.StubFitsLemmas.Within.{stub_numbers_agree, stubs_are_within}
use Rattle.prem_sets_sound.proofs.TaskLawsLemmas.ProgramFitsLemmas.Reach.{reach_tasks_fit}
use Rattle.prem_sets_sound.proofs.TaskLawsLemmas.TaskBytesLemmas.Guards.{task_code_is_own}
use Rattle.prem_sets_sound.proofs.TaskLawsLemmas.TaskBytesLemmas.Parts.{parts_of_task, at_parts, laid, plans_are}
use Rattle.prem_sets_sound.proofs.TaskLawsLemmas.TaskBytesLemmas.Plans.{plan_guards, plan_ranges}
use Rattle.prem_sets_sound.proofs.TaskLawsLemmas.TaskBytesLemmas.Start.{lines_fit}
use Rattle.prem_sets_sound.proofs.TaskLawsLemmas.TaskGroundLemmas.Depths.{callees_are_before}
use Rattle.prem_sets_sound.proofs.TaskLawsLemmas.TaskGroundLemmas.Stands.{plans_stand}
use Rattle.prem_sets_sound.specs.StubLaws.OwnSteps.OwnSteps.{Takes}

-- ---- no conflict

none_first : (a b : Option LateRule) → or_else a b ≡ None → (a ≡ None) × (b ≡ None)
none_first None b e = (refl, e)
none_first (Some r) b e = absurd cc

no_conflict : (name : _) (room : ℕ) (o : Option _) → of_conflict name room o ≡ None → o ≡ None
no_conflict name room None e = refl
no_conflict name room (Some c) e = absurd cc

room_of : (p : Plant) (t : Placed) (plans : List Plan) → first_conflict p t plans ≡ None → (j : ℕ) (plan : Plan) → slice_get plans j ≡ Some plan →
    conflict_of p.sets p.ways (footprint_of p.line t.at plan) ≡ None
room_of p t [] none j plan e = cc
room_of p t (x ∷ xs) none zero plan e =
    let same : x ≡ plan = cc in
    let first = (none_first (conflict_in p t x) (first_conflict p t xs) none).0 in
    subst (λ (y : Plan). conflict_of p.sets p.ways (footprint_of p.line t.at y) ≡ None) same
    (no_conflict (name_at t.task.program.routines x.function) p.ways (conflict_of p.sets p.ways (footprint_of p.line t.at x)) first)
room_of p t (x ∷ xs) none (suc j) plan e = room_of p t xs (none_first (conflict_in p t x) (first_conflict p t xs) none).1 j plan e

-- ---- one plan

module _ (passes : ℕ → ℕ) (p : Plant) (devices : List Device) (tasks : List Coded) (places : List Extent) (k : ℕ) (t : Placed)
    (placed : IsPlacedTask p devices tasks places k t) (x : ProgramText) (keeps : KeepsTaskRules p x t)
    (same : passes p.ways ≡ pass_count (stub_passes p)) (j : ℕ) (plan : Plan) (planned : slice_get t.plans j ≡ Some plan) (first : plan.function < t.task.program.job) where
  abbrev s : Setting
  s = setting_of p (task_guard t) t

  few_passes : pass_count (stub_passes p) < 2 ^ 32
  few_passes = let le = (passes_are_few p placed.plant_is).1 in omega (arith, le)

  parts : HasParts p tasks places k t
  parts = parts_of_task p devices tasks places k t placed

  plan_is : IsLegalPlan x t.task.program plan
  plan_is = legal p devices tasks places k t placed x keeps j plan planned

  in_plans : slice_get (plans_of t.task.program) j ≡ Some plan
  in_plans = ap (λ (ps : List Plan). slice_get ps j) (sym (plans_are p places _ t (at_parts p devices tasks places k t placed))) ∙ planned

  part_is : stub_part t.task.program.routines plan.function ≡ 1 + length t.task.program.routines + j
  part_is = (stub_numbers_agree t.task.program j plan in_plans).1

  number_is : marked_before plan.function t.task.program.routines ≡ j
  number_is = let e = part_is in omega (arith, e)

  pub planned_at : plan_at t plan.function ≡ Some plan
  planned_at = ap (slice_get t.plans) number_is ∙ planned

  stub_is : (codes_in t).stub plan.function ≡ stub_of (stub_passes p) p.line t.at plan
  stub_is = ap (λ n. pieces_or (slice_get t.table.stubs n)) number_is ∙ ap pieces_or (stub_there p devices tasks places k t placed x keeps j plan planned)

  guard : HasGuard (setup_of p devices places tasks) (own_of tasks places k) t plan
  guard = plan_guards p devices tasks places k t placed x plan plan_is

  ranges : HasRanges p.memory (own_of tasks places k) t plan
  ranges = plan_ranges p devices tasks places k t placed keeps.code x j plan planned plan_is

  -- what the function reaches has its code
  reached_code : (n : ℕ) (f : Routine) → is_in n plan.reach ≡ true → slice_get t.task.program.routines n ≡ Some f →
      (reached_in t plan).code n ≡ function_code (parts_of p.target t.task.program.routines) f
  reached_code n f member there = ap (λ b. cond b ((codes_in t).code n) no_pieces) member ∙ code_is p devices tasks places k t placed x keeps n f there

  -- a function's code, or nothing
  each_code : (n : ℕ) (P : Pieces → Type 0) → P no_pieces →
      ((f : Routine) → is_in n plan.reach ≡ true → slice_get t.task.program.routines n ≡ Some f →
      P (function_code (parts_of p.target t.task.program.routines) f)) → P ((reached_in t plan).code n)
  each_code n P none some = by (is_in n plan.reach) refl (slice_get t.task.program.routines n) refl where
    by : (b : Bool) → is_in n plan.reach ≡ b → (o : Option Routine) → slice_get t.task.program.routines n ≡ o → P ((reached_in t plan).code n)
    by false out o there = subst P (sym (ap (λ b. cond b ((codes_in t).code n) no_pieces) out)) none
    by true member (Some f) there = subst P (sym (reached_code n f member there)) (some f member there)
    by true member None there =
        let nothing : slice_get t.table.code n ≡ None = code_listed p devices tasks places k t placed x keeps n there in
        subst P (sym (ap (λ b. cond b ((codes_in t).code n) no_pieces) member ∙ ap pieces_or nothing)) none

  quiet : (n : ℕ) → EachPiece IsQuiet ((reached_in t plan).code n)
  quiet n = each_code n (EachPiece IsQuiet) tt (λ f member there. quiet_function (parts_of p.target t.task.program.routines) f (plan_is.quiet p.target first n f member there))

  size_small : (n : ℕ) → (place_at t.at (1 + n)).0 + size_of ((reached_in t plan).code n) ≤ p.memory
  size_small n =
      each_code n (λ ps. (place_at t.at (1 + n)).0 + size_of ps ≤ p.memory) (let a = parts.forward (1 + n) in let b = parts.within (1 + n) in omega (arith, a, b))
      (λ f member there. code_within p devices tasks places k t placed x keeps n (function_code (parts_of p.target t.task.program.routines) f)
      (table_code p devices tasks places k t placed x keeps n f there))

  has_codes : (h : Guard) → HasCodes (with_guard h s) t.task.program (λ n. is_in n plan.reach) (reached_in t plan)
  has_codes h = record {
    part_is = λ n. refl;
    code_is = λ n f member there. reached_code n f member there;
    stub_part_is = λ n. refl;
    marked_is = λ n. refl;
    aligned = λ n. parts.aligned (1 + n);
    ends = λ n lt. let le = size_small n in let small = small_memory p devices tasks places k t placed x keeps in omega (arith, le, small);
  }

  -- the function stands
  fits : ReachFits (with_guard (guard_of t.at plan) s) t.task.program plan (reached_in t plan) t.task.program.job plan_is.routine
  fits =
      reach_tasks_fit x t.task.program (program_keeps p devices tasks places k t placed x keeps)
      j plan in_plans plan_is first plan_is.routine plan_is.there t.task.program.job first (with_guard (guard_of t.at plan) s) (reached_in t plan)
      (has_codes (guard_of t.at plan))

  ground : PlanStands p x t plan plan_is.routine
  ground = plans_stand p placed.plant_is devices tasks places (laid p devices tasks places k t placed) k t placed.there (callees_are_before p x t keeps) x plan plan_is plan_is.routine plan_is.there

  marked_stands : MarkedStands s (guard_of t.at plan) (globals_in p.target t.task.program) (parts_of p.target t.task.program.routines)
      (callees_in t.task.program (reach_callable plan)) (reached_in t plan) (limits_of x)
      t.task.program.routines t.task.program.job plan.function plan_is.routine (job_frame t) (plan_frame t plan)
  marked_stands = record {
    task = fits.task;
    below = first;
    fits = fits.marked;
    quiet = quiet;
    ground = ground.ground;
    slots = ground.slots;
    space = subst (λ n. (plan_frame t plan).low + n ≤ (plan_frame t plan).sp) (sym fits.under_is) ground.space;
    frame_is = ground.frame_is;
    small = ground.small;
    above = ground.above;
  }

  stub_ends : (place_at t.at (stub_part t.task.program.routines plan.function)).0 + size_of ((codes_in t).stub plan.function) < 2 ^ 32
  stub_ends =
      let stands = stub_stands p devices tasks places k t placed x keeps j plan planned in
      let le = stands.within in
      let small = small_memory p devices tasks places k t placed x keeps in
      let size : size_of ((codes_in t).stub plan.function) ≡ size_of (stub_of (stub_passes p) p.line t.at plan) = ap size_of stub_is in
      let place : (place_at t.at (stub_part t.task.program.routines plan.function)).0 ≡ (place_at t.at (1 + length t.task.program.routines + j)).0 = ap (λ n. (place_at t.at n).0) part_is in
      omega (arith, le, small, size, place)

  pub stub_means : StubMeans p s t (limits_of x) plan.function
  stub_means = record {
    few = few_passes;
    plan = plan;
    routine = plan_is.routine;
    planned = planned_at;
    there = plan_is.there;
    marked = plan_is.marked;
    stub_is = stub_is;
    small = plan_is.stated;
    stated_is = plan_is.stated_is;
    line_fits = lines_fit p placed.plant_is (task_guard t) t;
    in_memory = ranges.within s refl;
    aligned = parts.aligned (stub_part t.task.program.routines plan.function);
    ends = stub_ends;
    stands = marked_stands;
  }

  -- ---- in memory

  code_is_of : IsOf t.table (reached_in t plan)
  code_is_of = record { part_is = λ n. refl; code_is = λ n. listed n }
    where
      listed : (n : ℕ) → ((reached_in t plan).code n ≡ no_pieces) ⊎ (slice_get t.table.code n ≡ Some ((reached_in t plan).code n))
      listed n = each_code n (λ ps. (ps ≡ no_pieces) ⊎ (slice_get t.table.code n ≡ Some ps)) (inl refl) (λ f member there. inr (table_code p devices tasks places k t placed x keeps n f there))

  few : t.task.program.job ≤ length t.table.code
  few =
      let lt = (job_fits p devices tasks places k t placed x keeps).below in
      let long = parts.counts.code in
      omega (arith, lt, long)

  line_some : 0 < p.line
  line_some = let le = placed.plant_is.line.0 in omega (arith, le)

  within : StubIsWithin (with_guard (guard_of t.at plan) s) (reached_in t plan) p.line (ranges_of t.at plan) (footprint_of p.line t.at plan)
      t.task.program.job (place_at t.at (stub_part t.task.program.routines plan.function)).0 (stub_of (stub_passes p) p.line t.at plan)
  within =
      let all = stubs_are_within p devices tasks places (laid p devices tasks places k t placed)
      line_some k t placed.there j plan planned ranges.bytes (λ m member. quiet_all m member) (task_guard t) in
      let here = subst (λ n. StubIsWithin (with_guard (guard_of t.at plan) s) (reached_in t plan) p.line (ranges_of t.at plan)
      (footprint_of p.line t.at plan) (length t.task.program.routines) (place_at t.at n).0 (stub_of (stub_passes p) p.line t.at plan)) (sym part_is) all in
      let lt = (job_fits p devices tasks places k t placed x keeps).below in
      record {
        code = record {
          quiet = here.code.quiet;
          takes = here.code.takes;
          code = λ m a less ge high. here.code.code m a (omega (arith, less, lt)) ge high;
          loads = here.code.loads;
          stores = here.code.stores;
        };
        own = here.own;
        in_members = here.in_members;
        members_are = here.members_are;
      }
    where
      quiet_all : (m : ℕ) → is_in m plan.reach ≡ true → EachPiece IsQuiet ((codes_in t).code m)
      quiet_all m member = subst (EachPiece IsQuiet) (ap (λ b. cond b ((codes_in t).code m) no_pieces) member) (quiet m)

  room : HaveRoom p.sets p.ways (footprint_of p.line t.at plan)
  room =
      let some : 0 < p.sets = let le = placed.plant_is.sets.0 in omega (arith, le) in
      no_conflict_is_room p.sets p.ways (footprint_of p.line t.at plan) some (room_of p t t.plans keeps.seven j plan planned)

  -- its place, by the number of the plan
  stub_words : PartStands s (slice_index (content_of p places tasks)) (length (map (λ (q : Extent). q.0) t.at.places))
      (stub_part t.task.program.routines plan.function) (stub_of (stub_passes p) p.line t.at plan)
  stub_words =
      subst (λ n. PartStands s (slice_index (content_of p places tasks)) (length (map (λ (q : Extent). q.0) t.at.places)) n (stub_of (stub_passes p) p.line t.at plan)) (sym part_is)
      (stub_stands p devices tasks places k t placed x keeps j plan planned)

  code_words : (m : ℕ) → PartStands s (slice_index (content_of p places tasks)) (length (map (λ (q : Extent). q.0) t.at.places)) (1 + m) ((reached_in t plan).code m)
  code_words m =
      each_code m (λ ps. PartStands s (slice_index (content_of p places tasks)) (length (map (λ (q : Extent). q.0) t.at.places)) (1 + m) ps)
      (record { words = []; fit = tt; flat_is = refl; within = (let a = parts.forward (1 + m) in let b = parts.within (1 + m) in omega (arith, a, b)); stand = tt })
      (λ f member there. code_stands p devices tasks places k t placed x keeps m f there)

  own_code : (m : ℕ) → CodeIsOwn (own_of tasks places k) (with_guard (guard_of t.at plan) s) (reached_in t plan) m
  own_code m = record {
    bytes = each_code m (λ ps. AreOwnAt (own_of tasks places k) (place_at t.at (1 + m)).0 ps) (λ a ge lt. absurd (omega (arith, ge, lt)))
        (λ f member there. task_code_is_own p devices tasks places k t placed (1 + m) (function_code (parts_of p.target t.task.program.routines) f)
        (part_listed p devices tasks places k t placed x keeps m (function_code (parts_of p.target t.task.program.routines) f) (table_code p devices tasks places k t placed x keeps m f there)));
    takes = each_code m (EachPiece Takes) tt (λ f member there. functions_take (parts_of p.target t.task.program.routines) f);
  }

  module _ (own : TaskRun) (ended : ℕ) (running : IsRunning s own ended) (stack : own.stack < 2 ^ 32) where
    pub stands : StubStands p passes s (guard_of t.at plan) (reached_in t plan) own ended (slice_index (content_of p places tasks))
        (length (map (λ (q : Extent). q.0) t.at.places)) t.task.program.job (stub_at p t plan)
    stands = record {
      running = running;
      stack = stack;
      grows = guard.grows;
      line_fits = (let l = lines_fit p placed.plant_is (guard_of t.at plan) t in record { positive = l.positive; whole = l.whole; memory = l.memory; small = l.small });
      in_memory = ranges.within (with_guard (guard_of t.at plan) s) refl;
      count_is = sym same;
      few = few_passes;
      small = plan_is.stated;
      code = λ m lt. code_words m;
      stub_words = stub_words;
      within = within;
      room = room;
      cost = stubs_fit_their_length p t (reached_in t plan) code_is_of keeps.nine t.task.program.job few j plan
          (stub_of (stub_passes p) p.line t.at plan) planned (stub_there p devices tasks places k t placed x keeps j plan planned);
    }

    pub confined_stands : ConfinedStands (setup_of p devices places tasks) (own_of tasks places k) passes s (codes_in t) (confined_by t plan)
        own ended (slice_index (content_of p places tasks)) (length (map (λ (q : Extent). q.0) t.at.places)) t.task.program.job plan.function
    confined_stands = record {
      at = stub_at p t plan;
      stands = stands;
      part_is = refl;
      code_is = stub_is;
      own_guard = guard.bytes;
      own_code = λ m lt. own_code m;
      have_bytes = ranges.bytes;
      own_ranges = ranges.own_bytes;
      own_stub = own_stub;
    }
      where
        own_stub : AreOwnAt (own_of tasks places k) (place_at t.at (stub_part t.task.program.routines plan.function)).0 (stub_of (stub_passes p) p.line t.at plan)
        own_stub =
            subst (λ n. AreOwnAt (own_of tasks places k) (place_at t.at n).0 (stub_of (stub_passes p) p.line t.at plan)) (sym part_is)
            (task_code_is_own p devices tasks places k t placed (1 + length t.task.program.routines + j) (stub_of (stub_passes p) p.line t.at plan)
            (stub_listed p devices tasks places k t placed x keeps j (stub_of (stub_passes p) p.line t.at plan) (stub_there p devices tasks places k t placed x keeps j plan planned)))

    pub stated_so : confined_stands.at.stated ≡ plan.stated
    unfolding confined_stands
    stated_so = refl
