-- A `job` without marked calls runs in scopes and lone steps.
use Rattle.std.specs.Prelude.{not}
use Rattle.std.specs.List.{list_any}
use Rattle.std.proofs.Common.{◌≡◌, ℕ, ◌+◌, ◌^◌, ◌<◌, inl, inr, refl, ap, ◌∙◌, sym, subst, arith, eq-eqb, ltb, true, false, Bool, ◌||◌, List, [], ◌∷◌, length, Some}
use Rattle.std.proofs.lemmas.Bool.{and_from}
use Rattle.prem_isa.specs.declared.effect.Phase.TheVariants.{Compatible}
use Rattle.prem_syntax.specs.Resolved.{Routine}
use Rattle.prem_syntax.specs.Reach.{IsAmong, callees_in as called_in}
use Rattle.prem_ranges.specs.RangesKept.{limits_of}
use Rattle.prem_asm.specs.Runs.{Stuck, run}
use Rattle.prem_layout.specs.Template.Parts.{parts_of, is_marked_at}
use Rattle.prem_layout.specs.Template.Steps.{function_code}
use Rattle.prem_layout.specs.Template.Frames.{frame_of}
use Rattle.prem_layout.specs.Parts.{start_part}
use Rattle.prem_layout.specs.Footprint.{place_at}
use Rattle.prem_code_laws.specs.GenLaws.Table.{one_of}
use Rattle.prem_sets_sound.specs.StubLaws.Initial.Standing.{setting_of, globals_in}
use Rattle.prem_sets_sound.specs.StubLaws.StubFits.Within.{codes_in}
use Rattle.prem_sets_sound.specs.TaskLaws.TaskFrame.Frames.{task_guard, job_frame}
use Rattle.prem_sets_sound.specs.TaskLaws.TaskFrame.Callees.{callees_in, job_callable, plain_callable}
use Rattle.prem_sets_sound.specs.TaskRuns.Called.{task_calls, job_calls}
use Rattle.prem_sets_sound.proofs.TaskRunsLemmas.Filled.{program_keeps}
use Rattle.prem_wcet_laws.specs.Scopes.{Fact, fact_of, lines_in, charge}
use Rattle.prem_wcet_laws.specs.Wcet.{stack_of, known_scene, scene_of, fact_at, start_span}
use Rattle.prem_wcet_laws.specs.Parted.{cuts, has_cut}
use Rattle.prem_wcet_laws.specs.Scenes.{facts_in, scene_in}
use Rattle.prem_wcet_laws.proofs.OneScope.{steps_callable}
use Rattle.prem_wcet_laws.proofs.Scenes.{IsFact, each_fact}
use Rattle.prem_latency.proofs.WcetLemmas.Stands.{placed_tasks_stand, placed_frames_stand}
use Rattle.prem_sets_sound.proofs.TaskLawsLemmas.ProgramFitsLemmas.Functions.{functions_fit}
use Rattle.prem_sets_sound.proofs.TaskLawsLemmas.TaskGroundLemmas.Stands.{jobs_stand}
use Rattle.prem_sets_sound.proofs.TaskLawsLemmas.TaskBytesLemmas.Parts.{parts_of_task, laid}
use Rattle.prem_sets_sound.proofs.TaskRunsLemmas.Filled.{code_is, table_code, code_within, small_memory}
use Rattle.prem_wcet_laws.specs.Divided.{RunDivides}
use Rattle.prem_wcet_laws.proofs.Scenes.{quiet_jobs_divide}
use Rattle.prem_latency.specs.Wcet.QuietJobs.{PlacedQuietJobsDivide, PlacedQuietStarts}
use Rattle.prem_latency.proofs.WcetLemmas.JobCourse.{same_below, job_here}
use Rattle.prem_wcet_laws.specs.Starts.{RunStarts}
use Rattle.prem_wcet_laws.proofs.Starts.{quiet_starts_are_scopes}

-- ---- no marked callees

neither : (b c : Bool) → (b || c) ≡ false → b ≡ false
neither true c e = e
neither false c e = refl

each_false : (P : ℕ → Bool) (xs : List ℕ) → list_any P xs ≡ false → (g : ℕ) → IsAmong g xs → P g ≡ false
each_false P [] e g h = absurd h
each_false P (x ∷ xs) e g (inl same) = ap P (sym same) ∙ neither (P x) (list_any P xs) e
each_false P (x ∷ xs) e g (inr h) = each_false P xs (other (P x) (list_any P xs) e) g h where
  other : (b c : Bool) → (b || c) ≡ false → c ≡ false
  other true c e = cc
  other false c e = e

pub placed_quiet_jobs_divide : PlacedQuietJobsDivide
placed_quiet_jobs_divide passes p devices tasks places k t placed same x keeps some plans f is st u back word after b two one al small means quiet =
    let P = t.task.program in
    let s = setting_of p (task_guard t) t in
    let gs = globals_in p.target t.task.program in
    let parts = parts_of p.target t.task.program.routines in
    let job = t.task.program.job in
    let c = codes_in t in
    let at = s.places (c.code_part t.task.program.job) in
    let j = job_here passes p devices tasks places k t placed same x keeps some in
    let both : Some j.routine ≡ Some f = sym j.there ∙ is in
    let same_routine : j.routine ≡ f = cc in
    let g = jobs_stand p placed.plant_is devices tasks places (laid p devices tasks places k t placed) k t placed.there f is in
    let none : 0 + t.task.program.job ≡ t.task.program.job = omega arith in
    let fact : fact_of (known_scene p plans P t.at) job ≡ fact_at (scene_in p plans P t.at job) f at =
    subst (λ n. IsFact (scene_of p plans P t.at) (stack_of P t.at) (facts_in p plans P t.at) n f) none (each_fact (scene_of p plans P t.at) (stack_of P t.at) P.routines [] job f is) in
    let no_cut : has_cut (scene_in p plans P t.at job) f.body ≡ false = ap (λ (y : Fact). y.cuts) (sym fact) ∙ quiet in
    let among : (n : ℕ) → IsAmong n (called_in f.body) → plain_callable P n ≡ true =
    λ n h. (
    let callable : job_callable P n ≡ true =
    steps_callable gs parts (callees_in P (job_callable P)) Compatible _ _ f.body
    (subst (λ (r : Routine). Rattle.prem_code_laws.specs.GenLaws.Fits.StepsFit gs parts (callees_in P (job_callable P)) Compatible
    (Rattle.prem_layout.specs.Template.Frames.locals_of r) j.under r.body) same_routine j.fits.body) n h in
    let cut : cuts (scene_in p plans P t.at job) n ≡ false = each_false (cuts (scene_in p plans P t.at job)) (called_in f.body) no_cut n h in
    and_from (ltb n job) (not (is_marked_at P.routines n)) callable (ap not (neither (is_marked_at P.routines n) _ cut))) in
    let le = code_within p devices tasks places k t placed x keeps job (function_code parts f) (table_code p devices tasks places k t placed x keeps job f is) in
    let room = small_memory p devices tasks places k t placed x keeps in
    let fits = functions_fit p.target x P (program_keeps p devices tasks places k t placed x keeps) job f is (plain_callable P) among Compatible (inl refl) (place_at t.at (1 + job)).0
    ((parts_of_task p devices tasks places k t placed).aligned (1 + job)) (omega (arith, le, room)) in
    let called : job_calls s t (c.code_part job) u ≡ run s (task_calls s t) at (function_code parts f) u =
    ap (λ b. one_of b (run s (task_calls s t) at (c.code job) u) Stuck) (eq-eqb (c.code_part job) (c.code_part job) refl)
    ∙ ap (λ ps. run s (task_calls s t) at ps u) (code_is p devices tasks places k t placed x keeps job f is) in
    let top_small : (job_frame t).sp + frame_of f < 2 ^ 32 = subst (λ n. n < 2 ^ 32) (sym g.frame_is) g.small in
    let alone : 0 ≡ length f.text.params = sym (ap (λ (r : Routine). length r.text.params) (sym same_routine) ∙ ap length j.alone) in
    subst (RunDivides p (fact_of (known_scene p plans P t.at) job).least) (sym called)
    (quiet_jobs_divide p plans P t.at s gs parts (callees_in P (plain_callable P)) Compatible c (placed_tasks_stand p devices tasks places k t placed x keeps) (limits_of x) (task_calls s t)
    (λ part v. same_below passes p devices tasks places k t placed same x keeps some job (omega arith) part v) f is (job_frame t) g.ground
    (placed_frames_stand p devices tasks places k t placed x keeps)
    _ _ fits g.slots g.space [] st u back word after alone (record { stands = λ i lt. absurd (omega (arith, lt)); word = λ i lt. absurd (omega (arith, lt)) }) b two top_small one al small means)

pub placed_quiet_starts : PlacedQuietStarts
placed_quiet_starts passes p devices tasks places k t placed same x keeps some plans f is st u back word after b two one al small means quiet =
    let P = t.task.program in
    let s = setting_of p (task_guard t) t in
    let gs = globals_in p.target t.task.program in
    let parts = parts_of p.target t.task.program.routines in
    let job = t.task.program.job in
    let c = codes_in t in
    let at = s.places (c.code_part t.task.program.job) in
    let j = job_here passes p devices tasks places k t placed same x keeps some in
    let both : Some j.routine ≡ Some f = sym j.there ∙ is in
    let same_routine : j.routine ≡ f = cc in
    let g = jobs_stand p placed.plant_is devices tasks places (laid p devices tasks places k t placed) k t placed.there f is in
    let none : 0 + t.task.program.job ≡ t.task.program.job = omega arith in
    let fact : fact_of (known_scene p plans P t.at) job ≡ fact_at (scene_in p plans P t.at job) f at =
    subst (λ n. IsFact (scene_of p plans P t.at) (stack_of P t.at) (facts_in p plans P t.at) n f) none (each_fact (scene_of p plans P t.at) (stack_of P t.at) P.routines [] job f is) in
    let no_cut : has_cut (scene_in p plans P t.at job) f.body ≡ false = ap (λ (y : Fact). y.cuts) (sym fact) ∙ quiet in
    let among : (n : ℕ) → IsAmong n (called_in f.body) → plain_callable P n ≡ true =
    λ n h. (
    let callable : job_callable P n ≡ true =
    steps_callable gs parts (callees_in P (job_callable P)) Compatible _ _ f.body
    (subst (λ (r : Routine). Rattle.prem_code_laws.specs.GenLaws.Fits.StepsFit gs parts (callees_in P (job_callable P)) Compatible
    (Rattle.prem_layout.specs.Template.Frames.locals_of r) j.under r.body) same_routine j.fits.body) n h in
    let cut : cuts (scene_in p plans P t.at job) n ≡ false = each_false (cuts (scene_in p plans P t.at job)) (called_in f.body) no_cut n h in
    and_from (ltb n job) (not (is_marked_at P.routines n)) callable (ap not (neither (is_marked_at P.routines n) _ cut))) in
    let le = code_within p devices tasks places k t placed x keeps job (function_code parts f) (table_code p devices tasks places k t placed x keeps job f is) in
    let room = small_memory p devices tasks places k t placed x keeps in
    let fits = functions_fit p.target x P (program_keeps p devices tasks places k t placed x keeps) job f is (plain_callable P) among Compatible (inl refl) (place_at t.at (1 + job)).0
    ((parts_of_task p devices tasks places k t placed).aligned (1 + job)) (omega (arith, le, room)) in
    let called : job_calls s t (c.code_part job) u ≡ run s (task_calls s t) at (function_code parts f) u =
    ap (λ b. one_of b (run s (task_calls s t) at (c.code job) u) Stuck) (eq-eqb (c.code_part job) (c.code_part job) refl)
    ∙ ap (λ ps. run s (task_calls s t) at ps u) (code_is p devices tasks places k t placed x keeps job f is) in
    let top_small : (job_frame t).sp + frame_of f < 2 ^ 32 = subst (λ n. n < 2 ^ 32) (sym g.frame_is) g.small in
    let alone : 0 ≡ length f.text.params = sym (ap (λ (r : Routine). length r.text.params) (sym same_routine) ∙ ap length j.alone) in
    subst (RunStarts p (lines_in (known_scene p plans P t.at) (place_at t.at start_part).0 (start_span P))
    (charge (known_scene p plans P t.at) (place_at t.at start_part).0 (start_span P)) (place_at t.at start_part).0 at) (sym called)
    (quiet_starts_are_scopes p plans P t.at s gs parts (callees_in P (plain_callable P)) Compatible c (placed_tasks_stand p devices tasks places k t placed x keeps) (limits_of x) (task_calls s t)
    (λ part v. same_below passes p devices tasks places k t placed same x keeps some job (omega arith) part v) f is (job_frame t) g.ground
    (placed_frames_stand p devices tasks places k t placed x keeps)
    _ _ fits g.slots g.space [] st u back word after alone (record { stands = λ i lt. absurd (omega (arith, lt)); word = λ i lt. absurd (omega (arith, lt)) }) b two top_small one al small means)
