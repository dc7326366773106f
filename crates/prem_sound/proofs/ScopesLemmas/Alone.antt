-- Where each instruction is a scope by itself, it is charged what is due for it.
use Rattle.std.proofs.Common.{◌≡◌, ℕ, zero, suc, ◌+◌, ◌*◌, refl, ap, ◌∙◌, sym, subst, arith, Some, None, Option, List, [], ◌∷◌, append-nil, length}
use Rattle.prem_sound.proofs.Prelude.{data_accesses, accesses_of, due_of, cost_of, TaskRun, Did, plain_did, plain_run, Access, Phase, Compatible, Execution, all_by, AllIn, Plant, within_job}
use Rattle.prem_sound.proofs.Prelude.{job_by, within_stretch, own_due, stretch_by, lines_with, scope_by, IsScoped, charge_with, Charges, charges_by, own_charge, did_charge, job_with}
use Rattle.prem_sound.proofs.Prelude.{job_charged, stretch_with, stretch_charged, charge_due, all_charged, alone_with, each_alone, PacedRunsAreCharged, SinglesAreDue, line_cost, roomy_of}
use Rattle.prem_sound.proofs.Prelude.{crowded_of, access_lines, lines_of_did, lines_of_dids, cost_of_dids, begun_by, change_due, did_due, Script, call_at, due_with, due_by, sum_by-cons}
use Rattle.prem_isa.specs.declared.effect.Phase.TheVariants.{Memory as MemoryPhase}
use Rattle.prem_sound.proofs.ScopesLemmas.Misses.{both_parts}

-- ---- one instruction

access_count : (size : ℕ) (a : Option Access) → length (access_lines size a) ≡ data_accesses a
access_count size None = refl
access_count size (Some a) = refl

-- each of its lines is in a roomy set or in a crowded one
alone_charge : (plant : Plant) (d : Did) → charge_with plant (Some (lines_of_did plant.line d)) (lines_of_did plant.line d) d ≡ due_of plant d
alone_charge plant d =
    let ls : List ℕ = lines_of_did plant.line d in
    let parts : length (roomy_of plant ls ls) + length (crowded_of plant ls ls) ≡ length ls = both_parts plant ls ls in
    let count : length ls ≡ accesses_of d = let e : length (access_lines plant.line d.access) ≡ data_accesses d.access = access_count plant.line d.access in omega (arith, e) in
    ap (λ n. cost_of d.instr + n * line_cost plant) (parts ∙ count)

alone_charge_with : (plant : Plant) (o : Option Did) (d : Did) (old : List ℕ) → o ≡ Some d → charge_with plant (alone_with plant o) (lines_with (alone_with plant o) old) d ≡ due_of plant d
alone_charge_with plant o d old e = subst (λ q. charge_with plant (alone_with plant q) (lines_with (alone_with plant q) old) d ≡ due_of plant d) (sym e) (alone_charge plant d)

module _ (plant : Plant) (run : TaskRun) where
  abbrev charge : Charges
  charge = charges_by plant run (each_alone plant run)

  charge_is : (n : ℕ) (d : Did) → plain_did run (plain_run run n) ≡ Some d → charge n d ≡ due_of plant d
  charge_is n d e = alone_charge_with plant (plain_did run (plain_run run n)) d (scope_by run (each_alone plant run) n) e

  lines_are : (n : ℕ) (d : Did) → plain_did run (plain_run run n) ≡ Some d → AllIn (lines_with (each_alone plant run n) (scope_by run (each_alone plant run) n)) (lines_of_did plant.line d)
  lines_are n d e = subst (λ q. AllIn (lines_with (alone_with plant q) (scope_by run (each_alone plant run) n)) (lines_of_did plant.line d)) (sym e)
      (all_by (lines_of_did plant.line d) (lines_of_did plant.line d) (λ x h. h))

  did_is : (stated : ℕ) (ph : Phase) (d : Did) (n : ℕ) → n ≡ due_of plant d → did_charge plant stated ph d.change n ≡ did_due plant stated ph d
  did_is stated Compatible d n e = ap (λ m. m + change_due plant stated d.change) e
  did_is stated MemoryPhase d n e = refl
  did_is stated Execution d n e = refl

  own_is : (ph : Phase) (d : Did) (n : ℕ) → n ≡ due_of plant d → own_charge ph n ≡ own_due plant ph d
  own_is Compatible d n e = e
  own_is MemoryPhase d n e = refl
  own_is Execution d n e = refl

  job_step : (s : Script) (n : ℕ) (o : Option Did) (job : ℕ) → plain_did run (plain_run run n) ≡ o →
      job_with plant s (begun_by run n) charge n o job ≡ Rattle.prem_sound.specs.Paced.Paced.job_with plant s (begun_by run n) o job
  job_step s n None job e = refl
  job_step s n (Some d) job e = ap (λ m. within_job d.change (job + m)) (did_is (call_at s (begun_by run n).calls).stated d.phase d (charge n d) (charge_is n d e))

  job_same : (s : Script) (n : ℕ) → job_charged plant s run charge n ≡ job_by plant s run n
  unfolding job_charged job_by
  job_same s zero = refl
  job_same s (suc n) = ap (λ m. job_with plant s (begun_by run n) charge n (plain_did run (plain_run run n)) m) (job_same s n)
      ∙ job_step s n (plain_did run (plain_run run n)) (job_by plant s run n) refl

  stretch_step : (n : ℕ) (o : Option Did) (stretch : ℕ) → plain_did run (plain_run run n) ≡ o → stretch_with charge n o stretch ≡ Rattle.prem_sound.specs.Paced.Paced.stretch_with plant o stretch
  stretch_step n None stretch e = refl
  stretch_step n (Some d) stretch e = ap (λ m. within_stretch d.change (stretch + m)) (own_is d.phase d (charge n d) (charge_is n d e))

  stretch_same : (n : ℕ) → stretch_charged run charge n ≡ stretch_by plant run n
  unfolding stretch_charged stretch_by
  stretch_same zero = refl
  stretch_same (suc n) = ap (λ m. stretch_with charge n (plain_did run (plain_run run n)) m) (stretch_same n) ∙ stretch_step n (plain_did run (plain_run run n)) (stretch_by plant run n) refl

  due_step : (s : Script) (n : ℕ) (o : Option Did) → plain_did run (plain_run run n) ≡ o → charge_due plant s (begun_by run n) charge n o ≡ due_with plant s (begun_by run n) o
  due_step s n None e = refl
  due_step s n (Some d) e = did_is (call_at s (begun_by run n).calls).stated d.phase d (charge n d) (charge_is n d e)

  -- in all
  pub all_same : (s : Script) (n : ℕ) → all_charged plant s run charge n ≡ due_by plant s run n
  unfolding all_charged due_by
  all_same s zero = refl
  all_same s (suc n) =
      let a : all_charged plant s run charge n ≡ due_by plant s run n = all_same s n in
      let b : charge_due plant s (begun_by run n) charge n (plain_did run (plain_run run n))
      ≡ due_with plant s (begun_by run n) (plain_did run (plain_run run n)) = due_step s n (plain_did run (plain_run run n)) refl in
      omega (arith, a, b)

  pub alone_is_scoped : IsScoped plant run (each_alone plant run)
  alone_is_scoped = record { within = λ n d e compatible. lines_are n d e }

pub paced_runs_are_charged : PacedRunsAreCharged
paced_runs_are_charged plant run s cost longest h = (
  alone_is_scoped plant run,
  record {
    jobs = λ n d e.
        let a : did_charge plant (call_at s (begun_by run n).calls).stated d.phase d.change (charges_by plant run (each_alone plant run) n d)
        ≡ did_due plant (call_at s (begun_by run n).calls).stated d.phase d =
        did_is plant run (call_at s (begun_by run n).calls).stated d.phase d _ (charge_is plant run n d e) in
        omega (arith, h.jobs n d e, job_same plant run s n, a);
    stretches = λ n d e compatible. omega (arith, h.stretches n d e compatible, stretch_same plant run n, charge_is plant run n d e);
    calls = h.calls;
  },
)

-- ---- one instruction as a list

single_cost : (d : Did) → cost_of_dids (d ∷ []) ≡ cost_of d.instr
single_cost d = sum_by-cons (λ (x : Did). cost_of x.instr) d [] ∙ omega arith

single_lines : (size : ℕ) (d : Did) → lines_of_dids size (d ∷ []) ≡ lines_of_did size d
single_lines size d = append-nil (lines_of_did size d)

pub singles_are_due : SinglesAreDue
singles_are_due plant d =
    let ls : List ℕ = lines_of_did plant.line d in
    let parts : length (roomy_of plant ls ls) + length (crowded_of plant ls ls) ≡ length ls = both_parts plant ls ls in
    let count : length ls ≡ accesses_of d = let e : length (access_lines plant.line d.access) ≡ data_accesses d.access = access_count plant.line d.access in omega (arith, e) in (
      subst (AllIn ls) (sym (single_lines plant.line d)) (all_by ls ls (λ x h. h)),
      ap (λ n. n + (length (roomy_of plant ls ls) + length (crowded_of plant ls (lines_of_dids plant.line (d ∷ [])))) * line_cost plant) (single_cost d)
          ∙ ap (λ xs. cost_of d.instr + (length (roomy_of plant ls ls) + length (crowded_of plant ls xs)) * line_cost plant) (single_lines plant.line d)
          ∙ ap (λ n. cost_of d.instr + n * line_cost plant) (parts ∙ count),
    )
