-- A joined image whose tasks' weaves are parted into scopes goes by what these are charged.
use Rattle.std.proofs.Common.{◌≡◌, ℕ, zero, suc, ◌+◌, ◌*◌, ◌<◌, ◌≤◌, sym, subst, arith, Bool, List, [], length}
use Rattle.prem_sets_sound.proofs.Prelude.{run_in, Setup, TaskRun, RunFits, plain_start, plain_run, plain_trace, script_of, TaskCharges, JoinedImagesAreSoundByCharges, JobLimits, IsJoined}
use Rattle.prem_sets_sound.proofs.Prelude.{AreStated, Weave, ends, goes, calls, dids_of, calls_of, scripts_finish_by_jobs, scripts_are_good, strands_are_charged, dids_along, scoping_of}
use Rattle.prem_sets_sound.proofs.Prelude.{Conforms, call_at, Script, Promise, AreScripts, AreInputs}
use Rattle.prem_sets_sound.proofs.StubLawsLemmas.JoinedRunsLemmas.Joined.{chosen, Scripted, joined_script, joined_calls, run_fits, scripts_join, runs}
use Rattle.prem_sets_sound.proofs.WeaveLemmas.Woven.{woven_runs_conform}
use Rattle.prem_sound.proofs.ScopesLemmas.StrandLaws.{charges_look_at_calls}
use Rattle.prem_sound.specs.Scopes.Charged.{Scoping, IsScoped, charges_by, IsCharged}
use Rattle.prem_sound.specs.Scopes.Strands.{ends as over}

-- the lengths of a weave's calls
stated_most : (most : ℕ) (w : Weave) → AreStated most w → (i : ℕ) → (call_at (script_of (calls_of w)) i).stated ≤ most
stated_most most ends p i = omega arith
stated_most most (goes d rest) p i = stated_most most rest p i
stated_most most (calls m rest) p zero = p.0
stated_most most (calls m rest) p (suc i) = stated_most most rest p.1 i

-- ---- one task

module _ (p : Setup) (passes : ℕ → ℕ) (own : ℕ → Bool) (run : TaskRun) (most : JobLimits) (cycles longest : ℕ) (q : Promise) (fits : RunFits run)
    (t : TaskCharges p passes own run most cycles longest q) where
  pub conforms : Conforms p passes own run (calls_of t.joins.weave) (run.jobs * most.cycles) (dids_of t.joins.weave)
  conforms = woven_runs_conform p passes own q.reads run (run.jobs * most.cycles) t.joins.weave t.joins.ending t.joins.woven

  -- its run executes just the instructions of the strand, which end its jobs
  pub strand_trace : plain_trace run (length (dids_along t.strand)) (plain_start run) ≡ dids_along t.strand
  strand_trace = subst (λ ds. plain_trace run (length ds) (plain_start run) ≡ ds) (sym t.dids_are) conforms.trace

  pub strand_ends : (plain_run run (length (dids_along t.strand))).ended ≡ run.jobs
  strand_ends = subst (λ ds. (plain_run run (length ds)).ended ≡ run.jobs) (sym t.dids_are) conforms.ends

  abbrev pub script : Script
  script = (joined_script p passes own run most q fits t.joins).0

  pub script_calls : script.calls ≡ calls_of t.joins.weave
  script_calls = joined_calls p passes own run most q fits t.joins

  pub calls_most : (i : ℕ) → (call_at (script_of (calls_of t.joins.weave)) i).stated ≤ longest
  calls_most = stated_most longest t.joins.weave t.stated

  pub charged_strand : IsScoped p.plant run (scoping_of t.strand) × IsCharged p.plant run script (charges_by p.plant run (scoping_of t.strand)) cycles (p.plant.switch + longest)
  charged_strand =
      strands_are_charged p.plant run script t.strand cycles longest (p.plant.switch + longest) strand_trace strand_ends t.scopes
      (charges_look_at_calls p.plant (script_of (calls_of t.joins.weave)) script cycles longest 0 0 0 t.strand (sym script_calls) t.charged) (omega arith)
      (λ n. let y : (call_at script n).stated ≤ longest = subst (λ cs. (call_at (script_of cs) n).stated ≤ longest) (sym script_calls) (calls_most n) in omega (arith, y))

-- ---- all of them

module _ (passes : ℕ → ℕ) (p : Setup) (content : List ℕ) (own : ℕ → ℕ → Bool) (most : ℕ → JobLimits) (cycles longest : ℕ → ℕ)
    (promises : List (List ℕ) → ℕ → Promise) (limit : ℕ) (h : IsJoined passes p content own most promises limit)
    (each : (inputs : List (List ℕ)) → AreInputs p inputs → (k : ℕ) → k < length p.tasks →
    TaskCharges p passes (own k) (run_in p content inputs k) (most k) (cycles k) (longest k) (promises inputs k)) where
  pub record Told : Type 0 where
    pub script : Script
    pub scoping : Scoping

  pub record Charged (inputs : List (List ℕ)) (k : ℕ) (x : Told) : Type 0 where
    pub scripted : Scripted p passes (own k) (run_in p content inputs k) (most k) (promises inputs k) x.script
    pub scoped : IsScoped p.plant (run_in p content inputs k) x.scoping
    pub charged : IsCharged p.plant (run_in p content inputs k) x.script (charges_by p.plant (run_in p content inputs k) x.scoping) (cycles k) (p.plant.switch + longest k)

  one : (inputs : List (List ℕ)) → AreInputs p inputs → (k : ℕ) → k < length p.tasks → (x : Told) × Charged inputs k x
  one inputs i k lt =
      let t : TaskCharges p passes (own k) (run_in p content inputs k) (most k) (cycles k) (longest k) (promises inputs k) = each inputs i k lt in
      let fits = run_fits passes p content own most promises limit h inputs i k lt in
      let x = charged_strand p passes (own k) (run_in p content inputs k) (most k) (cycles k) (longest k) (promises inputs k) fits t in (
        record { script = script p passes (own k) (run_in p content inputs k) (most k) (cycles k) (longest k) (promises inputs k) fits t; scoping = scoping_of t.strand },
        record { scripted = (joined_script p passes (own k) (run_in p content inputs k) (most k) (promises inputs k) fits t.joins).1; scoped = x.0; charged = x.1 },
      )

  pub all_charged : (inputs : List (List ℕ)) → AreInputs p inputs → (told : ℕ → Told) × ((k : ℕ) → k < length p.tasks → Charged inputs k (told k))
  all_charged inputs i = chosen (length p.tasks) (λ k x. Charged inputs k x) (record { script = record { count = 0; calls = []; due = 0 }; scoping = scoping_of over }) (λ k lt. one inputs i k lt)

  pub are_scripts : (inputs : List (List ℕ)) (i : AreInputs p inputs) → AreScripts p passes content inputs own (run_in p content inputs) (λ k. ((all_charged inputs i).0 k).script)
  are_scripts inputs i = scripts_join passes p content own most promises limit h inputs i (λ k. ((all_charged inputs i).0 k).script) (λ k lt. ((all_charged inputs i).1 k lt).scripted)

pub joined_images_are_sound_by_charges : JoinedImagesAreSoundByCharges
joined_images_are_sound_by_charges rule order passes p content own most cycles longest promises limit policy h each = record {
  good = λ inputs requests n i t w.
      scripts_are_good rule order passes p content inputs requests own (run_in p content inputs)
      (λ k. ((all_charged passes p content own most cycles longest promises limit h each inputs i).0 k).script) (promises inputs) n policy
      (runs passes p content own most promises limit h requests t w) (are_scripts passes p content own most cycles longest promises limit h each inputs i)
      (λ k lt. ((all_charged passes p content own most cycles longest promises limit h each inputs i).1 k lt).scripted.kept);
  finished = λ inputs requests n i t w le.
      scripts_finish_by_jobs rule order passes p content inputs requests own (run_in p content inputs)
      (λ k. ((all_charged passes p content own most cycles longest promises limit h each inputs i).0 k).script)
      (λ k. ((all_charged passes p content own most cycles longest promises limit h each inputs i).0 k).scoping) cycles (λ k. p.plant.switch + longest k) n policy
      (runs passes p content own most promises limit h requests t w) (are_scripts passes p content own most cycles longest promises limit h each inputs i)
      (λ k lt. ((all_charged passes p content own most cycles longest promises limit h each inputs i).1 k lt).scoped)
      (λ k lt. ((all_charged passes p content own most cycles longest promises limit h each inputs i).1 k lt).charged) le;
}
