-- A joined image whose tasks' weaves are parted into scopes serves its devices in time.
use Rattle.std.specs.Prelude.{min, ◌-◌, ◌∷◌}
use Rattle.std.proofs.Common.{◌≡◌, ℕ, zero, suc, ◌+◌, ◌*◌, ◌<◌, ◌≤◌, sym, subst, arith, Bool, List, [], length}
use Rattle.prem_plant.specs.declared.plant.Plant.{Plant}
use Rattle.prem_isa.specs.Plain.{TaskRun, RunFits, Did, plain_start, plain_run, plain_trace}
use Rattle.prem_cycle.specs.Alone.{run_in}
use Rattle.prem_cycle.specs.State.{Setup}
use Rattle.prem_sound.specs.Script.Script.{cost_of_dids, call_at, Script, Begun, none_begun, Call, begun_after}
use Rattle.prem_sound.specs.Script.Scripts.{Promise, AreScripts}
use Rattle.prem_sound.specs.Sound.{AreInputs}
use Rattle.prem_sound.specs.Scopes.Charged.{Scoping, IsScoped, charges_by, IsCharged}
use Rattle.prem_sound.specs.Scopes.Strands.{ends as over, dids_along, scoping_of}
use Rattle.prem_sets_sound.specs.Weave.Weave.{dids_of, calls_of}
use Rattle.prem_sets_sound.specs.StubLaws.JoinedRuns.Joined.{JobLimits, IsJoined}
use Rattle.prem_sets_sound.specs.StubLaws.Charges.Charges.{script_of}
use Rattle.prem_sets_sound.proofs.StubLawsLemmas.JoinedRunsLemmas.Joined.{chosen, Scripted, joined_script, run_fits, scripts_join, runs}
use Rattle.prem_sets_sound.proofs.StubLawsLemmas.ChargesLemmas.Images.{conforms, script as joined_of, script_calls, calls_most, charged_strand}
use Rattle.prem_resp.specs.declared.busy.load.Load.{Load}
use Rattle.prem_resp.specs.Deadline.Deadlines.{AreLoads}
use Rattle.prem_resp.specs.Timed.Timed.{TellsCharges}
use Rattle.prem_resp.proofs.TimedLemmas.Images.{loads_join}
use Rattle.prem_latency.specs.declared.wait.Closing.{Closing}
use Rattle.prem_latency.specs.Wait.{top}
use Rattle.prem_latency.specs.Timeline.{closing_at}
use Rattle.prem_latency.specs.Closed.{IsOpened, short_of, IsClosedBy}
use Rattle.prem_latency.specs.Opened.{OpensAlong}
use Rattle.prem_latency.specs.Waits.{AreClosingsBy, ServesBy}
use Rattle.prem_latency.specs.Joined.{shortened, TaskWaits, TellsTask, TellsWaits, JoinedImagesServeDevices}
use Rattle.prem_latency.proofs.Openings.{traces_open, strands_close}
use Rattle.prem_latency.proofs.Charged.{charges_serve_in_time, charges_drop_none, charges_serve_each}

-- of a script the openings look at its calls alone
pub opens_look : (plant : Plant) (s other : Script) (opens : ℕ → ℕ) (b : Begun) (ds : List Did) → s.calls ≡ other.calls → OpensAlong plant s opens b ds → OpensAlong plant other opens b ds
opens_look plant s other opens b [] e h = tt
opens_look plant s other opens b (d ∷ ds) e h = (
  λ stated c. subst (λ cs. cost_of_dids b.steps + length (call_at (script_of cs) (b.calls - 1)).members * (plant.fill + plant.back) ≤ opens (b.calls - 1)) e (h.0 stated c),
  opens_look plant s other opens (begun_after d.change d b) ds e h.1,
)

-- shortened calls state what the calls keep closed
short_is : (cs : List Call) (opens : ℕ → ℕ) (longest i : ℕ) → min (call_at (script_of cs) i).stated (opens i + longest) ≤ (call_at (script_of (shortened opens longest cs)) i).stated
short_is [] opens longest i = omega arith
short_is (c ∷ cs) opens longest zero = omega arith
short_is (c ∷ cs) opens longest (suc i) = short_is cs (λ n. opens (suc n)) longest i

-- and no more than these
shortened_most : (most : ℕ) (cs : List Call) (opens : ℕ → ℕ) (longest : ℕ) → ((i : ℕ) → (call_at (script_of cs) i).stated ≤ most) → (i : ℕ) →
    (call_at (script_of (shortened opens longest cs)) i).stated ≤ most
shortened_most most [] opens longest h i = omega arith
shortened_most most (c ∷ cs) opens longest h zero = let y : c.stated ≤ most = h 0 in omega (arith, y)
shortened_most most (c ∷ cs) opens longest h (suc i) = shortened_most most cs (λ n. opens (suc n)) longest (λ n. h (suc n)) i

-- ---- one task

module _ (p : Setup) (passes : ℕ → ℕ) (own : ℕ → Bool) (run : TaskRun) (most : JobLimits) (cycles longest top closed : ℕ) (q : Promise)
    (fits : RunFits run) (u : TaskWaits p passes own run most cycles longest top closed q) where
  abbrev script : Script
  script = joined_of p passes own run most cycles longest q fits u.charges

  calls_are : script.calls ≡ calls_of u.charges.joins.weave
  calls_are = script_calls p passes own run most cycles longest q fits u.charges

  abbrev shorter : Script
  shorter = script_of (shortened u.opens top (calls_of u.charges.joins.weave))

  opens : IsOpened p.plant run script u.opens
  opens =
      let c = conforms p passes own run most cycles longest q fits u.charges in
      traces_open p.plant run script u.opens (dids_of u.charges.joins.weave) c.trace c.ends
      (opens_look p.plant (script_of (calls_of u.charges.joins.weave)) script u.opens none_begun (dids_of u.charges.joins.weave) (sym calls_are) u.opened)

  parted_trace : plain_trace run (length (dids_along u.strand)) (plain_start run) ≡ dids_along u.strand
  parted_trace = subst (λ ds. plain_trace run (length ds) (plain_start run) ≡ ds) (sym u.dids_are) (conforms p passes own run most cycles longest q fits u.charges).trace

  parted_ends : (plain_run run (length (dids_along u.strand))).ended ≡ run.jobs
  parted_ends = subst (λ ds. (plain_run run (length ds)).ended ≡ run.jobs) (sym u.dids_are) (conforms p passes own run most cycles longest q fits u.charges).ends

  closes : IsScoped p.plant run (scoping_of u.strand) × IsClosedBy p.plant run (short_of script u.opens top) (charges_by p.plant run (scoping_of u.strand)) closed
  closes =
      strands_close p.plant run shorter (short_of script u.opens top) u.strand closed u.stretch (p.plant.switch + (u.stretch + longest))
      parted_trace parted_ends u.scopes u.closes (omega arith)
      (λ n. let y : (call_at shorter n).stated ≤ longest =
      shortened_most longest (calls_of u.charges.joins.weave) u.opens top (calls_most p passes own run most cycles longest q fits u.charges) n in
      omega (arith, y))
      (λ n. subst (λ cs. min (call_at (script_of cs) n).stated (u.opens n + top) ≤ (call_at shorter n).stated) (sym calls_are) (short_is (calls_of u.charges.joins.weave) u.opens top n))

-- ---- all of them

module _ (passes : ℕ → ℕ) (p : Setup) (content : List ℕ) (own : ℕ → ℕ → Bool) (most : ℕ → JobLimits) (cycles longest closed : ℕ → ℕ)
    (longest_transfer : ℕ) (promises : List (List ℕ) → ℕ → Promise) (limit : ℕ) (h : IsJoined passes p content own most promises limit)
    (each : (inputs : List (List ℕ)) → AreInputs p inputs → (k : ℕ) → k < length p.tasks →
    TaskWaits p passes (own k) (run_in p content inputs k) (most k) (cycles k) (longest k) longest_transfer (closed k) (promises inputs k)) where
  record Told : Type 0 where
    script : Script
    scoping : Scoping
    parting : Scoping
    opens : ℕ → ℕ

  record Charged (inputs : List (List ℕ)) (k : ℕ) (x : Told) : Type 0 where
    scripted : Scripted p passes (own k) (run_in p content inputs k) (most k) (promises inputs k) x.script
    scoped : IsScoped p.plant (run_in p content inputs k) x.scoping
    charged : IsCharged p.plant (run_in p content inputs k) x.script (charges_by p.plant (run_in p content inputs k) x.scoping) (cycles k) (p.plant.switch + longest k)
    opened : IsOpened p.plant (run_in p content inputs k) x.script x.opens
    parted : IsScoped p.plant (run_in p content inputs k) x.parting
    closes : IsClosedBy p.plant (run_in p content inputs k) (short_of x.script x.opens longest_transfer) (charges_by p.plant (run_in p content inputs k) x.parting) (closed k)

  one : (inputs : List (List ℕ)) → AreInputs p inputs → (k : ℕ) → k < length p.tasks → (x : Told) × Charged inputs k x
  one inputs i k lt =
      let u : TaskWaits p passes (own k) (run_in p content inputs k) (most k) (cycles k) (longest k) longest_transfer (closed k) (promises inputs k) = each inputs i k lt in
      let fits = run_fits passes p content own most promises limit h inputs i k lt in
      let x = charged_strand p passes (own k) (run_in p content inputs k) (most k) (cycles k) (longest k) (promises inputs k) fits u.charges in
      let y = closes p passes (own k) (run_in p content inputs k) (most k) (cycles k) (longest k) longest_transfer (closed k) (promises inputs k) fits u in (
        record {
          script = joined_of p passes (own k) (run_in p content inputs k) (most k) (cycles k) (longest k) (promises inputs k) fits u.charges;
          scoping = scoping_of u.charges.strand;
          parting = scoping_of u.strand;
          opens = u.opens;
        },
        record {
          scripted = (joined_script p passes (own k) (run_in p content inputs k) (most k) (promises inputs k) fits u.charges.joins).1;
          scoped = x.0;
          charged = x.1;
          opened = opens p passes (own k) (run_in p content inputs k) (most k) (cycles k) (longest k) longest_transfer (closed k) (promises inputs k) fits u;
          parted = y.0;
          closes = y.1;
        },
      )

  all_charged : (inputs : List (List ℕ)) → AreInputs p inputs → (told : ℕ → Told) × ((k : ℕ) → k < length p.tasks → Charged inputs k (told k))
  all_charged inputs i = chosen (length p.tasks) (λ k x. Charged inputs k x)
      (record { script = record { count = 0; calls = []; due = 0 }; scoping = scoping_of over; parting = scoping_of over; opens = λ n. 0 })
      (λ k lt. one inputs i k lt)

  are_scripts : (inputs : List (List ℕ)) (i : AreInputs p inputs) → AreScripts p passes content inputs own (run_in p content inputs) (λ k. ((all_charged inputs i).0 k).script)
  are_scripts inputs i = scripts_join passes p content own most promises limit h inputs i (λ k. ((all_charged inputs i).0 k).script) (λ k lt. ((all_charged inputs i).1 k lt).scripted)

  are_loads : (inputs : List (List ℕ)) (i : AreInputs p inputs) (loads : List Load) → TellsCharges p cycles longest loads →
      AreLoads p (run_in p content inputs) (λ k. ((all_charged inputs i).0 k).script) (λ k. ((all_charged inputs i).0 k).scoping) loads
  are_loads inputs i loads told =
      loads_join p (run_in p content inputs) (λ k. ((all_charged inputs i).0 k).script) (λ k. ((all_charged inputs i).0 k).scoping) cycles longest loads told
      (λ k lt. let c = (all_charged inputs i).1 k lt in (c.scoped, c.charged))

  are_closings : (inputs : List (List ℕ)) (i : AreInputs p inputs) (loads : List Load) (tasks : List Closing) →
      TellsWaits p loads closed longest_transfer tasks →
      AreClosingsBy p (run_in p content inputs) (λ k. ((all_charged inputs i).0 k).script) loads longest_transfer tasks
  are_closings inputs i loads tasks told = record {
    count = told.count;
    each = λ k lt.
        let c = (all_charged inputs i).1 k lt in
        let t : TellsTask loads closed longest_transfer k (closing_at tasks k) = told.each k lt in
        record {
          period = t.period;
          balanced = t.balanced;
          soon = t.soon;
          opens = ((all_charged inputs i).0 k).opens;
          opened = c.opened;
          parting = ((all_charged inputs i).0 k).parting;
          parted = c.parted;
          most = closed k;
          jobs = c.closes;
          closed = t.closed_is;
        };
  }

pub joined_images_serve_devices : JoinedImagesServeDevices
joined_images_serve_devices rule order passes p content own most cycles longest closed promises limit loads devices tasks d wait policy h each told waits there asks room inputs requests given =
    let top_most : ℕ = top devices d in
    let all = all_charged passes p content own most cycles longest closed top_most promises limit h each inputs given.inputs_are in
    let s : ServesBy rule order passes p content inputs requests own (run_in p content inputs) (λ k. (all.0 k).script) (λ k. (all.0 k).scoping) loads devices tasks d = record {
      policy = policy;
      run = runs passes p content own most promises limit h requests given.trace given.words;
      are_scripts = are_scripts passes p content own most cycles longest closed top_most promises limit h each inputs given.inputs_are;
      are_loads = are_loads passes p content own most cycles longest closed top_most promises limit h each inputs given.inputs_are loads told;
      askings = given.askings;
      closings = are_closings passes p content own most cycles longest closed top_most promises limit h each inputs given.inputs_are loads tasks waits;
      there = there;
      asks = asks;
    } in (
      λ t n on le. charges_serve_in_time rule order passes p content inputs requests own (run_in p content inputs) (λ k. (all.0 k).script)
          (λ k. (all.0 k).scoping) loads devices tasks d wait t n s room on le,
      λ holds. record {
        served = λ t n on le. charges_serve_each rule order passes p content inputs requests own (run_in p content inputs) (λ k. (all.0 k).script)
            (λ k. (all.0 k).scoping) loads devices tasks d wait t n s room holds on le;
        kept = λ n. charges_drop_none rule order passes p content inputs requests own (run_in p content inputs) (λ k. (all.0 k).script)
            (λ k. (all.0 k).scoping) loads devices tasks d wait n s room holds;
      },
    )
