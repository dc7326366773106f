-- A joined image meets its deadlines by what its tasks' scopes are charged, and so by the bounds of the rules.
use Rattle.std.proofs.Common.{ℕ, ◌+◌, ◌<◌, sym, subst, Bool, List, length}
use Rattle.prem_isa.specs.Plain.{TaskRun}
use Rattle.prem_cycle.specs.Alone.{run_in}
use Rattle.prem_cycle.specs.State.{Setup}
use Rattle.prem_sound.specs.Script.Scripts.{Promise}
use Rattle.prem_sound.specs.Script.Script.{Script}
use Rattle.prem_sound.specs.Scopes.Charged.{Scoping, IsScoped, charges_by, IsCharged}
use Rattle.prem_sound.specs.Sound.{AreInputs}
use Rattle.prem_sets_sound.specs.StubLaws.JoinedRuns.Joined.{JobLimits, IsJoined}
use Rattle.prem_sets_sound.specs.StubLaws.Charges.Charges.{TaskCharges}
use Rattle.prem_sets_sound.proofs.StubLawsLemmas.JoinedRunsLemmas.Joined.{runs}
use Rattle.prem_sets_sound.proofs.StubLawsLemmas.ChargesLemmas.Images.{all_charged, are_scripts}
use Rattle.prem_sets_sound.proofs.StubLawsLemmas.ChargesLemmas.Singles.{paced_tasks_are_charged}
use Rattle.prem_resp.specs.declared.busy.load.Load.{Load}
use Rattle.prem_resp.specs.Busy.Busy.{load_at}
use Rattle.prem_resp.specs.Deadline.Deadlines.{AreLoads}
use Rattle.prem_resp.proofs.DeadlineLemmas.Timelines.{scripts_meet_deadlines, scripts_keep_charges}
use Rattle.prem_resp.specs.Timed.Timed.{TellsCharges, JoinedImagesGoByCharges, JoinedImagesMeetDeadlines}

-- loads that tell what the tasks are charged
pub loads_join : (p : Setup) (runs : ℕ → TaskRun) (scripts : ℕ → Script) (scopings : ℕ → Scoping) (cycles longest : ℕ → ℕ) (loads : List Load) → TellsCharges p cycles longest loads →
    ((k : ℕ) → k < length p.tasks →
    IsScoped p.plant (runs k) (scopings k)
    × IsCharged p.plant (runs k) (scripts k) (charges_by p.plant (runs k) (scopings k)) (cycles k) (p.plant.switch + longest k)) →
    AreLoads p runs scripts scopings loads
loads_join p runs scripts scopings cycles longest loads told each = record {
  count = told.count;
  each = λ k lt. record {
    period = told.period k lt;
    scoped = (each k lt).0;
    charged =
        subst (λ n. IsCharged p.plant (runs k) (scripts k) (charges_by p.plant (runs k) (scopings k)) n (load_at loads k).longest) (sym (told.cost k lt))
        (subst (λ n. IsCharged p.plant (runs k) (scripts k) (charges_by p.plant (runs k) (scopings k)) (cycles k) n) (sym (told.longest_is k lt)) (each k lt).1);
  };
}

module _ (passes : ℕ → ℕ) (p : Setup) (content : List ℕ) (own : ℕ → ℕ → Bool) (most : ℕ → JobLimits) (cycles longest : ℕ → ℕ)
    (promises : List (List ℕ) → ℕ → Promise) (limit : ℕ) (h : IsJoined passes p content own most promises limit)
    (each : (inputs : List (List ℕ)) → AreInputs p inputs → (k : ℕ) → k < length p.tasks →
    TaskCharges p passes (own k) (run_in p content inputs k) (most k) (cycles k) (longest k) (promises inputs k)) (inputs : List (List ℕ))
    (i : AreInputs p inputs) where
  abbrev scripts : ℕ → Script
  scripts k = ((all_charged passes p content own most cycles longest promises limit h each inputs i).0 k).script

  abbrev scopings : ℕ → Scoping
  scopings k = ((all_charged passes p content own most cycles longest promises limit h each inputs i).0 k).scoping

  are_loads : (loads : List Load) → TellsCharges p cycles longest loads → AreLoads p (run_in p content inputs) scripts scopings loads
  are_loads loads told =
      loads_join p (run_in p content inputs) scripts scopings cycles longest loads told
      (λ k lt. let c = (all_charged passes p content own most cycles longest promises limit h each inputs i).1 k lt in (c.scoped, c.charged))

pub joined_images_go_by_charges : JoinedImagesGoByCharges
joined_images_go_by_charges rule order passes p content own most cycles longest promises limit loads policy h each told = (
  λ inputs requests i t w k least lt balanced le job n left late.
      scripts_meet_deadlines rule order passes p content inputs requests own (run_in p content inputs)
      (scripts passes p content own most cycles longest promises limit h each inputs i)
      (scopings passes p content own most cycles longest promises limit h each inputs i) loads k least policy
      (runs passes p content own most promises limit h requests t w)
      (are_scripts passes p content own most cycles longest promises limit h each inputs i)
      (are_loads passes p content own most cycles longest promises limit h each inputs i loads told)
      lt balanced le job n left late,
  λ inputs requests i t w n.
      (scripts_keep_charges rule order passes p content inputs requests own (run_in p content inputs)
      (scripts passes p content own most cycles longest promises limit h each inputs i)
      (scopings passes p content own most cycles longest promises limit h each inputs i) loads n policy
      (runs passes p content own most promises limit h requests t w)
      (are_scripts passes p content own most cycles longest promises limit h each inputs i)
      (are_loads passes p content own most cycles longest promises limit h each inputs i loads told)).0,
)

-- a task at its pace is charged what is due, where each of its instructions is a scope by itself
pub joined_images_meet_deadlines : JoinedImagesMeetDeadlines
joined_images_meet_deadlines rule order passes p content own most longest promises limit loads policy h each told =
    (joined_images_go_by_charges rule order passes p content own most (λ k. (most k).cycles) longest promises limit loads policy h
    (λ inputs i k lt. paced_tasks_are_charged p passes (own k) (run_in p content inputs k) (most k) (longest k) (promises inputs k) (each inputs i k lt)) told).0
