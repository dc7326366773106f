-- Sets meet their deadlines by what their jobs take at most.
use Rattle.std.proofs.Common.{◌≡◌, ℕ, zero, suc, ◌+◌, ◌<◌, refl, ap, ◌∙◌, arith, Bool, List, [], ◌∷◌, length}
use Rattle.prem_plant.specs.declared.plant.Plant.{Plant}
use Rattle.prem_plant.specs.Order.Order.{OrderRule}
use Rattle.prem_plant.specs.Order.Rules.{order_rule_of, passes_of}
use Rattle.prem_lru.specs.Entries.{ReplacementRule}
use Rattle.prem_lru.specs.Rules.{rule_of}
use Rattle.prem_image.specs.declared.image.TaskRecord.{TaskRecord}
use Rattle.prem_cycle.specs.Alone.{run_in}
use Rattle.prem_cycle.specs.State.{Setup, no_record}
use Rattle.prem_sound.specs.Script.Scripts.{Promise}
use Rattle.prem_sound.specs.Resident.Faultless.{IsPolicy}
use Rattle.prem_sound.specs.Sound.{AreInputs}
use Rattle.prem_sound.proofs.ResidentLemmas.Policies.{kind_policy}
use Rattle.prem_tasks.specs.Compiled.{coded_in}
use Rattle.prem_tasks.specs.At.{placed_by}
use Rattle.prem_sets_sound.specs.StubLaws.JoinedRuns.Joined.{JobLimits, IsJoined}
use Rattle.prem_sets_sound.specs.StubLaws.Charges.Charges.{TaskCharges}
use Rattle.prem_sets_sound.specs.PlacesSound.At.{promises_at}
use Rattle.prem_sets_sound.proofs.StubLawsLemmas.JoinedRunsLemmas.Joined.{runs}
use Rattle.prem_sets_sound.proofs.StubLawsLemmas.ChargesLemmas.Images.{all_charged, are_scripts}
use Rattle.prem_sets_sound.proofs.Sound.{as_stubs_make, meant_tasks_join}
use Rattle.prem_sets_sound.proofs.PlacesSoundLemmas.At.{groups, laid_out, tasks_are_meant}
use Rattle.prem_sets_sound.proofs.ImagePremisesLemmas.Whole.{laid_out_images_join}
use Rattle.prem_resp.specs.declared.busy.load.Load.{Load}
use Rattle.prem_resp.specs.Busy.Busy.{load_at}
use Rattle.prem_resp.specs.Timed.Timed.{TellsCharges}
use Rattle.prem_resp.proofs.DeadlineLemmas.Timelines.{scripts_keep_charges}
use Rattle.prem_resp.proofs.TimedLemmas.Images.{loads_join, joined_images_go_by_charges}
use Rattle.prem_latency.specs.Wcet.Sets.{wcet_at, stretch_at}
use Rattle.prem_latency.proofs.WcetLemmas.Sets.{meant_tasks_go_by_wcet}
use Rattle.prem_time.specs.Deadlines.Deadlines.{KeepsCosts, loads_from, LoadsTell, SetsMeetDeadlinesByWcet}

-- ---- loads

module _ (p : Plant) (cycles longest : ℕ → ℕ) where
  many : (k : ℕ) (ts : List TaskRecord) → length (loads_from p cycles longest k ts) ≡ length ts
  many k [] = refl
  many k (t ∷ ts) = ap suc (many (k + 1) ts)

  record Tells (k j : ℕ) (ts : List TaskRecord) (record_ : TaskRecord) : Type 0 where
    period : (load_at (loads_from p cycles longest k ts) j).period ≡ record_.period
    cost : (load_at (loads_from p cycles longest k ts) j).cost ≡ cycles (k + j)
    longest_is : (load_at (loads_from p cycles longest k ts) j).longest ≡ p.switch + longest (k + j)

  each : (none : TaskRecord) (k j : ℕ) (ts : List TaskRecord) → j < length ts → Tells k j ts (Rattle.std.specs.Prelude.slice_index_or ts j none)
  each none k j [] lt = absurd (omega (arith, lt))
  each none k zero (t ∷ ts) lt =
      let e : k ≡ k + 0 = omega arith in
      record { period = refl; cost = ap cycles e; longest_is = ap (λ n. p.switch + longest n) e }
  each none k (suc j) (t ∷ ts) lt =
      let h = each none (k + 1) j ts (omega (arith, lt)) in
      let e : k + 1 + j ≡ k + suc j = omega arith in
      record { period = h.period; cost = h.cost ∙ ap cycles e; longest_is = h.longest_is ∙ ap (λ n. p.switch + longest n) e }

pub loads_tell : LoadsTell
loads_tell p cycles longest =
    let none : (k : ℕ) → 0 + k ≡ k = λ k. omega arith in
    record {
      count = many p.plant cycles longest 0 p.tasks;
      period = λ k lt. (each p.plant cycles longest no_record 0 k p.tasks lt).period;
      cost = λ k lt. (each p.plant cycles longest no_record 0 k p.tasks lt).cost ∙ ap cycles (none k);
      longest_is = λ k lt. (each p.plant cycles longest no_record 0 k p.tasks lt).longest_is ∙ ap (λ n. p.plant.switch + longest n) (none k);
    }

-- ---- what jobs are served

module _ (rule : ReplacementRule) (order : OrderRule) (passes : ℕ → ℕ) (p : Setup) (content : List ℕ) (own : ℕ → ℕ → Bool) (most : ℕ → JobLimits)
    (cycles longest : ℕ → ℕ) (promises : List (List ℕ) → ℕ → Promise) (limit : ℕ) (loads : List Load)
    (policy : IsPolicy rule order passes) (h : IsJoined passes p content own most promises limit)
    (each_ : (inputs : List (List ℕ)) → AreInputs p inputs → (k : ℕ) → k < length p.tasks →
    TaskCharges p passes (own k) (run_in p content inputs k) (most k) (cycles k) (longest k) (promises inputs k))
    (told : TellsCharges p cycles longest loads) where
  pub costs_kept : KeepsCosts rule p content loads
  costs_kept inputs requests i t w n k job lt =
      (scripts_keep_charges rule order passes p content inputs requests own (run_in p content inputs)
      (λ k. ((all_charged passes p content own most cycles longest promises limit h each_ inputs i).0 k).script)
      (λ k. ((all_charged passes p content own most cycles longest promises limit h each_ inputs i).0 k).scoping) loads n policy
      (runs passes p content own most promises limit h requests t w) (are_scripts passes p content own most cycles longest promises limit h each_ inputs i)
      (loads_join p (run_in p content inputs)
      (λ k. ((all_charged passes p content own most cycles longest promises limit h each_ inputs i).0 k).script)
      (λ k. ((all_charged passes p content own most cycles longest promises limit h each_ inputs i).0 k).scoping) cycles longest loads told
      (λ k lt. let c = (all_charged passes p content own most cycles longest promises limit h each_ inputs i).1 k lt in (c.scoped, c.charged)))).2 k job lt

pub sets_meet_deadlines_by_wcet : SetsMeetDeadlinesByWcet
sets_meet_deadlines_by_wcet set places values lawful none loads told =
    let g = groups set places none in
    let laid = laid_out set places values lawful g in
    let passes : ℕ → ℕ = passes_of set.plant.policy in
    let same = as_stubs_make set.plant.policy set.plant.ways in
    let meant = tasks_are_meant set places g in
    let joined = laid_out_images_join passes set.plant set.devices (coded_in set) places (promises_at set places) laid
    (meant_tasks_join passes set.plant set.devices (coded_in set) places (promises_at set places) laid same meant) in
    let each_ = meant_tasks_go_by_wcet passes set.plant set.devices (coded_in set) places (promises_at set places) laid same meant in
    let both = joined_images_go_by_charges (rule_of set.plant.policy) (order_rule_of set.plant.policy) passes _ _ _ _
    (wcet_at set.plant (placed_by set places)) (stretch_at set.plant (placed_by set places)) (promises_at set places) _ loads
    (kind_policy set.plant.policy) joined each_ told in (
      both.0,
      (
        both.1,
        costs_kept (rule_of set.plant.policy) (order_rule_of set.plant.policy) passes _ _ _ _ (wcet_at set.plant (placed_by set places))
            (stretch_at set.plant (placed_by set places)) (promises_at set places) _ loads
            (kind_policy set.plant.policy) joined each_ told,
      ),
    )
