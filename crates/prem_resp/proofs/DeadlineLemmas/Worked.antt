-- The worked image of a marked call, parted into scopes: its job takes 795 cycles at most, and has ended by then.
use Rattle.std.proofs.Common.{◌≡◌, ℕ, ◌<◌, ◌≤◌, refl, sym, subst, arith, [], ◌∷◌}
use Rattle.prem_plant.specs.Order.Order.{lru, one_pass}
use Rattle.prem_sched.specs.Schedule.{task_at}
use Rattle.prem_lru.specs.Entries.{to_front}
use Rattle.prem_cycle.specs.Run.{run_of}
use Rattle.prem_cycle.proofs.Images.{bytes_in, marked}
use Rattle.prem_sound.specs.Scopes.Strands.{scoping_of}
use Rattle.prem_sound.proofs.ScriptLemmas.Tests.{below}
use Rattle.prem_sound.proofs.Worked.{setup, run, worked_scripts, lru_policy, worked_is}
use Rattle.prem_sound.proofs.ScopesLemmas.Worked.{script, strand, worked_charged}
use Rattle.prem_resp.specs.declared.busy.load.Load.{Load}
use Rattle.prem_resp.specs.Busy.Busy.{load_at}
use Rattle.prem_resp.specs.Deadline.Deadlines.{IsLoadOf, AreLoads}
use Rattle.prem_resp.proofs.DeadlineLemmas.Timelines.{scripts_meet_deadlines}

abbrev load : Load
load = record { period = 1000; cost = 795; longest = 511 }

worked_loads : AreLoads setup (λ k. run) (λ k. script) (λ k. scoping_of strand) (load ∷ [])
worked_loads = record {
  count = refl;
  each = λ k lt.
      let e : k ≡ 0 = omega (arith, lt) in
      subst (λ j. IsLoadOf setup (λ k. run) (λ k. script) (λ k. scoping_of strand) j (load_at (load ∷ []) j)) (sym e)
      (record { period = refl; scoped = worked_charged.0; charged = worked_charged.1 });
}

-- its only job has ended by cycle 795
worked_deadline : (n : ℕ) → 795 ≤ n → 0 < (task_at (run_of to_front setup (bytes_in marked) [] [] n).sched 0).ended
worked_deadline n le =
    scripts_meet_deadlines to_front lru one_pass setup (bytes_in marked) [] [] (λ k. below 304) (λ k. run) (λ k. script) (λ k. scoping_of strand) (load ∷ []) 0 795
    lru_policy worked_is worked_scripts worked_loads (omega arith) (omega arith, refl) (omega arith) 0 n (omega arith) (omega (arith, le))
