-- The next event in worked states, by the definition: a wrong number is refused.
use Rattle.std.proofs.Common.{◌≡◌, ℕ, zero, suc, ◌<◌, ◌≤◌, [], refl, ap, arith}
use Rattle.prem_cycle.proofs.Prelude.{cycles_of, IsNextEvent, IsSteady, Rests, Setup, MachineState, Point, Switching, next_none, to_front, TaskJobs, slice_index_or}
use Rattle.prem_cycle.proofs.Images.{alone, marked, run}
use Rattle.prem_cycle.proofs.RunsLemmas.DullLemmas.Stretch.{fewer_rest, rests_dull}

-- the machine of one task with a marked function, at the start and behind the first cycle
abbrev one_task : Setup
one_task = alone 304 1 304 []

abbrev behind : ℕ → MachineState
behind n = run one_task marked [] n

-- the first cycle begins the switch
row_at_start : IsNextEvent to_front one_task [] (behind 0) 100 0
unfolding cycles_of
row_at_start =
    record {
      not_before = omega arith;
      within = omega arith;
      dull = λ m lt. absurd (omega (arith, lt));
      event = λ lt d. let e : Switching 0 19 ≡ Point = ap (λ (s : MachineState). s.core.mode) d.same in cc;
    }

one_period : (k : ℕ) (d : TaskJobs) → k < 1 → 1 ≤ (slice_index_or (behind 1).sched k d).period
unfolding cycles_of
one_period zero d lt = omega arith
one_period (suc k) d lt = absurd (omega (arith, lt))

steady_one : IsSteady [] (behind 1)
unfolding cycles_of
steady_one =
    record {
      going = refl;
      free = λ held. refl;
      closed = λ point. (let e : Switching 0 19 ≡ Point = point in absurd (cc));
      periods = one_period;
      devices = λ k d lt. absurd (omega (arith, lt));
      dropped = refl;
    }

rests_one : Rests 18 [] (behind 1)
unfolding cycles_of
rests_one =
    record {
      arrivals = λ k d lt. absurd (omega (arith, lt));
      gates = (next_none 1 (behind 1).core.window (behind 1).gates 19 refl (omega arith) refl).quiet;
      core = (let le : 18 ≤ 18 = omega arith in le);
    }

-- the last cycle of the switch is no dull one
row_behind_one : IsNextEvent to_front one_task [] (behind 1) 100 19
unfolding cycles_of
row_behind_one =
    record {
      not_before = (let le : 1 ≤ 19 = omega arith in le);
      within = omega arith;
      dull = rests_dull to_front one_task [] 18 (behind 1) steady_one rests_one;
      event = λ lt d. (let z : 1 ≤ 0 = d.switch (λ (e : 0 ≡ 1). absurd (omega (arith, e))) in absurd (omega (arith, z)));
    }

-- a limit that comes before it
row_limit : IsNextEvent to_front one_task [] (behind 1) 10 10
unfolding cycles_of
row_limit =
    record {
      not_before = (let le : 1 ≤ 10 = omega arith in le);
      within = omega arith;
      dull = rests_dull to_front one_task [] 9 (behind 1) steady_one (fewer_rest 9 18 [] (behind 1) (omega arith) rests_one);
      event = λ lt d. absurd (omega (arith, lt));
    }
