-- Two cores that rest, computed.
use Rattle.std.proofs.Common.{◌≡◌, ℕ, zero, suc, ◌<◌, ◌≤◌, [], refl, arith}
use Rattle.prem_pair.proofs.Prelude.{rule_in, Mode, Point, Switching, next_none, PairState, pair_cycles, IsSteadyPair, PairRests, pair_passed, empty_window, Holder, First, TaskJobs}
use Rattle.prem_pair.proofs.Prelude.{slice_index_or}
use Rattle.prem_pair.proofs.CyclesLemmas.ApartRows.{behind}
use Rattle.prem_pair.proofs.CyclesLemmas.Rests.{pair_one_step}
use Rattle.prem_pair.proofs.CyclesLemmas.Rows.{same_set}

one_period : (k : ℕ) (d : TaskJobs) → k < 1 → 1 ≤ (slice_index_or (behind 1).first.sched k d).period
unfolding pair_cycles
one_period zero d lt = omega arith
one_period (suc k) d lt = absurd (omega (arith, lt))

steady_one : IsSteadyPair (behind 1)
unfolding pair_cycles
steady_one =
    record {
      going = refl;
      same_now = refl;
      free = λ ne. refl;
      periods = one_period;
      other_periods = one_period;
    }

rests_one : PairRests 18 [] (behind 1)
unfolding pair_cycles
rests_one =
    record {
      arrivals = λ k d lt. absurd (omega (arith, lt));
      token = refl;
      gates = (next_none 1 empty_window (behind 1).first.gates 19 refl (omega arith) refl).quiet;
      first = (let le : 18 ≤ 18 = omega arith in le);
      second = tt;
    }

row_step : pair_cycles (rule_in same_set) (rule_in same_set) same_set same_set [] 18 (behind 1) ≡ pair_passed 18 (behind 1)
row_step = pair_one_step (rule_in same_set) (rule_in same_set) same_set same_set [] 18 (behind 1) steady_one rests_one

abbrev modes_told : PairState → ℕ × Mode × Mode × Holder
modes_told s = (s.second.now, s.first.core.mode, s.second.core.mode, s.holder)

-- one cycle of the switch is left
row_passed : modes_told (pair_passed 18 (behind 1)) ≡ (19, Switching 0 1, Point, First)
unfolding pair_cycles
row_passed = refl
