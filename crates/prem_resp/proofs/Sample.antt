-- The set of two tasks, computed: it fits, and so its jobs end in time.
use Rattle.std.specs.Prelude.{All}
use Rattle.std.proofs.Common.{◌≡◌, refl, ap, ◌∙◌, sym, subst, ℕ, zero, suc, ◌<◌, arith, List, [], ◌∷◌, length, slice_get, Some}
use Rattle.std.proofs.lemmas.List.{length-map}
use Rattle.prem_layout.specs.Image.{task_record}
use Rattle.prem_tasks.specs.Compiled.{placed_in}
use Rattle.prem_sets_sound.specs.ImagePremises.Accepted.{setup_in}
use Rattle.prem_sets_sound.proofs.ImagePremisesLemmas.Sample.{sample, sample_values, sample_breaks_nothing}
use Rattle.prem_resp.specs.declared.busy.load.Load.{Load}
use Rattle.prem_resp.specs.declared.busy.length.Busy.{Busy}
use Rattle.prem_resp.specs.declared.busy.length.Busy.TheVariants.{Within}
use Rattle.prem_resp.specs.Busy.Busy.{IsLoad}
use Rattle.prem_resp.specs.Busy.Found.{busy_of}
use Rattle.prem_resp.proofs.BusyLemmas.First.{busy_found, found_once}
use Rattle.prem_resp.proofs.BusyLemmas.Steps.{found}
use Rattle.prem_resp.specs.Timely.Timely.{load_of}
use Rattle.prem_resp.specs.Lines.{all_within}
use Rattle.prem_resp.specs.Fits.{loads_in, found_in, EndsInTime, EndsAsFound}
use Rattle.prem_resp.proofs.TimelyLemmas.Sample.{sample_loads}
use Rattle.prem_resp.proofs.Fits.{fitting_sets_end_in_time}

abbrev loads : List Load
loads = record { period = 20000; cost = 2610; longest = 2020 } ∷ record { period = 50000; cost = 295; longest = 295 } ∷ []

are_loads : All IsLoad loads
are_loads zero d lt = record { period = omega arith; cost = omega arith; small = omega arith; longest = omega arith }
are_loads (suc zero) d lt = record { period = omega arith; cost = omega arith; small = omega arith; longest = omega arith }
are_loads (suc (suc k)) d lt = absurd (omega (arith, lt))

abbrev lengths : List Busy
lengths = Within 2905 ∷ Within 2905 ∷ []

first_found : busy_of loads 0 ≡ Within 2905
first_found = found_once loads 0 (busy_of loads 0) (Within 2905) (busy_found loads 0) (found loads 0 1 2905 are_loads refl refl (omega arith) (omega arith))

second_found : busy_of loads 1 ≡ Within 2905
second_found = found_once loads 1 (busy_of loads 1) (Within 2905) (busy_found loads 1) (found loads 1 2 2905 are_loads refl refl (omega arith) (omega arith))

sample_found : found_in (loads_in sample) ≡ lengths
sample_found = ap found_in sample_loads ∙ ap (λ b. b ∷ busy_of loads 1 ∷ []) first_found ∙ ap (λ b. Within 2905 ∷ b ∷ []) second_found

-- three jobs, 20000 cycles apart, and one job behind them: each ends 2905 cycles behind its release
sample_fits : (i : ℕ) → i < length (setup_in sample).tasks → EndsAsFound sample i
sample_fits = fitting_sets_end_in_time sample sample_values sample_breaks_nothing (ap all_within sample_found)

-- what is found of a task is its length
length_is : (i : ℕ) → slice_get lengths i ≡ Some (Within 2905) → EndsAsFound sample i → EndsInTime sample i 2905
length_is i is x =
    let same : Some (Within 2905) ≡ Some (Within x.cycles) = sym is ∙ ap (λ ls. slice_get ls i) (sym sample_found) ∙ x.found in
    let cycles : x.cycles ≡ 2905 = cc in
    subst (EndsInTime sample i) cycles x.ends

two_tasks : length (setup_in sample).tasks ≡ 2
two_tasks = length-map (placed_in sample) task_record ∙ sym (length-map (placed_in sample) (load_of sample.plant)) ∙ ap length sample_loads

first_ends : EndsInTime sample 0 2905
first_ends = length_is 0 refl (sample_fits 0 (subst (λ n. 0 < n) (sym two_tasks) (omega arith)))

second_ends : EndsInTime sample 1 2905
second_ends = length_is 1 refl (sample_fits 1 (subst (λ n. 1 < n) (sym two_tasks) (omega arith)))
