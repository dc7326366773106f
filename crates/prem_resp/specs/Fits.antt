-- Sets that pass the response test.
use Rattle.std.specs.Prelude.{◌≡◌, ℕ, zero, suc, ◌+◌, ◌*◌, ◌<◌, ◌≤◌, List, [], ◌∷◌, length, slice_get, true, None, Some}
use Rattle.prem_sched.specs.Schedule.{task_at}
use Rattle.prem_lru.specs.Rules.{rule_of}
use Rattle.prem_gate.specs.declared.request.Request.{Request}
use Rattle.prem_cycle.specs.Inputs.{IsTrace}
use Rattle.prem_cycle.specs.State.{record_of}
use Rattle.prem_cycle.specs.Run.{run_of}
use Rattle.prem_sound.specs.Serve.Requests.{PutWords}
use Rattle.prem_sound.specs.Sound.{AreInputs}
use Rattle.prem_tasks.specs.Broken.{TaskSet, broken}
use Rattle.prem_tasks.specs.Compiled.{placed_in, compiled}
use Rattle.prem_sets_sound.specs.ImagePremises.Accepted.{HasValues, setup_in}
use Rattle.prem_resp.specs.declared.busy.load.Load.{Load}
use Rattle.prem_resp.specs.declared.busy.length.Busy.{Busy}
use Rattle.prem_resp.specs.declared.busy.length.Busy.TheVariants.{Within}
use Rattle.prem_resp.specs.Busy.Busy.{IsLength}
use Rattle.prem_resp.specs.Busy.Found.{busy_of}
use Rattle.prem_resp.specs.Timely.Timely.{loads_of}
use Rattle.prem_resp.specs.Lines.{all_within}

abbrev pub loads_in : TaskSet → List Load
loads_in set = loads_of set.plant (placed_in set)

-- the busy periods of so many tasks from number i on
abbrev pub found_from : List Load → (i count : ℕ) → List Busy
found_from loads i zero = []
found_from loads i (suc count) = busy_of loads i ∷ found_from loads (i + 1) count

-- the busy period of each task
abbrev pub found_in : List Load → List Busy
found_in loads = found_from loads 0 (length loads)

-- ---- the theorem

-- so many cycles are the length of a task's busy period and within the period, and for all input words, requests of devices, and numbers
-- of cycles, each of its jobs has ended so many cycles behind its release
pub record EndsInTime (set : TaskSet) (i cycles : ℕ) : Type 0 where
  pub length : IsLength (loads_in set) i cycles
  pub within : cycles ≤ (record_of (setup_in set) i).period
  pub ended : (inputs : List (List ℕ)) (requests : List Request) → AreInputs (setup_in set) inputs → IsTrace (setup_in set).devices requests → PutWords requests →
      (job n : ℕ) → job < (record_of (setup_in set) i).jobs → job * (record_of (setup_in set) i).period + cycles ≤ n →
      job < (task_at (run_of (rule_of set.plant.policy) (setup_in set) (compiled set).image.content inputs requests n).sched i).ended

-- what is found of a task's busy period is a length by which its jobs end in time
pub record EndsAsFound (set : TaskSet) (i : ℕ) : Type 0 where
  pub cycles : ℕ
  pub found : slice_get (found_in (loads_in set)) i ≡ Some (Within cycles)
  pub ends : EndsInTime set i cycles

-- where all busy periods are within the periods
abbrev pub FittingSetsEndInTime : Type 0
FittingSetsEndInTime =
    (set : TaskSet) → HasValues set → broken set ≡ None → all_within (found_in (loads_in set)) ≡ true → (i : ℕ) → i < length (setup_in set).tasks → EndsAsFound set i
