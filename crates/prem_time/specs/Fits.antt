-- What the numbers that are told of a set are good for.
use Rattle.std.specs.Prelude.{◌≡◌, ℕ, ◌+◌, ◌*◌, ◌<◌, ◌≤◌, List, length, slice_get, true, false, Option, None, Some}
use Rattle.prem_sched.specs.Schedule.{task_at}
use Rattle.prem_lru.specs.Rules.{rule_of}
use Rattle.prem_gate.specs.declared.request.Request.{Request}
use Rattle.prem_cycle.specs.Cycle.{is_finished}
use Rattle.prem_cycle.specs.Inputs.{IsTrace}
use Rattle.prem_cycle.specs.State.{record_of}
use Rattle.prem_cycle.specs.Run.{run_of}
use Rattle.prem_sound.specs.Serve.Requests.{PutWords}
use Rattle.prem_sound.specs.Sound.{AreInputs}
use Rattle.prem_tasks.specs.Broken.{TaskSet, broken}
use Rattle.prem_tasks.specs.Compiled.{compiled, placed_in}
use Rattle.prem_sets_sound.specs.ImagePremises.Accepted.{HasValues, setup_in}
use Rattle.prem_resp.specs.declared.busy.length.Busy.TheVariants.{Within, Past}
use Rattle.prem_resp.specs.Busy.Busy.{IsBalanced, IsLength}
use Rattle.prem_resp.specs.Deadline.Images.{KeepsIntervals}
use Rattle.prem_resp.specs.Fits.{found_in}
use Rattle.prem_resp.specs.Lines.{all_within}
use Rattle.prem_latency.specs.declared.wait.Closing.{Closing}
use Rattle.prem_latency.specs.Wait.{IsRoom, IsWait, requests_in, top}
use Rattle.prem_latency.specs.Images.{ServesDevice, ServesFound}
use Rattle.prem_latency.specs.Sets.{KeepDistances}
use Rattle.prem_time.specs.declared.devices.Named.{Named}
use Rattle.prem_time.specs.Deadlines.Deadlines.{KeepsCosts}
use Rattle.prem_time.specs.Words.{AreDistances, Distance, most_cycles}
use Rattle.prem_time.specs.Times.{limit_in, loads_in}
use Rattle.prem_time.specs.Devices.{askings_in, closed_to, closings_of, device_at, distances_of, is_held, named_in, wait_in}

-- ---- of each set that breaks no rule

-- for all input words and all requests of devices, from this cycle on each run has finished
abbrev pub FinishesBy : TaskSet → ℕ → Type 0
FinishesBy set limit =
    (inputs : List (List ℕ)) (requests : List Request) → AreInputs (setup_in set) inputs → IsTrace (setup_in set).devices requests → PutWords requests →
    (n : ℕ) → limit ≤ n → is_finished (run_of (rule_of set.plant.policy) (setup_in set) (compiled set).image.content inputs requests n) ≡ true

-- for all input words, requests of devices, and numbers of cycles: each compatible interval that has ended has taken, with its switch, at most the
-- longest of its task; the core has worked for each job at most what a job of its task takes; and from the limit on the run has finished
pub record KeepsTimes (set : TaskSet) : Type 0 where
  pub intervals : KeepsIntervals (rule_of set.plant.policy) (setup_in set) (compiled set).image.content (loads_in set)
  pub costs : KeepsCosts (rule_of set.plant.policy) (setup_in set) (compiled set).image.content (loads_in set)
  pub finishes : FinishesBy set (limit_in set)

abbrev pub SetsKeepTimes : Type 0
SetsKeepTimes = (set : TaskSet) → HasValues set → broken set ≡ None → KeepsTimes set

-- ---- where the busy periods are within the periods

-- so many cycles are the length of a task's busy period and within the period, and for all input words, requests of devices, and numbers
-- of cycles, each of its jobs has ended so many cycles behind its release
pub record EndsInTime (set : TaskSet) (i cycles : ℕ) : Type 0 where
  pub length : IsLength (loads_in set) i cycles
  pub within : cycles ≤ (record_of (setup_in set) i).period
  pub ended : (inputs : List (List ℕ)) (requests : List Request) → AreInputs (setup_in set) inputs → IsTrace (setup_in set).devices requests → PutWords requests →
      (job n : ℕ) → job < (record_of (setup_in set) i).jobs → job * (record_of (setup_in set) i).period + cycles ≤ n →
      job < (task_at (run_of (rule_of set.plant.policy) (setup_in set) (compiled set).image.content inputs requests n).sched i).ended

-- what is found of a task's busy period is a length by which its jobs end in time
pub record EndsAsFound (set : TaskSet) (i : ℕ) : Type 0 where
  pub cycles : ℕ
  pub found : slice_get (found_in (loads_in set)) i ≡ Some (Within cycles)
  pub ends : EndsInTime set i cycles

abbrev pub FittingSetsEndInTime : Type 0
FittingSetsEndInTime =
    (set : TaskSet) → HasValues set → broken set ≡ None → all_within (found_in (loads_in set)) ≡ true → (i : ℕ) → i < length (setup_in set).tasks → EndsAsFound set i

-- ---- where one isn't

-- no busy period of the task is within its period
abbrev pub IsPast : TaskSet → ℕ → Type 0
IsPast set i = (cycles : ℕ) → IsBalanced (loads_in set) i cycles → cycles ≤ (record_of (setup_in set) i).period → ⊥

-- so it is of one task at least
pub record SomeIsPast (set : TaskSet) : Type 0 where
  pub task : ℕ
  pub there : task < length (setup_in set).tasks
  pub found : slice_get (found_in (loads_in set)) task ≡ Some Past
  pub past : IsPast set task

abbrev pub LateSetsHavePast : Type 0
LateSetsHavePast = (set : TaskSet) → all_within (found_in (loads_in set)) ≡ false → SomeIsPast set

-- ---- the devices that are named

-- what the tasks of a set keep from device number d
abbrev pub closings_in : TaskSet → List Distance → ℕ → List Closing
closings_in set ds d = closings_of (loads_in set) (found_in (loads_in set)) (closed_to set.plant (top (askings_in ds set.devices) d) (placed_in set)) (top (askings_in ds set.devices) d)

-- for all input words, and all requests of devices that are as far apart as is said of them, where those that aren't named make none
abbrev pub ForAllRequests : TaskSet → List Distance → (serves : List (List ℕ) → List Request → Type 0) → Type 0
ForAllRequests set ds serves = (inputs : List (List ℕ)) (requests : List Request) → AreInputs (setup_in set) inputs →
    KeepDistances (setup_in set) (distances_of ds set.devices) requests → serves inputs requests

-- So many cycles are how long the requests of a device that is named wait at most: the least number of cycles in which the bus may do what it has to do in
-- as many. A request of the device that has found room has been transferred so many cycles behind its own, unless the run has finished before; and where
-- the queue holds as many as come in so many cycles, none is dropped, and each that comes has been transferred by then.
pub record ServesInTime (set : TaskSet) (ds : List Distance) (n : Named) (wait : ℕ) : Type 0 where
  pub wait_is : IsWait (askings_in ds set.devices) (closings_in set ds n.number) n.number wait
  pub found : ForAllRequests set ds (λ inputs requests. ServesFound (rule_of set.plant.policy) (setup_in set) (compiled set).image.content inputs requests n.number wait)
  pub served : requests_in n.every wait ≤ (device_at set.devices n.number).queue →
      ForAllRequests set ds (λ inputs requests. ServesDevice (rule_of set.plant.policy) (setup_in set) (compiled set).image.content inputs requests n.number wait)

-- this is device number i of those that are named
abbrev pub IsNamedAt : TaskSet → List Distance → ℕ → Named → Type 0
IsNamedAt set ds i n = slice_get (named_in ds set.devices) i ≡ Some n

abbrev pub SetsServeNamed : Type 0
SetsServeNamed =
    (set : TaskSet) (ds : List Distance) → HasValues set → broken set ≡ None → AreDistances ds → (i : ℕ) (n : Named) → IsNamedAt set ds i n → (wait : ℕ) → wait_in set ds n.number ≡ Some wait →
    ServesInTime set ds n wait

-- why a device is late: no number of cycles up to the greatest is enough, where all tasks are in time; or its queue doesn't hold the requests that come in its wait
pub data WhyLate (set : TaskSet) (ds : List Distance) (n : Named) : Option ℕ → Type 0 where
  none_is_enough : ((cycles : ℕ) → IsRoom (askings_in ds set.devices) (closings_in set ds n.number) n.number cycles → cycles ≤ most_cycles → ⊥) → WhyLate set ds n None
  queue_is_full : (wait : ℕ) → (device_at set.devices n.number).queue < requests_in n.every wait → WhyLate set ds n (Some wait)

abbrev pub LateDevicesHaveCause : Type 0
LateDevicesHaveCause =
    (set : TaskSet) (ds : List Distance) → all_within (found_in (loads_in set)) ≡ true → (n : Named) → is_held n.every (device_at set.devices n.number).queue (wait_in set ds n.number) ≡ false →
    WhyLate set ds n (wait_in set ds n.number)
