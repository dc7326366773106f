-- What is good of a run of two cores, and by when it has finished.
use Rattle.std.specs.Prelude.{◌≡◌, ℕ, zero, suc, ◌+◌, ◌<◌, ◌≤◌, max, Bool, true, List, [], ◌∷◌, ◌++◌, if◌then◌else◌, slice_index_or, sum_by, length}
use Rattle.prem_pair.specs.Prelude.{memory_of, Setup, Request, TaskRun, ReplacementRule}
use Rattle.prem_cycle.specs.Inputs.{no_device, IsTrace}
use Rattle.prem_image.specs.Records.{IsImage}
use Rattle.prem_image.specs.declared.image.DeviceRecord.{DeviceRecord}
use Rattle.prem_pair.specs.Cycles.Pair.{PairState, both_finished, is_pair_over, pair_cycles, pair_start, pair_run}
use Rattle.prem_plant.specs.Order.Order.{OrderRule}
use Rattle.prem_sound.specs.Good.{GoodState}
use Rattle.prem_sound.specs.Resident.Faultless.{IsPolicy}
use Rattle.prem_sound.specs.Scopes.Charged.{Scoping, IsScoped, charges_by, all_charged}
use Rattle.prem_sound.specs.Script.Script.{Script}
use Rattle.prem_sound.specs.Script.Scripts.{Promise, last_release, sum_below, AreScripts, AreKept}
use Rattle.prem_sound.specs.Serve.Requests.{found_room, AreAmong, asked_before, PutWords, AreasAreZero}
use Rattle.prem_sound.specs.Sound.{IsRun, AreInputs}
use Rattle.std.specs.List.Sorted.{IsNonDecreasingBy}

-- ---- the requests that find room

abbrev pub pair_coming : List Request → PairState → List Request
pair_coming requests s = if is_pair_over s then [] else found_room s.first.now requests s.first.gates

-- those of n cycles from a state, in order of time
unfoldable pub pair_queued : (rule other : ReplacementRule) → Setup → Setup → List Request → ℕ → PairState → List Request
pair_queued rule other p q requests zero s = []
pair_queued rule other p q requests (suc n) s = pair_queued rule other p q requests n s ++ pair_coming requests (pair_cycles rule other p q requests n s)

-- where requests stand in order of cycle, those that have found room are among those of cycles that have passed: in their order, each once
abbrev pub PairRoomIsFoundInOrder : Type 0
PairRoomIsFoundInOrder =
    (rule other : ReplacementRule) (p q : Setup) (content behind : List ℕ) (inputs others : List (List ℕ)) (requests : List Request) (n : ℕ) →
    IsNonDecreasingBy (λ (r : Request). r.cycle) requests →
    AreAmong (pair_queued rule other p q requests n (pair_start p q inputs others (memory_of p content) (memory_of q behind))) (asked_before n requests)

-- ---- a state

-- each core is as it is good where it is the only one; the devices are those of core 0
pub record PairGood (rule other : ReplacementRule) (p q : Setup) (content behind : List ℕ) (inputs others : List (List ℕ)) (requests : List Request)
    (promises promises' : ℕ → Promise) (n : ℕ) : Type 0 where
  pub first :
      GoodState p promises (λ m. (pair_run rule other p q content behind inputs others requests m).first.work)
      (pair_queued rule other p q requests n (pair_start p q inputs others (memory_of p content) (memory_of q behind))) (pair_run rule other p q content behind inputs others requests n).first
  pub second :
      GoodState q promises' (λ m. (pair_run rule other p q content behind inputs others requests m).second.work) []
      (pair_run rule other p q content behind inputs others requests n).second

-- ---- by when it has finished

-- the greatest cycle of a request
abbrev pub last_request : List Request → ℕ
last_request [] = 0
last_request (r ∷ requests) = max r.cycle (last_request requests)

-- the cycles of the transfers of all requests
abbrev pub cost_of_request : List DeviceRecord → Request → ℕ
cost_of_request devices r = (slice_index_or devices r.device no_device).device.cost

abbrev pub all_costs : List DeviceRecord → List Request → ℕ
all_costs devices requests = sum_by (cost_of_request devices) requests

-- the greatest last release of both, what the jobs of both are due, and the greatest cycle and the costs of all requests
abbrev pub pair_limit : (p q : Setup) → (due due' : ℕ) → List Request → ℕ
pair_limit p q due due' requests =
    max (last_release p.tasks) (last_release q.tasks) + (due + due') + (last_request requests + all_costs p.devices requests)

-- what the jobs of all tasks are due
abbrev pub due_of : Setup → (ℕ → Script) → ℕ
due_of p scripts = sum_below (length p.tasks) (λ k. (scripts k).due)

-- the scopes of the tasks of a core, and what all instructions of each are charged at most
pub record HasTotals (p : Setup) (runs : ℕ → TaskRun) (scripts : ℕ → Script) : Type 0 where
  pub scopings : ℕ → Scoping
  pub scoped : (k : ℕ) → k < length p.tasks → IsScoped p.plant (runs k) (scopings k)
  pub total : ℕ → ℕ
  pub totals : (k : ℕ) → k < length p.tasks → all_charged p.plant (scripts k) (runs k) (charges_by p.plant (runs k) (scopings k)) (scripts k).count ≤ total k

abbrev pub total_of : Setup → (ℕ → ℕ) → ℕ
total_of p total = sum_below (length p.tasks) total

-- ---- the laws

-- where the tasks of both cores have scripts, each state is good
abbrev pub PairsAreGood : Type 0
PairsAreGood =
    (rule other : ReplacementRule) (order order' : OrderRule) (passes passes' : ℕ → ℕ) (p q : Setup) (content behind : List ℕ)
    (inputs others : List (List ℕ)) (requests : List Request) (own own' : ℕ → ℕ → Bool) (runs runs' : ℕ → TaskRun) (scripts scripts' : ℕ → Script)
    (promises promises' : ℕ → Promise) (n : ℕ) →
    IsPolicy rule order passes → IsPolicy other order' passes' → IsRun p content requests → IsRun q behind [] → q.devices ≡ [] →
    AreScripts p passes content inputs own runs scripts → AreScripts q passes' behind others own' runs' scripts' → AreKept p own runs scripts promises → AreKept q own' runs' scripts' promises' →
    PairGood rule other p q content behind inputs others requests promises promises' n

-- and from the limit on it has finished
abbrev pub PairsFinish : Type 0
PairsFinish =
    (rule other : ReplacementRule) (order order' : OrderRule) (passes passes' : ℕ → ℕ) (p q : Setup) (content behind : List ℕ)
    (inputs others : List (List ℕ)) (requests : List Request) (own own' : ℕ → ℕ → Bool) (runs runs' : ℕ → TaskRun) (scripts scripts' : ℕ → Script) (n : ℕ) →
    IsPolicy rule order passes → IsPolicy other order' passes' → IsRun p content requests → IsRun q behind [] → q.devices ≡ [] →
    AreScripts p passes content inputs own runs scripts → AreScripts q passes' behind others own' runs' scripts' →
    pair_limit p q (due_of p scripts) (due_of q scripts') requests ≤ n →
    both_finished (pair_run rule other p q content behind inputs others requests n) ≡ true

-- and so from the limit of what the tasks of both are charged on, where their instructions are parted into scopes
abbrev pub PairsFinishByTotals : Type 0
PairsFinishByTotals =
    (rule other : ReplacementRule) (order order' : OrderRule) (passes passes' : ℕ → ℕ) (p q : Setup) (content behind : List ℕ)
    (inputs others : List (List ℕ)) (requests : List Request) (own own' : ℕ → ℕ → Bool) (runs runs' : ℕ → TaskRun) (scripts scripts' : ℕ → Script) (n : ℕ) →
    IsPolicy rule order passes → IsPolicy other order' passes' → IsRun p content requests → IsRun q behind [] → q.devices ≡ [] →
    AreScripts p passes content inputs own runs scripts → AreScripts q passes' behind others own' runs' scripts' → (t : HasTotals p runs scripts) → (t' : HasTotals q runs' scripts') →
    pair_limit p q (total_of p t.total) (total_of q t'.total) requests ≤ n →
    both_finished (pair_run rule other p q content behind inputs others requests n) ≡ true

-- ---- images

-- for all input words of both and all requests each state of a run is good, and from the limit on it has finished
pub record PairIsSound (rule other : ReplacementRule) (p q : Setup) (content behind : List ℕ) (promises promises' : List (List ℕ) → ℕ → Promise) (due due' : ℕ) : Type 0 where
  pub good : (inputs others : List (List ℕ)) (requests : List Request) (n : ℕ) → AreInputs p inputs → AreInputs q others → IsTrace p.devices requests → PutWords requests →
      PairGood rule other p q content behind inputs others requests (promises inputs) (promises' others) n
  pub finished : (inputs others : List (List ℕ)) (requests : List Request) (n : ℕ) → AreInputs p inputs → AreInputs q others → IsTrace p.devices requests → PutWords requests →
      pair_limit p q due due' requests ≤ n → both_finished (pair_run rule other p q content behind inputs others requests n) ≡ true

-- scripts of an image's tasks for these input words, which keep what is promised, and whose jobs are due so many cycles at most
pub record ScriptsFor (passes : ℕ → ℕ) (p : Setup) (content : List ℕ) (inputs : List (List ℕ)) (own : ℕ → ℕ → Bool) (promises : ℕ → Promise) (due : ℕ) : Type 0 where
  pub runs : ℕ → TaskRun
  pub scripts : ℕ → Script
  pub are_scripts : AreScripts p passes content inputs own runs scripts
  pub keep : AreKept p own runs scripts promises
  pub within : due_of p scripts ≤ due

-- an image whose tasks have such scripts for all input words
pub record GivesScripts (passes : ℕ → ℕ) (p : Setup) (content : List ℕ) (promises : List (List ℕ) → ℕ → Promise) (due : ℕ) : Type 0 where
  pub image : IsImage p.plant p.tasks p.devices content
  pub zero : AreasAreZero p (memory_of p content)
  pub own : ℕ → ℕ → Bool
  pub for_inputs : (inputs : List (List ℕ)) → AreInputs p inputs → ScriptsFor passes p content inputs own (promises inputs) due

-- two such images are sound together, where the second has no device, by a limit that counts what the jobs of both are due
abbrev pub PairsOfImagesAreSound : Type 0
PairsOfImagesAreSound =
    (rule other : ReplacementRule) (order order' : OrderRule) (passes passes' : ℕ → ℕ) (p q : Setup) (content behind : List ℕ) (promises promises' : List (List ℕ) → ℕ → Promise) (due due' : ℕ) →
    IsPolicy rule order passes → IsPolicy other order' passes' → q.devices ≡ [] →
    GivesScripts passes p content promises due → GivesScripts passes' q behind promises' due' →
    PairIsSound rule other p q content behind promises promises' due due'
