-- Runs of sound images, and of task sets that break no rule, by what a run file gives.
use Rattle.std.specs.Prelude.{◌≡◌, ℕ, ◌≤◌, ◌⊎◌, false, List, None, Ok}
use Rattle.prem_lru.specs.Entries.{ReplacementRule}
use Rattle.prem_lru.specs.Rules.{rule_of}
use Rattle.prem_gate.specs.declared.request.Request.{Request}
use Rattle.prem_cycle.specs.declared.state.Stop.TheVariants.{Finished, Limit}
use Rattle.prem_cycle.specs.State.{Setup, MachineState}
use Rattle.prem_cycle.specs.Cycle.{is_finished, is_full}
use Rattle.prem_cycle.specs.Run.{run_of}
use Rattle.prem_cycle.specs.Inputs.{IsTrace}
use Rattle.prem_sound.specs.Script.Scripts.{Promise}
use Rattle.prem_sound.specs.Serve.Requests.{PutWords}
use Rattle.prem_sound.specs.Good.{Good}
use Rattle.prem_sound.specs.Sound.{AreInputs, Sound}
use Rattle.prem_tasks.specs.Broken.{TaskSet, broken}
use Rattle.prem_tasks.specs.Compiled.{compiled}
use Rattle.prem_sets_sound.specs.ImagePremises.Accepted.{HasValues, setup_in}
use Rattle.prem_sets_sound.specs.Meant.{promises_in}
use Rattle.prem_set.specs.Run.Run.{Gathered, run_of as lines_of_run}
use Rattle.prem_report.specs.Fitting.Named.{names_for}
use Rattle.prem_exec.specs.Exec.{stop_at}
use Rattle.prem_exec.specs.Sources.Sources.{names_of}

-- ---- what runs are given

-- a list of words for each task, and requests in order of cycle, of devices and lines that exist, which put words
pub record SuitsRun (p : Setup) (inputs : List (List ℕ)) (requests : List Request) : Type 0 where
  pub inputs_are : AreInputs p inputs
  pub trace : IsTrace p.devices requests
  pub puts : PutWords requests

-- what a run file in form gives, by the names of an image, suits runs of the image
abbrev pub RunFilesSuit : Type 0
RunFilesSuit =
    (p : Setup) (bytes : List ℕ) (g : Gathered) → lines_of_run bytes (names_for p.tasks p.devices) ≡ Ok g → SuitsRun p g.words g.requests

-- and by the names of a set that breaks no rule, runs of the set's image
abbrev pub InputsAreLawful : Type 0
InputsAreLawful =
    (set : TaskSet) (bytes : List ℕ) (g : Gathered) → broken set ≡ None → lines_of_run bytes (names_of set) ≡ Ok g →
    SuitsRun (setup_in set) g.words g.requests

-- ---- how runs end

-- a state that hasn't trapped, and has finished or has room in its logs
pub record HasRoom (s : MachineState) : Type 0 where
  pub untrapped : s.trapped ≡ None
  pub room : is_finished s ≡ false → is_full s ≡ false

-- a log that is filled before the run has finished would keep it from finishing
abbrev pub SoundRunsNeverFill : Type 0
SoundRunsNeverFill =
    (rule : ReplacementRule) (p : Setup) (content : List ℕ) (promises : List (List ℕ) → ℕ → Promise) (limit : ℕ) (inputs : List (List ℕ)) (requests : List Request) (n : ℕ) →
    Sound rule p content promises limit → SuitsRun p inputs requests → HasRoom (run_of rule p content inputs requests n)

-- a report up to cycle n, where it has come to this state, tells that the run has finished or that it was stopped there, and from the limit
-- on that it has finished
pub record EndsWell (limit n : ℕ) (s : MachineState) : Type 0 where
  pub ends : (stop_at n s ≡ Finished) ⊎ (stop_at n s ≡ Limit)
  pub finishes : limit ≤ n → stop_at n s ≡ Finished

abbrev pub SoundReportsEnd : Type 0
SoundReportsEnd =
    (rule : ReplacementRule) (p : Setup) (content : List ℕ) (promises : List (List ℕ) → ℕ → Promise) (limit : ℕ) (inputs : List (List ℕ)) (requests : List Request) (n : ℕ) →
    Sound rule p content promises limit → SuitsRun p inputs requests → EndsWell limit n (run_of rule p content inputs requests n)

-- ---- runs of sets

-- each state of the run of a set that breaks no rule, by a run file in form, is good in the words of what the sources mean
abbrev pub SetRunsAreGood : Type 0
SetRunsAreGood =
    (set : TaskSet) (bytes : List ℕ) (g : Gathered) (n : ℕ) → HasValues set → broken set ≡ None → lines_of_run bytes (names_of set) ≡ Ok g →
    Good (rule_of set.plant.policy) (setup_in set) (compiled set).image.content g.words g.requests (promises_in set g.words) n

-- and its reports end well, by the limit that is told of the set
abbrev pub SetReportsEnd : Type 0
SetReportsEnd =
    (set : TaskSet) (bytes : List ℕ) (g : Gathered) (n : ℕ) → HasValues set → broken set ≡ None → lines_of_run bytes (names_of set) ≡ Ok g →
    EndsWell (compiled set).limit n (run_of (rule_of set.plant.policy) (setup_in set) (compiled set).image.content g.words g.requests n)
