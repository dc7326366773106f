-- Two sets that break no rule are sound together, and their reports end well.
use Rattle.std.specs.Prelude.{◌≡◌, ◌≤◌, ◌^◌, ◌⊎◌, ℕ, [], Option, None, Some}
use Rattle.prem_lru.specs.Rules.{rule_of}
use Rattle.prem_cycle.specs.Inputs.{FitsRun}
use Rattle.prem_pair.specs.declared.cycles.state.PairStop.{PairStop}
use Rattle.prem_pair.specs.declared.cycles.state.PairStop.TheVariants.{Finished, Limit}
use Rattle.prem_pair.specs.Cycles.Pair.{PairState, pair_stop_of}
use Rattle.prem_pair.specs.Laws.PairSound.{PairIsSound}
use Rattle.prem_tasks.specs.Broken.{TaskSet, broken}
use Rattle.prem_tasks.specs.Compiled.{compiled}
use Rattle.prem_sets_sound.specs.ImagePremises.Accepted.{HasValues, setup_in}
use Rattle.prem_sets_sound.specs.Meant.{promises_in}
use Rattle.prem_exec.specs.Forms.{RunText}
use Rattle.prem_running.specs.RunSound.Runs.{SuitsRun}
use Rattle.prem_pair_top.specs.Running.{due_in, limit_in, pair_at, pair_stop_at}

-- For all input words of both and all requests of the first set's devices each core is good in each state of each run of both compiled
-- images, in the words of what its own sources mean, no cycle of the bus is wanted by two, and from the limit of both on the run has
-- finished.
abbrev pub AreSound : TaskSet → TaskSet → Type 0
AreSound one two =
    PairIsSound (rule_of one.plant.policy) (rule_of two.plant.policy) (setup_in one) (setup_in two) (compiled one).image.content (compiled two).image.content
    (promises_in one) (promises_in two) (due_in (compiled one)) (due_in (compiled two))

abbrev pub PairsOfSetsAreSound : Type 0
PairsOfSetsAreSound =
    (one two : TaskSet) → HasValues one → HasValues two → broken one ≡ None → broken two ≡ None → two.devices ≡ [] → AreSound one two

-- The limit of both is a cycle that a machine reaches, where the run file fits the first image: so where words name no cycle a run goes up to it.
abbrev pub PairLimitsAreSmall : Type 0
PairLimitsAreSmall =
    (one two : TaskSet) → HasValues one → HasValues two → broken one ≡ None → broken two ≡ None → (input : RunText) → FitsRun (setup_in one) input.words input.requests →
    limit_in (compiled one) (compiled two) input.requests ≤ 2 ^ 61

-- in a state a run goes on, has finished, or is stopped by its cycle: no task has trapped, and while jobs are left no log is full
abbrev pub GoesWell : Option PairStop → Type 0
GoesWell stop = (stop ≡ None) ⊎ ((stop ≡ Some Finished) ⊎ (stop ≡ Some Limit))

-- A report up to cycle n of a run of these states tells that both have finished or that they were stopped there, and from the limit on
-- that they have finished; and so it goes in each state on the way.
pub record EndsWell (limit n : ℕ) (states : ℕ → PairState) : Type 0 where
  pub ends : (pair_stop_at n (states n) ≡ Finished) ⊎ (pair_stop_at n (states n) ≡ Limit)
  pub finishes : limit ≤ n → pair_stop_at n (states n) ≡ Finished
  pub on_the_way : (m : ℕ) → m ≤ n → GoesWell (pair_stop_of n (states m))

abbrev pub PairReportsEnd : Type 0
PairReportsEnd =
    (one two : TaskSet) (input other : RunText) (n : ℕ) → AreSound one two → SuitsRun (setup_in one) input.words input.requests → SuitsRun (setup_in two) other.words other.requests →
    EndsWell (limit_in (compiled one) (compiled two) input.requests) n (pair_at (compiled one).image (compiled two).image input other)
