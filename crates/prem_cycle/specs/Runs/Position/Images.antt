-- The image of one task without devices.
use Rattle.std.specs.Prelude.{◌≡◌, ℕ, ◌+◌, ◌*◌, ◌^◌, ◌<◌, ◌≤◌, List, [], ◌∷◌, All}
use Rattle.prem_cycle.specs.Prelude.{RunInput, IsImage, Image, TaskRecord, greatest_cost, TaskRun, plain_start, plain_trace, items_of, ReplacementRule, IsRule}
use Rattle.prem_cycle.specs.Inputs.{words_of, image_run}
use Rattle.prem_cycle.specs.Runs.Position.Finish.{run_alone, finish_of, EndsIn, FinishedAs}

-- an image of this task alone, with these input words
pub record IsLoneImage (image : Image) (input : RunInput) (task : TaskRecord) (words : List ℕ) : Type 0 where
  pub tasks : items_of image.tasks ≡ task ∷ []
  pub devices : items_of image.devices ≡ []
  pub words_are : words_of input ≡ words ∷ []
  pub requests : items_of input.requests ≡ []
  pub lawful : IsImage image.plant (items_of image.tasks) (items_of image.devices) (items_of image.content)
  pub bytes : All (λ byte. byte < 256) (items_of image.content)
  pub inputs : All (λ word. word < 2 ^ 32) words

-- its task's run on its own
abbrev pub image_alone : Image → TaskRecord → List ℕ → TaskRun
image_alone image task words = run_alone image.plant task (items_of image.content) words

-- where that ends, the machine's run has finished by the cycles that are due
abbrev pub ImageFinishesInTime : Type 0
ImageFinishesInTime =
    (rule : ReplacementRule) (image : Image) (input : RunInput) (task : TaskRecord) (words : List ℕ) (n cycles : ℕ) →
    IsRule rule → IsLoneImage image input task words → EndsIn (image_alone image task words) n →
    finish_of image.plant task (plain_trace (image_alone image task words) n (plain_start (image_alone image task words))) ≤ cycles →
    FinishedAs (image_alone image task words) n (image_run rule image input cycles)

-- one job of n instructions
abbrev pub ImageFinishesOneJob : Type 0
ImageFinishesOneJob =
    (rule : ReplacementRule) (image : Image) (input : RunInput) (task : TaskRecord) (words : List ℕ) (n cycles : ℕ) →
    IsRule rule → IsLoneImage image input task words → task.jobs ≡ 1 → EndsIn (image_alone image task words) n →
    image.plant.switch + n * (greatest_cost image.plant.target + 2 * (image.plant.fill + image.plant.back)) ≤ cycles →
    FinishedAs (image_alone image task words) n (image_run rule image input cycles)
