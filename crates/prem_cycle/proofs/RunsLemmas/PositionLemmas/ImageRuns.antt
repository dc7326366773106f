-- The run of an image of one task without devices.
use Rattle.std.proofs.Common.{◌≡◌, ℕ, ap, ◌∙◌, sym, subst, List, [], ◌∷◌}
use Rattle.prem_cycle.proofs.Prelude.{setup_of, words_of, image_run, run_of, lone_run, IsLone, FinishedAs, Setup, IsTask, DeviceRecord, TaskRecord, ReplacementRule, All-head, All}
use Rattle.prem_cycle.proofs.RunsLemmas.PositionLemmas.Finishes.{finishes_in_time, finishes_one_job}
use Rattle.prem_cycle.specs.Runs.Position.Images.{IsLoneImage, image_alone, ImageFinishesInTime, ImageFinishesOneJob}
use Rattle.prem_gate.specs.declared.request.RunInput.{RunInput}
use Rattle.prem_image.specs.declared.image.Image.{Image}
use Rattle.prem_list.specs.Sequence.{items_of}

image_lone : (image : Image) (input : RunInput) (task : TaskRecord) (words : List ℕ) → IsLoneImage image input task words → IsLone image.plant task (items_of image.content) words
image_lone image input task words h =
    let one : IsTask image.plant.memory task = All-head (IsTask image.plant.memory) task [] (subst (All (IsTask image.plant.memory)) h.tasks h.lawful.each_task) in
    record {
      in_range = h.lawful.plant;
      period = one.period.0;
      jobs = one.jobs.1;
      entry = one.entry_aligned;
      stack = one.stack_within;
      room = h.lawful.within;
      bytes = h.bytes;
      inputs = h.inputs;
    }

-- its run is that of the task
image_run_is : (rule : ReplacementRule) (image : Image) (input : RunInput) (task : TaskRecord) (words : List ℕ) (cycles : ℕ) →
    IsLoneImage image input task words → lone_run rule image.plant task (items_of image.content) words cycles ≡ image_run rule image input cycles
image_run_is rule image input task words cycles h =
    let content : List ℕ = items_of image.content in
    let setup : List TaskRecord → List DeviceRecord → Setup = λ tasks devices. record { plant = image.plant; tasks = tasks; devices = devices } in
    ap (λ ts. run_of rule (setup ts []) content (words ∷ []) [] cycles) (sym h.tasks)
    ∙ ap (λ ds. run_of rule (setup (items_of image.tasks) ds) content (words ∷ []) [] cycles) (sym h.devices)
    ∙ ap (λ ws. run_of rule (setup_of image) content ws [] cycles) (sym h.words_are)
    ∙ ap (λ rs. run_of rule (setup_of image) content (words_of input) rs cycles) (sym h.requests)

pub image_finishes_in_time : ImageFinishesInTime
image_finishes_in_time rule image input task words n cycles r h ends le =
    subst (FinishedAs (image_alone image task words) n) (image_run_is rule image input task words cycles h)
    (finishes_in_time rule image.plant task (items_of image.content) words n cycles r (image_lone image input task words h) ends le)

pub image_finishes_one_job : ImageFinishesOneJob
image_finishes_one_job rule image input task words n cycles r h one ends le =
    subst (FinishedAs (image_alone image task words) n) (image_run_is rule image input task words cycles h)
    (finishes_one_job rule image.plant task (items_of image.content) words n cycles r (image_lone image input task words h) one ends le)
