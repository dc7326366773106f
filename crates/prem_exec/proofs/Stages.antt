-- The stages of a run of an image file, joined.
use Rattle.std.specs.Prelude.{Bool, unwrap_or}
use Rattle.std.proofs.Common.{◌≡◌, ◌≢◌, ℕ, List, Some, Result, Ok, Err, IsTrue, refl, ap, ◌∙◌, sym}
use Rattle.prem_list.specs.Sequence.{items_of}
use Rattle.prem_lru.specs.Rules.{rule_of}
use Rattle.prem_gate.specs.declared.request.RunInput.{RunInput}
use Rattle.prem_image.specs.declared.image.Image.{Image}
use Rattle.prem_image.specs.Text.{ImageText, image_text}
use Rattle.prem_cycle.specs.State.{MachineState}
use Rattle.prem_cycle.specs.Run.{cycles_of}
use Rattle.prem_cycle.specs.Inputs.{image_run, setup_of, words_of}
use Rattle.prem_cycle.specs.FactsOf.{Report, report_of, stop_of}
use Rattle.prem_cycle.specs.declared.state.Stop.{Stop}
use Rattle.prem_cycle.specs.declared.state.Stop.TheVariants.{Finished, Trap, LogFull, Limit}
use Rattle.prem_set.specs.declared.run.fail.Which.{Which}
use Rattle.prem_set.specs.Run.Views.{IsRun}
use Rattle.prem_set.specs.Run.Run.{Gathered, LineRefusal, run_of}
use Rattle.prem_imagefile.specs.declared.fail.ImageFail.TheVariants.{Magic, Version, Short, Long, Field, OutOfMemory as NoMemory}
use Rattle.prem_imagefile.specs.declared.fail.ImageFail.{ImageFail}
use Rattle.prem_imagefile.specs.Reading.{read_as, Fails}
use Rattle.prem_command.specs.Words.{RunAsked}
use Rattle.prem_report.specs.Report.{report_text}
use Rattle.prem_report.specs.Fitting.Named.{names_for}
use Rattle.prem_answer.specs.declared.status.Status.{Status}
use Rattle.prem_answer.specs.declared.answer.Telling.{Telling}
use Rattle.prem_answer.specs.Stages.{Reply, Reads, Stage, IsFine, is_settled, form_by, form_reply, reading}
use Rattle.prem_answer.specs.Tool.{IsSettled}
use Rattle.prem_answer.proofs.Reading.{reading_fine}
use Rattle.prem_exec.specs.Forms.{RunText, image_in, image_why, line_why, run_in, run_in_by}
use Rattle.prem_exec.specs.Exec.{exec_stages, image_limit, run_limit, image_of_bytes, run_of_bytes, run_reply, exec_limit, stop_status, stop_at, state_at, told_reply, input_of}

abbrev reply : Status → List ℕ → Reply
reply status text = (status, text)

abbrev pub told_run : RunAsked → ImageText → RunText → Stage Reply
told_run asked i input reads = Ok (run_reply i input asked.intervals (exec_limit asked.cycles))

abbrev pub behind_image : RunAsked → ImageText → Stage Reply
behind_image asked i = reading run_limit asked.run (run_of_bytes i asked.run) (told_run asked i)

-- ---- answers that may be given

images_fine : (name : List ℕ) (read : Result ImageText ImageFail) → IsFine (λ x. Unit {0}) (image_in name read)
images_fine name (Ok image) = tt
images_fine name (Err fail) = refl

runs_fine : (name : List ℕ) (read : Result Gathered LineRefusal) → IsFine (λ x. Unit {0}) (run_in name read)
runs_fine name (Ok g) = tt
runs_fine name (Err refusal) = refl

stops_fine : (stop : Stop) → IsTrue (is_settled (stop_status stop))
stops_fine Finished = refl
stops_fine (Trap task pc cause) = refl
stops_fine (LogFull size) = refl
stops_fine Limit = refl

pub exec_is_fine : (asked : RunAsked) (reads : Reads) → IsFine IsSettled (exec_stages asked reads)
exec_is_fine asked reads =
    reading_fine IsSettled image_limit asked.of (image_of_bytes asked.of) (behind_image asked) (λ bytes. images_fine asked.of (read_as bytes))
    (λ i rest. reading_fine IsSettled run_limit asked.run (run_of_bytes i asked.run) (told_run asked i)
    (λ bytes. runs_fine asked.run (run_of bytes (names_for i.tasks i.devices)))
    (λ input more. stops_fine (stop_at (exec_limit asked.cycles) (state_at i input (exec_limit asked.cycles)))) rest) reads

-- ---- forms

pub image_read : (name : List ℕ) (read : Result ImageText ImageFail) (i : ImageText) → read ≡ Ok i → image_in name read ≡ Ok i
image_read name read i is = ap (image_in name) is

-- a refusal that isn't want of memory is the one that reading gives
pub image_refused : (name : List ℕ) (read : Result ImageText ImageFail) (fail : ImageFail) (reply : Reply) → fail ≢ NoMemory → Fails fail read →
    reply ≡ form_reply name (image_why fail) → image_in name read ≡ Err reply
image_refused name read Magic reply other is line = ap (image_in name) is ∙ ap Err (sym line)
image_refused name read (Version found) reply other is line = ap (image_in name) is ∙ ap Err (sym line)
image_refused name read (Short at) reply other is line = ap (image_in name) is ∙ ap Err (sym line)
image_refused name read (Long at) reply other is line = ap (image_in name) is ∙ ap Err (sym line)
image_refused name read (Field at) reply other is line = ap (image_in name) is ∙ ap Err (sym line)
image_refused name read NoMemory reply other is line = absurd (other refl)

pub run_read : (name : List ℕ) (read : Result Gathered LineRefusal) (input : RunInput) → IsRun input read → run_in name read ≡ Ok (input_of input)
run_read name (Ok g) input (words, requests) = ap Ok (ap (λ ws. record { words = ws; requests = g.requests }) (sym words) ∙ ap (λ rs. record { words = words_of input; requests = rs }) (sym requests))
run_read name (Err refusal) input is = absurd is

pub run_refused : (how : Telling) (name : List ℕ) (read : Result Gathered LineRefusal) (n : ℕ) (which : Which) (reply : Reply) → read ≡ Err (n, which) →
    reply ≡ form_by how name (line_why (n, which)) → run_in_by how name read ≡ Err reply
run_refused how name read n which reply is line = ap (run_in_by how name) is ∙ ap Err (sym line)

-- ---- the run

-- a run starts at cycle 0, and goes on from there
pub starts_at : (image : Image) (input : RunInput) → (image_run (rule_of image.plant.policy) image input 0).now ≡ 0
unfolding cycles_of
starts_at image input = refl

pub goes_from_start : (image : Image) (input : RunInput) (n : ℕ) →
    cycles_of (rule_of image.plant.policy) (setup_of image) (items_of input.requests) n (image_run (rule_of image.plant.policy) image input 0) ≡ state_at (image_text image) (input_of input) n
unfolding cycles_of
goes_from_start image input n = refl

pub stop_is : (stop : Stop) (limit : ℕ) (s : MachineState) → Some stop ≡ stop_of limit s → stop ≡ stop_at limit s
stop_is stop limit s is = ap (λ o. unwrap_or o Limit) is

-- what is told, from what the machine says of itself
pub told_is : (i : ImageText) (times : Bool) (limit : ℕ) (s : MachineState) (stop : Stop) (status : Status) (text : List ℕ) (now : ℕ) (r : Report) → stop ≡ stop_at limit s →
    status ≡ stop_status stop → now ≡ s.now → r ≡ report_of s → text ≡ report_text i.tasks i.devices times now r stop → reply status text ≡ told_reply i times limit s
told_is i times limit s stop status text now r stops ends at told is =
    let texts : text ≡ report_text i.tasks i.devices times s.now (report_of s) (stop_at limit s) =
    is
    ∙ ap (λ n. report_text i.tasks i.devices times n r stop) at
    ∙ ap (λ q. report_text i.tasks i.devices times s.now q stop) told
    ∙ ap (report_text i.tasks i.devices times s.now (report_of s)) stops in
    ap (λ x. reply x text) (ends ∙ ap stop_status stops) ∙ ap (reply (stop_status (stop_at limit s))) texts
