-- What is told of the run of a compiled set is the answer.
use Rattle.std.proofs.Common.{◌≡◌, ℕ, List, [], ◌∷◌, Ok, length, map, refl, ap, sym, subst}
use Rattle.std.proofs.lemmas.List.{length-map}
use Rattle.prem_list.specs.Sequence.{items_of}
use Rattle.prem_image.specs.declared.image.TaskRecord.{TaskRecord}
use Rattle.prem_image.specs.declared.image.DeviceRecord.{DeviceRecord}
use Rattle.prem_tasks.specs.Broken.{TaskSet, broken}
use Rattle.prem_tasks.specs.Compiled.{CompiledText, compiled}
use Rattle.prem_compile.specs.declared.compiled.Compiled.{Compiled}
use Rattle.prem_compile.specs.CompiledOf.{IsCompiled}
use Rattle.prem_set.specs.Run.Names.{KnownNames}
use Rattle.prem_command.specs.Words.{MailAsked}
use Rattle.prem_report.specs.Fitting.Named.{names_for}
use Rattle.prem_mail.specs.declared.feed.Feed.{Feed}
use Rattle.prem_mail.specs.Feeds.{AreFeeds}
use Rattle.prem_answer.specs.Stages.{Reply, Reads, Stage, IsFine}
use Rattle.prem_answer.specs.Tool.{IsSettled}
use Rattle.prem_exec.specs.Forms.{RunText}
use Rattle.prem_exec.specs.Sources.Sources.{names_of, reading_run}
use Rattle.prem_exec.proofs.SourcesLemmas.Fine.{run_fine, set_fine}
use Rattle.prem_running.specs.Tellings.{set_reply}
use Rattle.prem_running.specs.Mail.Files.{reading_mail}
use Rattle.prem_running.specs.Mail.Mail.{mail_stages, mail_tells}
use Rattle.prem_running.proofs.SetLawsLemmas.Names.{names_are_kept}
use Rattle.prem_running.proofs.Tellings.{judged_fine}
use Rattle.prem_running.proofs.MailLemmas.Files.{mail_fine}

-- ---- feeds

abbrev pub AreFor : KnownNames → List Feed → Type 0
AreFor names feeds = AreFeeds (length names.tasks) (map (λ (d : List ℕ × ℕ). d.1) names.devices) feeds

lines_told : (devices : List DeviceRecord) → map (λ (d : List ℕ × ℕ). d.1) (names_for [] devices).devices ≡ map (λ (d : DeviceRecord). d.device.lines) devices
lines_told [] = refl
lines_told (d ∷ ds) = ap (λ (ns : List ℕ). d.device.lines ∷ ns) (lines_told ds)

-- those of a set's names fit its image
pub feeds_fit : (set : TaskSet) (c : Compiled) (feeds : List Feed) → IsCompiled set c → AreFor (names_of set) feeds →
    AreFeeds (length (items_of c.image.tasks)) (map (λ (d : DeviceRecord). d.device.lines) (items_of c.image.devices)) feeds
feeds_fit set c feeds is are =
    let here : AreFor (names_for (compiled set).image.tasks (compiled set).image.devices) feeds = subst (λ (names : KnownNames). AreFor names feeds) (sym (names_are_kept set is.lawful)) are in
    let mine : AreFor (names_for (items_of c.image.tasks) (items_of c.image.devices)) feeds =
    subst (λ (t : CompiledText). AreFor (names_for t.image.tasks t.image.devices) feeds) (sym is.compiled) here in
    subst (λ n. AreFeeds n (map (λ (d : DeviceRecord). d.device.lines) (items_of c.image.devices)) feeds) (length-map (items_of c.image.tasks) (λ (t : TaskRecord). t.name))
    (subst (λ ns. AreFeeds (length (names_for (items_of c.image.tasks) (items_of c.image.devices)).tasks) ns feeds) (lines_told (items_of c.image.devices)) mine)

-- ---- the stages

module _ (asked : MailAsked) where
  abbrev pub behind_mail : TaskSet → RunText → List Feed → Stage Reply
  behind_mail set input feeds reads = Ok (set_reply (mail_tells asked.cycles feeds) set input)

  abbrev pub behind_run : TaskSet → RunText → Stage Reply
  behind_run set input = reading_mail set asked.mail (behind_mail set input)

  abbrev pub behind_set : TaskSet → Stage Reply
  behind_set set = reading_run set asked.run (behind_run set)

  -- ---- answers that may be given

  pub mail_is_fine : (reads : Reads) → IsFine IsSettled (mail_stages asked reads)
  mail_is_fine reads =
      set_fine IsSettled asked.of behind_set
      (λ set rest. run_fine IsSettled set asked.run (behind_run set)
      (λ input more. mail_fine IsSettled set asked.mail (behind_mail set input)
      (λ feeds last. judged_fine (mail_tells asked.cycles feeds) set input refl (broken set)) more) rest) reads
