-- What the answers to commands promise: where a set is accepted, its image is sound; where it is refused, the rule told is the first one broken.
use Rattle.std.specs.Prelude.{◌≡◌, ℕ, ◌<◌, ◌≤◌, true, List, [], ◌++◌, None, Some, Ok, Err, slice_index_or}
use Rattle.prem_plant.specs.Places.{Extent, last_end}
use Rattle.prem_lru.specs.Rules.{rule_of}
use Rattle.prem_cycle.specs.State.{MachineState, task_in}
use Rattle.prem_cycle.specs.Cycle.{is_finished}
use Rattle.prem_cycle.specs.FactsOf.{report_of}
use Rattle.prem_syntax.specs.Syntax.{ProgramText}
use Rattle.prem_syntax.specs.Statements.{ProgramState}
use Rattle.prem_syntax.specs.Source.{source}
use Rattle.prem_text.specs.Texts.{reads as program_of}
use Rattle.prem_layout.specs.Rules.{Refusal, over_tasks, conflict_rules}
use Rattle.prem_color.specs.Rooms.{no_part}
use Rattle.prem_tasks.specs.Told.{Told}
use Rattle.prem_tasks.specs.Broken.{TaskSet, broken, programs_of}
use Rattle.prem_tasks.specs.Compiled.{CompiledText, compiled, parts_in}
use Rattle.prem_tasks.specs.At.{AreLawfulFor, broken_early, broken_at, compiled_at, placed_by}
use Rattle.prem_sets_sound.specs.ImagePremises.Accepted.{HasValues, setup_in}
use Rattle.prem_sets_sound.specs.Meant.{promises_in}
use Rattle.prem_sets_sound.specs.PlacesSound.Sound.{IsSoundAt}
use Rattle.prem_sets_sound.specs.Sound.{IsSoundSet}
use Rattle.prem_compile.specs.Colors.{AreColored}
use Rattle.prem_imagefile.specs.Spelling.{image_bytes}
use Rattle.prem_command.specs.Words.{RunAsked, TileAsked, MailAsked}
use Rattle.prem_mail.specs.declared.feed.Feed.{Feed}
use Rattle.prem_mail.specs.Delivery.{Delivery}
use Rattle.prem_mail.specs.Good.{IsGoodRun}
use Rattle.prem_answer.specs.declared.status.Status.TheVariants.{Done, Refused}
use Rattle.prem_answer.specs.Stages.{Reply, Reads}
use Rattle.prem_answer.specs.Refusal.Texts.{refusal_line}
use Rattle.prem_exec.specs.Forms.{RunText}
use Rattle.prem_exec.specs.Exec.{state_at}
use Rattle.prem_exec.specs.Sources.Sources.{source_limit}
use Rattle.prem_build.specs.Colors.{found_places, memory_refusal, name_in, stuck_line}
use Rattle.prem_build.specs.Tables.Check.{check_text}
use Rattle.prem_build.specs.Tables.Listing.{list_text}
use Rattle.prem_running.specs.RunSound.Runs.{SuitsRun, EndsWell}
use Rattle.prem_running.specs.Running.{run_limit, compiled_reply}
use Rattle.prem_running.specs.Sample.Trace.{sample_set}
use Rattle.prem_running.specs.Sample.Sample.{compiled_reply as sample_reply}
use Rattle.prem_running.specs.Mail.Mail.{compiled_reply as mailed_reply, delivered_at, mailed_input}
use Rattle.prem_top.specs.One.Answer.{one_set, output_lines, run_lines, state_of}
use Rattle.prem_top.specs.Tile.Promise.{TellsTiled, TellsWhyNot}
use Rattle.prem_top.specs.Source.Answer.{tasks_text}
use Rattle.prem_top.specs.Read.{IsRead, SetIsRead, RunIsRead, MailIsRead}
use Rattle.prem_top.specs.Again.{IsToldAgain}

-- ---- accepted

-- the set of the files read breaks no rule: each run of its image is good
pub record IsAccepted (reads : Reads) (name : List ℕ) (set : TaskSet) : Type 0 where
  pub read : SetIsRead reads name set
  pub values : HasValues set
  pub unbroken : broken set ≡ None
  pub sound : IsSoundSet set

-- a text tells this of what such a set is compiled to
pub record IsSoundTelling (tell : CompiledText → List ℕ) (reads : Reads) (name text : List ℕ) : Type 0 where
  pub set : TaskSet
  pub accepted : IsAccepted reads name set
  pub text_is : text ≡ tell (compiled set)

-- its bounds
abbrev pub IsSoundCheck : Reads → List ℕ → List ℕ → Type 0
IsSoundCheck = IsSoundTelling check_text

-- the bytes of its image
abbrev pub IsSoundBuild : Reads → List ℕ → List ℕ → Type 0
IsSoundBuild = IsSoundTelling (λ c. image_bytes c.image)

-- its listing
abbrev pub IsSoundList : Reads → List ℕ → List ℕ → Type 0
IsSoundList = IsSoundTelling list_text

-- a text is the report of the run of such a set's image, with the words and requests of the run file; these are input words and requests of
-- which the soundness of the set speaks, and the report ends as finished or stopped, never with a trap or a full log
pub record IsSoundRun (reads : Reads) (asked : RunAsked) (text : List ℕ) : Type 0 where
  pub set : TaskSet
  pub accepted : IsAccepted reads asked.of set
  pub input : RunText
  pub run_read : RunIsRead reads set asked.run input
  pub suits : SuitsRun (setup_in set) input.words input.requests
  pub ends : EndsWell (compiled set).limit (run_limit asked.cycles (compiled set).limit) (state_at (compiled set).image input (run_limit asked.cycles (compiled set).limit))
  pub text_is : text ≡ (compiled_reply asked input (compiled set)).1

-- a text tells what the sources of such a set put out, with the words of the run file
pub record IsSoundSource (reads : Reads) (name run text : List ℕ) : Type 0 where
  pub set : TaskSet
  pub accepted : IsAccepted reads name set
  pub input : RunText
  pub run_read : RunIsRead reads set run input
  pub text_is : text ≡ tasks_text set.tasks (programs_of set.tasks) input.words

-- a state has finished, and its first task has put out what the program of these bytes puts out by its meaning
pub record GivesSource (bytes : List ℕ) (s : MachineState) : Type 0 where
  pub finished : is_finished s ≡ true
  pub program : ProgramText
  pub program_is : program_of bytes ≡ Ok program
  pub after : ProgramState
  pub source_is : source program [] 1 ≡ Ok after
  pub outputs : (task_in s.work 0).outputs ≡ after.outputs

-- a text tells the outputs of the program of a file, and the cycles and counts of the run of its image, which is sound
pub record IsSoundOne (reads : Reads) (file text : List ℕ) : Type 0 where
  pub bytes : List ℕ
  pub read : IsRead reads 0 source_limit file bytes
  pub unbroken : broken (one_set bytes) ≡ None
  pub sound : IsSoundSet (one_set bytes)
  pub gives : GivesSource bytes (state_of (compiled (one_set bytes)))
  pub text_is : text ≡ output_lines gives.after.outputs ++ run_lines (state_of (compiled (one_set bytes))).now (report_of (state_of (compiled (one_set bytes)))).counts

-- a text tells in sums the run of the image of a sample's set, which is sound
pub record IsSoundSample (seed : ℕ) (text : List ℕ) : Type 0 where
  pub unbroken : broken (sample_set seed) ≡ None
  pub sound : IsSoundSet (sample_set seed)
  pub text_is : text ≡ (sample_reply seed (compiled (sample_set seed))).1

-- a text is that of the program of a file with tiles, which breaks no rule, does the same, and is read back from it
pub record IsSoundTile (reads : Reads) (asked : TileAsked) (text : List ℕ) : Type 0 where
  pub bytes : List ℕ
  pub read : IsRead reads 0 source_limit asked.file bytes
  pub tells : TellsTiled asked bytes text

-- the lists that are delivered to the tasks of a compiled set, up to the cycle to which its run goes
abbrev pub delivered_to : MailAsked → CompiledText → RunText → List Feed → Delivery
delivered_to asked c input feeds = delivered_at c.image input feeds (run_limit asked.cycles c.limit)

-- a text tells the lists of input words that the run files and the devices of such a set gave, and the report of its run, which is that of the run on these
-- lists: for them its state is good, from the set's limit on it has finished, and the report ends as finished or stopped; `run` tells this report again, with a
-- run file of these lists and of the first run file's requests
pub record IsSoundMail (reads : Reads) (asked : MailAsked) (text : List ℕ) : Type 0 where
  pub set : TaskSet
  pub accepted : IsAccepted reads asked.of set
  pub input : RunText
  pub run_read : RunIsRead reads set asked.run input
  pub feeds : List Feed
  pub mail_read : MailIsRead reads set asked.mail feeds
  pub good : IsGoodRun (rule_of set.plant.policy) (setup_in set) (compiled set).image.content (promises_in set) (compiled set).limit
      (delivered_to asked (compiled set) input feeds).lists input.requests (run_limit asked.cycles (compiled set).limit)
  pub ends : EndsWell (compiled set).limit (run_limit asked.cycles (compiled set).limit)
      (state_at (compiled set).image (mailed_input input (delivered_to asked (compiled set) input feeds)) (run_limit asked.cycles (compiled set).limit))
  pub text_is : text ≡ (mailed_reply asked.cycles input feeds (compiled set)).1
  pub again : IsToldAgain asked set run_read.bytes run_read.lines (delivered_to asked (compiled set) input feeds) text

-- a text is the bytes of the image of a set whose parts have places with offsets: there no set of the cache is asked for too many lines, no rule is broken, and
-- the image is sound
pub record IsSoundColor (reads : Reads) (name text : List ℕ) : Type 0 where
  pub set : TaskSet
  pub read : SetIsRead reads name set
  pub values : HasValues set
  pub places : List Extent
  pub colored : AreColored set places
  pub lawful : AreLawfulFor set places
  pub no_conflict : over_tasks (conflict_rules set.plant) (placed_by set places) ≡ None
  pub unbroken : broken_at set places ≡ None
  pub sound : IsSoundAt set places
  pub text_is : text ≡ image_bytes (compiled_at set places).image

-- ---- refused

-- a text tells the first rule that a set breaks
pub record TellsFirstBroken (set : TaskSet) (text : List ℕ) : Type 0 where
  pub refusal : Refusal Told
  pub is_first : broken set ≡ Some refusal
  pub text_is : text ≡ refusal_line set.tasks refusal

-- that of the set of the files read
pub record IsFirstBroken (reads : Reads) (name text : List ℕ) : Type 0 where
  pub set : TaskSet
  pub read : SetIsRead reads name set
  pub first : TellsFirstBroken set text

-- that of the set of the files read, of which one is a run file
pub record IsFirstBrokenRun (reads : Reads) (name run text : List ℕ) : Type 0 where
  pub set : TaskSet
  pub read : SetIsRead reads name set
  pub input : RunText
  pub run_read : RunIsRead reads set run input
  pub first : TellsFirstBroken set text

-- that of the set of the files read, of which one is a run file and one a mail file
pub record IsFirstBrokenMail (reads : Reads) (asked : MailAsked) (text : List ℕ) : Type 0 where
  pub set : TaskSet
  pub read : SetIsRead reads asked.of set
  pub input : RunText
  pub run_read : RunIsRead reads set asked.run input
  pub feeds : List Feed
  pub mail_read : MailIsRead reads set asked.mail feeds
  pub first : TellsFirstBroken set text

-- why a set has no image with moved parts: the first rule up to code generation that it breaks, else the first part that no offset helps, else that the parts
-- end past memory, else the first rule that it breaks at their places
pub data TellsWhyUncolored (set : TaskSet) (text : List ℕ) : Type 0 where
  early : (refusal : Refusal Told) → broken_early set ≡ Some refusal → text ≡ refusal_line set.tasks refusal → TellsWhyUncolored set text
  stuck : (n : ℕ) → broken_early set ≡ None → found_places set ≡ Err n → text ≡ stuck_line set.tasks (slice_index_or (parts_in set) n no_part) (name_in set n) → TellsWhyUncolored set text
  full : (places : List Extent) → broken_early set ≡ None → found_places set ≡ Ok places → set.plant.memory < last_end places →
      text ≡ refusal_line set.tasks (memory_refusal (last_end places) set.plant.memory) → TellsWhyUncolored set text
  at_places : (places : List Extent) (refusal : Refusal Told) → found_places set ≡ Ok places → last_end places ≤ set.plant.memory → broken_at set places ≡ Some refusal →
      text ≡ refusal_line set.tasks refusal → TellsWhyUncolored set text

-- that of the set of the files read
pub record IsWhyUncolored (reads : Reads) (name text : List ℕ) : Type 0 where
  pub set : TaskSet
  pub read : SetIsRead reads name set
  pub tells : TellsWhyUncolored set text

-- that of the program of a file
pub record IsFirstBrokenOne (reads : Reads) (file text : List ℕ) : Type 0 where
  pub bytes : List ℕ
  pub read : IsRead reads 0 source_limit file bytes
  pub first : TellsFirstBroken (one_set bytes) text

-- why the function of the program of a file can't be cut
pub record IsWhyNotTile (reads : Reads) (asked : TileAsked) (text : List ℕ) : Type 0 where
  pub bytes : List ℕ
  pub read : IsRead reads 0 source_limit asked.file bytes
  pub tells : TellsWhyNot asked bytes text

-- ---- both

-- what holds of the text of an answer that is Done, and of one that is Refused
pub record Keeps (done refused : List ℕ → Type 0) (given : Reply) : Type 0 where
  pub on_done : given.0 ≡ Done → done given.1
  pub on_refused : given.0 ≡ Refused → refused given.1
