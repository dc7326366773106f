-- A set with a device that feeds its task, and its run and mail files, computed: what `mail` tells up to cycle 0 is told again by `run`.
use Rattle.std.specs.Prelude.{codes}
use Rattle.std.specs.Fmt.{digits}
use Rattle.std.specs.Int.Count.{ones}
use Rattle.std.specs.Str.{chars, is_utf8}
use Rattle.std.proofs.Common.{◌≡◌, ℕ, false, List, [], ◌∷◌, ◌++◌, All, Option, None, Some, Ok, refl, lit≤}
use Rattle.std.proofs.lemmas.List.Elements.{All-nil, All-cons}
use Rattle.toml.proofs.OnLiterals.{toml_on_literals}
use Rattle.clap.proofs.OnLiterals.{clap_on_literals}
use Rattle.prem_io.specs.Files.{Files, stored}
use Rattle.prem_plant.specs.Ranges.{default_plant}
use Rattle.prem_syntax.specs.ProgramRules.{first_breach}
use Rattle.prem_text.specs.Lexing.Spelling.{used_word, is_unused, reserved_word, longest_mark}
use Rattle.prem_text.specs.Lexing.Literal.{literal_word}
use Rattle.prem_text.specs.Lexing.Tokens.{first_token, start, step, lex, tokens_of}
use Rattle.prem_ranges.specs.RangesKept.{first_range_breach}
use Rattle.prem_tasks.specs.Broken.{TaskSet, broken}
use Rattle.prem_tasks.specs.Compiled.{compiled}
use Rattle.prem_sets_sound.specs.ImagePremises.Accepted.{HasValues}
use Rattle.prem_set.specs.SetFile.{SetData, plant_in, task_in, task_of, entries_from, tasks_of, device_in, device_of, devices_of, root_of, set_of as set_of_text}
use Rattle.prem_set.specs.Run.Run.{Gathered, with_words, inputs_of, request_words, request_of, in_words, req_words, line_read, lines_read, run_of as lines_of_run}
use Rattle.prem_command.specs.Words.{RunAsked, run, MailAsked, command_of, read_by, run_of}
use Rattle.prem_mail.specs.declared.feed.Feed.{Feed}
use Rattle.prem_mail.specs.Delivery.{Delivery, delivered_in}
use Rattle.prem_answer.specs.declared.status.Status.{Status}
use Rattle.prem_answer.specs.declared.status.Status.TheVariants.{Done}
use Rattle.prem_answer.specs.Stages.{Reads}
use Rattle.prem_answer.specs.Tool.{Completes}
use Rattle.prem_exec.specs.Sources.Sources.{names_of}
use Rattle.prem_exec.specs.Sources.There.{SetIsThere, run_text_of}
use Rattle.prem_running.specs.Mail.Mail.{delivered_at, compiled_reply as mailed_reply}
use Rattle.prem_top.specs.Read.{SetIsRead}
use Rattle.prem_top.specs.Answer.{IsComplete}
use Rattle.prem_top.specs.Complete.{Succeeds}
use Rattle.prem_top.specs.Again.{IsRunWith, IsToldAgain}
use Rattle.prem_top.proofs.Values.{sets_read_have_values}
use Rattle.prem_top.proofs.Again.{told_again}

-- ---- the files

abbrev set_bytes : List ℕ
set_bytes = codes "[[task]]\nname='m'\nsource='m.c'\nperiod=1000\njobs=2\n[[device]]\nname='dma'\nqueue=2\ncost=40\nlines=4\n"

abbrev source_bytes : List ℕ
source_bytes = codes "void job(void) { int x = 0; x = in(); out(x); }"

-- the run file of the first call, and that of the second one
abbrev run_bytes : List ℕ
run_bytes = codes "# a word, and a request\nreq 30 dma put 0 5\nin m 7\n"

abbrev again_bytes : List ℕ
again_bytes = codes "in m 7\n# a word, and a request\nreq 30 dma put 0 5\n"

abbrev files : Files
files = (codes "m.toml", set_bytes) ∷ (codes "m.c", source_bytes) ∷ (codes "m.run", run_bytes) ∷ (codes "m.feed", codes "feed dma 0 m\n") ∷ (codes "again.run", again_bytes) ∷ []

-- ---- what is read of them

abbrev stated : SetData
stated = record {
  plant = default_plant;
  tasks = record { name = codes "m"; source = codes "m.c"; period = 1000; jobs = 2 } ∷ [];
  devices = record { name = codes "dma"; queue = 2; cost = 40; lines = 4 } ∷ [];
}

abbrev set : TaskSet
set = record { plant = default_plant; devices = stated.devices; tasks = record { name = codes "m"; text = source_bytes; period = 1000; jobs = 2 } ∷ [] }

abbrev gathered : Gathered
gathered = record { words = (7 ∷ []) ∷ []; requests = record { cycle = 30; device = 0; line = 0; put = Some 5 } ∷ []; last = 30 }

abbrev feeds : List Feed
feeds = record { device = 0; line = 0; task = 0 } ∷ []

set_is_formed : set_of_text set_bytes ≡ Ok stated
unfolding toml_on_literals is_utf8 chars root_of plant_in tasks_of devices_of entries_from task_of device_of task_in device_in ones digits
set_is_formed = refl

run_is_formed : lines_of_run run_bytes (names_of set) ≡ Ok gathered
unfolding lines_read line_read in_words req_words inputs_of request_of request_words
run_is_formed = refl

set_is_there : SetIsThere files (codes "m.toml") set
set_is_there = record {
  bytes = set_bytes;
  file = record { bytes_are = refl; short = lit≤ tt };
  stated = stated;
  formed = set_is_formed;
  sources = (refl, record { bytes_are = refl; short = lit≤ tt }, tt);
  set_is = refl;
}

abbrev reads : Reads
reads n name = stored files name

set_is_read : SetIsRead reads (codes "m.toml") set
set_is_read = record {
  bytes = set_bytes;
  file = record { bytes_are = refl; short = lit≤ tt };
  stated = stated;
  formed = set_is_formed;
  sources = (refl, record { bytes_are = refl; short = lit≤ tt }, tt);
  set_is = refl;
}

set_breaks_nothing : broken set ≡ None
unfolding tokens_of lex step start first_token reserved_word used_word is_unused longest_mark literal_word first_breach first_range_breach
set_breaks_nothing = refl

set_has_values : HasValues set
set_has_values = sets_read_have_values reads (codes "m.toml") set set_is_read

-- ---- the two calls

abbrev asked : MailAsked
asked = record { of = codes "m.toml"; run = codes "m.run"; mail = codes "m.feed"; cycles = Some 0 }

abbrev again : RunAsked
again = record { of = codes "m.toml"; run = codes "again.run"; cycles = Some 0; intervals = false }

abbrev delivery : Delivery
delivery = delivered_at (compiled set).image (run_text_of gathered) feeds 0

abbrev text : List ℕ
text = (mailed_reply (Some 0) (run_text_of gathered) feeds (compiled set)).1

told : IsToldAgain asked set run_bytes gathered delivery text
told = told_again asked set run_bytes gathered feeds text set_has_values set_breaks_nothing run_is_formed refl

again_is_formed : lines_of_run again_bytes (names_of set) ≡ Ok (with_words gathered delivery.lists)
unfolding lines_read line_read in_words req_words inputs_of request_of request_words delivered_in
again_is_formed = refl

again_is_asked : IsRunWith files asked set again_bytes again
again_is_asked = record { set_there = set_is_there; file = record { bytes_are = refl; short = lit≤ tt }; cycles = refl; plain = refl }

run_succeeds_again : Succeeds files (run again) (Done, told.report)
run_succeeds_again = told.told again_bytes files again again_is_formed again_is_asked

-- so a call with these words writes this report, by its contract
abbrev again_words : List (List ℕ)
again_words = codes "run" ∷ codes "m.toml" ∷ codes "again.run" ∷ codes "--cycles" ∷ codes "0" ∷ []

again_is_said : command_of again_words ≡ Some (run again)
unfolding clap_on_literals read_by run_of
again_is_said = refl

again_completes : (old new : Option (List ℕ)) (status : Status) → IsComplete again_words (Some files) old new status → Completes (Done, told.report) old new status
again_completes old new status complete = complete files (run again) (Done, told.report) refl again_is_said run_succeeds_again

none_is_lost : All (λ n. n ≡ 0) delivery.lost
unfolding delivered_in tokens_of lex step start first_token reserved_word used_word is_unused longest_mark literal_word
none_is_lost = All-cons (λ n. n ≡ 0) 0 [] refl (All-nil (λ n. n ≡ 0))

text_begins : text ≡ codes "in m 7\n" ++ told.report
unfolding delivered_in digits
text_begins = told.none_lost none_is_lost
