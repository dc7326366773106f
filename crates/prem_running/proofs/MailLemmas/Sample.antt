-- The computed set with a feed: its delivered lists are read back, after any number of cycles.
use Rattle.std.proofs.Common.{ℕ, List, [], ◌∷◌}
use Rattle.prem_tasks.specs.Compiled.{compiled}
use Rattle.prem_mail.specs.declared.feed.Feed.{Feed}
use Rattle.prem_exec.specs.Sources.There.{run_text_of}
use Rattle.prem_running.specs.Mail.Mail.{delivered_at}
use Rattle.prem_running.specs.Mail.Again.{AreReadBack}
use Rattle.prem_running.proofs.MailLemmas.Again.{deliveries_are_read_back}
use Rattle.prem_running.proofs.RunSoundLemmas.Sample.{echoing, echoing_breaks_nothing, echoing_values, run_text, read, run_is_read}

-- of the line to which a request of the run file puts a word
abbrev feeds : List Feed
feeds = record { device = 0; line = 1; task = 0 } ∷ []

echoing_is_read_back : (n : ℕ) → AreReadBack echoing run_text read (delivered_at (compiled echoing).image (run_text_of read) feeds n).lists
echoing_is_read_back n = deliveries_are_read_back echoing run_text read feeds n echoing_values echoing_breaks_nothing run_is_read
