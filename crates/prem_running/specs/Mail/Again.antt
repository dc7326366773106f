-- The lists that are delivered to the tasks of a set are read back from run files.
use Rattle.std.specs.Prelude.{◌≡◌, ℕ, ◌++◌, List, None, Ok}
use Rattle.prem_line.specs.Lines.{lines_of}
use Rattle.prem_tasks.specs.Broken.{TaskSet, broken}
use Rattle.prem_tasks.specs.Compiled.{compiled}
use Rattle.prem_sets_sound.specs.ImagePremises.Accepted.{HasValues}
use Rattle.prem_set.specs.Run.Run.{Gathered, with_words, run_of as lines_of_run}
use Rattle.prem_set.specs.Run.Text.{lists_text, run_text}
use Rattle.prem_set.specs.Run.ReadBack.{other_lines}
use Rattle.prem_mail.specs.declared.feed.Feed.{Feed}
use Rattle.prem_exec.specs.Sources.Sources.{names_of}
use Rattle.prem_exec.specs.Sources.There.{run_text_of}
use Rattle.prem_running.specs.Mail.Mail.{delivered_at}

-- where a run file's bytes give this, these lists and its requests are given by the run file that is written of them, and by the lines of the
-- lists before its own lines that give no input words
pub record AreReadBack (set : TaskSet) (bytes : List ℕ) (g : Gathered) (lists : List (List ℕ)) : Type 0 where
  pub anew : lines_of_run (run_text (names_of set) lists g.requests) (names_of set) ≡ Ok (with_words g lists)
  pub before_others : (rest : List ℕ) → lines_of rest ≡ other_lines (lines_of bytes) →
      lines_of_run (lists_text (names_of set).tasks lists ++ rest) (names_of set) ≡ Ok (with_words g lists)

-- so are the lists that are delivered within n cycles of a set that breaks no rule
abbrev pub DeliveriesAreReadBack : Type 0
DeliveriesAreReadBack =
    (set : TaskSet) (bytes : List ℕ) (g : Gathered) (feeds : List Feed) (n : ℕ) → HasValues set → broken set ≡ None → lines_of_run bytes (names_of set) ≡ Ok g →
    AreReadBack set bytes g (delivered_at (compiled set).image (run_text_of g) feeds n).lists
