-- What holds of sound images holds of their runs with feeds.
use Rattle.std.specs.Prelude.{◌≡◌, ℕ, ◌≤◌, true, List}
use Rattle.prem_lru.specs.Entries.{ReplacementRule}
use Rattle.prem_gate.specs.declared.request.Request.{Request}
use Rattle.prem_cycle.specs.State.{Setup}
use Rattle.prem_cycle.specs.Cycle.{is_finished}
use Rattle.prem_cycle.specs.Inputs.{FitsRun}
use Rattle.prem_cycle.specs.Run.{run_of}
use Rattle.prem_sound.specs.Script.Scripts.{Promise}
use Rattle.prem_sound.specs.Serve.Requests.{PutWords}
use Rattle.prem_sound.specs.Good.{Good}
use Rattle.prem_sound.specs.Sound.{AreInputs, Sound}
use Rattle.prem_mail.specs.declared.feed.Feed.{Feed}
use Rattle.prem_mail.specs.Delivery.{delivered_in}

-- the lists that are delivered within n cycles are lists of input words; the state of the run on them is then good, and from the limit on the run has finished
pub record IsGoodRun (rule : ReplacementRule) (p : Setup) (content : List ℕ) (promises : List (List ℕ) → ℕ → Promise) (limit : ℕ)
    (lists : List (List ℕ)) (requests : List Request) (n : ℕ) : Type 0 where
  pub inputs : AreInputs p lists
  pub good : Good rule p content lists requests (promises lists) n
  pub finished : limit ≤ n → is_finished (run_of rule p content lists requests n) ≡ true

abbrev pub MailedRunsAreGood : Type 0
MailedRunsAreGood =
    (rule : ReplacementRule) (p : Setup) (content : List ℕ) (promises : List (List ℕ) → ℕ → Promise) (limit : ℕ) (inputs : List (List ℕ)) (requests : List Request) (feeds : List Feed) (n : ℕ) →
    Sound rule p content promises limit → AreInputs p inputs → FitsRun p inputs requests → PutWords requests →
    IsGoodRun rule p content promises limit (delivered_in rule p content inputs requests feeds n).lists requests n
