-- What the law of this crate says.
use Rattle.std.specs.Prelude.{◌≡◌, ℕ, List}
use Rattle.prem_lru.specs.Entries.{ReplacementRule}
use Rattle.prem_gate.specs.declared.request.Request.{Request}
use Rattle.prem_cycle.specs.State.{Setup, start_of}
use Rattle.prem_cycle.specs.Inputs.{FitsRun}
use Rattle.prem_cycle.specs.Run.{memory_of, run_of}
use Rattle.prem_mail.specs.declared.feed.Feed.{Feed}
use Rattle.prem_mail.specs.Delivery.{at_first, delivered_in}
use Rattle.prem_mail.specs.Mailing.{Mailed, mailed_by}

-- the run as it begins
abbrev pub mailed_first : Setup → (content : List ℕ) (inputs : List (List ℕ)) → Mailed
mailed_first p content inputs = record { state = start_of p inputs (memory_of p content); mail = at_first p inputs }

-- what comes of it in n cycles
abbrev pub mailed_run : ReplacementRule → Setup → (content : List ℕ) (inputs : List (List ℕ)) (requests : List Request) → List Feed → ℕ → Mailed
mailed_run rule p content inputs requests feeds n = mailed_by rule p requests feeds n (mailed_first p content inputs)

-- within n cycles it delivers what is defined, and its state is then that of the run on the delivered lists, which has had them from the start
pub record IsRun (rule : ReplacementRule) (p : Setup) (content : List ℕ) (inputs : List (List ℕ)) (requests : List Request) (feeds : List Feed) (n : ℕ) : Type 0 where
  pub mail : (mailed_run rule p content inputs requests feeds n).mail ≡ delivered_in rule p content inputs requests feeds n
  pub state : (mailed_run rule p content inputs requests feeds n).state ≡ run_of rule p content (delivered_in rule p content inputs requests feeds n).lists requests n
  pub fits : FitsRun p (delivered_in rule p content inputs requests feeds n).lists requests

abbrev pub MailedRunsAreRuns : Type 0
MailedRunsAreRuns =
    (rule : ReplacementRule) (p : Setup) (content : List ℕ) (inputs : List (List ℕ)) (requests : List Request) (feeds : List Feed) (n : ℕ) →
    FitsRun p inputs requests → IsRun rule p content inputs requests feeds n
