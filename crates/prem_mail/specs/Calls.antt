-- Calls of a run in memory one behind the other.
use Rattle.std.specs.Prelude.{◌≡◌, ℕ, ◌-◌, ◌≤◌}
use Rattle.prem_cycle.specs.State.{rule_in}
use Rattle.prem_mail.specs.Mailing.{Mailing, mailed_by, with_mailed}

-- the run when it has gone on up to this cycle, or has stopped before
abbrev pub gone_to : ℕ → Mailing → Mailing
gone_to limit m = with_mailed m (mailed_by (rule_in m.setup) m.setup m.requests m.feeds (limit - m.mailed.state.now) m.mailed)

-- behind a call up to one cycle, a call up to a later one is lawful, and both together are one call up to the later one
pub record AreOneCall (first last : ℕ) (m : Mailing) : Type 0 where
  pub lawful : (gone_to first m).mailed.state.now ≤ last
  pub same : gone_to last (gone_to first m) ≡ gone_to last m

abbrev pub TwoCallsAreOne : Type 0
TwoCallsAreOne = (first last : ℕ) (m : Mailing) → m.mailed.state.now ≤ first → first ≤ last → AreOneCall first last m
