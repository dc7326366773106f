-- A run in memory that goes on through cycles in which no word comes to a task.
use Rattle.std.specs.Prelude.{◌≡◌, ℕ, ◌+◌, ◌≤◌, List, [], ◌∷◌, Option, None, Some, Result, Ok, Err}
use Rattle.prem_cycle.specs.declared.state.Stop.{Stop}
use Rattle.prem_cycle.specs.State.{rule_in}
use Rattle.prem_cycle.specs.FactsOf.{stop_of}
use Rattle.prem_cycle.specs.Run.{wants_input_of}
use Rattle.prem_machine.specs.States.{Running}
use Rattle.prem_mail.specs.declared.feed.Feed.{Feed}
use Rattle.prem_mail.specs.Mailing.{Mailing, mailed_by, with_mailed}

-- its machine
abbrev pub machine_in : Mailing → Running
machine_in m = record { setup = m.setup; requests = m.requests; state = m.mailed.state }

-- with its machine at another place
abbrev pub with_machine : Mailing → Running → Mailing
with_machine m r = record { setup = r.setup; requests = r.requests; feeds = m.feeds; mailed = record { state = r.state; mail = m.mailed.mail } }

-- behind so many ended transfers, how many have to have ended before a value can come to a task
abbrev pub awaited : List Feed → ℕ → ℕ
awaited [] before = 18446744073709551615
awaited (f ∷ feeds) before = before + 1

-- some cycles lead from one run to another, up to a limit
pub record GoesBy (limit : ℕ) (from m : Mailing) : Type 0 where
  pub cycles : ℕ
  pub mailed : m ≡ with_mailed from (mailed_by (rule_in from.setup) from.setup from.requests from.feeds cycles from.mailed)
  pub within : from.mailed.state.now + cycles ≤ limit
  pub later : from.mailed.state.now ≤ m.mailed.state.now
  pub passed : m.mailed.state.now ≤ from.mailed.state.now + cycles
  pub time : m.mailed.state.trapped ≡ None → m.mailed.state.now ≡ from.mailed.state.now + cycles

-- why a run that is to go up to a limit stops here, or the task that wants an input word in the coming cycle, if one does
abbrev pub TellsNext : ℕ → Mailing → Result (Option ℕ) Stop → Type 0
TellsNext limit m (Err stop) = stop_of limit m.mailed.state ≡ Some stop
TellsNext limit m (Ok wanted) =
    (stop_of limit m.mailed.state ≡ None) × (wanted ≡ wants_input_of (rule_in m.setup) m.setup m.requests m.mailed.state)
