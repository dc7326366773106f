-- The same run as it goes: words come to the tasks of its state.
use Rattle.std.specs.Prelude.{ℕ, zero, suc, List, Option, None, Some, if◌then◌else◌}
use Rattle.prem_lru.specs.Entries.{ReplacementRule}
use Rattle.prem_gate.specs.declared.request.Request.{Request}
use Rattle.prem_gate.specs.declared.bus.Transfer.{Transfer}
use Rattle.prem_cycle.specs.State.{Setup, MachineState}
use Rattle.prem_cycle.specs.Cycle.{step_of}
use Rattle.prem_cycle.specs.FactsOf.{with_input}
use Rattle.prem_cycle.specs.Run.{wants_input_of}
use Rattle.prem_cycle.specs.Runs.Inputs.Extended.{with_word_for}
use Rattle.prem_mail.specs.declared.feed.Feed.{Feed}
use Rattle.prem_mail.specs.Delivery.{Delivery, with_lists, with_lost, has_room, receiver, ended_between}

-- the state of the machine, and what was delivered to it
pub record Mailed : Type 0 where
  pub state : MachineState
  pub mail : Delivery

-- a word comes to a task
abbrev pub with_mail : ℕ → ℕ → Mailed → Mailed
with_mail k word m = record { state = with_input k word m.state; mail = with_lists m.mail (with_word_for k word m.mail.lists) }

abbrev pub without_mail : ℕ → Mailed → Mailed
without_mail k m = record { state = m.state; mail = with_lost m.mail k }

-- before a cycle
abbrev pub supplied_to : Option ℕ → Mailed → Mailed
supplied_to None m = m
supplied_to (Some k) m = if has_room k m.mail.lists then with_mail k 0 m else m

-- behind it
abbrev pub handed_to : Option ℕ → ℕ → Mailed → Mailed
handed_to None value m = m
handed_to (Some k) value m = if has_room k m.mail.lists then with_mail k value m else without_mail k m

abbrev pub received_by : List Feed → Option Transfer → Mailed → Mailed
received_by feeds None m = m
received_by feeds (Some t) m = handed_to (receiver feeds t) t.value m

abbrev pub cycled : ReplacementRule → Setup → List Request → Mailed → Mailed
cycled rule p requests m = record { state = step_of rule p requests m.state; mail = m.mail }

-- a cycle, with what comes before it
abbrev pub stepped : ReplacementRule → Setup → List Request → Mailed → Mailed
stepped rule p requests m = cycled rule p requests (supplied_to (wants_input_of rule p requests m.state) m)

-- and what comes behind it
abbrev pub mail_step : ReplacementRule → Setup → List Request → List Feed → Mailed → Mailed
mail_step rule p requests feeds m =
    let next : Mailed = stepped rule p requests m in received_by feeds (ended_between m.state next.state) next

-- n cycles
unfoldable pub mailed_by : ReplacementRule → Setup → List Request → List Feed → ℕ → Mailed → Mailed
mailed_by rule p requests feeds zero m = m
mailed_by rule p requests feeds (suc n) m = mail_step rule p requests feeds (mailed_by rule p requests feeds n m)

-- ---- a run in memory

-- what the run never changes, the requests and feeds of its devices, and how far it is
pub record Mailing : Type 0 where
  pub setup : Setup
  pub requests : List Request
  pub feeds : List Feed
  pub mailed : Mailed

abbrev pub setup_in : Mailing → Setup
setup_in m = m.setup

abbrev pub requests_in : Mailing → List Request
requests_in m = m.requests

abbrev pub feeds_in : Mailing → List Feed
feeds_in m = m.feeds

abbrev pub mailed_in : Mailing → Mailed
mailed_in m = m.mailed

abbrev pub state_in : Mailing → MachineState
state_in m = m.mailed.state

abbrev pub with_mailed : Mailing → Mailed → Mailing
with_mailed m mailed = record { setup = m.setup; requests = m.requests; feeds = m.feeds; mailed = mailed }
