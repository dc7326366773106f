-- Runs up to where a word may come to a task.
use Rattle.std.specs.Prelude.{◌≡◌, ℕ, ◌+◌, ◌≤◌, ◌<◌, None, Some}
use Rattle.prem_machine.specs.Prelude.{stop_of, cycles_of, wants_input_of, rule_in}
use Rattle.prem_machine.specs.Silent.{ended_so_far}
use Rattle.prem_machine.specs.States.{Running, with_state}
use Rattle.prem_machine.specs.declared.machine.deliveries.DeliveryHalt.{DeliveryHalt}
use Rattle.prem_machine.specs.declared.machine.deliveries.DeliveryHalt.TheVariants.{Stops, Wants, Ended}

-- some cycles lead from one machine to another, up to a limit: none of them begins where an input word is wanted that isn't
-- there, or where so many transfers have ended
pub record RunsSilently (limit transfers : ℕ) (from m : Running) : Type 0 where
  pub cycles : ℕ
  pub state : m ≡ with_state from (cycles_of (rule_in from.setup) from.setup from.requests cycles from.state)
  pub within : from.state.now + cycles ≤ limit
  pub later : from.state.now ≤ m.state.now
  pub passed : m.state.now ≤ from.state.now + cycles
  pub time : m.state.trapped ≡ None → m.state.now ≡ from.state.now + cycles
  pub wanted : (k : ℕ) → k < cycles →
      wants_input_of (rule_in from.setup) from.setup from.requests (cycles_of (rule_in from.setup) from.setup from.requests k from.state) ≡ None
  pub ended : (k : ℕ) → k < cycles → ended_so_far (cycles_of (rule_in from.setup) from.setup from.requests k from.state) < transfers

-- why they end there
abbrev pub HaltsBy : (limit transfers : ℕ) → Running → DeliveryHalt → Type 0
HaltsBy limit transfers m (Stops stop) = stop_of limit m.state ≡ Some stop
HaltsBy limit transfers m Ended = (stop_of limit m.state ≡ None) × (transfers ≤ ended_so_far m.state)
HaltsBy limit transfers m (Wants k) =
    (stop_of limit m.state ≡ None) × (ended_so_far m.state < transfers)
    × (wants_input_of (rule_in m.setup) m.setup m.requests m.state ≡ Some k)
