-- What is noted of a run, by the states of its machine: when phases and idle time begin, and when the cache is missed.
use Rattle.std.specs.Prelude.{ℕ, zero, suc, nat_lt, Bool, true, false, if◌then◌else◌, List, [], ◌∷◌, ◌++◌}
use Rattle.prem_lru.specs.Entries.{ReplacementRule}
use Rattle.prem_gate.specs.declared.request.Request.{Request}
use Rattle.prem_gate.specs.declared.bus.Window.{Window}
use Rattle.prem_cycle.specs.declared.state.Mode.{Mode}
use Rattle.prem_cycle.specs.declared.state.Mode.TheVariants.{Point, Switching, Running, Idle}
use Rattle.prem_cycle.specs.declared.state.Stop.{Stop}
use Rattle.prem_cycle.specs.declared.state.Stop.TheVariants.{Finished, Trap, LogFull, Limit}
use Rattle.prem_cycle.specs.State.{Setup, MachineState}
use Rattle.prem_cycle.specs.Run.{cycles_of}
use Rattle.prem_chart.specs.declared.note.Note.{Note}
use Rattle.prem_chart.specs.declared.note.Note.TheVariants.{Phase, Rest, Miss}

-- what begins with a window for transfers: an execution phase where a task runs, or else idle time
abbrev pub opened : Mode → Window → Note
opened Point w = Rest w
opened (Switching k left) w = Rest w
opened (Running k) w = Phase k w
opened (Idle until) w = Rest w

-- a window that opened behind one that opened at `before`
abbrev pub windows_noted : (before : ℕ) → Mode → Window → List Note
windows_noted before mode w = if nat_lt before w.start then opened mode w ∷ [] else []

abbrev pub missed : Mode → (cycle : ℕ) → List Note
missed Point cycle = []
missed (Switching k left) cycle = []
missed (Running k) cycle = Miss k cycle ∷ []
missed (Idle until) cycle = []

-- where the count of misses has grown in this cycle
abbrev pub misses_noted : (before misses : ℕ) → Mode → (cycle : ℕ) → List Note
misses_noted before misses mode cycle = if nat_lt before misses then missed mode cycle else []

-- from one state to another
abbrev pub noted : MachineState → MachineState → List Note
noted s t =
    windows_noted s.core.window.start t.core.mode t.core.window ++ misses_noted s.log.counts.misses t.log.counts.misses t.core.mode s.now

-- what is noted in n cycles from a state, cycle by cycle
unfoldable pub notes_of : ReplacementRule → Setup → List Request → ℕ → MachineState → List Note
notes_of rule p requests zero s = []
notes_of rule p requests (suc n) s =
    notes_of rule p requests n s ++ noted (cycles_of rule p requests n s) (cycles_of rule p requests (suc n) s)

-- whether a run that stopped so went on when it came to its limit
abbrev pub goes_on : Stop → Bool
goes_on Finished = false
goes_on (Trap task pc cause) = false
goes_on (LogFull n) = false
goes_on Limit = true
