-- The count of faults after a call, by the call's answer: a fault is counted, and nothing else.
use Rattle.std.specs.Prelude.{ℕ, Result, Ok, Err, ⊤}
use Rattle.prem_io.specs.Counts.{counted}
use Rattle.prem_io.specs.declared.store.StoreFail.{StoreFail}
use Rattle.prem_io.specs.declared.store.StoreFail.TheVariants.{Failed}
use Rattle.prem_io.specs.declared.sink.SinkFailed.{SinkFailed}

-- after a read
abbrev pub read_faults : Result ⊤ StoreFail → ℕ → ℕ
read_faults (Err Failed) faults = counted faults
read_faults _ faults = faults

-- after a write
abbrev pub write_faults : Result ℕ SinkFailed → ℕ → ℕ
write_faults (Ok n) faults = faults
write_faults (Err e) faults = counted faults
