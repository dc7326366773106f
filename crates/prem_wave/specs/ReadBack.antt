-- What the text of a dump gives back.
use Rattle.std.specs.Prelude.{◌≡◌, ℕ, ◌+◌, ◌*◌, ◌^◌, ◌<◌, ◌≤◌, IfSome, List, Option, Some, length, slice_get}
use Rattle.prem_lru.specs.Entries.{ReplacementRule}
use Rattle.prem_gate.specs.declared.request.Request.{Request}
use Rattle.prem_cycle.specs.State.{Setup, MachineState}
use Rattle.prem_cycle.specs.Run.{cycles_of}
use Rattle.prem_wave.specs.Dump.{value_text}
use Rattle.prem_wave.specs.Reading.{number_told, value_in}
use Rattle.prem_wave.specs.Waves.{run_values, wave_text}

-- a reader of the bytes finds the signals among the variables, in their order, and in each cycle that the dump shows the value that the machine's
-- states give to each, as its digits
abbrev pub WavesAreReadBack : Type 0
WavesAreReadBack =
    (rule : ReplacementRule) (p : Setup) (requests : List Request) (s : MachineState) (from limit : ℕ) →
    3 * length p.tasks + 3 * length p.devices < 2 ^ 63 → s.now + limit < 2 ^ 64 →
    (signal n : ℕ) (value : Option ℕ) → from ≤ n → n < (cycles_of rule p requests limit s).now → slice_get (run_values rule p requests s n) signal ≡ Some value →
    value_in signal n (wave_text rule p requests s from limit) ≡ Some (value_text value)

-- and from its digits a value of 64 bits, or none
abbrev pub ValuesAreReadBack : Type 0
ValuesAreReadBack = (value : Option ℕ) → IfSome value (λ n. n < 2 ^ 64) → number_told (value_text value) ≡ value
