-- What holds of all dumps of waves.
use Rattle.std.specs.Prelude.{ℕ, List}
use Rattle.prem_lru.specs.Entries.{ReplacementRule}
use Rattle.prem_gate.specs.declared.request.Request.{Request}
use Rattle.prem_cycle.specs.State.{Setup, MachineState}
use Rattle.prem_wave.specs.Grammar.{IsDump}
use Rattle.prem_wave.specs.Waves.{wave_text}

-- the text is a dump by the grammar
abbrev pub WavesAreDumps : Type 0
WavesAreDumps =
    (rule : ReplacementRule) (p : Setup) (requests : List Request) (s : MachineState) (from limit : ℕ) → IsDump (wave_text rule p requests s from limit)
