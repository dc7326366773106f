-- When the window closes in a worked run, whose marked interval begins in cycle 111 and ends with cycle 601, and whose
-- transfer takes 40 cycles. A second job begins in cycle 1000.
use Rattle.std.proofs.Common.{◌≡◌, ℕ, [], ◌∷◌, refl, Some}
use Rattle.prem_cycle.proofs.Prelude.{phase_in, cycles_of, closing_at, MachineState, option_map}
use Rattle.prem_cycle.proofs.Images.{marked, alone, device, put, run}

abbrev at : ℕ → MachineState
at n = run (alone 368 2 304 (device 40 304 ∷ [])) marked (put 562 0 0 5 ∷ []) n

abbrev closing : ℕ → ℕ
closing n = closing_at (at n).now (phase_in (at n).work) (at n).core.interval (at n).core.mark (at n).core.mode

-- in the first compatible interval, in the memory phase, and in the switch behind the marked interval
in_compatible : closing 60 ≡ 60
unfolding cycles_of
in_compatible = refl

in_memory_phase : closing 300 ≡ 300
unfolding cycles_of
in_memory_phase = refl

in_switch : closing 610 ≡ 610
unfolding cycles_of
in_switch = refl

-- in the execution phase, and while the interval waits for its end
in_execution : closing 390 ≡ 602
unfolding cycles_of
in_execution = refl

in_wait : closing 601 ≡ 602
unfolding cycles_of
in_wait = refl

-- up to the second job
in_idle : closing 700 ≡ 1000
unfolding cycles_of
in_idle = refl

-- the last cycle of a transfer that ends just in time
last_carried : option_map (λ c. c.left) (at 601).gates.carried ≡ Some 1
unfolding cycles_of
last_carried = refl
