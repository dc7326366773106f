-- Words, and a small dump, worked out.
use Rattle.std.specs.Prelude.{codes}
use Rattle.std.specs.Fmt.{digits}
use Rattle.std.proofs.Common.{◌≡◌, ℕ, zero, suc, List, [], ◌∷◌, Option, Some, None, refl}
use Rattle.prem_wave.specs.declared.words.TheConstants.{CORE_BACK, CORE_FILL, COMPATIBLE, DEVICE, DONE, EXECUTION, FREE, GET, MEMORY, PUT, RELEASED, SWITCH, WAIT}
use Rattle.prem_wave.specs.Dump.{last_of, moments_of, moments_text}
use Rattle.prem_wave.specs.Reading.{number_told, value_in}
use Rattle.prem_wave.specs.Signals.{spelled}

row_done : DONE ≡ spelled (codes "done")
row_done = refl

row_released : RELEASED ≡ spelled (codes "released")
row_released = refl

row_switch : SWITCH ≡ spelled (codes "switch")
row_switch = refl

row_compatible : COMPATIBLE ≡ spelled (codes "compat")
row_compatible = refl

row_memory : MEMORY ≡ spelled (codes "memory")
row_memory = refl

row_execution : EXECUTION ≡ spelled (codes "exec")
row_execution = refl

row_wait : WAIT ≡ spelled (codes "wait")
row_wait = refl

row_free : FREE ≡ spelled (codes "free")
row_free = refl

row_core_fill : CORE_FILL ≡ spelled (codes "corefill")
row_core_fill = refl

row_core_back : CORE_BACK ≡ spelled (codes "coreback")
row_core_back = refl

row_device : DEVICE ≡ spelled (codes "device")
row_device = refl

row_put : PUT ≡ spelled (codes "put")
row_put = refl

row_get : GET ≡ spelled (codes "get")
row_get = refl

-- two signals in three cycles, of which the last one brings another value of the first
abbrev sample : ℕ → List (Option ℕ)
sample zero = Some 1 ∷ None ∷ []
sample (suc zero) = Some 1 ∷ None ∷ []
sample (suc (suc n)) = Some 5 ∷ None ∷ []

row_all : moments_text (moments_of sample 0 3) ≡ codes "#0\nb1 0\nbz 1\n#2\nb101 0\n"
unfolding moments_of last_of digits
row_all = refl

-- from another cycle on
row_later : moments_text (moments_of sample 1 3) ≡ codes "#1\nb1 0\nbz 1\n#2\nb101 0\n"
unfolding moments_of last_of digits
row_later = refl

-- ---- what a reader finds

-- a dump with other codes than numbers
abbrev foreign : List ℕ
foreign = codes "$scope module top $end\n$var wire 8 ! speed $end\n$var wire 1 %a on $end\n$upscope $end\n$enddefinitions $end\n#3\nb1 !\nbz %a\n#7\nb101 !\n#9\nb0 %a\n#20\n"

row_before : value_in 0 2 foreign ≡ None
row_before = refl

row_first : value_in 0 3 foreign ≡ Some (codes "1")
row_first = refl

row_stays : value_in 0 6 foreign ≡ Some (codes "1")
row_stays = refl

row_changes : value_in 0 7 foreign ≡ Some (codes "101")
row_changes = refl

row_absent : value_in 1 8 foreign ≡ Some (codes "z")
row_absent = refl

row_last : value_in 1 19 foreign ≡ Some (codes "0")
row_last = refl

row_undeclared : value_in 2 19 foreign ≡ None
row_undeclared = refl

row_number : number_told (codes "101") ≡ Some 5
row_number = refl

row_no_number : number_told (codes "z") ≡ None
row_no_number = refl
