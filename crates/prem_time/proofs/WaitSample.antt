-- The set of two tasks, computed: where its device asks each 5000 cycles, each of its requests is transferred within 1198 cycles.
use Rattle.std.specs.Prelude.{All, codes}
use Rattle.std.proofs.Common.{◌≡◌, refl, ap, ◌∙◌, ℕ, zero, suc, arith, List, [], ◌∷◌, length, Some}
use Rattle.prem_resp.specs.declared.busy.length.Busy.{Busy}
use Rattle.prem_resp.specs.declared.busy.length.Busy.TheVariants.{Within}
use Rattle.prem_resp.specs.declared.busy.load.Load.{Load}
use Rattle.prem_sets_sound.proofs.ImagePremisesLemmas.Sample.{sample, sample_values, sample_breaks_nothing}
use Rattle.prem_latency.proofs.WcetLemmas.Sample.{sample_closed}
use Rattle.prem_tasks.specs.Compiled.{placed_in}
use Rattle.prem_latency.specs.declared.wait.Asking.{Asking}
use Rattle.prem_latency.specs.declared.wait.Closing.{Closing}
use Rattle.prem_latency.specs.Wait.{IsAsking, IsClosing, wait_of}
use Rattle.prem_latency.proofs.Found.{found_once, wait_found, wait_is}
use Rattle.prem_time.specs.declared.devices.Named.{Named}
use Rattle.prem_time.specs.Words.{Distance, most_cycles}
use Rattle.prem_time.specs.Times.{loads_in}
use Rattle.prem_time.specs.Devices.{closed_to, wait_by, wait_in}
use Rattle.prem_time.specs.Fits.{ServesInTime}
use Rattle.prem_time.proofs.Sample.{loads, sample_found, sample_loads}
use Rattle.prem_time.proofs.Serving.{sets_serve_named}

abbrev pub distances : List Distance
distances = record { device = codes "net"; every = 5000 } ∷ []

abbrev net_named : Named
net_named = record { number = 0; every = 5000 }

abbrev asks : List Asking
asks = record { cost = 60; every = 5000 } ∷ []

abbrev closes : List Closing
closes = record { period = 20000; length = 2485; closed = 963 } ∷ record { period = 50000; length = 2485; closed = 175 } ∷ []

all_ask : All IsAsking asks
all_ask zero d lt = record { every = omega arith; apart = omega arith; cost = omega arith }
all_ask (suc k) d lt = absurd (omega (arith, lt))

all_close : All IsClosing closes
all_close zero d lt = record { period = omega arith; length = omega arith; closed = omega arith }
all_close (suc zero) d lt = record { period = omega arith; length = omega arith; closed = omega arith }
all_close (suc (suc k)) d lt = absurd (omega (arith, lt))

wait_there : wait_of asks closes 0 most_cycles ≡ Some 1198
wait_there = found_once asks closes 0 most_cycles (wait_of asks closes 0 most_cycles) (Some 1198) (wait_found asks closes 0 most_cycles)
    (wait_is asks closes 0 all_ask all_close 1 1198 refl (omega arith) (omega arith), omega arith)

pub sample_wait : wait_in sample distances 0 ≡ Some 1198
sample_wait =
    ap (λ (found : List Busy). wait_by asks (loads_in sample) found (closed_to sample.plant 60 (placed_in sample)) 0) sample_found
    ∙ ap (λ (ls : List Load). wait_by asks ls (Within 2485 ∷ Within 2485 ∷ []) (closed_to sample.plant 60 (placed_in sample)) 0) sample_loads
    ∙ ap (λ (closed : List ℕ). wait_by asks loads (Within 2485 ∷ Within 2485 ∷ []) closed 0) sample_closed
    ∙ wait_there

sample_serves : ServesInTime sample distances net_named 1198
sample_serves = sets_serve_named sample distances sample_values sample_breaks_nothing (record { some = omega arith; most = omega arith }, tt) 0 net_named refl 1198 sample_wait
