-- Two cores, computed: a wrong number anywhere is refused.
use Rattle.std.proofs.Common.{◌≡◌, ℕ, List, [], ◌∷◌, refl, Option, Some}
use Rattle.prem_pair.proofs.Prelude.{bytes_in, marked, without_prefetch, alone, device, put, Report, report_of, Setup, Counts, rule_in, DeviceFacts, Transfer, Request, PairState}
use Rattle.prem_pair.proofs.Prelude.{pair_cycles, pair_run, pair_stop_of, Holder, Nobody, Second, PairStop, Finished, Limit}
use Rattle.prem_cycle.proofs.RowsPolicies.{back_and_forth, two_lines}
use Rattle.prem_cycle.proofs.Told.{task_told, compatible, predictable, counted, carried, gate}
use Rattle.prem_cycle.specs.declared.facts.EndedInterval.{EndedInterval}
use Rattle.prem_isa.specs.declared.effect.Cause.TheVariants.{Decode}
use Rattle.prem_pair.specs.declared.cycles.state.PairStop.TheVariants.{Trap}
use Rattle.prem_plant.specs.declared.plant.Replacement.TheVariants.{Lru, Fifo}

-- n cycles of a run on these words, without input words
abbrev pub pair : Setup → Setup → (first second : List ℕ) → List Request → ℕ → PairState
pair p q first second requests n = pair_run (rule_in p) (rule_in q) p q (bytes_in first) (bytes_in second) [] [] requests n

-- the cycles so far, why a run up to a limit stops, who holds the token, and all facts of both cores
abbrev pair_told : ℕ → PairState → ℕ × Option PairStop × Holder × Report × Report
pair_told limit s = (s.first.now, pair_stop_of limit s, s.holder, report_of s.first, report_of s.second)

-- ---- the same marked function on both cores

abbrev pub same_set : Setup
same_set = alone 304 1 304 []

-- core 0 goes first, and core 1 begins while the execution phase of core 0 needs no bus; the last interval of core 0 waits
-- for the memory phase of core 1
row_two_cores : pair_told 2000 (pair same_set same_set marked marked [] 1030)
    ≡ (
      1030,
      Some Finished,
      Nobody,
      record { tasks = task_told (7 ∷ []) 1 ∷ []; intervals = compatible 20 71 ∷ predictable 111 491 491 ∷ compatible 790 23 ∷ []; transfers = []; devices = []; counts = counted 128 19 0 0 0 },
      record { tasks = task_told (7 ∷ []) 1 ∷ []; intervals = compatible 405 71 ∷ predictable 496 491 491 ∷ compatible 1007 23 ∷ []; transfers = []; devices = []; counts = counted 128 19 0 0 0 },
    )
unfolding pair_cycles
row_two_cores = refl

-- ---- each with its own policy

abbrev counts_told : PairState → Counts × Counts
counts_told s = (s.first.log.counts, s.second.log.counts)

row_own_policies : counts_told (pair (two_lines Lru) (two_lines Fifo) back_and_forth back_and_forth [] 250) ≡ (counted 2 3 0 0 0, counted 1 4 0 0 0)
unfolding pair_cycles
row_own_policies = refl

-- ---- the gates

abbrev with_device : Setup
with_device = alone 368 1 304 (device 40 304 ∷ [])

abbrev gates_told : PairState → ℕ × Holder × List Transfer × List DeviceFacts
gates_told s = (s.first.now, s.holder, (report_of s.first).transfers, (report_of s.first).devices)

-- a request waits while a core holds the token or asks for it: its transfer begins when core 0 has ended and core 1 executes
row_gates_last : gates_told (pair with_device same_set marked marked (put 30 0 0 5 ∷ []) 853)
    ≡ (853, Nobody, carried 813 (put 30 0 0 5) 5 ∷ [], gate 0 0 ∷ [])
unfolding pair_cycles
row_gates_last = refl

abbrev second_told : PairState → ℕ × Option PairStop × List Transfer × List EndedInterval
second_told s = (s.first.now, pair_stop_of 2000 s, (report_of s.first).transfers, (report_of s.second).intervals)

-- a core at a scheduling point waits for a transfer that has begun
row_core_waits : second_told (pair with_device same_set marked marked (put 970 0 0 5 ∷ []) 2000)
    ≡ (1053, Some Finished, carried 970 (put 970 0 0 5) 5 ∷ [], compatible 405 71 ∷ predictable 496 491 491 ∷ compatible 1030 23 ∷ [])
unfolding pair_cycles
row_core_waits = refl

-- ---- images that no compiler made

abbrev both_told : PairState → ℕ × Option PairStop × Holder × List EndedInterval × Counts × List EndedInterval × Counts
both_told s = (s.first.now, pair_stop_of 2000 s, s.holder, (report_of s.first).intervals, (report_of s.first).counts, (report_of s.second).intervals, (report_of s.second).counts)

-- without its prefetch core 0 misses in its execution phase, without the token: it waits, and does not pay; each cycle in which
-- core 1 has the bus is a clash
row_core_starves : both_told (pair same_set same_set without_prefetch marked [] 2000)
    ≡ (2000, Some Limit, Nobody, compatible 20 71 ∷ [], counted 93 17 1 190 0, compatible 368 71 ∷ predictable 459 491 491 ∷ compatible 970 23 ∷ [], counted 128 19 0 0 0)
unfolding pair_cycles
row_core_starves = refl

-- core 1 traps in its first instruction
row_second_traps : both_told (pair same_set (alone 16 1 16 []) marked (0 ∷ []) [] 2000)
    ≡ (405, Some (Trap 1 0 0 Decode), Second, compatible 20 71 ∷ [], counted 118 18 0 0 0, [], counted 0 0 0 0 0)
unfolding pair_cycles
row_second_traps = refl
