-- The marked function that is worked out, on both cores: it meets what the laws ask for.
use Rattle.std.proofs.Common.{◌≡◌, ℕ, ◌≤◌, refl, arith, true, [], length}
use Rattle.prem_pair.proofs.Prelude.{bytes_in, marked, to_front, both_finished, pair_run, HasTotals, lru, one_pass}
use Rattle.prem_pair.proofs.LawsLemmas.Finishing.{pairs_finish, pairs_finish_by_totals}
use Rattle.prem_sound.proofs.ScopesLemmas.Worked.{script, strand, worked_charged, worked_total}
use Rattle.prem_sound.proofs.ScriptLemmas.Tests.{below}
use Rattle.prem_sound.proofs.Worked.{setup, run, script_of, dids, worked_scripts, lru_policy, worked_is}
use Rattle.prem_sound.specs.Scopes.Strands.{scoping_of}

-- both have finished by cycle 1950
two_finish : (n : ℕ) → 1950 ≤ n → both_finished (pair_run to_front to_front setup setup (bytes_in marked) (bytes_in marked) [] [] [] n) ≡ true
two_finish n le =
    pairs_finish to_front to_front lru lru one_pass one_pass setup setup (bytes_in marked) (bytes_in marked) [] [] [] (λ k. below 304)
    (λ k. below 304) (λ k. run) (λ k. run) (λ k. script_of (length dids)) (λ k. script_of (length dids)) n
    lru_policy lru_policy worked_is worked_is refl worked_scripts worked_scripts (omega (arith, le))

-- and by cycle 1590, parted into scopes
abbrev worked_totals : HasTotals setup (λ k. run) (λ k. script)
worked_totals = record { scopings = λ k. scoping_of strand; scoped = λ k lt. worked_charged.0; total = λ k. 795; totals = λ k lt. worked_total }

two_finish_by_charges : (n : ℕ) → 1590 ≤ n → both_finished (pair_run to_front to_front setup setup (bytes_in marked) (bytes_in marked) [] [] [] n) ≡ true
two_finish_by_charges n le =
    pairs_finish_by_totals to_front to_front lru lru one_pass one_pass setup setup (bytes_in marked) (bytes_in marked) [] [] [] (λ k. below 304)
    (λ k. below 304) (λ k. run) (λ k. run) (λ k. script) (λ k. script) n
    lru_policy lru_policy worked_is worked_is refl worked_scripts worked_scripts worked_totals worked_totals (omega (arith, le))
