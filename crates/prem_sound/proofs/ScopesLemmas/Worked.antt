-- The worked image of a marked call, parted into scopes: its job takes 795 cycles at most, where its accesses alone give 975.
use Rattle.std.proofs.Common.{◌≡◌, ℕ, zero, suc, ◌+◌, ◌*◌, ◌≤◌, refl, ap, ◌∙◌, sym, subst, arith, true, [], ◌∷◌, ◌++◌, append-nil, length, take, drop}
use Rattle.prem_sound.proofs.Prelude.{bytes_in, marked, plant, is_finished, run_of, plain_start, plain_run, plain_steps, plain_trace, to_front, lru, one_pass, IsScoped, charges_by}
use Rattle.prem_sound.proofs.Prelude.{all_charged, IsCharged, Scope, charge_of, Strand, ends, runs, calls, dids_along, scoping_of, ChargedFrom, Script, call_at, take-append-drop}
use Rattle.prem_sound.proofs.Finishing.{scripts_finish_by_jobs}
use Rattle.prem_sound.proofs.ScopesLemmas.StrandRuns.{strands_are_charged}
use Rattle.prem_sound.proofs.ScopesLemmas.Tests.{strand_test, strand_by, charged_test, charged_by}
use Rattle.prem_sound.proofs.ScopesLemmas.Totals.{charges_sum_up}
use Rattle.prem_sound.proofs.ScriptLemmas.Tests.{below}
use Rattle.prem_sound.proofs.Worked.{setup, run, dids, script_of, worked_scripts, lru_policy, worked_is}

-- ---- the scopes

-- the start, the job up to its call, and `pm.mem`
abbrev pub first : Scope
first = record { lines = 0 ∷ 2 ∷ 3 ∷ 5 ∷ 17 ∷ 18 ∷ []; dids = take 7 dids }

-- the stub's return, the rest of the job, and `pm.done`
abbrev pub second : Scope
second = record { lines = 0 ∷ 4 ∷ 5 ∷ 16 ∷ 18 ∷ []; dids = drop 106 (drop 7 dids) }

abbrev pub strand : Strand
strand = runs first (calls (take 106 (drop 7 dids)) (runs second ends))

-- 11 cycles and 6 lines; 7 fetches and 2 stores by themselves would be 11 + 9 * 20
first_charge : charge_of (plant 4096) first ≡ 131
unfolding plain_trace plain_steps
first_charge = refl

-- 13 cycles and 5 lines, in place of 9 fetches and 2 loads
second_charge : charge_of (plant 4096) second ≡ 113
unfolding plain_trace plain_steps
second_charge = refl

-- ---- the run

count : length dids ≡ 122
unfolding plain_trace plain_steps
count = refl

ended : (plain_run run 122).ended ≡ 1
unfolding plain_steps
ended = refl

all_dids : dids_along strand ≡ dids
all_dids =
    ap (λ xs. take 7 dids ++ (take 106 (drop 7 dids) ++ xs)) (append-nil (drop 106 (drop 7 dids)))
    ∙ ap (λ xs. take 7 dids ++ xs) (take-append-drop 106 (drop 7 dids))
    ∙ take-append-drop 7 dids

abbrev pub script : Script
script = script_of (length dids)

worked_strand : strand_test (plant 4096) strand ≡ true
unfolding plain_trace plain_steps
worked_strand = refl

-- the job: 131 and 113 cycles, the call of 491 with two switches, and a switch behind it
worked_from : charged_test (plant 4096) (script_of 122) 795 131 0 0 0 strand ≡ true
unfolding plain_trace plain_steps
worked_from = refl

stated_most : (i : ℕ) → (plant 4096).switch + (call_at script i).stated ≤ 511
stated_most zero = omega arith
stated_most (suc i) = omega arith

pub worked_charged : IsScoped (plant 4096) run (scoping_of strand) × IsCharged (plant 4096) run script (charges_by (plant 4096) run (scoping_of strand)) 795 511
worked_charged =
    strands_are_charged (plant 4096) run script strand 795 131 511
    (subst (λ ds. plain_trace run (length ds) (plain_start run) ≡ ds) (sym all_dids) (ap (λ n. plain_trace run n (plain_start run)) count))
    (subst (λ ds. (plain_run run (length ds)).ended ≡ 1) (sym all_dids) (ap (λ n. (plain_run run n).ended) count ∙ ended))
    (strand_by (plant 4096) strand worked_strand)
    (subst (λ n. ChargedFrom (plant 4096) (script_of n) 795 131 0 0 0 strand) (sym count) (charged_by (plant 4096) (script_of 122) 795 131 0 0 0 strand worked_from))
    (omega arith) stated_most

-- in all
pub worked_total : all_charged (plant 4096) script run (charges_by (plant 4096) run (scoping_of strand)) script.count ≤ 795
worked_total =
    let e : (plain_run run (length dids)).ended ≡ 1 = ap (λ n. (plain_run run n).ended) count ∙ ended in
    let most : all_charged (plant 4096) script run (charges_by (plant 4096) run (scoping_of strand)) script.count ≤ 1 * 795 =
    charges_sum_up (plant 4096) run script (charges_by (plant 4096) run (scoping_of strand)) 795 511 script.count worked_charged.1 (omega (arith, e)) in
    omega arith

-- its run has finished by cycle 795
worked_finishes : (n : ℕ) → 795 ≤ n → is_finished (run_of to_front setup (bytes_in marked) [] [] n) ≡ true
worked_finishes n le =
    scripts_finish_by_jobs to_front lru one_pass setup (bytes_in marked) [] [] (λ k. below 304) (λ k. run) (λ k. script) (λ k. scoping_of strand)
    (λ k. 795) (λ k. 511) n lru_policy worked_is worked_scripts
    (λ k lt. worked_charged.0) (λ k lt. worked_charged.1) (omega (arith, le))
