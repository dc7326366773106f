-- Until a run of two cores stops, as many cycles have passed as were taken.
use Rattle.std.proofs.Common.{◌≡◌, ℕ, zero, suc, ◌+◌, refl, ap, ◌∙◌, sym, arith, cond, Bool, true, false, List, ⊎_elim}
use Rattle.std.specs.Prelude.{is_some, ◌||◌}
use Rattle.prem_pair.proofs.Prelude.{settle_keeps, Arrivals, arrivals_at, with_now, Setup, MachineState, Turned, Request, ReplacementRule, PairState, both_finished, both_ticked, bus_for}
use Rattle.prem_pair.proofs.Prelude.{ended_in_place, first_acted, holder_at, is_pair_over, one_full, one_trapped, pair_cycle, pair_cycles, pair_run, pair_step, second_acted, Holder}
use Rattle.prem_pair.proofs.Prelude.{cases_Bool}
use Rattle.prem_pair.proofs.CyclesLemmas.PairRuns.{pair_step-goes, pair_step-stays}

-- a state that goes on has not trapped
second_false : (a b c : Bool) → (a || b || c) ≡ false → b ≡ false
second_false true b c h = absurd (let x : true ≡ false = h in cc)
second_false false true c h = absurd (let x : true ≡ false = h in cc)
second_false false false c h = refl

-- a state from which a run goes on went on before
goes_before : (rule other : ReplacementRule) (p q : Setup) (requests : List Request) (s : PairState) → is_pair_over (pair_step rule other p q requests s) ≡ false → is_pair_over s ≡ false
goes_before rule other p q requests s h =
    ⊎_elim (λ (e : is_pair_over s ≡ true). let x : true ≡ false = sym e ∙ ap is_pair_over (sym (pair_step-stays rule other p q requests s e)) ∙ h in absurd cc)
    (λ (e : is_pair_over s ≡ false). e) (cases_Bool (is_pair_over s))

-- ---- a cycle

-- behind what core 0 and core 1 have done
abbrev done : Holder → Turned → (second first acted : MachineState) → (trap trap' : Bool) → PairState
done h b second first acted trap trap' =
    cond trap (record { first = first; second = second; holder = h }) (cond trap' (record { first = ended_in_place first; second = acted; holder = h }) (both_ticked h b first acted))

-- where neither has trapped, time goes on
done_now : (h : Holder) (b : Turned) (second first acted : MachineState) (trap trap' : Bool) → is_some first.trapped ≡ trap → is_some acted.trapped ≡ trap' →
    one_trapped (done h b second first acted trap trap') ≡ false → (done h b second first acted trap trap').first.now ≡ first.now + 1
done_now h b second first acted true trap' e f untrapped = absurd (let x : true ≡ false = ap (λ t. t || is_some second.trapped) (sym e) ∙ untrapped in cc)
done_now h b second first acted false true e f untrapped =
    absurd (trapped (is_some (ended_in_place first).trapped) (is_some acted.trapped) f untrapped)
  where
    trapped : (a b : Bool) → b ≡ true → (a || b) ≡ false → ⊥
    trapped true b e h = let x : true ≡ false = h in cc
    trapped false b e h = let x : true ≡ false = sym e ∙ h in cc
done_now h b second first acted false false e f untrapped = (settle_keeps first.core.mode (with_now first (first.now + 1))).now

cycle_now : (rule other : ReplacementRule) (p q : Setup) (requests : List Request) (s : PairState) →
    one_trapped (pair_cycle rule other p q requests s) ≡ false → (pair_cycle rule other p q requests s).first.now ≡ s.first.now + 1
cycle_now rule other p q requests s untrapped =
    let a : Arrivals = arrivals_at requests s.first in
    let h : Holder = holder_at a.gates s in
    let b : Turned = bus_for h a.gates s in
    let first : MachineState = first_acted rule p h a b s in
    let second : MachineState = second_acted other q h b s in
    done_now h b s.second first second (is_some first.trapped) (is_some second.trapped) refl refl untrapped

step_now : (rule other : ReplacementRule) (p q : Setup) (requests : List Request) (s : PairState) →
    is_pair_over (pair_step rule other p q requests s) ≡ false → (pair_step rule other p q requests s).first.now ≡ s.first.now + 1
step_now rule other p q requests s h =
    let goes : pair_step rule other p q requests s ≡ pair_cycle rule other p q requests s = pair_step-goes rule other p q requests s (goes_before rule other p q requests s h) in
    let next : PairState = pair_cycle rule other p q requests s in
    let on : is_pair_over next ≡ false = ap is_pair_over (sym goes) ∙ h in
    ap (λ (x : PairState). x.first.now) goes ∙ cycle_now rule other p q requests s (second_false (both_finished next) (one_trapped next) (one_full next) on)

-- ---- a run

pub pair_run-now : (rule other : ReplacementRule) (p q : Setup) (content behind : List ℕ) (inputs others : List (List ℕ)) (requests : List Request) (n : ℕ) →
    is_pair_over (pair_run rule other p q content behind inputs others requests n) ≡ false → (pair_run rule other p q content behind inputs others requests n).first.now ≡ n
unfolding pair_cycles
pair_run-now rule other p q content behind inputs others requests zero h = refl
pair_run-now rule other p q content behind inputs others requests (suc n) h =
    let s : PairState = pair_run rule other p q content behind inputs others requests n in
    let e : s.first.now ≡ n = pair_run-now rule other p q content behind inputs others requests n (goes_before rule other p q requests s h) in
    let t : (pair_step rule other p q requests s).first.now ≡ s.first.now + 1 = step_now rule other p q requests s h in
    omega (arith, e, t)
