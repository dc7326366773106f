-- Notes of stretches of a run.
use Rattle.std.specs.Prelude.{nat_lt, nat_le, max, is_some, ◌||◌, ◌==◌}
use Rattle.std.proofs.Common.{◌≡◌, ℕ, zero, suc, ◌+◌, ◌-◌, ◌<◌, ◌≤◌, Bool, true, false, cond, List, [], ◌++◌, Option, Some, None, refl, ap, ap₂, sym, ◌∙◌, subst, arith, append_assoc, append-nil}
use Rattle.std.proofs.lemmas.Bool.Decides.{nat_tests}
use Rattle.prem_lru.specs.Entries.{ReplacementRule}
use Rattle.prem_gate.specs.declared.request.Request.{Request}
use Rattle.prem_cycle.specs.declared.state.Stop.{Stop}
use Rattle.prem_cycle.specs.declared.state.Stop.TheVariants.{Finished, Trap, LogFull, Limit}
use Rattle.prem_cycle.specs.declared.state.Trap.{Trap as Trapped}
use Rattle.prem_cycle.specs.State.{Setup, MachineState}
use Rattle.prem_cycle.specs.Cycle.{cycle_of, is_finished, is_full, is_over, log_size, step_of}
use Rattle.prem_cycle.specs.FactsOf.{stop_of, stop_trapped}
use Rattle.prem_cycle.specs.Run.{cycles_of}
use Rattle.prem_cycle.proofs.RunLaws.{cycles_of-add, cycles_of-over, step_of-goes, step_of-stays}
use Rattle.prem_cycle.specs.Runs.Dull.Dull.{AreDull, OnlyCounts}
use Rattle.prem_chart.specs.declared.note.Note.{Note}
use Rattle.prem_chart.specs.Notes.{goes_on, noted, notes_of}

-- ---- states between which nothing is noted

record Quiet (s t : MachineState) : Type 0 where
  start : t.core.window.start ≡ s.core.window.start
  misses : t.log.counts.misses ≡ s.log.counts.misses

none_by : {A : Type 0} (a b : Bool) (xs ys : List A) → a ≡ false → b ≡ false → cond a xs [] ++ cond b ys [] ≡ []
none_by true b xs ys h k = absurd (cc)
none_by false true xs ys h k = absurd (cc)
none_by false false xs ys h k = refl

not_less : (m n : ℕ) → n ≡ m → nat_lt m n ≡ false
not_less m n e = grind (arith, nat_tests)

quiet_noted : (s t : MachineState) → Quiet s t → noted s t ≡ []
quiet_noted s t q = none_by _ _ _ _ (not_less s.core.window.start t.core.window.start q.start) (not_less s.log.counts.misses t.log.counts.misses q.misses)

quiet_same : (s : MachineState) → Quiet s s
quiet_same s = record { start = refl; misses = refl }

quiet_then : (s t u : MachineState) → Quiet s t → Quiet t u → Quiet s u
quiet_then s t u h k = record { start = k.start ∙ h.start; misses = k.misses ∙ h.misses }

counts_quiet : (s t : MachineState) → OnlyCounts s t → Quiet s t
counts_quiet s t d = record { start = ap (λ (x : MachineState). x.core.window.start) d.same; misses = ap (λ (x : MachineState). x.log.counts.misses) d.same }

step_quiet : (rule : ReplacementRule) (p : Setup) (requests : List Request) (s : MachineState) (b : Bool) → is_over s ≡ b → OnlyCounts s (cycle_of rule p requests s) →
    Quiet s (step_of rule p requests s)
step_quiet rule p requests s true over d = subst (Quiet s) (sym (step_of-stays rule p requests s over)) (quiet_same s)
step_quiet rule p requests s false going d = subst (Quiet s) (sym (step_of-goes rule p requests s going)) (counts_quiet s (cycle_of rule p requests s) d)

-- ---- stretches

pub notes_of-add : (rule : ReplacementRule) (p : Setup) (requests : List Request) (m n : ℕ) (s : MachineState) →
    notes_of rule p requests (m + n) s ≡ notes_of rule p requests m s ++ notes_of rule p requests n (cycles_of rule p requests m s)
unfolding notes_of cycles_of
notes_of-add rule p requests m zero s =
    let e : m + 0 ≡ m = omega arith in
    ap (λ k. notes_of rule p requests k s) e ∙ sym (append-nil (notes_of rule p requests m s))
notes_of-add rule p requests m (suc n) s =
    let e : m + suc n ≡ suc (m + n) = omega arith in
    let t = cycles_of rule p requests m s in
    ap (λ k. notes_of rule p requests k s) e
    ∙ ap (λ u. notes_of rule p requests (m + n) s ++ noted u (step_of rule p requests u)) (cycles_of-add rule p requests m n s)
    ∙ ap (λ xs. xs ++ noted (cycles_of rule p requests n t) (step_of rule p requests (cycles_of rule p requests n t))) (notes_of-add rule p requests m n s)
    ∙ append_assoc (notes_of rule p requests m s) (notes_of rule p requests n t) (noted (cycles_of rule p requests n t) (step_of rule p requests (cycles_of rule p requests n t)))

pub notes_of-over : (rule : ReplacementRule) (p : Setup) (requests : List Request) (n : ℕ) (s : MachineState) → is_over s ≡ true → notes_of rule p requests n s ≡ []
unfolding notes_of cycles_of
notes_of-over rule p requests zero s h = refl
notes_of-over rule p requests (suc n) s h =
    ap₂ (λ (a b : List Note). a ++ b) (notes_of-over rule p requests n s h)
    (ap (λ u. noted u (step_of rule p requests u)) (cycles_of-over rule p requests n s h) ∙ ap (noted s) (step_of-stays rule p requests s h) ∙ quiet_noted s s (quiet_same s))

-- over dull cycles
record Passed (rule : ReplacementRule) (p : Setup) (requests : List Request) (n : ℕ) (s : MachineState) : Type 0 where
  quiet : Quiet s (cycles_of rule p requests n s)
  none : notes_of rule p requests n s ≡ []

dull_passed : (rule : ReplacementRule) (p : Setup) (requests : List Request) (n : ℕ) (s : MachineState) → AreDull rule p requests n s → Passed rule p requests n s
unfolding notes_of cycles_of
dull_passed rule p requests zero s dull = record { quiet = quiet_same s; none = refl }
dull_passed rule p requests (suc n) s dull =
    let before = dull_passed rule p requests n s (λ m less. dull m (omega (arith, less))) in
    let u = cycles_of rule p requests n s in
    let last = step_quiet rule p requests u (is_over u) refl (dull n (omega arith)) in
    record {
      quiet = quiet_then s u (step_of rule p requests u) before.quiet last;
      none = ap₂ (λ (a b : List Note). a ++ b) before.none (quiet_noted u (step_of rule p requests u) last);
    }

one_cycle : (rule : ReplacementRule) (p : Setup) (requests : List Request) (s : MachineState) → notes_of rule p requests 1 s ≡ noted s (cycles_of rule p requests 1 s)
unfolding notes_of cycles_of
one_cycle rule p requests s = refl

turn_by : (rule : ReplacementRule) (p : Setup) (requests : List Request) (s : MachineState) (at event to : ℕ) (b : Bool) → nat_le event (at + 1) ≡ b → s.now ≡ at →
    AreDull rule p requests (event - s.now) s → to ≡ max event (at + 1) → notes_of rule p requests (to - at) s ≡ noted s (cycles_of rule p requests (to - at) s)
turn_by rule p requests s at event to true le now dull is =
    let short : event ≤ at + 1 = grind (arith, nat_tests) in
    let one : to - at ≡ 1 = omega arith in
    subst (λ n. notes_of rule p requests n s ≡ noted s (cycles_of rule p requests n s)) (sym one) (one_cycle rule p requests s)
turn_by rule p requests s at event to false le now dull is =
    let long : at + 1 < event = grind (arith, nat_tests) in
    let same : event - s.now ≡ to - at = omega arith in
    let h = dull_passed rule p requests (event - s.now) s dull in
    let P : ℕ → Type 0 = λ n. notes_of rule p requests n s ≡ noted s (cycles_of rule p requests n s) in
    subst P same (h.none ∙ sym (quiet_noted s _ h.quiet))

-- what is noted in one turn is what the states at both ends show
pub turn_is : (rule : ReplacementRule) (p : Setup) (requests : List Request) (s : MachineState) (at event to : ℕ) → s.now ≡ at →
    AreDull rule p requests (event - s.now) s → to ≡ max event (at + 1) → notes_of rule p requests (to - at) s ≡ noted s (cycles_of rule p requests (to - at) s)
turn_is rule p requests s at event to now dull is = turn_by rule p requests s at event to (nat_le event (at + 1)) refl now dull is

-- ---- where a run comes to its limit

pub record AtLimit (at : ℕ) (s : MachineState) : Type 0 where
  pub going : is_over s ≡ false
  pub now : s.now ≡ at

limit_by : (finished : Bool) (trapped : Option Trapped) (full last : Bool) →
    Some Limit ≡ cond finished (Some Finished) (stop_trapped trapped (cond full (Some (LogFull log_size)) (cond last (Some Limit) None))) →
    ((finished || is_some trapped || full) ≡ false) × (last ≡ true)
limit_by true trapped full last e = absurd (cc)
limit_by false (Some t) full last e = absurd (cc)
limit_by false None true last e = absurd (cc)
limit_by false None false true e = (refl, refl)
limit_by false None false false e = absurd (cc)

pub at_limit : (at : ℕ) (s : MachineState) → Some Limit ≡ stop_of at s → AtLimit at s
at_limit at s e =
    let h = limit_by (is_finished s) s.trapped (is_full s) (s.now == at) e in
    let last : (s.now == at) ≡ true = h.1 in
    record { going = h.0; now = grind (arith, nat_tests) }

pub limit_is : (stop : Stop) → goes_on stop ≡ true → stop ≡ Limit
limit_is Finished e = absurd (cc)
limit_is (Trap task pc cause) e = absurd (cc)
limit_is (LogFull n) e = absurd (cc)
limit_is Limit e = refl
