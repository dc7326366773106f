-- A read past the end is a want of an input word.
use Rattle.std.proofs.Common.{◌≡◌, ◌≢◌, ℕ, zero, suc, ◌<◌, refl, ap, ap₂, ◌∙◌, sym, subst, arith, cond, ⊎_elim, eq-eqb, eqb-true, Bool, true, false, List, [], ◌∷◌, Option, Some, None}
use Rattle.std.specs.Prelude.{length, ◌↔◌, ◌==◌, ◌&&◌, ◌||◌, nat_le}
use Rattle.prem_cycle.proofs.Prelude.{is_empty, CycleStep, coming_step, cycles_of, steps_of, wants_word, wants_input_of, is_past_end, has_read_past_end, Setup, MachineState, Request}
use Rattle.prem_cycle.proofs.Prelude.{ReplacementRule, cases_Bool, cases_eq, lt-leb}
use Rattle.prem_cycle.proofs.RunsLemmas.InputsLemmas.Cycles.{has_read-next, or_first, or_second}
use Rattle.prem_cycle.proofs.RunsLemmas.InputsLemmas.Turns.{past_of}

-- ---- one cycle

pub empty_is : (left : List ℕ) → is_empty left ≡ nat_le (length left) 0
empty_is [] = refl
empty_is (x ∷ left) = sym (lt-leb (length (x ∷ left)) 0 (omega arith))

pub grouped : (a b c : Bool) → (a && b && c) ≡ (a && (b && c))
grouped true b c = refl
grouped false b c = refl

pub past_is : (k : ℕ) (step : CycleStep) → is_past_end k step ≡ ((step.task == k) && (step.effect.input && nat_le (length step.before.left) 0))
past_is k step =
    grouped (step.task == k) step.effect.input (is_empty step.before.left)
    ∙ ap (λ b. (step.task == k) && (step.effect.input && b)) (empty_is step.before.left)

wanted : (k task : ℕ) (b : Bool) → cond b (Some task) None ≡ Some k → ((task == k) && b) ≡ true
wanted k task true h = let x : Some task ≡ Some k = h in let e : task ≡ k = cc in ap (λ b. b && true) (eq-eqb task k e)
wanted k task false h = absurd (let x : None ≡ Some k = h in cc)

pub and_first : (a b : Bool) → (a && b) ≡ true → a ≡ true
and_first true b h = refl
and_first false b h = h

pub and_second : (a b : Bool) → (a && b) ≡ true → b ≡ true
and_second true b h = h
and_second false b h = absurd (let x : false ≡ true = h in cc)

pub wants : (k task : ℕ) (b : Bool) → ((task == k) && b) ≡ true → cond b (Some task) None ≡ Some k
wants k task true h = ap Some (eqb-true task k (and_first (task == k) true h))
wants k task false h = absurd (let x : false ≡ true = and_second (task == k) false h in cc)

not_wanted : (k : ℕ) (o : Option CycleStep) → past_of k o ≡ false → wants_word o ≢ Some k
not_wanted k None h e = let x : None ≡ Some k = e in absurd cc
not_wanted k (Some step) h e =
    let x : false ≡ true = sym h ∙ past_is k step
    ∙ wanted k step.task (step.effect.input && nat_le (length step.before.left) 0) e in
    absurd cc

not_past : (k : ℕ) (o : Option CycleStep) → wants_word o ≢ Some k → past_of k o ≡ false
not_past k None h = refl
not_past k (Some step) h =
    ⊎_elim (λ (e : is_past_end k step ≡ true).
    absurd (h (wants k step.task (step.effect.input && nat_le (length step.before.left) 0) (sym (past_is k step) ∙ e))))
    (λ (e : is_past_end k step ≡ false). e) (cases_Bool (is_past_end k step))

-- ---- any number of cycles

none_wanted : (rule : ReplacementRule) (p : Setup) (requests : List Request) (n : ℕ) (s : MachineState) (k : ℕ) →
    has_read_past_end rule p requests n s k ≡ false → (m : ℕ) → m < n → wants_input_of rule p requests (cycles_of rule p requests m s) ≢ Some k
none_wanted rule p requests zero s k h m lt = absurd (omega arith)
none_wanted rule p requests (suc n) s k h m lt =
    let both : (has_read_past_end rule p requests n s k || past_of k (coming_step rule p requests (cycles_of rule p requests n s))) ≡ false =
    sym (has_read-next rule p requests n s k) ∙ h in
    ⊎_elim (λ (e : m ≡ n).
    subst (λ i. wants_input_of rule p requests (cycles_of rule p requests i s) ≢ Some k) (sym e) (not_wanted k (coming_step rule p requests (cycles_of rule p requests n s)) (or_second _ _ both)))
    (λ (ne : m ≢ n). none_wanted rule p requests n s k (or_first _ _ both) m (omega arith)) (cases_eq m n)

none_read : (rule : ReplacementRule) (p : Setup) (requests : List Request) (n : ℕ) (s : MachineState) (k : ℕ) →
    ((m : ℕ) → m < n → wants_input_of rule p requests (cycles_of rule p requests m s) ≢ Some k) → has_read_past_end rule p requests n s k ≡ false
unfolding steps_of
none_read rule p requests zero s k h = refl
none_read rule p requests (suc n) s k h =
    has_read-next rule p requests n s k
    ∙ ap₂ (λ a b. a || b) (none_read rule p requests n s k (λ m lt. h m (omega arith)))
    (not_past k (coming_step rule p requests (cycles_of rule p requests n s)) (h n (omega arith)))

pub reads_are_wanted : (rule : ReplacementRule) (p : Setup) (requests : List Request) (n : ℕ) (s : MachineState) (k : ℕ) →
    (has_read_past_end rule p requests n s k ≡ false) ↔ ((m : ℕ) → m < n → wants_input_of rule p requests (cycles_of rule p requests m s) ≢ Some k)
reads_are_wanted rule p requests n s k =
    (none_wanted rule p requests n s k, none_read rule p requests n s k)
