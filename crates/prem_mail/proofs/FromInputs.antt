-- Lemmas of prem_inputs that it doesn't export: how a cycle takes input words, and steps that aren't past the end.
use Rattle.std.specs.Prelude.{◌&&◌, nat_le}
use Rattle.std.proofs.Common.{◌≡◌, ◌≢◌, ℕ, refl, ◌∙◌, sym, ⊎_elim, true, false, Option, Some, None, length}
use Rattle.std.proofs.lemmas.Bool.{cases_Bool}
use Rattle.prem_cycle.specs.Run.{CycleStep, wants_word}
use Rattle.prem_cycle.specs.Runs.Inputs.PastEnd.{is_past_end}
use Rattle.prem_cycle.proofs.RunsLemmas.InputsLemmas.Turns.{past_of}
use Rattle.prem_cycle.proofs.RunsLemmas.InputsLemmas.Wants.{past_is, wants}

-- ---- steps that are not past the end

pub not_past : (k : ℕ) (o : Option CycleStep) → wants_word o ≢ Some k → past_of k o ≡ false
not_past k None h = refl
not_past k (Some step) h =
    ⊎_elim (λ (e : is_past_end k step ≡ true).
    absurd (h (wants k step.task (step.effect.input && nat_le (length step.before.left) 0) (sym (past_is k step) ∙ e))))
    (λ (e : is_past_end k step ≡ false). e) (cases_Bool (is_past_end k step))
