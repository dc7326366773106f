-- What is said of a set file that isn't in its form.
use Rattle.std.proofs.Common.{◌≡◌, ◌≢◌, ℕ, List, Result, Ok, Err, refl, ap, ◌∙◌, sym}
use Rattle.prem_set.specs.SetFile.{SetData}
use Rattle.prem_set.specs.Views.{SetFails}
use Rattle.prem_set.specs.declared.fault.SetFail.{SetFail}
use Rattle.prem_set.specs.declared.fault.SetFail.TheVariants.{NotToml, Key, Kind, Value, Limit, OutOfMemory as NoMemory}
use Rattle.prem_answer.specs.declared.status.Status.TheVariants.{Refused}
use Rattle.prem_answer.specs.Stages.{Reply, IsFine}
use Rattle.prem_lint.specs.Forms.{form_text, formed}

pub stated_formed : (name bytes : List ℕ) (read : Result SetData SetFail) (set : SetData) → read ≡ Ok set → formed name bytes read ≡ Ok set
stated_formed name bytes read set is = ap (formed name bytes) is

-- a refusal that isn't want of memory is the one that reading gives
pub stated_refused : (name bytes : List ℕ) (read : Result SetData SetFail) (fail : SetFail) (reply : Reply) → fail ≢ NoMemory → SetFails fail read →
    reply ≡ (Refused, form_text name bytes fail) → formed name bytes read ≡ Err reply
stated_refused name bytes read NotToml reply other is told = ap (formed name bytes) is ∙ ap Err (sym told)
stated_refused name bytes read (Key path) reply other is told = ap (formed name bytes) is ∙ ap Err (sym told)
stated_refused name bytes read (Kind path) reply other is told = ap (formed name bytes) is ∙ ap Err (sym told)
stated_refused name bytes read (Value path) reply other is told = ap (formed name bytes) is ∙ ap Err (sym told)
stated_refused name bytes read (Limit path) reply other is told = ap (formed name bytes) is ∙ ap Err (sym told)
stated_refused name bytes read NoMemory reply other is told = absurd (other refl)

pub formed_fine : (name bytes : List ℕ) (read : Result SetData SetFail) → IsFine (λ x. Unit {0}) (formed name bytes read)
formed_fine name bytes (Ok set) = tt
formed_fine name bytes (Err fail) = refl
