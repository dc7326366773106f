-- The stages joined.
use Rattle.std.proofs.Common.{◌≡◌, ℕ, List, Option, None, Some, refl, ap, ◌∙◌, sym}
use Rattle.prem_layout.specs.Rules.{Refusal}
use Rattle.prem_tasks.specs.Told.{Told}
use Rattle.prem_tasks.specs.Broken.{TaskSet, broken}
use Rattle.prem_compile.specs.declared.compiled.Compiled.{Compiled}
use Rattle.prem_compile.specs.CompiledOf.{IsCompiled}
use Rattle.prem_answer.specs.declared.answer.Telling.TheVariants.{Brief}
use Rattle.prem_answer.specs.declared.status.Status.TheVariants as status
use Rattle.prem_answer.specs.Stages.{Reply, Reads, IsFine}
use Rattle.prem_answer.specs.Tool.{IsSettled}
use Rattle.prem_exec.proofs.SourcesLemmas.Fine.{set_fine_by}
use Rattle.prem_resp.specs.Stages.{fit_reply, fit_stages, judged_reply, refused_text}
use Rattle.prem_resp.specs.Told.{text_by}
use Rattle.prem_resp.proofs.Headline.{behind_set}
use Rattle.prem_resp.proofs.LoadsAre.{text_is}

-- ---- a set

abbrev done : List ℕ → Reply
done text = (status.Done, text)

-- one that breaks no rule
pub tested_is : (set : TaskSet) (c : Compiled) (reply : Reply) → IsCompiled set c → reply ≡ (status.Done, text_by c) → reply ≡ fit_reply set
tested_is set c reply is told = told ∙ ap done (text_is set c is) ∙ ap (judged_reply set) (sym is.lawful)

-- one that breaks a rule
pub refused_is : (set : TaskSet) (refusal : Refusal Told) (reply : Reply) → broken set ≡ Some refusal → reply ≡ (status.Refused, refused_text set.tasks refusal) → reply ≡ fit_reply set
refused_is set refusal reply is told = told ∙ ap (judged_reply set) (sym is)

-- ---- every answer may be given

judged_fine : (set : TaskSet) (first : Option (Refusal Told)) → IsSettled (judged_reply set first)
judged_fine set None = refl
judged_fine set (Some refusal) = refl

pub fit_is_fine : (name : List ℕ) (reads : Reads) → IsFine IsSettled (fit_stages name reads)
fit_is_fine name reads = set_fine_by IsSettled Brief name behind_set (λ set more. judged_fine set (broken set)) reads
