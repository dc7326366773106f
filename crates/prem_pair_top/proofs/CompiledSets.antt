-- Sets in memory, compiled, and the answer to both.
use Rattle.std.proofs.Common.{◌≡◌, ℕ, List, [], Option, None, ap, ◌∙◌, sym, subst}
use Rattle.prem_list.specs.Sequence.{items_of}
use Rattle.prem_gate.specs.declared.request.RunInput.{RunInput}
use Rattle.prem_layout.specs.Rules.{Refusal}
use Rattle.prem_tasks.specs.Told.{Told}
use Rattle.prem_tasks.specs.Broken.{TaskSet, broken}
use Rattle.prem_tasks.specs.Compiled.{CompiledText, compiled}
use Rattle.prem_compile.specs.declared.compiled.Compiled.{Compiled}
use Rattle.prem_compile.specs.CompiledOf.{IsCompiled, compiled_of}
use Rattle.prem_set.specs.Run.Lawful.{IsLawfulRun}
use Rattle.prem_answer.specs.declared.status.Status.TheVariants.{Done, Refused}
use Rattle.prem_answer.specs.Stages.{Reply}
use Rattle.prem_exec.specs.Forms.{RunText}
use Rattle.prem_exec.specs.Sources.Sources.{names_of}
use Rattle.prem_running.proofs.Runs.{input_fits}
use Rattle.prem_pair_top.specs.Words.{PairAsked}
use Rattle.prem_pair_top.specs.Running.{CountsDue}
use Rattle.prem_pair_top.specs.Stages.{compiled_text, judged_reply, refused_text, sets_reply}
use Rattle.prem_pair_top.proofs.Sets.{counts_due, no_devices}
use Rattle.prem_pair_top.proofs.Runs.{no_requests}

-- a set without devices is asked for no transfer
pub asks_nothing : (set : TaskSet) (c : Compiled) (input : RunInput) → IsCompiled set c → IsLawfulRun (names_of set) input → set.devices ≡ [] → items_of input.requests ≡ []
asks_nothing set c input is lawful none =
    no_requests (items_of c.image.devices) (items_of input.requests) (ap (λ (t : CompiledText). t.image.devices) is.compiled ∙ no_devices set none) (input_fits set c input is lawful).short.trace

-- its limit counts what its jobs are due
pub compiled_counts_due : (set : TaskSet) (c : Compiled) → IsCompiled set c → CountsDue (compiled_of c)
compiled_counts_due set c is = subst CountsDue (sym is.compiled) (counts_due set)

-- what a core's set is refused by
abbrev pub refused_on : ℕ → TaskSet → Refusal Told → Reply
refused_on core set rule = (Refused, refused_text core set.tasks rule)

-- ---- the answer to both

module _ (asked : PairAsked) (one two : TaskSet) (input other : RunText) where
  abbrev judged : Option (Refusal Told) → Option (Refusal Told) → Reply
  judged = judged_reply asked one two input other

  abbrev done : List ℕ → Reply
  done text = (Done, text)

  pub both_told : (c d : Compiled) (reply : Reply) → IsCompiled one c → IsCompiled two d → reply ≡ done (compiled_text asked input other (compiled_of c) (compiled_of d)) →
      reply ≡ sets_reply asked one two input other
  both_told c d reply first second told =
      told
      ∙ ap (λ (t : CompiledText). done (compiled_text asked input other t (compiled_of d))) first.compiled
      ∙ ap (λ (t : CompiledText). done (compiled_text asked input other (compiled one) t)) second.compiled
      ∙ ap (λ r. judged r None) (sym first.lawful)
      ∙ ap (judged (broken one)) (sym second.lawful)
