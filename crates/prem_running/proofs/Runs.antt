-- What run files give fits the runs of compiled sets.
use Rattle.std.proofs.Common.{◌≤◌, ◌^◌, sym, subst}
use Rattle.prem_list.specs.Sequence.{items_of}
use Rattle.prem_gate.specs.declared.request.RunInput.{RunInput}
use Rattle.prem_cycle.specs.Inputs.{FitsRun, image_setup, setup_of, words_of}
use Rattle.prem_tasks.specs.Broken.{TaskSet}
use Rattle.prem_tasks.specs.Compiled.{CompiledText}
use Rattle.prem_tasks.specs.SetOf.{set_of}
use Rattle.prem_tasks.specs.declared.set.TaskSet.{TaskSet as SetTree}
use Rattle.prem_compile.specs.declared.compiled.Compiled.{Compiled}
use Rattle.prem_compile.specs.CompiledOf.{IsCompiled}
use Rattle.prem_set.specs.Run.Lawful.{IsLawfulRun}
use Rattle.prem_exec.specs.Sources.Sources.{names_of}
use Rattle.prem_running.proofs.SetLawsLemmas.Names.{lawful_runs_fit}
use Rattle.prem_running.proofs.SetLawsLemmas.Limits.{limits_are_small}

pub input_fits : (set : TaskSet) (c : Compiled) (input : RunInput) → IsCompiled set c → IsLawfulRun (names_of set) input →
    FitsRun (setup_of c.image) (words_of input) (items_of input.requests)
input_fits set c input is lawful =
    subst (λ (t : CompiledText). FitsRun (image_setup t.image) (words_of input) (items_of input.requests)) (sym is.compiled)
    (lawful_runs_fit set (words_of input) (items_of input.requests) is.lawful lawful)

pub limit_within : (set : SetTree) (c : Compiled) → IsCompiled (set_of set) c → c.limit ≤ 2 ^ 61
limit_within set c is = subst (λ (t : CompiledText). t.limit ≤ 2 ^ 61) (sym is.compiled) (limits_are_small set is.lawful)
