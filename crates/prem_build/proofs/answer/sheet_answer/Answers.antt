use Rattle.std.specs.Prelude.{Option}
use Rattle.std.proofs.Common.{refl}
use Rattle.prem_io.specs.Files.{Files}
use Rattle.prem_tasks.specs.SetOf.{set_of}
use Rattle.prem_answer.proofs.Reading.{given_at_once}
use Rattle.prem_exec.specs.Sources.Sources.{reading_set}
use Rattle.prem_exec.proofs.Behind.{pass_goes, pass_halts}
use Rattle.prem_build.specs.Build.{compiled_reply}
use Rattle.prem_build.proofs.Build.{behind_set}
use Rattle.prem_build.proofs.answer.sheet_answer.Goals as goal

pub returns-in-Err-clause-answer : goal.returns-in-Err-clause-answer
returns-in-Err-clause-answer g c =
    let told : Option Files = g.S.Store.files c.args.store.now in
    pass_halts told (reading_set c.args.name.now) (behind_set c.args.sheet) set_of c.in-Err.halt c.in-Err.ensures.set

pub returns-clause-answer : goal.returns-clause-answer
returns-clause-answer g c =
    let set = set_of c.in-Ok.set in
    let told : Option Files = g.S.Store.files c.args.store.now in
    let result = c.compiled_answer.result in
    pass_goes told (reading_set c.args.name.now) (behind_set c.args.sheet) told set result refl c.in-Ok.ensures.set
    (given_at_once told (compiled_reply c.args.sheet set) result c.compiled_answer.ensures.answer)
