use Rattle.std.specs.Prelude.{Option}
use Rattle.prem_io.specs.Files.{Files}
use Rattle.prem_tasks.specs.SetOf.{set_of}
use Rattle.prem_set.specs.Views.{set_view}
use Rattle.prem_answer.specs.declared.answer.Telling.TheVariants.{Brief}
use Rattle.prem_exec.specs.Sources.Sources.{reading_sources, set_limit}
use Rattle.prem_exec.proofs.Behind.{read_on_halts, reads_on}
use Rattle.prem_pair_top.specs.Stages.{other_of_bytes}
use Rattle.prem_pair_top.proofs.read.read_other_set.Goals as goal

pub returns-in-Err-clause-set : goal.returns-in-Err-clause-set
returns-in-Err-clause-set g c =
    let name = c.args.name.now in
    let told : Option Files = g.S.Store.files c.args.store.now in
    read_on_halts Brief told set_limit name (other_of_bytes name) (reading_sources Brief) set_view set_of c.in-Err.halt c.in-Err.ensures.set

pub returns-clause-set : goal.returns-clause-set
returns-clause-set g c =
    let name = c.args.name.now in
    let told : Option Files = g.S.Store.files c.args.store.now in
    let later : Option Files = g.S.Store.files c.read_other_file.new.store in
    reads_on Brief told set_limit name (other_of_bytes name) (reading_sources Brief) set_of later (set_view c.in-Ok.file) c.read_sources.result c.in-Ok.ensures.same c.in-Ok.ensures.set
    c.read_sources.ensures.set
