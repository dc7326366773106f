use Rattle.std.specs.Prelude.{Option}
use Rattle.std.proofs.Common.{◌≡◌, ap, sym, subst, Ok, Err}
use Rattle.prem_io.specs.Files.{Files}
use Rattle.prem_tasks.specs.SetOf.{task_of}
use Rattle.prem_answer.specs.Stages.{Comes, IsReadAsBy}
use Rattle.prem_answer.proofs.Reading.{made_ok_by}
use Rattle.prem_exec.specs.Sources.Sources.{source_limit, task_of_source}
use Rattle.prem_exec.proofs.Behind.{read_halts}
use Rattle.prem_exec.proofs.sources.tasks.read_task.Goals as goal

pub returns-in-Err-clause-task : goal.returns-in-Err-clause-task
returns-in-Err-clause-task g c =
    let how = c.args.telling in
    let e = c.args.entry.now in
    let told : Option Files = g.S.Store.files c.args.store.now in
    let halt = c.in-Err.halt in
    subst (λ name. Comes task_of (IsReadAsBy how told source_limit name (task_of_source e)) (Err halt)) c.text.ensures
    (read_halts how told source_limit c.text.result.now (task_of_source e) task_of halt c.in-Err.ensures.read)

pub returns-clause-task : goal.returns-clause-task
returns-clause-task g c =
    let how = c.args.telling in
    let e = c.args.entry.now in
    let name = c.text.result.now in
    let bytes = c.in-Ok.text.items in
    let told : Option Files = g.S.Store.files c.args.store.now in
    let task = task_of c.in_ok-task_with.field-0 in
    let is : task_of_source e bytes ≡ Ok task = ap Ok (sym c.in_ok-task_with.ensures) in
    subst (λ n. IsReadAsBy how told source_limit n (task_of_source e) (Ok task)) c.text.ensures
    (made_ok_by how told source_limit name (task_of_source e) bytes (Ok task) c.in-Ok.ensures.read is)
