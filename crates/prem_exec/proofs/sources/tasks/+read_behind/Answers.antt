use Rattle.std.specs.Prelude.{List, Option, Err}
use Rattle.std.proofs.Common.{◌∷◌, map, sym, subst}
use Rattle.prem_list.specs.declared.Sequence.{Sequence}
use Rattle.prem_list.specs.Sequence.{items_of}
use Rattle.prem_io.specs.Files.{Files}
use Rattle.prem_tasks.specs.declared.set.TaskText.{TaskText as TaskTree}
use Rattle.prem_tasks.specs.Broken.{TaskText}
use Rattle.prem_tasks.specs.SetOf.{task_of}
use Rattle.prem_answer.specs.Stages.{Comes, IsReadAsBy}
use Rattle.prem_answer.proofs.Reading.{halt_passes}
use Rattle.prem_exec.specs.Sources.Sources.{Passes, reading_behind, source_limit, task_of_source}
use Rattle.prem_exec.proofs.SourcesLemmas.Passing.{next_passes, no_task_behind}
use Rattle.prem_exec.proofs.sources.tasks.+read_behind.Goals as goal

abbrev view : Sequence TaskTree → List TaskText
view ts = map task_of (items_of ts)

pub returns-in-Err-clause-tasks : goal.returns-in-Err-clause-tasks
returns-in-Err-clause-tasks g t c =
    let how = c.args.telling in
    let told : Option Files = g.S.Store.files c.args.store.now in
    let e = c.in-Some.entry.now in
    let rest = c.in-Some.rest.now in
    let front = map task_of (items_of c.args.front) in
    let stops : Comes view (Passes told (reading_behind how front (e ∷ rest))) (Err c.in-Err.halt) =
    halt_passes {X = TaskTree} {Y = TaskText} {V = Sequence TaskTree} {W = List TaskText} task_of view
    (IsReadAsBy how told source_limit e.source (task_of_source e)) (Passes told (reading_behind how front (e ∷ rest))) c.in-Err.halt
    (λ reply read. no_task_behind how told front e rest reply read) c.in-Err.ensures.task in
    subst (λ es. Comes view (Passes told (reading_behind how front es)) (Err c.in-Err.halt)) (sym c.in-Some.ensures.some) stops

pub returns-in_ok-push-in-Some-clause-tasks : goal.returns-in_ok-push-in-Some-clause-tasks
returns-in_ok-push-in-Some-clause-tasks g t c =
    let how = c.args.telling in
    let told : Option Files = g.S.Store.files c.args.store.now in
    let later : Option Files = g.S.Store.files c.read_task.new.store in
    next_passes {X = Sequence TaskTree} view how told later (items_of c.args.front) (items_of c.push.new.self)
    c.in-Some.entry.now c.in-Some.rest.now c.args.entries.now c.in-Ok.task c.read_behind.result
    c.in-Ok.ensures.same c.in-Some.ensures.some c.in_ok-push-in-Some.ensures.ok c.in-Ok.ensures.task c.read_behind.ensures.tasks
