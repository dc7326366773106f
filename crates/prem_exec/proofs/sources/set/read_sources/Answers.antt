use Rattle.std.specs.Prelude.{List, Option, Ok, Err}
use Rattle.std.proofs.Common.{ap, map}
use Rattle.prem_list.specs.declared.Sequence.{Sequence}
use Rattle.prem_list.specs.Sequence.{items_of}
use Rattle.prem_io.specs.Files.{Files}
use Rattle.prem_tasks.specs.declared.set.TaskText.{TaskText as TaskTree}
use Rattle.prem_tasks.specs.declared.set.TaskSet.{TaskSet as SetTree}
use Rattle.prem_tasks.specs.Broken.{TaskText, TaskSet}
use Rattle.prem_tasks.specs.SetOf.{set_of, task_of}
use Rattle.prem_set.specs.Views.{set_view}
use Rattle.prem_answer.proofs.Reading.{halt_passes}
use Rattle.prem_exec.specs.Sources.Sources.{Passes, reading_behind, reading_sources}
use Rattle.prem_exec.proofs.SourcesLemmas.Lawful.{heads_are, set_is_lawful}
use Rattle.prem_exec.proofs.SourcesLemmas.Passing.{all_pass, sources_read, sources_unread}
use Rattle.prem_exec.proofs.sources.set.read_sources.Goals as goal

abbrev view : Sequence TaskTree → List TaskText
view ts = map task_of (items_of ts)

pub returns-in-Err-clause-set : goal.returns-in-Err-clause-set
returns-in-Err-clause-set g c =
    let how = c.args.telling in
    let told : Option Files = g.S.Store.files c.args.store.now in
    let s = set_view c.args.file in
    let front = items_of c.new.result in
    let entries = c.items.result.now in
    halt_passes {X = Sequence TaskTree} {Y = List TaskText} {V = SetTree} {W = TaskSet} view set_of
    (Passes told (reading_behind how (map task_of front) entries)) (Passes told (reading_sources how s)) c.in-Err.halt
    (λ reply passes. sources_unread how told s reply (all_pass how told s front entries (Err reply) c.new.ensures c.items.ensures passes)) c.in-Err.ensures.tasks

pub set_with-requires : goal.set_with-requires
set_with-requires g c =
    let s = set_view c.args.file in
    set_is_lawful s (items_of c.in-Ok.tasks)
    (heads_are (items_of c.new.result) (items_of c.in-Ok.tasks) c.items.result.now s.tasks c.new.ensures c.items.ensures c.in-Ok.ensures.heads) c.requires

pub returns-clause-set : goal.returns-clause-set
returns-clause-set g c =
    let how = c.args.telling in
    let told : Option Files = g.S.Store.files c.args.store.now in
    let s = set_view c.args.file in
    let tasks = view c.in-Ok.tasks in
    sources_read how told s tasks (set_of c.set_with.result) c.set_with.ensures
    (all_pass how told s (items_of c.new.result) c.items.result.now (Ok tasks) c.new.ensures c.items.ensures c.in-Ok.ensures.tasks)

pub returns-clause-devices : goal.returns-clause-devices
returns-clause-devices g c = ap (λ (set : TaskSet). set.devices) c.set_with.ensures
