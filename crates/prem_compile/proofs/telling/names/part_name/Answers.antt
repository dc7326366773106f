use Rattle.std.proofs.Common.{◌∙◌}
use Rattle.prem_plant.specs.declared.layout.PartKind.TheVariants.{Start, Code, Stub, Global, Stack}
use Rattle.prem_place.proofs.VerdictLemmas.Names.{name_then}
use Rattle.prem_prefetch.specs.Sizes.CodedOf.{coded_in}
use Rattle.prem_compile.specs.Telling.There.{HasName}
use Rattle.prem_compile.proofs.TellingLemmas.Naming.{all_at, among_within, among_of, named_at, named_of, there_by, named_by}
use Rattle.prem_compile.proofs.telling.names.part_name.Goals as goal

pub bounds-tasks-task : goal.bounds-tasks-task
bounds-tasks-task c = among_within c.args.tasks.now c.from-task.result Start
    (there_by c.args.devices.now c.args.tasks.now c.args.part.now c.from-task.result Start c.from-task.ensures c.in-Start.is c.requires.part)

pub bounds-tasks-task-in-Start : goal.bounds-tasks-task-in-Start
bounds-tasks-task-in-Start c =
    among_within c.args.tasks.now c.from-task.result Start
    (there_by c.args.devices.now c.args.tasks.now c.args.part.now c.from-task.result Start c.from-task.ensures c.in-Start.is c.requires.part)

pub bounds-tasks-task-in-Global : goal.bounds-tasks-task-in-Global
bounds-tasks-task-in-Global c =
    among_within c.args.tasks.now c.from-task.result (Global c.in-Global.g)
    (there_by c.args.devices.now c.args.tasks.now c.args.part.now c.from-task.result (Global c.in-Global.g) c.from-task.ensures c.in-Global.is c.requires.part)

pub bounds-tasks-task-in-Stack : goal.bounds-tasks-task-in-Stack
bounds-tasks-task-in-Stack c =
    among_within c.args.tasks.now c.from-task.result Stack
    (there_by c.args.devices.now c.args.tasks.now c.args.part.now c.from-task.result Stack c.from-task.ensures c.in-Stack.is c.requires.part)

pub bounds-tasks-task-in-Stack-2 : goal.bounds-tasks-task-in-Stack-2
bounds-tasks-task-in-Stack-2 c =
    among_within c.args.tasks.now c.from-task.result Stack
    (there_by c.args.devices.now c.args.tasks.now c.args.part.now c.from-task.result Stack c.from-task.ensures c.in-Stack.is c.requires.part)

pub label_name-requires : goal.label_name-requires
label_name-requires c = all_at HasName coded_in c.args.tasks.now c.from-task.result c.index-tasks-task.result c.requires.tasks
    (among_within c.args.tasks.now c.from-task.result Start
    (there_by c.args.devices.now c.args.tasks.now c.args.part.now c.from-task.result Start c.from-task.ensures c.in-Start.is c.requires.part))

pub label_name-requires-in-Stack : goal.label_name-requires-in-Stack
label_name-requires-in-Stack c =
    all_at HasName coded_in c.args.tasks.now c.from-task.result c.index-tasks-task-in-Stack.result c.requires.tasks
    (among_within c.args.tasks.now c.from-task.result Stack
    (there_by c.args.devices.now c.args.tasks.now c.args.part.now c.from-task.result Stack c.from-task.ensures c.in-Stack.is c.requires.part))

pub bounds-tasks-task-in-Code : goal.bounds-tasks-task-in-Code
bounds-tasks-task-in-Code c = among_within c.args.tasks.now c.from-task.result (Code c.in-Code.f)
    (there_by c.args.devices.now c.args.tasks.now c.args.part.now c.from-task.result (Code c.in-Code.f) c.from-task.ensures c.in-Code.is c.requires.part)

pub bounds-tasks-task-in-Stub : goal.bounds-tasks-task-in-Stub
bounds-tasks-task-in-Stub c = among_within c.args.tasks.now c.from-task.result (Stub c.in-Stub.f)
    (there_by c.args.devices.now c.args.tasks.now c.args.part.now c.from-task.result (Stub c.in-Stub.f) c.from-task.ensures c.in-Stub.is c.requires.part)

pub routine_name-requires : goal.routine_name-requires
routine_name-requires c = among_of c.args.tasks.now c.from-task.result (Code c.in-Code.f) c.index-tasks-task-in-Code.result
    (there_by c.args.devices.now c.args.tasks.now c.args.part.now c.from-task.result (Code c.in-Code.f)
    c.from-task.ensures c.in-Code.is c.requires.part) c.index-tasks-task-in-Code.is

pub routine_name-requires-in-Stub : goal.routine_name-requires-in-Stub
routine_name-requires-in-Stub c =
    among_of c.args.tasks.now c.from-task.result (Stub c.in-Stub.f) c.index-tasks-task-in-Stub.result
    (there_by c.args.devices.now c.args.tasks.now c.args.part.now c.from-task.result (Stub c.in-Stub.f)
    c.from-task.ensures c.in-Stub.is c.requires.part) c.index-tasks-task-in-Stub.is

pub global_name-requires : goal.global_name-requires
global_name-requires c = among_of c.args.tasks.now c.from-task.result (Global c.in-Global.g) c.index-tasks-task-in-Global.result
    (there_by c.args.devices.now c.args.tasks.now c.args.part.now c.from-task.result (Global c.in-Global.g)
    c.from-task.ensures c.in-Global.is c.requires.part) c.index-tasks-task-in-Global.is

pub returns-in-Start : goal.returns-in-Start
returns-in-Start c =
    name_then c.label_name.result _ _ c.label_name.ensures
    (named_at c.args.tasks.now c.from-task.result Start c.index-tasks-task.result
    (there_by c.args.devices.now c.args.tasks.now c.args.part.now c.from-task.result Start c.from-task.ensures c.in-Start.is c.requires.part)
    ∙ named_by c.args.devices.now c.args.tasks.now c.args.part.now c.from-task.result Start c.from-task.ensures c.in-Start.is)

pub returns-in-Stack : goal.returns-in-Stack
returns-in-Stack c =
    name_then c.label_name-in-Stack.result _ _ c.label_name-in-Stack.ensures
    (named_at c.args.tasks.now c.from-task.result Stack c.index-tasks-task-in-Stack.result
    (there_by c.args.devices.now c.args.tasks.now c.args.part.now c.from-task.result Stack c.from-task.ensures c.in-Stack.is c.requires.part)
    ∙ named_by c.args.devices.now c.args.tasks.now c.args.part.now c.from-task.result Stack c.from-task.ensures c.in-Stack.is)

pub returns-in-Global : goal.returns-in-Global
returns-in-Global c =
    name_then c.global_name.result _ _ c.global_name.ensures
    (named_of c.args.tasks.now c.from-task.result (Global c.in-Global.g) c.index-tasks-task-in-Global.result
    (there_by c.args.devices.now c.args.tasks.now c.args.part.now c.from-task.result (Global c.in-Global.g)
    c.from-task.ensures c.in-Global.is c.requires.part) c.index-tasks-task-in-Global.is
    ∙ named_by c.args.devices.now c.args.tasks.now c.args.part.now c.from-task.result (Global c.in-Global.g) c.from-task.ensures c.in-Global.is)

pub returns-in-Code : goal.returns-in-Code
returns-in-Code c =
    name_then c.routine_name.result _ _ c.routine_name.ensures
    (named_of c.args.tasks.now c.from-task.result (Code c.in-Code.f) c.index-tasks-task-in-Code.result
    (there_by c.args.devices.now c.args.tasks.now c.args.part.now c.from-task.result (Code c.in-Code.f)
    c.from-task.ensures c.in-Code.is c.requires.part) c.index-tasks-task-in-Code.is
    ∙ named_by c.args.devices.now c.args.tasks.now c.args.part.now c.from-task.result (Code c.in-Code.f) c.from-task.ensures c.in-Code.is)

pub returns-in-Stub : goal.returns-in-Stub
returns-in-Stub c =
    name_then c.routine_name-in-Stub.result _ _ c.routine_name-in-Stub.ensures
    (named_of c.args.tasks.now c.from-task.result (Stub c.in-Stub.f) c.index-tasks-task-in-Stub.result
    (there_by c.args.devices.now c.args.tasks.now c.args.part.now c.from-task.result (Stub c.in-Stub.f)
    c.from-task.ensures c.in-Stub.is c.requires.part) c.index-tasks-task-in-Stub.is
    ∙ named_by c.args.devices.now c.args.tasks.now c.args.part.now c.from-task.result (Stub c.in-Stub.f) c.from-task.ensures c.in-Stub.is)
