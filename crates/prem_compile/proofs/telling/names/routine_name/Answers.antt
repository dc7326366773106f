use Rattle.std.proofs.Common.{ap, sym, ◌∙◌, slice_index}
use Rattle.prem_list.specs.Sequence.{items_of}
use Rattle.prem_syntax.specs.Name.{name_bytes}
use Rattle.prem_place.proofs.VerdictLemmas.Names.{name_then}
use Rattle.prem_compile.proofs.TellingLemmas.Naming.{routine_within, routine_named}
use Rattle.prem_compile.proofs.telling.names.routine_name.Goals as goal

pub bounds-items-from : goal.bounds-items-from
bounds-items-from c =
    let t = c.args.task.now in
    routine_within (slice_index t.turns.items) (items_of t.program.routines) c.items.result.now c.args.f c.from.result c.requires c.from.ensures c.items.ensures

pub bounds-items-from-2 : goal.bounds-items-from-2
bounds-items-from-2 c =
    let t = c.args.task.now in
    routine_within (slice_index t.turns.items) (items_of t.program.routines) c.items.result.now c.args.f c.from.result c.requires c.from.ensures c.items.ensures

pub returns : goal.returns
returns c =
    let t = c.args.task.now in
    name_then c.copy_name.result _ _ c.copy_name.ensures
    (ap (λ r. name_bytes r.text.now.name) (sym c.index-items-from.is)
    ∙ routine_named (slice_index t.turns.items) (items_of t.program.routines)
    c.items.result.now c.args.f c.from.result c.index-items-from.result c.requires c.from.ensures c.items.ensures c.index-items-from.is)
