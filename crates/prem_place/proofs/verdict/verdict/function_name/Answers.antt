use Rattle.std.proofs.Common.{ap, sym, ◌∙◌}
use Rattle.prem_syntax.specs.Name.{name_bytes}
use Rattle.prem_place.specs.Placed.PlacedOf.{routines_of}
use Rattle.prem_place.proofs.VerdictLemmas.Names.{item_within, item_name, name_then}
use Rattle.prem_place.proofs.verdict.verdict.function_name.Goals as goal

pub bounds-items-from : goal.bounds-items-from
bounds-items-from c =
    item_within c.args.tasks.now c.args.task c.from.result c.args.f c.from-2.result c.index-tasks-from.result c.items.result.now c.requires
    c.from.ensures c.from-2.ensures c.index-tasks-from.is (c.items.ensures ∙ ap routines_of (sym c.index-tasks-from.is))

pub bounds-items-from-2 : goal.bounds-items-from-2
bounds-items-from-2 c =
    item_within c.args.tasks.now c.args.task c.from.result c.args.f c.from-2.result c.index-tasks-from.result c.items.result.now c.requires
    c.from.ensures c.from-2.ensures c.index-tasks-from.is (c.items.ensures ∙ ap routines_of (sym c.index-tasks-from.is))

pub returns : goal.returns
returns c =
    name_then c.copy_name.result _ _ c.copy_name.ensures
    (ap (λ r. name_bytes r.text.now.name) (sym c.index-items-from.is)
    ∙ item_name c.args.tasks.now c.args.task c.from.result c.args.f c.from-2.result c.index-tasks-from.result c.items.result.now
    c.index-items-from.result c.requires c.from.ensures c.from-2.ensures c.index-tasks-from.is
    (c.items.ensures ∙ ap routines_of (sym c.index-tasks-from.is))
    c.index-items-from.is)
