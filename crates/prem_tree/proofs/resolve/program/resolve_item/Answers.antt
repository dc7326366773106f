use Rattle.std.proofs.Common.{◌≡◌, ap, refl}
use Rattle.prem_list.specs.Sequence.{items_of}
use Rattle.prem_syntax.specs.SyntaxOf.{item_of, global_of, function_of}
use Rattle.prem_names.specs.Scopes.{scope_of, with_global}
use Rattle.prem_tree.proofs.ResolveLemmas.ItemLaws.{AreBehind_global, AreBehind_function}
use Rattle.prem_tree.proofs.resolve.program.resolve_item.Goals as goal

pub returns-in_ok-add_global-in-Global : goal.returns-in_ok-add_global-in-Global
returns-in_ok-add_global-in-Global c = λ fs items h.
    let old = scope_of c.args.names.now in
    let new = scope_of c.add_global.new.self in
    let added : new ≡ with_global old (global_of c.in-Global.g) = c.in_ok-add_global-in-Global.ensures in
    rw (ap item_of c.in-Global.is)
    (AreBehind_global old new (items_of c.args.routines.now) (items_of c.args.routines.now) fs items (global_of c.in-Global.g)
    (ap (λ s. s.functions) added) (ap (λ s. s.globals) added) refl h)

pub returns-in_ok-push-in-Function : goal.returns-in_ok-push-in-Function
returns-in_ok-push-in-Function c = λ fs items h.
    rw (ap item_of c.in-Function.is)
    (AreBehind_function (scope_of c.args.names.now) (scope_of c.resolve_function.new.names) (items_of c.args.routines.now) (items_of c.push.new.self)
    c.in_ok-resolve_function-in-Function.field-0 fs items (function_of c.in-Function.f) c.in_ok-resolve_function-in-Function.ensures.names c.in_ok-push-in-Function.ensures.ok
    c.in_ok-resolve_function-in-Function.ensures.routine h)
