use Rattle.std.proofs.Common.{List, ap, ◌∙◌, ◌++◌, map}
use Rattle.prem_annotating.proofs.Prelude.{order_of, orders_from, Order, parameter_of, mark_of, function_of, option_map}
use Rattle.prem_annotating.proofs.EditingLemmas.Ranges.{orders_are}
use Rattle.prem_syntax.specs.declared.tree.Param.{Param}
use Rattle.prem_annotating.proofs.editing.orders.push_orders.Goals as goal

pub returns : goal.returns
returns c =
    let ranges = c.args.ranges.now in
    c.in_ok-push_ranges.ensures
    ∙ ap (λ (ps : List Param). map order_of c.push_marks.new.orders.items ++ orders_from 0 (map parameter_of ps) ranges) c.items.ensures
    ∙ ap (λ (os : List Order). os ++ orders_from 0 (function_of c.args.f.now).params ranges) c.in_ok-push_marks.ensures
    ∙ orders_are (map order_of c.args.orders.now.items) (function_of c.args.f.now) (option_map mark_of c.args.mark.now) ranges
