use Rattle.std.proofs.Common.{◌≡◌, [], map, IfOk, ap, subst, ◌∙◌}
use Rattle.prem_syntax.specs.SyntaxOf.{item_of, function_of}
use Rattle.prem_syntax.specs.Rules.{first_of}
use Rattle.prem_syntax.specs.Breaches.{in_items, item_names, reached}
use Rattle.prem_names.specs.Scopes.{first_scope, scope_of}
use Rattle.prem_check.specs.FoundOf.{found_of}
use Rattle.prem_check.proofs.program.in_items.Goals as goal

pub returns : goal.returns
returns c =
    let fs = map (λ f. function_of f.now) c.args.functions.items in
    let items = map item_of c.args.items.now in
    let scope : scope_of c.in_ok-new.field-0 ≡ first_scope fs = c.in_ok-new.ensures in
    let names : c.in_ok-names.names ≡ item_names items = c.in_ok-names.ensures in
    let within : c.deref.result.now ≡ reached fs = c.deref.ensures.value ∙ c.in_ok-within.ensures ∙ ap (λ s. reached s.functions) scope in
    let before : c.new-2.result ≡ [] = c.new-2.ensures in
    subst (λ o. IfOk c.pass_items.result (λ found. found_of found ≡ o)) (λ i. first_of (in_items (scope i).functions (names i) (within i) 0 (scope i).globals (before i) items)) c.pass_items.ensures
