use Rattle.std.proofs.Common.{◌≡◌, get_or, Some, sym, ap, ◌∙◌, rules}
use Rattle.prem_syntax.specs.Syntax.{FunctionText}
use Rattle.prem_syntax.specs.SyntaxOf.{function_of}
use Rattle.prem_names.specs.Numbers.{number_of}
use Rattle.prem_names.proofs.Named.{number_found, number_missing}
use Rattle.prem_names.proofs.names.Names.find_function.Goals as goal

pub returns-in-Some : goal.returns-in-Some
returns-in-Some c =
    let all = c.self.inside.functions.items in
    let spelling = c.args.name.now in
    let it = c.index.result.now in
    let here : get_or all c.in-Some.number it ≡ it = search rules in
    let found = number_found (λ f. function_of f.now) (λ (f : FunctionText). f.name) spelling it all c.in-Some.number
    (sym (c.in-Some.ensures.number ∙ ap (λ names. number_of names spelling) c.self.invariant.functions_are)) in
    rw (← c.self.view_is) ((ap (λ x. Some (c.in-Some.number, function_of x.now)) (sym here) ∙ sym found))

pub returns-in-None : goal.returns-in-None
returns-in-None c =
    let all = c.self.inside.functions.items in
    let spelling = c.args.name.now in
    rw (← c.self.view_is) ((sym (number_missing (λ f. function_of f.now) (λ (f : FunctionText). f.name) spelling all
    (sym (c.in-None.ensures.number ∙ ap (λ names. number_of names spelling) c.self.invariant.functions_are)))))
