use Rattle.std.proofs.Common.{◌≡◌, get_or, Some, option_map, sym, ap, ◌∙◌, rules}
use Rattle.prem_syntax.specs.Name.{name_bytes}
use Rattle.prem_syntax.specs.declared.tree.Ty.{Ty}
use Rattle.prem_syntax.specs.Syntax.{Text}
use Rattle.prem_names.specs.Scopes.{local_of, local_found}
use Rattle.prem_names.specs.Numbers.{number_of}
use Rattle.prem_names.proofs.Named.{number_found, number_missing}
use Rattle.prem_names.proofs.names.Names.find_local.Goals as goal

pub returns-in-Some : goal.returns-in-Some
returns-in-Some c =
    let all = c.self.inside.locals.items in
    let spelling = name_bytes c.args.name.now in
    let it = c.index.result.now in
    let here : get_or all c.in-Some.number it ≡ it = search rules in
    let found = number_found local_of (λ (l : Text × Ty). l.0) spelling it all c.in-Some.number
    (sym (c.in-Some.ensures.number ∙ ap (number_of c.self.inside.local_index) c.bytes.ensures.bytes
    ∙ ap (λ names. number_of names spelling) c.self.invariant.locals_are)) in
    rw (← c.self.view_is) (ap (option_map local_found) (ap (λ x. Some (c.in-Some.number, local_of x)) (sym here) ∙ sym found))

pub returns-in-None : goal.returns-in-None
returns-in-None c =
    let all = c.self.inside.locals.items in
    let spelling = name_bytes c.args.name.now in
    rw (← c.self.view_is) (ap (option_map local_found)
    (sym (number_missing local_of (λ (l : Text × Ty). l.0) spelling all
    (sym (c.in-None.ensures.number ∙ ap (number_of c.self.inside.local_index) c.bytes.ensures.bytes
    ∙ ap (λ names. number_of names spelling) c.self.invariant.locals_are)))))
