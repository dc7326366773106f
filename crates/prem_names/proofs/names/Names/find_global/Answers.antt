use Rattle.std.proofs.Common.{◌≡◌, get_or, Some, sym, ap, ◌∙◌, rules}
use Rattle.prem_syntax.specs.Name.{name_bytes}
use Rattle.prem_syntax.specs.Syntax.{GlobalVariable}
use Rattle.prem_syntax.specs.SyntaxOf.{global_of}
use Rattle.prem_names.specs.Numbers.{number_of}
use Rattle.prem_names.proofs.Named.{number_found, number_missing}
use Rattle.prem_names.proofs.names.Names.find_global.Goals as goal

pub returns-in-Some : goal.returns-in-Some
returns-in-Some c =
    let all = c.self.inside.globals.items in
    let spelling = name_bytes c.args.name.now in
    let it = c.index.result.now in
    let here : get_or all c.in-Some.number it ≡ it = search rules in
    let found = number_found (λ g. global_of g.now) (λ (g : GlobalVariable). g.name) spelling it all c.in-Some.number
    (sym (c.in-Some.ensures.number ∙ ap (number_of c.self.inside.global_index) c.bytes.ensures.bytes
    ∙ ap (λ names. number_of names spelling) c.self.invariant.globals_are)) in
    rw (← c.self.view_is) ((ap (λ x. Some (c.in-Some.number, global_of x.now)) (sym here) ∙ sym found))

pub returns-in-None : goal.returns-in-None
returns-in-None c =
    let all = c.self.inside.globals.items in
    let spelling = name_bytes c.args.name.now in
    rw (← c.self.view_is) ((sym (number_missing (λ g. global_of g.now) (λ (g : GlobalVariable). g.name) spelling all
    (sym (c.in-None.ensures.number ∙ ap (number_of c.self.inside.global_index) c.bytes.ensures.bytes
    ∙ ap (λ names. number_of names spelling) c.self.invariant.globals_are)))))
