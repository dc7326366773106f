use Rattle.std.specs.Borrow.{Bor}
use Rattle.std.proofs.Common.{◌≡◌, List, [], ◌∷◌, map, refl, ap, ◌∙◌}
use Rattle.prem_syntax.specs.declared.name.Name.{Name}
use Rattle.prem_syntax.specs.declared.tree.Ty.{Ty}
use Rattle.prem_syntax.specs.Name.{name_bytes}
use Rattle.prem_syntax.specs.Syntax.{Text}
use Rattle.prem_syntax.specs.Breaches.{has_name}
use Rattle.prem_names.specs.Scopes.{local_of}
use Rattle.prem_names.proofs.names.Names.has_local.Goals as goal

mapped : (ls : List (Bor Name × Ty)) → map (λ l. name_bytes l.0.now) ls ≡ map (λ (l : Text × Ty). l.0) (map local_of ls)
mapped [] = refl
mapped (l ∷ ls) = ap (λ ts. name_bytes l.0.now ∷ ts) (mapped ls)

pub returns : goal.returns
returns c =
    rw (← c.self.view_is)
    (c.has.ensures ∙ ap (λ names. has_name names c.bytes.result.now) (c.self.invariant.locals_are ∙ mapped c.self.inside.locals.items)
    ∙ ap (has_name (map (λ (l : Text × Ty). l.0) (map local_of c.self.inside.locals.items))) c.bytes.ensures.bytes)
