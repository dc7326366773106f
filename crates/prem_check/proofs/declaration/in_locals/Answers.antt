use Rattle.std.proofs.Common.{◌≡◌, ◌+◌, ◌∷◌, [], ◌++◌, map, drop, ap, sym, ◌∙◌, arith, take}
use Rattle.std.proofs.lemmas.List.{drop_more}
use Rattle.prem_syntax.specs.Name.{name_bytes}
use Rattle.prem_syntax.specs.Syntax.{LocalVariable}
use Rattle.prem_syntax.specs.SyntaxOf.{local_of}
use Rattle.prem_syntax.specs.Resolve.{declared, local_names}
use Rattle.prem_syntax.specs.Rules.{first, first_of}
use Rattle.prem_syntax.specs.Breaches.{in_declared, in_expression, in_locals}
use Rattle.prem_names.specs.Scopes.{scope_of, with_locals}
use Rattle.prem_check.specs.FoundOf.{found_of}
use Rattle.prem_check.specs.Taken.{taken_of}
use Rattle.prem_check.proofs.Steps.{next}
use Rattle.prem_check.proofs.Taken.{taken_more, with_locals_twice, mapped_more}
use Rattle.prem_check.proofs.declaration.in_locals.Goals as goal

pub loop-local-preserved : goal.loop-local-preserved
loop-local-preserved c =
    let items = c.args.items.now in
    let locals = c.args.locals.now in
    let i = c.loop-local.local-index in
    let l = c.local-item.result in
    let name = name_bytes l.name in
    let scope = scope_of c.loop-local.names in
    let taken = taken_of items scope in
    let behind = scope_of c.add_local.new.self in
    let old = found_of c.loop-local.found in
    let new = found_of c.earlier-found.result in
    let rest = map local_of (drop (i + 1) locals) in
    let left : drop i locals ≡ l ∷ drop (i + 1) locals = drop_more locals i l (omega arith) ∙ ap (λ x. x ∷ drop (i + 1) locals) (sym c.local-item.is) in
    let added : behind ≡ with_locals scope ((name, l.ty) ∷ []) = c.in_ok-add_local.ensures in
    record {
      found =
          ap (λ s. first new (first_of (in_locals (taken_of items s) s rest))) added
          ∙ ap (λ ts. first new (first_of (in_locals ts (declared scope (local_of l)) rest))) (taken_more items scope name l.ty)
          ∙ next old new (in_declared taken l.at l.ty name ++ in_expression scope (local_of l).value)
          (in_locals (taken ++ name ∷ []) (declared scope (local_of l)) rest) (c.earlier-found.ensures ∙ ap (first old) c.in_local.ensures)
          ∙ ap (λ xs. first old (first_of (in_locals taken scope (map local_of xs)))) (sym left) ∙ c.loop-local.invariant.found;
      names =
          added ∙ ap (λ s. with_locals s ((name, l.ty) ∷ [])) c.loop-local.invariant.names
          ∙ with_locals_twice (scope_of c.args.names.now) (local_names (map local_of (take i locals))) ((name, l.ty) ∷ [])
          ∙ ap (with_locals (scope_of c.args.names.now)) (mapped_more local_of (λ (q : LocalVariable). (q.name, q.ty)) locals i l (omega arith) c.local-item.is);
    }
