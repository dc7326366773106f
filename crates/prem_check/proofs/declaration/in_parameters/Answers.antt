use Rattle.std.proofs.Common.{◌≡◌, ◌+◌, ◌∷◌, [], ◌++◌, map, drop, ap, sym, ◌∙◌, not, arith, take}
use Rattle.std.proofs.lemmas.List.{drop_more}
use Rattle.prem_syntax.specs.declared.rules.TypeRule.TheVariants.{Range}
use Rattle.prem_syntax.specs.Name.{name_bytes}
use Rattle.prem_syntax.specs.Syntax.{Parameter}
use Rattle.prem_syntax.specs.SyntaxOf.{parameter_of}
use Rattle.prem_syntax.specs.Resolve.{parameter_names}
use Rattle.prem_syntax.specs.Rules.{OfTypes, first, first_of}
use Rattle.prem_syntax.specs.Breaches.{if_at, is_range, in_declared, in_parameters}
use Rattle.prem_names.specs.Scopes.{scope_of, with_locals}
use Rattle.prem_check.specs.FoundOf.{found_of}
use Rattle.prem_check.specs.Taken.{taken_of}
use Rattle.prem_check.proofs.Steps.{next}
use Rattle.prem_check.proofs.Taken.{taken_more, with_locals_twice, mapped_more}
use Rattle.prem_check.proofs.declaration.in_parameters.Goals as goal

pub loop-param-preserved : goal.loop-param-preserved
loop-param-preserved c =
    let items = c.args.items.now in
    let params = c.args.params.now in
    let i = c.loop-param.param-index in
    let p = c.param-item.result in
    let name = name_bytes p.name in
    let scope = scope_of c.loop-param.names in
    let taken = taken_of items scope in
    let behind = scope_of c.add_local.new.self in
    let old = found_of c.loop-param.found in
    let new = found_of c.earlier-found.result in
    let rest = map parameter_of (drop (i + 1) params) in
    let left : drop i params ≡ p ∷ drop (i + 1) params = drop_more params i p (omega arith) ∙ ap (λ x. x ∷ drop (i + 1) params) (sym c.param-item.is) in
    let added : behind ≡ with_locals scope ((name, p.ty) ∷ []) = c.in_ok-add_local.ensures in
    record {
      found =
          ap (λ s. first new (first_of (in_parameters (taken_of items s) rest))) added
          ∙ ap (λ ts. first new (first_of (in_parameters ts rest))) (taken_more items scope name p.ty)
          ∙ next old new (in_declared taken p.at p.ty name ++ if_at (not (is_range p.ty p.range)) p.at (OfTypes Range))
          (in_parameters (taken ++ name ∷ []) rest) (c.earlier-found.ensures ∙ ap (first old) c.in_parameter.ensures)
          ∙ ap (λ xs. first old (first_of (in_parameters taken (map parameter_of xs)))) (sym left) ∙ c.loop-param.invariant.found;
      names =
          added ∙ ap (λ s. with_locals s ((name, p.ty) ∷ [])) c.loop-param.invariant.names
          ∙ with_locals_twice (scope_of c.args.names.now) (parameter_names (map parameter_of (take i params))) ((name, p.ty) ∷ [])
          ∙ ap (with_locals (scope_of c.args.names.now)) (mapped_more parameter_of (λ (q : Parameter). (q.name, q.ty)) params i p (omega arith) c.param-item.is);
    }
