use Rattle.std.proofs.Common.{◌≡◌, ◌<◌, length, IfSome, sym, subst, ap, ◌∙◌}
use Rattle.prem_names.specs.Numbers.{number_of}
use Rattle.prem_names.proofs.Firsts.{within_names}
use Rattle.prem_names.proofs.index.Index.find.Goals as goal

pub returns-clause-within : goal.returns-clause-within
returns-clause-within c =
    let names = c.args.self.now in
    let name = c.args.name.now in
    let is : c.copied.result ≡ number_of names name = c.copied.ensures ∙ c.get.ensures.value ∙ c.self.invariant name ∙ ap (λ ns. number_of ns name) c.self.view_is in
    subst (λ o. IfSome o (λ n. n < length names)) (sym is) (within_names names name)
