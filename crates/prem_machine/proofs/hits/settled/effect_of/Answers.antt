use Rattle.std.proofs.Common.{◌≡◌, ap, ◌∙◌}
use Rattle.prem_machine.proofs.Prelude.{loads, Done, load_effect}
use Rattle.prem_machine.proofs.hits.settled.effect_of.Goals as goal

pub returns-clause-effect : goal.returns-clause-effect
returns-clause-effect c = λ view is.
    let l = c.args.load in
    let z : Done c.effect.result ≡ Done (load_effect l view) = c.effect.ensures ∙ ap (loads l.next l.op l.rd l.address) is in
    cc
