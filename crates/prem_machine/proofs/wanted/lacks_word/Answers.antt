use Rattle.std.specs.Prelude.{nat_le, ◌&&◌}
use Rattle.prem_machine.proofs.Prelude.{length, get_or, refl, ap, sym, ◌∙◌}
use Rattle.prem_machine.proofs.Wanting.{lacks_told}
use Rattle.prem_machine.proofs.wanted.lacks_word.Goals as goal

pub returns-then-takes_word : goal.returns-then-takes_word
returns-then-takes_word g c =
    let w = c.args.work.now in
    let core = c.index-core.result.now in
    let used = c.is_used_up.result in
    ap (λ b. b && used) (sym c.if-takes_word.true)
    ∙ lacks_told w c.args.task core c.takes_word.result used c.requires.task
    (c.index-core.ensures ∙ ap (λ n. get_or w.cores.items n core) c.from.ensures) c.takes_word.ensures c.is_used_up.ensures

pub returns-else-takes_word : goal.returns-else-takes_word
returns-else-takes_word g c =
    let w = c.args.work.now in
    let core = c.index-core.result.now in
    let used = nat_le (length core.left) 0 in
    c.if-takes_word.false ∙ ap (λ b. b && used) (sym c.if-takes_word.false)
    ∙ lacks_told w c.args.task core c.takes_word.result used c.requires.task
    (c.index-core.ensures ∙ ap (λ n. get_or w.cores.items n core) c.from.ensures) c.takes_word.ensures refl
