use Rattle.std.proofs.Common.{◌≡◌, ◌+◌, List, ◌∷◌, map, drop, ap, sym, ◌∙◌, arith}
use Rattle.std.proofs.lemmas.List.{drop_more}
use Rattle.prem_syntax.specs.declared.tree.Local.{Local}
use Rattle.prem_syntax.specs.SyntaxOf.{local_of}
use Rattle.prem_text.specs.Canonical.Canonical.{local_lexemes, locals_lexemes}
use Rattle.prem_print.proofs.Writing.{behind_part}
use Rattle.prem_print.proofs.item.push_locals.Goals as goal

pub loop-local-preserved : goal.loop-local-preserved
loop-local-preserved c =
    let i = c.loop-local.local-index in
    let local = c.local-item.result in
    let left : drop i c.args.locals.now ≡ local ∷ drop (i + 1) c.args.locals.now =
    drop_more c.args.locals.now i local (omega arith) ∙ ap (λ x. x ∷ drop (i + 1) c.args.locals.now) (sym c.local-item.is) in
    behind_part c.loop-local.text.items c.push_local.new.text.items (local_lexemes (local_of local)) _ _
    c.in_ok-push_local.ensures
    (ap (λ (all : List Local). locals_lexemes (map local_of all)) left)
    ∙ c.loop-local.invariant
