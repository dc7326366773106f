use Rattle.std.proofs.Common.{◌≡◌, IfOk, ap, sym, ◌∙◌, subst}
use Rattle.prem_text.specs.Lexing.Token.Lexeme.{seen_of}
use Rattle.prem_text.specs.Grammar.Statement.{Turn, within}
use Rattle.prem_reader.specs.declared.statement.point.Purpose.{Purpose}
use Rattle.prem_reader.specs.declared.statement.point.Reading.{Reading}
use Rattle.prem_reader.specs.Expression.StateOf.{state_of}
use Rattle.prem_reader.specs.Statement.PointOf.{around_of, taken_of, use_of}
use Rattle.prem_reader.specs.Statement.Goings.{Gone, gone_of, left}
use Rattle.prem_reader.proofs.StatementLemmas.Within.{left_same, within_left}
use Rattle.prem_reader.proofs.statement.inside.within.Goals as goal

pub returns : goal.returns
returns c =
    let old = c.deref_mut.result.now in
    let new = c.go_on.new.reading in
    let going = c.in_ok-going.going in
    let u = use_of old.purpose in
    let around = around_of c.args.around.value in
    let t = seen_of c.args.spotted.now in
    let same =
    ap (λ (purpose : Purpose). left (use_of purpose) (gone_of going new) around (seen_of c.go_on.new.spotted)) c.in_ok-going.ensures.purpose
    ∙ left_same u going new around c.args.spotted.now c.go_on.new.spotted c.in_ok-going.ensures.kept
    ∙ ap (λ (g : Gone). left u g around t) c.in_ok-going.ensures.gone
    ∙ sym (within_left u (state_of old.state) old.room around t)
    ∙ ap (λ (r : Reading). within (use_of r.purpose) (state_of r.state) r.room around t) c.deref_mut.ensures.value in
    subst (λ (w : Turn). IfOk c.behind.result (λ p. taken_of p ≡ w)) same c.behind.ensures
