use Rattle.std.proofs.Common.{ap, sym, ◌∙◌, subst}
use Rattle.std.specs.Vec.Iter.{into_iter_items}
use Rattle.prem_text.specs.declared.lexing.token.fail.FrontFail.{FrontFail}
use Rattle.prem_text.specs.Grammar.Statement.{inside}
use Rattle.prem_reader.specs.declared.statement.point.Reading.{Reading}
use Rattle.prem_reader.specs.Expression.StateOf.{state_of}
use Rattle.prem_reader.specs.Statement.PointOf.{around_of, point_of, taken_of, use_of}
use Rattle.prem_front.specs.Taking.{FailsAt, LeadsTo}
use Rattle.prem_front.proofs.Taking.{inside_on, inside_past, inside_wrong}
use Rattle.prem_front.proofs.program.take_expression.Goals as goal

pub returns-then-is_past-clause-fails : goal.returns-then-is_past-clause-fails
returns-then-is_past-clause-fails c =
    let around = around_of c.args.around.value in
    let all = into_iter_items c.args.tokens.now in
    let P : Reading → Type 0 = λ r. FailsAt c.too_deep.result (inside (use_of r.purpose) (state_of r.state) r.room around) all in
    let F : FrontFail → Type 0 = λ fail. let r = c.deref_mut.result.now in FailsAt fail (inside (use_of r.purpose) (state_of r.state) r.room around) all in
    subst P c.deref_mut.ensures.value (subst F (sym c.too_deep.ensures)
    (inside_past around c.in_ok-going.ensures.takes (point_of c.in-Some.point) (ap taken_of (sym c.in-Some.is) ∙ c.in_ok-point.ensures) (sym c.is_past.ensures ∙ c.if-is_past.true)))

pub returns-in-Some-clause-takes : goal.returns-in-Some-clause-takes
returns-in-Some-clause-takes c =
    let around = around_of c.args.around.value in
    let all = into_iter_items c.args.tokens.now in
    let P : Reading → Type 0 = λ r. LeadsTo (inside (use_of r.purpose) (state_of r.state) r.room around) all (point_of c.in-Some.point) (into_iter_items c.take_inside.new.tokens) in
    subst P c.deref_mut.ensures.value
    (inside_on around c.in_ok-going.ensures.takes (point_of c.in-Some.point) (ap taken_of (sym c.in-Some.is) ∙ c.in_ok-point.ensures) (sym c.is_past.ensures ∙ c.if-is_past.false))

pub returns-clause-fails : goal.returns-clause-fails
returns-clause-fails c =
    let around = around_of c.args.around.value in
    let all = into_iter_items c.args.tokens.now in
    let P : Reading → Type 0 = λ r. FailsAt c.syntax.result (inside (use_of r.purpose) (state_of r.state) r.room around) all in
    let F : FrontFail → Type 0 = λ fail. let r = c.deref_mut.result.now in FailsAt fail (inside (use_of r.purpose) (state_of r.state) r.room around) all in
    subst P c.deref_mut.ensures.value (subst F (sym c.syntax.ensures)
    (inside_wrong around c.in_ok-going.ensures.takes (ap taken_of (sym c.in-None.is) ∙ c.in_ok-point.ensures)))
