use Rattle.std.proofs.Common.{ap, sym, ◌++◌, ◌∷◌, [], ◌∙◌, refl, arith}
use Rattle.prem_syntax.specs.Syntax.{unary, binary}
use Rattle.prem_syntax.specs.SyntaxOf.{expression_of}
use Rattle.prem_text.specs.Grammar.Expression.{bind, bottom}
use Rattle.prem_reader.specs.declared.expression.open.Open.TheVariants as code
use Rattle.prem_reader.specs.Expression.StateOf.{open_in, open_of}
use Rattle.prem_reader.proofs.ExpressionLemmas.Opened.{bind_innermost, bind_looser, bind_operator, bind_stops}
use Rattle.prem_reader.proofs.expression.open.OpenStack.bind.Goals as goal

pub loop-inner-preserved-in-Under : goal.loop-inner-preserved-in-Under
loop-inner-preserved-in-Under c =
    let p = c.in-Under in
    let rest = c.pop.new.self.items in
    record {
      whole = ap (λ e. bind c.args.level (unary p.at p.op e) (open_in bottom rest)) (ap expression_of c.in_ok-arg-in-Under.ensures.ok)
          ∙ bind_innermost c.args.level (expression_of c.loop-inner.value) c.loop-inner.self.all.items rest (code.Under p.at p.op)
          (bind c.args.level (expression_of c.args.value) (open_of c.args.self.now)) (c.in-Some.ensures.items ∙ ap (λ o. rest ++ o ∷ []) p.is) c.loop-inner.invariant.whole;
    }

pub loop-inner-preserved : goal.loop-inner-preserved
loop-inner-preserved c =
    let p = c.in-RightOf in
    let rest = c.pop.new.self.items in
    let level = c.args.level in
    let e = expression_of c.loop-inner.value in
    record {
      whole = ap (λ r. bind level (binary p.at p.op (expression_of c.in_ok-left-in-RightOf.left.value) r) (open_in bottom rest)) (ap expression_of c.in_ok-right-in-RightOf.ensures.ok)
          ∙ ap (λ l. bind level (binary p.at p.op l e) (open_in bottom rest)) (ap expression_of c.in_ok-left-in-RightOf.ensures.ok)
          ∙ sym (bind_operator level (expression_of p.left) e p.at p.op (open_in bottom rest) (omega (arith, c.if-level-level_of.false, c.level_of.ensures)))
          ∙ bind_innermost level e c.loop-inner.self.all.items rest (code.RightOf p.left p.at p.op)
          (bind level (expression_of c.args.value) (open_of c.args.self.now)) (c.in-Some.ensures.items ∙ ap (λ o. rest ++ o ∷ []) p.is) c.loop-inner.invariant.whole;
    }

pub returns-then-level-level_of : goal.returns-then-level-level_of
returns-then-level-level_of c =
    let p = c.in-RightOf in
    let rest = c.pop.new.self.items in
    let level = c.args.level in
    let e = expression_of c.loop-inner.value in
    bind_stops level e c.loop-inner.self.all.items rest c.push_reserved.new.self.items (code.RightOf p.left p.at p.op)
    (bind level (expression_of c.args.value) (open_of c.args.self.now)) (c.in-Some.ensures.items ∙ ap (λ o. rest ++ o ∷ []) p.is) c.push_reserved.ensures.items c.loop-inner.invariant.whole
    (bind_looser level (expression_of p.left) e p.at p.op (open_in bottom rest) (omega (arith, c.if-level-level_of.true, c.level_of.ensures)))

pub returns-in-Bracket : goal.returns-in-Bracket
returns-in-Bracket c =
    let rest = c.pop.new.self.items in
    let level = c.args.level in
    bind_stops level (expression_of c.loop-inner.value) c.loop-inner.self.all.items rest c.push_reserved-in-Bracket.new.self.items code.Bracket
    (bind level (expression_of c.args.value) (open_of c.args.self.now)) (c.in-Some.ensures.items ∙ ap (λ o. rest ++ o ∷ []) c.in-Bracket.is)
    c.push_reserved-in-Bracket.ensures.items c.loop-inner.invariant.whole refl

pub returns-in-IndexOf : goal.returns-in-IndexOf
returns-in-IndexOf c =
    let p = c.in-IndexOf in
    let rest = c.pop.new.self.items in
    let level = c.args.level in
    bind_stops level (expression_of c.loop-inner.value) c.loop-inner.self.all.items rest c.push_reserved-in-IndexOf.new.self.items (code.IndexOf p.at p.name)
    (bind level (expression_of c.args.value) (open_of c.args.self.now)) (c.in-Some.ensures.items ∙ ap (λ o. rest ++ o ∷ []) p.is)
    c.push_reserved-in-IndexOf.ensures.items c.loop-inner.invariant.whole refl
