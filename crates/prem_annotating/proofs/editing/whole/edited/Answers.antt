use Rattle.std.proofs.Common.{◌++◌, List, ℕ, get_or, ap, ◌∙◌, arith}
use Rattle.prem_annotating.proofs.Prelude.{over}
use Rattle.prem_annotating.proofs.EditingLemmas.Standing.{over_is, over_next, token_next, order_next, line_next, col_next}
use Rattle.prem_annotating.proofs.editing.whole.edited.Goals as goal

pub loop-i-init : goal.loop-i-init
loop-i-init c = record {
  so_far = ap (λ (l : List ℕ). l ++ over c.args.tokens.now c.args.orders.now _ _ c.args.text.now) c.new-out.ensures.items ∙ over_is c.args.tokens.now c.args.orders.now _ _ c.args.text.now;
  line = omega arith;
  col = omega arith;
  token = omega arith;
  order = omega arith;
}

pub loop-i-preserved : goal.loop-i-preserved
loop-i-preserved c =
    let l = c.loop-i in
    let b = get_or c.args.text.now l.i 0 in
    let tokens = c.args.tokens.now in
    let orders = c.args.orders.now in
    let next = over_next tokens orders l.at l.standing l.i c.args.text.now l.out.items c.advance.new.out.items _ (omega arith) c.in_ok-standing.ensures.put l.invariant.so_far in
    let stood = c.in_ok-standing.ensures.standing in
    let placed = c.behind-at.ensures in
    let token = token_next tokens orders l.at l.standing b in
    let order = order_next tokens orders l.at l.standing b in
    let line = line_next l.at b in
    let col = col_next l.at b in
    record {
      so_far = rw (placed, stood) next;
      line = rw placed (omega (arith, line, l.invariant.line));
      col = rw placed (omega (arith, col, l.invariant.col));
      token = rw stood (omega (arith, token, l.invariant.token));
      order = rw stood (omega (arith, order, l.invariant.order));
    }
