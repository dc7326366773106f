use Rattle.prem_analysis.proofs.MarksLemmas.Sets.{item_at, below_step}
use Rattle.std.proofs.Common.{sym, ◌∙◌, ◌-◌, map, arith}
use Rattle.prem_analysis.proofs.marks.reach.add_callees_below.Goals as goal

pub loop-n-preserved-then-set-n : goal.loop-n-preserved-then-set-n
loop-n-preserved-then-set-n c =
    let l = c.loop-n in
    record {
      rest = below_step (map (λ cs. cs.items) c.args.table.now) l.n l.set c.add_all.new.set c.deref.result.now (omega arith) c.if-set-n.true
          (item_at (λ cs. cs.items) c.args.table.now (l.n - 1) c.index-table-n.result _ (omega arith) c.index-table-n.is ∙ sym c.deref.ensures.value) c.add_all.ensures ∙ l.invariant.rest;
      within = omega (arith, l.invariant.within);
    }
