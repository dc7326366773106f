use Rattle.prem_annotate.proofs.Prelude.{row_of, map, arith}
use Rattle.prem_annotate.proofs.Slots.{arguments_before}
use Rattle.prem_annotate.proofs.ranges.slots.add_to_rows.Goals as goal

pub loop-n-preserved : goal.loop-n-preserved
loop-n-preserved c =
    let l = c.loop-n in
    record {
      rows_are = arguments_before c.args.arguments.now l.n c.index-arguments-n.result (map row_of l.rows) (map row_of c.add.new.rows) (map row_of c.args.rows.now)
          (omega arith) l.invariant.within c.index-arguments-n.is l.invariant.rows_are c.add.ensures;
      within = omega (arith, l.invariant.within);
    }
