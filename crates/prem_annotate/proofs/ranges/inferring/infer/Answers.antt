use Rattle.prem_annotate.proofs.Prelude.{plain_routine, outlook_with, slot_of, row_of, with_arguments, argument_of, ParameterRange, Argument, List, ap, ◌∙◌, arith, map, refl}
use Rattle.prem_annotate.proofs.Outlooks.{none_inferred, inferred_next, row_there, ranged_there}
use Rattle.std.proofs.Common.{◌-◌}
use Rattle.prem_annotate.proofs.ranges.inferring.infer.Goals as goal

pub loop-n-init : goal.loop-n-init
loop-n-init c = record { found = none_inferred c.args.routines.now c.in_ok-rows.rows.items c.new-all.result.items c.in_ok-rows.ensures c.new-all.ensures.items; within = omega arith }

pub index-requires : goal.index-requires
index-requires c =
    let l = c.loop-n in
    let long = row_there _ (map plain_routine c.args.routines.now) c.args.routines.now l.rows.items refl l.invariant.found.rows_are in
    omega (arith, long, l.invariant.within)

pub regard-requires : goal.regard-requires
regard-requires c = ranged_there c.args.routines.now (c.loop-n.n - 1) c.index-routines-n.result c.requires (omega arith) c.index-routines-n.is

pub loop-n-preserved : goal.loop-n-preserved
loop-n-preserved c =
    let l = c.loop-n in
    let long = row_there _ (map plain_routine c.args.routines.now) c.args.routines.now l.rows.items refl l.invariant.found.rows_are in
    record {
      found = inferred_next c.args.routines.now l.n c.index-routines-n.result l.rows.items c.add_all.new.rows.items c.index.result.now l.all.items c.push.new.self.items c.in_ok-found.found
          (omega arith) l.invariant.within (omega (arith, long, l.invariant.within)) c.index-routines-n.is c.index.ensures l.invariant.found
          (c.in_ok-found.ensures ∙ ap (λ (row : List ParameterRange). outlook_with (map slot_of row) (plain_routine c.index-routines-n.result)) c.deref.ensures.value)
          (c.add_all.ensures ∙ ap (λ (as_ : List Argument). with_arguments (map argument_of as_) (map row_of l.rows.items)) c.deref-in-loop-n.ensures.value)
          c.in_ok-push.ensures.items;
      within = omega (arith, l.invariant.within);
    }
