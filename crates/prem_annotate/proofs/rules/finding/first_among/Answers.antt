use Rattle.std.proofs.Common.{◌-◌, ◌≡◌, List, ap, ◌∙◌, ◌<◌, length, arith, map, refl}
use Rattle.prem_annotate.proofs.Prelude.{plain_routine, found_of, outlook_with, slot_of, row_of, with_arguments, routine_with, unwatched_site, argument_of, ParameterRange, Argument}
use Rattle.prem_annotate.proofs.Prelude.{in_routine, first_of, unlimited, global_of, routines_of, Global, Vec}
use Rattle.prem_annotate.proofs.Outlooks.{row_there, ranged_there}
use Rattle.prem_annotate.proofs.RulesLemmas.Found.{none_found, found_next, same_got}
use Rattle.prem_tree.specs.declared.resolve.resolved.Routine.{Routine}
use Rattle.prem_annotate.proofs.rules.finding.first_among.Goals as goal

pub loop-n-init : goal.loop-n-init
loop-n-init c = record {
  found =
      none_found (map (λ g. global_of g.now) c.args.globals.now) (routines_of unlimited.turns 0 c.args.routines.now)
      c.args.routines.now c.in_ok-rows.rows.items c.in_ok-rows.ensures;
  within = omega arith;
}

pub index-requires : goal.index-requires
index-requires c =
    let l = c.loop-n in
    let long = row_there _ (map plain_routine c.args.routines.now) c.args.routines.now l.rows.items refl l.invariant.found.rows_are in
    omega (arith, long, l.invariant.within)

pub in_routine-requires : goal.in_routine-requires
in_routine-requires c = ranged_there c.args.routines.now (c.loop-n.n - 1) c.index-routines-n.result c.requires (omega arith) c.index-routines-n.is

pub index-requires-in-loop-n : goal.index-requires-in-loop-n
index-requires-in-loop-n c =
    let l = c.loop-n in
    let long = row_there _ (map plain_routine c.args.routines.now) c.args.routines.now l.rows.items refl l.invariant.found.rows_are in
    omega (arith, long, l.invariant.within)

pub regard-requires : goal.regard-requires
regard-requires c = ranged_there c.args.routines.now (c.loop-n.n - 1) c.index-routines-n-in-loop-n.result c.requires (omega arith) c.index-routines-n-in-loop-n.is

pub loop-n-preserved : goal.loop-n-preserved
loop-n-preserved c =
    let l = c.loop-n in
    let routines = c.args.routines.now in
    let gs = map (λ g. global_of g.now) c.args.globals.now in
    let rs = routines_of unlimited.turns 0 routines in
    let site = unwatched_site gs rs in
    let long = row_there _ (map plain_routine routines) routines l.rows.items refl l.invariant.found.rows_are in
    let in_rows : l.n - 1 < length l.rows.items = omega (arith, long, l.invariant.within) in
    let one_r = c.index-routines-n.result in
    let two_r = c.index-routines-n-in-loop-n.result in
    let one_row = c.index.result.now in
    let two_row = c.index-in-loop-n.result.now in
    let same_r : one_r ≡ two_r = same_got routines (l.n - 1) one_r two_r (omega (arith, l.invariant.within)) c.index-routines-n.is c.index-routines-n-in-loop-n.is in
    let same_row : one_row ≡ two_row = same_got l.rows.items (l.n - 1) one_row two_row in_rows c.index.ensures c.index-in-loop-n.ensures in
    record {
      found = found_next gs rs routines l.n two_r l.rows.items c.add_all.new.rows.items two_row c.in_ok-found.found (found_of l.first) (found_of c.in_ok-own.own) (found_of c.earlier-first.result)
          (omega arith) l.invariant.within (omega (arith, long, l.invariant.within)) c.index-routines-n-in-loop-n.is c.index-in-loop-n.ensures l.invariant.found
          (c.in_ok-found.ensures ∙ ap (λ (row : List ParameterRange). outlook_with (map slot_of row) (plain_routine two_r)) c.deref-in-loop-n.ensures.value)
          (c.add_all.ensures ∙ ap (λ (as_ : List Argument). with_arguments (map argument_of as_) (map row_of l.rows.items)) c.deref-in-loop-n-2.ensures.value)
          (c.in_ok-own.ensures ∙ ap (λ (row : List ParameterRange). first_of (in_routine site (routine_with (map slot_of row) (plain_routine one_r)))) c.deref.ensures.value
          ∙ ap (λ (row : Vec ParameterRange Global). first_of (in_routine site (routine_with (row_of row) (plain_routine one_r)))) same_row
          ∙ ap (λ (r : Routine). first_of (in_routine site (routine_with (row_of two_row) (plain_routine r)))) same_r)
          c.earlier-first.ensures;
      within = omega (arith, l.invariant.within);
    }
