use Rattle.std.specs.Prelude.{slice_index}
use Rattle.std.proofs.Common.{◌≡◌, ◌<◌, ◌≤◌, ◌++◌, ap, sym, ◌∙◌, arith, subst, map, get_or, length, refl, None}
use Rattle.std.proofs.lemmas.List.{append-nil}
use Rattle.prem_list.specs.Sequence.{items_of}
use Rattle.prem_tree.specs.Resolve.ResolvedOf.{routine_of, resolved_of}
use Rattle.prem_layout.specs.Template.Limits.{excess_among}
use Rattle.prem_layout.specs.Template.Parts.{parts_of, codes_of}
use Rattle.prem_gen.specs.Term.Excess.{Exceeds}
use Rattle.prem_gen.specs.Codes.Codes.{code_at, excess_at, CalleesFit}
use Rattle.prem_gen.proofs.RoutineLemmas.Lists.{drop_end}
use Rattle.prem_gen.proofs.TableLemmas.Parts.{length_same}
use Rattle.prem_gen.proofs.CodesLemmas.Numbered.{loops_at}
use Rattle.prem_gen.proofs.CodesLemmas.Told.{there}
use Rattle.prem_gen.proofs.CodesLemmas.All.{view, callees_fit, codes_next, fits_next, excess_next, exceeds_here, take_next}
use Rattle.prem_gen.proofs.codes.generator.codes.Goals as goal

pub code_at-requires-clause-callees : goal.code_at-requires-clause-callees
code_at-requires-clause-callees c =
    let p = resolved_of (slice_index c.args.turns.now) c.args.r.now in
    subst (CalleesFit p) (sym c.loop-routine.invariant.number) (callees_fit p c.loop-routine.routine-index c.requires.small c.loop-routine.invariant.fits)

pub returns-in-Err-clause-excess : goal.returns-in-Err-clause-excess
returns-in-Err-clause-excess c =
    let turns = slice_index c.args.turns.now in
    let p = resolved_of turns c.args.r.now in
    let i = c.loop-routine.routine-index in
    let inside = subst (λ ys. i < length ys) c.items-routines.ensures c.loop-routine-test.true in
    let at = there turns c.args.r.now i c.loop-routine.turn c.routine-item.result c.items-routines.result.now c.items-routines.ensures inside c.routine-item.is c.loop-routine.invariant.turn in
    exceeds_here p i (routine_of turns c.loop-routine.turn c.routine-item.result) c.in-Err.e _ at c.loop-routine.invariant.excess
    (subst (λ k. Exceeds c.in-Err.e (excess_at p k)) c.loop-routine.invariant.number c.in-Err.ensures.excess)

pub overflow_add-turn : goal.overflow_add-turn
overflow_add-turn c =
    let rs = items_of c.args.r.now.routines in
    let i = c.loop-routine.routine-index in
    let inside = subst (λ ys. i < length ys) c.items-routines.ensures c.loop-routine-test.true in
    let is = c.routine-item.is ∙ ap (λ ys. get_or ys i c.routine-item.result) c.items-routines.ensures in
    let among = loops_at rs i c.routine-item.result inside is in
    omega (arith, among, c.requires.loops, c.loop-routine.invariant.turn, c.loops-turn.ensures)

pub loop-routine-preserved : goal.loop-routine-preserved
loop-routine-preserved c =
    let turns = slice_index c.args.turns.now in
    let p = resolved_of turns c.args.r.now in
    let rs = items_of c.args.r.now.routines in
    let i = c.loop-routine.routine-index in
    let r = c.routine-item.result in
    let number = c.loop-routine.invariant.number in
    let inside = subst (λ ys. i < length ys) c.items-routines.ensures c.loop-routine-test.true in
    let is = c.routine-item.is ∙ ap (λ ys. get_or ys i r) c.items-routines.ensures in
    let among = loops_at rs i r inside is in
    let f = routine_of turns c.loop-routine.turn r in
    let at = there turns c.args.r.now i c.loop-routine.turn r c.items-routines.result.now c.items-routines.ensures inside c.routine-item.is c.loop-routine.invariant.turn in
    let none : excess_at p i ≡ None = ap (excess_at p) (sym number) ∙ c.in-Ok.ensures.excess in
    let code : view c.in-Ok.code ≡ code_at c.args.target p i = c.in-Ok.ensures.code ∙ ap (code_at c.args.target p) number in
    record {
      number = omega (arith, number);
      turn = omega (arith, take_next rs i r inside is, among, c.requires.loops, c.loop-routine.invariant.turn, c.loops-turn.ensures);
      codes =
          codes_next c.args.target p (parts_of c.args.target p.routines) i f (items_of c.loop-routine.codes) (items_of c.push.new.self) c.in-Ok.code _ at refl code
          c.in_ok-push-in-Ok.ensures.ok c.loop-routine.invariant.codes;
      fits = fits_next p i f at none c.loop-routine.invariant.fits;
      excess = sym (excess_next p i f at none) ∙ c.loop-routine.invariant.excess;
    }

pub returns-clause-codes : goal.returns-clause-codes
returns-clause-codes c =
    let turns = slice_index c.args.turns.now in
    let p = resolved_of turns c.args.r.now in
    let i = c.loop-routine.routine-index in
    let outside = subst (λ ys. length ys ≤ i) c.items-routines.ensures c.loop-routine-test.false in
    let dropped = drop_end p.routines i (omega (arith, outside, length_same turns 0 (items_of c.args.r.now.routines))) in
    sym (append-nil (map view (items_of c.loop-routine.codes)))
    ∙ ap (λ fs. map view (items_of c.loop-routine.codes) ++ codes_of (parts_of c.args.target p.routines) fs) (sym dropped)
    ∙ c.loop-routine.invariant.codes

pub returns-clause-excess : goal.returns-clause-excess
returns-clause-excess c =
    let turns = slice_index c.args.turns.now in
    let p = resolved_of turns c.args.r.now in
    let i = c.loop-routine.routine-index in
    let outside = subst (λ ys. length ys ≤ i) c.items-routines.ensures c.loop-routine-test.false in
    let dropped = drop_end p.routines i (omega (arith, outside, length_same turns 0 (items_of c.args.r.now.routines))) in
    sym c.loop-routine.invariant.excess ∙ ap (excess_among i) dropped
