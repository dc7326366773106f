use Rattle.std.proofs.Common.{ap, sym, ◌∙◌, ◌≤◌, ◌<◌, arith, rules, subst}
use Rattle.prem_layout.specs.Template.Limits.{deep_excess}
use Rattle.prem_gen.specs.Routine.Parts.{parts_in, turns_in}
use Rattle.prem_gen.specs.Routine.RoutineCode.{routine_code, routine_deep}
use Rattle.prem_gen.specs.Routine.FrameOf.{slots_in}
use Rattle.prem_gen.specs.Term.Excess.{Exceeds}
use Rattle.prem_gen.proofs.FrameLemmas.Limited.{frame_small}
use Rattle.prem_gen.proofs.RoutineLemmas.Whole.{frame_exceeds, frame_fits, whole_code, no_excess, deep_is_excess}
use Rattle.prem_gen.proofs.routine.routine.code_of.Goals as goal

pub returns-then-bytes-gt2032-clause-excess : goal.returns-then-bytes-gt2032-clause-excess
returns-then-bytes-gt2032-clause-excess c =
    rw (frame_exceeds c.args.number (turns_in c.args.task.now) c.args.turn c.args.routine.now (subst (λ k. 2032 < k) c.frame-bytes.ensures c.if-bytes-gt2032.true))
    (search rules)

pub returns-in-Ok-clause-pieces : goal.returns-in-Ok-clause-pieces
returns-in-Ok-clause-pieces c =
    let fits = subst (λ k. k ≤ 2032) c.frame-bytes.ensures c.if-bytes-gt2032.false in
    c.in-Ok.ensures.pieces
    ∙ ap (λ k. routine_code (parts_in c.args.task.now) (turns_in c.args.task.now) c.args.turn k c.args.routine.now) (c.frame-bytes.ensures ∙ (frame_small (slots_in c.args.routine.now) fits).1)
    ∙ whole_code (parts_in c.args.task.now) (turns_in c.args.task.now) c.args.turn c.args.routine.now

pub returns-in-Ok-clause-excess : goal.returns-in-Ok-clause-excess
returns-in-Ok-clause-excess c =
    frame_fits c.args.number (turns_in c.args.task.now) c.args.turn c.args.routine.now (subst (λ k. k ≤ 2032) c.frame-bytes.ensures c.if-bytes-gt2032.false)
    ∙ no_excess (routine_deep c.args.routine.now) c.in-Ok.ensures.deep

pub returns-in-Err-clause-excess : goal.returns-in-Err-clause-excess
returns-in-Err-clause-excess c =
    rw (frame_fits c.args.number (turns_in c.args.task.now) c.args.turn c.args.routine.now (subst (λ k. k ≤ 2032) c.frame-bytes.ensures c.if-bytes-gt2032.false))
    (subst (λ e. Exceeds e (deep_excess (routine_deep c.args.routine.now))) (sym c.gen_fail.ensures) (deep_is_excess c.in-Err.e (routine_deep c.args.routine.now) c.in-Err.ensures.deep))

pub code_in_frame-requires : goal.code_in_frame-requires
code_in_frame-requires c =
    let fits = subst (λ k. k ≤ 2032) c.frame-bytes.ensures c.if-bytes-gt2032.false in
    let slots = frame_small (slots_in c.args.routine.now) fits in
    record {
      first = c.requires.first;
      small = c.requires.small (subst (λ k. k ≤ 2032) slots.1 fits);
      slots = slots.0;
      least = omega (arith, c.frame-bytes.ensures);
      most = omega (arith, c.if-bytes-gt2032.false);
      turns = c.requires.turns;
    }
