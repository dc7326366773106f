use Rattle.std.specs.Prelude.{Ok}
use Rattle.std.proofs.Common.{ap, refl}
use Rattle.prem_tasks.specs.Broken.{broken}
use Rattle.prem_tasks.specs.SetOf.{set_of}
use Rattle.prem_answer.specs.Stages.{reply_of}
use Rattle.prem_answer.proofs.Refused.{refused_comes}
use Rattle.prem_exec.specs.Sources.Sources.{input_of}
use Rattle.prem_running.proofs.Runs.{input_fits}
use Rattle.prem_pair_top.specs.Words.{pair_asked}
use Rattle.prem_pair_top.specs.Stages.{judged_reply}
use Rattle.prem_pair_top.proofs.CompiledSets.{asks_nothing, both_told, compiled_counts_due, refused_on}
use Rattle.prem_pair_top.proofs.answer.sets_answer.Goals as goal

pub told_answer-requires-clause-one : goal.told_answer-requires-clause-one
told_answer-requires-clause-one c = let x = c.args.sets.now in input_fits (set_of x.one.now) c.in-Ok.one x.input.now c.in-Ok.ensures c.requires.one

pub told_answer-requires-clause-two : goal.told_answer-requires-clause-two
told_answer-requires-clause-two c = let x = c.args.sets.now in input_fits (set_of x.two.now) c.in-Ok-compile.two x.other.now c.in-Ok-compile.ensures c.requires.two

pub told_answer-requires-clause-none : goal.told_answer-requires-clause-none
told_answer-requires-clause-none c =
    let x = c.args.sets.now in
    asks_nothing (set_of x.two.now) c.in-Ok-compile.two x.other.now c.in-Ok-compile.ensures c.requires.two c.requires.none

pub told_answer-requires-clause-due : goal.told_answer-requires-clause-due
told_answer-requires-clause-due c = compiled_counts_due (set_of c.args.sets.now.one.now) c.in-Ok.one c.in-Ok.ensures

pub told_answer-requires-clause-other_due : goal.told_answer-requires-clause-other_due
told_answer-requires-clause-other_due c = compiled_counts_due (set_of c.args.sets.now.two.now) c.in-Ok-compile.two c.in-Ok-compile.ensures

pub returns-in-Ok-compile-clause-answer : goal.returns-in-Ok-compile-clause-answer
returns-in-Ok-compile-clause-answer c =
    let x = c.args.sets.now in
    ap Ok
    (both_told (pair_asked c.args.asked.now) (set_of x.one.now) (set_of x.two.now) (input_of x.input.now) (input_of x.other.now)
    c.in-Ok.one c.in-Ok-compile.two (reply_of c.in_ok-told_answer-in-Ok-compile.field-0)
    c.in-Ok.ensures c.in-Ok-compile.ensures c.in_ok-told_answer-in-Ok-compile.ensures)

pub returns-in-Err-clause-answer : goal.returns-in-Err-clause-answer
returns-in-Err-clause-answer c =
    let x = c.args.sets.now in
    let two = set_of x.two.now in
    let judged = judged_reply (pair_asked c.args.asked.now) (set_of x.one.now) two (input_of x.input.now) (input_of x.other.now) in
    refused_comes (refused_on 0 (set_of x.one.now)) (λ first. judged first (broken two)) (broken (set_of x.one.now)) c.in-Err.fail c.uncompiled.result (λ rule. refl)
    c.in-Err.ensures c.uncompiled.ensures.answer
