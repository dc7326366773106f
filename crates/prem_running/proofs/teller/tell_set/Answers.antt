use Rattle.std.specs.Prelude.{Ok}
use Rattle.std.proofs.Common.{ap, refl}
use Rattle.prem_tasks.specs.Broken.{broken}
use Rattle.prem_tasks.specs.SetOf.{set_of}
use Rattle.prem_answer.specs.Stages.{reply_of}
use Rattle.prem_answer.specs.Refusal.Texts.{refused_reply}
use Rattle.prem_answer.proofs.Refused.{refused_comes}
use Rattle.prem_exec.specs.Sources.Sources.{input_of}
use Rattle.prem_running.specs.Tellings.{judged_reply}
use Rattle.prem_running.proofs.Runs.{input_fits, limit_within}
use Rattle.prem_running.proofs.Tellings.{told_is}
use Rattle.prem_running.proofs.teller.tell_set.Goals as goal

pub tell_compiled-requires-clause-fits : goal.tell_compiled-requires-clause-fits
tell_compiled-requires-clause-fits g c = input_fits (set_of c.args.set.now) c.in-Ok.compiled c.args.input.now c.in-Ok.ensures c.requires.lawful

pub tell_compiled-requires-clause-limit : goal.tell_compiled-requires-clause-limit
tell_compiled-requires-clause-limit g c = limit_within c.args.set.now c.in-Ok.compiled c.in-Ok.ensures

pub returns-in_ok-tell_compiled-in-Ok-clause-answer : goal.returns-in_ok-tell_compiled-in-Ok-clause-answer
returns-in_ok-tell_compiled-in-Ok-clause-answer g c =
    ap Ok
    (told_is (g.T.Teller.told c.args.teller.now) (set_of c.args.set.now) (input_of c.args.input.now) c.in-Ok.compiled (reply_of c.in_ok-tell_compiled-in-Ok.field-0)
    c.in-Ok.ensures c.in_ok-tell_compiled-in-Ok.ensures)

pub returns-in-Err-clause-answer : goal.returns-in-Err-clause-answer
returns-in-Err-clause-answer g c =
    let set = set_of c.args.set.now in
    refused_comes (refused_reply set.tasks) (judged_reply (g.T.Teller.told c.args.teller.now) set (input_of c.args.input.now)) (broken set) c.in-Err.fail c.uncompiled.result
    (λ refusal. refl) c.in-Err.ensures c.uncompiled.ensures.answer
