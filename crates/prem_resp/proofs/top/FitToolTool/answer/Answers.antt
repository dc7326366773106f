use Rattle.std.specs.Prelude.{map, string_bytes}
use Rattle.std.proofs.Common.{refl}
use Rattle.prem_answer.proofs.Told.{asked_given, usage_given}
use Rattle.prem_resp.specs.Answer.{fit_tool}
use Rattle.prem_resp.proofs.top.FitToolTool.answer.Goals as goal

pub returns-in-Some-clause-answer : goal.returns-in-Some-clause-answer
returns-in-Some-clause-answer g c =
    asked_given (g.S.Store.files c.args.store.now) fit_tool.usage fit_tool.stages (fit_tool.asked_of (map string_bytes c.args.words.now)) c.in-Some.name.now c.fit_answer.result
    c.in-Some.ensures.some c.fit_answer.ensures.answer

pub returns-in-None-clause-answer : goal.returns-in-None-clause-answer
returns-in-None-clause-answer g c =
    usage_given (g.S.Store.files c.args.store.now) fit_tool.usage fit_tool.stages (fit_tool.asked_of (map string_bytes c.args.words.now)) c.usage.result
    (c.in-None.ensures.none refl) c.usage.ensures.usage
