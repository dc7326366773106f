use Rattle.std.specs.Prelude.{map, string_bytes}
use Rattle.prem_command.specs.Words.{asked_in}
use Rattle.prem_answer.proofs.Told.{asked_given, usage_given}
use Rattle.prem_top.specs.Answer.{prem_tool}
use Rattle.prem_top.proofs.Ranges.{words_in_range}
use Rattle.prem_top.proofs.top.PremToolTool.answer.Goals as goal

pub asked_answer-requires : goal.asked_answer-requires
asked_answer-requires g c = words_in_range (map string_bytes c.args.words.now) (asked_in c.in-Ok.said) c.in-Ok.ensures

pub returns-in-Ok-clause-answer : goal.returns-in-Ok-clause-answer
returns-in-Ok-clause-answer g c =
    asked_given (g.S.Store.files c.args.store.now) prem_tool.usage prem_tool.stages (prem_tool.asked_of (map string_bytes c.args.words.now)) (asked_in c.in-Ok.said) c.asked_answer.result
    c.in-Ok.ensures c.asked_answer.ensures.answer

pub returns-in-Err-Usage-clause-answer : goal.returns-in-Err-Usage-clause-answer
returns-in-Err-Usage-clause-answer g c =
    let none = rw c.in-Err-Usage.field-0-is at c.in-Err-Usage.ensures in
    usage_given (g.S.Store.files c.args.store.now) prem_tool.usage prem_tool.stages (prem_tool.asked_of (map string_bytes c.args.words.now)) c.usage.result none c.usage.ensures.usage

pub returns-in-Err-Usage-clause-fault : goal.returns-in-Err-Usage-clause-fault
returns-in-Err-Usage-clause-fault g c h = absurd (c.usage.ensures.unread h)
