use Rattle.std.specs.Prelude.{map, option_map, string_bytes}
use Rattle.std.proofs.Common.{ap, ◌∙◌, sym}
use Rattle.prem_answer.proofs.Told.{asked_given, usage_given}
use Rattle.prem_time.specs.Asked.{asked_in}
use Rattle.prem_time.specs.Answer.{time_tool}
use Rattle.prem_time.proofs.WordsAre.{asked_are}
use Rattle.prem_time.proofs.top.TimeToolTool.answer.Goals as goal

pub time_answer-requires : goal.time_answer-requires
time_answer-requires g c = asked_are (map string_bytes c.args.words.now) (asked_in c.in-Some.asked) (sym c.in_ok-asked.ensures ∙ ap (option_map asked_in) c.in-Some.is)

pub returns-in-Some-clause-answer : goal.returns-in-Some-clause-answer
returns-in-Some-clause-answer g c =
    asked_given (g.S.Store.files c.args.store.now) time_tool.usage time_tool.stages (time_tool.asked_of (map string_bytes c.args.words.now)) (asked_in c.in-Some.asked) c.time_answer.result
    (sym c.in_ok-asked.ensures ∙ ap (option_map asked_in) c.in-Some.is) c.time_answer.ensures.answer

pub returns-in-None-clause-answer : goal.returns-in-None-clause-answer
returns-in-None-clause-answer g c =
    usage_given (g.S.Store.files c.args.store.now) time_tool.usage time_tool.stages (time_tool.asked_of (map string_bytes c.args.words.now)) c.usage.result
    (sym c.in_ok-asked.ensures ∙ ap (option_map asked_in) c.in-None.is) c.usage.ensures.usage
