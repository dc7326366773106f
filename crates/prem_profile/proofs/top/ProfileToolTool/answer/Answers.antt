use Rattle.std.specs.Prelude.{map, string_bytes}
use Rattle.std.proofs.Common.{sym}
use Rattle.prem_answer.proofs.Told.{asked_given, usage_given}
use Rattle.prem_profile.specs.Words.{profile_asked}
use Rattle.prem_profile.specs.Answer.{profile_tool}
use Rattle.prem_profile.proofs.top.ProfileToolTool.answer.Goals as goal

pub returns-in-Some-clause-answer : goal.returns-in-Some-clause-answer
returns-in-Some-clause-answer g c =
    asked_given (g.S.Store.files c.args.store.now) profile_tool.usage profile_tool.stages (profile_tool.asked_of (map string_bytes c.args.words.now))
    (profile_asked c.in-Some.asked) c.profile_answer.result
    (sym c.in-Some.ensures) c.profile_answer.ensures.answer

pub returns-in-None-clause-answer : goal.returns-in-None-clause-answer
returns-in-None-clause-answer g c =
    usage_given (g.S.Store.files c.args.store.now) profile_tool.usage profile_tool.stages (profile_tool.asked_of (map string_bytes c.args.words.now)) c.usage.result
    (sym c.in-None.ensures) c.usage.ensures.usage

pub returns-in-None-clause-fault : goal.returns-in-None-clause-fault
returns-in-None-clause-fault g c h = absurd (c.usage.ensures.unread h)
