use Rattle.std.specs.Prelude.{map, string_bytes}
use Rattle.std.proofs.Common.{sym}
use Rattle.prem_answer.proofs.Told.{asked_given, usage_given}
use Rattle.prem_pair_top.specs.Words.{pair_asked}
use Rattle.prem_pair_top.specs.Answer.{pair_tool}
use Rattle.prem_pair_top.proofs.top.PairToolTool.answer.Goals as goal

pub returns-in-Some-clause-answer : goal.returns-in-Some-clause-answer
returns-in-Some-clause-answer g c =
    asked_given (g.S.Store.files c.args.store.now) pair_tool.usage pair_tool.stages (pair_tool.asked_of (map string_bytes c.args.words.now)) (pair_asked c.in-Some.asked) c.pair_answer.result
    (sym c.in-Some.ensures) c.pair_answer.ensures.answer

pub returns-in-None-clause-answer : goal.returns-in-None-clause-answer
returns-in-None-clause-answer g c =
    usage_given (g.S.Store.files c.args.store.now) pair_tool.usage pair_tool.stages (pair_tool.asked_of (map string_bytes c.args.words.now)) c.usage.result
    (sym c.in-None.ensures) c.usage.ensures.usage
