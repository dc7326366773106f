use Rattle.std.specs.Prelude.{map, string_bytes}
use Rattle.std.proofs.Common.{refl}
use Rattle.prem_answer.proofs.Told.{usage_given}
use Rattle.prem_annotate_answer.specs.Answers.{annotate_tool}
use Rattle.prem_annotate_answer.proofs.top.AnnotateToolTool.answer.Goals as goal

pub returns-in-None-clause-answer : goal.returns-in-None-clause-answer
returns-in-None-clause-answer g c =
    usage_given (g.S.Store.files c.args.store.now) annotate_tool.usage annotate_tool.stages
    (annotate_tool.asked_of (map string_bytes c.args.words.now)) c.usage.result (c.in-None.ensures.none refl) c.usage.ensures.usage
