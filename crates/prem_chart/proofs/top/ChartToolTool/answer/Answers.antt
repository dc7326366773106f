use Rattle.std.specs.Prelude.{map, option_map, string_bytes}
use Rattle.std.proofs.Common.{ap, ◌∙◌}
use Rattle.prem_answer.proofs.Told.{asked_given, usage_given}
use Rattle.prem_chart.specs.Asked.{asked_in}
use Rattle.prem_chart.specs.Answer.{chart_tool}
use Rattle.prem_chart.proofs.Asking.{asked_ranges, asked_same}
use Rattle.prem_chart.proofs.top.ChartToolTool.answer.Goals as goal

pub chart_answer-requires : goal.chart_answer-requires
chart_answer-requires g c =
    asked_ranges (map string_bytes c.args.words.now) (asked_in c.in-Some.asked)
    (asked_same (map string_bytes c.args.words.now) c.in_ok-plain.field-0 (map string_bytes c.deref.result.now) (map string_bytes c.deref-2.result.now)
    c.in_ok-plain.ensures (ap (map string_bytes) c.deref.ensures.value) (ap (map string_bytes) c.deref-2.ensures.value) c.in_ok-asked.ensures ∙ ap (option_map asked_in) c.in-Some.is)

pub returns-in-Some-clause-answer : goal.returns-in-Some-clause-answer
returns-in-Some-clause-answer g c =
    asked_given (g.S.Store.files c.args.store.now) chart_tool.usage chart_tool.stages (chart_tool.asked_of (map string_bytes c.args.words.now)) (asked_in c.in-Some.asked) c.chart_answer.result
    (asked_same (map string_bytes c.args.words.now) c.in_ok-plain.field-0 (map string_bytes c.deref.result.now) (map string_bytes c.deref-2.result.now)
    c.in_ok-plain.ensures (ap (map string_bytes) c.deref.ensures.value) (ap (map string_bytes) c.deref-2.ensures.value) c.in_ok-asked.ensures ∙ ap (option_map asked_in) c.in-Some.is)
    c.chart_answer.ensures.answer

pub returns-clause-answer : goal.returns-clause-answer
returns-clause-answer g c =
    usage_given (g.S.Store.files c.args.store.now) chart_tool.usage chart_tool.stages (chart_tool.asked_of (map string_bytes c.args.words.now)) c.usage.result
    (asked_same (map string_bytes c.args.words.now) c.in_ok-plain.field-0 (map string_bytes c.deref.result.now) (map string_bytes c.deref-2.result.now)
    c.in_ok-plain.ensures (ap (map string_bytes) c.deref.ensures.value) (ap (map string_bytes) c.deref-2.ensures.value) c.in_ok-asked.ensures ∙ ap (option_map asked_in) c.in-None.is)
    c.usage.ensures.usage
