use Rattle.std.proofs.lemmas.Result.{err_from_is_err_and}
use Rattle.prem_tasks.specs.SetOf.{set_of}
use Rattle.prem_stages.specs.Stages.{checked_text}
use Rattle.prem_stages.proofs.Groups.{few_read}
use Rattle.prem_annotate.specs.Writing.Text.{annotated_text}
use Rattle.prem_annotate_answer.proofs.Stages.{are_ranged, stops_at_ranges, stops_at_bounds, stops_at_rules, set_is_annotated}
use Rattle.prem_annotate_answer.proofs.set.annotate_formed.Goals as goal

pub other_rules-requires : goal.other_rules-requires
other_rules-requires c =
    few_read checked_text c.args.programs.now c.tasks-tasks.result.now c.tasks-tasks.ensures.tasks c.requires.programs_are c.requires.texts_are_read c.tasks-tasks.ensures.ranges.count.1

pub returns-in_err-other_rules : goal.returns-in_err-other_rules
returns-in_err-other_rules c =
    let p = err_from_is_err_and c.from_residual.result c.from_residual.ensures.1 in
    rw (p.1, p.2) (stops_at_ranges annotated_text (set_of c.args.set.now) c.args.programs.now c.in_err-other_rules.field-0.0 c.requires c.in_err-other_rules.ensures)

pub returns-in_err-bounds : goal.returns-in_err-bounds
returns-in_err-bounds c =
    let p = err_from_is_err_and c.from_residual-in_err-bounds.result c.from_residual-in_err-bounds.ensures.1 in
    let set = set_of c.args.set.now in
    let ranged = are_ranged set c.args.programs.now c.requires c.in_ok-other_rules.ensures in
    rw (p.1, p.2) (stops_at_bounds annotated_text set c.args.programs.now (set_of c.in_ok-first.first) c.in_err-bounds.field-0.0 c.requires ranged c.in_ok-first.ensures c.in_err-bounds.ensures)

pub returns-in_err-new : goal.returns-in_err-new
returns-in_err-new c =
    let p = err_from_is_err_and c.from_residual-in_err-new.result c.from_residual-in_err-new.ensures.1 in
    let set = set_of c.args.set.now in
    let ranged = are_ranged set c.args.programs.now c.requires c.in_ok-other_rules.ensures in
    rw (p.1, p.2)
    (stops_at_rules annotated_text set c.args.programs.now (set_of c.in_ok-first.first) (set_of c.in_ok-last.last)
    c.in_err-new.field-0.0 c.requires ranged c.in_ok-first.ensures c.in_ok-bounds.ensures.lawful c.in_ok-last.ensures c.in_err-new.ensures.ends)

pub returns : goal.returns
returns c =
    let set = set_of c.args.set.now in
    let ranged = are_ranged set c.args.programs.now c.requires c.in_ok-other_rules.ensures in
    set_is_annotated annotated_text set c.args.programs.now (set_of c.in_ok-first.first) (set_of c.in_ok-last.last) (set_of c.in_ok-new.new)
    c.requires ranged c.in_ok-first.ensures c.in_ok-bounds.ensures.lawful c.in_ok-last.ensures
    c.in_ok-new.ensures.same c.in_ok-new.ensures.ends
