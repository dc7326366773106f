use Rattle.std.proofs.Common.{◌≡◌, ap, sym, ◌∙◌, map, subst}
use Rattle.prem_syntax.specs.Name.{name_bytes}
use Rattle.prem_syntax.specs.Syntax.{ProgramText}
use Rattle.prem_syntax.specs.SyntaxOf.{program_of}
use Rattle.prem_ranges.specs.RangesKept.{first_range_breach}
use Rattle.prem_analysis.specs.Told.{IsRefusal}
use Rattle.prem_tasks.specs.Told.{told_of}
use Rattle.prem_stages.specs.Stages.{checked_text, function_names, global_names}
use Rattle.prem_stages.proofs.Ranges.{names_there, range_stops}
use Rattle.prem_stages.proofs.analyse.turns_one.Goals as goal

pub range_rule-requires : goal.range_rule-requires
range_rule-requires c =
    let p = program_of c.program-program.result.now in
    let text : p ≡ checked_text c.args.checked.now = ap program_of c.program-program.ensures.program in
    let names = c.in_ok-names-in-Err.names in
    let refused : IsRefusal c.in-Err.fail (first_range_breach p) = subst (λ (q : ProgramText). IsRefusal c.in-Err.fail (first_range_breach q)) (sym text) c.in-Err.ensures in
    names_there p c.in-Err.fail names.functions.items names.globals.items c.program-program.ensures.well_formed c.have_words.ensures
    c.in_ok-names-in-Err.ensures.functions c.in_ok-names-in-Err.ensures.globals refused

pub returns-in_ok-range_rule-in-Err-clause-ends : goal.returns-in_ok-range_rule-in-Err-clause-ends
returns-in_ok-range_rule-in-Err-clause-ends c =
    let text : program_of c.program-program.result.now ≡ checked_text c.args.checked.now = ap program_of c.program-program.ensures.program in
    let names = c.in_ok-names-in-Err.names in
    range_stops (checked_text c.args.checked.now) c.in-Err.fail (map name_bytes names.functions.items) (map name_bytes names.globals.items)
    (told_of c.in_ok-range_rule-in-Err.field-0) c.refused.result c.args.task
    (c.in_ok-names-in-Err.ensures.functions ∙ ap function_names text) (c.in_ok-names-in-Err.ensures.globals ∙ ap global_names text) c.in-Err.ensures c.in_ok-range_rule-in-Err.ensures c.refused.ensures
