use Rattle.std.specs.List.{AllByRecursion}
use Rattle.std.proofs.Common.{map, ◌∙◌, subst}
use Rattle.std.proofs.lemmas.Result.{err_from_is_err_and}
use Rattle.prem_plant.specs.declared.plant.Plant.{Plant}
use Rattle.prem_tasks.specs.SetOf.{set_of}
use Rattle.prem_stages.specs.Stages.{checked_text}
use Rattle.prem_stages.specs.Programs.{IsCodedProgram, bounded_text}
use Rattle.prem_stages.proofs.Groups.{few_read, kept_well, at_ranges, at_code, set_is_coded}
use Rattle.prem_stages.proofs.front.coded_programs.Goals as goal

pub bound_all-requires : goal.bound_all-requires
bound_all-requires c =
    few_read checked_text c.args.programs.now c.tasks-tasks.result.now c.tasks-tasks.ensures.tasks c.requires.programs_are c.requires.texts_are_read c.tasks-tasks.ensures.ranges.count.1

pub code_all-requires-clause-few : goal.code_all-requires-clause-few
code_all-requires-clause-few c =
    few_read bounded_text c.in_ok-bounded.bounded.items c.tasks-tasks.result.now c.tasks-tasks.ensures.tasks
    (c.in_ok-bounded.ensures.programs ∙ c.requires.programs_are) c.requires.texts_are_read c.tasks-tasks.ensures.ranges.count.1

pub returns-in_err-bounded : goal.returns-in_err-bounded
returns-in_err-bounded c =
    let p = err_from_is_err_and c.from_residual.result c.from_residual.ensures.1 in
    let set = set_of c.args.set.now in
    rw (p.1, p.2) (at_ranges set c.in_err-bounded.field-0.0 c.args.programs.now c.requires c.in_err-bounded.ensures.ends)

pub returns-in_err-coded : goal.returns-in_err-coded
returns-in_err-coded c =
    let p = err_from_is_err_and c.from_residual-in_err-coded.result c.from_residual-in_err-coded.ensures.1 in
    let set = set_of c.args.set.now in
    rw (p.1, p.2) (at_code set c.in_err-coded.field-0.0 (map bounded_text c.in_ok-bounded.bounded.items) (c.in_ok-bounded.ensures.programs ∙ c.requires.programs_are)
    (kept_well set c.args.programs.now c.requires c.in_ok-bounded.ensures.ends) c.in_err-coded.ensures.ends)

pub returns : goal.returns
returns c =
    let set = set_of c.args.set.now in
    let same = c.plant.ensures.plant in
    set_is_coded set c.in_ok-coded.coded.items (map bounded_text c.in_ok-bounded.bounded.items)
    (kept_well set c.args.programs.now c.requires c.in_ok-bounded.ensures.ends) (c.in_ok-bounded.ensures.programs ∙ c.requires.programs_are) c.in_ok-coded.ensures.ends
    c.in_ok-coded.ensures.programs (subst (λ (p : Plant). AllByRecursion (IsCodedProgram p.target) c.in_ok-coded.coded.items) same c.in_ok-coded.ensures.coded)
