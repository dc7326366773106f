use Rattle.std.proofs.Common.{List, ap, sym, ◌∙◌}
use Rattle.prem_syntax.specs.Syntax.{ProgramText}
use Rattle.prem_syntax.specs.SyntaxOf.{program_of}
use Rattle.prem_layout.specs.Rules.{over_tasks}
use Rattle.prem_tasks.specs.Broken.{TaskText, text_rules, program_rules, programs_of}
use Rattle.prem_stages.proofs.Groups.{few_programs}
use Rattle.prem_stages.proofs.front.checked_programs.Goals as goal

pub check_all-requires : goal.check_all-requires
check_all-requires c = few_programs program_of c.in_ok-texts.texts.items c.tasks.result.now c.in_ok-texts.ensures.programs c.in_ok-texts.ensures.ends c.tasks.ensures.ranges.count.1

pub returns-clause-formed : goal.returns-clause-formed
returns-clause-formed c =
    let tasks = c.tasks.ensures.tasks in
    let listed = c.in_ok-texts.ensures.programs ∙ ap programs_of tasks in
    record {
      texts_are_read = ap (λ (ts : List TaskText). over_tasks text_rules ts) (sym tasks) ∙ c.in_ok-texts.ensures.ends;
      programs_are_formed = ap (λ (ps : List ProgramText). over_tasks program_rules ps) (sym listed) ∙ c.in_ok-programs.ensures.ends;
      programs_are = c.in_ok-programs.ensures.programs ∙ listed;
    }
