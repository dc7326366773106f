use Rattle.prem_compile.proofs.Colored.{colors_are_lawful, colors_leave_no_conflict}
use Rattle.prem_compile.proofs.laws.colors_leave_no_conflict.Goals as goal

pub returns-clause-lawful : goal.returns-clause-lawful
returns-clause-lawful c = colors_are_lawful

pub returns-clause-conflict : goal.returns-clause-conflict
returns-clause-conflict c = colors_leave_no_conflict
