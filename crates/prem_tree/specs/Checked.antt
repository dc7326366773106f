-- The program of a checked one.
use Rattle.prem_syntax.specs.declared.tree.Program.{Program}
use Rattle.prem_tree.specs.declared.checked.Checked.{Checked}

abbrev pub checked_program : Checked → Program
checked_program c = c.program
