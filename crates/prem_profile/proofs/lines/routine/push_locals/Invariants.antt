use Rattle.std.proofs.Common.{◌≡◌, ◌++◌, map, length}
use Rattle.prem_syntax.specs.SyntaxOf.{local_of}
use Rattle.prem_tree.specs.Resolve.ResolvedOf.{term_of}
use Rattle.prem_profile.specs.Lines.Table.{local_lines}
use Rattle.prem_profile.proofs.lines.routine.push_locals.Given as goal

-- what is there, and what is left
abbrev pub invariant-values : goal.invariant-values
invariant-values l =
    l.lines.items ++ local_lines l.target l.line (map local_of l.left) (map term_of l.rest) ≡ l.initial.lines.items ++ local_lines l.target l.line (map local_of l.locals) (map term_of l.values)

abbrev pub decreases-values : goal.decreases-values
decreases-values l = length l.rest
