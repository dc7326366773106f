use Rattle.std.proofs.Common.{◌≡◌, ◌++◌, map, drop}
use Rattle.prem_tree.specs.Resolve.ResolvedOf.{term_of}
use Rattle.prem_profile.specs.Lines.Table.{argument_lines}
use Rattle.prem_profile.proofs.lines.step.push_arguments.Given as goal

-- what is there, and what is left
abbrev pub invariant-loop-argument : goal.invariant-loop-argument
invariant-loop-argument l =
    l.lines.items ++ argument_lines l.target l.line (map term_of (drop l.argument-index l.arguments)) ≡ l.initial.lines.items ++ argument_lines l.target l.line (map term_of l.arguments)
