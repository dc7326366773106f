use Rattle.std.proofs.Common.{◌≡◌, ◌++◌, drop, map}
use Rattle.prem_list.specs.Sequence.{items_of}
use Rattle.prem_tree.specs.Resolve.ResolvedOf.{term_of}
use Rattle.prem_wcet_laws.specs.Scopes.{globals_in_terms}
use Rattle.prem_wcet.proofs.outline.name_terms.Given as goal

-- what is there, and the rest
abbrev pub invariant-loop-term : goal.invariant-loop-term
invariant-loop-term l = items_of l.names ++ globals_in_terms (map term_of (drop l.term-index l.terms)) ≡ items_of l.fn.names ++ globals_in_terms (map term_of l.terms)
