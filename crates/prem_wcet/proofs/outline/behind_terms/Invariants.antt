use Rattle.std.proofs.Common.{◌≡◌, drop, map}
use Rattle.prem_asm.specs.PiecesOf.{pieces_of}
use Rattle.prem_tree.specs.Resolve.ResolvedOf.{term_of}
use Rattle.prem_wcet.specs.Sliced.{behind_terms}
use Rattle.prem_wcet.proofs.outline.behind_terms.Given as goal

-- what is behind the rest
abbrev pub invariant-loop-term : goal.invariant-loop-term
invariant-loop-term l = behind_terms l.target (map term_of (drop l.term-index l.terms)) (pieces_of l.rest) ≡ behind_terms l.target (map term_of l.terms) (pieces_of l.code)
