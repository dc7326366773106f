use Rattle.std.proofs.Common.{◌≡◌, drop}
use Rattle.prem_analysis.proofs.Prelude.{with_all}
use Rattle.prem_analysis.proofs.marks.reach.add_all.Given as goal

abbrev pub invariant-loop-c : goal.invariant-loop-c
invariant-loop-c l = with_all (drop l.c-index l.callees) l.set ≡ with_all l.callees l.initial.set
