use Rattle.std.proofs.Common.{◌≡◌, drop}
use Rattle.prem_analysis.proofs.Prelude.{watches_at, span_of, in_watches, first_of}
use Rattle.prem_analysis.proofs.ranging.access.in_watches.Given as goal

abbrev pub invariant-loop-m : goal.invariant-loop-m
invariant-loop-m l = first_of (in_watches l.at l.g (span_of l.r) (watches_at l.number l.marked)) ≡ first_of (in_watches l.at l.g (span_of l.r) (watches_at l.number (drop l.m-index l.marked)))
