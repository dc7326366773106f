use Rattle.std.proofs.Common.{◌≡◌}
use Rattle.prem_tiling.proofs.Prelude.{walk_of, undone}
use Rattle.prem_tiling.proofs.copies.stale.Stale.undo.Given as goal

abbrev pub invariant-trail : goal.invariant-trail
invariant-trail l = undone l.mark (walk_of l.self) ≡ undone l.mark (walk_of l.initial.self)

abbrev pub decreases-trail : goal.decreases-trail
decreases-trail l = goal.left-trail l
