use Rattle.std.proofs.Common.{◌+◌, ◌*◌}
use Rattle.prem_asm.specs.Pieces.{size_of}
use Rattle.prem_asm.specs.PiecesOf.{pieces_of}
use Rattle.prem_wcet.specs.EdgesOf.{edge_of}
use Rattle.prem_wcet.specs.PartsOf.{part_of, parts_of}
use Rattle.prem_wcet.specs.SceneOf.{scene_in}
use Rattle.prem_wcet.proofs.PartRows.{count}
use Rattle.prem_profile.specs.Bound.Memory.{calls_of, from_last, stubs_in}
use Rattle.prem_profile.specs.Bound.Priced.{bills_in}
use Rattle.prem_profile.proofs.BillLemmas.Cut.{IsClosed}
use Rattle.prem_profile.proofs.bound.parted.+parted.Given as goal

abbrev pub decreases-cut_choice : goal.decreases-cut_choice
decreases-cut_choice l = 4 * (count (parts_of l.taken.now) + count (parts_of l.other.now)) + 3

abbrev pub decreases-cut_turns : goal.decreases-cut_turns
decreases-cut_turns l = 4 * count (parts_of l.body.now) + 3

abbrev pub decreases-cut_part : goal.decreases-cut_part
decreases-cut_part l = 4 * count (part_of l.part.now)

abbrev pub decreases-parted : goal.decreases-parted
decreases-parted l = 4 * count (parts_of l.parts.now) + 1

abbrev pub decreases-alone : goal.decreases-alone
decreases-alone l = 4 * count (parts_of l.parts.now) + 2

abbrev pub decreases-parted-back : goal.decreases-parted-back
decreases-parted-back l = l.n

-- the statements that are billed
abbrev pub invariant-parted-back : goal.invariant-parted-back
invariant-parted-back l =
    IsClosed (scene_in l.scene) (stubs_in l.scene l.task) (calls_of l.known) (edge_of l.last) l.parts (l.at + size_of (pieces_of l.before.pieces.now)) l.n l.place l.until (edge_of l.edge) (from_last (bills_in l.behind.items))
