use Rattle.std.proofs.Common.{◌≡◌, ◌+◌, ◌*◌, drop}
use Rattle.prem_wcet.specs.Outlines.{cut_in}
use Rattle.prem_wcet.specs.PartsOf.{part_of, parts_of}
use Rattle.prem_wcet.specs.SceneOf.{scene_in}
use Rattle.prem_wcet.proofs.PartRows.{count}
use Rattle.prem_wcet.proofs.scene.+cuts.Given as goal

abbrev pub decreases-cuts : goal.decreases-cuts
decreases-cuts l = 2 * count (part_of l.part.now)

abbrev pub decreases-any_cuts : goal.decreases-any_cuts
decreases-any_cuts l = 2 * count (parts_of l.parts.now) + 1

-- the rest has such a call where all have
abbrev pub invariant-any_cuts-loop-part : goal.invariant-any_cuts-loop-part
invariant-any_cuts-loop-part l = cut_in (scene_in l.scene) (parts_of (drop l.part-index l.parts)) ≡ cut_in (scene_in l.scene) (parts_of l.parts)
