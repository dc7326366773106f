use Rattle.std.proofs.Common.{◌≡◌, ◌+◌, ◌*◌, drop}
use Rattle.prem_wcet.specs.Once.{with_code, with_touched}
use Rattle.prem_wcet.specs.PartsOf.{part_of, parts_of}
use Rattle.prem_wcet.specs.SceneOf.{scene_in}
use Rattle.prem_wcet.proofs.PartRows.{count}
use Rattle.prem_wcet.proofs.scene.+ranges.Given as goal

abbrev pub decreases-add_part : goal.decreases-add_part
decreases-add_part l = 2 * count (part_of l.part.now)

abbrev pub decreases-add_parts : goal.decreases-add_parts
decreases-add_parts l = 2 * count (parts_of l.parts.now) + 1

-- what is there, and the rest
abbrev pub invariant-add_parts-loop-part : goal.invariant-add_parts-loop-part
invariant-add_parts-loop-part l =
    record {
      code : with_code (scene_in l.scene) l.ranges.code.items (parts_of (drop l.part-index l.parts)) ≡ with_code (scene_in l.scene) l.fn.ranges.code.items (parts_of l.parts);
      touched : with_touched (scene_in l.scene) l.ranges.touched.items (parts_of (drop l.part-index l.parts)) ≡ with_touched (scene_in l.scene) l.fn.ranges.touched.items (parts_of l.parts);
    }
