use Rattle.std.proofs.Common.{◌≡◌, drop}
use Rattle.prem_wcet.specs.Once.{with_names}
use Rattle.prem_wcet.specs.SceneOf.{scene_in}
use Rattle.prem_wcet.proofs.scene.add_names.Given as goal

-- what is there, and the rest
abbrev pub invariant-loop-g : goal.invariant-loop-g
invariant-loop-g l = with_names (scene_in l.scene) l.ranges.items (drop l.g-index l.names) ≡ with_names (scene_in l.scene) l.fn.ranges.items l.names
