use Rattle.std.proofs.Common.{◌≡◌, ◌+◌, ◌*◌, ◌^◌, ◌≤◌, drop}
use Rattle.prem_bounds.specs.Scale.{clipped}
use Rattle.prem_wcet.specs.Fitting.{FitsAt}
use Rattle.prem_wcet.specs.Outlines.{apart_in}
use Rattle.prem_wcet.specs.PartsOf.{part_of, parts_of}
use Rattle.prem_wcet.specs.SceneOf.{scene_in}
use Rattle.prem_wcet.proofs.PartRows.{count}
use Rattle.prem_wcet.proofs.least.+least.Given as goal

abbrev pub decreases-by_choice : goal.decreases-by_choice
decreases-by_choice l = 4 * (count (parts_of l.taken.now) + count (parts_of l.other.now)) + 3

abbrev pub decreases-by_turns : goal.decreases-by_turns
decreases-by_turns l = 4 * count (parts_of l.body.now) + 3

abbrev pub decreases-by_parts : goal.decreases-by_parts
decreases-by_parts l = 4 * count (part_of l.part.now)

abbrev pub decreases-apart : goal.decreases-apart
decreases-apart l = 4 * count (parts_of l.parts.now) + 1

abbrev pub decreases-least : goal.decreases-least
decreases-least l = 4 * count (parts_of l.parts.now) + 2

-- what is summed, and the charges of the rest, which stands behind it
abbrev pub invariant-apart-loop-n : goal.invariant-apart-loop-n
invariant-apart-loop-n l =
    record {
      rest : clipped (l.sum + apart_in (scene_in l.scene) l.place (parts_of (drop l.n l.parts))) ≡ clipped (apart_in (scene_in l.scene) l.at (parts_of l.parts));
      small : l.sum ≤ 2 ^ 41;
      fits : FitsAt l.place (parts_of (drop l.n l.parts));
    }
